-- `soundness::is_sound` meets its contract: each test is one of the facts that make the memory sound. Assumes nothing.
use native.Mathlib.Omega.{arith}
use Rattle.std.proofs.Common.{rules}
use Rattle.table.specs.Memory.{count_index}
use Rattle.table.proofs.Lists.{says_no, refuted}
use Rattle.table.proofs.Answers.{header_in}
use Rattle.table.proofs.CheckLaws.{found-order}
use Rattle.soundness.proofs.SoundLaws.{checked, sound-within, sound_rising, sound-order, sound-counts, sound-seconds}
use Rattle.soundness.proofs.is_sound.Goals as goal

pub returns-then-header : goal.returns-then-header
returns-then-header c = says_no (λ s. omega (arith, s.layout.counted, header_in c.args.t.now count_index s.layout.long (omega arith)))

pub returns-then-gt : goal.returns-then-gt
returns-then-gt c = says_no (λ s. search (rules, s.table.last))

pub returns-then-not-seconds_within : goal.returns-then-not-seconds_within
returns-then-not-seconds_within c = says_no (λ s. refuted c.seconds_within.ensures (c.if-not-seconds_within.true) (sound-seconds _ s))

pub returns-then-not-counts_within : goal.returns-then-not-counts_within
returns-then-not-counts_within c = says_no (λ s. refuted c.counts_within.ensures (c.if-not-counts_within.true) (sound-counts _ s))

pub returns-then-not-is_permutation : goal.returns-then-not-is_permutation
returns-then-not-is_permutation c = says_no (λ s. refuted c.is_permutation.ensures (c.if-not-is_permutation.true) s.layout.places)

pub returns-then-not-all_within : goal.returns-then-not-all_within
returns-then-not-all_within c = says_no (λ s. refuted c.all_within.ensures (c.if-not-all_within.true) (sound-within _ s))

pub returns-then-not-rising : goal.returns-then-not-rising
returns-then-not-rising c = says_no (λ s. refuted c.rising.ensures (c.if-not-rising.true) (sound_rising _ s))

pub returns : goal.returns
returns c =
    let t = c.args.t.now in (
      λ d. checked t c.told-t (omega (arith, header_in t count_index c.told-t (omega arith), c.header.ensures, c.if-header.false)) (search (rules, c.last.ensures, c.if-gt.false)) (c.is_permutation.ensures.0 (c.if-not-is_permutation.false))
          (c.all_within.ensures.0 (c.if-not-all_within.false)) (c.rising.ensures.0 (c.if-not-rising.false))
          (found-order t (c.is_permutation.ensures.0 (c.if-not-is_permutation.false)) (c.is_in_order.ensures.0 d)) (c.counts_within.ensures.0 (c.if-not-counts_within.false)) (c.seconds_within.ensures.0 (c.if-not-seconds_within.false))
          (λ i. omega (arith, c.fits-t i)),
      λ s. c.is_in_order.ensures.1 (sound-order t s),
    )
