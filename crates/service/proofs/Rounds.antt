-- Rounds are one run of the simple map, and each connection's requests stand in it in their order. Assumes nothing.
use mathlib.Core.Path.{◌≡◌, refl, sym, ap, ap₂, ◌∙◌}
use mathlib.Core.List.{List, [], ◌∷◌, ◌++◌, map, append_assoc}
use mathlib.Core.Bool.{false}
use Prim.Native.Nat.{ℕ, ◌+◌, ◌-◌, ◌≤◌, ◌<◌, zero-le}
use native.Mathlib.Omega.{arith}
use lib.ListN.{length, take, drop, get_or, length-drop, length-append}
use lib.Seq.{take-add, take-append-le, drop-append-le}
use Rattle.wire.specs.Codec.{Bytes}
use Rattle.message.specs.Request.{Request, request}
use Rattle.message.specs.Written.{written, WellFormed}
use Rattle.map.specs.State.{State}
use Rattle.map.specs.History.{counts_held, most_count}
use Rattle.map.specs.Step.{Context, Taken, run}
use Rattle.map.specs.Counted.{number, ends, at_most}
use Rattle.map.specs.Expiry.{greatest, first_served}
use Rattle.map.proofs.CountLaws.{counts-run}
use Rattle.map.proofs.Expiry.{latest-run, first_run}
use Rattle.table.specs.Memory.{state_of, Sound}
use Rattle.service.specs.Serve.{room}
use Rattle.service.specs.Many.{Total, Streams}
use Rattle.service.specs.Shares.{no_more, share, table_behind}
use Rattle.service.specs.Linear.{joined, Passed, passed_request, steps, timed, AllGet, one, Linear}
use Rattle.service.specs.Rounds.{Round, Rounds, no_rounds, round, AllFit, table_after, steps_of_all, timed_of_all, EachGets, no_more-rounds, in_round, LinearRounds, In, here, there, Connection, over, elsewhere, serves, TakenInOrder}
use Rattle.service.proofs.Linear.{runs_join, ends_on, linear, stays-sound}

-- What all connections get in all rounds is what the simple map gives for one list of requests.
pub linear-rounds : (table : List ℕ) (rs : List Round) (tss : List (List Total)) → Sound table → AllFit rs → Rounds table rs tss → LinearRounds table rs tss
unfolding run ends table_after steps_of_all timed_of_all
linear-rounds table [] [] s f no_rounds = record { passed = []; each = no_more-rounds; one-run = refl; state = refl }
linear-rounds table (r ∷ rs) (ts ∷ tss) s f (round x xs) =
    let g = f.0 in
    let p = linear r.context g.second r.inputs table r.lent ts g.bytes s g.least x in
    let q = linear-rounds (table_behind table ts) rs tss (stays-sound r.context g.second r.inputs table r.lent ts g.bytes s g.least x) f.1 xs in
    let us = steps (joined p.passed) in
    let vs = steps_of_all q.passed in
    record {
      passed = p.passed ∷ q.passed;
      each = in_round p.each q.each;
      one-run = runs_join (map (timed r.context) us) (timed_of_all rs q.passed) us vs (state_of table) p.one-run
          (ap (run (timed_of_all rs q.passed)) (sym p.state) ∙ q.one-run);
      state = q.state ∙ (ap (λ (u : State). ends u vs) p.state ∙ sym (ends_on us vs (state_of table)));
    }
linear-rounds table [] (ts ∷ tss) s f x6 = elim x6 [ ]
linear-rounds table (r ∷ rs) [] s f x5 = elim x5 [ ]

-- The counts and the seconds that rounds leave are those of the run.
module _ {table : List ℕ} {rs : List Round} {tss : List (List Total)} (x : LinearRounds table rs tss) where
  abbrev given : List (Context × Request)
  given = timed_of_all rs x.passed

  abbrev left : State
  left = state_of (table_after table tss)

  left_is : left ≡ ends (state_of table) (run given (state_of table))
  left_is = x.state ∙ ap (ends (state_of table)) (sym x.one-run)

  pub rounds-count : (i : ℕ) → i < counts_held → Sound table
      → get_or left.history.counts i 0 ≡ at_most most_count (get_or (state_of table).history.counts i 0 + number i (state_of table) (steps_of_all x.passed))
  rounds-count i l s =
      ap (λ (st : State). get_or st.history.counts i 0) left_is ∙ (counts-run i l given (state_of table) s.table.counts
      ∙ ap (λ (ys : List Taken). at_most most_count (get_or (state_of table).history.counts i 0 + number i (state_of table) ys)) x.one-run)

  pub rounds-latest : left.history.latest ≡ greatest (state_of table).history.latest given (steps_of_all x.passed)
  rounds-latest =
      ap (λ (st : State). st.history.latest) left_is ∙ (latest-run given (state_of table) ∙ ap (greatest (state_of table).history.latest given) x.one-run)

  pub rounds-first : left.history.first ≡ first_served (state_of table).history.first given (steps_of_all x.passed)
  rounds-first =
      ap (λ (st : State). st.history.first) left_is ∙ (first_run given (state_of table) ∙ ap (first_served (state_of table).history.first given) x.one-run)

-- what a connection gets that stands somewhere among those of a round
gets_in : {space : ℕ} {input : List ℕ} {t : Total} {ps : List Passed} {left : ℕ} {is : List (List ℕ)} {ts : List Total} {pss : List (List Passed)} → In input t ps is ts pss
    → AllGet space left is ts pss → (t.taken ≤ length input) × (take t.taken input ≡ written (map passed_request ps)) × WellFormed (map passed_request ps)
gets_in here (one g gs) = (g.within, g.took, g.well)
gets_in {space = space} {input = input} {t = t} {ps = ps} {left = left'} (there {i = i'} {is = is} {u = u} {ts = ts} {qs = qs} {pss = pss} i) (one g gs) = gets_in {left = left' - u.size} i gs

written_on : (ps qs : List Passed) → written (map passed_request (ps ++ qs)) ≡ written (map passed_request ps) ++ written (map passed_request qs)
unfolding written
written_on [] qs = refl
written_on (p ∷ ps) qs =
    let e = request.enc (passed_request p) in
    ap (◌++◌ e) (written_on ps qs) ∙ sym (append_assoc e (written (map passed_request ps)) (written (map passed_request qs)))

well-on : (ps qs : List Passed) → WellFormed (map passed_request ps) → WellFormed (map passed_request qs) → WellFormed (map passed_request (ps ++ qs))
well-on [] qs v w = w
well-on (p ∷ ps) qs v w = (v.0, well-on ps qs v.1 w)

-- However the bytes of a connection are cut between rounds, its requests are those that stand at the front of its row.
pub in_order : {rest : List ℕ} {chunks : List (List ℕ)} {rs : List Round} {tss : List (List Total)} {psss : List (List (List Passed))} {n : ℕ} {ps : List Passed}
    → EachGets rs tss psss → Connection rest chunks rs tss psss n ps → TakenInOrder (rest ++ joined chunks) n ps
unfolding written joined
in_order no_more-rounds over = record { within = zero-le; took = refl; well = tt }
in_order (in_round g gs) (elsewhere x) = in_order gs x
in_order (in_round g gs) (serves {rest = rest} {chunk = chunk} {chunks = chunks} {t = t} {ps = ps} {n = n} {qs = qs} i x) =
    let a = gets_in i g in
    let row = rest ++ chunk in
    let b = in_order {rest = drop t.taken (rest ++ chunk)} gs x in
    let e : rest ++ (chunk ++ joined chunks) ≡ row ++ joined chunks = sym (append_assoc rest chunk (joined chunks)) in
    let d = drop-append-le t.taken row (joined chunks) a.0 in
    let k = take-append-le t.taken row (joined chunks) a.0 in
    let m = ap length d in
    record {
      within = rw e (omega (arith, a.0, b.within, m, length-drop t.taken (row ++ joined chunks), length-append row (joined chunks)));
      took = ap (take (t.taken + n)) e ∙ (take-add t.taken n (row ++ joined chunks) ∙ (ap₂ ◌++◌ (k ∙ a.1) (ap (take n) d ∙ b.took) ∙ sym (written_on ps qs)));
      well = well-on ps qs a.2 b.well;
    }

-- one stream
pub stream-linear : (c : Context) → c.second < 0x1_0000_0000 → (input table lent : List ℕ) (t : Total) → Bytes input → Sound table → room ≤ length lent
    → Streams c false input table lent t → Linear c (length lent) (input ∷ []) table (t ∷ [])
stream-linear c l input table lent t b s h x = linear c l (input ∷ []) table lent (t ∷ []) (b, tt) s h (share x no_more)
