-- What a call on a sound table takes and sends, by its room. Assumes nothing.
use mathlib.Core.Path.{◌≡◌, refl}
use mathlib.Core.List.{List, [], append-nil}
use mathlib.Core.Bool.{Bool, true, false, cond}
use mathlib.Core.Option.{none, some}
use mathlib.Core.Logic.{⊎_elim}
use Prim.Native.Nat.{ℕ, ◌≤◌, ◌<◌, zero-le}
use native.Mathlib.Omega.{arith}
use lib.ListN.{length}
use lib.Dec.{eqb, leb, ltb}
use borrow.Author.Tests.{le-ltb, ne_eqb, eqb-true, leb-true}
use Rattle.wire.specs.Codec as wire
use Rattle.wire.specs.Codec.{Read, Valid, Bytes}
use Rattle.wire.proofs.Laws.{never}
use Rattle.message.specs.declared.Operation.{Operation}
use Rattle.message.specs.Arguments.{is_empty}
use Rattle.message.specs.Request.{Request, request}
use Rattle.message.specs.Reply.{error_reply, longest_reply}
use Rattle.message.specs.Refusal.{refusal}
use Rattle.message.proofs.RequestLaws.{request_laws}
use Rattle.message.proofs.Sizes.{request-small}
use Rattle.message.proofs.Refusals.{refusals}
use Rattle.message.proofs.Every.{every}
use Rattle.message.proofs.ReplySize.{error-most}
use Rattle.message.proofs.ErrorLaws.{refusal-good}
use Rattle.message.specs.Start.{id_in}
use Rattle.map.specs.State.{State}
use Rattle.map.specs.Table.{IsTable}
use Rattle.map.specs.Step as map-step
use Rattle.map.specs.Plan.{Change, keep, store, drop, empty}
use Rattle.map.specs.Step.{Context, Outcome, answered, last_version, full, planned, result, act, core, arrive, step}
use Rattle.map.specs.Reply.{flat, pieces}
use Rattle.map.proofs.Answered.{did}
use Rattle.map.proofs.Counting.{arrive-table}
use Rattle.map.proofs.Format.{result-most}
use Rattle.table.proofs.Lists.{lt-or_ge}
use Rattle.table.specs.Memory.{state_of, Sound}
use Rattle.service.specs.Serve.{Effect, error_pieces, unchanged, on_step, on_read, serve, room, bulk_room, room_of, within}
use Rattle.service.specs.Stream.{Call, Done, Becomes, Serves}
use Rattle.service.specs.Many.{is_short}
use Rattle.service.proofs.Sounds.{sound-is, effect_in, does_in}
use Rattle.service.proofs.Calls.{room_most, within-fits, within-short, roomy-within}

-- a step is refused by 9, 10 or 11
abbrev pub Late : Outcome → Type 0
Late (map-step.refused k) = (9 ≤ k) × (k ≤ 11)
Late (answered a st) = Unit {0}

late_cond : (t : Bool) (x y : Outcome) → Late x → Late y → Late (cond t x y)
late_cond true x y h g = h
late_cond false x y h g = g

late-act : (r : Request) (st : State) (a : map-step.Result) (d : Change) → Late (act r st a d)
unfolding act
late-act r st a keep = tt
late-act r st a drop = tt
late-act r st a empty = tt
late-act r st a store = late_cond (full r st) _ _ (omega arith) (late_cond (ltb st.last last_version) _ _ tt (omega arith))

pub late : (c : Context) (r : Request) (st : State) → Late (step c r st)
unfolding step core
late c r st =
    let x = arrive c r st in
    late_cond (is_empty r.name) _ _ (late-act r x (result c r x) (planned r x).change) (omega arith)

-- the longest reply to an operation fits the room that its requests ask for
pub reply-room : (o : Operation) → longest_reply o ≤ room_of o
unfolding room_of
reply-room o = leb-true (longest_reply o) (room_of o) (every (λ o. leb (longest_reply o) (room_of o)) refl o)

-- so every reply fits the room of its request
pub answer-fits : (c : Context) (r : Request) (st : State) (a : map-step.Result) (t : State) → Valid request r → IsTable st → c.second < 0x1_0000_0000
    → step c r st ≡ answered a t → length (flat (pieces r a)) ≤ room_of r.op
answer-fits c r st a t v s h e =
    rw (did c r st a t e).same (omega (arith, result-most c r (arrive c r st) v (arrive-table c r st h s) h, reply-room r.op))

-- and the room that a line has for it
pub answer-longest : (c : Context) (r : Request) (st : State) (a : map-step.Result) (t : State) → Valid request r → IsTable st → c.second < 0x1_0000_0000
    → step c r st ≡ answered a t → length (flat (pieces r a)) ≤ bulk_room
answer-longest c r st a t v s h e = omega (arith, answer-fits c r st a t v s h e, room_most r.op)

-- an error reply has at most 279 bytes
pub error-size : (k id : ℕ) → 1 ≤ k → k ≤ 11 → id < 0x8000_0000_0000_0000 → length (flat (error_pieces k id)) ≤ 279
unfolding flat
error-size k id l h i =
    rw (append-nil (error_reply.enc (refusal k id))) (omega (arith, error-most (refusal k id) (refusal-good k id l h i)))

-- space: the length of the reply buffer
pub record Facts (input : List ℕ) (space : ℕ) (e : Effect) : Type 0 where
  pub within : e.answer.taken ≤ length input
  pub size : length (flat e.sent) ≤ space
  -- a call refused 12 sends nothing and changes nothing
  pub short : is_short e.answer.verdict ≡ true → (e.sent ≡ []) × (e.next ≡ none)

not_short : {P : Type 0} (k : ℕ) → k ≤ 11 → eqb k 12 ≡ true → P
not_short k h e = absurd (omega (arith, eqb-true k 12 e))

module _ (input : List ℕ) (b : Bytes input) (small : id_in input < 0x8000_0000_0000_0000) (c : Context) (l : c.second < 0x1_0000_0000) (st : State)
    (s : IsTable st) (space : ℕ) (h : room ≤ space) where
  facts-step : (r : Request) (n : ℕ) → request.dec input ≡ wire.whole r n → room_of r.op ≤ space → (o : Outcome) → step c r st ≡ o → Late o
      → Facts input space (on_step r n o)
  unfolding on_step
  facts-step r n e f (map-step.refused k) q g =
      let v = (request_laws.exact input r n b e).good in
      record {
        within = request_laws.spans input r n e;
        size = omega (arith, error-size k r.id (omega (arith, g.0)) g.1 (request-small r v).id);
        short = not_short k g.1;
      }
  facts-step r n e f (answered a t) q g =
      let v = (request_laws.exact input r n b e).good in
      record {
        within = request_laws.spans input r n e;
        size = omega (arith, answer-fits c r st a t v s l q);
        short = λ z. never (cc);
      }

  facts-read : (x : Read Request) → request.dec input ≡ x → Facts input space (within space x (on_read input c st x))
  unfolding within on_read unchanged flat
  facts-read (wire.whole r n) e = ⊎_elim short fits (lt-or_ge space (room_of r.op))
    where
      short : space < room_of r.op → Facts input space (within space (wire.whole r n) (on_step r n (step c r st)))
      short q =
          rw (within-short space r n (on_step r n (step c r st)) q)
          (record { within = request_laws.spans input r n e; size = zero-le; short = λ z. (refl, refl) })

      fits : room_of r.op ≤ space → Facts input space (within space (wire.whole r n) (on_step r n (step c r st)))
      fits q = rw (within-fits space r n (on_step r n (step c r st)) q) (facts-step r n e q (step c r st) refl (late c r st))
  facts-read wire.more e = record { within = zero-le; size = zero-le; short = λ z. never (cc) }
  facts-read (wire.refused k) e =
      let l = refusals input k e in
      record {
        within = zero-le;
        size = omega (arith, error-size k (id_in input) l.0 (omega (arith, l.1)) small);
        short = not_short k (omega (arith, l.1));
      }

-- of a call
pub facts : (input : List ℕ) → Bytes input → id_in input < 0x8000_0000_0000_0000 → (t : List ℕ) (c : Call) (d : Done) → c.context.second < 0x1_0000_0000 → Sound t
    → room ≤ length c.buffer → Serves input t c d → Facts input (length c.buffer) (effect_in input t c)
unfolding serve
facts input b i t c d l s h x =
    rw (le-ltb (length c.buffer) room h, sound-is t s)
    (facts-read input b i c.context l (state_of t) s.table (length c.buffer) h (request.dec input) refl)

-- No call that a line makes is refused 12: with the room that a line has, it is what is read that decides, and nothing that is read is refused 12.
module _ (input : List ℕ) (c : Context) (st : State) where
  pub roomy-serve : (space : ℕ) → bulk_room ≤ space → serve input true st c space ≡ on_read input c st (request.dec input)
  unfolding serve
  roomy-serve space h =
      rw (le-ltb space room (omega arith), roomy-within space (request.dec input) (on_read input c st (request.dec input)) h)

  pub step-roomy : (r : Request) (n : ℕ) (o : Outcome) → Late o → is_short (on_step r n o).answer.verdict ≡ false
  unfolding on_step
  step-roomy r n (map-step.refused k) g = ne_eqb k 12 (λ q. omega (arith, g.1))
  step-roomy r n (answered a t) g = refl

  read-roomy : (x : Read Request) → request.dec input ≡ x → is_short (on_read input c st x).answer.verdict ≡ false
  unfolding on_read unchanged
  read-roomy (wire.whole r n) e = step-roomy r n (step c r st) (late c r st)
  read-roomy wire.more e = refl
  read-roomy (wire.refused k) e = ne_eqb k 12 (λ q. omega (arith, (refusals input k e).1))

  pub never-short : is_short (on_read input c st (request.dec input)).answer.verdict ≡ false
  never-short = read-roomy (request.dec input) refl

-- a sound table stays sound
pub stays-sound : (input t : List ℕ) (c : Call) (d : Done) → Sound t → Serves input t c d → Sound d.table
stays-sound input t c d s x = go (effect_in input t c).next (does_in x).table
  where
    go : (n : _) → Becomes t n d.table → Sound d.table
    go none e = rw e s
    go (some st) e = e.1
