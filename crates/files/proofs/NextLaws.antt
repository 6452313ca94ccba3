-- What `serve_next` answers, by what `serve_lines` answered. Assumes nothing.
use mathlib.Core.Path.{◌≡◌, refl, sym, ap, ◌∙◌}
use mathlib.Core.Logic.{inl, inr}
use mathlib.Core.Bool.{Bool, true, false}
use mathlib.Core.List.{List, []}
use Prim.Native.Nat.{ℕ, ◌+◌, ◌-◌, ◌≤◌, ◌<◌}
use native.Mathlib.Omega.{arith}
use lib.ListN.{length, drop, length-drop}
use lib.Seq.{sets}
use lib.Dec.{ltb}
use borrow.Author.Tests.{ltb-true, ltb-false}
use Rattle.wire.proofs.Laws.{never}
use Rattle.hexadecimal.proofs.HexLaws.{length_none}
use Rattle.service.specs.Line.{longest, state_left}
use Rattle.service.specs.Turns.{line_room}
use Rattle.server.specs.Lines.{Checked, Unserved, fed_of, TurnsDone, ServesLines}
use Rattle.server.specs.declared.Fed.{Fed}
use Rattle.std.specs.Prelude as std
use Rattle.field.specs.declared.refusals.Refusal.{Refusal}
use Rattle.field.specs.declared.refusals.Refusal.TheVariants as refusal
use Rattle.wire.specs.Write.{part}
use Rattle.table.specs.Memory.{state_of, Sound}
use Rattle.table.specs.Found.{Tells}
use Rattle.table.proofs.Lists.{refuted}
use Rattle.files.specs.declared.Window.{Window}
use Rattle.files.specs.Window.{at, inside, Lies}
use Rattle.files.specs.Serving.{Ready, Serves, Writes, Reads, Ends, Refuses}
use Rattle.files.proofs.TurnsLaws.{turns-within, turns-end, rest-short}
use Rattle.files.proofs.WindowLaws.{inside-long, inside-behind}

-- `serve_lines` was called with the bytes in the window
pub record Called (buf t out : List ℕ) (s : Window) (r : std.Result Fed Refusal) (out' t' : List ℕ) : Type 0 where
  pub lies : Lies buf s
  pub long : longest < length buf
  pub lines : ServesLines s.ended s.carried (inside buf s) t out r out' t'

module _ {buf t out out' t' : List ℕ} {s : Window} {r : std.Result Fed Refusal} (g : Called buf t out s r out' t') where
  -- the cases of its answer
  cases : {A : Type 0} (still : (k : Refusal) → Unserved (std.Err k) r out t out' t' → Refuses buf t out s k buf t' out' → A)
      → (Ready buf t out s → TurnsDone s.ended s.carried (inside buf s) t out r out' t' → A) → A
  cases {A} still ready = go (ltb (length out) line_room) g.lines.ok refl g.lines.tells g.lines.checked
    where
      go : (x y : Bool) → ltb (length out) line_room ≡ x → Tells y (Sound t)
          → Checked x y (λ k. Unserved (std.Err k) r out t out' t') (TurnsDone s.ended s.carried (inside buf s) t out r out' t') → A
      go true y e q u =
          still refusal.Room u (record { why = inl (refl, inr (ltb-true (length out) line_room e)); lies = g.lies; same = record { buffer = refl; table = u.table; list = u.list } })
      go false false e q u =
          still refusal.Table u
          (record { why = inr (refl, g.long, ltb-false (length out) line_room e, refuted q refl); lies = g.lies; same = record { buffer = refl; table = u.table; list = u.list } })
      go false true e q u = ready (record { lies = g.lies; long = g.long; room = ltb-false (length out) line_room e; sound = q.0 refl }) u

  pub refuses : (k : Refusal) → r ≡ std.Err k → Refuses buf t out s k buf t' out'
  refuses k e =
      cases (λ n u x. let z : n ≡ k = cc (e, u.refused) in rw z at x) (λ _ u. never (cc (e, u.answer)))

  pub serving : (f : Fed) → r ≡ std.Ok f → Ready buf t out s × TurnsDone s.ended s.carried (inside buf s) t out (std.Ok f) out' t'
  serving f e = cases (λ n u x. never (cc (e, u.refused))) (λ y u. (y, rw e at u))

module _ {buf t out out' t' : List ℕ} {s : Window} {f : Fed} (r : Ready buf t out s) (u : TurnsDone s.ended s.carried (inside buf s) t out (std.Ok f) out' t') where
  is : f ≡ fed_of u.turn
  is = cc u.answer

  taken_is : f.taken ≡ u.turn.taken
  taken_is = ap (λ (f : Fed). f.taken) is

  size_is : f.size ≡ length u.turn.text
  size_is = ap (λ (f : Fed). f.size) is

  passing-is : f.passing ≡ u.turn.passing
  passing-is = ap (λ (f : Fed). f.passing) is

  serves : Serves buf t out s u.turn t'
  serves = record { ready = r; turns = u.turns; table = u.table }

  pub taken-within : s.from + f.taken ≤ s.held
  taken-within = omega (arith, turns-within u.turns, inside-long r.lies, r.lies.order, taken_is)

  pub writes : (f.size ≡ 0 → ⊥) → Writes buf t out s f.size (at (s.from + f.taken) s.held f.passing s.ended) buf t' out'
  writes n =
      record {
        turn = u.turn;
        serves = serves;
        some = omega arith;
        fits = omega (arith, size_is, u.fits);
        size = size_is;
        list = u.list;
        next = rw (taken_is, passing-is);
        buffer = refl;
      }

  module _ (e : f.size ≡ 0) where
    quiet : u.turn.text ≡ []
    quiet = length_none u.turn.text (sym size_is ∙ e)

    same-list : out' ≡ out
    same-list = u.list ∙ rw quiet

    pub ends : s.ended ≡ true → Ends buf t out s buf t' out'
    ends h = record { turn = u.turn; serves = serves; ended = h; quiet = quiet; buffer = refl; list = same-list }

    pub reads : {buf' : List ℕ} {n : ℕ} → s.ended ≡ false → buf' ≡ sets buf 0 (part buf (s.from + f.taken) (s.held - (s.from + f.taken)))
        → n ≡ s.held - (s.from + f.taken) → Reads buf t out s (at 0 n f.passing false) buf' t' out'
    reads {n = n} h b m =
        let left : List ℕ = drop u.turn.taken (inside buf s) in
        let l : n ≡ length left = omega (arith, length-drop u.turn.taken (inside buf s), inside-long r.lies, taken_is) in
        let k : part buf (s.from + f.taken) (s.held - (s.from + f.taken)) ≡ left =
        rw taken_is (inside-behind r.lies u.turn.taken u.turn.passing (turns-within u.turns)) in
        let v = rest-short u.turn.passing left (state_left (state_of t) u.turn.next) (rw h at (turns-end u.turns r.room (ap length quiet))) in
        record {
          turn = u.turn;
          serves = serves;
          quiet = quiet;
          moves = record { on = h; next = rw (l, passing-is); buffer = b ∙ rw k; room = omega (arith, r.long) };
          list = same-list;
        }
