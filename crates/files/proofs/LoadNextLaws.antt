-- What `load_next` answers, by what `load_lines` answered. Assumes nothing.
use mathlib.Core.Path.{◌≡◌, refl}
use mathlib.Core.Bool.{true, false}
use mathlib.Core.List.{List}
use Prim.Native.Nat.{ℕ, ◌+◌, ◌-◌, ◌≤◌, ◌<◌}
use native.Mathlib.Omega.{arith}
use lib.ListN.{length, drop, length-drop}
use lib.Seq.{sets}
use Rattle.wire.proofs.Laws.{never}
use Rattle.wire.specs.Write.{part}
use Rattle.table.specs.Memory.{state_of}
use Rattle.stored.specs.declared.Loading.{Loading}
use Rattle.files.specs.declared.Window.{Window}
use Rattle.files.specs.Window.{at, inside}
use Rattle.files.specs.Loading.{longest_stored, Loads, LoadsOn, LoadsAll, Wrong, bad, cut_off, too_long, line_behind, LoadsNone}
use Rattle.files.proofs.WindowLaws.{inside-long, inside-behind}

module _ {buf t t' : List ℕ} {s : Window} {p : Loading} (l : Loads buf t s p t') where
  pub taken-within : s.from + p.taken ≤ s.held
  taken-within = omega (arith, l.lines.within, inside-long l.lies, l.lies.order)

  left_is : length (drop p.taken (inside buf s)) ≡ s.held - (s.from + p.taken)
  left_is = omega (arith, length-drop p.taken (inside buf s), inside-long l.lies)

  abbrev behind : ℕ
  behind = line_behind p.begun (state_of t')

  none : Wrong buf s p → LoadsNone buf t s behind buf t'
  none w = record { chunk = p; line = refl; loads = l; wrong = w; buffer = refl }

  pub is-bad : p.good ≡ false → LoadsNone buf t s behind buf t'
  is-bad g = none (bad g)

  module _ (g : p.good ≡ true) where
    pub no_head : s.ended ≡ true → p.begun ≡ false → LoadsNone buf t s behind buf t'
    no_head e n = none (cut_off g e (λ b _. never (cc)))

    pub no_end : s.ended ≡ true → (s.from + p.taken ≡ s.held → ⊥) → LoadsNone buf t s behind buf t'
    no_end e n = none (cut_off g e (λ _ a. n (omega (arith, inside-long l.lies, l.lies.order))))

    pub no_line : longest_stored < s.held - (s.from + p.taken) → LoadsNone buf t s behind buf t'
    no_line h = none (too_long g (omega (arith, left_is)))

    pub all : s.ended ≡ true → p.begun ≡ true → s.from + p.taken ≡ s.held → LoadsAll buf t s buf t'
    all e b a = record { chunk = p; loads = l; ended = e; begun = b; all = omega (arith, inside-long l.lies); buffer = refl }

    pub on : {buf' : List ℕ} {n : ℕ} → s.ended ≡ false → s.held - (s.from + p.taken) ≤ longest_stored
        → buf' ≡ sets buf 0 (part buf (s.from + p.taken) (s.held - (s.from + p.taken))) → n ≡ s.held - (s.from + p.taken)
        → LoadsOn buf t s (at 0 n p.begun false) buf' t'
    on {n = n} e h b m =
        let z : n ≡ length (drop p.taken (inside buf s)) = omega (arith, left_is) in
        record {
          chunk = p;
          loads = l;
          good = g;
          moves = record { on = e; next = rw z; buffer = rw (← (inside-behind l.lies p.taken p.begun l.lines.within)) b; room = omega (arith, l.long) };
        }
