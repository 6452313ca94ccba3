-- What an answer of `decode` says of the digits, and of the list that is left. Assumes nothing.
use mathlib.Core.Path.{◌≡◌, refl, sym, ap}
use mathlib.Core.List.{List, ◌++◌}
use mathlib.Core.Bool.{Bool, true, false, cond}
use mathlib.Core.Option.{Option, none, some}
use Prim.Native.Nat.{ℕ, ◌≤◌, ◌<◌}
use native.Mathlib.Omega.{arith}
use lib.ListN.{length, take, drop, length-append}
use lib.Seq.{take_at}
use lib.Dec.{leb}
use borrow.Author.Tests.{leb-false}
use Rattle.hexadecimal.specs.Hex.{from_hex}
use Rattle.hexadecimal.specs.Coding.{decoded_to, decoded}
use Rattle.hexadecimal.specs.declared.DecodeError.{DecodeError}
use Rattle.hexadecimal.specs.declared.DecodeError.TheVariants.{Digits, Room}
use Rattle.std.specs.Prelude.{Result, Ok, Err}

abbrev pub Decodes : List ℕ → Result ℕ DecodeError → List ℕ → Option (List ℕ) → Type 0
Decodes old (Ok n) new o = (o ≡ some (take n new)) × (n ≤ length new)
Decodes old (Err Digits) new o = o ≡ none
Decodes old (Err Room) new o = (bs : List ℕ) × ((o ≡ some bs) × (length old < length bs))

module _ (s old : List ℕ) (r : Result ℕ DecodeError) (new : List ℕ) where
  decodes-some : (bs : List ℕ) (t : Bool) → leb (length bs) (length old) ≡ t
      → ◌≡◌ {A = Result ℕ DecodeError × List ℕ} (r, new) (cond t (Ok (length bs), bs ++ drop (length bs) old) (Err Room, old)) → Decodes old r new (some bs)
  decodes-some bs true l e =
      let p : r ≡ Ok (length bs) = ap (λ (z : Result ℕ DecodeError × List ℕ). z.0) e in
      let q : new ≡ bs ++ drop (length bs) old = ap (λ (z : Result ℕ DecodeError × List ℕ). z.1) e in
      rw (p, q) (ap some (sym (take_at bs _ (length bs) refl)), omega (arith, length-append bs (drop (length bs) old)))
  decodes-some bs false l e =
      let p : r ≡ Err Room = ap (λ (z : Result ℕ DecodeError × List ℕ). z.0) e in
      rw p (bs, (refl, leb-false (length bs) (length old) l))

  pub decodes : (r, new) ≡ decoded s old → Decodes old r new (from_hex s)
  unfolding decoded
  decodes e = go (from_hex s) e
    where
      go : (o : Option (List ℕ)) → (r, new) ≡ decoded_to old o → Decodes old r new o
      go none e = let p : r ≡ Err Digits = ap (λ (z : Result ℕ DecodeError × List ℕ). z.0) e in rw p refl
      go (some bs) e = decodes-some bs (leb (length bs) (length old)) refl e
