-- What digits say in a format is the value that is written so. Assumes nothing.
use mathlib.Core.Path.{◌≡◌, refl, sym, ap, ◌∙◌}
use mathlib.Core.List.{List, [], append-nil}
use mathlib.Core.Bool.{Bool, true, false, cond}
use mathlib.Core.Option.{Option, none, some}
use Prim.Native.Nat.{ℕ}
use lib.ListN.{length}
use lib.Seq.{take-length}
use lib.Dec.{eqb}
use borrow.Author.Tests.{eqb-true, eq-eqb}
use Rattle.wire.specs.Codec.{Read, whole, more, refused, Codec, Valid, Bytes, exactly}
use Rattle.wire.proofs.Laws.{Laws, never}
use Rattle.hexadecimal.specs.Hex.{to_hex, from_hex}
use Rattle.hexadecimal.specs.Number.{from_bytes, from_digits}
use Rattle.hexadecimal.proofs.HexLaws.{to-from, from-to}

module _ {A : Type 0} (c : Codec A) (l : Laws c) where
  pub record Says (s : List ℕ) (a : A) : Type 0 where
    pub good : Valid c a
    pub same : s ≡ to_hex (c.enc a)

  taken : (bs : List ℕ) (r : Read A) (a : A) → exactly (length bs) r ≡ some a → r ≡ whole a (length bs)
  taken bs (whole b n) a e = go (eqb n (length bs)) refl e
    where
      go : (t : Bool) → eqb n (length bs) ≡ t → cond t (some b) none ≡ some a → whole b n ≡ whole a (length bs)
      go true p q = cc (eqb-true n (length bs) p)
      go false p q = never (cc)
  taken bs more a e = never (cc)
  taken bs (refused k) a e = never (cc)

  pub bytes_read : (bs : List ℕ) (a : A) → Bytes bs → exactly (length bs) (c.dec bs) ≡ some a → Valid c a × (bs ≡ c.enc a)
  bytes_read bs a b e =
      let x = l.exact bs a (length bs) b (taken bs (c.dec bs) a e) in
      (x.good, sym (take-length bs) ∙ x.same)

  pub digits_read : (s : List ℕ) (a : A) → from_digits c s ≡ some a → Says s a
  unfolding from_digits
  digits_read s a e = go (from_hex s) refl e
    where
      go : (o : Option (List ℕ)) → from_hex s ≡ o → from_bytes c o ≡ some a → Says s a
      go none p q = never (cc)
      go (some bs) p q =
          let h = to-from s bs p in
          let x = bytes_read bs a h.1 q in
          record { good = x.0; same = h.0 ∙ ap to_hex x.1 }

  pub digits_back : (a : A) → Valid c a → from_digits c (to_hex (c.enc a)) ≡ some a
  unfolding from_digits
  digits_back a v =
      let e : c.dec (c.enc a) ≡ whole a (length (c.enc a)) = ap c.dec (sym (append-nil (c.enc a))) ∙ l.round a [] v in
      rw (from-to (c.enc a) (l.spelt a v), e, eq-eqb (length (c.enc a)) (length (c.enc a)) refl)
