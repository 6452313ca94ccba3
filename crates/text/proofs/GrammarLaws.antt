-- `is_text` tells the grammar's texts from all else. Assumes nothing.
use mathlib.Core.Path.{◌≡◌, refl, sym, ap, subst, ◌∙◌}
use mathlib.Core.List.{List, [], ◌∷◌, ◌++◌}
use mathlib.Core.Bool.{Bool, true, false, cond}
use Prim.Native.Nat.{ℕ, zero, suc, ◌-◌, ◌≤◌}
use native.Mathlib.Omega.{arith}
use lib.ListN.{length, length-append}
use lib.Dec.{ltb, eqb-suc-zero}
use borrow.Author.Tests.{le-ltb, ltb-false}
use Rattle.wire.proofs.Laws.{never}
use Rattle.std.specs.Prelude.{Option, Some, None}
use Rattle.text.specs.declared.Pending.{Pending}
use Rattle.text.specs.Text.{pending, lead_of, step_of, text_after, is_text}
use Rattle.text.specs.Grammar.{Tail, none, next, Text, end, char}

one_less : (n : ℕ) → suc n - 1 ≡ n
one_less n = omega arith

-- between two characters the bounds say nothing
between : (l h : ℕ) (s : List ℕ) → text_after (Some (pending 0 l h)) s ≡ is_text s
unfolding is_text text_after step_of
between l h [] = refl
between l h (b ∷ s) = refl

first_step : (b : ℕ) (s : List ℕ) → is_text (b ∷ s) ≡ text_after (lead_of b) s
unfolding is_text text_after step_of
first_step b s = refl

tail_step : (n l h b : ℕ) (s : List ℕ) → l ≤ b → b ≤ h → text_after (Some (pending (suc n) l h)) (b ∷ s) ≡ text_after (Some (pending n 0x80 0xbf)) s
unfolding text_after step_of
tail_step n l h b s p q = rw (eqb-suc-zero n, le-ltb b l p, le-ltb h b q, one_less n)

through : {n l h : ℕ} {t : List ℕ} → Tail n l h t → (s : List ℕ) → text_after (Some (pending n l h)) (t ++ s) ≡ is_text s
through {l = l} {h = h} none s = between l h s
through {n = suc n} {l = l} {h = h} {t = b ∷ t} (next p q r) s = tail_step n l h b (t ++ s) p q ∙ through r s

pub text-is : {s : List ℕ} → Text s → is_text s ≡ true
unfolding is_text text_after
text-is end = refl
text-is (char {b = b} {t = t} {s = s} e r x) = first_step b (t ++ s) ∙ rw e (through r s) ∙ text-is x

-- never is never
pub lost : (s : List ℕ) → text_after None s ≡ false
unfolding text_after step_of
lost [] = refl
lost (b ∷ s) = lost s

record Parted (n l h : ℕ) (s : List ℕ) : Type 0 where
  tail : List ℕ
  rest : List ℕ
  same : s ≡ tail ++ rest
  right : Tail n l h tail
  text : is_text rest ≡ true

spared : (t : Bool) (x : Option Pending) (s : List ℕ) → text_after (cond t None x) s ≡ true → (t ≡ false) × (text_after x s ≡ true)
spared true x s e = (let z = sym (lost s) ∙ e in never (cc))
spared false x s e = (refl, e)

parted : (n l h : ℕ) (s : List ℕ) → text_after (Some (pending n l h)) s ≡ true → Parted n l h s
unfolding text_after step_of
parted zero l h s e = record { tail = []; rest = s; same = refl; right = none; text = sym (between l h s) ∙ e }
parted (suc n) l h [] e = (let z = sym (eqb-suc-zero n) ∙ e in never (cc))
parted (suc n) l h (b ∷ s) e =
    let p = spared (ltb b l) (cond (ltb h b) None (Some (pending (suc n - 1) 0x80 0xbf))) s (rw (eqb-suc-zero n) at e) in
    let q = spared (ltb h b) (Some (pending (suc n - 1) 0x80 0xbf)) s p.1 in
    let x = parted n 0x80 0xbf s (rw one_less at q.1) in
    record {
      tail = b ∷ x.tail;
      rest = x.rest;
      same = ap (λ (r : List ℕ). b ∷ r) x.same;
      right = next (ltb-false b l p.0) (ltb-false h b q.0) x.right;
      text = x.text;
    }

texts : (k : ℕ) (s : List ℕ) → length s ≤ k → is_text s ≡ true → Text s
texts zero [] h e = end
texts zero (b ∷ s) h e = absurd (omega arith)
texts (suc k) [] h e = end
texts (suc k) (b ∷ s) h e = go (lead_of b) refl (first_step b s) (λ r. texts k r)
  where
    go : (w : Option Pending) → lead_of b ≡ w → is_text (b ∷ s) ≡ text_after (lead_of b) s → ((r : List ℕ) → length r ≤ k → is_text r ≡ true → Text r) → Text (b ∷ s)
    go None f g ih = (let z : is_text (b ∷ s) ≡ false = g ∙ rw f (lost s) in never (cc))
    go (Some w) f g ih =
        let x = parted w.count w.low w.high s (sym (ap (λ (w : Option Pending). text_after w s) f) ∙ sym g ∙ e) in
        let j : length s ≡ length (x.tail ++ x.rest) = ap length x.same in
        let t = char f x.right (ih x.rest (omega (arith, simp length-append at j)) x.text) in
        subst (λ (r : List ℕ). Text (b ∷ r)) (sym x.same) t

pub is-text : (s : List ℕ) → is_text s ≡ true → Text s
is-text s e = texts (length s) s (omega arith) e
