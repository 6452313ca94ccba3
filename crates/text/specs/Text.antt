-- Well-formed UTF-8, after the table of RFC 3629, section 4.
use Rattle.std.specs.Prelude.{List, [], ◌∷◌, Bool, false, cond, ℕ, ◌-◌, leb, ltb, eqb, Option, Some, None}
use Rattle.text.specs.declared.Pending.{Pending}

-- a line of the table: the first bytes from .. upto are followed by `count` bytes, the first of which is low .. high and the others 80 .. bf
pub record Range : Type 0 where
  pub from : ℕ
  pub upto : ℕ
  pub count : ℕ
  pub low : ℕ
  pub high : ℕ

abbrev pub range : ℕ → ℕ → ℕ → ℕ → ℕ → Range
range f u c l h = record { from = f; upto = u; count = c; low = l; high = h }

unfoldable pub table : List Range
table =
    range 0x00 0x7f 0 0x80 0xbf
    ∷ range 0xc2 0xdf 1 0x80 0xbf
    ∷ range 0xe0 0xe0 2 0xa0 0xbf
    ∷ range 0xe1 0xec 2 0x80 0xbf
    ∷ range 0xed 0xed 2 0x80 0x9f
    ∷ range 0xee 0xef 2 0x80 0xbf
    ∷ range 0xf0 0xf0 3 0x90 0xbf
    ∷ range 0xf1 0xf3 3 0x80 0xbf
    ∷ range 0xf4 0xf4 3 0x80 0x8f
    ∷ []

-- so many more bytes, the next of them from low to high
abbrev pub pending : ℕ → ℕ → ℕ → Pending
pending n l h = record { count = n; low = l; high = h }

unfoldable pub range_of : List Range → ℕ → Option Pending
range_of [] b = None
range_of (r ∷ rs) b = cond (leb r.from b) (cond (leb b r.upto) (Some (pending r.count r.low r.high)) (range_of rs b)) (range_of rs b)

unfoldable pub lead_of : ℕ → Option Pending
lead_of b = range_of table b

-- what has to follow once a byte has come
unfoldable pub step_of : Option Pending → ℕ → Option Pending
step_of None b = None
step_of (Some w) b = cond (eqb w.count 0) (lead_of b) (cond (ltb b w.low) None (cond (ltb w.high b) None (Some (pending (w.count - 1) 0x80 0xbf))))

-- after a whole text nothing is left to follow
abbrev pub done : Option Pending → Bool
done None = false
done (Some w) = eqb w.count 0

unfoldable pub text_after : Option Pending → List ℕ → Bool
text_after w [] = done w
text_after w (b ∷ bs) = text_after (step_of w b) bs

unfoldable pub is_text : List ℕ → Bool
is_text s = text_after (Some (pending 0 0x80 0xbf)) s
