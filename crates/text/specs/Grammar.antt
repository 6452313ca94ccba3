-- RFC 3629's grammar as it stands: a text is a run of characters, and a character is a first byte with the tail that the table asks for.
use Rattle.std.specs.Prelude.{List, [], ◌∷◌, ◌++◌, ◌≡◌, ℕ, suc, ◌≤◌, Some}
use Rattle.text.specs.Text.{pending, lead_of}

-- n bytes, the first of them low .. high and the others 80 .. bf
pub data Tail : ℕ → ℕ → ℕ → List ℕ → Type 0 where
  none : {low high : ℕ} → Tail 0 low high []
  next : {n low high b : ℕ} {t : List ℕ} → low ≤ b → b ≤ high → Tail n 0x80 0xbf t → Tail (suc n) low high (b ∷ t)

pub data Text : List ℕ → Type 0 where
  end : Text []
  char : {n low high b : ℕ} {t s : List ℕ} → lead_of b ≡ Some (pending n low high) → Tail n low high t → Text s → Text (b ∷ t ++ s)
