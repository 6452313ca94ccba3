-- Texts in quotes, as bytes.
use Rattle.std.specs.Prelude.{List, [], ◌∷◌, ℕ, zero, suc}
use Prim.Native.Char.{code}
use Prim.Native.String.{String, len, char_at}

-- n characters of a text from the i-th on, each as its code
abbrev pub codes : String → ℕ → ℕ → List ℕ
codes s i zero = []
codes s i (suc n) = code (char_at s i) ∷ codes s (suc i) n

-- the bytes of a text in ASCII, where the code of a character is its byte
abbrev pub ascii : String → List ℕ
ascii s = codes s 0 (len s)
