-- The error replies of the refusals 1 to 11 (document 01, 'The refusal numbers').
use Rattle.std.specs.Prelude.{List, [], ◌∷◌, cond, ℕ, eqb}
use Rattle.text.specs.Ascii.{ascii}
use Rattle.message.specs.ReplyTable.{error_code}
use Rattle.message.specs.Payload.{payload}
use Rattle.message.specs.Reply.{Reply}

pub record WireError : Type 0 where
  pub number : ℕ
  pub status : ℕ
  pub text : List ℕ

abbrev wire_error : ℕ → ℕ → List ℕ → WireError
wire_error n s t = record { number = n; status = s; text = t }

unfoldable pub error_table : List WireError
error_table =
    wire_error 1 0x81 (ascii "bad magic")
    ∷ wire_error 2 0x81 (ascii "bad message id")
    ∷ wire_error 3 0x83 (ascii "bad version")
    ∷ wire_error 4 0x82 (ascii "bad command")
    ∷ wire_error 5 0x84 (ascii "bad number")
    ∷ wire_error 6 0x84 (ascii "too long")
    ∷ wire_error 7 0x84 (ascii "bad text")
    ∷ wire_error 8 0x84 (ascii "bad field")
    ∷ wire_error 9 0x85 (ascii "no such cache")
    ∷ wire_error 10 0x85 (ascii "full")
    ∷ wire_error 11 0x85 (ascii "no versions left")
    ∷ []

-- the error of a number; a number that has none gets the status 0, which no error reply has
unfoldable pub error_in : ℕ → List WireError → WireError
error_in k [] = wire_error k 0 []
error_in k (r ∷ rs) = cond (eqb k r.number) r (error_in k rs)

unfoldable pub refusal : ℕ → ℕ → Reply
refusal k id = record { id = id; op = error_code; status = (error_in k error_table).status; payload = payload 0 [] (error_in k error_table).text }
