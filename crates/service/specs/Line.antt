-- A line of a file of requests, and the line that it gives (document 01, 'Files').
use Rattle.std.specs.Prelude.{List, [], ◌∷◌, ◌++◌, Bool, true, false, cond, ◌&&◌, not, ℕ, length, take, drop, get_or, eqb, leb}
use Rattle.std.proofs.Math.Option.{Option, none, some}
use Rattle.wire.specs.Codec as wire
use Rattle.wire.specs.Codec.{Read}
use Rattle.wire.specs.Field.{big_endian}
use Rattle.text.specs.Ascii.{ascii}
use Rattle.hexadecimal.specs.Hex.{to_hex, from_hex}
use Rattle.hexadecimal.specs.Number.{from_digits}
use Rattle.message.specs.Request.{Request, request}
use Rattle.map.specs.State.{State}
use Rattle.map.specs.Step.{Context, context_of}
use Rattle.map.specs.Reply.{flat}
use Rattle.service.specs.Serve.{Effect, on_read}

-- "Longer than 1,024 characters, the line end not counted, is 14."
abbrev pub longest : ℕ
longest = 1024

-- a line of the form: the second, and the bytes behind it
pub record Asks : Type 0 where
  pub context : Context
  pub frame : List ℕ

abbrev pub asks_of : Option ℕ → Option (List ℕ) → Option Asks
asks_of none b = none
asks_of (some s) none = none
asks_of (some s) (some b) = some (record { context = context_of s; frame = b })

-- "eight lowercase digits (the second), one space, an even number of lowercase digits"
unfoldable pub asks : List ℕ → Option Asks
asks s = cond (leb (length s) longest && eqb (get_or s 8 0) 0x20) (asks_of (from_digits (big_endian 4) (take 8 s)) (from_hex (drop 9 s))) none

-- `refused 14` and `refused 15`
abbrev pub refused14 : List ℕ
refused14 = ascii "refused 14"

abbrev pub refused15 : List ℕ
refused15 = ascii "refused 15"

-- the line that a line gives, without its line end, and the state that it leaves, or none where it is refused and changes nothing
pub record Given : Type 0 where
  pub text : List ℕ
  pub next : Option State

abbrev pub given : List ℕ → Option State → Given
given t o = record { text = t; next = o }

-- the state after a line, from the state before it
abbrev pub state_left : State → Option State → State
state_left st none = st
state_left st (some next) = next

-- what is left by two, one after the other
abbrev pub later : Option State → Option State → Option State
later a none = a
later a (some st) = some st

-- what a call sends, in digits, and the state that it leaves
abbrev pub in_digits : Effect → Given
in_digits e = given (to_hex (flat e.sent)) e.next

-- no whole request, or one with bytes behind it
abbrev pub is_uneven : ℕ → Read Request → Bool
is_uneven len (wire.refused k) = false
is_uneven len wire.more = true
is_uneven len (wire.whole r n) = not (eqb n len)

-- "The order is 14, 1 to 8, 15, the rest": else a frame is a call
unfoldable pub on_frame : Asks → State → Read Request → Given
on_frame a st x = cond (is_uneven (length a.frame) x) (given refused15 none) (in_digits (on_read a.frame a.context st x))

abbrev pub on_asked : State → Option Asks → Given
on_asked st none = given refused14 none
on_asked st (some a) = on_frame a st (request.dec a.frame)

-- "Each line gives one line: the reply's digits, or `refused 14` or `refused 15`."
unfoldable pub line_step : List ℕ → State → Given
line_step s st = on_asked st (asks s)

-- lines one after the other: what they give, each with its line end, and the state that they leave, or none where each of them is refused
unfoldable pub lines_step : List (List ℕ) → State → Given
lines_step [] st = given [] none
lines_step (l ∷ ls) st =
    let g = line_step l st in
    let h = lines_step ls (state_left st g.next) in
    given (g.text ++ (0x0a ∷ h.text)) (later g.next h.next)
