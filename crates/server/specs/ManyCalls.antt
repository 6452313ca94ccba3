-- Calls of `serve_many` one after the other, each on the table that the last one left, refused ones among them.
use Rattle.std.specs.Prelude.{◌≡◌, List, [], ◌∷◌, ◌++◌, ℕ, ◌*◌, ◌<◌, length, drop, Result, Ok, Err}
use Rattle.wire.specs.Codec.{Bytes}
use Rattle.map.specs.Step.{Context}
use Rattle.service.specs.Many.{Total}
use Rattle.service.specs.Shares.{parts, sizes, buffer_behind, share_numbers}
use Rattle.service.specs.Rounds.{Round}
use Rattle.field.specs.declared.refusals.Refusal.{Refusal}
use Rattle.server.specs.Gives.{ServesMany}

-- what a call was given and lent beside the table, its answer, and what it left
pub record ManyCall : Type 0 where
  pub context : Context
  pub row : List ℕ
  pub ends : List ℕ
  pub lent : List ℕ
  pub old : List ℕ
  pub answer : Result ℕ Refusal
  pub out : List ℕ
  pub after : List ℕ
  pub new : List ℕ

pub data ManyCalls : List ℕ → List ManyCall → List ℕ → Type 0 where
  no_calls : {table : List ℕ} → ManyCalls table [] table
  many-call : {table : List ℕ} {m : ManyCall} {ms : List ManyCall} {last : List ℕ}
      → ServesMany m.context m.row m.ends table m.lent m.old m.answer m.out m.after m.new → ManyCalls m.after ms last
      → ManyCalls table (m ∷ ms) last

-- "Each call is given a second, 0 to 4,294,967,295", and bytes
abbrev pub InRange : List ManyCall → Type 0
InRange [] = Unit {0}
InRange (m ∷ ms) = (m.context.second < 0x1_0000_0000) × Bytes m.row × InRange ms

abbrev pub round_of : ManyCall → Round
round_of m = record { context = m.context; inputs = parts 0 m.ends m.row; lent = m.lent }

-- each call that is done is a round, whose numbers it tells; a refused one is none
pub data AsRounds : List ManyCall → List Round → List (List Total) → Type 0 where
  all_told : AsRounds [] [] []
  refused-call : {m : ManyCall} {ms : List ManyCall} {rs : List Round} {tss : List (List Total)} {k : Refusal} → m.answer ≡ Err k → AsRounds ms rs tss → AsRounds (m ∷ ms) rs tss
  done-call : {m : ManyCall} {ms : List ManyCall} {rs : List Round} {ts : List Total} {tss : List (List Total)} → m.answer ≡ Ok (sizes ts)
      → m.out ≡ buffer_behind m.lent ts → m.new ≡ share_numbers ts ++ drop (3 * length m.ends) m.old → AsRounds ms rs tss
      → AsRounds (m ∷ ms) (round_of m ∷ rs) (ts ∷ tss)
