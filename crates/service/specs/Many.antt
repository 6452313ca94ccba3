-- Calls one after the other at one second: each on the input behind the bytes taken, on the table that the last one left, and on the reply buffer
-- behind the bytes sent.
use Rattle.std.specs.Prelude.{◌≡◌, List, ◌++◌, Bool, true, false, ◌&&◌, ◌||◌, ℕ, ◌+◌, take, drop, eqb, ltb}
use Rattle.map.specs.Step.{Context}
use Rattle.service.specs.Serve.{Answer, Verdict, served, more, refused, full}
use Rattle.service.specs.Stream.{Call, Done, Serves}

-- "After 1 to 8 a stream is closed: nothing behind it is read. After 9 to 11 it goes on", and after a bulk request that is refused 12. It goes on behind a
-- call that took bytes.
abbrev pub goes_on : Answer → Bool
goes_on a = ltb 0 a.taken

-- 12: the reply buffer is too short
abbrev pub is_short : Verdict → Bool
is_short served = false
is_short more = false
is_short (refused k) = eqb k 12
is_short full = false

-- what all calls together took and sent, how many there were, how the last one ended, and what they left
pub record Total : Type 0 where
  pub taken : ℕ
  pub size : ℕ
  pub calls : ℕ
  pub verdict : Verdict
  pub buffer : List ℕ
  pub table : List ℕ

abbrev pub only : Done → Total
only d = record { taken = d.answer.taken; size = d.size; calls = 1; verdict = d.answer.verdict; buffer = d.buffer; table = d.table }

-- the bytes at the front of a buffer that are settled, and the calls behind them
abbrev pub behind : ℕ → ℕ → ℕ → List ℕ → Total → Total
behind taken size calls buffer t =
    record {
      taken = taken + t.taken;
      size = size + t.size;
      calls = calls + t.calls;
      verdict = t.verdict;
      buffer = take size buffer ++ t.buffer;
      table = t.table;
    }

abbrev pub at : Context → List ℕ → Call
at c buffer = record { context = c; buffer = buffer }

-- nothing done
abbrev pub nothing : List ℕ → List ℕ → Total
nothing buffer table = record { taken = 0; size = 0; calls = 0; verdict = full; buffer = buffer; table = table }

-- What the function `serve_stream` ensures, literally. used: something is sent already. A call that would be refused 12 then is not made, and the stream
-- is full: the caller empties the buffer and calls again (`full-took`). So a call is refused 12 only where the whole buffer lent is too short
-- (`never-filled`).
pub data Streams (c : Context) : Bool → List ℕ → List ℕ → List ℕ → Total → Type 0 where
  waits : {used : Bool} {input table lent : List ℕ} {d : Done} → Serves input table (at c lent) d → is_short d.answer.verdict && used ≡ true
      → Streams c used input table lent (nothing lent table)
  last : {used : Bool} {input table lent : List ℕ} {d : Done} → Serves input table (at c lent) d → is_short d.answer.verdict && used ≡ false
      → goes_on d.answer ≡ false → Streams c used input table lent (only d)
  then : {used : Bool} {input table lent : List ℕ} {d : Done} {t : Total} → Serves input table (at c lent) d → is_short d.answer.verdict && used ≡ false
      → goes_on d.answer ≡ true
      → Streams c (used || ltb 0 d.size) (drop d.answer.taken input) d.table (drop d.size d.buffer) t
      → Streams c used input table lent (behind d.answer.taken d.size 1 d.buffer t)

-- no call that the stream makes is refused 12
abbrev pub NeverShort : {c : Context} {used : Bool} {input table lent : List ℕ} {t : Total} → Streams c used input table lent t → Type 0
NeverShort (waits x e) = Unit {0}
NeverShort (last {d = d} x e f) = is_short d.answer.verdict ≡ false
NeverShort (then {d = d} x e f s) = (is_short d.answer.verdict ≡ false) × NeverShort s
