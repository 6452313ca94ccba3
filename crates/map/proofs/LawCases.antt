-- Worked cases of what may be combined and of no lost update, at second 5 from a fresh board. Assumes nothing.
use mathlib.Core.Path.{◌≡◌, refl}
use mathlib.Core.List.{List, [], ◌∷◌}
use mathlib.Core.Bool.{true, false}
use Prim.Native.Nat.{ℕ}
use lib.ListN.{take, drop}
use Rattle.wire.specs.Codec.{seq, byte, as_type, empty}
use Rattle.wire.specs.Number.{v_long, v_int, number, number_enc}
use Rattle.wire.specs.Field.{big_endian}
use Rattle.wire.specs.Same.{same_list}
use Rattle.message.specs.declared.Operation.{Operation}
use Rattle.message.specs.declared.Operation.TheVariants.{Put, ReplaceIfUnmodified, Remove, GetWithVersion, Clear, Ping}
use Rattle.message.specs.Arguments.{args}
use Rattle.message.specs.Request.{Request}
use Rattle.message.specs.Edition.{edition_of}
use Rattle.message.specs.ReplyTable.{body_at, reply_status}
use Rattle.map.specs.State.{State, fresh, find, without}
use Rattle.map.specs.Deadline.{deadline, expired}
use Rattle.map.specs.Plan.{plans, plan}
use Rattle.map.specs.Shown.{shows}
use Rattle.map.specs.Step.{context_of, entry, stored, dropped, emptied, held, full, planned, status_of, result, act, core, swept, noted, arrive, step, run}
use Rattle.map.specs.Counted.{ends}
use Rattle.map.specs.Reply.{flat, shown_pieces, pieces}
use Rattle.map.specs.Update.{takes_effect, affects, final_state}
use Rattle.map.specs.Combine.{content, in_context}

abbrev b1 : List ℕ
b1 = 0x62 ∷ 0x31 ∷ []

abbrev b2 : List ℕ
b2 = 0x62 ∷ 0x32 ∷ []

-- a request for a key, with a lifespan, a version and a value of one byte
abbrev asks : Operation → List ℕ → ℕ → ℕ → ℕ → Request
asks op key lifespan version x =
    record { id = 1; version = 10; op = op; name = []; flags = 0; intelligence = 1; topology = 0; args = args key lifespan 0 version 0 (x ∷ []) }

-- the same stands under a key behind two lists of requests
abbrev Same : List ℕ → List Request → List Request → Type 0
Same k rs ss = content 5 k (final_state (in_context (context_of 5) rs) fresh) ≡ content 5 k (final_state (in_context (context_of 5) ss) fresh)

-- two puts to one key, and the second alone: the deadline is the second's
case_puts : Same b1 (asks Put b1 5 0 0x49 ∷ asks Put b1 60 0 0x4a ∷ []) (asks Put b1 60 0 0x4a ∷ [])
unfolding content run ends step core arrive noted swept act planned plan plans held find without expired full stored entry deadline same_list
case_puts = refl

-- a remove twice, and once
case_removes : Same b1 (asks Put b1 0 0 0x49 ∷ asks Remove b1 0 0 0 ∷ asks Remove b1 0 0 0 ∷ []) (asks Put b1 0 0 0x49 ∷ asks Remove b1 0 0 0 ∷ [])
unfolding content run ends step core arrive noted swept act planned plan plans held find without expired full stored dropped entry deadline same_list
case_removes = refl

-- a put and a remove of its key, and the remove
case_put_remove : Same b1 (asks Put b1 60 0 0x49 ∷ asks Remove b1 0 0 0 ∷ []) (asks Remove b1 0 0 0 ∷ [])
unfolding content run ends step core arrive noted swept act planned plan plans held find without expired full stored dropped entry deadline same_list
case_put_remove = refl

-- two puts and a clear, and the clear
case_clears : Same b1 (asks Put b1 0 0 0x49 ∷ asks Put b2 0 0 0x4a ∷ asks Clear [] 0 0 0 ∷ []) (asks Clear [] 0 0 0 ∷ [])
unfolding content run ends step core arrive noted swept act planned plan plans held find without expired full stored emptied entry deadline same_list
case_clears = refl

-- two puts to different keys, in both orders
case_exchange : Same b1 (asks Put b1 0 0 0x49 ∷ asks Put b2 0 0 0x4a ∷ []) (asks Put b2 0 0 0x4a ∷ asks Put b1 0 0 0x49 ∷ [])
unfolding content run ends step core arrive noted swept act planned plan plans held find without expired full stored entry deadline same_list
case_exchange = refl

-- the board behind a put of a value with a lifespan at second 5
abbrev put1 : ℕ → State → State
put1 lifespan st = final_state ((context_of 5, asks Put b1 lifespan 0 0x49) ∷ []) st

-- An update with the version that was read takes effect where nothing was between, and not behind another put of the key, though it wrote the same value.
case_update : takes_effect (context_of 5) (asks ReplaceIfUnmodified b1 0 1 0x4b) (put1 0 fresh) ≡ true
unfolding takes_effect run ends step core arrive noted swept act planned plan plans held find without expired full stored entry deadline same_list
case_update = refl

case_overwritten : takes_effect (context_of 5) (asks ReplaceIfUnmodified b1 0 1 0x4b) (put1 0 (put1 0 fresh)) ≡ false
unfolding takes_effect run ends step core arrive noted swept act planned plan plans held find without expired full stored entry deadline same_list
case_overwritten = refl

-- nor with a lower version than that of the entry
case_lower : takes_effect (context_of 5) (asks ReplaceIfUnmodified b1 0 0 0x4b) (put1 0 fresh) ≡ false
unfolding takes_effect run ends step core arrive noted swept act planned plan plans held find without expired full stored entry deadline same_list
case_lower = refl

-- At its deadline the entry has expired: a ping takes it away, and an update with its version does not take effect.
case_expiry : affects (asks ReplaceIfUnmodified b1 0 1 0x4b) (context_of 10) (asks Ping [] 0 0 0) (put1 5 fresh) ≡ true
unfolding affects run ends step core arrive noted swept act planned plan plans held find without expired full stored entry deadline same_list
case_expiry = refl

case_expired : takes_effect (context_of 10) (asks ReplaceIfUnmodified b1 0 1 0x4b) (put1 5 fresh) ≡ false
unfolding takes_effect run ends step core arrive noted swept act planned plan plans held find without expired full stored entry deadline same_list
case_expired = refl

-- the eight bytes in the reply to a getWithVersion
case_eight : take 8 (drop 5 (flat (pieces (asks GetWithVersion b1 0 0 0) (result (context_of 5) (asks GetWithVersion b1 0 0 0) (put1 0 fresh)))))
    ≡ 0 ∷ 0 ∷ 0 ∷ 0 ∷ 0 ∷ 0 ∷ 0 ∷ 1 ∷ []
unfolding flat pieces shown_pieces result status_of reply_status edition_of shows body_at run ends step core arrive noted swept act planned plan plans held find without expired full stored entry deadline same_list v_long v_int number number_enc big_endian seq byte as_type empty
case_eight = refl
