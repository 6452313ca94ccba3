-- The pieces of a reply are its published format, and the reply of a table is valid. Assumes nothing.
use mathlib.Core.Path.{◌≡◌, refl, ap, ◌∙◌}
use mathlib.Core.List.{List, [], ◌∷◌, ◌++◌, map, append_assoc, append-nil}
use mathlib.Core.Bool.{Bool, true, false, cond, not}
use mathlib.Core.Option.{Option, none, some}
use Prim.Native.Nat.{ℕ, zero, suc, ◌+◌, ◌-◌, ◌≤◌, ◌<◌}
use native.Mathlib.Omega.{arith}
use lib.ListN.{length, get_or}
use lib.Dec.{eqb}
use Rattle.wire.specs.Codec.{Valid, is_bytes, empty, byte, raw, guard, seq, as_type}
use Rattle.wire.specs.Number.{number, number_enc, v_int, v_long}
use Rattle.wire.specs.Field.{entry_version, limited}
use Rattle.wire.proofs.Laws.{guard-valid, type_valid, seq-good, type_good, bytes_are}
use Rattle.wire.proofs.FieldLaws.{big_good, limited-good}
use Rattle.wire.proofs.Basics.{pick}
use Rattle.message.specs.declared.Operation.{Operation}
use Rattle.message.specs.declared.Operation.TheVariants.{Put, Get, PutIfAbsent, Replace, ReplaceIfUnmodified, Remove, RemoveIfUnmodified, ContainsKey, GetWithVersion, Clear, Stats, Ping, BulkGet, BulkGetKeys}
use Rattle.message.specs.Operation.{code_of}
use Rattle.message.specs.Arguments.{value_limit}
use Rattle.message.specs.Request.{op_fits, operation, is_version, edition_at, Request, request}
use Rattle.message.specs.ReplyTable as m
use Rattle.message.specs.ReplyTable.{Body, table, body_at, is_allowed, allowed, reply_status}
use Rattle.message.specs.Payload.{Payload, no_body, value_body, versioned_body, statistics_body, listed_body, fields_of, form_of}
use Rattle.message.specs.Reply.{Reply, fields, message, is_awaited, statuses_of, Awaits, bulk_operation, bulk_reply, reply, longest_reply}
use Rattle.message.specs.Listing.{most_listed}
use Rattle.message.proofs.RequestLaws.{code-found}
use Rattle.message.proofs.RequestParts as asked
use Rattle.message.proofs.Every.{every, statuses_are}
use Rattle.message.proofs.ReplyParts.{whole-reply}
use Rattle.message.proofs.ReplyLaws.{reply-is, awaits}
use Rattle.message.proofs.ReplySize.{reply-most}
use Rattle.statistics.specs.Statistics as stats
use Rattle.statistics.proofs.Writing.{statistics-good}
use Rattle.map.specs.History.{start_of}
use Rattle.map.specs.State.{Entry, State}
use Rattle.map.specs.Plan.{Plan, plans, plan}
use Rattle.map.specs.Shown.{Shown, nothing, no_value, value, shows, listed_by}
use Rattle.map.specs.Step.{most_keys, Context, last_version, Result, wants_old, with_old, is_none, names, held, version_of, planned, statistics, status_of, result}
use Rattle.map.specs.Table.{Each, Sizes, Issued, IsTable}
use Rattle.map.specs.Reply.{asked_by, pair_of, payload_of, reply_to, flat, shown_pieces, pieces}
use Rattle.map.proofs.ListedLaws.{listed-each, listed-few}
use Rattle.map.proofs.ListedFormat.{sized-enc, listing-enc, value-good, listing-good}
use Rattle.map.proofs.Each.{each_both, Maybe, each-find}

-- a value is shown only of an entry that is there, and no text
abbrev Fit : Body → Option Entry → Type 0
Fit m.nothing f = Unit {0}
Fit m.old f = Unit {0}
Fit m.old_none f = Unit {0}
Fit m.value none = ⊥
Fit m.value (some e) = Unit {0}
Fit m.versioned none = ⊥
Fit m.versioned (some e) = Unit {0}
Fit m.statistics f = Unit {0}
Fit m.text f = ⊥
Fit m.entries f = Unit {0}
Fit m.keys f = Unit {0}

-- the status of the reply to a plan is one of the operation's, and its body fits the entry found
abbrev pub Row : Bool → Operation → Option Entry → Plan → Type 0
Row t o f p =
    let s = reply_status t o (not (is_none f)) p.status in
    Valid (guard (λ s. is_allowed (body_at s (table t o))) 8 byte) s × Fit (allowed (body_at s (table t o))) f

pub row_fits : (t : Bool) (o : Operation) (x : ℕ) (f : Option Entry) → Row t o f (plan o x (version_of f))
unfolding plan plans body_at guard byte reply_status
row_fits true Put x none = (refl, tt)
row_fits true Put x (some e) = (refl, tt)
row_fits false Put x none = (refl, tt)
row_fits false Put x (some e) = (refl, tt)
row_fits t Get x none = (refl, tt)
row_fits t Get x (some e) = (refl, tt)
row_fits true PutIfAbsent x none = (refl, tt)
row_fits true PutIfAbsent x (some e) = (refl, tt)
row_fits false PutIfAbsent x none = (refl, tt)
row_fits false PutIfAbsent x (some e) = (refl, tt)
row_fits true Replace x none = (refl, tt)
row_fits true Replace x (some e) = (refl, tt)
row_fits false Replace x none = (refl, tt)
row_fits false Replace x (some e) = (refl, tt)
row_fits true ReplaceIfUnmodified x none = (refl, tt)
row_fits true ReplaceIfUnmodified x (some e) = pick (Row true ReplaceIfUnmodified (some e)) (eqb e.version x) (λ q. (refl, tt)) (refl, tt)
row_fits false ReplaceIfUnmodified x none = (refl, tt)
row_fits false ReplaceIfUnmodified x (some e) = pick (Row false ReplaceIfUnmodified (some e)) (eqb e.version x) (λ q. (refl, tt)) (refl, tt)
row_fits true Remove x none = (refl, tt)
row_fits true Remove x (some e) = (refl, tt)
row_fits false Remove x none = (refl, tt)
row_fits false Remove x (some e) = (refl, tt)
row_fits true RemoveIfUnmodified x none = (refl, tt)
row_fits true RemoveIfUnmodified x (some e) = pick (Row true RemoveIfUnmodified (some e)) (eqb e.version x) (λ q. (refl, tt)) (refl, tt)
row_fits false RemoveIfUnmodified x none = (refl, tt)
row_fits false RemoveIfUnmodified x (some e) = pick (Row false RemoveIfUnmodified (some e)) (eqb e.version x) (λ q. (refl, tt)) (refl, tt)
row_fits t ContainsKey x none = (refl, tt)
row_fits t ContainsKey x (some e) = (refl, tt)
row_fits t GetWithVersion x none = (refl, tt)
row_fits t GetWithVersion x (some e) = (refl, tt)
row_fits t Clear x f = (refl, tt)
row_fits t Stats x f = (refl, tt)
row_fits t Ping x f = (refl, tt)
row_fits t BulkGet x f = (refl, tt)
row_fits t BulkGetKeys x f = (refl, tt)

-- the code of an operation's reply is awaited, and its rows are the operation's
abbrev Coded : Bool → Operation → Type 0
Coded t o = Valid (guard (is_awaited o) 4 byte) (code_of o + 1) × (statuses_of t o (code_of o + 1) ≡ table t o)

coded : (t : Bool) (o : Operation) → Coded t o
unfolding guard byte
coded t o = (every (λ o. (guard (is_awaited o) 4 byte).ok (code_of o + 1)) refl o, statuses_are t o)

-- the bytes of what is shown
abbrev carried : Shown → Payload
carried s = payload_of s

-- as many entries as a list may have
abbrev Few : List Entry → Type 0
Few es = length es ≤ most_listed

shown-enc : (t : Bool) (b : Body) (ns : List ℕ) (es : List Entry) (f : Option Entry) → Few es → Fit b f
    → flat (shown_pieces (shows (form_of t b) ns es f)) ≡ (fields_of (form_of t b)).enc (carried (shows (form_of t b) ns es f))
unfolding shows shown_pieces flat fields_of no_body value_body versioned_body statistics_body listed_body as_type limited seq guard raw empty v_int number number_enc
shown-enc t m.nothing ns es f l h = refl
shown-enc true m.old ns es none l h = refl
shown-enc true m.old ns es (some e) l h = sized-enc e
shown-enc false m.old ns es f l h = refl
shown-enc true m.old_none ns es none l h = refl
shown-enc true m.old_none ns es (some e) l h = refl
shown-enc false m.old_none ns es f l h = refl
shown-enc t m.value ns es (some e) l h = sized-enc e
shown-enc t m.versioned ns es (some e) l h = ap (λ (s : List ℕ). entry_version.enc e.version ++ s) (sized-enc e)
shown-enc t m.statistics ns es f l h = append-nil ((stats.statistics).enc ns)
shown-enc t m.entries ns es f l h = listing-enc true es l
shown-enc t m.keys ns es f l h = listing-enc false es l
shown-enc t m.value ns es none l h = elim h [ ]
shown-enc t m.versioned ns es none l h = elim h [ ]
shown-enc t m.text ns es f l h = elim h [ ]

empty-good : Valid empty tt
unfolding empty
empty-good = refl

none-good : (lim : ℕ) → Valid (limited lim) []
unfolding is_bytes
none-good lim = limited-good lim [] (omega arith) (omega arith) (bytes_are [] refl)

-- the entries of a table fit the format
abbrev Fits : Entry → Type 0
Fits e = Sizes e × (e.version ≤ last_version)

held_fits : (r : Request) (st : State) → IsTable st → Maybe Fits (held r st)
unfolding held
held_fits r st s =
    each-find (names r) Fits st.entries
    (each_both Sizes (Issued st.last) Fits (λ e z i. (z, omega (arith, i.1, s.last))) st.entries s.sizes s.issued)

-- the statistics of a table
statistics-valid : (c : Context) (st : State) → IsTable st → c.second < 0x1_0000_0000 → Valid stats.statistics (statistics c st)
unfolding statistics
statistics-valid c st s h = statistics-good _ (ap (λ (n : ℕ). suc (suc n)) s.counts.long) small
  where
    small : (j : ℕ) → get_or ((c.second - start_of st.history.first c.second) ∷ length st.entries ∷ st.history.counts) j 0 ≤ 0x7fff_ffff_ffff_ffff
    small zero = omega arith
    small (suc zero) = omega (arith, s.few)
    small (suc (suc j)) = s.counts.most j

shown-good : (t : Bool) (b : Body) (ns : List ℕ) (es : List Entry) (f : Option Entry) → Valid stats.statistics ns → Few es → Each Sizes es → Fit b f
    → Maybe Fits f → Valid (fields_of (form_of t b)) (carried (shows (form_of t b) ns es f))
unfolding shows fields_of no_body value_body versioned_body statistics_body listed_body
shown-good t m.nothing ns es f g l z h i = type_good _ _ _ _ refl empty-good
shown-good true m.old ns es none g l z h i = type_good _ _ _ _ refl (none-good value_limit)
shown-good true m.old ns es (some e) g l z h i = type_good _ _ _ _ refl (value-good e i.0)
shown-good false m.old ns es f g l z h i = type_good _ _ _ _ refl empty-good
shown-good true m.old_none ns es none g l z h i = type_good _ _ _ _ refl (none-good 0)
shown-good true m.old_none ns es (some e) g l z h i = type_good _ _ _ _ refl (none-good 0)
shown-good false m.old_none ns es f g l z h i = type_good _ _ _ _ refl empty-good
shown-good t m.value ns es (some e) g l z h i = type_good _ _ _ _ refl (value-good e i.0)
shown-good t m.versioned ns es (some e) g l z h i =
    type_good _ _ _ _ refl (seq-good _ _ (big_good 8 e.version (omega (arith, i.1))) (value-good e i.0))
shown-good t m.statistics ns es f g l z h i = type_good _ _ _ _ refl g
shown-good t m.entries ns es f g l z h i = type_good _ _ _ _ refl (listing-good true es l z)
shown-good t m.keys ns es f g l z h i = type_good _ _ _ _ refl (listing-good false es l z)
shown-good t m.value ns es none g l z h i = elim h [ ]
shown-good t m.versioned ns es none g l z h i = elim h [ ]
shown-good t m.text ns es f g l z h i = elim h [ ]

-- an old value
abbrev old_of : Option Entry → Shown
old_of none = no_value
old_of (some e) = value e

shows-old : (t : Bool) (ns : List ℕ) (es : List Entry) (f : Option Entry) → shows (form_of t m.old) ns es f ≡ cond t (old_of f) nothing
unfolding shows
shows-old true ns es none = refl
shows-old true ns es (some e) = refl
shows-old false ns es f = refl

shows-none : (t : Bool) (ns : List ℕ) (es : List Entry) (f : Option Entry) → shows (form_of t m.old_none) ns es f ≡ cond t no_value nothing
unfolding shows
shows-none true ns es none = refl
shows-none true ns es (some e) = refl
shows-none false ns es f = refl

-- the bytes of a message, and of the pieces
message-enc : (comes : ℕ → Bool) (rows : ℕ → List (ℕ × Body)) (flag : Bool) (x : Reply) → (message comes rows flag).enc x
    ≡ 0xa1 ∷ (v_long.enc x.id ++ (x.op ∷ x.status ∷ 0 ∷ (fields_of (form_of flag (allowed (body_at x.status (rows x.op))))).enc x.payload))
unfolding message fields seq guard byte as_type
message-enc comes rows flag x = refl

pub pieces-enc : (r : Request) (a : Result) → flat (pieces r a) ≡ 0xa1 ∷ (v_long.enc r.id ++ ((code_of r.op + 1) ∷ a.status ∷ 0 ∷ flat (shown_pieces a.shown)))
unfolding flat pieces
pieces-enc r a = ap (λ (s : List ℕ). 0xa1 ∷ s) (append_assoc (v_long.enc r.id) ((code_of r.op + 1) ∷ a.status ∷ 0 ∷ []) (flat (shown_pieces a.shown)))

-- a well-formed request asks for what is served
pub asks : (r : Request) → Valid request r → Awaits (asked_by r) (edition_at r.version) r.op
unfolding operation
asks r v =
    let p = asked.parts r v in
    let w = (guard-valid (op_fits (edition_at r.version)) 4 byte (code_of r.op) (type_valid _ _ _ _ r.op p.op).1).0 in
    awaits r.version r.op (wants_old r) (guard-valid is_version 3 byte r.version p.version).0
    (rw (code-found r.op) at w)

module _ (c : Context) (r : Request) (st : State) where
  -- the row of the reply table
  abbrev pub row : Body
  row = allowed (body_at (status_of r st) (table (with_old r) r.op))

  planned-row : Row (with_old r) r.op (held r st) (planned r st)
  unfolding planned
  planned-row = row_fits (with_old r) r.op r.args.entry_version (held r st)

  few : length st.entries ≤ most_keys → Few (listed_by r st)
  few l = omega (arith, listed-few r st)

  -- the pieces of a reply are the bytes of its format
  pub pieces-reply : Valid request r → length st.entries ≤ most_keys → flat (pieces r (result c r st)) ≡ (reply (asked_by r)).enc (reply_to r (result c r st))
  unfolding result status_of
  pieces-reply v l =
      pieces-enc r (result c r st)
      ∙ rw (
        reply-is (asks r v),
        message-enc (is_awaited r.op) (statuses_of (with_old r) r.op) (wants_old r) (reply_to r (result c r st)),
        (coded (with_old r) r.op).1,
        shown-enc (wants_old r) row (statistics c st) (listed_by r st) (held r st) (few l) planned-row.1,
      )

  -- the reply to a bulk request has the entries that it lists, and nothing else
  pub bulk-reply : (values : Bool) → r.op ≡ bulk_operation values → reply_to r (result c r st) ≡ bulk_reply values r.id (map (pair_of values) (listed_by r st))
  unfolding result status_of reply_status planned plan plans shows body_at
  bulk-reply true e = rw e
  bulk-reply false e = rw e

  -- an old value is shown only if the flag was set; of a key that was absent, and of one kept by an IfUnmodified operation, it has length 0
  pub old-shown : row ≡ m.old → (result c r st).shown ≡ cond (wants_old r) (old_of (held r st)) nothing
  unfolding result
  old-shown e = rw e (shows-old (wants_old r) (statistics c st) (listed_by r st) (held r st))

  pub old-none : row ≡ m.old_none → (result c r st).shown ≡ cond (wants_old r) no_value nothing
  unfolding result
  old-none e = rw e (shows-none (wants_old r) (statistics c st) (listed_by r st) (held r st))

  module _ (v : Valid request r) (s : IsTable st) (h : c.second < 0x1_0000_0000) where
    -- the reply to a well-formed request from a table is valid
    pub reply-valid : Valid (reply (asked_by r)) (reply_to r (result c r st))
    unfolding result status_of
    reply-valid =
        rw (reply-is (asks r v))
        (whole-reply (is_awaited r.op) (statuses_of (with_old r) r.op) (wants_old r) (reply_to r (result c r st))
        (record {
          id = (asked.parts r v).id;
          op = (coded (with_old r) r.op).0;
          status = rw (coded (with_old r) r.op).1 planned-row.0;
          body = rw (coded (with_old r) r.op).1
              (shown-good (wants_old r) row (statistics c st) (listed_by r st) (held r st) (statistics-valid c st s h)
              (few s.few) (listed-each r st Sizes s.sizes) planned-row.1 (held_fits r st s));
        }))

    -- no reply is longer than the longest one to its operation
    pub result-most : length (flat (pieces r (result c r st))) ≤ longest_reply r.op
    result-most = rw (pieces-reply v s.few) (reply-most (asks r v) (reply_to r (result c r st)) reply-valid)
