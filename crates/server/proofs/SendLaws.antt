-- Replies that fit are written, and the reply to a request is the one that the map gives. Assumes nothing.
use mathlib.Core.Path.{◌≡◌, refl, sym, ap, ◌∙◌}
use mathlib.Core.List.{List, [], ◌++◌, map, append-nil}
use mathlib.Core.Bool.{Bool, true, false, cond, not, ◌||◌}
use mathlib.Core.Option.{Option, none, some}
use Prim.Native.Nat.{ℕ, ◌+◌, ◌≤◌, ◌<◌}
use native.Mathlib.Nat.{zero-add}
use native.Mathlib.Omega.{arith}
use lib.ListN.{length, take, drop, get_or, length-take, length-map, get_or-map, get_or-eq_default}
use lib.Seq.{sets, sets-eq, get_or-take}
use lib.Dec.{eqb}
use Rattle.wire.specs.Codec.{Codec, Valid, byte}
use Rattle.wire.specs.Write as wire
use Rattle.wire.specs.Write.{send, written}
use Rattle.wire.proofs.Laws.{never, guard-valid}
use Rattle.wire.proofs.WriteLaws.{send-room}
use Rattle.field.specs.declared.refusals.Refusal.{Refusal}
use Rattle.field.specs.Refusal.{number_of}
use Rattle.message.specs.declared.Operation.{Operation}
use Rattle.message.specs.declared.Operation.TheVariants.{Stats, BulkGet, BulkGetKeys}
use Rattle.message.specs.Operation.{code_of}
use Rattle.message.specs.declared.Asked.{Asked}
use Rattle.message.specs.Request.{Request}
use Rattle.message.specs.ReplyTable.{table, body_at, is_allowed, allowed, reply_status}
use Rattle.message.specs.Payload.{payload, fields_of, form_of}
use Rattle.message.specs.Reply.{Reply, is_awaited, statuses_of, reply, error_reply, statistics_reply, bulk_operation, bulk_reply}
use Rattle.message.specs.Listing.{listing}
use Rattle.message.specs.Refusal.{refusal}
use Rattle.message.proofs.ErrorLaws.{refusal-good}
use Rattle.message.proofs.ListingLaws.{longest, listing-most}
use Rattle.message.proofs.ReplyLaws.{reply-is}
use Rattle.message.proofs.ReplySize.{error-most}
use Rattle.map.specs.State.{Entry}
use Rattle.map.specs.Plan.{plans, plan}
use Rattle.map.specs.Shown.{no_value, value, shows, wanted, lowest, listed_by}
use Rattle.map.specs.Step.{most_keys, Context, wants_old, with_old, is_none, held, planned, statistics, status_of, result}
use Rattle.map.specs.Reply.{Piece, flat, pieces, payload_of, pair_of, reply_to, asked_by}
use Rattle.map.proofs.Format.{row_fits, asks, pieces-reply, reply-valid, bulk-reply, result-most}
use Rattle.map.specs.Table.{Sizes}
use Rattle.map.proofs.ListedLaws.{each_take, listed-is}
use Rattle.map.proofs.ListedFormat.{listing-good}
use Rattle.table.specs.Memory as memory
use Rattle.table.specs.Memory.{state_of, Sound}
use Rattle.table.specs.Found.{entry_at}
use Rattle.message.specs.declared.Form.{Form}
use Rattle.message.specs.declared.Form.TheVariants as f
use Rattle.message.proofs.Every.{every, bodies, every_body, statuses_are}
use Rattle.reply_writer.specs.Frame.{framed}
use Rattle.reply_writer.proofs.SendLaws.{send-framed}
use Rattle.service.specs.Serve as stream
use Rattle.service.specs.Serve.{room, bulk_room, room_of, error_pieces}
use Rattle.service.proofs.Bounds.{reply-room}
use Rattle.plan.specs.declared.Held.{Held}
use Rattle.std.specs.Prelude as std
use Rattle.plan.specs.Plan.{Holds, held_at}
use Rattle.plan.proofs.PlanLaws.{row-held, none-held}
use Rattle.server.specs.declared.Answer.{Answer}
use Rattle.server.specs.CallDone.{Says, Sends}
use Rattle.server.specs.Act.{is_plain, value_shown, version_shown, sent_to, Planned}
use Rattle.server.specs.Bulk.{entry_pair, listed_pairs, sent_listed}

-- a message that fits is written, and its bytes are the pieces sent
module _ {A : Type 0} (c : Codec A) (a : A) {x : wire.Sent} {old new : List ℕ} {ps : List Piece} {n : ℕ} {v : stream.Verdict} {r : Answer} where
  pub sent : (x, new) ≡ send c a old → Valid c a → length (c.enc a) ≤ length old → flat ps ≡ c.enc a
      → ((m : ℕ) → x ≡ written m → Says n m v r) → Sends ps n v old new r
  sent s g b f h =
      let e : ◌≡◌ {A = wire.Sent × List ℕ} (x, new) (written (length (c.enc a)), c.enc a ++ drop (length (c.enc a)) old) = s ∙ send-room c a old g (omega arith) in
      let p : x ≡ written (length (c.enc a)) = ap (λ (z : wire.Sent × List ℕ). z.0) e in
      let q : new ≡ c.enc a ++ drop (length (c.enc a)) old = ap (λ (z : wire.Sent × List ℕ). z.1) e in
      let d : sets old 0 (c.enc a) ≡ c.enc a ++ drop (length (c.enc a)) old = sets-eq (c.enc a) old 0 (omega arith) ∙ rw zero-add in
      record { says = rw f (h (length (c.enc a)) p); buffer = rw f (q ∙ sym d) }

-- no refusal has the number 0
numbered : (r : Refusal) → 1 ≤ number_of r
numbered r = grind arith

-- the error reply of a refusal
pub error-sent : (r : Refusal) (id : ℕ) {x : wire.Sent} {old new : List ℕ} {n : ℕ} {v : stream.Verdict} {a : Answer}
    → number_of r ≤ 11 → id < 0x8000_0000_0000_0000 → room ≤ length old → (x, new) ≡ send error_reply (refusal (number_of r) id) old
    → ((m : ℕ) → x ≡ written m → Says n m v a) → Sends (error_pieces (number_of r) id) n v old new a
unfolding flat
error-sent r id u i o s h =
    let m = refusal (number_of r) id in
    let g = refusal-good (number_of r) id (numbered r) u i in
    sent error_reply m s g (omega (arith, error-most m g)) (append-nil (error_reply.enc m)) h

-- a row that no table holds has no value
past_rows : (t : List ℕ) → Sound t → (entry_at t most_keys).value ≡ []
unfolding entry_at memory.entry
past_rows t s = rw (get_or-eq_default (state_of t).entries (memory.entry [] [] 0 0) s.table.few)

-- the entry held
abbrev entry_held : List ℕ → std.Option Held → Option Entry
entry_held t (std.Some h) = some (entry_at t h.row)
entry_held t std.None = none

-- what the code holds is the entry that the map finds
held_is : (t k : List ℕ) (x : std.Option Held) → Holds t k x → held_at t k ≡ entry_held t x
held_is t k (std.Some y) g = row-held t k {x = std.Some y} refl g
held_is t k std.None g = none-held t k {x = std.None} refl g

-- what a reply of a form shows: the value of the row held, or none; its version, or 0
module _ (g : Form) (t k : List ℕ) (x : std.Option Held) where
  pub row_shown : (h : Held) → x ≡ std.Some h → Holds t k x → value_shown g (some (entry_at t h.row)) ≡ (entry_at t h.row).value
      → (entry_at t h.row).value ≡ value_shown g (held_at t k)
  row_shown h e w z = rw (held_is t k x w, e) (sym z)

  pub past_shown : Sound t → Holds t k x → value_shown g (entry_held t x) ≡ [] → (entry_at t most_keys).value ≡ value_shown g (held_at t k)
  past_shown s w z = rw (held_is t k x w, z) (past_rows t s)

  pub held_shown : (n : ℕ) → Holds t k x → n ≡ version_shown g (entry_held t x) → n ≡ version_shown g (held_at t k)
  held_shown n w z = rw (held_is t k x w) z

-- a form that is neither statistics nor entries
abbrev plain : Form → Bool
plain f.Nothing = true
plain (f.Value lim) = true
plain f.Versioned = true
plain f.Text = true
plain f.Statistics = false
plain (f.Listed values) = false

-- what it shows is what the map shows
shown-same : (g : Form) (ns : List ℕ) (es : List Entry) (o : Option Entry) → plain g ≡ true → payload (version_shown g o) (value_shown g o) [] ≡ payload_of (shows g ns es o)
unfolding shows
shown-same f.Nothing ns es none p = refl
shown-same f.Nothing ns es (some e) p = refl
shown-same (f.Value lim) ns es none p = refl
shown-same (f.Value lim) ns es (some e) p = go (eqb lim 0)
  where
    go : (t : Bool) → payload 0 (cond t [] e.value) [] ≡ payload_of (cond t no_value (value e))
    go true = refl
    go false = refl
shown-same f.Versioned ns es none p = refl
shown-same f.Versioned ns es (some e) p = refl
shown-same f.Text ns es none p = refl
shown-same f.Text ns es (some e) p = refl
shown-same f.Statistics ns es o p = never (cc)
shown-same (f.Listed values) ns es o p = never (cc)

-- the reply to such an operation is of such a form, by the rows of the reply table
plain-test : (u t : Bool) (o : Operation) → (not (is_plain o) || bodies (λ b. plain (form_of t b)) (table u o)) ≡ true
unfolding is_plain
plain-test true true = every (λ o. not (is_plain o) || bodies (λ b. plain (form_of true b)) (table true o)) refl
plain-test true false = every (λ o. not (is_plain o) || bodies (λ b. plain (form_of false b)) (table true o)) refl
plain-test false true = every (λ o. not (is_plain o) || bodies (λ b. plain (form_of true b)) (table false o)) refl
plain-test false false = every (λ o. not (is_plain o) || bodies (λ b. plain (form_of false b)) (table false o)) refl

plain-bodies : (o : Operation) (u t : Bool) → is_plain o ≡ true → bodies (λ b. plain (form_of t b)) (table u o) ≡ true
plain-bodies o u t n = rw n at (plain-test u t o)

pub plain-op : (o : Operation) → (o ≡ Stats → ⊥) → (o ≡ BulkGet → ⊥) → (o ≡ BulkGetKeys → ⊥) → is_plain o ≡ true
unfolding is_plain
plain-op o s b k = grind arith

-- an entry is held where the map finds one
pub held_same : (t k : List ℕ) (x : std.Option Held) → Holds t k x → std.is_some x ≡ not (is_none (held_at t k))
held_same t k x h = go x ∙ ap (λ (o : Option Entry). not (is_none o)) (sym (held_is t k x h))
  where
    go : (y : std.Option Held) → std.is_some y ≡ not (is_none (entry_held t y))
    go (std.Some y) = refl
    go std.None = refl

-- the form of the reply to a request, by the status
abbrev pub form : Request → ℕ → Form
form q s = form_of (wants_old q) (allowed (body_at s (statuses_of (with_old q) q.op (code_of q.op + 1))))

-- values are asked for by bulkGet
bulk-values : (values : Bool) → eqb (code_of (bulk_operation values)) (code_of BulkGet) ≡ values
bulk-values true = refl
bulk-values false = refl

module _ (c : Context) {t : List ℕ} {q : Request} {y : std.Option Held} {s : ℕ} (g : Planned t q y s) where
  -- the reply to a request of such an operation, of its code, a version and a value
  abbrev made : ℕ → ℕ → ℕ → List ℕ → Reply
  made code u e v = record { id = q.id; op = code + 1; status = u; payload = payload e v [] }

  -- the status of the reply, of the one planned
  abbrev status_for : ℕ → ℕ
  status_for n = reply_status (with_old q) q.op (not (is_none (held_at t q.args.key))) n

  -- its status is one of the reply table's, so that its form alone gives its bytes
  formed : (e : ℕ) (v old : List ℕ) → let u = status_for s in
      send (framed (fields_of (form q u))) (made (code_of q.op) u e v) old ≡ send (reply (asked_by q)) (made (code_of q.op) u e v) old
  unfolding held planned
  formed e v old =
      let u = status_for s in
      let r = (row_fits (with_old q) q.op q.args.entry_version (held_at t q.args.key)).0 in
      let a = (guard-valid (λ s. is_allowed (body_at s (table (with_old q) q.op))) 8 byte u (rw g.status at r)).0 in
      rw (reply-is (asks q g.valid))
      (send-framed (is_awaited q.op) (statuses_of (with_old q) q.op) (wants_old q) (made (code_of q.op) u e v) old
      (every (λ o. is_awaited o (code_of o + 1)) refl q.op) (rw (statuses_are (with_old q) q.op) a))

  pub held-sent : {code u e : ℕ} {v : List ℕ} {x : wire.Sent} (old : List ℕ) {new : List ℕ} → is_plain q.op ≡ true → code ≡ code_of q.op → u ≡ status_for s
      → e ≡ version_shown (form q u) (held_at t q.args.key) → v ≡ value_shown (form q u) (held_at t q.args.key)
      → (x, new) ≡ send (reply (asked_by q)) (made code u e v) old → (x, new) ≡ sent_to c q (state_of t) old
  unfolding result status_of held planned
  held-sent old n o p e w z =
      let k = status_for (planned q (state_of t)).status in
      let f = shown-same (form_of (wants_old q) (allowed (body_at k (table (with_old q) q.op)))) (statistics c (state_of t)) (listed_by q (state_of t)) (held_at t q.args.key) (every_body (λ b. plain (form_of (wants_old q) b)) k (table (with_old q) q.op) refl (plain-bodies q.op (with_old q) (wants_old q) n)) in
      z ∙ rw (o, e, w, p, statuses_are (with_old q) q.op, ← g.status, f)

  -- and where its form alone was written
  pub held_framed : {code u e : ℕ} {v : List ℕ} {x : wire.Sent} (old : List ℕ) {new : List ℕ} → is_plain q.op ≡ true → code ≡ code_of q.op → u ≡ status_for s
      → e ≡ version_shown (form q u) (held_at t q.args.key) → v ≡ value_shown (form q u) (held_at t q.args.key)
      → (x, new) ≡ send (framed (fields_of (form q u))) (made code u e v) old → (x, new) ≡ sent_to c q (state_of t) old
  held_framed {e = y} {v = d} old n o p e w z = held-sent old n o p e w (rw (o, p) ((rw (o, p) at z) ∙ formed y d old))

  -- the reply to stats
  pub stats-sent : {x : wire.Sent} {ns : List ℕ} (old : List ℕ) {new : List ℕ} → q.op ≡ Stats → ns ≡ statistics c (state_of t)
      → (x, new) ≡ send (reply (asked_by q)) (statistics_reply q.id ns) old → (x, new) ≡ sent_to c q (state_of t) old
  unfolding result status_of reply_status planned plan plans body_at shows
  stats-sent old o e z = z ∙ rw (o, ← e)

  -- the reply to bulkGet and to bulkGetKeys: a table's entries ascend
  pub bulk-sent : (values : Bool) {a : Asked} {x : wire.Sent} {n : ℕ} (old : List ℕ) {new : List ℕ} → q.op ≡ bulk_operation values → n ≡ wanted q → a ≡ asked_by q
      → (x, new) ≡ sent_listed a q.id n (state_of t) old → (x, new) ≡ sent_to c q (state_of t) old
  bulk-sent values {n = n} old o e k z =
      let l = listed-is q (state_of t) g.sound.layout.order ∙ ap (λ (n : ℕ). lowest n (state_of t).entries) (sym e) in
      let r = bulk-reply c q (state_of t) values o ∙ ap (λ (es : List Entry). bulk_reply values q.id (map (pair_of values) es)) l in
      let d : eqb (code_of q.op) (code_of BulkGet) ≡ values = rw o (bulk-values values) in
      (rw (k, d) at z) ∙ sym (ap (λ (a : Reply). send (reply (asked_by q)) a old) r)

  -- the map's reply to a request is sent
  pub reply-sent : {x : wire.Sent} (old : List ℕ) {new : List ℕ} {n : ℕ} {d : stream.Verdict} {r : Answer} → c.second < 0x1_0000_0000 → room_of q.op ≤ length old
      → (x, new) ≡ sent_to c q (state_of t) old → ((m : ℕ) → x ≡ written m → Says n m d r) → Sends (pieces q (result c q (state_of t))) n d old new r
  reply-sent old k l z h =
      let p = pieces-reply c q (state_of t) g.valid g.sound.table.few in
      let b = result-most c q (state_of t) g.valid g.sound.table k in
      sent (reply (asked_by q)) (reply_to q (result c q (state_of t))) z (reply-valid c q (state_of t) g.valid g.sound.table k)
      (omega (arith, ap length p, b, reply-room q.op, l)) p h

longest-most : (values : Bool) → longest values ≤ 323
longest-most true = omega arith
longest-most false = omega arith

-- the entries that a bulk reply lists: how many there are, and which they are
module _ (n : ℕ) (t : List ℕ) where
  module _ (values : Bool) where
    pub listed-long : length (listed_pairs values n (state_of t)) ≡ length (lowest n (state_of t).entries)
    listed-long = length-map (lowest n (state_of t).entries) (pair_of values)

    pub listed_at : (i : ℕ) → i < length (lowest n (state_of t).entries) → get_or (listed_pairs values n (state_of t)) i (pair_of values (memory.entry [] [] 0 0)) ≡ entry_pair values t i
    unfolding entry_at
    listed_at i l = get_or-map (pair_of values) (lowest n (state_of t).entries) i (memory.entry [] [] 0 0) ∙ ap (pair_of values) (go (eqb n 0) l)
      where
        go : (b : Bool) → i < length (cond b (state_of t).entries (take n (state_of t).entries))
            → get_or (cond b (state_of t).entries (take n (state_of t).entries)) i (memory.entry [] [] 0 0) ≡ get_or (state_of t).entries i (memory.entry [] [] 0 0)
        go true l = refl
        go false l = get_or-take n (state_of t).entries i (memory.entry [] [] 0 0) (omega (arith, length-take n (state_of t).entries))

    -- a table's have a written form
    pub listed-valid : Sound t → Valid (listing values) (listed_pairs values n (state_of t))
    listed-valid s = go (eqb n 0)
      where
        go : (b : Bool) → Valid (listing values) (map (pair_of values) (cond b (state_of t).entries (take n (state_of t).entries)))
        go true = listing-good values (state_of t).entries s.table.few s.table.sizes
        go false = listing-good values (take n (state_of t).entries) (omega (arith, s.table.few, length-take n (state_of t).entries)) (each_take Sizes n (state_of t).entries s.table.sizes)

    -- and take at most 41,473 bytes
    pub listed-most : Sound t → length ((listing values).enc (listed_pairs values n (state_of t))) ≤ 41_473
    listed-most s = omega (arith, longest-most values, (listing-most values).most (listed_pairs values n (state_of t)) (listed-valid s))

-- so much room there is for them
pub bulk-room : (values : Bool) (o : Operation) {l : ℕ} → o ≡ bulk_operation values → room_of o ≤ l → bulk_room ≤ l
unfolding room_of
bulk-room true o e h = rw e at h
bulk-room false o e h = rw e at h
