-- What a reply shows of the map (document 01, 'A reply'; document 02, C-11 and C-13).
use Rattle.std.specs.Prelude.{List, Bool, cond, ℕ, take, eqb, ltb}
use Rattle.std.proofs.Math.Option.{Option, none, some}
use Rattle.message.specs.declared.Form.{Form}
use Rattle.message.specs.declared.Form.TheVariants as form
use Rattle.message.specs.declared.Operation.TheVariants.{BulkGet}
use Rattle.message.specs.Request.{Request}
use Rattle.map.specs.History.{is}
use Rattle.map.specs.State.{Entry, State}
use Rattle.wire.specs.Sorted.{sorted}

-- nothing, length 0, the value of an entry, its version and value, the statistics, or entries: with their values, or their keys alone
pub data Shown : Type 0 where
  nothing : Shown
  no_value : Shown
  value : Entry → Shown
  versioned : Entry → Shown
  counted : List ℕ → Shown
  listed : Bool → List Entry → Shown

-- What a reply of the form shows of the entry held before the step: "length and bytes held before the call, or length 0 if the key was absent". A value of at
-- most 0 bytes is length 0.
unfoldable pub shows : Form → List ℕ → List Entry → Option Entry → Shown
shows form.Nothing ns es f = nothing
shows (form.Value lim) ns es none = no_value
shows (form.Value lim) ns es (some e) = cond (eqb lim 0) no_value (value e)
shows form.Versioned ns es none = nothing
shows form.Versioned ns es (some e) = versioned e
shows form.Statistics ns es f = counted ns
shows form.Text ns es f = nothing
shows (form.Listed values) ns es f = listed values es

-- "entries ascending by version"
abbrev pub older : Entry → Entry → Bool
older e f = ltb e.version f.version

abbrev pub by_version : List Entry → List Entry
by_version es = sorted older es

-- "bulkGet asks for a number of entries, 0 for all; bulkGetKeys for a scope 0, 1 or 2 .., which here mean the same": all
abbrev pub wanted : Request → ℕ
wanted r = cond (is BulkGet r.op) r.args.bulk 0

-- "the lowest ones if fewer are asked for"
abbrev pub lowest : ℕ → List Entry → List Entry
lowest n es = cond (eqb n 0) es (take n es)

-- the entries that the reply to a bulk request lists
unfoldable pub listed_by : Request → State → List Entry
listed_by r st = lowest (wanted r) (by_version st.entries)
