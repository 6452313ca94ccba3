-- A step keeps a table one, and its entries in the order of their versions. Assumes nothing.
use mathlib.Core.Path.{◌≡◌, refl}
use mathlib.Core.List.{List, [], ◌∷◌}
use mathlib.Core.Bool.{Bool, true, false, cond, ◌&&◌}
use mathlib.Core.Option.{some}
use Prim.Native.Nat.{ℕ, suc, ◌≤◌, ◌<◌, zero-le, suc-le-suc}
use native.Mathlib.Omega.{arith}
use lib.ListN.{length, length-append}
use lib.Dec.{leb}
use borrow.Author.Tests.{leb-false}
use Rattle.wire.specs.Codec.{Valid}
use Rattle.wire.proofs.Laws.{never}
use Rattle.message.specs.Request.{Request, request}
use Rattle.message.proofs.Sizes.{small}
use Rattle.map.specs.State.{Entry, State, find, without}
use Rattle.map.specs.Deadline.{expired}
use Rattle.map.specs.Plan.{Change, keep, store, drop, empty}
use Rattle.map.specs.Step.{most_keys, last_version, Context, Result, answered, entry, stored, dropped, emptied, is_none, names, held, full, planned, present, swept, noted, arrive, step}
use Rattle.map.specs.Table.{Each, Sizes, OtherKey, OtherVersion, Issued, last_second, IsTable, Ascending}
use Rattle.map.proofs.Each.{table-without, fewer, each_map, each-without, pairs-without, each_left, each_add, pairs_add}
use Rattle.map.proofs.Answered.{changed, did}
use Rattle.wire.proofs.SameLaws.{other_differ}
use Rattle.map.proofs.Deadline.{deadline-most}
use Rattle.map.proofs.Counting.{arrive-table}

-- no entry is above the last version
pub below : (st : State) → IsTable st → Each (λ e. e.version ≤ st.last) st.entries
below st s = each_map (Issued st.last) (λ e. e.version ≤ st.last) (λ e h. h.1) st.entries s.issued

-- the entry that a request writes is within the sizes
entry-sizes : (now : ℕ) (r : Request) (n : ℕ) → Valid request r → now ≤ last_second → Sizes (entry now r n)
unfolding entry
entry-sizes now r n v h =
    let s = small r v in
    record {
      key = s.key;
      value = s.value;
      key_bytes = s.key_bytes;
      value_bytes = s.value_bytes;
      deadline = omega (arith, deadline-most now r h s.lifespan);
    }

module _ (p : Entry → Bool) where
  -- where one is found, one less is left
  pub less : (es : List Entry) → is_none (find p es) ≡ false → length (without p es) < length es
  unfolding without find
  less [] h = never (cc)
  less (e ∷ es) h = go (p e) (less es) h
    where
      go : (t : Bool) → (is_none (find p es) ≡ false → length (without p es) < length es) → is_none (cond t (some e) (find p es)) ≡ false
          → length (cond t (without p es) (e ∷ without p es)) < suc (length es)
      go true ih h = suc-le-suc (fewer p es)
      go false ih h = suc-le-suc (ih h)

-- the pairs of `Ascending`
abbrev Less : Entry → Entry → Type 0
Less e f = e.version < f.version

module _ (r : Request) (st : State) (s : IsTable st) where
  abbrev rest : List Entry
  rest = without (names r) st.entries

  rest-issued : Each (Issued st.last) rest
  rest-issued = each-without (names r) (Issued st.last) st.entries s.issued

  room : (n : Bool) → is_none (held r st) ≡ n → n && leb most_keys (length st.entries) ≡ false → length rest < most_keys
  unfolding held
  room true e h = omega (arith, leb-false most_keys (length st.entries) h, fewer (names r) st.entries)
  room false e h = omega (arith, less (names r) st.entries e, s.few)

  rest-table : IsTable (dropped r st)
  unfolding dropped
  rest-table = table-without (names r) s

  module _ (fits : Sizes (entry st.history.latest r (suc st.last))) where
    stored-table : full r st ≡ false → st.last < last_version → IsTable (stored r st)
    unfolding stored dropped full entry
    stored-table h l =
        let t = rest-table in
        let x = entry st.history.latest r (suc st.last) in
        record {
          few = omega (arith, length-append rest (x ∷ []), room (is_none (held r st)) refl h);
          keys = pairs_add x OtherKey rest t.keys
              (each_map (λ e. names r e ≡ false) (λ e. OtherKey e x) (λ e q. other_differ e.key r.args.key q) rest
              (each_left (names r) st.entries));
          sizes = each_add x Sizes rest t.sizes fits;
          versions = pairs_add x OtherVersion rest t.versions
              (each_map (Issued st.last) (λ e. OtherVersion e x) (λ e i q. omega (arith, i.1)) rest rest-issued);
          issued = each_add x (Issued (suc st.last)) rest
              (each_map (Issued st.last) (Issued (suc st.last)) (λ e i. (i.0, omega (arith, i.1))) rest rest-issued)
              (omega arith, omega arith);
          last = l;
          counts = s.counts;
          seconds = s.seconds;
        }

    table-changed : (d : Change) → (d ≡ store → (full r st ≡ false) × (st.last < last_version)) → IsTable (changed r st d)
    unfolding changed emptied
    table-changed keep h = s
    table-changed store h = let g = h refl in stored-table g.0 g.1
    table-changed drop h = rest-table
    table-changed empty h = record { few = zero-le; keys = tt; sizes = tt; versions = tt; issued = tt; last = s.last; counts = s.counts; seconds = s.seconds }

  module _ (o : Ascending st.entries) where
    rest-order : Ascending rest
    rest-order = pairs-without (names r) Less st.entries o

    order-changed : (d : Change) → Ascending (changed r st d).entries
    unfolding changed stored dropped emptied entry
    order-changed keep = o
    order-changed store =
        let x = entry st.history.latest r (suc st.last) in
        pairs_add x Less rest rest-order (each_map (Issued st.last) (λ e. Less e x) (λ e i. omega (arith, i.1)) rest rest-issued)
    order-changed drop = rest-order
    order-changed empty = tt

module _ (c : Context) (r : Request) (st : State) (s : IsTable st) (a : Result) (t : State) (e : step c r st ≡ answered a t) where
  keeps-order : c.second < 0x1_0000_0000 → Ascending st.entries → Ascending t.entries
  unfolding arrive noted swept
  keeps-order h o =
      rw (did c r st a t e).state
      (order-changed r (arrive c r st) (arrive-table c r st h s) (pairs-without (expired (present c st)) Less st.entries o)
      (planned r (arrive c r st)).change)

  pub keeps-table : Valid request r → c.second < 0x1_0000_0000 → IsTable t
  keeps-table v h =
      let d = did c r st a t e in
      let x = arrive c r st in
      let z = arrive-table c r st h s in
      rw d.state
      (table-changed r x z (entry-sizes x.history.latest r (suc x.last) v z.seconds.latest) (planned r x).change d.room)

  pub keeps : Valid request r → c.second < 0x1_0000_0000 → Ascending st.entries → IsTable t × Ascending t.entries
  keeps v h o = (keeps-table v h, keeps-order h o)
