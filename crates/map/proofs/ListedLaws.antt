-- Which entries a bulk request lists, and in which order. Assumes nothing.
use mathlib.Core.Path.{◌≡◌, refl, sym, ap, ap₂}
use mathlib.Core.List.{List, [], ◌∷◌, append-nil, Permᴰ as Perm}
use mathlib.Core.Bool.{Bool, true, false, not}
use Prim.Native.Nat.{ℕ, zero, suc, ◌≤◌, ◌<◌, min}
use native.Mathlib.Omega.{arith}
use native.Mathlib.Decide.{dec_lt}
use lib.ListN.{length, take, drop, length-take, take-append-drop}
use lib.Dec.{eqb}
use borrow.Author.Tests.{ltb-true, lt-ltb, le-ltb, ne_eqb}
use Rattle.wire.proofs.Basics.{pick}
use Rattle.message.specs.declared.Operation.TheVariants.{BulkGetKeys}
use Rattle.message.specs.ReplyTable.{body_at, reply_status}
use Rattle.message.specs.Reply.{bulk_operation}
use Rattle.message.specs.Request.{Request}
use Rattle.message.specs.Written.{Begins}
use Rattle.map.specs.State.{Entry, State}
use Rattle.map.specs.Plan.{plans, plan}
use Rattle.map.specs.Shown.{listed, shows, older, by_version, wanted, lowest, listed_by}
use Rattle.map.specs.Step.{Context, Result, answered, planned, status_of, result, arrive, step}
use Rattle.map.specs.Table.{Each, Pairs, OtherVersion, IsTable, Ascending}
use Rattle.map.specs.Order.{SameState}
use Rattle.map.specs.Revalue.{entries_with, state_with}
use Rattle.map.proofs.Each.{pairs-map, same-each, same_length}
use Rattle.map.proofs.Finding.{cond_of}
use Rattle.map.proofs.Answered.{did}
use Rattle.wire.proofs.SortedLaws.{Apart, sorted-order}
use Rattle.map.proofs.SortedLaws.{sorted-is, sorted-same, same-sorted, sorted_with}

-- versions tell entries of different versions apart, and are an order
apart : (e f : Entry) → OtherVersion e f → Apart older e f
apart e f h = go (dec_lt e.version f.version)
  where
    go : Dec (e.version < f.version) → older f e ≡ not (older e f)
    go (yes l) = rw (lt-ltb e.version f.version l, le-ltb f.version e.version (omega arith))
    go (no n) =
        let l : f.version < e.version = omega (arith, h) in
        rw (lt-ltb f.version e.version l, le-ltb e.version f.version (omega arith))

onward : (e f g : Entry) → older e f ≡ true → older f g ≡ true → older e g ≡ true
onward e f g p q = lt-ltb e.version g.version (omega (arith, ltb-true e.version f.version p, ltb-true f.version g.version q))

-- what is said of each is said of the first ones
pub each_take : (P : Entry → Type 0) (n : ℕ) (es : List Entry) → Each P es → Each P (take n es)
each_take P zero es h = tt
each_take P (suc n) [] h = tt
each_take P (suc n) (e ∷ es) h = (h.0, each_take P n es h.1)

take_with : (v : ℕ) (w : List ℕ) (n : ℕ) (es : List Entry) → take n (entries_with v w es) ≡ entries_with v w (take n es)
unfolding entries_with
take_with v w zero es = refl
take_with v w (suc n) [] = refl
take_with v w (suc n) (e ∷ es) = ap₂ ◌∷◌ refl (take_with v w n es)

module _ (r : Request) where
  -- a listing looks at no value
  pub listed_with : (v : ℕ) (w : List ℕ) (st : State) → listed_by r (state_with v w st) ≡ entries_with v w (listed_by r st)
  unfolding listed_by state_with
  listed_with v w st =
      rw (sorted_with older v w (λ e f. refl) st.entries, take_with v w (wanted r) (by_version st.entries), cond_of (entries_with v w) (eqb (wanted r) 0))

  -- nor at the order of the entries
  pub same-listed : (st us : State) → SameState st us → Pairs OtherVersion st.entries → listed_by r st ≡ listed_by r us
  unfolding listed_by
  same-listed st us s h =
      ap (lowest (wanted r)) (same-sorted older onward s.entries (pairs-map OtherVersion (Apart older) apart st.entries h))

  module _ (st : State) where
    -- a table's entries ascend, and so are listed as they stand
    pub listed-is : Ascending st.entries → listed_by r st ≡ lowest (wanted r) st.entries
    unfolding listed_by
    listed-is h =
        ap (lowest (wanted r))
        (sorted-is older st.entries (pairs-map _ _ (λ e f l. le-ltb f.version e.version (omega arith)) st.entries h))

    -- "entries ascending by version", and all of them
    pub by-version : IsTable st → Ascending (by_version st.entries)
    by-version h =
        pairs-map _ _ (λ e f q. ltb-true e.version f.version q) (by_version st.entries)
        (sorted-order older onward st.entries (pairs-map OtherVersion (Apart older) apart st.entries h.versions))

    pub all_listed : Perm st.entries (by_version st.entries)
    all_listed = sorted-same older st.entries

    -- "the lowest ones": the first of these
    pub lowest-listed : Begins (listed_by r st) (by_version st.entries)
    unfolding listed_by
    lowest-listed =
        pick (λ (es : List Entry). Begins es (by_version st.entries)) (eqb (wanted r) 0)
        (λ e. record { behind = []; same = sym (append-nil (by_version st.entries)) })
        (record { behind = drop (wanted r) (by_version st.entries); same = sym (take-append-drop (wanted r) (by_version st.entries)) })

    -- they are entries of the table
    pub listed-each : (P : Entry → Type 0) → Each P st.entries → Each P (listed_by r st)
    unfolding listed_by
    listed-each P h =
        let s = same-each P (sorted-same older st.entries) h in
        pick (Each P) (eqb (wanted r) 0) (λ e. s) (each_take P (wanted r) (by_version st.entries) s)

    -- "a scope 0, 1 or 2 .., which here mean the same"
    pub keys-listed : r.op ≡ BulkGetKeys → listed_by r st ≡ by_version st.entries
    unfolding listed_by
    keys-listed e = rw e

    long : length (by_version st.entries) ≡ length st.entries
    long = sym (same_length (sorted-same older st.entries))

    -- as many as are asked for, if there are so many
    pub listed-long : 0 < wanted r → length (listed_by r st) ≡ min (wanted r) (length st.entries)
    unfolding listed_by
    listed-long h = rw (ne_eqb (wanted r) 0 (λ q. omega arith), length-take (wanted r) (by_version st.entries), long)

    pub listed-few : length (listed_by r st) ≤ length st.entries
    unfolding listed_by
    listed-few =
        pick (λ (es : List Entry). length es ≤ length st.entries) (eqb (wanted r) 0) (λ e. omega (arith, long))
        (omega (arith, length-take (wanted r) (by_version st.entries), long))

-- what the reply to a bulk request shows: "An entry whose deadline .. counts as absent for every .. listing"
pub bulk-shown : (c : Context) (r : Request) (st : State) (a : Result) (t : State) → step c r st ≡ answered a t
    → (values : Bool) → r.op ≡ bulk_operation values → a.shown ≡ listed values (listed_by r (arrive c r st))
unfolding result status_of reply_status planned plan plans shows body_at
bulk-shown c r st a t e true q = rw ((did c r st a t e).same, q)
bulk-shown c r st a t e false q = rw ((did c r st a t e).same, q)
