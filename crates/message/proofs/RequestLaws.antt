-- A request keeps the laws of a codec. Assumes nothing.
use mathlib.Core.Path.{◌≡◌, refl, sym, ap, ◌∙◌}
use mathlib.Core.List.{List, [], ◌∷◌}
use mathlib.Core.Option.{Option, some}
use mathlib.Core.Bool.{Bool, true, false, cond, ◌&&◌}
use Prim.Native.Nat.{ℕ}
use native.Mathlib.Omega.{arith}
use lib.ListN.{length}
use lib.Dec.{eqb, leb}
use borrow.Author.Tests.{eqb-true}
use Rattle.wire.specs.Codec.{Valid, more, empty, byte, guard, seq, as_type, all}
use Rattle.wire.specs.Number.{v_int}
use Rattle.wire.specs.Field.{entry_version, limited}
use Rattle.wire.proofs.Laws.{Laws, never, both, seq-valid, guard-valid, type_valid, seq_laws, guard_laws, type_laws, empty_laws, byte_laws}
use Rattle.wire.proofs.Basics.{pick}
use Rattle.wire.proofs.NumberLaws.{v_int_laws, v_long_laws}
use Rattle.wire.proofs.FieldLaws.{big_laws, limited_laws}
use Rattle.text.specs.Text.{is_text}
use Rattle.field.specs.FieldRead.{limited_text}
use Rattle.message.specs.declared.Operation.{Operation}
use Rattle.message.specs.declared.Operation.TheVariants.{Put, Get, PutIfAbsent, Replace, ReplaceIfUnmodified, Remove, RemoveIfUnmodified, ContainsKey, GetWithVersion, Clear, Stats, Ping, BulkGet, BulkGetKeys}
use Rattle.message.specs.Operation.{code_of, find_code, is_known, known}
use Rattle.message.specs.Edition.{Edition}
use Rattle.message.specs.Arguments.{name_limit, key_limit, value_limit, Shape, keyed, writes, writes_if, keyed_if, bare, bulk, shape_of, Args, args, is_empty, no_times, no_entry_version, no_bulk, no_value, args_of}
use Rattle.message.specs.Request.{op_fits, operation, transaction, Fields, is_version, edition_at, fields, to_request, from_request, request}

-- an operation and its code
pub code-found : (o : Operation) → find_code (code_of o) ≡ some o
unfolding find_code
code-found Put = refl
code-found Get = refl
code-found PutIfAbsent = refl
code-found Replace = refl
code-found ReplaceIfUnmodified = refl
code-found Remove = refl
code-found RemoveIfUnmodified = refl
code-found ContainsKey = refl
code-found GetWithVersion = refl
code-found Clear = refl
code-found Stats = refl
code-found Ping = refl
code-found BulkGet = refl
code-found BulkGetKeys = refl

-- an operation is told by its code
pub same_code : (o p : Operation) → code_of o ≡ code_of p → o ≡ p
same_code o p e = same_some (sym (code-found o) ∙ ap find_code e ∙ code-found p)
  where
    same_some : {x y : Operation} → some x ≡ some y → x ≡ y
    same_some {x} {y} q = ap (λ (z : Option Operation). known z) q

-- a code that is known is that of the operation found
record Coded (n : ℕ) (x : Option Operation) : Type 0 where
  is : is_known x ≡ true → code_of (known x) ≡ n

or : (n : ℕ) (o : Operation) {x : Option Operation} → Coded n x → Coded n (cond (eqb n (code_of o)) (some o) x)
or n o h = pick (Coded n) (eqb n (code_of o)) (λ p. record { is = λ e. sym (eqb-true n (code_of o) p) }) h

coded : (n : ℕ) → Coded n (find_code n)
unfolding find_code
coded n =
    or n Put (or n Get (or n PutIfAbsent (or n Replace (or n ReplaceIfUnmodified (or n Remove (or n RemoveIfUnmodified (or n ContainsKey (or n GetWithVersion
    (or n Clear (or n Stats (or n Ping (or n BulkGet (or n BulkGetKeys (record { is = λ e. never (cc) }))))))))))))))

known-code : (n : ℕ) → is_known (find_code n) ≡ true → code_of (known (find_code n)) ≡ n
known-code n = (coded n).is

pub operation_laws : (e : Edition) → Laws (operation e)
unfolding operation
operation_laws e =
    type_laws all (λ n. known (find_code n)) code_of (guard (op_fits e) 4 byte) (guard_laws (op_fits e) 4 byte byte_laws) (λ o t. rw (code-found o))
    (λ n v. (known-code n (both (is_known (find_code n)) (e.serves (known (find_code n))) (guard-valid (op_fits e) 4 byte n v).0).0, refl))

pub transaction_laws : (t : Bool) → Laws (transaction t)
unfolding transaction
transaction_laws true =
    type_laws all (λ n. tt) (λ u. 0) (guard (λ n. eqb n 0) 8 byte) (guard_laws (λ n. eqb n 0) 8 byte byte_laws) (λ u e. refl)
    (λ n v. (sym (eqb-true n 0 (guard-valid (λ n. eqb n 0) 8 byte n v).0), refl))
transaction_laws false = empty_laws

pub text_laws : (lim : ℕ) → Laws (limited_text lim)
unfolding limited_text
text_laws lim = guard_laws is_text 7 (limited lim) (limited_laws lim)

-- what the tests of the arguments say
pub is-empty : (s : List ℕ) → is_empty s ≡ true → [] ≡ s
is-empty [] e = refl
is-empty (b ∷ s) e = let z = eqb-true (length (b ∷ s)) 0 e in absurd (omega arith)

pub is_zero : (n : ℕ) → eqb n 0 ≡ true → 0 ≡ n
is_zero n e = sym (eqb-true n 0 e)

-- arguments of which no times and no value are sent
module _ (a : Args) where
  same_args : {k v : List ℕ} {l m e b : ℕ} → k ≡ a.key → l ≡ a.lifespan → m ≡ a.max_idle → e ≡ a.entry_version → b ≡ a.bulk → v ≡ a.value
      → args k l m e b v ≡ a
  same_args p q r s n t = rw (p, q, r, s, n, t)

  timeless : {k : List ℕ} {e b : ℕ} → k ≡ a.key → no_times a ≡ true → e ≡ a.entry_version → b ≡ a.bulk → no_value a ≡ true → args k 0 0 e b [] ≡ a
  timeless p t q n e =
      let x = both (eqb a.lifespan 0) (eqb a.max_idle 0) t in
      same_args p (is_zero _ x.0) (is_zero _ x.1) q n (is-empty _ e)

  key-only : {k : List ℕ} → k ≡ a.key → (no_times a && (no_entry_version a && (no_bulk a && no_value a))) ≡ true → args k 0 0 0 0 [] ≡ a
  key-only p t =
      let x = both (no_times a) (no_entry_version a && (no_bulk a && no_value a)) t in
      let y = both (no_entry_version a) (no_bulk a && no_value a) x.1 in
      let z = both (no_bulk a) (no_value a) y.1 in
      timeless p x.0 (is_zero _ y.0) (is_zero _ z.0) z.1

  key-entry : (no_times a && (no_bulk a && no_value a)) ≡ true → args a.key 0 0 a.entry_version 0 [] ≡ a
  key-entry t =
      let x = both (no_times a) (no_bulk a && no_value a) t in
      let y = both (no_bulk a) (no_value a) x.1 in
      timeless refl x.0 refl (is_zero _ y.0) y.1

  none : (is_empty a.key && (no_times a && (no_entry_version a && (no_bulk a && no_value a)))) ≡ true → args [] 0 0 0 0 [] ≡ a
  none t = let x = both (is_empty a.key) (no_times a && (no_entry_version a && (no_bulk a && no_value a))) t in key-only (is-empty _ x.0) x.1

  bulk-only : (is_empty a.key && (no_times a && (no_entry_version a && no_value a))) ≡ true → args [] 0 0 0 a.bulk [] ≡ a
  bulk-only t =
      let x = both (is_empty a.key) (no_times a && (no_entry_version a && no_value a)) t in
      let y = both (no_times a) (no_entry_version a && no_value a) x.1 in
      let z = both (no_entry_version a) (no_value a) y.1 in
      timeless (is-empty _ x.0) y.0 (is_zero _ z.0) refl z.1

  write_only : (no_entry_version a && no_bulk a) ≡ true → args a.key a.lifespan a.max_idle 0 0 a.value ≡ a
  write_only t = let x = both (no_entry_version a) (no_bulk a) t in same_args refl refl refl (is_zero _ x.0) (is_zero _ x.1) refl

  pub keyed_is : Valid (args_of keyed) a → args a.key 0 0 0 0 [] ≡ a
  unfolding args_of
  keyed_is v = key-only refl (type_valid _ _ _ _ a v).0

  pub keyed_if_is : Valid (args_of keyed_if) a → args a.key 0 0 a.entry_version 0 [] ≡ a
  unfolding args_of
  keyed_if_is v = key-entry (type_valid _ _ _ _ a v).0

  pub bare-is : Valid (args_of bare) a → args [] 0 0 0 0 [] ≡ a
  unfolding args_of
  bare-is v = none (type_valid _ _ _ _ a v).0

  pub bulk-is : (most : ℕ) → Valid (args_of (bulk most)) a → args [] 0 0 0 a.bulk [] ≡ a
  unfolding args_of
  bulk-is most v = bulk-only (type_valid _ _ _ _ a v).0

args_laws : (s : Shape) → Laws (args_of s)
unfolding args_of
args_laws keyed =
    type_laws (λ a. no_times a && (no_entry_version a && (no_bulk a && no_value a))) (λ k. args k 0 0 0 0 []) (λ a. a.key) (limited key_limit) (limited_laws key_limit)
    (λ a t. key-only a refl t) (λ k v. (refl, refl))
args_laws writes =
    type_laws (λ a. no_entry_version a && no_bulk a) (λ p. args p.0 p.1.0 p.1.1.0 0 0 p.1.1.1) (λ a. (a.key, (a.lifespan, (a.max_idle, a.value))))
    (seq (limited key_limit) λ _. seq v_int λ _. seq v_int λ _. limited value_limit)
    (seq_laws _ _ (limited_laws key_limit) λ _. seq_laws _ _ v_int_laws λ _. seq_laws _ _ v_int_laws λ _. limited_laws value_limit)
    (λ a t. write_only a t) (λ p v. (refl, refl))
args_laws writes_if =
    type_laws no_bulk (λ p. args p.0 p.1.0 p.1.1.0 p.1.1.1.0 0 p.1.1.1.1)
    (λ a. (a.key, (a.lifespan, (a.max_idle, (a.entry_version, a.value)))))
    (seq (limited key_limit) λ _. seq v_int λ _. seq v_int λ _. seq entry_version λ _. limited value_limit)
    (seq_laws _ _ (limited_laws key_limit) λ _. seq_laws _ _ v_int_laws λ _. seq_laws _ _ v_int_laws λ _. seq_laws _ _ (big_laws 8) λ _. limited_laws value_limit)
    (λ a t. same_args a refl refl refl refl (is_zero _ t) refl) (λ p v. (refl, refl))
args_laws keyed_if =
    type_laws (λ a. no_times a && (no_bulk a && no_value a)) (λ p. args p.0 0 0 p.1 0 []) (λ a. (a.key, a.entry_version))
    (seq (limited key_limit) λ _. entry_version)
    (seq_laws _ _ (limited_laws key_limit) λ _. big_laws 8)
    (λ a t. key-entry a t) (λ p v. (refl, refl))
args_laws bare =
    type_laws (λ a. is_empty a.key && (no_times a && (no_entry_version a && (no_bulk a && no_value a)))) (λ u. args [] 0 0 0 0 []) (λ a. tt) empty empty_laws
    (λ a t. none a t) (λ u v. (refl, refl))
args_laws (bulk most) =
    type_laws (λ a. is_empty a.key && (no_times a && (no_entry_version a && no_value a))) (λ n. args [] 0 0 0 n []) (λ a. a.bulk) (guard (λ n. leb n most) 8 v_int)
    (guard_laws (λ n. leb n most) 8 v_int v_int_laws) (λ a t. bulk-only a t) (λ n v. (refl, refl))

fields_laws : Laws fields
unfolding fields
fields_laws =
    seq_laws _ _ (guard_laws (λ m. eqb m 0xa0) 1 byte byte_laws) λ _.
    seq_laws _ _ v_long_laws λ _.
    seq_laws _ _ (guard_laws is_version 3 byte byte_laws) λ version.
    seq_laws _ _ (operation_laws (edition_at version)) λ op.
    seq_laws _ _ (text_laws name_limit) λ _.
    seq_laws _ _ (guard_laws (λ f. leb f (edition_at version).flags) 8 v_int v_int_laws) λ _.
    seq_laws _ _ (guard_laws (λ i. leb 1 i && leb i 3) 8 byte byte_laws) λ _.
    seq_laws _ _ v_int_laws λ _.
    seq_laws _ _ (transaction_laws (edition_at version).transaction) λ _. args_laws (shape_of op)

fields_magic : (p : ℕ × Fields) → Valid fields p → 0xa0 ≡ p.0
unfolding fields
fields_magic p v = sym (eqb-true p.0 0xa0 (guard-valid (λ m. eqb m 0xa0) 1 byte p.0 (seq-valid _ _ p v).0).0)

pub request_laws : Laws request
unfolding request
request_laws =
    type_laws all to_request from_request fields fields_laws (λ r e. refl) (λ p v. (ap {B = ℕ × Fields} (λ (m : ℕ). (m, p.1)) (fields_magic p v), refl))

-- of no bytes nothing is read
pub request-starts : request.dec [] ≡ more
unfolding request fields seq guard byte as_type
request-starts = refl
