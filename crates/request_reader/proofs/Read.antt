-- What reading a request goes by, field by field. Assumes nothing.
use mathlib.Core.Path.{◌≡◌, refl, sym, ◌∙◌}
use mathlib.Core.List.{List}
use mathlib.Core.Bool.{Bool, true, false, cond}
use Prim.Native.Nat.{ℕ, ◌+◌}
use native.Mathlib.Nat.{zero-add, add-zero}
use lib.ListN.{length}
use lib.Dec.{leb}
use borrow.Author.Tests.{eqb-true}
use Rattle.wire.specs.Codec.{whole, refused, after, mapped, Bytes, read_at, byte, empty, all}
use Rattle.wire.specs.Number.{v_int, v_long}
use Rattle.wire.specs.Field.{limited}
use Rattle.wire.proofs.Laws.{Laws, after-after, after_on, after-only, seq_laws, guard_laws, type_laws, byte_laws, guard-valid, seq-valid}
use Rattle.wire.proofs.At.{at_front, at-seq, at-guard, at_type, at_cond, at_exact}
use Rattle.wire.proofs.FieldLaws.{limited_laws}
use Rattle.wire.proofs.NumberLaws.{v_int_laws, v_long_laws}
use Rattle.field.specs.FieldRead.{limited_text, between, span_to}
use Rattle.std.specs.Prelude.{Some}
use Rattle.field.proofs.Parts.{only, at-between}
use Rattle.message.specs.Operation.{find_code, known}
use Rattle.message.specs.Arguments.{Shape, keyed, writes, writes_if, keyed_if, bare, bulk, shape_of, args_of, name_limit, key_limit, value_limit}
use Rattle.message.specs.Request.{op_fits, operation, transaction, is_version, edition_at, fields, to_request, request}
use Rattle.message.proofs.RequestLaws.{text_laws, operation_laws, transaction_laws}
use Rattle.message.specs.Start.{start}
use Rattle.request_reader.specs.RequestRead.{request_at, front, options}
use Rattle.request_reader.specs.Parts.{options_at, args_at, args_with, together_of, sends_of, transaction_in, part_in, int_in, entry_in, bulk_in}

start_laws : Laws start
unfolding start
start_laws =
    type_laws all _ _ _ (seq_laws _ _ (guard_laws _ 1 byte byte_laws) λ _. v_long_laws) (λ i t. refl)
    (λ p v. let e : p.0 ≡ 0xa0 = eqb-true _ _ (guard-valid _ 1 byte p.0 (seq-valid _ _ p v).0).0 in (rw e, refl))

pub front_laws : Laws front
unfolding front
front_laws =
    type_laws all _ _ _
    (seq_laws _ _ start_laws
    λ _. seq_laws _ _ (guard_laws is_version 3 byte byte_laws) λ v. operation_laws (edition_at v))
    (λ f t. refl) (λ p v. (refl, refl))

pub options_laws : (v : ℕ) → Laws (options v)
unfolding options
options_laws v =
    seq_laws _ _ (text_laws name_limit) λ _. seq_laws _ _ (guard_laws _ 8 v_int v_int_laws) λ _. seq_laws _ _ (guard_laws _ 8 byte byte_laws) λ _.
    seq_laws _ _ v_int_laws λ _. transaction_laws (edition_at v).transaction

module _ (s : List ℕ) where
  at-empty : (at : ℕ) → read_at empty s at ≡ whole tt at
  unfolding read_at empty
  at-empty at = simp add-zero

  at-transaction : (t : Bool) (at : ℕ) → read_at (transaction t) s at ≡ after (transaction_in s t at) (λ b j. whole tt j)
  unfolding transaction
  at-transaction true at = simp (at_type, at-guard, at-between, after-after, at_cond, only)
  at-transaction false at = at-empty at

  -- the number is judged once it is whole
  pub at_bulk : (most at : ℕ) → bulk_in s (Some most) at ≡ after (read_at v_int s at) (λ n j. cond (leb n most) (whole n j) (refused 8))
  at_bulk most at = at-guard s at (λ n. leb n most) 8 v_int

  -- the magic and the message id
  pub at_start : start.dec s ≡ after (read_at (between 0xa0 0xa0 1) s 0) (λ m j. read_at v_long s j)
  unfolding start
  at_start = sym (at_front start s) ∙ simp (at_type, at-seq, at-guard, at-between, after-after, at_cond, after-only, only)

  pub at_first : front.dec s
      ≡ after (start.dec s) (λ id i.
      after (read_at byte s i) (λ v i.
      cond (is_version v) (after (read_at byte s i) (λ o j. cond (op_fits (edition_at v) o) (whole (record { id = id; version = v; op = known (find_code o) }) j) (refused 4))) (refused 3)))
  unfolding front operation
  at_first = sym (at_front front s) ∙ rw (← (at_front start s)) (simp (at_type, at-seq, at-guard, after-after, at_cond))

  pub in_parts : request.dec s
      ≡ after (front.dec s) (λ f i.
      after (read_at (options f.version) s i) (λ o j.
      after (read_at (args_of (shape_of f.op)) s j) (λ a n.
      whole (to_request (0xa0, (f.id, (f.version, (f.op, (o.0, (o.1.0, (o.1.1.0, (o.1.1.1.0, (tt, a)))))))))) n)))
  unfolding request fields front start options
  in_parts = sym (at_front request s) ∙ rw (← (at_front front s)) (simp (at_type, at-seq, at-guard, after-after, at_cond))

  -- the parts that hold bytes, by where those stand
  module _ (b : Bytes s) where
    pub at_options : (v at : ℕ) → mapped (options_at at) (read_at (options v) s at)
        ≡ after (mapped span_to (read_at (limited_text name_limit) s at)) (λ name i.
        after (read_at v_int s i) (λ f i.
        cond (leb f (edition_at v).flags)
        (after (read_at (between 1 3 8) s i) (λ x i.
        after (read_at v_int s i) (λ t i.
        after (transaction_in s (edition_at v).transaction i) (λ _ j. whole (record { name = name; flags = f; intelligence = x; topology = t }) j))))
        (refused 8)))
    unfolding mapped options options_at
    at_options v at =
        simp (at-seq, at-guard, at-between, at-transaction, after-after, at_cond)
        (after_on (read_at (limited_text name_limit) s at) (λ bs n e. rw (at_exact (limited_text name_limit) (text_laws name_limit) s at bs n b e)))

    module _ (at : ℕ) where
      exact : (bs : List ℕ) (n : ℕ) → read_at (limited key_limit) s at ≡ whole bs n → n ≡ at + length ((limited key_limit).enc bs)
      exact bs n e = at_exact (limited key_limit) (limited_laws key_limit) s at bs n b e

      -- each argument stands behind the one before, where the shape has it
      pub at_args : (sh : Shape) → mapped (args_at at) (read_at (args_of sh) s at)
          ≡ after (part_in s key_limit (sends_of sh).key at) (λ k i.
          after (int_in s (sends_of sh).write i) (λ l i.
          after (int_in s (sends_of sh).write i) (λ m i.
          after (entry_in s (sends_of sh).version i) (λ e i.
          after (part_in s value_limit (sends_of sh).write i) (λ v i.
          after (bulk_in s (sends_of sh).bulk i) (λ b n. whole (args_with k l m e v b) n))))))
      unfolding mapped args_of args_at span_to
      at_args keyed = simp (at_type, after-after) (after_on (read_at (limited key_limit) s at) (λ bs n e. rw (exact bs n e)))
      at_args writes = simp (at_type, at-seq, after-after) (after_on (read_at (limited key_limit) s at) (λ bs n e. rw (exact bs n e)))
      at_args writes_if = simp (at_type, at-seq, after-after) (after_on (read_at (limited key_limit) s at) (λ bs n e. rw (exact bs n e)))
      at_args keyed_if = simp (at_type, at-seq, after-after) (after_on (read_at (limited key_limit) s at) (λ bs n e. rw (exact bs n e)))
      at_args bare = simp (at_type, at-empty)
      at_args (bulk most) = simp (at_type, after-after)

    -- a request is its three parts
    pub at_request : mapped request_at (request.dec s)
        ≡ after (front.dec s) (λ f i.
        after (mapped (options_at i) (read_at (options f.version) s i)) (λ o j.
        after (mapped (args_at j) (read_at (args_of (shape_of f.op)) s j)) (λ a n. whole (together_of f o a) n)))
    unfolding mapped request_at options_at args_at
    at_request =
        rw in_parts
        (simp after-after
        (after_on (front.dec s) (λ f i e.
        after_on (read_at (options f.version) s i) (λ o j h.
        after_on (read_at (args_of (shape_of f.op)) s j) (λ a n k.
        rw (at_exact (options f.version) (options_laws f.version) s i o j b h, at_exact front front_laws s 0 f i b (at_front front s ∙ e), zero-add))))))
