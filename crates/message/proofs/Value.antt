-- The bytes of a request with another value of the same length. Assumes nothing.
use mathlib.Core.Path.{◌≡◌, refl, sym, ap, subst, ◌∙◌}
use mathlib.Core.List.{List, [], ◌∷◌, ◌++◌, append_assoc, append-nil}
use Prim.Native.Nat.{ℕ}
use native.Mathlib.Omega.{arith}
use lib.ListN.{length, length-append}
use Rattle.wire.specs.Codec.{Codec, Valid, Bytes, guard, raw, seq, as_type}
use Rattle.wire.specs.Number.{v_int}
use Rattle.wire.specs.Field.{limited}
use Rattle.wire.proofs.Laws.{seq-valid, seq-good, type_valid, type_good}
use Rattle.wire.proofs.FieldLaws.{limited-valid, limited-good}
use Rattle.message.specs.Arguments.{value_limit, Shape, keyed, writes, writes_if, keyed_if, bare, bulk, shape_of, Args, args, args_of}
use Rattle.message.specs.Request.{fields, Request, request}
use Rattle.message.specs.Value.{valued, with_value}
use Rattle.message.proofs.RequestLaws.{keyed_is, keyed_if_is, bare-is, bulk-is}
use Rattle.message.proofs.RequestParts.{parts, whole-request}

-- where the value is empty, so is another of its length
both-empty : (u w : List ℕ) → [] ≡ u → length w ≡ length u → [] ≡ w
both-empty u [] e h = refl
both-empty u (b ∷ w) e h = absurd (omega (arith, ap length e))

-- a request with another value of the same length is well-formed too
value-good : (u w : List ℕ) → length w ≡ length u → Bytes w → Valid (limited value_limit) u → Valid (limited value_limit) w
value-good u w h b v = let f = (limited-valid value_limit u v).0 in limited-good value_limit w (omega arith) (omega arith) b

good-behind : {A B : Type 0} (c : Codec A) (d : A → Codec B) {a : A} {b b₁ : B} → (Valid (d a) b → Valid (d a) b₁)
    → Valid (seq c d) (a, b) → Valid (seq c d) (a, b₁)
good-behind c d f v = let x = seq-valid c d _ v in seq-good c d x.0 (f x.1)

module _ (a : Args) (w : List ℕ) (h : length w ≡ length a.value) where
  none-valid : (s : Shape) {k : List ℕ} {e n : ℕ} → args k 0 0 e n [] ≡ a → Valid (args_of s) a → Valid (args_of s) (valued w a)
  none-valid s q v =
      let e = ap (λ (x : Args). x.value) q in
      subst (λ (x : List ℕ). Valid (args_of s) (valued x a)) (sym e ∙ both-empty a.value w e h) v

  args-valid : (s : Shape) → Valid (args_of s) a → Bytes w → Valid (args_of s) (valued w a)
  unfolding args_of
  args-valid keyed v b = none-valid keyed (keyed_is a v) v
  args-valid writes v b =
      let t = type_valid _ _ _ _ a v in
      type_good _ _ _ _ t.0 (good-behind _ _ (good-behind _ _ (good-behind _ _ (value-good a.value w h b))) t.1)
  args-valid writes_if v b =
      let t = type_valid _ _ _ _ a v in
      type_good _ _ _ _ t.0 (good-behind _ _ (good-behind _ _ (good-behind _ _ (good-behind _ _ (value-good a.value w h b)))) t.1)
  args-valid keyed_if v b = none-valid keyed_if (keyed_if_is a v) v
  args-valid bare v b = none-valid bare (bare-is a v) v
  args-valid (bulk most) v b = none-valid (bulk most) (bulk-is a most v) v

pub value-valid : (r : Request) (w : List ℕ) → Valid request r → length w ≡ length r.args.value → Bytes w → Valid request (with_value w r)
value-valid r w v h b =
    let p = parts r v in
    whole-request (with_value w r)
    (record {
      id = p.id;
      version = p.version;
      op = p.op;
      name = p.name;
      flags = p.flags;
      intelligence = p.intelligence;
      topology = p.topology;
      args = args-valid r.args w h (shape_of r.op) p.args b;
    })

-- the value stands last: all bytes of a request before its value are those of the request with another value of the same length
pub record Last (x y u w : List ℕ) : Type 0 where
  pub lead : List ℕ
  pub this : x ≡ lead ++ u
  pub other : y ≡ lead ++ w

last-behind : {A B : Type 0} (c : Codec A) (d : A → Codec B) {a : A} {b b₁ : B} {u w : List ℕ} → Last ((d a).enc b) ((d a).enc b₁) u w
    → Last ((seq c d).enc (a, b)) ((seq c d).enc (a, b₁)) u w
unfolding seq
last-behind c d {a} {b} {b₁} {u} {w} l =
    record {
      lead = c.enc a ++ l.lead;
      this = ap (λ (z : List ℕ). c.enc a ++ z) l.this ∙ sym (append_assoc (c.enc a) l.lead u);
      other = ap (λ (z : List ℕ). c.enc a ++ z) l.other ∙ sym (append_assoc (c.enc a) l.lead w);
    }

last-limited : (lim : ℕ) (u w : List ℕ) → length w ≡ length u → Last ((limited lim).enc u) ((limited lim).enc w) u w
unfolding limited as_type seq guard raw
last-limited lim u w h = record { lead = v_int.enc (length u); this = refl; other = rw h }

module _ (a : Args) (w : List ℕ) (h : length w ≡ length a.value) where
  last_none : (x : List ℕ) {k : List ℕ} {e n : ℕ} → args k 0 0 e n [] ≡ a → Last x x a.value w
  last_none x q =
      let e = ap (λ (x : Args). x.value) q in
      record {
        lead = x;
        this = sym (append-nil x) ∙ ap (λ (z : List ℕ). x ++ z) e;
        other = sym (append-nil x) ∙ ap (λ (z : List ℕ). x ++ z) (both-empty a.value w e h);
      }

  args-last : (s : Shape) → Valid (args_of s) a → Last ((args_of s).enc a) ((args_of s).enc (valued w a)) a.value w
  unfolding args_of as_type
  args-last keyed v = last_none _ (keyed_is a v)
  args-last writes v = last-behind _ _ (last-behind _ _ (last-behind _ _ (last-limited value_limit a.value w h)))
  args-last writes_if v = last-behind _ _ (last-behind _ _ (last-behind _ _ (last-behind _ _ (last-limited value_limit a.value w h))))
  args-last keyed_if v = last_none _ (keyed_if_is a v)
  args-last bare v = last_none _ (bare-is a v)
  args-last (bulk most) v = last_none _ (bulk-is a most v)

module _ (r : Request) (w : List ℕ) (v : Valid request r) (h : length w ≡ length r.args.value) where
  pub value-last : Last (request.enc r) (request.enc (with_value w r)) r.args.value w
  unfolding request fields as_type
  value-last =
      last-behind _ _ (last-behind _ _ (last-behind _ _ (last-behind _ _ (last-behind _ _ (last-behind _ _ (last-behind _ _ (last-behind _ _ (last-behind _ _
      (args-last r.args w h (shape_of r.op) (parts r v).args)))))))))

  -- so both have the same length
  pub value_length : length (request.enc (with_value w r)) ≡ length (request.enc r)
  value_length =
      let l = value-last in
      rw (l.this, l.other, length-append, length-append) (omega arith)
