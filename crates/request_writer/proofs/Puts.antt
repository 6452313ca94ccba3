-- Writing field after field, where the whole has a written form and there is room for it. Assumes nothing.
use mathlib.Core.Path.{◌≡◌, refl, sym, ap, subst, ◌∙◌}
use mathlib.Core.List.{List}
use mathlib.Core.Bool.{Bool, true, false, ◌&&◌}
use Prim.Native.Nat.{ℕ}
use native.Mathlib.Nat.{add-zero}
use native.Mathlib.Omega.{arith}
use lib.ListN.{length-append}
use lib.Dec.{eqb, leb}
use Rattle.wire.specs.Codec.{Codec, empty, byte, guard, seq, as_type}
use Rattle.wire.specs.Number.{v_int, v_long}
use Rattle.wire.specs.Field.{entry_version, limited}
use Rattle.wire.specs.Write.{Wrote, put_at}
use Rattle.wire.proofs.Laws.{seq-valid, guard-valid, type_valid}
use Rattle.wire.proofs.WriteLaws.{laid_none, wrote-seq, wrote-guard, wrote_type, put-wrote}
use Rattle.field.specs.FieldRead.{limited_text}
use Rattle.message.specs.declared.Operation.{Operation}
use Rattle.message.specs.Operation.{code_of}
use Rattle.message.specs.Arguments.{Shape, keyed, writes, writes_if, keyed_if, bare, bulk, shape_of, Args, args_of, name_limit, key_limit, value_limit}
use Rattle.message.specs.Request.{op_fits, operation, transaction, is_version, edition_at, fields, Request, request}
use Rattle.request_writer.specs.Parts.{Limits, limits_of, put_sent, Ready}
use Rattle.request_writer.proofs.Rules.{Sends, sends}

-- the writer of a field
put : {A : Type 0} (c : Codec A) {a : A} {at r : ℕ} {old new : List ℕ} → Ready c a at old → (r, new) ≡ put_at c a at old → Wrote c a old new at r
put c {a} {at} {r} {old} {new} x e = put-wrote c a at old x.good x.room new r e

ready-guard : {A : Type 0} (test : A → Bool) (k : ℕ) (c : Codec A) {a : A} {at : ℕ} {old : List ℕ} → Ready (guard test k c) a at old → Ready c a at old
unfolding guard
ready-guard test k c {a} x = record { good = (guard-valid test k c a x.good).1; room = x.room }

ready_type : {A B : Type 0} (test : B → Bool) (to : A → B) (from : B → A) (c : Codec A) {b : B} {at : ℕ} {old : List ℕ}
    → Ready (as_type test to from c) b at old → Ready c (from b) at old
unfolding as_type
ready_type test to from c {b} x = record { good = (type_valid test to from c b x.good).1; room = x.room }

put-guard : {A : Type 0} (test : A → Bool) (k : ℕ) (c : Codec A) {a : A} {at r : ℕ} {old new : List ℕ} → Ready (guard test k c) a at old
    → (r, new) ≡ put_at c a at old → Wrote (guard test k c) a old new at r
put-guard test k c x e = wrote-guard test k c (put c (ready-guard test k c x) e)

module _ {A : Type 0} {B : A → Type 0} (c : Codec A) (d : (a : A) → Codec (B a)) {p : (a : A) × B a} {at : ℕ} {old : List ℕ} (x : Ready (seq c d) p at old) where
  first : Ready c p.0 at old
  unfolding seq
  first = record { good = (seq-valid c d p x.good).0; room = omega (arith, x.room, length-append (c.enc p.0) ((d p.0).enc p.1)) }

  second : {new : List ℕ} {r : ℕ} → Wrote c p.0 old new at r → Ready (d p.0) p.1 r new
  unfolding seq
  second w = record { good = (seq-valid c d p x.good).1; room = omega (arith, x.room, length-append (c.enc p.0) ((d p.0).enc p.1), w.next, w.long) }

-- the arguments of each shape
module _ (a : Args) {at : ℕ} {o₀ : List ℕ} where
  put_keyed : {r : ℕ} {o₁ : List ℕ} → Ready (args_of keyed) a at o₀ → (r, o₁) ≡ put_at (limited key_limit) a.key at o₀ → Wrote (args_of keyed) a o₀ o₁ at r
  unfolding args_of
  put_keyed x e = wrote_type _ _ _ _ (put (limited key_limit) (ready_type _ _ _ _ x) e)

  put_keyed_if : {r₁ r₂ : ℕ} {o₁ o₂ : List ℕ} → Ready (args_of keyed_if) a at o₀ → (r₁, o₁) ≡ put_at (limited key_limit) a.key at o₀
      → (r₂, o₂) ≡ put_at entry_version a.entry_version r₁ o₁ → Wrote (args_of keyed_if) a o₀ o₂ at r₂
  unfolding args_of
  put_keyed_if x e₁ e₂ =
      let y = ready_type _ _ _ _ x in
      let w = put (limited key_limit) (first _ _ y) e₁ in
      wrote_type _ _ _ _ (wrote-seq _ _ w (put entry_version (second _ _ y w) e₂))

  put_writes : {r₁ r₂ r₃ r₄ : ℕ} {o₁ o₂ o₃ o₄ : List ℕ} → Ready (args_of writes) a at o₀ → (r₁, o₁) ≡ put_at (limited key_limit) a.key at o₀
      → (r₂, o₂) ≡ put_at v_int a.lifespan r₁ o₁ → (r₃, o₃) ≡ put_at v_int a.max_idle r₂ o₂ → (r₄, o₄) ≡ put_at (limited value_limit) a.value r₃ o₃
      → Wrote (args_of writes) a o₀ o₄ at r₄
  unfolding args_of
  put_writes x e₁ e₂ e₃ e₄ =
      let y = ready_type _ _ _ _ x in
      let w₁ = put (limited key_limit) (first _ _ y) e₁ in
      let y₂ = second _ _ y w₁ in
      let w₂ = put v_int (first _ _ y₂) e₂ in
      let y₃ = second _ _ y₂ w₂ in
      let w₃ = put v_int (first _ _ y₃) e₃ in
      wrote_type _ _ _ _ (wrote-seq _ _ w₁ (wrote-seq _ _ w₂ (wrote-seq _ _ w₃ (put (limited value_limit) (second _ _ y₃ w₃) e₄))))

  put_writes_if : {r₁ r₂ r₃ r₄ r₅ : ℕ} {o₁ o₂ o₃ o₄ o₅ : List ℕ} → Ready (args_of writes_if) a at o₀ → (r₁, o₁) ≡ put_at (limited key_limit) a.key at o₀
      → (r₂, o₂) ≡ put_at v_int a.lifespan r₁ o₁ → (r₃, o₃) ≡ put_at v_int a.max_idle r₂ o₂ → (r₄, o₄) ≡ put_at entry_version a.entry_version r₃ o₃
      → (r₅, o₅) ≡ put_at (limited value_limit) a.value r₄ o₄ → Wrote (args_of writes_if) a o₀ o₅ at r₅
  unfolding args_of
  put_writes_if x e₁ e₂ e₃ e₄ e₅ =
      let y = ready_type _ _ _ _ x in
      let w₁ = put (limited key_limit) (first _ _ y) e₁ in
      let y₂ = second _ _ y w₁ in
      let w₂ = put v_int (first _ _ y₂) e₂ in
      let y₃ = second _ _ y₂ w₂ in
      let w₃ = put v_int (first _ _ y₃) e₃ in
      let y₄ = second _ _ y₃ w₃ in
      let w₄ = put entry_version (first _ _ y₄) e₄ in
      wrote_type _ _ _ _ (wrote-seq _ _ w₁ (wrote-seq _ _ w₂ (wrote-seq _ _ w₃ (wrote-seq _ _ w₄ (put (limited value_limit) (second _ _ y₄ w₄) e₅)))))

  put_bare : Ready (args_of bare) a at o₀ → Wrote (args_of bare) a o₀ o₀ at at
  unfolding args_of as_type empty
  put_bare x = record { next = sym (add-zero at); list = refl; long = refl }

  put_bulk : (most : ℕ) {r : ℕ} {o₁ : List ℕ} → Ready (args_of (bulk most)) a at o₀ → (r, o₁) ≡ put_at v_int a.bulk at o₀
      → Wrote (args_of (bulk most)) a o₀ o₁ at r
  unfolding args_of
  put_bulk most x e = wrote_type _ _ _ _ (put-guard (λ n. leb n most) 8 v_int (ready_type _ _ _ _ x) e)

-- the arguments in their order, each where it is sent
put_shape : (shape : Shape) (a : Args) {at r₁ r₂ r₃ r₄ r₅ r₆ : ℕ} {o₀ o₁ o₂ o₃ o₄ o₅ o₆ : List ℕ} → Sends shape → Ready (args_of shape) a at o₀
    → (r₁, o₁) ≡ put_sent (limits_of shape).key (limited (limits_of shape).key) a.key at o₀
    → (r₂, o₂) ≡ put_sent (limits_of shape).time v_int a.lifespan r₁ o₁
    → (r₃, o₃) ≡ put_sent (limits_of shape).time v_int a.max_idle r₂ o₂
    → (r₄, o₄) ≡ put_sent (limits_of shape).entry entry_version a.entry_version r₃ o₃
    → (r₅, o₅) ≡ put_sent (limits_of shape).value (limited (limits_of shape).value) a.value r₄ o₄
    → (r₆, o₆) ≡ put_sent (limits_of shape).bulk v_int a.bulk r₅ o₅
    → Wrote (args_of shape) a o₀ o₆ at r₆
put_shape keyed a t x e₁ e₂ e₃ e₄ e₅ e₆ = put_keyed a x (e₆ ∙ e₅ ∙ e₄ ∙ e₃ ∙ e₂ ∙ e₁)
put_shape writes a t x e₁ e₂ e₃ e₄ e₅ e₆ =
    put_writes a x e₁ e₂ e₃ (e₆ ∙ e₅ ∙ ap (λ (p : ℕ × List ℕ). put_at (limited value_limit) a.value p.0 p.1) e₄)
put_shape writes_if a t x e₁ e₂ e₃ e₄ e₅ e₆ = put_writes_if a x e₁ e₂ e₃ e₄ (e₆ ∙ e₅)
put_shape keyed_if a t x e₁ e₂ e₃ e₄ e₅ e₆ =
    put_keyed_if a x e₁ (e₆ ∙ e₅ ∙ e₄ ∙ ap (λ (p : ℕ × List ℕ). put_at entry_version a.entry_version p.0 p.1) (e₃ ∙ e₂))
put_shape bare a {at = at} {o₀ = o₀} t x e₁ e₂ e₃ e₄ e₅ e₆ = let e = e₆ ∙ e₅ ∙ e₄ ∙ e₃ ∙ e₂ ∙ e₁ in subst (λ (p : ℕ × List ℕ). Wrote (args_of bare) a o₀ p.1 at p.0) (sym e) (put_bare a x)
put_shape (bulk most) a t x e₁ e₂ e₃ e₄ e₅ e₆ =
    put_bulk a most x (rw t at e₆ ∙ ap (λ (p : ℕ × List ℕ). put_at v_int a.bulk p.0 p.1) (e₅ ∙ e₄ ∙ e₃ ∙ e₂ ∙ e₁))

pub put_args : (o : Operation) (a : Args) (l : Limits) → l ≡ limits_of (shape_of o) → {at r₁ r₂ r₃ r₄ r₅ r₆ : ℕ} {o₀ o₁ o₂ o₃ o₄ o₅ o₆ : List ℕ}
    → Ready (args_of (shape_of o)) a at o₀
    → (r₁, o₁) ≡ put_sent l.key (limited l.key) a.key at o₀
    → (r₂, o₂) ≡ put_sent l.time v_int a.lifespan r₁ o₁
    → (r₃, o₃) ≡ put_sent l.time v_int a.max_idle r₂ o₂
    → (r₄, o₄) ≡ put_sent l.entry entry_version a.entry_version r₃ o₃
    → (r₅, o₅) ≡ put_sent l.value (limited l.value) a.value r₄ o₄
    → (r₆, o₆) ≡ put_sent l.bulk v_int a.bulk r₅ o₅
    → Wrote (args_of (shape_of o)) a o₀ o₆ at r₆
put_args o a l e x e₁ e₂ e₃ e₄ e₅ e₆ =
    put_shape (shape_of o) a (sends o) x (rw e at e₁) (rw e at e₂) (rw e at e₃) (rw e at e₄) (rw e at e₅) (rw e at e₆)

-- the fields that are made of a byte
put-operation : (v : ℕ) {o : Operation} {at r : ℕ} {old new : List ℕ} → Ready (operation (edition_at v)) o at old → (b : ℕ) → b ≡ code_of o → (r, new) ≡ put_at byte b at old
    → Wrote (operation (edition_at v)) o old new at r
unfolding operation
put-operation v x b e f = wrote_type _ _ _ _ (put-guard (op_fits (edition_at v)) 4 byte (ready_type _ _ _ _ x) (rw e at f))

-- the transaction type: a byte 0, or nothing
pub put_type : (at : ℕ) (old : List ℕ) → put_at byte 0 at old ≡ put_at (transaction true) tt at old
unfolding put_at transaction as_type guard byte
put_type at old = refl

pub put_no_type : (at : ℕ) (old : List ℕ) → (at, old) ≡ put_at (transaction false) tt at old
unfolding put_at transaction empty
put_no_type at old = laid_none at old

-- a request whose header is written: its arguments can be, and then all of it is
pub record Headed (q : Request) (old new : List ℕ) (at : ℕ) : Type 0 where
  pub ready : Ready (args_of (shape_of q.op)) q.args at new
  pub wrote : (o : List ℕ) (r : ℕ) → Wrote (args_of (shape_of q.op)) q.args new o at r → Wrote request q old o 0 r

pub put_header : (q : Request) {o₀ o₁ o₂ o₃ o₄ o₅ o₆ o₇ o₈ o₉ : List ℕ} {r₁ r₂ r₃ r₄ r₅ r₆ r₇ r₈ r₉ : ℕ}
    → Ready request q 0 o₀
    → (r₁, o₁) ≡ put_at byte 0xa0 0 o₀
    → (r₂, o₂) ≡ put_at v_long q.id r₁ o₁
    → (r₃, o₃) ≡ put_at byte q.version r₂ o₂
    → (b : ℕ) → b ≡ code_of q.op → (r₄, o₄) ≡ put_at byte b r₃ o₃
    → (r₅, o₅) ≡ put_at (limited_text name_limit) q.name r₄ o₄
    → (r₆, o₆) ≡ put_at v_int q.flags r₅ o₅
    → (r₇, o₇) ≡ put_at byte q.intelligence r₆ o₆
    → (r₈, o₈) ≡ put_at v_int q.topology r₇ o₇
    → (r₉, o₉) ≡ put_at (transaction (edition_at q.version).transaction) tt r₈ o₈
    → Headed q o₀ o₉ r₉
unfolding request fields
put_header q x e₁ e₂ e₃ b p e₄ e₅ e₆ e₇ e₈ e₉ =
    let v = q.version in
    let x₁ = ready_type _ _ _ _ x in
    let w₁ = put-guard (λ m. eqb m 0xa0) 1 byte (first _ _ x₁) e₁ in
    let x₂ = second _ _ x₁ w₁ in
    let w₂ = put v_long (first _ _ x₂) e₂ in
    let x₃ = second _ _ x₂ w₂ in
    let w₃ = put-guard is_version 3 byte (first _ _ x₃) e₃ in
    let x₄ = second _ _ x₃ w₃ in
    let w₄ = put-operation v (first _ _ x₄) b p e₄ in
    let x₅ = second _ _ x₄ w₄ in
    let w₅ = put (limited_text name_limit) (first _ _ x₅) e₅ in
    let x₆ = second _ _ x₅ w₅ in
    let w₆ = put-guard (λ f. leb f (edition_at v).flags) 8 v_int (first _ _ x₆) e₆ in
    let x₇ = second _ _ x₆ w₆ in
    let w₇ = put-guard (λ i. leb 1 i && leb i 3) 8 byte (first _ _ x₇) e₇ in
    let x₈ = second _ _ x₇ w₇ in
    let w₈ = put v_int (first _ _ x₈) e₈ in
    let x₉ = second _ _ x₈ w₈ in
    let w₉ = put (transaction (edition_at v).transaction) (first _ _ x₉) e₉ in
    record {
      ready = second _ _ x₉ w₉;
      wrote = λ o r w.
          wrote_type _ _ _ _
          (wrote-seq _ _ w₁
          (wrote-seq _ _ w₂ (wrote-seq _ _ w₃ (wrote-seq _ _ w₄ (wrote-seq _ _ w₅ (wrote-seq _ _ w₆ (wrote-seq _ _ w₇ (wrote-seq _ _ w₈ (wrote-seq _ _ w₉ w)))))))));
    }
