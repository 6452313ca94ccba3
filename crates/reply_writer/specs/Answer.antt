-- A reply that is to be written, and how many bytes its body takes.
use Rattle.std.specs.Prelude.{List, cond, ◌&&◌, ℕ, ◌+◌, length, eqb, Option, None, Some}
use Rattle.wire.specs.Codec.{Codec}
use Rattle.wire.specs.Field.{limited}
use Rattle.field.specs.FieldRead.{limited_text}
use Rattle.message.specs.declared.Form.{Form}
use Rattle.message.specs.declared.Form.TheVariants as form
use Rattle.message.specs.Arguments.{is_empty, value_limit}
use Rattle.message.specs.Payload.{Payload, text_limit}
use Rattle.message.specs.Reply.{Reply, reply_of}
use Rattle.reply_writer.specs.Frame.{payload_of}
use Rattle.reply_writer.specs.declared.write.Answer.{Answer}

-- the reply, and its body
abbrev pub reply_in : Answer → Reply
reply_in a = reply_of a.head a.value.now a.text.now

abbrev pub payload_in : Answer → Payload
payload_in a = payload_of a.head a.value.now a.text.now

-- how many bytes a value takes that has a written form
abbrev pub size_of : {A : Type 0} → Codec A → A → Option ℕ
size_of c a = cond (c.ok a) (Some (length (c.enc a))) None

-- behind so many bytes
abbrev pub behind : ℕ → Option ℕ → Option ℕ
behind n None = None
behind n (Some m) = Some (n + m)

-- the bytes of a body with a value and a text, by its form
abbrev pub body_size : Form → ℕ → List ℕ → List ℕ → Option ℕ
body_size form.Nothing e v t = cond (eqb e 0 && is_empty v && is_empty t) (Some 0) None
body_size (form.Value lim) e v t = cond (eqb e 0 && is_empty t) (size_of (limited lim) v) None
body_size form.Versioned e v t = cond (is_empty t) (behind 8 (size_of (limited value_limit) v)) None
body_size form.Text e v t = cond (eqb e 0 && is_empty v) (size_of (limited_text text_limit) t) None
body_size form.Statistics e v t = None
body_size (form.Listed values) e v t = cond (eqb e 0 && is_empty v && is_empty t) (Some 1) None

abbrev pub size_in : Answer → Option ℕ
size_in a = body_size a.form a.head.entry.0 a.value.now a.text.now
