-- The parts of a request, for the contracts of the functions that write them.
use Rattle.std.specs.Prelude.{List, Bool, ◌&&◌, ℕ, ◌+◌, length, eqb, leb, cond}
use Rattle.wire.specs.Codec.{Codec, Valid}
use Rattle.wire.specs.Number.{v_long}
use Rattle.wire.specs.Write.{Room, put_at}
use Rattle.text.specs.Text.{is_text}
use Rattle.message.specs.Arguments.{Shape, keyed, writes, writes_if, keyed_if, bare, bulk, Args, shape_of, name_limit, key_limit, value_limit}
use Rattle.message.specs.Request.{Request, request_of, is_version, edition_at}
use Rattle.request_writer.specs.declared.write.Content.{Content}
use Rattle.request_writer.specs.declared.write.Limits as code-limits

-- the request, and its arguments
abbrev pub request_in : Content → Request
request_in c = request_of c.head c.name.now c.key.now c.value.now

abbrev pub args_in : Content → Args
args_in c = (request_in c).args

-- the greatest length or number of each argument: 0 where it is not sent
pub record Limits : Type 0 where
  pub key : ℕ
  pub time : ℕ
  pub entry : ℕ
  pub value : ℕ
  pub bulk : ℕ

abbrev pub limits : ℕ → ℕ → ℕ → ℕ → ℕ → Limits
limits k t e v b = record { key = k; time = t; entry = e; value = v; bulk = b }

abbrev pub limits_of : Shape → Limits
limits_of keyed = limits key_limit 0 0 0 0
limits_of writes = limits key_limit 0xffff_ffff 0 value_limit 0
limits_of writes_if = limits key_limit 0xffff_ffff 0xffff_ffff_ffff_ffff value_limit 0
limits_of keyed_if = limits key_limit 0 0xffff_ffff_ffff_ffff 0 0
limits_of bare = limits 0 0 0 0 0
limits_of (bulk most) = limits 0 0 0 0 most

abbrev pub as_limits : code-limits.Limits → Limits
as_limits l = limits l.key l.time l.entry l.value l.bulk

-- whether arguments are within limits
abbrev pub is_within : Limits → Args → Bool
is_within l a =
    leb (length a.key) l.key && leb a.lifespan l.time && leb a.max_idle l.time && leb a.entry_version l.entry && leb (length a.value) l.value
    && leb a.bulk l.bulk

-- the rules of a request, in the order of its bytes
abbrev pub keeps_rules : Request → Bool
keeps_rules q =
    leb q.id 0x7fff_ffff_ffff_ffff && is_version q.version && (edition_at q.version).serves q.op && leb q.flags (edition_at q.version).flags
    && leb 1 q.intelligence && leb q.intelligence 3 && leb q.topology 0xffff_ffff && leb (length q.name) name_limit && is_text q.name
    && is_within (limits_of (shape_of q.op)) q.args

-- how many bytes a length and so many bytes take, and the arguments
abbrev pub size_of : List ℕ → ℕ
size_of s = length (v_long.enc (length s)) + length s

abbrev pub times_size : Args → ℕ
times_size a = length (v_long.enc a.lifespan) + length (v_long.enc a.max_idle)

-- an argument whose limit is 0 is not sent
abbrev pub sent_size : ℕ → ℕ → ℕ
sent_size lim n = cond (eqb lim 0) 0 n

abbrev pub args_size : Limits → Args → ℕ
args_size l a =
    sent_size l.key (size_of a.key) + sent_size l.time (times_size a) + sent_size l.entry 8 + sent_size l.value (size_of a.value)
    + sent_size l.bulk (length (v_long.enc a.bulk))

-- the writer of an argument
abbrev pub put_sent : {A : Type 0} → ℕ → Codec A → A → ℕ → List ℕ → ℕ × List ℕ
put_sent lim c a at old = cond (eqb lim 0) (at, old) (put_at c a at old)

-- a value has a written form, and there is room for it
pub record Ready {A : Type 0} (c : Codec A) (a : A) (at : ℕ) (old : List ℕ) : Type 0 where
  pub good : Valid c a
  pub room : Room c a at old
