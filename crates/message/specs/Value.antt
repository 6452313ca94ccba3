-- A request with another value.
use Rattle.std.specs.Prelude.{List, ℕ}
use Rattle.message.specs.Arguments.{Args, args}
use Rattle.message.specs.Request.{Request}

abbrev pub valued : List ℕ → Args → Args
valued w a = args a.key a.lifespan a.max_idle a.entry_version a.bulk w

abbrev pub with_value : List ℕ → Request → Request
with_value w r =
    record {
      id = r.id;
      version = r.version;
      op = r.op;
      name = r.name;
      flags = r.flags;
      intelligence = r.intelligence;
      topology = r.topology;
      args = valued w r.args;
    }
