-- `files::serve_next` meets its contract. Assumes nothing.
use mathlib.Core.Path.{refl}
use mathlib.Core.Logic.{inl}
use native.Mathlib.Omega.{arith}
use Rattle.files.proofs.NextLaws.{Called, refuses, serving, taken-within}
use Rattle.files.proofs.serve_next.Goals as goal

pub returns-then-buf-le-LONGEST : goal.returns-then-buf-le-LONGEST
returns-then-buf-le-LONGEST c =
    record {
      why = inl (refl, inl c.if-buf-le-LONGEST.true);
      lies = record { order = omega arith; within = omega arith };
      same = record { buffer = refl; table = refl; list = refl };
    }

pub go_on-requires : goal.go_on-requires
go_on-requires c =
    let v = (let called' : let a = c.args in
    Called a.buf.now a.table.now a.out.now a.s c.serve_lines.result c.serve_lines.new.out c.serve_lines.new.table = record { lies = record { order = omega arith; within = omega arith }; long = omega arith; lines = c.serve_lines.ensures } in called') in
    let w = serving v _ c.in-Ok.is in record { taken_bound = taken-within w.0 w.1; held_in_bounds = v.lies.within }

pub returns-in-Err : goal.returns-in-Err
returns-in-Err c = refuses ((let called' : let a = c.args in
    Called a.buf.now a.table.now a.out.now a.s c.serve_lines.result c.serve_lines.new.out c.serve_lines.new.table = record { lies = record { order = omega arith; within = omega arith }; long = omega arith; lines = c.serve_lines.ensures } in called')) _ c.in-Err.is

pub returns-in-Ok : goal.returns-in-Ok
returns-in-Ok c =
    let w = serving ((let called' : let a = c.args in
    Called a.buf.now a.table.now a.out.now a.s c.serve_lines.result c.serve_lines.new.out c.serve_lines.new.table = record { lies = record { order = omega arith; within = omega arith }; long = omega arith; lines = c.serve_lines.ensures } in called')) _ c.in-Ok.is in
    c.go_on.ensures _ _ _ _ w.0 w.1
