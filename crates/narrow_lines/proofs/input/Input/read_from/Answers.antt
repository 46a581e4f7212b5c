-- The bytes that a read brings stand behind those held.
use Rattle.std.proofs.Common.{take, arith, rules, length-append, length-take}
use Rattle.std.proofs.lemmas.List.{take-append-le}
use lib.Seq.{take-append-add}
use Rattle.narrow_lines.proofs.input.Input.read_from.Goals as goal

pub returns-in-Ok : goal.returns-in-Ok
returns-in-Ok g c = record {
  more = take c.in-Ok.more c.read.new.buf;
  behind = grind (arith, take-append-add, take-append-le, length-take);
  grows = grind (arith, take-append-add, take-append-le, length-take, length-append);
  read = search rules;
}
