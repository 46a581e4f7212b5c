use Rattle.records.specs.Read.{table}
use Rattle.propagator.proofs.Narrowing.{Narrowing}
use Rattle.propagator.proofs.letters.Letters.narrow_place.Given as goal

abbrev pub invariant-loop-q : goal.invariant-loop-q
invariant-loop-q l = Narrowing (table l.self.moves.table) l.self.set l.from l.end l.letters l.states l.q-iterator
