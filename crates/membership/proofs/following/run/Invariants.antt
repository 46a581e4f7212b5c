use Rattle.std.proofs.Common.{◌≡◌, ◌<◌, drop}
use Rattle.model.specs.Automaton as spec
use Rattle.records.specs.Read as book
use Rattle.membership.proofs.following.run.Given as goal

abbrev pub invariant-loop-letter : goal.invariant-loop-letter
invariant-loop-letter l =
    let t = book.table l.table in
    record { alive : l.state < l.table.states; same : spec.run t l.state (drop l.letter-index l.word) ≡ spec.run t l.start l.word }
