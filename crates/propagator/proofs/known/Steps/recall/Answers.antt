-- `propagator::known::Steps::recall` meets its contract.
use borrow.Author.Rules.{rules}
use Rattle.model.specs.Passes.{reach}
use Rattle.records.specs.Read.{table}
use Rattle.propagator.proofs.known.Steps.recall.Goals as goal

pub invariant_of-self-clause-states : goal.invariant_of-self-clause-states
invariant_of-self-clause-states c =
    let letters = c.args.self.now.letters in
    (c.recall.ensures (reach (table letters.moves.table) letters.set) c.args.self.now.states (λ x p. search rules)).1

pub returns-clause-value : goal.returns-clause-value
returns-clause-value c =
    let letters = c.args.self.now.letters in
    (c.recall.ensures (reach (table letters.moves.table) letters.set) c.args.self.now.states (λ x p. search rules)).0
