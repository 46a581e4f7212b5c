-- `propagator::known::Steps::recall_image` meets its contract.
use borrow.Author.Rules.{rules}
use Rattle.records.specs.Read.{table}
use Rattle.propagator.specs.Known.{image}
use Rattle.propagator.proofs.known.Steps.recall_image.Goals as goal

pub invariant_of-self-clause-images : goal.invariant_of-self-clause-images
invariant_of-self-clause-images c =
    let self = c.args.self.now in
    (c.recall.ensures (image (table self.letters.moves.table) self.from) self.images (λ x p. search rules)).1

pub returns-clause-value : goal.returns-clause-value
returns-clause-value c =
    let self = c.args.self.now in
    (c.recall.ensures (image (table self.letters.moves.table) self.from) self.images (λ x p. search rules)).0
