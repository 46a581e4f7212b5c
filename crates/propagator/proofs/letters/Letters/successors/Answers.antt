-- `propagator::letters::Letters::successors` meets its contract.
use Prim.Native.Nat.{◌^◌}
use mathlib.Core.Path.{◌∙◌}
use borrow.Author.Rules.{rules}
use Rattle.std.proofs.lemmas.Iterator.Consumers.{fold_from_yields_List}
use Rattle.model.specs.Set.{either}
use Rattle.model.specs.Automaton.{next}
use Rattle.model.specs.Passes.{reach}
use Rattle.bitset.proofs.Going.{in_order, called_with_each}
use Rattle.bitset.proofs.Listed.{union_listed}
use Rattle.records.specs.Read.{table}
use Rattle.propagator.proofs.letters.Letters.successors.Goals as goal

pub fold-requires-clause-callable : goal.fold-requires-clause-callable
fold-requires-clause-callable c = called_with_each _ _ c.members.ensures (λ b x q s. search rules) (λ b x m. let below = c.args.self.below x m in search rules)

pub returns : goal.returns
unfolding reach
returns c =
    fold_from_yields_List _ (λ a x. either a (2 ^ next (table c.args.self.moves.table) c.args.q x)) 0 _ c.fold.ensures.ran (in_order _ _ c.members.ensures) (λ a x b q s. search rules)
    ∙ union_listed c.args.self.set (λ x. 2 ^ next (table c.args.self.moves.table) c.args.q x)
