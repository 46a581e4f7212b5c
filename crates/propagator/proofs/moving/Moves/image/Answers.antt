-- `propagator::moving::Moves::image` meets its contract.
use Prim.Native.Nat.{◌^◌}
use mathlib.Core.Path.{◌∙◌}
use borrow.Author.Rules.{rules}
use Rattle.std.proofs.lemmas.Iterator.Consumers.{fold_from_yields_List}
use Rattle.model.specs.Set.{either}
use Rattle.model.specs.Automaton.{next}
use Rattle.bitset.proofs.Going.{in_order}
use Rattle.bitset.proofs.Listed.{union_listed}
use Rattle.propagator.specs.Known.{image}
use Rattle.records.specs.Read.{table}
use Rattle.propagator.proofs.moving.Moves.image.Goals as goal

pub returns : goal.returns
unfolding image
returns c =
    fold_from_yields_List _ (λ a x. either a (2 ^ next (table c.args.self.table) x c.args.c)) 0 _ c.fold.ensures.ran (in_order _ _ c.members.ensures) (λ a x b q s. search rules)
    ∙ union_listed c.args.from (λ x. 2 ^ next (table c.args.self.table) x c.args.c)
