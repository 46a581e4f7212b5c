-- `propagator::letters::Letters::some_letter_to` meets its contract.
use mathlib.Core.Path.{◌∙◌}
use borrow.Author.Rules.{rules}
use borrow.Author.Tests.{tests}
use Rattle.std.proofs.lemmas.Iterator.Search.{any_from_yields_List}
use Rattle.model.specs.Set.{has}
use Rattle.model.specs.Automaton.{next}
use Rattle.bitset.proofs.Going.{in_order, called_at_each}
use Rattle.bitset.proofs.Listed.{any_listed}
use Rattle.propagator.specs.Moves.{leads}
use Rattle.records.specs.Read.{table}
use Rattle.propagator.proofs.letters.Letters.some_letter_to.Goals as goal

pub any-requires-clause-callable : goal.any-requires-clause-callable
any-requires-clause-callable c = called_at_each _ _ c.members.ensures (λ x q s. search rules) (λ x m. let below = c.args.self.below x m in search rules)

pub returns : goal.returns
unfolding leads
returns c =
    any_from_yields_List (λ x. has c.args.end (next (table c.args.self.moves.table) c.args.q x)) _ _ _ c.any.ensures.ran (in_order _ _ c.members.ensures) (λ x b q s. search (rules, tests))
    ∙ any_listed c.args.self.set (λ x. has c.args.end (next (table c.args.self.moves.table) c.args.q x))
