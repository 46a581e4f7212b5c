-- `propagator::letters::Letters::raise` meets its contract.
use Prim.Native.Nat.{◌^◌}
use mathlib.Core.Path.{◌∙◌}
use borrow.Author.Rules.{rules}
use borrow.Author.Tests.{tests}
use Rattle.std.proofs.lemmas.Iterator.Consumers.{YieldsList-from_filter, fold_from_yields_List}
use Rattle.model.specs.Set.{either}
use Rattle.bitset.proofs.Going.{in_order, called_along, in_picked}
use Rattle.bitset.proofs.Listed.{members_listed}
use Rattle.propagator.specs.Moves.{leads}
use Rattle.records.specs.Read.{table}
use Rattle.propagator.proofs.Levels.{level_raised}
use Rattle.propagator.proofs.letters.Letters.raise.Goals as goal

pub fold-more-requires-clause-callable : goal.fold-more-requires-clause-callable
fold-more-requires-clause-callable c =
    let test = leads (table c.args.self.moves.table) c.args.self.set c.args.level in
    let order = in_order c.difference.result _ (c.filter.ensures.source ∙ c.members.ensures) in
    called_along (YieldsList-from_filter _ test order c.filter.ensures.closure (λ x b s k. search (rules, tests))) (λ b x s k. search rules)
    (λ b x m. let small = (in_picked c.difference.result test x m).small in search rules)

pub returns : goal.returns
returns c =
    let test = leads (table c.args.self.moves.table) c.args.self.set c.args.level in
    let order = in_order c.difference.result _ (c.filter.ensures.source ∙ c.members.ensures) in
    c.union.ensures
    ∙ level_raised _ c.args.self.moves.small _ c.args.within _ _ _ (search rules) c.difference.ensures
    (fold_from_yields_List _ (λ a x. either a (2 ^ x)) 0 _ c.fold-more.ensures.ran
    (YieldsList-from_filter _ test order c.filter.ensures.closure (λ x b s k. search (rules, tests))) (λ a x b s k. search rules)
    ∙ members_listed c.difference.result test)
