-- `propagator::known::Steps::reached` meets its contract.
use mathlib.Core.Path.{◌∙◌}
use native.Mathlib.Omega.{arith}
use Rattle.propagator.proofs.Rounds.{reaching_stops, reaching_more}
use Rattle.propagator.proofs.known.Steps.reached.Goals as goal

pub returns-then-front-eq0-clause-value : goal.returns-then-front-eq0-clause-value
returns-then-front-eq0-clause-value c =
    reaching_stops c.args.self.now.letters.moves.small c.loop.invariant.reaching (rw c.loop.invariant.same at c.step.ensures.value) c.difference-front.ensures _
    c.if-front-eq0.true (omega arith)

pub loop-preserved : goal.loop-preserved
loop-preserved c =
    record {
      same = c.step.ensures.same ∙ c.loop.invariant.same;
      reaching = reaching_more c.args.self.now.letters.moves.small c.loop.invariant.reaching (rw c.loop.invariant.same at c.step.ensures.value) c.difference-front.ensures c.union-all.ensures;
    }
