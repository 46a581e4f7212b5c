-- `operations::narrowing::judge` meets its contract.
use native.Mathlib.Omega.{arith}
use Rattle.operations.proofs.Judging.{judge_all, judge_one, judge_some}
use Rattle.operations.proofs.narrowing.judge.Goals as goal

pub returns-then-intersection-states : goal.returns-then-intersection-states
returns-then-intersection-states c = judge_all _ _ (omega arith) _ c.intersection.ensures _ c.if-intersection-states.true

pub returns-then-singles : goal.returns-then-singles
returns-then-singles c = judge_one _ _ (omega arith) _ c.intersection.ensures _ c.if-intersection-states.false c.if-singles.true

pub returns : goal.returns
returns c = judge_some _ _ (omega arith) _ c.intersection.ensures _ c.if-intersection-states.false c.if-singles.false
