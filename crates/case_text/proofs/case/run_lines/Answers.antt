-- A call of `answer` is one step more; a line that is no case is none.
use Rattle.std.proofs.Common.{inl, inr, rules, of_calls}
use Rattle.std.proofs.lemmas.List.{map-append}
use Rattle.std.proofs.lemmas.Fn.{FoldsTo-push}
use Rattle.case_text.proofs.case.run_lines.Goals as goal

pub loop-line-preserved : goal.loop-line-preserved
loop-line-preserved g c = (search rules, rw map-append (FoldsTo-push _ _ _ _ _ _ c.loop-line.invariant.1 (inr (search rules))))

pub loop-line-preserved-in-Continue-branch-3 : goal.loop-line-preserved-in-Continue-branch-3
loop-line-preserved-in-Continue-branch-3 g c = (
  search (rules, of_calls),
  rw map-append (FoldsTo-push _ _ _ _ _ _ c.loop-line.invariant.1 (inl (search rules, (_, _, _, _, c.in_ok-case.ensures, rw c.in_ok-answer.was at c.answer.ensures)))),
)
