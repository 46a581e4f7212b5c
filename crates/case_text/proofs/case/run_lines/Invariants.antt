use Rattle.std.proofs.Common.{map}
use Rattle.std.specs.List.{FoldsTo}
use Rattle.case_text.specs.Case.{Answered}
use Rattle.case_text.proofs.case.run_lines.Given as goal

abbrev pub invariant-loop-line : goal.invariant-loop-line
invariant-loop-line g l =
    goal.F-IsAlwaysCallable g l.answer ×
    FoldsTo (Answered (goal.F-step g)) l.fn.answer (map (λ line. line.now) l.yielded) l.answer
