use Prim.Native.Nat.{◌-◌}
use mathlib.Core.Path.{◌≡◌}
use Rattle.lines.specs.declared.Pause.TheVariants.{Full}
use Rattle.lines.proofs.Running.{Running}
use Rattle.lines.proofs.masks.run.Given as goal

abbrev pub invariant-loop-out : goal.invariant-loop-out
invariant-loop-out l = record {
  running : Running l.book l.input.bytes.now l.input.ended l.first l.out l.progress.taken l.progress.size l.progress.number;
  full : l.progress.pause ≡ Full;
}

abbrev pub decreases-loop-out : goal.decreases-loop-out
decreases-loop-out l = 4294967296 - l.progress.number
