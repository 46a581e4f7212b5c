use Rattle.std.proofs.Common.{◌≤◌, length}
use Rattle.case_text.proofs.hex.read_bytes.Given as goal

abbrev pub invariant-loop-token : goal.invariant-loop-token
invariant-loop-token l = l.count ≤ length l.room
