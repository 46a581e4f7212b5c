use Rattle.std.proofs.Common.{◌≡◌, ℕ, ◌<◌, ◌≤◌, length, drop}
use Rattle.model.specs.DashedString.{block_at}
use Rattle.model.specs.NormalForm.{normal}
use Rattle.normal_form.proofs.normalize.Given as goal

abbrev pub invariant-loop-i : goal.invariant-loop-i
invariant-loop-i l =
    let first = l.initial in
    record {
      behind : l.i ≤ l.at;
      within : l.at ≤ length l.blocks;
      before : (j : ℕ) → j < l.i → block_at l.blocks j ≡ block_at first.blocks j;
      made : drop l.at l.blocks ≡ normal (drop l.i first.blocks);
    }
