use Rattle.std.proofs.Common.{ℕ, ◌-◌, ◌<◌, T, ◌↔◌}
use Rattle.membership.specs.Marks.{marked, outside, one_more, Last, Ends}
use Rattle.membership.proofs.marking.extend.Given as goal

abbrev pub invariant-loop-j : goal.invariant-loop-j
invariant-loop-j l =
    record {
      run : Last (outside l.block.base l.word) (l.j - 1) l.start;
      latest : Last (marked l.from) (l.j - l.block.lower) (one_more l.begin);
      done : (k : ℕ) → k < l.j → T (marked l.to k) ↔ Ends l.block l.word l.from k;
    }
