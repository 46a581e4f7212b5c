-- Every row holds of the definitions, by computing both sides.
-- Assumes nothing.
use Rattle.std.proofs.Common.{◌++◌, refl}
use Rattle.model.specs.Set.{has, some_below, union_below, one_member}
use Rattle.model.specs.Automaton.{next}
use Rattle.model.specs.Passes.{reach, after, before, between, rounds, first, fewest, forward, backward, pruned, final, kept, entries, finals, narrowed_list}
use Rattle.model.specs.Membership.{contains, within, piece, spells, accepts}
use Rattle.model.specs.NormalForm.{dropped, join, joined, normal}
use Rattle.model.specs.Verdict.{narrowed_mask, single, every, some_legal, some_illegal, verdict}
use Rattle.model.specs.Place.{place}
use Rattle.model.specs.Trials.{AllHold, rows, others}

-- 01's ten rows, and the facts beside them
pub trials : AllHold (rows ++ others)
unfolding has some_below union_below one_member next reach after before between rounds first fewest forward backward pruned final kept entries finals narrowed_list contains within piece spells accepts dropped join joined normal narrowed_mask single every some_legal some_illegal verdict place rows others
trials = (refl, (refl, (refl, (refl, (refl, (refl, (refl, (refl, (refl, (refl, (refl, (refl, (refl, (refl, (refl, (refl, (refl, (refl, tt))))))))))))))))))
