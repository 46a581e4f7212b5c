-- `records::moves::some_stray` meets its contract.
use Rattle.std.proofs.Common.{ℕ, suc, ◌+◌, ◌%◌, ◌^◌, leb, map, sym, ◌∙◌, rules, tests, arith}
use Rattle.std.proofs.lemmas.Iterator.{YieldsList-from_slice, YieldsList-from_map}
use Rattle.std.proofs.lemmas.Iterator.Consumers.{YieldsList-at, max_from_yields_List}
use Rattle.records.specs.Book.{stray}
use Rattle.records.proofs.Walk.{some_greatest, some_mapped, stray_above}
use Rattle.records.proofs.moves.some_stray.Goals as goal

pub returns : goal.returns
returns c =
    let n = c.args.states in
    let l = c.args.moves.now in
    let more = λ (x : ℕ). (x + 1) % 2 ^ 8 in
    some_greatest (suc n) c.is_some_and.result _ (λ x h. search rules) (map more l) c.max.result
    (max_from_yields_List _ _ c.max.ensures.ran
    (YieldsList-from_map _ more (YieldsList-at c.map.ensures.source (YieldsList-from_slice l cc)) c.map.ensures.closure (λ x r q k. search (rules, tests))))
    c.is_some_and.ensures
    ∙ sym (some_mapped (stray n) (leb (suc n)) more l (λ i h. stray_above n _ (omega (arith, c.type_inv.moves i))))
