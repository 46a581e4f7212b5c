-- `lines::answer::mask_line` meets its contract.
use Rattle.std.proofs.Common.{◌∙◌, sym, arith}
use Rattle.lines.proofs.Answered.{refused_line_is, answered_line_is}
use Rattle.lines.proofs.answer.mask_line.Goals as goal

pub answer_line-requires : goal.answer_line-requires
answer_line-requires c =
    let (within, recorded, _) = answered_line_is _ _ _ _ (λ i. omega (arith, c.type_inv.mask i)) c.requires _ c.narrow.ensures c.args.number _ c.in-Ok.is in
    (within, recorded)

pub returns-in-Ok : goal.returns-in-Ok
returns-in-Ok c =
    let (_, _, line) = answered_line_is _ _ _ _ (λ i. omega (arith, c.type_inv.mask i)) c.requires _ c.narrow.ensures c.args.number _ c.in-Ok.is in
    c.answer_line.ensures ∙ sym line

pub returns-in-Err : goal.returns-in-Err
returns-in-Err c =
    c.refused_line.ensures ∙ sym (refused_line_is _ _ _ _ (λ i. omega (arith, c.type_inv.mask i)) c.requires _ c.narrow.ensures c.args.number _ c.in-Err.is)
