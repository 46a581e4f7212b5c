-- `Joined`'s `next` meets its contract.
use Rattle.std.proofs.Common.{◌≡◌, List, [], refl, ◌∙◌, sym, arith}
use Rattle.model.specs.declared.Block.{Block}
use Rattle.model.specs.NormalForm.{dropped, joined, normal}
use Rattle.model.specs.Size.{Room}
use Rattle.normal_form.specs.Joining.{perhaps}
use Rattle.operations.specs.declared.joined.Joined.{Joined}
use Rattle.operations.proofs.Joining.{last_steps, last_goes}
use Rattle.operations.proofs.joined.JoinedIterator.next.Goals as goal

-- what is still to come
abbrev rest : Joined → List Block
rest s = normal (perhaps s.joiner.held s.blocks)

pub returns-clause-steps : goal.returns-clause-steps
unfolding normal dropped joined
returns-clause-steps c =
    let ended : perhaps c.end.new.self.held c.next.new.self ≡ [] = rw (c.end.ensures.none, c.in_default.ensures.steps.1) refl in
    let none : normal (perhaps c.end.new.self.held c.next.new.self) ≡ [] = rw ended refl in
    let last : perhaps c.end.result [] ≡ rest c.args.self.now = c.end.ensures.made ∙ sym (rw c.in_default.ensures.steps.0 at c.loop-block.invariant.same) in
    last_steps rest c.args.self.now c.end.result (record { blocks = c.next.new.self; joiner = c.end.new.self }) none last

pub returns-clause-goes : goal.returns-clause-goes
unfolding normal dropped joined
returns-clause-goes c =
    let ended : perhaps c.end.new.self.held c.next.new.self ≡ [] = rw (c.end.ensures.none, c.in_default.ensures.steps.1) refl in
    let none : normal (perhaps c.end.new.self.held c.next.new.self) ≡ [] = rw ended refl in
    let last : perhaps c.end.result [] ≡ rest c.args.self.now = c.end.ensures.made ∙ sym (rw c.in_default.ensures.steps.0 at c.loop-block.invariant.same) in
    let room : Room 64 (perhaps c.end.new.self.held c.next.new.self) = rw ended (record { each = tt; sum = omega arith }) in
    last_goes rest c.args.self.now c.end.result (record { blocks = c.next.new.self; joiner = c.end.new.self }) none last _ room
