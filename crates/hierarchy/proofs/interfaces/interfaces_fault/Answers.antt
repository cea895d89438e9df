use Rattle.std.proofs.Common.{◌<◌, ◌∙◌, arith, length, sym}
use Rattle.card.specs.Writing.{subnet_bit}
use Rattle.hierarchy.specs.declared.CardFault.TheVariants.{NoInterface}
use Rattle.hierarchy.proofs.WalkLaws.{first_fails, first_passes}
use Rattle.hierarchy.proofs.TypeLaws.{interfaced, later_interfaced}
use Rattle.hierarchy.proofs.interfaces.interfaces_fault.Goals as goal

pub returns-then-not-has_interface : goal.returns-then-not-has_interface
returns-then-not-has_interface c =
    let d = c.args.card.now in
    let z = c.loop-i in
    let l : z.i < length d.subnets = omega arith in
    rw c.at.ensures (first_fails (length d.subnets) z.i (subnet_bit d) (interfaced d) NoInterface c.subnet_bit.result z.invariant.1 l
    (later_interfaced d z.i z.invariant.0 ∙ sym c.if-not-has_interface.ensures) (c.subnet_bit.ensures.value l))

pub returns : goal.returns
returns c = let d = c.args.card.now in first_passes (length d.subnets) c.loop-i.i (subnet_bit d) (interfaced d) NoInterface c.loop-i.invariant.1 (omega arith)
