use Rattle.std.specs.Map.{values_of}
use Rattle.op_log.proofs.Sweeping.{may_ascends, at_swept, at_others, may_after, kept_after}
use Rattle.op_log.proofs.sweep.sweep_at.Goals as goal

pub sweep_chain-requires-clause-ascends : goal.sweep_chain-requires-clause-ascends
sweep_chain-requires-clause-ascends c = may_ascends c.args.base.now (values_of c.args.slots.now.entries) c.args.chains.now c.args.object.now c.requires.rises c.requires.may

pub returns-clause-may : goal.returns-clause-may
returns-clause-may c =
    let w = c.args.base.now in let items = values_of c.args.slots.now.entries in
    let swept = at_swept w items c.requires.rises c.args.chains.now c.sweep_chain.new.chains c.args.object.now c.args.number c.requires.may c.requires.has c.sweep_chain.ensures.there in
    may_after w items c.requires.rises c.args.chains.now c.sweep_chain.new.chains c.requires.may (at_others w items c.requires.rises c.args.chains.now c.sweep_chain.new.chains c.args.object.now swept c.sweep_chain.ensures.apart)

pub returns-clause-kept : goal.returns-clause-kept
returns-clause-kept c =
    let w = c.args.base.now in let items = values_of c.args.slots.now.entries in
    let swept = at_swept w items c.requires.rises c.args.chains.now c.sweep_chain.new.chains c.args.object.now c.args.number c.requires.may c.requires.has c.sweep_chain.ensures.there in
    kept_after w items c.requires.rises c.args.chains.now c.sweep_chain.new.chains (at_others w items c.requires.rises c.args.chains.now c.sweep_chain.new.chains c.args.object.now swept c.sweep_chain.ensures.apart)

pub returns-clause-swept : goal.returns-clause-swept
returns-clause-swept c = at_swept c.args.base.now (values_of c.args.slots.now.entries) c.requires.rises c.args.chains.now c.sweep_chain.new.chains c.args.object.now c.args.number c.requires.may c.requires.has c.sweep_chain.ensures.there
