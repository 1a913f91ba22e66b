use Rattle.std.proofs.lemmas.List.Elements.{All-set}
use Rattle.dc_door.specs.Centres.{IsKeptCentre}
use Rattle.dc_door.proofs.Trails.{has_answered, has_not_answered}
use Rattle.dc_door.proofs.kept_door.answer_at.Goals as goal

pub returns-clause-answered : goal.returns-clause-answered
returns-clause-answered c =
    has_answered c.args.kept.now.items c.args.place c.args.caller c.args.ask.now c.index_mut.result.now c.answer_one.new.kept c.answer_one.result c.requires.place c.index_mut.ensures.value
    c.answer_one.ensures.say c.answer_one.ensures.entry c.answer_one.ensures.short

pub returns-clause-none : goal.returns-clause-none
returns-clause-none c = has_not_answered c.args.kept.now.items c.args.place c.index_mut.result.now c.answer_one.new.kept c.answer_one.result c.index_mut.ensures.value c.answer_one.ensures.none

pub returns-clause-kept : goal.returns-clause-kept
returns-clause-kept c = All-set IsKeptCentre c.args.kept.now.items c.args.place c.answer_one.new.kept c.answer_one.ensures.kept c.requires.kept
