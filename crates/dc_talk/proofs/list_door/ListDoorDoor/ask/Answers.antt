use Rattle.std.proofs.Common.{◌≡◌, ◌<◌, ◌+◌, ◌^◌, length, ap, ◌∙◌, subst, sym, true, arith}
use Rattle.machine_trail.specs.History.{entry}
use Rattle.dc_talk.specs.declared.ask.Ask.{Ask}
use Rattle.dc_talk.specs.declared.say.Say.{Say}
use Rattle.dc_talk.specs.Entries.{Entry}
use Rattle.dc_talk.specs.Doors.{belongs, HasAsked}
use Rattle.dc_talk.specs.ListDoors.{ListDoorView, shown_of}
use Rattle.dc_talk.proofs.ListDoors.{next_belongs, asked_more}
use Rattle.dc_talk.proofs.list_door.ListDoorDoor.ask.Goals as goal

pub returns-clause-row : goal.returns-clause-row
returns-clause-row c = subst (λ (say : Say). belongs c.args.ask.now say ≡ true) (sym (c.in_ok-kept.ensures.copy ∙ c.in_ok-kept.ensures.one)) (next_belongs c.args.self.now.answers c.args.ask.now)

pub returns-clause-asked : goal.returns-clause-asked
returns-clause-asked c =
    let more = ap (λ (door : ListDoorView). door.entries) c.pass.ensures ∙ ap (λ (door : ListDoorView). door.entries) c.in_ok-note.ensures.ok in
    let long = ap (λ (door : ListDoorView). length door.entries) c.self.view_is in
    let few : length c.args.self.now.entries + 1 < 2 ^ 62 = omega (arith, long, c.self.inside.entries.ok.0) in
    let same = ap (λ (ask : Ask). entry 1 ask c.in_ok-kept.kept) c.in_ok-copy.ensures ∙ ap (λ (say : Say). entry 1 c.args.ask.now say) (sym c.in_ok-kept.ensures.copy) in
    subst (λ (entry : Entry). HasAsked (shown_of c.args.self.now) (shown_of c.pass.new.self) c.args.centre entry) same
    (asked_more c.args.self.now c.pass.new.self c.args.centre (entry 1 c.in_ok-copy.copy c.in_ok-kept.kept) more few)
