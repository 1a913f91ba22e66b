use Rattle.std.proofs.Common.{List, sym, ap}
use Rattle.std.proofs.lemmas.List.{drop-drop}
use Rattle.dc_talk.specs.declared.say.Say.{Say}
use Rattle.dc_talk.specs.ListDoors.{ListDoorView}
use Rattle.dc_talk.proofs.list_door.ListDoor.pass.Goals as goal

pub returns-then-self-len : goal.returns-then-self-len
returns-then-self-len c =
    let with : List Say → ListDoorView = λ answers. record { answers = answers; entries = c.self.inside.entries.items } in
    rw (← c.self.view_is) (ap with (sym (drop-drop 1 c.self.inside.used c.self.inside.answers.items)))
