-- What a centre was asked, and what it answered.
use Rattle.machine_trail.specs.declared.machine.Entry as machine
use Rattle.dc_talk.specs.declared.ask.Ask.{Ask}
use Rattle.dc_talk.specs.declared.say.Say.{Say}

-- one ask of a caller, with the centre's answer
abbrev pub Entry : Type 0
Entry = machine.Entry Ask Say
