-- Words that are taken one after another.
use Rattle.std.specs.Prelude.{Result, Ok, Err}
use Rattle.script_reader.specs.declared.fault.Cause.{Cause}
use Rattle.script_reader.specs.declared.said.Said.{Said}

-- what is said behind a word that was taken, or why it was not
abbrev pub said_behind : {U : Type 0} → Result U Cause → Said → Result Said Cause
said_behind (Ok u) said = Ok said
said_behind (Err why) said = Err why
