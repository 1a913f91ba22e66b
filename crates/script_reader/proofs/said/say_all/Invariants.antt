use Rattle.std.proofs.Common.{◌≡◌, drop}
use Rattle.script_reader.specs.Words.{texts_of}
use Rattle.script_reader.specs.Said.{said_words}
use Rattle.script_reader.proofs.said.say_all.Given as goal

abbrev pub invariant-loop-part : goal.invariant-loop-part
invariant-loop-part l = said_words l.header l.parts (texts_of l.words) l.initial.said ≡ said_words l.header (drop l.part-index l.parts) (texts_of l.rest) l.said
