use Rattle.std.proofs.Common.{◌≡◌, ◌^◌, ◌<◌, take}
use Rattle.script_reader.specs.Numbers.{number_of}
use Rattle.script_reader.proofs.numbers.number_of.Given as goal

abbrev pub invariant-loop-byte : goal.invariant-loop-byte
invariant-loop-byte l = record { number : l.number ≡ number_of (take l.byte-index l.word); below : l.number < 10 ^ l.byte-index }
