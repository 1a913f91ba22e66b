-- The words for the causes of refusals.
use Rattle.std.specs.Prelude.{ℕ, List, codes}
use Rattle.script_reader.specs.declared.fault.Cause.{Cause}
use Rattle.script_reader.specs.declared.fault.Cause.TheVariants.{Many, Long, Byte, Word, Count, Number, Range, Name, Kind, Place}

-- the word for a cause
abbrev pub cause_text : Cause → List ℕ
cause_text Many = codes "many"
cause_text Long = codes "long"
cause_text Byte = codes "byte"
cause_text Word = codes "word"
cause_text Count = codes "count"
cause_text Number = codes "number"
cause_text Range = codes "range"
cause_text Name = codes "name"
cause_text Kind = codes "kind"
cause_text Place = codes "place"
