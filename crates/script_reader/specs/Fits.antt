-- How the words of a line stand to a form.
use Rattle.std.specs.Prelude.{Bool, true, false}
use Rattle.script_reader.specs.declared.fit.Fit.{Fit}
use Rattle.script_reader.specs.declared.fit.Fit.TheVariants.{Whole, Off, Not}

-- they have it
abbrev pub is_whole : Fit → Bool
is_whole Whole = true
is_whole Off = false
is_whole Not = false

-- its fixed words stand in their places
abbrev pub is_near : Fit → Bool
is_near Whole = true
is_near Off = true
is_near Not = false
