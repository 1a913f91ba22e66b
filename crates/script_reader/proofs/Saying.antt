-- Words that are said one after another.
use Rattle.std.proofs.Common.{◌≡◌, List, [], ◌∷◌, refl}
use Rattle.std.specs.Prelude.{Option, Ok}
use Rattle.script_core.specs.declared.script.Header.{Header}
use Rattle.script_reader.specs.declared.form.Part.{Part}
use Rattle.script_reader.specs.declared.said.Said.{Said}
use Rattle.script_reader.specs.Said.{said_words}

-- no words say no more
pub said_none : (header : Option Header) (parts : List Part) (said : Said) → said_words header parts [] said ≡ Ok said
said_none header [] said = refl
said_none header (part ∷ parts) said = refl
