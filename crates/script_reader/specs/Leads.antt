-- The forms that words may have, by the letter that their first fixed word begins with, or by that word.
use Rattle.std.specs.Prelude.{◌==◌, ◌&&◌, ℕ, Bool, true, false, not, List, [], ◌∷◌, slice_index, filter, bytes_eq}
use Rattle.script_reader.specs.declared.form.Part.{Part}
use Rattle.script_reader.specs.declared.form.Part.TheVariants.{Fixed, Client, Holder}
use Rattle.script_reader.specs.declared.form.Form.{Form}
use Rattle.script_reader.specs.Forms.{word_text, parts_of, forms}

-- a client is named in front
abbrev pub names_client : List Part → Bool
names_client (Client ∷ parts) = true
names_client (Holder ∷ parts) = true
names_client _ = false

-- the first fixed word
abbrev pub first_fixed : List Part → List ℕ
first_fixed [] = []
first_fixed (Fixed own ∷ parts) = word_text own
first_fixed (part ∷ parts) = first_fixed parts

-- the letter that it begins with
abbrev pub lead : List Part → ℕ
lead parts = slice_index (first_fixed parts) 0

-- the forms without a client in front that have this letter
unfoldable pub forms_from : ℕ → List Form
forms_from letter = filter (λ one. not (names_client (parts_of one)) && lead (parts_of one) == letter) forms

-- those with a client in front that have this letter
unfoldable pub client_forms : ℕ → List Form
client_forms letter = filter (λ one. names_client (parts_of one) && lead (parts_of one) == letter) forms

-- those with a client in front that have this word
unfoldable pub verb_forms : List ℕ → List Form
verb_forms verb = filter (λ one. names_client (parts_of one) && bytes_eq verb (first_fixed (parts_of one))) forms

-- any words may stand in the places of these parts
abbrev pub are_open : List Part → Bool
are_open [] = true
are_open (Fixed own ∷ parts) = false
are_open (Client ∷ parts) = false
are_open (Holder ∷ parts) = false
are_open (part ∷ parts) = are_open parts
