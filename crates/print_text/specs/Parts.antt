-- The texts of sections, each in a place of its own.
use Rattle.std.specs.Prelude.{◌≡◌, ◌≤◌, ℕ, ◌-◌, List, [], ◌++◌, length, map, flat_map, slice_index_or}
use Rattle.std.specs.Global.{Vec}

-- the text of a section, of which the one of section 1 is the first
abbrev pub part : List (Vec ℕ) → ℕ → List ℕ
part parts section = slice_index_or (map (λ text. text.items) parts) (section - 1) []

-- there is a text for each of so many sections, and none has a line
pub record HasEmptyParts (sections : ℕ) (parts : List (Vec ℕ)) : Type 0 where
  pub count : length parts ≡ sections
  pub empty : (section : ℕ) → 1 ≤ section → section ≤ sections → part parts section ≡ []

-- each section's text has grown by the text that is given for the section
pub record Adds (text : ℕ → List ℕ) (old new : List (Vec ℕ)) : Type 0 where
  pub count : length new ≡ length old
  pub each : (section : ℕ) → 1 ≤ section → section ≤ length old → part new section ≡ part old section ++ text section

-- all of them, one behind the other
abbrev pub texts_in : List (Vec ℕ) → List ℕ
texts_in parts = flat_map (λ text. text.items) parts
