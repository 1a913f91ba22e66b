-- What the faults of a link make of the bytes of an item.
use Rattle.std.specs.Prelude.{◌-◌, ℕ, List, length, take, slice_set}

-- all but the last byte
abbrev pub cut_of : List ℕ → List ℕ
cut_of bytes = take (length bytes - 1) bytes

-- the second byte is 0, if there is one
abbrev pub bent_of : List ℕ → List ℕ
bent_of bytes = slice_set bytes 1 0
