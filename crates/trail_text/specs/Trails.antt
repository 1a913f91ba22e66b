-- The text of the trails of a book, and of what its reads stand on.
use Rattle.std.specs.Prelude.{ℕ, ◌+◌, List, [], ◌∷◌, ◌++◌, flat_map, codes, decimal}
use Rattle.std.specs.List.{range_with_len}
use Rattle.ids_core.specs.declared.ids.Dot.{Dot}
use Rattle.vv_core.specs.Vectors.{centres}
use Rattle.dc_talk.specs.Entries.{Entry}
use Rattle.run_book.specs.declared.book.Book.{Book}
use Rattle.run_book.specs.Setups.{Setup}
use Rattle.run_book.specs.Parts.{trail_of}
use Rattle.run_book.specs.ReadBases.{bases_of}
use Rattle.print_text.specs.Text.{client_text}
use Rattle.trail_text.specs.Words.{ask_text, dot_text, say_text}

-- an entry of the trail of a centre, with its number there: its caller, the ask and the answer
abbrev pub entry_text : ℕ → ℕ → Entry → List ℕ
entry_text centre number entry = codes "trail " ++ decimal centre ++ codes " " ++ decimal number ++ codes " by " ++ decimal entry.caller ++ codes " " ++ ask_text entry.ask ++ codes " " ++ say_text entry.say ++ codes "\n"

-- texts of items one behind the other, the first of which has this number
abbrev pub numbered : {X : Type 0} → (ℕ → X → List ℕ) → ℕ → List X → List ℕ
numbered text number [] = []
numbered text number (x ∷ xs) = text number x ++ numbered text (number + 1) xs

-- the entries of the trail of a centre, counted from 1
abbrev pub entries_text : ℕ → List Entry → List ℕ
entries_text centre entries = numbered (entry_text centre) 1 entries

-- the trails of the centres, in ascending order
abbrev pub trails_text : Book → List ℕ
trails_text b = flat_map (λ centre. entries_text centre (trail_of b centre)) (centres b.n)

-- what a read of a client stands on, with the number of the read among those of the client that got a value
abbrev pub basis_text : ℕ → ℕ → List Dot → List ℕ
basis_text client number dots = codes "basis " ++ client_text client ++ codes " " ++ decimal number ++ flat_map (λ dot. codes " " ++ dot_text dot) dots ++ codes "\n"

-- what the reads of a client stand on, counted from 1
abbrev pub bases_text : ℕ → List (List Dot) → List ℕ
bases_text client bases = numbered (basis_text client) 1 bases

-- the text of the trails of a book: the entries of each centre, and then what each read with a value stands on, by
-- client and in the order of the reads
abbrev pub trail_text : Book → Setup → List ℕ
trail_text b setup = trails_text b ++ flat_map (λ client. bases_text client (bases_of b setup (client + 1))) (range_with_len 1 setup.clients)
