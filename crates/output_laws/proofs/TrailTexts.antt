-- Two runs of a script have one text of their trails.
use Rattle.std.proofs.Common.{◌≡◌, ℕ, zero, suc, ◌+◌, ◌-◌, List, [], ◌++◌, map, length, take, refl, sym, ap, ◌∙◌}
use Rattle.std.specs.Prelude.{filter, flat_map, slice_get, slice_index_or}
use Rattle.std.specs.List.{range_with_len}
use Rattle.ids_core.specs.declared.ids.Dot.{Dot}
use Rattle.vv_core.specs.Vectors.{at, centres}
use Rattle.dc_talk.specs.Clients.{Client}
use Rattle.dc_talk.specs.Entries.{Entry}
use Rattle.dc_talk.specs.Records.{own}
use Rattle.dc_talk.specs.Rule.{client_after}
use Rattle.dc_talk.specs.Trails.{applied}
use Rattle.dc_talk.specs.declared.log.Note.{Note}
use Rattle.script_core.specs.declared.script.Script.{Script}
use Rattle.run_book.specs.declared.book.Book.{Book}
use Rattle.run_book.specs.Graphs.{own_dots}
use Rattle.run_book.specs.Parts.{notes_of, trail_of}
use Rattle.run_book.specs.ReadBases.{in_order, note_tells}
use Rattle.run_book.specs.Setups.{Setup, setup_of}
use Rattle.trail_text.specs.Trails.{bases_text, entries_text, trail_text}
use Rattle.run_forks.proofs.Books.{AreRuns, same_notes, same_trails}

-- what a client stands on, by the trails of so many centres
abbrev basis_by : ℕ → (ℕ → List Entry) → Client → List Dot
basis_by n trail s = flat_map (λ e. map (λ r. r.tx.dot) (take (at s.vector e) (own e (applied n (trail e))))) (centres n) ++ own_dots s.client s.own

-- what the reads of an actor stand on whose values its notes tell, by the trails and these notes
abbrev bases_by : ℕ → (ℕ → List Entry) → List Note → Setup → ℕ → List (List Dot)
bases_by n trail notes setup a =
    map (λ m. in_order (basis_by n trail (client_after n (a - 1) setup.capacity (take m notes))))
    (filter (λ m. note_tells (slice_get notes m)) (range_with_len 0 (length notes)))

-- the text of the trails, by the trails and the notes
abbrev text_by : ℕ → (ℕ → List Entry) → (ℕ → List Note) → Setup → List ℕ
text_by n trail notes setup = flat_map (λ centre. entries_text centre (trail centre)) (centres n)
    ++ flat_map (λ client. bases_text client (bases_by n trail (notes (client + 1)) setup (client + 1))) (range_with_len 1 setup.clients)

by_parts : (b : Book) (setup : Setup) → trail_text b setup ≡ text_by b.n (trail_of b) (notes_of b) setup
by_parts b setup = refl

trail_same : (b c : Book) → b.trails ≡ c.trails → (e : ℕ) → trail_of b e ≡ trail_of c e
trail_same b c same zero = refl
trail_same b c same (suc e) = ap (λ trails. slice_index_or trails e []) same

-- two runs of a script have one text of their trails
pub same_trail_texts : (script : Script) (b c : Book) → AreRuns script b c → trail_text b (setup_of script) ≡ trail_text c (setup_of script)
same_trail_texts script b c runs =
    let trails = trail_same b c (same_trails script b c runs) in
    let notes = same_notes script b c runs in
    let n : b.n ≡ c.n = runs.n ∙ sym runs.also_n in
    λ i. text_by (n i) (λ e. trails e i) (λ a. notes a i) (setup_of script)
