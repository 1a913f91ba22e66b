-- The moves of a script, with one section, one turn, one client or one centre more.
use Rattle.std.proofs.Common.{◌≡◌, ℕ, suc, ◌+◌, ◌-◌, ◌≤◌, List, [], ◌∷◌, ◌++◌, length, Option, Some, None, refl, sym, ap, ◌∙◌, append_assoc, arith}
use Rattle.std.specs.Prelude.{flat_map}
use Rattle.std.specs.List.{filter_map, range_with_len, cons_option}
use Rattle.std.proofs.lemmas.List.{append-nil}
use Rattle.list_core.proofs.Ranges.{joined_more}
use Rattle.script_core.specs.declared.script.Script.{Script}
use Rattle.script_core.specs.declared.steps.Section.{Section}
use Rattle.run_book.specs.Moves.{Move, one_or_none, section_moves, moves_from}

-- the moves of sections with one section more
pub section_more : (script : Script) (first : ℕ) (sections : List Section) (section : Section) → moves_from script first (sections ++ section ∷ []) ≡ moves_from script first sections ++ section_moves script (first + length sections) section
section_more script first [] section = append-nil (section_moves script first section) ∙ ap (λ number. section_moves script number section) (omega arith)
section_more script first (one ∷ sections) section =
    let count : first + 1 + length sections ≡ first + suc (length sections) = omega arith in
    ap (λ moves. section_moves script first one ++ moves) (section_more script (first + 1) sections section ∙ ap (λ number. moves_from script (first + 1) sections ++ section_moves script number section) count)
    ∙ sym (append_assoc (section_moves script first one) (moves_from script (first + 1) sections) (section_moves script (first + suc (length sections)) section))

-- what turns or centres give that are counted from 1, with one more
pub counted_more : {X : Type 0} (f : ℕ → List X) (k : ℕ) → flat_map f (range_with_len 1 (k + 1)) ≡ flat_map f (range_with_len 1 k) ++ f (k + 1)
counted_more f k =
    let before : k + 1 - 1 ≡ k = omega arith in
    let now : k + 1 + 1 - 1 ≡ k + 1 = omega arith in
    sym (ap (λ m. flat_map f (range_with_len 1 m) ++ f (k + 1)) (sym before) ∙ (joined_more f (k + 1) (omega arith) ∙ ap (λ m. flat_map f (range_with_len 1 m)) now))

-- what is chosen is joined from what there is of each
chosen : {X : Type 0} (f : ℕ → Option X) (ks : List ℕ) → filter_map f ks ≡ flat_map (λ k. cons_option (f k) []) ks
chosen f [] = refl
chosen {X} f (k ∷ ks) = go (f k) (chosen f ks)
  where
    go : (o : Option X) → filter_map f ks ≡ flat_map (λ k. cons_option (f k) []) ks → cons_option o (filter_map f ks) ≡ cons_option o [] ++ flat_map (λ k. cons_option (f k) []) ks
    go None rest = rest
    go (Some x) rest = ap (λ l. x ∷ l) rest

-- a move, where there is one, alone
one_alone : (o : Option Move) → cons_option o [] ≡ one_or_none o
one_alone None = refl
one_alone (Some one) = refl

-- the moves of clients that are counted from 1, with one client more
pub client_more : (f : ℕ → Option Move) (client : ℕ) → 1 ≤ client → filter_map f (range_with_len 1 (client - 1)) ++ one_or_none (f client) ≡ filter_map f (range_with_len 1 (client + 1 - 1))
client_more f client low =
    (λ i. chosen f (range_with_len 1 (client - 1)) i ++ sym (one_alone (f client)) i)
    ∙ (joined_more (λ k. cons_option (f k) []) client low ∙ sym (chosen f (range_with_len 1 (client + 1 - 1))))
