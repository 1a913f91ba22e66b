-- A client's snapshot only grows, and what its log tells of its numbers.
use Rattle.std.proofs.Common.{◌≡◌, ℕ, ◌≤◌, List, [], ◌∷◌, ◌++◌, length, take, drop, fold, refl, sym, ap, ◌∙◌, subst, arith}
use Rattle.std.proofs.lemmas.List.{take-append-drop, take-take}
use Rattle.vv_core.specs.Vectors.{Covers}
use Rattle.vv_core.proofs.Covering.{Covers_refl, Covers_trans}
use Rattle.vv_core.proofs.Entrywise.{length-zeros}
use Rattle.tx_core.specs.declared.tx.Tx.{Tx}
use Rattle.dc_talk.specs.declared.log.Note.{Note}
use Rattle.dc_talk.specs.Clients.{Client, new_client}
use Rattle.dc_talk.specs.Rule.{after, client_after, commits_of, Follows}
use Rattle.run_book.specs.Numbers.{HasNumbers}
use Rattle.run_book.proofs.Numbered.{numbered_at}
use Rattle.run_book.proofs.Held.{dot_at, held_after}
use Rattle.run_book.proofs.Snapshots.{deed_covers, deed_width}

-- the client after notes, and after those behind them
abbrev on : Client → List Note → Client
on s notes = fold (λ s note. after s note.deed) s notes

-- its snapshot covers the one before
grown_on : (s : Client) (notes : List Note) → Covers (on s notes).vector s.vector
grown_on s [] = Covers_refl s.vector
grown_on s (note ∷ notes) = Covers_trans _ _ _ (grown_on (after s note.deed) notes) (deed_covers s note.deed)

-- and has as many entries
wide_on : (s : Client) (notes : List Note) → length (on s notes).vector ≡ length s.vector
wide_on s [] = refl
wide_on s (note ∷ notes) = wide_on (after s note.deed) notes ∙ deed_width s note.deed

-- one note after another
on-append : (s : Client) (notes later : List Note) → on s (notes ++ later) ≡ on (on s notes) later
on-append s [] later = refl
on-append s (note ∷ notes) later = on-append (after s note.deed) notes later

-- the snapshot after more notes of a log
pub grows : (n client capacity m p : ℕ) (notes : List Note) → m ≤ p → Covers (client_after n client capacity (take p notes)).vector (client_after n client capacity (take m notes)).vector
grows n client capacity m p notes less =
    let s = new_client n client capacity in
    let parts : take p notes ≡ take m notes ++ drop m (take p notes) = sym (take-append-drop m (take p notes)) ∙ ap (λ l. l ++ drop m (take p notes)) (take-take m p notes less) in
    subst (λ s. Covers s.vector (client_after n client capacity (take m notes)).vector) (sym (ap (on s) parts ∙ on-append s (take m notes) (drop m (take p notes))))
    (grown_on (on s (take m notes)) (drop m (take p notes)))

-- a snapshot has an entry for each centre
pub wide_after : (n client capacity : ℕ) (notes : List Note) → length (client_after n client capacity notes).vector ≡ n
wide_after n client capacity notes = wide_on (new_client n client capacity) notes ∙ length-zeros n

-- the numbers after the first m notes of a log that follows the rule
pub numbers : (n client capacity : ℕ) (notes : List Note) → Follows n client capacity notes → (m : ℕ) → HasNumbers client (client_after n client capacity (take m notes)) (commits_of n client capacity (take m notes))
numbers n client capacity notes follows m =
    let h = held_after n client capacity notes follows m in
    let C : List Tx = commits_of n client capacity (take m notes) in record {
      who = h.who;
      own = sym h.number;
      pending = h.waiting;
      mine = h.below;
      clock = (h.paid, h.ranked);
      dots = λ p t there. numbered_at (λ (t : Tx). t.dot) (dot_at client) 1 C p t h.dots there ∙ ap (dot_at client) (omega arith);
      ranks = h.ranks;
      ascend = h.ascend;
    }
