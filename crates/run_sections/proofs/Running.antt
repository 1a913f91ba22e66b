-- What the sections of a script leave, one after another, belongs together.
use Rattle.std.proofs.Common.{◌≡◌, ℕ, ◌+◌, inl, inr, List, [], ◌∷◌, ◌++◌, length, refl, sym, ap, ◌∙◌, subst, append_assoc}
use Rattle.std.specs.Prelude.{All, flat_map}
use Rattle.std.proofs.Math.Seq.{take-append_seam}
use Rattle.std.proofs.lemmas.List.{append-nil}
use Rattle.std.proofs.lemmas.List.Elements.{All-head, All-tail}
use Rattle.std.proofs.lemmas.List.Sums.{fold_push}
use Rattle.list_core.specs.Members.{In}
use Rattle.list_core.specs.Moments.{Each}
use Rattle.list_core.proofs.Gets.{get_seam}
use Rattle.list_core.proofs.Moments.{each_take}
use Rattle.dc_talk.specs.declared.log.Note.{Note}
use Rattle.dc_talk.specs.Clients.{Client, new_client}
use Rattle.dc_talk.specs.Entries.{Entry}
use Rattle.dc_talk.specs.Answers.{History, answer}
use Rattle.dc_talk.specs.Rule.{Allows, Follows, after, client_after}
use Rattle.script_core.specs.declared.script.Script.{Script}
use Rattle.script_core.specs.declared.steps.Section.{Section}
use Rattle.script_core.specs.Rows.{IsSection}
use Rattle.script_core.specs.Scripts.{header_of, IsInRange}
use Rattle.script_core.specs.Steps.{IsCount}
use Rattle.run_book.specs.Setups.{setup_of, settings_among}
use Rattle.run_book.specs.Happenings.{ClientDoes}
use Rattle.run_sections.specs.Apart.{AreApart, StandsAt, notes_then, trails_then}
use Rattle.run_sections.specs.Runs.{PlaysSections, no_sections, next_section}
use Rattle.run_sections.specs.Sections.{Between, first_between, Left}
use Rattle.run_sections.proofs.Sectioning.{none_apart, none_stands, section_apart}

-- ---- fronts

-- what holds of each element after those before it, holds so of the front
each_front : {X : Type 0} (P : List X → X → Type 0) (xs ys : List X) → Each P (xs ++ ys) → Each P xs
each_front P xs ys each = subst (Each P) (take-append_seam xs ys) (each_take P (xs ++ ys) (length xs) each)

-- a client notes by the rule what its log has behind what it had, where that follows the rule
does_behind : (n client capacity : ℕ) (before more : List Note) (s : Client) → s ≡ client_after n client capacity before → Follows n client capacity (before ++ more) → ClientDoes s before more
does_behind n client capacity before [] s is follows = tt
does_behind n client capacity before (note ∷ more) s is follows =
    let here : Allows (client_after n client capacity before) before note.deed = subst (λ front. Allows (client_after n client capacity front) front note.deed) (take-append_seam before (note ∷ more)) (follows.holds (length before) note (get_seam before note more)) in
    let next : after s note.deed ≡ client_after n client capacity (before ++ note ∷ []) = ap (λ s. after s note.deed) is ∙ sym (fold_push (λ (s : Client) (note : Note). after s note.deed) (new_client n client capacity) before note) in (
      subst (λ s. Allows s before note.deed) (sym is) here,
      does_behind n client capacity (before ++ note ∷ []) more (after s note.deed) next (subst (Follows n client capacity) (sym (append_assoc before (note ∷ []) more)) follows),
    )

-- ---- one section after another

-- the notes and the trails with what sections left behind them
abbrev pub notes_behind : (ℕ → List Note) → List Left → ℕ → List Note
notes_behind notes lefts a = notes a ++ flat_map (λ left. left.notes a) lefts

abbrev pub trails_behind : (ℕ → List Entry) → List Left → ℕ → List Entry
trails_behind trails lefts i = trails i ++ flat_map (λ left. left.entries i) lefts

-- what sections leave belongs together with what was there, where the trails with it are histories and the clients'
-- logs with it follow the session rule
pub sections_apart : (script : Script) (number : ℕ) (here last : Between) (sections : List Section) (lefts : List Left) (notes : ℕ → List Note) (trails : ℕ → List Entry) → All (IsSection (header_of script)) sections → AreApart script notes trails → StandsAt script notes here → ((i : ℕ) → IsCount script.n i → History (settings_among script.n script.k (setup_of script) i) (trails_behind trails lefts i)) → ((i : ℕ) → (IsCount script.n i → ⊥) → (left : Left) → In left lefts → left.entries i ≡ []) → ((client : ℕ) → IsCount script.clients client → Follows script.n client script.cache (notes_behind notes lefts (client + 1))) → PlaysSections script number here sections lefts last → AreApart script (notes_behind notes lefts) (trails_behind trails lefts)
sections_apart script number here last [] lefts notes trails sound apart stands histories outside follows no_sections =
    let same : notes ≡ notes_behind notes [] = λ j a. sym (append-nil (notes a)) j in
    let so : trails ≡ trails_behind trails [] = λ j i. sym (append-nil (trails i)) j in
    subst (λ ns. AreApart script ns (trails_behind trails [])) same (subst (AreApart script notes) so apart)
sections_apart script number here last (section ∷ sections) lefts notes trails sound apart stands histories outside follows (next_section {left = left} {lefts = later} new plays rest) =
    let same : notes_behind (notes_then notes left) later ≡ notes_behind notes (left ∷ later) = λ j a. append_assoc (notes a) (left.notes a) (flat_map (λ (left : Left). left.notes a) later) j in
    let so : trails_behind (trails_then trails left) later ≡ trails_behind trails (left ∷ later) = λ j i. append_assoc (trails i) (left.entries i) (flat_map (λ (left : Left). left.entries i) later) j in
    let all : (i : ℕ) → IsCount script.n i → History (settings_among script.n script.k (setup_of script) i) (trails_behind (trails_then trails left) later i) = λ i centre. subst (λ ts. History (settings_among script.n script.k (setup_of script) i) (ts i)) (sym so) (histories i centre) in
    let logs : (client : ℕ) → IsCount script.clients client → Follows script.n client script.cache (notes_behind (notes_then notes left) later (client + 1)) = λ client range. subst (λ ns. Follows script.n client script.cache (ns (client + 1))) (sym same) (follows client range) in
    let now = section_apart script number section here left new notes trails (All-head (IsSection (header_of script)) section sections sound) apart stands plays
    (λ i centre. each_front (λ before (e : Entry). e.say ≡ answer (settings_among script.n script.k (setup_of script) i) before e.ask) (trails_then trails left i) (flat_map (λ (left : Left). left.entries i) later) (all i centre))
    (λ i none. outside i none left (inl refl))
    (λ client range. does_behind script.n client script.cache (notes (client + 1)) (left.notes (client + 1)) (here.come client).client (stands.clients client range)
    (each_front (λ before (note : Note). Allows (client_after script.n client script.cache before) before note.deed) (notes_then notes left (client + 1)) (flat_map (λ (left : Left). left.notes (client + 1)) later) (logs client range))) in
    subst (λ ns. AreApart script ns (trails_behind trails (left ∷ later))) same (subst (AreApart script (notes_behind (notes_then notes left) later)) so
    (sections_apart script (number + 1) new last sections later (notes_then notes left) (trails_then trails left) (All-tail (IsSection (header_of script)) section sections sound) now.0 now.1 all (λ i none left there. outside i none left (inr there)) logs rest))

-- so what the sections of a script leave belongs together
pub script_apart : (script : Script) (last : Between) (lefts : List Left) → IsInRange script → PlaysSections script 1 (first_between script) script.sections lefts last → ((i : ℕ) → IsCount script.n i → History (settings_among script.n script.k (setup_of script) i) (flat_map (λ (left : Left). left.entries i) lefts)) → ((i : ℕ) → (IsCount script.n i → ⊥) → (left : Left) → In left lefts → left.entries i ≡ []) → ((client : ℕ) → IsCount script.clients client → Follows script.n client script.cache (flat_map (λ (left : Left). left.notes (client + 1)) lefts)) → AreApart script (λ a. flat_map (λ (left : Left). left.notes a) lefts) (λ i. flat_map (λ (left : Left). left.entries i) lefts)
script_apart script last lefts range plays histories outside follows =
    sections_apart script 1 (first_between script) last script.sections lefts (λ a. []) (λ i. []) range.sections (none_apart script) (none_stands script) histories outside follows plays
