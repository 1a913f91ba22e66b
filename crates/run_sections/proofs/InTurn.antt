-- What holds of each note that is left one after another, and how a client comes on.
use Rattle.std.proofs.Common.{◌≡◌, ℕ, ◌+◌, inl, inr, ⊎_elim, List, [], ◌∷◌, ◌++◌, fold, refl, sym, ap, ◌∙◌, subst, append_assoc}
use Rattle.std.specs.Prelude.{All}
use Rattle.std.proofs.lemmas.List.{append-nil}
use Rattle.std.proofs.lemmas.List.Sums.{fold_push, fold-append}
use Rattle.std.proofs.lemmas.List.Elements.{All-head, All-tail}
use Rattle.list_core.specs.Members.{In}
use Rattle.list_core.proofs.Members.{All-In, In_left, In_right, In_either, In_map}
use Rattle.list_core.proofs.Moments.{each_more}
use Rattle.dc_talk.specs.declared.log.Deed.{Deed}
use Rattle.dc_talk.specs.declared.log.Note.{Note}
use Rattle.dc_talk.specs.Clients.{Client, new_client}
use Rattle.dc_talk.specs.Rule.{Allows, Follows, after, client_after}
use Rattle.script_core.specs.declared.steps.ClientStep.{ClientStep}
use Rattle.script_core.specs.Deeds.{Progress}
use Rattle.script_core.specs.Steps.{IsStep}
use Rattle.run_book.specs.Happenings.{GoesToOneOf, IsLinkWithin, ClientDoes}
use Rattle.run_book.proofs.Happenings.Reach.{AllGo, step_go, after_within}
use Rattle.run_sections.specs.Orders.{deeds_of, InOrder, none_left, one_first, ClientGoes}

-- ---- each note

module _ {S M : Type 0} (Does : S → ℕ → M → List Note → S → Type 0) (section : ℕ) where
  -- what holds of the notes of each thing that is done holds of each note
  pub order_each : (P : Note → Type 0) (step : ℕ) (s last : S) (ms : List M) (notes : List Note) → ((s next : S) (step : ℕ) (m : M) (mine : List Note) → In m ms → ((note : Note) → In note mine → In note notes) → Does s step m mine next → (note : Note) → In note mine → P note) → InOrder Does section step s ms notes last → (note : Note) → In note notes → P note
  order_each P step s last [] notes each none_left note there = absurd there
  order_each P step s last (m ∷ ms) notes each (one_first next mine later whole at does rest) note there = ⊎_elim
      (λ front. each s next step m mine (inl refl) (λ other among. subst (In other) (sym whole) (In_left mine later other among)) does note front)
      (λ back. order_each P (step + 1) next last ms later (λ s' next' step' m' own here among does. each s' next' step' m' own (inr here) (λ other within. subst (In other) (sym whole) (In_right mine later other (among other within))) does) rest note back)
      (In_either mine later note (subst (In note) whole there))

-- what holds of each deed of notes holds of the deed of each note
pub deed_holds : (P : Deed → Type 0) (notes : List Note) (note : Note) → All P (deeds_of notes) → In note notes → P note.deed
deed_holds P notes note all there = All-In P (deeds_of notes) note.deed all (In_map (λ (note : Note). note.deed) notes note there)

-- ---- a client

-- the client after notes
abbrev pub client_behind : Client → List Note → Client
client_behind s notes = fold (λ s note. after s note.deed) s notes

-- its link stays within
pub notes_within : (n : ℕ) (s : Client) (notes : List Note) → AllGo n (deeds_of notes) → IsLinkWithin n s.link → IsLinkWithin n (client_behind s notes).link
notes_within n s [] go within = within
notes_within n s (note ∷ notes) go within =
    notes_within n (after s note.deed) notes (All-tail (GoesToOneOf n) note.deed (deeds_of notes) go)
    (after_within n s note.deed (All-head (GoesToOneOf n) note.deed (deeds_of notes) go) within)

-- the asks of its steps go to centres that there are
pub client_go : (n section step : ℕ) (p last : Progress) (steps : List ClientStep) (notes : List Note) → ((does : ClientStep) → In does steps → IsStep n does) → IsLinkWithin n p.client.link → InOrder ClientGoes section step p steps notes last → (note : Note) → In note notes → GoesToOneOf n note.deed
client_go n section step p last [] notes sound within none_left note there = absurd there
client_go n section step p last (does ∷ steps) notes sound within (one_first next mine later whole at goes rest) note there =
    let go : AllGo n (deeds_of mine) = step_go n p does (deeds_of mine) (sound does (inl refl)) within goes.0 in
    let behind : IsLinkWithin n next.client.link = subst (λ (p : Progress). IsLinkWithin n p.client.link) (sym goes.1) (notes_within n p.client mine go within) in
    ⊎_elim
    (λ front. deed_holds (GoesToOneOf n) mine note go front)
    (λ back. client_go n section (step + 1) next last steps later (λ other among. sound other (inr among)) behind rest note back)
    (In_either mine later note (subst (In note) whole there))

-- it is as its notes say, and has them
pub client_comes : (section step : ℕ) (p last : Progress) (steps : List ClientStep) (notes : List Note) → InOrder ClientGoes section step p steps notes last → (last.client ≡ client_behind p.client notes) × (last.notes ≡ p.notes ++ notes)
client_comes section step p last [] notes none_left = (refl, sym (append-nil p.notes))
client_comes section step p last (does ∷ steps) notes (one_first next mine later whole at goes rest) =
    let h = client_comes section (step + 1) next last steps later rest in (
      h.0 ∙ (ap (λ (p : Progress). client_behind p.client later) goes.1 ∙ (sym (fold-append (λ (s : Client) (note : Note). after s note.deed) p.client mine later) ∙ ap (client_behind p.client) (sym whole))),
      h.1 ∙ (ap (λ (p : Progress). p.notes ++ later) goes.1 ∙ (append_assoc p.notes mine later ∙ ap (λ notes. p.notes ++ notes) (sym whole))),
    )

-- a log that follows the rule does so with what the client notes by it
pub follows_on : (n client capacity : ℕ) (before more : List Note) (s : Client) → s ≡ client_after n client capacity before → Follows n client capacity before → ClientDoes s before more → Follows n client capacity (before ++ more)
follows_on n client capacity before [] s is follows does = subst (Follows n client capacity) (sym (append-nil before)) follows
follows_on n client capacity before (note ∷ more) s is follows does =
    let here : Allows (client_after n client capacity before) before note.deed = subst (λ s. Allows s before note.deed) is does.0 in
    let next : after s note.deed ≡ client_after n client capacity (before ++ note ∷ []) = ap (λ s. after s note.deed) is ∙ sym (fold_push (λ (s : Client) (note : Note). after s note.deed) (new_client n client capacity) before note) in
    let longer : Follows n client capacity (before ++ note ∷ []) = each_more (λ before (note : Note). Allows (client_after n client capacity before) before note.deed) before note follows here in
    subst (Follows n client capacity) (append_assoc before (note ∷ []) more) (follows_on n client capacity (before ++ note ∷ []) more (after s note.deed) next longer does.1)
