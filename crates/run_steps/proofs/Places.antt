-- The places of a step's notes in a log of steps.
use Rattle.std.proofs.Common.{◌≡◌, ℕ, suc, ◌+◌, ◌-◌, ◌≤◌, ◌<◌, ⊎_elim, List, [], ◌∷◌, ◌++◌, length, Some, sym, ap, ◌∙◌, subst, arith}
use Rattle.std.specs.Prelude.{slice_get}
use Rattle.std.proofs.lemmas.Bool.{cases_lt}
use Rattle.std.specs.Option.{option_map}
use Rattle.std.proofs.lemmas.Option.{none-some, same_Some, slice_get-map}
use Rattle.std.proofs.lemmas.List.{append_assoc, length-append}
use Rattle.list_core.proofs.Gets.{get_in_front, get_within}
use Rattle.dc_talk.specs.declared.log.Deed.{Deed}
use Rattle.dc_talk.specs.declared.log.Note.{Note}
use Rattle.run_sections.specs.Orders.{deeds_of}
use Rattle.run_steps.specs.Logs.{InSteps, no_steps, next_step}

-- what stands behind a front
pub get_behind : {X : Type 0} (xs ys : List X) (k : ℕ) → slice_get (xs ++ ys) (length xs + k) ≡ slice_get ys k
get_behind [] ys k = ap (slice_get ys) (omega arith)
get_behind (x ∷ xs) ys k = let e : length (x ∷ xs) + k ≡ suc (length xs + k) = omega arith in ap (slice_get (x ∷ (xs ++ ys))) e ∙ get_behind xs ys k

-- what stands within a front
pub get_front_of : {X : Type 0} (xs ys : List X) (p : ℕ) (x : X) → p < length xs → slice_get (xs ++ ys) p ≡ Some x → slice_get xs p ≡ Some x
get_front_of xs ys p x lt at =
    let g = get_within xs p lt in
    subst (λ z. slice_get xs p ≡ Some z) (same_Some g.0 x (sym (get_in_front xs ys p g.0 g.1) ∙ at)) g.1

-- the deed of a note
pub get_deed : (notes : List Note) (p : ℕ) (note : Note) → slice_get notes p ≡ Some note → slice_get (deeds_of notes) p ≡ Some note.deed
get_deed notes p note at = slice_get-map (λ (note : Note). note.deed) notes p ∙ ap (option_map (λ (note : Note). note.deed)) at

-- a note of a log of steps stands in one of them
pub record InStep (Step : List Deed → Type 0) (notes : List Note) (p : ℕ) (note : Note) : Type 0 where
  pub before : List Note
  pub mine : List Note
  pub later : List Note
  pub whole : notes ≡ before ++ (mine ++ later)
  pub such : Step (deeds_of mine)
  pub place : ℕ
  pub upto : length before + place ≡ p
  pub there : slice_get mine place ≡ Some note

pub in_step : (Step : List Deed → Type 0) (notes : List Note) (p : ℕ) (note : Note) → InSteps Step notes → slice_get notes p ≡ Some note → InStep Step notes p note
in_step Step _ p note no_steps at = absurd (none-some note at)
in_step Step notes p note (next_step mine later whole such rest) at = ⊎_elim here (behind (λ k. in_step Step later k note rest)) (cases_lt p (length mine))
  where
    all : slice_get (mine ++ later) p ≡ Some note
    all = subst (λ l. slice_get l p ≡ Some note) whole at

    here : p < length mine → InStep Step notes p note
    here lt = record { before = []; mine = mine; later = later; whole = whole; such = such; place = p; upto = omega arith; there = get_front_of mine later p note lt all }

    behind : ((k : ℕ) → slice_get later k ≡ Some note → InStep Step later k note) → length mine ≤ p → InStep Step notes p note
    behind more ge =
        let k : ℕ = p - length mine in
        let e : length mine + k ≡ p = omega (arith, ge) in
        let r = more k (sym (get_behind mine later k) ∙ (ap (slice_get (mine ++ later)) e ∙ all)) in
        record {
          before = mine ++ r.before;
          mine = r.mine;
          later = r.later;
          whole = whole ∙ (ap (λ l. mine ++ l) r.whole ∙ sym (append_assoc mine r.before (r.mine ++ r.later)));
          such = r.such;
          place = r.place;
          upto = omega (arith, length-append mine r.before, r.upto, e);
          there = r.there;
        }
