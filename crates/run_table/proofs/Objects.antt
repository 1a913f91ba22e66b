-- The objects that the tap of a centre shows, with one line of a script more.
use Rattle.std.proofs.Common.{◌≡◌, ◌≢◌, ◌<◌, ℕ, ◌+◌, ◌==◌, Bool, true, false, List, [], ◌∷◌, ◌++◌, length, take, get_or, sym, ap, ◌∙◌}
use Rattle.std.specs.List.{cons_option}
use Rattle.std.proofs.lemmas.Bool.{eq-eqb, ne_eqb}
use Rattle.std.proofs.lemmas.List.{take_more, append-nil}
use Rattle.std.proofs.lemmas.List.Elements.{filter_map-append}
use Rattle.list_core.specs.Choices.{when}
use Rattle.ids_core.specs.declared.object.ObjectId.{ObjectId}
use Rattle.script_core.specs.declared.taps.Tapped.{Tapped}
use Rattle.script_core.specs.Taps.{objects_on}

-- a line more, of this centre or of another
line_more : (taps : List Tapped) (centre place : ℕ) (tapped : Tapped) (test : Bool) → place < length taps → tapped ≡ get_or taps place tapped → (tapped.centre == centre) ≡ test → objects_on (take (place + 1) taps) centre ≡ objects_on (take place taps) centre ++ cons_option (when test tapped.object) []
line_more taps centre place tapped test within is same =
    ap (λ taps. objects_on taps centre) (take_more taps place tapped within ∙ ap (λ tapped. take place taps ++ tapped ∷ []) (sym is))
    ∙ (filter_map-append (λ (tapped : Tapped). when (tapped.centre == centre) tapped.object) (take place taps) (tapped ∷ [])
    ∙ ap (λ test. objects_on (take place taps) centre ++ cons_option (when test tapped.object) []) same)

-- its object is one more
pub one_more : (taps : List Tapped) (centre place : ℕ) (tapped : Tapped) → place < length taps → tapped ≡ get_or taps place tapped → tapped.centre ≡ centre → (objects : List ObjectId) → objects ≡ objects_on (take place taps) centre → objects ++ tapped.object ∷ [] ≡ objects_on (take (place + 1) taps) centre
one_more taps centre place tapped within is same objects are = ap (λ objects. objects ++ tapped.object ∷ []) are ∙ sym (line_more taps centre place tapped true within is (eq-eqb tapped.centre centre same))

-- or there is none more
pub none_more : (taps : List Tapped) (centre place : ℕ) (tapped : Tapped) → place < length taps → tapped ≡ get_or taps place tapped → tapped.centre ≢ centre → (objects : List ObjectId) → objects ≡ objects_on (take place taps) centre → objects ≡ objects_on (take (place + 1) taps) centre
none_more taps centre place tapped within is differs objects are = are ∙ (sym (append-nil (objects_on (take place taps) centre)) ∙ sym (line_more taps centre place tapped false within is (ne_eqb tapped.centre centre differs)))
