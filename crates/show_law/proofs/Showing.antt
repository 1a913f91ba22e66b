-- What shows of one trail are beside one another, and later.
use Rattle.std.proofs.Common.{◌≡◌, ℕ, zero, suc, ◌≤◌, inl, inr, List, [], ◌∷◌, ◌++◌, length, map, drop, Some, sym, ap, ◌∙◌, subst, arith}
use Rattle.std.specs.Prelude.{slice_get}
use Rattle.std.proofs.lemmas.List.{take-append-drop}
use Rattle.std.proofs.lemmas.Option.{none-some, same_Some}
use Rattle.list_core.specs.Members.{In}
use Rattle.ids_core.specs.declared.object.ObjectId.{ObjectId}
use Rattle.vv_core.specs.Vectors.{Covers}
use Rattle.vv_core.proofs.Covering.{Covers_refl}
use Rattle.dc_talk.specs.declared.settings.Settings.{Settings}
use Rattle.dc_talk.specs.Entries.{Entry}
use Rattle.dc_talk.specs.Records.{vector}
use Rattle.dc_talk.specs.Objects.{state_at}
use Rattle.dc_talk.specs.Trails.{applied, stable, horizon}
use Rattle.dc_talk.specs.Answers.{History}
use Rattle.script_core.specs.declared.taps.Show.{Show}
use Rattle.script_core.specs.Taps.{opening}
use Rattle.read_tap.specs.Shows.{IsFront}
use Rattle.show_law.specs.Fronts.{through, states_at}
use Rattle.show_law.specs.Shows.{IsShowAt, IsShowOf, AreShowsFrom, AreTapShows}
use Rattle.show_law.proofs.Staying.{stays, empty_at}
use Rattle.show_law.proofs.Rising.{covers_zeros, base_rises, base_stable, stable_held}

-- ---- one show

-- what is stable covers its vector
pub show_stable : (s : Settings) (trail : List Entry) (objects : List ObjectId) (p : ℕ) (show : Show) → IsShowAt s trail objects p show → Covers (stable s (through p trail)) show.vector
show_stable s trail objects p show is = subst (λ v. Covers (stable s (through p trail)) v) (sym is.base) (base_stable s (through p trail))

-- and the centre has it
pub show_held : (s : Settings) (trail : List Entry) (objects : List ObjectId) (p : ℕ) (show : Show) → IsShowAt s trail objects p show → Covers (vector s.n (applied s.n (through p trail))) show.vector
show_held s trail objects p show is = stable_held s (through p trail) show.vector (show_stable s trail objects p show is)

-- its states are still those of the objects at its vector after the whole trail
pub show_stays : (s : Settings) (trail : List Entry) (objects : List ObjectId) (show : Show) → History s trail → IsShowOf s trail objects show → show.states ≡ states_at s trail objects show.vector
show_stays s trail objects show history is = is.at.states ∙ (λ i. map (λ o. sym (still o) i) objects)
  where
    front : List Entry
    front = through is.place trail

    still : (o : ObjectId) → state_at o (applied s.n trail) show.vector ≡ state_at o (applied s.n front) show.vector
    still o =
        let whole = take-append-drop (suc is.place) trail in
        subst (λ X. state_at o (applied s.n X) show.vector ≡ state_at o (applied s.n front) show.vector) whole
        (stays s front (drop (suc is.place) trail) show.vector o (subst (History s) (sym whole) history) (show_held s trail objects is.place show is.at))

-- the opening show's states are those at its vector after any trail
pub opening_stays : (s : Settings) (trail : List Entry) (objects : List ObjectId) → History s trail → (opening s.n objects).states ≡ states_at s trail objects (opening s.n objects).vector
opening_stays s trail objects history = (λ i. map (λ (o : ObjectId). sym (empty_at s trail o history) i) objects)

-- ---- several

-- the vector of the later of two shows covers that of the earlier one
pub show_rises : (s : Settings) (trail : List Entry) (objects others : List ObjectId) (p q : ℕ) (first second : Show) → p ≤ q → IsShowAt s trail objects p first → IsShowAt s trail others q second → Covers second.vector first.vector
show_rises s trail objects others p q first second le a b = subst (λ v. Covers v first.vector) (sym b.base) (subst (λ v. Covers (horizon s (through q trail)).base v) (sym a.base) (base_rises s trail (suc p) (suc q) (omega (arith, le))))

-- a show of some that stand in a trail from a place on
record StandsPast (s : Settings) (trail : List Entry) (objects : List ObjectId) (least : ℕ) (show : Show) : Type 0 where
  place : ℕ
  low : least ≤ place
  at : IsShowAt s trail objects place show

stands_past : (s : Settings) (trail : List Entry) (objects : List ObjectId) (least : ℕ) (shows : List Show) (p : ℕ) (show : Show) → AreShowsFrom least s trail objects shows → slice_get shows p ≡ Some show → StandsPast s trail objects least show
stands_past s trail objects least [] p show are there = absurd (none-some show there)
stands_past s trail objects least (x ∷ shows) zero show are there = record { place = are.0; low = are.1; at = subst (IsShowAt s trail objects are.0) (same_Some x show there) are.2 }
stands_past s trail objects least (x ∷ shows) (suc p) show are there =
    let rest = stands_past s trail objects (suc are.0) shows p show are.3 there in
    let low = are.1 in
    let behind = rest.low in
    record { place = rest.place; low = omega (arith, low, behind); at = rest.at }

-- each is a show of the trail
from_show : (s : Settings) (trail : List Entry) (objects : List ObjectId) (least : ℕ) (shows : List Show) (show : Show) → AreShowsFrom least s trail objects shows → In show shows → IsShowOf s trail objects show
from_show s trail objects least [] show are i = absurd i
from_show s trail objects least (x ∷ shows) show are (inl same) = record { place = are.0; at = subst (IsShowAt s trail objects are.0) (sym same) are.2 }
from_show s trail objects least (x ∷ shows) show are (inr i) = from_show s trail objects (suc are.0) shows show are.3 i

-- their vectors rise
from_rises : (s : Settings) (trail : List Entry) (objects : List ObjectId) (least : ℕ) (shows : List Show) (p q : ℕ) (first second : Show) → AreShowsFrom least s trail objects shows → p ≤ q → slice_get shows p ≡ Some first → slice_get shows q ≡ Some second → Covers second.vector first.vector
from_rises s trail objects least [] p q first second are le here there = absurd (none-some first here)
from_rises s trail objects least (x ∷ shows) zero zero first second are le here there = subst (λ (show : Show). Covers second.vector show.vector) (sym (same_Some x second there) ∙ same_Some x first here) (Covers_refl second.vector)
from_rises s trail objects least (x ∷ shows) zero (suc q) first second are le here there =
    let past = stands_past s trail objects (suc are.0) shows q second are.3 there in
    let behind = past.low in
    show_rises s trail objects objects are.0 past.place first second (omega (arith, behind)) (subst (IsShowAt s trail objects are.0) (same_Some x first here) are.2) past.at
from_rises s trail objects least (x ∷ shows) (suc p) zero first second are le here there = absurd (omega (arith, le))
from_rises s trail objects least (x ∷ shows) (suc p) (suc q) first second are le here there = from_rises s trail objects (suc are.0) shows p q first second are.3 (omega (arith, le)) here there

-- ---- taps

-- the shows of a tap rise
pub tap_rises : (s : Settings) (trail : List Entry) (objects : List ObjectId) (shows : List Show) (p q : ℕ) (first second : Show) → AreTapShows s trail objects shows → p ≤ q → slice_get shows p ≡ Some first → slice_get shows q ≡ Some second → Covers second.vector first.vector
tap_rises s trail objects shows p q first second tap le here there = go p q le (ap (λ l. slice_get l p) (sym tap.whole) ∙ here) (ap (λ l. slice_get l q) (sym tap.whole) ∙ there)
  where
    go : (p q : ℕ) → p ≤ q → slice_get (opening s.n objects ∷ tap.later) p ≡ Some first → slice_get (opening s.n objects ∷ tap.later) q ≡ Some second → Covers second.vector first.vector
    go zero q le here there = subst (λ (show : Show). Covers second.vector show.vector) (same_Some (opening s.n objects) first here) (covers_zeros second.vector s.n)
    go (suc p) zero le here there = absurd (omega (arith, le))
    go (suc p) (suc q) le here there = from_rises s trail objects 0 tap.later p q first second tap.are (omega (arith, le)) here there

-- of each the states are those at its vector after the whole trail
pub tap_stays : (s : Settings) (trail : List Entry) (objects : List ObjectId) (shows : List Show) (show : Show) → History s trail → AreTapShows s trail objects shows → In show shows → show.states ≡ states_at s trail objects show.vector
tap_stays s trail objects shows show history tap i = go (subst (λ l. In show l) tap.whole i)
  where
    go : In show (opening s.n objects ∷ tap.later) → show.states ≡ states_at s trail objects show.vector
    go (inl same) = subst (λ (show : Show). show.states ≡ states_at s trail objects show.vector) (sym same) (opening_stays s trail objects history)
    go (inr i) = show_stays s trail objects show history (from_show s trail objects 0 tap.later show tap.are i)

-- the first of some shows of a trail are such
first_shows : (s : Settings) (trail : List Entry) (objects : List ObjectId) (least : ℕ) (shows rest : List Show) → AreShowsFrom least s trail objects (shows ++ rest) → AreShowsFrom least s trail objects shows
first_shows s trail objects least [] rest are = tt
first_shows s trail objects least (x ∷ shows) rest are = (are.0, are.1, are.2, first_shows s trail objects (suc are.0) shows rest are.3)

-- equal lists have equal parts
same_parts : (x y : Show) (xs ys : List Show) → x ∷ xs ≡ y ∷ ys → (x ≡ y) × (xs ≡ ys)
same_parts x y xs ys same = (cc, cc)

-- what a reader has seen are the shows of a tap, as far as they go
pub seen_by : (s : Settings) (trail : List Entry) (objects : List ObjectId) (shows seen : List Show) → AreTapShows s trail objects shows → IsFront seen shows → 1 ≤ length seen → AreTapShows s trail objects seen
seen_by s trail objects shows [] tap front some = absurd (omega (arith, some))
seen_by s trail objects shows (x ∷ seen) tap front some =
    let parts = same_parts (opening s.n objects) x tap.later (seen ++ front.rest) (sym tap.whole ∙ front.whole_is) in
    record { later = seen; whole = ap (λ show. show ∷ seen) (sym parts.0); are = first_shows s trail objects 0 seen front.rest (subst (AreShowsFrom 0 s trail objects) parts.1 tap.are) }
