-- Reads of the cells of a share, one after another.
use Rattle.std.proofs.Common.{◌≡◌, ℕ, ◌+◌, ◌*◌, ◌<◌, ◌≤◌, ℤ, List, [], ◌∷◌, ◌++◌, length, map, take, drop, get_or, Option, Some, None, refl, sym, ap, ◌∙◌, subst, append_assoc, length-append, arith}
use Rattle.std.proofs.lemmas.List.{append-nil, drop_more, map-append, take_all, take_more, take-append-drop}
use Rattle.std.proofs.lemmas.List.Sums.{fold-append}
use Rattle.ids_core.specs.declared.object.ObjectId.{ObjectId}
use Rattle.obj_bounded.specs.CellNames.{cell_names, counter_of}
use Rattle.dc_talk.specs.declared.calls.Outcome.{Outcome}
use Rattle.dc_talk.specs.declared.calls.Outcome.TheVariants.{Refused}
use Rattle.dc_talk.specs.declared.calls.Refusal.TheVariants.{NeedsFetch}
use Rattle.dc_talk.specs.declared.line.StepWord.{StepWord}
use Rattle.dc_talk.specs.declared.log.Deed.{Deed}
use Rattle.dc_talk.specs.declared.log.Note.{Note}
use Rattle.dc_talk.specs.Calls.{outcome_of}
use Rattle.dc_talk.specs.Rule.{after}
use Rattle.script_core.specs.declared.object_call.ObjectCall.{ObjectCall}
use Rattle.script_core.specs.declared.steps.Share.{Share}
use Rattle.script_core.specs.Deeds.{CallDeeds, CellsDeeds, FollowsRead, Progress, behind, cell_read, last_number, share_cells}
use Rattle.script_core.specs.Steps.{IsShare}
use Rattle.client_stub.specs.Playing.{Playing, progress}
use Rattle.client_stub.specs.Errands.{GrowsBy, used_by}
use Rattle.client_stub.specs.BoundedSteps.{EndsEarly, GetsNumber, HasReadCells, ReadsAll}
use Rattle.client_stub.proofs.Growth.{grows_none, grows_then}
use Rattle.client_stub.proofs.Calling.{fetch_from, used_then}
use Rattle.client_stub.proofs.ShareCells.{cells_count, named_cells}

-- ---- how far a client is

-- behind deeds and then behind more
behind_then : (p : Progress) (ds es : List Deed) → behind (behind p ds) es ≡ behind p (ds ++ es)
behind_then p ds es = λ i. record { client = sym (fold-append after p.client ds es) i; armed = used_then p.armed (used_by p.armed ds) ds es refl i; notes = p.notes }

-- what was noted before a call tells nothing of it
call_from : (p : Progress) (notes : List Note) (c : ObjectCall) (out : Outcome) (ds : List Deed) → CallDeeds p c out ds → CallDeeds (record p { notes = notes }) c out ds
call_from p notes c (Refused (NeedsFetch o)) ds are = record { rest = are.rest; whole = are.whole; fetch = fetch_from p notes c are.rest are.fetch }
call_from p notes c _ ds are = are

gets_from : (p : Progress) (notes : List Note) (c : ObjectCall) (number : Option ℤ) (ds : List Deed) → GetsNumber p c number ds → GetsNumber (record p { notes = notes }) c number ds
gets_from p notes c number ds gets = record { such = call_from p notes c (outcome_of p.client c.call) ds gets.such; got = gets.got }

-- a client behind the deeds by which it grew
grown : (Are : List Deed → Type 0) (p q : Playing) (by : GrowsBy Are p q) → behind (progress p) by.deeds ≡ record (progress q) { notes = p.log.notes }
grown Are p q by = λ i. record { client = sym by.grows.client i; armed = sym by.armed i; notes = p.log.notes }

-- what a call gets behind them
gets_behind : (Are : List Deed → Type 0) (p q : Playing) (c : ObjectCall) (number : Option ℤ) (ds : List Deed) (by : GrowsBy Are p q) → GetsNumber (progress q) c number ds → GetsNumber (behind (progress p) by.deeds) c number ds
gets_behind Are p q c number ds by gets = subst (λ (p : Progress). GetsNumber p c number ds) (sym (grown Are p q by)) (gets_from (progress q) p.log.notes c number ds gets)

-- ---- reads, one after another

module _ (word : StepWord) (share : Share) where
  -- one read more
  reads_more : (cells : List ObjectId) (cell : ObjectId) (got numbers : List ℤ) (number : ℤ) (p : Progress) (ds es : List Deed) → ReadsAll word share got cells numbers p ds → GetsNumber (behind p ds) (cell_read word share cell) (Some number) es → ReadsAll word share (got ++ number ∷ []) (cells ++ cell ∷ []) numbers p (ds ++ es)
  reads_more [] cell got numbers number p ds es reads gets = record {
    number = number;
    first = es;
    later = [];
    whole = ap (λ ds. ds ++ es) reads.1 ∙ sym (append-nil es);
    gets = subst (λ ds. GetsNumber (behind p ds) (cell_read word share cell) (Some number) es) reads.1 gets;
    follows = (ap (λ got. got ++ number ∷ []) reads.0, refl);
  }
  reads_more (c ∷ cells) cell got numbers number p ds es reads gets = record {
    number = reads.number;
    first = reads.first;
    later = reads.later ++ es;
    whole = ap (λ ds. ds ++ es) reads.whole ∙ append_assoc reads.first reads.later es;
    gets = reads.gets;
    follows = reads_more cells cell got (numbers ++ reads.number ∷ []) number (behind p reads.first) reads.later es reads.follows
        (subst (λ (p : Progress). GetsNumber p (cell_read word share cell) (Some number) es) (ap (behind p) reads.whole ∙ sym (behind_then p reads.first reads.later)) gets);
  }

  -- the numbers are as many as the cells
  reads_count : (cells : List ObjectId) (got numbers : List ℤ) (p : Progress) (ds : List Deed) → ReadsAll word share got cells numbers p ds → length got ≡ length numbers + length cells
  reads_count [] got numbers p ds reads = let same : length got ≡ length numbers = ap length reads.0 in omega (arith, same)
  reads_count (c ∷ cells) got numbers p ds reads =
      let rest = reads_count cells got (numbers ++ reads.number ∷ []) (behind p reads.first) reads.later reads.follows in
      let more : length (numbers ++ reads.number ∷ []) ≡ length numbers + 1 = length-append numbers (reads.number ∷ []) in
      omega (arith, rest, more)

  module _ (Follows : List ℤ → Progress → List Deed → Type 0) where
    -- what follows reads, behind them
    reads_then : (cells others : List ObjectId) (got numbers : List ℤ) (p : Progress) (ds later : List Deed) → ReadsAll word share got cells numbers p ds → CellsDeeds word share Follows others got (behind p ds) later → CellsDeeds word share Follows (cells ++ others) numbers p (ds ++ later)
    reads_then [] others got numbers p ds later reads follow =
        subst (λ ds. CellsDeeds word share Follows others numbers p (ds ++ later)) (sym reads.1)
        (subst (λ ds. CellsDeeds word share Follows others numbers (behind p ds) later) reads.1
        (subst (λ got. CellsDeeds word share Follows others got (behind p ds) later) reads.0 follow))
    reads_then (c ∷ cells) others got numbers p ds later reads follow = record {
      first = reads.first;
      later = reads.later ++ later;
      whole = ap (λ ds. ds ++ later) reads.whole ∙ append_assoc reads.first reads.later later;
      reads = reads.gets.such;
      follows = subst (λ number. FollowsRead number (λ number later. CellsDeeds word share Follows (cells ++ others) (numbers ++ number ∷ []) (behind p reads.first) later) (reads.later ++ later)) reads.gets.got
          (reads_then cells others got (numbers ++ reads.number ∷ []) (behind p reads.first) reads.later later reads.follows
          (subst (λ (p : Progress). CellsDeeds word share Follows others got p later) (ap (behind p) reads.whole ∙ sym (behind_then p reads.first reads.later)) follow));
    }

    -- a read that gives no number is the last, whatever else would follow
    ends_so : (cells : List ObjectId) (numbers : List ℤ) (p : Progress) (ds : List Deed) → EndsEarly word share cells numbers p ds → CellsDeeds word share Follows cells numbers p ds
    ends_so [] numbers p ds early = absurd early
    ends_so (c ∷ cells) numbers p ds early = record {
      first = early.first;
      later = early.later;
      whole = early.whole;
      reads = early.reads;
      follows = by_number (λ number later. ends_so cells (numbers ++ number ∷ []) (behind p early.first) later) (last_number early.first) early.later early.follows;
    }
      where
        by_number : {Early Whole : ℤ → List Deed → Type 0} → ((number : ℤ) (later : List Deed) → Early number later → Whole number later) → (number : Option ℤ) (later : List Deed) → FollowsRead number Early later → FollowsRead number Whole later
        by_number on None later none = none
        by_number on (Some number) later follows = on number later follows

  -- a read that gives no number, whatever cells are left
  read_ends : (cell : ObjectId) (others : List ObjectId) (numbers : List ℤ) (p : Progress) (ds : List Deed) → GetsNumber p (cell_read word share cell) None ds → EndsEarly word share (cell ∷ others) numbers p ds
  read_ends cell others numbers p ds gets = record {
    first = ds;
    later = [];
    whole = sym (append-nil ds);
    reads = gets.such;
    follows = subst (λ number. FollowsRead number (λ number later. EndsEarly word share others (numbers ++ number ∷ []) (behind p ds) later) []) gets.got refl;
  }

  -- ---- growth

  -- the cells of these names were read, and gave these numbers
  abbrev pub HasReadNames : List (List ℕ) → List ℤ → Playing → Playing → Type 0
  HasReadNames names got p q = GrowsBy (ReadsAll word share got (map counter_of names) [] (progress p)) p q

  -- none was read yet
  pub names_none : (p : Playing) (got : List ℤ) → got ≡ [] → HasReadNames [] got p p
  names_none p got none = record { deeds = []; such = (none, refl); grows = grows_none p; armed = refl }

  -- one name more
  pub names_more : (p q r : Playing) (names : List (List ℕ)) (i : ℕ) (name : List ℕ) (on : ObjectCall) (answer : Option ℤ) (number : ℤ) (got later : List ℤ) → i < length names → name ≡ get_or names i name → on ≡ cell_read word share (counter_of name) → answer ≡ Some number → later ≡ got ++ number ∷ [] → HasReadNames (take i names) got p q → GrowsBy (GetsNumber (progress q) on answer) q r → HasReadNames (take (i + 1) names) later p r
  names_more p q r names i name on answer number got later within item is some more reads by =
      let front = take i names in
      let taken : take (i + 1) names ≡ front ++ name ∷ [] = take_more names i name within ∙ ap (λ name. front ++ name ∷ []) (sym item) in
      let cells : map counter_of (take (i + 1) names) ≡ map counter_of front ++ counter_of name ∷ [] = ap (map counter_of) taken ∙ map-append counter_of front (name ∷ []) in
      let gets : GetsNumber (progress q) (cell_read word share (counter_of name)) (Some number) by.deeds = subst (λ answer. GetsNumber (progress q) (cell_read word share (counter_of name)) answer by.deeds) some (subst (λ (on : ObjectCall). GetsNumber (progress q) on answer by.deeds) is by.such) in
      record {
        deeds = reads.deeds ++ by.deeds;
        such = subst (λ got. ReadsAll word share got (map counter_of (take (i + 1) names)) [] (progress p) (reads.deeds ++ by.deeds)) (sym more)
            (subst (λ cells. ReadsAll word share (got ++ number ∷ []) cells [] (progress p) (reads.deeds ++ by.deeds)) (sym cells)
            (reads_more (map counter_of front) (counter_of name) got [] number (progress p) reads.deeds by.deeds reads.such
            (gets_behind (ReadsAll word share got (map counter_of front) [] (progress p)) p q (cell_read word share (counter_of name)) (Some number) by.deeds reads gets)));
        grows = grows_then p q r reads.deeds by.deeds reads.grows by.grows;
        armed = by.armed ∙ used_then p.armed q.armed reads.deeds by.deeds reads.armed;
      }

  -- all names
  pub names_all : (p q : Playing) (names : List (List ℕ)) (i : ℕ) (got : List ℤ) → names ≡ cell_names share.name share.holder share.holders → length names ≤ i → HasReadNames (take i names) got p q → HasReadCells word share (Some got) p q
  names_all p q names i got all end reads = subst (λ cells. GrowsBy (ReadsAll word share got cells [] (progress p)) p q) (ap (map counter_of) (take_all i names end ∙ all) ∙ named_cells share) reads

  -- a name whose cell gave no number
  pub names_end : (p q r : Playing) (names : List (List ℕ)) (i : ℕ) (name : List ℕ) (on : ObjectCall) (answer : Option ℤ) (got : List ℤ) → names ≡ cell_names share.name share.holder share.holders → i < length names → name ≡ get_or names i name → on ≡ cell_read word share (counter_of name) → answer ≡ None → HasReadNames (take i names) got p q → GrowsBy (GetsNumber (progress q) on answer) q r → HasReadCells word share None p r
  names_end p q r names i name on answer got all within item is none reads by =
      let front = take i names in
      let others = drop (i + 1) names in
      let behind_it : drop i names ≡ name ∷ others = drop_more names i name within ∙ ap (λ name. name ∷ others) (sym item) in
      let whole : front ++ name ∷ others ≡ names = ap (λ names. front ++ names) (sym behind_it) ∙ take-append-drop i names in
      let cells : map counter_of front ++ map counter_of (name ∷ others) ≡ share_cells share = sym (map-append counter_of front (name ∷ others)) ∙ (ap (map counter_of) (whole ∙ all) ∙ named_cells share) in
      let gets : GetsNumber (progress q) (cell_read word share (counter_of name)) None by.deeds = subst (λ answer. GetsNumber (progress q) (cell_read word share (counter_of name)) answer by.deeds) none (subst (λ (on : ObjectCall). GetsNumber (progress q) on answer by.deeds) is by.such) in
      record {
        deeds = reads.deeds ++ by.deeds;
        such = subst (λ cells. EndsEarly word share cells [] (progress p) (reads.deeds ++ by.deeds)) cells
            (reads_then (λ numbers q later. ⊥) (map counter_of front) (map counter_of (name ∷ others)) got [] (progress p) reads.deeds by.deeds reads.such
            (read_ends (counter_of name) (map counter_of others) got (behind (progress p) reads.deeds) by.deeds
            (gets_behind (ReadsAll word share got (map counter_of front) [] (progress p)) p q (cell_read word share (counter_of name)) None by.deeds reads gets)));
        grows = grows_then p q r reads.deeds by.deeds reads.grows by.grows;
        armed = by.armed ∙ used_then p.armed q.armed reads.deeds by.deeds reads.armed;
      }

  -- there are two numbers for each holder
  pub got_count : (p q : Playing) (got : List ℤ) → IsShare share → HasReadCells word share (Some got) p q → length got ≡ 2 * share.holders
  got_count p q got is reads =
      let all : length got ≡ 0 + length (share_cells share) = reads_count (share_cells share) got [] (progress p) reads.deeds reads.such in
      let twice = cells_count share is in
      omega (arith, all, twice)

  -- ---- what follows

  module _ (Follows : List ℤ → Progress → List Deed → Type 0) where
    -- behind the cells that were read
    pub cells_then : (p q r : Playing) (Are : List Deed → Type 0) (got : List ℤ) → HasReadCells word share (Some got) p q → ((deeds : List Deed) → Are deeds → Follows got (record (progress q) { notes = p.log.notes }) deeds) → GrowsBy Are q r → GrowsBy (CellsDeeds word share Follows (share_cells share) [] (progress p)) p r
    cells_then p q r Are got reads follow by = record {
      deeds = reads.deeds ++ by.deeds;
      such = subst (λ cells. CellsDeeds word share Follows cells [] (progress p) (reads.deeds ++ by.deeds)) (append-nil (share_cells share))
          (reads_then Follows (share_cells share) [] got [] (progress p) reads.deeds by.deeds reads.such
          (subst (λ (p : Progress). Follows got p by.deeds) (sym (grown (ReadsAll word share got (share_cells share) [] (progress p)) p q reads)) (follow by.deeds by.such)));
      grows = grows_then p q r reads.deeds by.deeds reads.grows by.grows;
      armed = by.armed ∙ used_then p.armed q.armed reads.deeds by.deeds reads.armed;
    }

    -- nothing, where a read gave no number
    pub cells_end : (p q : Playing) → HasReadCells word share None p q → GrowsBy (CellsDeeds word share Follows (share_cells share) [] (progress p)) p q
    cells_end p q reads = record { deeds = reads.deeds; such = ends_so Follows (share_cells share) [] (progress p) reads.deeds reads.such; grows = reads.grows; armed = reads.armed }
