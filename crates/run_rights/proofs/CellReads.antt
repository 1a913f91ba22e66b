-- Reads of the cells of a share, one after another: they end early, with nothing but reads, asks for cells and a line that
-- tells no rights; or each cell told its number.
use Rattle.std.proofs.Common.{◌≡◌, ◌⊎◌, inl, inr, ⊎_elim, ℤ, Bool, true, false, cond, List, [], ◌∷◌, ◌++◌, length, map, fold, Option, Some, None, refl, sym, ap, ◌∙◌, subst, arith}
use Rattle.std.specs.Prelude.{All, pos}
use Rattle.std.proofs.lemmas.Option.{none-some, same_Some}
use Rattle.std.proofs.lemmas.List.{append-nil, append_assoc}
use Rattle.std.proofs.lemmas.List.Elements.{All-nil, All-head, All-tail, All-append, All-weaker}
use Rattle.list_core.specs.Members.{In}
use Rattle.list_core.specs.Apart.{Apart}
use Rattle.list_core.proofs.Members.{In_left, In_right}
use Rattle.ids_core.specs.declared.object.ObjectId.{ObjectId}
use Rattle.ids_core.specs.Ids.{same_object}
use Rattle.ids_core.specs.Same.{same_object-true, same_object-itself}
use Rattle.tx_core.specs.declared.state.Value.TheVariants.{Number as NumberValue}
use Rattle.dc_talk.specs.declared.ask.Ask.TheVariants.{Fetch, Delta}
use Rattle.dc_talk.specs.declared.calls.Call.TheVariants.{Read as ReadCall}
use Rattle.dc_talk.specs.declared.calls.Outcome.{Outcome}
use Rattle.dc_talk.specs.declared.calls.Outcome.TheVariants.{Got}
use Rattle.dc_talk.specs.declared.log.Deed.{Deed}
use Rattle.dc_talk.specs.declared.log.Deed.TheVariants.{Did, Asked, Told, Spoilt}
use Rattle.dc_talk.specs.declared.line.StepWord.{StepWord}
use Rattle.dc_talk.specs.Clients.{Client}
use Rattle.dc_talk.specs.Calls.{outcome_of}
use Rattle.dc_talk.specs.Rule.{after}
use Rattle.script_core.specs.declared.steps.Share.{Share}
use Rattle.script_core.specs.Deeds.{after_all, behind, CallDeeds, cell_read, CellsDeeds, FollowsRead, last_number, number_got, Progress, ReadsCell}
use Rattle.graph_rights.proofs.Images.{same_head, same_rest, map_agree}
use Rattle.run_steps.specs.Quiet.{IsQuiet}
use Rattle.run_steps.proofs.Who.{after_who}
use Rattle.run_rights.proofs.ObjectCalls.{object_each}
use Rattle.run_rights.proofs.RightsLines.{rights_told, TellsNone}

-- a number of an object that was read
abbrev pub got : ObjectId → ℤ → Deed
got o number = Did (ReadCall o) (Got (NumberValue number))

-- ---- the client

-- deeds, one after another, leave its number
all_who : (s : Client) (deeds : List Deed) → (after_all s deeds).client ≡ s.client
all_who s [] = refl
all_who s (deed ∷ deeds) = all_who (after s deed) deeds ∙ after_who s deed

-- ---- one cell

-- a deed of a read of a cell: the read, an ask for an object, or a line that tells no rights
abbrev IsReadOf : ObjectId → Deed → Type 0
IsReadOf cell (Did call outcome) = call ≡ ReadCall cell
IsReadOf cell (Asked i (Fetch o here) fate) = Unit {0}
IsReadOf cell (Asked i (Delta o from here) fate) = Unit {0}
IsReadOf cell (Asked i _ fate) = ⊥
IsReadOf cell (Told l) = rights_told l ≡ None
IsReadOf cell (Spoilt from item why) = ⊥

-- a deed that is quiet and tells no rights
abbrev pub IsIdle : Deed → Type 0
IsIdle deed = IsQuiet deed × TellsNone deed

read_idle : (cell : ObjectId) (deed : Deed) → IsReadOf cell deed → IsIdle deed
read_idle cell (Did call outcome) is = (subst (λ call. IsQuiet (Did call outcome)) (sym is) tt, tt)
read_idle cell (Asked i (Fetch o here) fate) is = (tt, tt)
read_idle cell (Asked i (Delta o from here) fate) is = (tt, tt)
read_idle cell (Asked i _ fate) is = absurd is
read_idle cell (Told l) is = (tt, is)
read_idle cell (Spoilt from item why) is = absurd is

-- the deeds of a read
call_reads : (word : StepWord) (share : Share) (cell : ObjectId) (p : Progress) (outcome : Outcome) (deeds : List Deed) → CallDeeds p (cell_read word share cell) outcome deeds → All (IsReadOf cell) deeds
call_reads word share cell p outcome deeds are = object_each (IsReadOf cell) (λ l plain. plain) (cell_read word share cell) (λ outcome. refl) (λ i here fate. tt) (λ i from here fate. tt) p outcome deeds are

-- a number that a deed of the read got is one of the cell
number_of : (cell : ObjectId) (deed : Deed) (number : ℤ) → IsReadOf cell deed → number_got deed ≡ Some number → got cell number ≡ deed
number_of cell (Did (ReadCall o) (Got (NumberValue n))) number is gives = λ i. Did (sym is i) (Got (NumberValue (sym (same_Some n number gives) i)))
number_of cell deed number is gives = absurd (none-some number gives)

-- so is the last one
last_read : (cell : ObjectId) (deeds : List Deed) (found : Option ℤ) (number : ℤ) → All (IsReadOf cell) deeds → fold (λ (found : Option ℤ) (deed : Deed). number_got deed) found deeds ≡ Some number → In (got cell number) deeds ⊎ (found ≡ Some number)
last_read cell [] found number all is = inr is
last_read cell (deed ∷ deeds) found number all is =
    ⊎_elim
    (λ i. inl (inr i))
    (λ here. inl (inl (number_of cell deed number (All-head (IsReadOf cell) deed deeds all) here)))
    (last_read cell deeds (number_got deed) number (All-tail (IsReadOf cell) deed deeds all) is)

number_read : (cell : ObjectId) (deeds : List Deed) (number : ℤ) → All (IsReadOf cell) deeds → last_number deeds ≡ Some number → In (got cell number) deeds
number_read cell deeds number all is = ⊎_elim (λ i. i) (λ none. absurd (none-some number none)) (last_read cell deeds None number all is)

-- ---- cells, one after another

module _ (word : StepWord) (share : Share) (Follows : List ℤ → Progress → List Deed → Type 0) where
  -- cells that were all read, with the number of each, and what followed
  pub record ReadsAll (cells : List ObjectId) (numbers : List ℤ) (p : Progress) (deeds : List Deed) : Type 0 where
    pub front : List Deed
    pub later : List Deed
    pub more : List ℤ
    pub last : Progress
    pub whole : deeds ≡ front ++ later
    pub idle : All IsIdle front
    pub long : length cells ≡ length more
    pub reads : (value : ObjectId → ℤ) → map value cells ≡ more → (o : ObjectId) → In o cells → In (got o (value o)) front
    pub who : last.client.client ≡ p.client.client
    pub follows : Follows (numbers ++ more) last later

  -- the deeds are idle, or all cells are read
  abbrev Goes : List ObjectId → List ℤ → Progress → List Deed → Type 0
  Goes cells numbers p deeds = All IsIdle deeds ⊎ ReadsAll cells numbers p deeds

  module _ (cell : ObjectId) (cells : List ObjectId) (numbers : List ℤ) (p : Progress) (deeds : List Deed) where
    abbrev Rest : ℤ → Progress → List Deed → Type 0
    Rest number q later = CellsDeeds word share Follows cells (numbers ++ number ∷ []) q later

    -- one cell more, before the others
    one_more : (r : ReadsCell p (cell_read word share cell) Rest deeds) → ((number : ℤ) → Rest number (behind p r.first) r.later → Goes cells (numbers ++ number ∷ []) (behind p r.first) r.later) → Goes (cell ∷ cells) numbers p deeds
    one_more r rest = go (last_number r.first) refl r.follows
      where
        are_reads : All (IsReadOf cell) r.first
        are_reads = call_reads word share cell p (outcome_of p.client (ReadCall cell)) r.first r.reads

        idle : All IsIdle r.first
        idle = All-weaker (IsReadOf cell) IsIdle (read_idle cell) r.first are_reads

        grown : (number : ℤ) → last_number r.first ≡ Some number → ReadsAll cells (numbers ++ number ∷ []) (behind p r.first) r.later → ReadsAll (cell ∷ cells) numbers p deeds
        grown number is all = record {
          front = r.first ++ all.front;
          later = all.later;
          more = number ∷ all.more;
          last = all.last;
          whole = r.whole ∙ (ap (λ l. r.first ++ l) all.whole ∙ sym (append_assoc r.first all.front all.later));
          idle = All-append IsIdle r.first all.front idle all.idle;
          long = omega (arith, all.long);
          reads = λ value are o i. ⊎_elim
              (λ same.
              let of_cell : got cell number ≡ got o (value o) = sym (ap (λ x. got x (value x)) same ∙ ap (got cell) (same_head are)) in
              In_left r.first all.front (got o (value o)) (subst (λ deed. In deed r.first) of_cell (number_read cell r.first number are_reads is)))
              (λ j. In_right r.first all.front (got o (value o)) (all.reads value (same_rest are) o j)) i;
          who = all.who ∙ all_who p.client r.first;
          follows = subst (λ l. Follows l all.last all.later) (append_assoc numbers (number ∷ []) all.more) all.follows;
        }

        go : (found : Option ℤ) → last_number r.first ≡ found → FollowsRead found (λ number. Rest number (behind p r.first)) r.later → Goes (cell ∷ cells) numbers p deeds
        go None is none = inl (subst (All IsIdle) (sym (r.whole ∙ (ap (λ l. r.first ++ l) none ∙ append-nil r.first))) idle)
        go (Some number) is later =
            ⊎_elim
            (λ ends. inl (subst (All IsIdle) (sym r.whole) (All-append IsIdle r.first r.later idle ends)))
            (λ all. inr (grown number is all))
            (rest number later)

  -- all cells
  pub cells_go : (cells : List ObjectId) (numbers : List ℤ) (p : Progress) (deeds : List Deed) → CellsDeeds word share Follows cells numbers p deeds → Goes cells numbers p deeds
  cells_go [] numbers p deeds follows = inr (record {
    front = [];
    later = deeds;
    more = [];
    last = p;
    whole = refl;
    idle = All-nil IsIdle;
    long = refl;
    reads = λ value are o i. absurd i;
    who = refl;
    follows = subst (λ l. Follows l p deeds) (sym (append-nil numbers)) follows;
  })
  cells_go (cell ∷ cells) numbers p deeds r = one_more cell cells numbers p deeds r (λ number later. cells_go cells (numbers ++ number ∷ []) (behind p r.first) r.later later)

-- ---- the values of cells

-- the number of a cell
abbrev pub value_in : List ObjectId → List ℤ → ObjectId → ℤ
value_in [] numbers x = pos 0
value_in (o ∷ cells) [] x = pos 0
value_in (o ∷ cells) (number ∷ numbers) x = cond (same_object o x) number (value_in cells numbers x)

-- the numbers are those of the cells
pub values_are : (cells : List ObjectId) (numbers : List ℤ) → Apart (λ (o : ObjectId). o) cells → length cells ≡ length numbers → map (value_in cells numbers) cells ≡ numbers
values_are [] [] apart same = refl
values_are [] (number ∷ numbers) apart same = absurd (omega (arith, same))
values_are (o ∷ cells) [] apart same = absurd (omega (arith, same))
values_are (o ∷ cells) (number ∷ numbers) apart same =
    let rest = values_are cells numbers apart.1 (omega (arith, same)) in
    let here : value_in (o ∷ cells) (number ∷ numbers) o ≡ number = ap (λ b. cond b number (value_in cells numbers o)) (same_object-itself o) in
    let there = map_agree (value_in (o ∷ cells) (number ∷ numbers)) (value_in cells numbers) cells (λ x i. go x i (same_object o x) refl) in
    λ i. here i ∷ (there ∙ rest) i
  where
    go : (x : ObjectId) → In x cells → (b : Bool) → same_object o x ≡ b → cond (same_object o x) number (value_in cells numbers x) ≡ value_in cells numbers x
    go x i true is = absurd (apart.0 x i (same_object-true o x is))
    go x i false is = ap (λ b. cond b number (value_in cells numbers x)) is
