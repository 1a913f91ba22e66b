-- The passes of a door, where a call is made with one of them.
use Rattle.std.proofs.Common.{◌≡◌, ◌≢◌, ◌≤◌, ◌<◌, ℕ, zero, suc, ◌+◌, ◌^◌, ◌==◌, Bool, true, true≢false, List, [], ◌∷◌, ◌++◌, map, length, take, get_or, set, Option, Some, Result, Ok, Err, refl, sym, ap, ◌∙◌, subst, arith, append_assoc, length-append, length-set}
use Rattle.std.specs.Prelude.{IfOk, OnErr, slice_get}
use Rattle.std.specs.List.{AllZip}
use Rattle.std.proofs.Math.Seq.{map-set_same}
use Rattle.std.proofs.lemmas.List.Elements.{All-set}
use Rattle.std.proofs.lemmas.List.Sums.{length-filter, count_by-le-length}
use Rattle.std.proofs.lemmas.Option.{same_Some, slice_get_within, slice_get-get_or, get_or_from_slice_get}
use mathlib.Core.Logic.{dite}
use native.Mathlib.Decide.{ℕ_discrete}
use Rattle.list_core.proofs.Gets.{all_get, get_seam, set_here, set_else}
use Rattle.machine_trail.specs.History.{IsHistory, entry}
use Rattle.host_lock.specs.Law.{calls_of}
use Rattle.host_lock.specs.Hosts.{IsOf, HasCalled, seen}
use Rattle.dc_talk.specs.declared.ask.Ask.{Ask}
use Rattle.dc_talk.specs.declared.say.Say.{Say}
use Rattle.dc_talk.specs.declared.settings.Settings.{Settings}
use Rattle.dc_talk.specs.Entries.{Entry}
use Rattle.dc_talk.specs.Answers.{IsAnswer}
use Rattle.dc_talk.specs.Doors.{belongs, HasAsked, HasNotAsked}
use Rattle.dc_talk.proofs.Belonging.{answer_belongs}
use Rattle.dc_host.specs.HostDoors.{CentreHost, CentrePass, pass_at, made_with, seen_with, shown_by, bare, calls_with, counted, ArePasses, HasCalledAt, HasNotCalledAt}

-- ---- passes beside their hosts

module _ {X Y : Type 0} (R : X → Y → Type 0) where
  -- there are as many of both
  pub zip_long : (xs : List X) (ys : List Y) → AllZip R xs ys → length xs ≡ length ys
  zip_long [] [] z = refl
  zip_long [] (y ∷ ys) z = absurd z
  zip_long (x ∷ xs) [] z = absurd z
  zip_long (x ∷ xs) (y ∷ ys) z = ap suc (zip_long xs ys z.1)

  -- those at one place belong together
  pub zip_at : (xs : List X) (ys : List Y) (k : ℕ) (d : X) (e : Y) → AllZip R xs ys → k < length ys → R (get_or xs k d) (get_or ys k e)
  zip_at [] [] k d e z lt = absurd (omega (arith, lt))
  zip_at [] (y ∷ ys) k d e z lt = absurd z
  zip_at (x ∷ xs) [] k d e z lt = absurd z
  zip_at (x ∷ xs) (y ∷ ys) zero d e z lt = z.0
  zip_at (x ∷ xs) (y ∷ ys) (suc k) d e z lt = zip_at xs ys k d e z.1 (omega (arith, lt))

-- a pass that differs in what was done with it alone is of the same host
of_same : (h : CentreHost) (p q : CentrePass) → bare q ≡ bare p → IsOf h p → IsOf h q
of_same h p q same of = (ap (λ (x : CentrePass). x.table) same ∙ of.0, ap (λ (x : CentrePass). x.settings) same ∙ of.1, ap (λ (x : CentrePass). x.opening) same ∙ of.2)

-- such a pass may be put in the place of the other
zip_set : (hs : List CentreHost) (ps : List CentrePass) (k : ℕ) (p q : CentrePass) → slice_get ps k ≡ Some p → bare q ≡ bare p → AllZip IsOf hs ps → AllZip IsOf hs (set ps k q)
zip_set [] [] k p q there same z = z
zip_set [] (x ∷ ps) k p q there same z = absurd z
zip_set (h ∷ hs) [] k p q there same z = absurd z
zip_set (h ∷ hs) (x ∷ ps) zero p q there same z = (of_same h x q (same ∙ ap bare (sym (same_Some x p there))) z.0, z.1)
zip_set (h ∷ hs) (x ∷ ps) (suc k) p q there same z = (z.0, zip_set hs ps k p q there same z.1)

module _ (old new : List CentrePass) (place : ℕ) (p q : CentrePass) (there : slice_get old place ≡ Some p) (after : new ≡ set old place q) where
  -- the pass that is there now
  pass_here : pass_at new (suc place) ≡ Some q
  pass_here = ap (λ (l : List CentrePass). slice_get l place) after ∙ set_here old place q (slice_get_within old place p there)

  -- the others are as before
  pass_else : (j : ℕ) → j ≢ suc place → pass_at new j ≡ pass_at old j
  pass_else zero differs = refl
  pass_else (suc k) differs = ap (λ (l : List CentrePass). slice_get l k) after ∙ set_else old place k q (λ same. differs (ap suc same))

  -- what is the same of both is the same at every place
  all_same : {X : Type 0} (f : Option CentrePass → X) → f (Some q) ≡ f (Some p) → (j : ℕ) → f (pass_at new j) ≡ f (pass_at old j)
  all_same {X} f same j = dite (ℕ_discrete j (suc place))
      (λ is. subst (λ i. f (pass_at new i) ≡ f (pass_at old i)) (sym is) (ap f pass_here ∙ (same ∙ ap f (sym there))))
      (λ differs. ap f (pass_else j differs))

  -- there are as many passes
  number_stays : length new ≡ length old
  number_stays = ap length after ∙ length-set old place q

  module _ (same : bare q ≡ bare p) where
    -- they are still those of the actor
    are_passes : (hs : List CentreHost) (actor : ℕ) → ArePasses hs actor old → ArePasses hs actor new
    are_passes hs actor are = subst (ArePasses hs actor) (sym after) (record {
      each = zip_set hs old place p q there same are.each;
      numbered = All-set (λ (x : CentrePass). x.number ≡ actor) old place q (ap (λ (x : CentrePass). x.number) same ∙ all_get (λ (x : CentrePass). x.number ≡ actor) old place p are.numbered there) are.numbered;
    })

    -- the place stays
    bares_stay : map bare new ≡ map bare old
    bares_stay = ap (map bare) after ∙ map-set_same bare old place q p (same ∙ ap bare (sym (get_or_from_slice_get old place p p there)))

-- ---- how many calls were made

-- the number behind a number, as it is counted
pub counted_next : (n : ℕ) → counted (counted n + 1) ≡ counted (n + 1)
counted_next n = omega arith

-- the number of one call more
pub counted_more : (step calls old new : ℕ) → step ≡ counted (calls + 1) → calls ≡ counted old → new ≡ old + 1 → step ≡ counted new
counted_more step calls old new next was more = next ∙ (ap (λ n. counted (n + 1)) was ∙ (counted_next old ∙ ap counted (sym more)))

-- a sum of numbers as they are counted
pub counted_sum : (m n : ℕ) → counted (counted m + counted n) ≡ counted (m + n)
counted_sum m n = omega arith

-- where a pass takes the place of one with so many calls less, as many more were made
calls_set : (ps : List CentrePass) (place : ℕ) (p q : CentrePass) (more : ℕ) → slice_get ps place ≡ Some p → length q.mine ≡ length p.mine + more → calls_with (set ps place q) ≡ calls_with ps + more
calls_set [] place p q more there long = absurd (omega (arith, slice_get_within [] place p there))
calls_set (x ∷ ps) zero p q more there long = let same : length x.mine ≡ length p.mine = ap (λ (y : CentrePass). length y.mine) (same_Some x p there) in omega (arith, same, long)
calls_set (x ∷ ps) (suc k) p q more there long = let rest : calls_with (set ps k q) ≡ calls_with ps + more = calls_set ps k p q more there long in omega (arith, rest)

-- ---- one call

-- no caller has more calls than there are entries
few_calls : (n : ℕ) (l : List Entry) → length (calls_of n l) ≤ length l
few_calls n l = let its : Entry → Bool = λ e. e.caller == n in let same = length-filter its l in let few = count_by-le-length its l in omega (arith, same, few)

-- the last answer of a history is one to its ask
last_belongs : (s : Settings) (xs : List Entry) (e : Entry) → IsHistory (IsAnswer s) (xs ++ e ∷ []) → belongs e.ask e.say ≡ true
last_belongs s xs e history = subst (λ (say : Say). belongs e.ask say ≡ true) (sym (history.holds (length xs) e (get_seam xs e []))) (answer_belongs s (take (length xs) (xs ++ e ∷ [])) e.ask)

module _ (old new : List CentrePass) (place : ℕ) (ask : Ask) (say : Say) (has : HasCalledAt old new place ask say) where
  abbrev own : Entry
  own = entry has.pass.number ask say

  abbrev rest : List Entry
  rest = has.called.0 ++ own ∷ []

  abbrev same_pass : bare has.now ≡ bare has.pass
  same_pass = ap bare has.called.2

  -- the answer is one to the ask
  pub call_belongs : belongs ask say ≡ true
  call_belongs =
      let p = has.pass in let h = has.called.3.1 in
      let all : p.opening ++ (p.since ++ rest) ≡ ((p.opening ++ p.since) ++ has.called.0) ++ own ∷ [] = sym (append_assoc p.opening p.since rest) ∙ sym (append_assoc (p.opening ++ p.since) has.called.0 (own ∷ [])) in
      last_belongs h.0 ((p.opening ++ p.since) ++ has.called.0) own (subst (IsHistory (IsAnswer h.0)) all h.2)

  -- one call more was made
  pub called_more : calls_with new ≡ calls_with old + 1
  called_more = ap calls_with has.after ∙ calls_set old place has.pass has.now 1 has.there (ap (λ (x : CentrePass). length x.mine) has.called.2 ∙ length-append has.pass.mine (own ∷ []))

  -- the door has been asked
  called_asked : (actor : ℕ) → has.pass.number ≡ actor → HasAsked (shown_by actor old) (shown_by actor new) (suc place) (entry actor ask say)
  called_asked actor number = subst (λ n. HasAsked (shown_by actor old) (shown_by actor new) (suc place) (entry n ask say)) number
      (
      let p = has.pass in let q = has.now in let is = has.called.2 in let grows = has.called.3 in
      let here : pass_at new (suc place) ≡ Some q = pass_here old new place p q has.there has.after in
      let mine : made_with (pass_at new (suc place)) ≡ p.mine ++ own ∷ [] = ap made_with here ∙ ap (λ (x : CentrePass). x.mine) is in
      let all : seen_with (pass_at new (suc place)) ≡ p.opening ++ (p.since ++ rest) = ap seen_with here ∙ ap seen is in
      let few : length (p.mine ++ own ∷ []) ≤ length (p.since ++ rest) = subst (λ (l : List Entry). length l ≤ length (p.since ++ rest)) grows.0 (few_calls p.number (p.since ++ rest)) in
      let long : length (p.opening ++ (p.since ++ rest)) ≡ length p.opening + length (p.since ++ rest) = length-append p.opening (p.since ++ rest) in
      let short : length (p.opening ++ (p.since ++ rest)) < 2 ^ 62 = grows.2 in
      let count_made : length (made_with (pass_at new (suc place))) ≡ length (p.mine ++ own ∷ []) = ap length mine in
      let count_seen : length (seen_with (pass_at new (suc place))) ≡ length (p.opening ++ (p.since ++ rest)) = ap length all in
      record {
        same = record { actor = refl; centres = number_stays old new place p q has.there has.after; alone = refl };
        made = mine ∙ ap (λ o. made_with o ++ own ∷ []) (sym has.there);
        between = has.called.0;
        seen = all ∙ (sym (append_assoc p.opening p.since rest) ∙ ap (λ o. seen_with o ++ rest) (sym has.there));
        alone = λ is. absurd (true≢false (sym is));
        other_made = λ j differs. ap made_with (pass_else old new place p q has.there has.after j differs);
        other_seen = λ j differs. ap seen_with (pass_else old new place p q has.there has.after j differs);
        short = (omega (arith, few, long, short, count_made), omega (arith, short, count_seen));
      }
      )

-- where no call was made, no more were
pub none_more : (old new : List CentrePass) (place : ℕ) → HasNotCalledAt old new place → calls_with new ≡ calls_with old
none_more old new place has =
    let p = has.pass in
    let same : length p.mine ≡ length p.mine + 0 = omega arith in
    let set_it = calls_set old place p (record p { found = p.found ++ has.found }) 0 has.there same in
    ap calls_with has.after ∙ omega (arith, set_it)

-- where no call was made, nothing was asked
pub none_asked : (old new : List CentrePass) (place actor : ℕ) → HasNotCalledAt old new place → HasNotAsked (shown_by actor old) (shown_by actor new)
none_asked old new place actor has =
    let p = has.pass in let q : CentrePass = record p { found = p.found ++ has.found } in record {
      same = record { actor = refl; centres = number_stays old new place p q has.there has.after; alone = refl };
      made = all_same old new place p q has.there has.after made_with refl;
      seen = all_same old new place p q has.there has.after seen_with refl;
    }

-- ---- as a call ends

-- the pass that was found stands at the place
stands_there : (ps : List CentrePass) (place : ℕ) (p : CentrePass) → place < length ps → p ≡ get_or ps place p → slice_get ps place ≡ Some p
stands_there ps place p within is = slice_get-get_or ps place p within ∙ ap (λ (x : CentrePass). Some x) (sym is)

module _ {E : Type 0} (ps : List CentrePass) (place : ℕ) (p q : CentrePass) (within : place < length ps) (is : p ≡ get_or ps place p) where
  -- the pass at the place made a call
  pub has_called : (ask : Ask) (r : Result Say E) → IfOk r (λ say. HasCalled IsAnswer p ask say q) → IfOk r (λ say. HasCalledAt ps (set ps place q) place ask say)
  has_called ask (Ok say) called = record { pass = p; now = q; there = stands_there ps place p within is; called = called; after = refl }
  has_called ask (Err e) called = tt

  -- or none
  pub has_not_called : (r : Result Say E) → OnErr r ((found : List ℕ) × (q ≡ record p { found = p.found ++ found })) → OnErr r (HasNotCalledAt ps (set ps place q) place)
  has_not_called (Ok say) none = tt
  has_not_called (Err e) none = record { pass = p; found = none.0; there = stands_there ps place p within is; after = ap (set ps place) none.1 }

module _ {E : Type 0} (hs : List CentreHost) (old new : List CentrePass) (place actor : ℕ) (ask : Ask) (r : Result Say E) where
  -- the passes are still those of the actor
  pub passes_stay : ArePasses hs actor old → IfOk r (λ say. HasCalledAt old new place ask say) → OnErr r (HasNotCalledAt old new place) → ArePasses hs actor new
  passes_stay = go r
    where
      go : (r : Result Say E) → ArePasses hs actor old → IfOk r (λ say. HasCalledAt old new place ask say) → OnErr r (HasNotCalledAt old new place) → ArePasses hs actor new
      go (Ok say) are has none = are_passes old new place has.pass has.now has.there has.after (same_pass old new place ask say has) hs actor are
      go (Err e) are has none = are_passes old new place none.pass (record none.pass { found = none.pass.found ++ none.found }) none.there none.after refl hs actor are

  -- so is the place
  pub bare_stays : IfOk r (λ say. HasCalledAt old new place ask say) → OnErr r (HasNotCalledAt old new place) → map bare new ≡ map bare old
  bare_stays = go r
    where
      go : (r : Result Say E) → IfOk r (λ say. HasCalledAt old new place ask say) → OnErr r (HasNotCalledAt old new place) → map bare new ≡ map bare old
      go (Ok say) has none = bares_stay old new place has.pass has.now has.there has.after (same_pass old new place ask say has)
      go (Err e) has none = bares_stay old new place none.pass (record none.pass { found = none.pass.found ++ none.found }) none.there none.after refl

-- the door of these passes has been asked
pub host_asked : (hs : List CentreHost) (old new : List CentrePass) (place actor : ℕ) (ask : Ask) (say : Say) (i : ℕ) → i ≡ suc place → ArePasses hs actor old → HasCalledAt old new place ask say → HasAsked (shown_by actor old) (shown_by actor new) i (entry actor ask say)
host_asked hs old new place actor ask say i is are has = subst (λ k. HasAsked (shown_by actor old) (shown_by actor new) k (entry actor ask say)) (sym is) (called_asked old new place ask say has actor (all_get (λ (x : CentrePass). x.number ≡ actor) old place has.pass are.numbered has.there))

-- what holds is what an error says
pub on_err : {A E P : Type 0} (r : Result A E) → P → OnErr r P
on_err (Ok x) p = tt
on_err (Err e) p = p
