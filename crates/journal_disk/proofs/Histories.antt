-- How the history of a disk goes on by a call, by a call with its sync, and by runs one after the other.
use Rattle.std.proofs.Common.{◌≡◌, ◌⊎◌, inl, inr, ℕ, Bool, true, cond, ◌&&◌, List, [], ◌∷◌, ◌++◌, Result, Ok, Err, is_ok, OnOk, IsErr, sym, ◌∙◌, ap, subst, append_assoc}
use Rattle.journal_disk.specs.declared.disk.Step.{Step}
use Rattle.journal_disk.specs.declared.disk.Step.TheVariants.{Settled, Unsettled}
use Rattle.journal_disk.specs.declared.disk.Moment.{Moment}
use Rattle.journal_disk.specs.Disk.{moment, seen, MayLeave, keeps_sound, is_sound, synced, Goes, Always, IsSettled, Ran}

-- what stands for nothing where a call failed
pub on_err : {T E : Type 0} (X : Type 0) (r : Result T E) → IsErr r → OnOk r X
on_err X (Ok x) err = absurd (cc err)
on_err X (Err e) err = tt

module _ (stands : List Moment → Type 0) (h : List Moment) (P : List ℕ → Type 0) (base : (c : List ℕ) → MayLeave h c → P c) where
  module _ (Q : List Moment → Type 0) where
    -- nothing was done
    pub ran_none : stands h → Q h → Ran stands h P Q
    ran_none s q = record { later = []; stands_for = s; always = base; ends = q }

    -- one call
    pub ran_one : (m : Moment) → stands (m ∷ h) → ((c : List ℕ) → MayLeave (m ∷ h) c → P c) → Q (m ∷ h) → Ran stands h P Q
    ran_one m s leaves q = record { later = m ∷ []; stands_for = s; always = (leaves, base); ends = q }

    -- one call that failed
    pub ran_failed : (step : Step) → (stands h ⊎ ((file : List ℕ) × stands (moment step file ∷ h))) → ((file : List ℕ) (c : List ℕ) → MayLeave (moment step file ∷ h) c → P c) → ((later : List Moment) → Q later) → Ran stands h P Q
    ran_failed step (inl s) leaves q = ran_none s (q h)
    ran_failed step (inr went) leaves q = ran_one (moment step went.0) went.1 (leaves went.0) (q (moment step went.0 ∷ h))

  -- a call that succeeded, and then a sync
  module _ (step : Step) (keeps : keeps_sound step ≡ true) (sound : is_sound h ≡ true) (file : List ℕ) (leaves : (c : List ℕ) → MayLeave (moment step file ∷ h) c → P c) (whole : P file) (G : List ℕ → Type 0) (good : G file) where
    is_sound_after : is_sound (moment step file ∷ h) ≡ true
    is_sound_after = ap (λ (b : Bool). b && is_sound h) keeps ∙ sound

    pub ran_synced : {T E : Type 0} (r : Result T E) → Goes stands (synced (is_ok r) (is_sound (moment step file ∷ h))) r (moment step file ∷ h) (λ f. f ≡ file)
        → Ran stands h P (λ later. OnOk r ((IsSettled later) × (G (seen later))))
    ran_synced (Ok x) went =
        let is_settled : synced true (is_sound (moment step file ∷ h)) ≡ Settled = ap (λ (b : Bool). cond b Settled Unsettled) is_sound_after in
        let f = went.0 in
        let now : stands (moment Settled f ∷ moment step file ∷ h) = subst (λ (s : Step). stands (moment s f ∷ moment step file ∷ h)) is_settled went.1.0 in
        record {
          later = moment Settled f ∷ moment step file ∷ [];
          stands_for = now;
          always = ((λ c is. subst P (sym (is ∙ went.1.1)) whole), (leaves, base));
          ends = (record { only = λ c is. is; sound = is_sound_after }, subst G (sym went.1.1) good);
        }
    ran_synced (Err e) (inl s) = record { later = moment step file ∷ []; stands_for = s; always = (leaves, base); ends = tt }
    ran_synced (Err e) (inr went) = record { later = moment Unsettled went.0 ∷ moment step file ∷ []; stands_for = went.1; always = (leaves, (leaves, base)); ends = tt }

-- the moments of two runs
pub always_more : (P : List ℕ → Type 0) (more later h : List Moment) → Always P more (later ++ h) → Always P later h → Always P (more ++ later) h
always_more P [] later h always so_far = so_far
always_more P (m ∷ more) later h always so_far =
    ((λ c left. always.0 c (subst (λ (l : List Moment). MayLeave (m ∷ l) c) (append_assoc more later h) left)), always_more P more later h always.1 so_far)

pub always_weaker : (P R : List ℕ → Type 0) (later h : List Moment) → ((c : List ℕ) → P c → R c) → Always P later h → Always R later h
always_weaker P R [] h weaker always = λ c left. weaker c (always c left)
always_weaker P R (m ∷ later) h weaker always = ((λ c left. weaker c (always.0 c left)), always_weaker P R later h weaker always.1)

-- one run after the other
pub ran_more : (mid stands : List Moment → Type 0) (h : List Moment) (P : List ℕ → Type 0) (R Q : List Moment → Type 0) → Ran mid h P R → ((h1 : List Moment) → mid h1 → R h1 → Ran stands h1 P Q) → Ran stands h P Q
ran_more mid stands h P R Q first then =
    let second = then (first.later ++ h) first.stands_for first.ends in
    let same : second.later ++ first.later ++ h ≡ second.later ++ (first.later ++ h) = append_assoc second.later first.later h in
    record {
      later = second.later ++ first.later;
      stands_for = subst stands (sym same) second.stands_for;
      always = always_more P second.later first.later h second.always first.always;
      ends = subst Q (sym same) second.ends;
    }

pub ran_weaker : (stands : List Moment → Type 0) (h : List Moment) (P R : List ℕ → Type 0) (Q S : List Moment → Type 0) → ((c : List ℕ) → P c → R c) → ((l : List Moment) → Q l → S l) → Ran stands h P Q → Ran stands h R S
ran_weaker stands h P R Q S weaker ends ran = record {
  later = ran.later;
  stands_for = ran.stands_for;
  always = always_weaker P R ran.later h weaker ran.always;
  ends = ends (ran.later ++ h) ran.ends;
}

-- a sync by itself
pub ran_settled : {T E : Type 0} (stands : List Moment → Type 0) (h : List Moment) (r : Result T E) → is_sound h ≡ true → Goes stands (synced (is_ok r) (is_sound h)) r h (λ file. file ≡ seen h)
    → Ran stands h (λ c. (MayLeave h c) ⊎ (c ≡ seen h)) (λ later. OnOk r ((IsSettled later) × (seen later ≡ seen h)))
ran_settled stands h (Ok x) sound went =
    let is_settled : synced true (is_sound h) ≡ Settled = ap (λ (b : Bool). cond b Settled Unsettled) sound in
    let now : stands (moment Settled went.0 ∷ h) = subst (λ (s : Step). stands (moment s went.0 ∷ h)) is_settled went.1.0 in
    record {
      later = moment Settled went.0 ∷ [];
      stands_for = now;
      always = ((λ c is. inr (is ∙ went.1.1)), (λ c left. inl left));
      ends = (record { only = λ c is. is; sound = sound }, went.1.1);
    }
ran_settled stands h (Err e) sound (inl s) = record { later = []; stands_for = s; always = λ c left. inl left; ends = tt }
ran_settled stands h (Err e) sound (inr went) = record { later = moment Unsettled went.0 ∷ []; stands_for = went.1; always = ((λ c left. inl left), (λ c left. inl left)); ends = tt }
