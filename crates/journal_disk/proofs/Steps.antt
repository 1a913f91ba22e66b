-- What a call of a disk in memory leaves, from what is known of the file that it made.
use Rattle.std.proofs.Common.{◌≡◌, inl, ℕ, Bool, true, List, [], ◌∷◌, ◌++◌, reverse, Vec, Result, Ok, Err, is_ok, IfOk, IsOkAnd, IsErr, OnErr, sym, subst}
use Rattle.std.proofs.lemmas.List.{reverse-append}
use Rattle.std.specs.declared.alloc.Global.{Global}
use Rattle.journal_disk.specs.declared.disk.Step.{Step}
use Rattle.journal_disk.specs.declared.disk.Step.TheVariants.{Wrote, Cut, Settled, Unsettled}
use Rattle.journal_disk.specs.declared.disk.Moment.{Moment}
use Rattle.journal_disk.specs.Disk.{synced, Goes, after_step, MayLeave}
use Rattle.journal_disk.specs.Memory.{AfterStep}

made : {E : Type 0} (next : Result (Vec ℕ Global) E) (Good : List ℕ → Type 0) (file : List ℕ) → IfOk next (λ v. Good v.items) → IsOkAnd next (λ v. file ≡ v.items) → Good file
made (Ok v) Good file good is = subst Good (sym is) good
made (Err e) Good file good is = absurd is

module _ (stands : List Moment → Type 0) (h : List Moment) where
  pub goes_by : {T E F : Type 0} (step : Step) (r : Result T E) (next : Result (Vec ℕ Global) F) (Good : List ℕ → Type 0) → IfOk next (λ v. Good v.items) → Goes stands step r h (λ file. IsOkAnd next (λ v. file ≡ v.items)) → Goes stands step r h Good
  goes_by step (Ok x) next Good good went = (went.0, (went.1.0, made next Good went.0 good went.1.1))
  goes_by step (Err e) next Good good went = went

  pub failed_sync : {T E : Type 0} (r : Result T E) (sound : Bool) (G Good : List ℕ → Type 0) → IsErr r → Goes stands Unsettled r h G → Goes stands (synced (is_ok r) sound) r h Good
  failed_sync (Ok x) sound G Good err went = absurd (cc err)
  failed_sync (Err e) sound G Good err went = went

  pub done_sync : {T E : Type 0} (r : Result T E) (sound : Bool) (Good : List ℕ → Type 0) → OnErr r (stands h) → Goes stands (synced true sound) r h Good → Goes stands (synced (is_ok r) sound) r h Good
  done_sync (Ok x) sound Good err went = went
  done_sync (Err e) sound Good err went = inl err

step_on : (step : Step) (file : List ℕ) (before : List ℕ → Type 0) (old new : List ℕ) → before old → after_step step file (λ c. c ≡ old) new → after_step step file before new
step_on (Wrote at n) file before old new was after = (after.0, (subst before (sym after.1.0) was, after.1.1))
step_on (Cut to) file before old new was after = (after.0, (subst before (sym after.1.0) was, after.1.1))
step_on Settled file before old new was after = after
step_on Unsettled file before old new was after = subst before (sym after) was

-- an image goes on by a call
pub image_on : (past : List Moment) (m : Moment) (old new : List ℕ) → MayLeave (reverse past) old → AfterStep m old new → MayLeave (reverse (past ++ m ∷ [])) new
image_on past m old new was after = subst (λ (h : List Moment). MayLeave h new) (sym (reverse-append past (m ∷ []))) (step_on m.step m.seen (MayLeave (reverse past)) old new was after)
