use Rattle.std.proofs.Common.{◌≡◌, ◌++◌, false, refl, sym, ◌∙◌}
use Rattle.journal_disk.proofs.Histories.{ran_weaker}
use Rattle.pair_centre.proofs.Checkpoints.{small_alone, either_file, compacted, uncompacted, other_untouched}
use Rattle.pair_centre.proofs.pair_centre.PairCentre.compact.Goals as goal

pub returns-in-Ok-compact-clause-done : goal.returns-in-Ok-compact-clause-done
returns-in-Ok-compact-clause-done g c = λ is_done h k trail one two is.
    let old = c.args.self.now in
    let checkpoint = c.in-Ok.checkpoint.items in
    let unshut = sym c.is_shut.ensures ∙ c.if-is_shut.false in
    let starts = c.in-Ok.ensures.made trail is.centre in
    let made = c.in-Ok-compact.ensures.done h k is.checkpoint is.behind unshut one two is.files in (
      ran_weaker _ k _ _ _ _ (either_file old old h k trail is checkpoint starts) (λ l files. compacted old _ h k trail is checkpoint l refl starts files) made.0,
      made.1,
    )

pub returns-in-Ok-compact-clause-small : goal.returns-in-Ok-compact-clause-small
returns-in-Ok-compact-clause-small g c = λ is_done h k trail one two is.
    let unshut = sym c.is_shut.ensures ∙ c.if-is_shut.false in
    let made = c.in-Ok-compact.ensures.done h k is.checkpoint is.behind unshut one two is.files in
    small_alone c.compact.new.self (made.0.later ++ k) h c.in-Ok.checkpoint.items made.0.ends

pub returns-in-Err-clause-kept : goal.returns-in-Err-clause-kept
returns-in-Err-clause-kept g c = λ h k trail unshut one two is.
    let old = c.args.self.now in
    let checkpoint = c.in-Ok.checkpoint.items in
    let starts = c.in-Ok.ensures.made trail is.centre in
    let kept = c.in-Err.ensures.kept h k is.checkpoint is.behind unshut one two is.files in (
      ran_weaker _ k _ _ _ _ (either_file old old h k trail is checkpoint starts) (λ l files still. uncompacted old _ h k trail is l refl (files still)) kept.0,
      kept.1,
    )

pub returns-in-Err-NoMemory-clause-kept : goal.returns-in-Err-NoMemory-clause-kept
returns-in-Err-NoMemory-clause-kept g c = λ h k trail unshut one two is.
    let old = c.args.self.now in
    (other_untouched old old h k trail is (g.D.Disk.stands old.pair.other.disk) _ two (λ still. is), one)
