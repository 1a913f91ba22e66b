use Rattle.std.proofs.Common.{◌≡◌, List, refl, sym, ◌∙◌, subst}
use Rattle.journal_disk.specs.Disk.{seen}
use Rattle.dc_journal.specs.Files.{numbers}
use Rattle.journal_pair.specs.Pairs as pairs
use Rattle.pair_centre.specs.declared.item.PairItem.{PairItem}
use Rattle.pair_centre.specs.Causes.{AreTaken, HasFault, HasCauseIn}
use Rattle.pair_centre.specs.States.{IsStateOf}
use Rattle.pair_centre.proofs.Opened.{both_weaker, honest_both, cause_of, found, either_side, not_bad}
use Rattle.pair_centre.proofs.pair_centre.PairCentre.open.Goals as goal

pub returns-in-Err-clause-err : goal.returns-in-Err-clause-err
returns-in-Err-clause-err g c = λ h k trail honest_a honest_b one two sound_h sound_k history file.
    let s = numbers c.args.me c.args.n c.args.k c.args.limit in
    let xs = file.1.1.1.0 in
    let ys = file.1.1.1.1.0 in
    let are = file.1.1.1.1.1.0 in
    let has = file.1.1.1.1.1.1 in
    both_weaker _ _ h k _ _ _ _ (found s h k trail file.0 file.1.0 file.1.1.0 xs ys are) (λ l m q. q)
    (c.in-Err.ensures.err h k xs ys file.0 file.1.0 honest_a honest_b one two sound_h sound_k has.0 has.1 are)

pub returns-in-Ok-recover-clause-ok : goal.returns-in-Ok-recover-clause-ok
returns-in-Ok-recover-clause-ok g c = λ h k trail honest_live honest_other one two sound_h sound_k history file.
    let s = numbers c.args.me c.args.n c.args.k c.args.limit in
    let opened = c.in-Ok.opened in
    let checkpoint = file.0 in
    let behind = file.1.0 in
    let state = file.1.1.0 in
    let xs = file.1.1.1.0 in
    let ys = file.1.1.1.1.0 in
    let are = file.1.1.1.1.1.0 in
    let has = file.1.1.1.1.1.1 in
    let read = c.in-Ok.ensures.ok h k xs ys checkpoint behind honest_live honest_other one two sound_h sound_k has.0 has.1 are in
    let told : IsStateOf s trail opened.checkpoint.items c.deref.result.now =
    subst (λ (l : List PairItem). IsStateOf s trail l c.deref.result.now) (sym read.0) (subst (λ (l : List PairItem). IsStateOf s trail checkpoint l) (sym (c.deref.ensures.value ∙ read.1)) state) in
    either_side s h k trail checkpoint behind state xs ys are _ c.in-Ok-recover.ensures.settings history (c.in-Ok-recover.ensures.stands trail history told) g.D.Disk.stands opened.side read.2

pub returns-in-Ok-recover-clause-is : goal.returns-in-Ok-recover-clause-is
returns-in-Ok-recover-clause-is g c = λ h k honest_live honest_other one two sound_h sound_k.
    let s = numbers c.args.me c.args.n c.args.k c.args.limit in
    let opened = c.in-Ok.opened in (
      opened.checkpoint.items,
      (
        opened.behind.items,
        (
          c.in-Ok.ensures.is h k honest_live honest_other one two sound_h sound_k,
          subst (λ (l : List PairItem). AreTaken s opened.checkpoint.items l) c.deref.ensures.value c.in-Ok-recover.ensures.taken,
        ),
      ),
    )

pub returns-clause-err : goal.returns-clause-err
returns-clause-err g c = λ h k trail honest_a honest_b one two sound_h sound_k history file.
    let s = numbers c.args.me c.args.n c.args.k c.args.limit in
    let opened = c.in-Ok.opened in
    let gave = c.given_up in
    let checkpoint = file.0 in
    let behind = file.1.0 in
    let state = file.1.1.0 in
    let xs = file.1.1.1.0 in
    let ys = file.1.1.1.1.0 in
    let are = file.1.1.1.1.1.0 in
    let has = file.1.1.1.1.1.1 in
    let honest = honest_both g.D.Disk.is_honest opened.side (pairs.live_disk opened.pair) (pairs.other_disk opened.pair) (subst g.D.Disk.is_honest gave.ensures.first honest_a) (subst g.D.Disk.is_honest gave.ensures.second honest_b) in
    let read = c.in-Ok.ensures.ok h k xs ys checkpoint behind honest.0 honest.1 one two sound_h sound_k has.0 has.1 are in
    let why = c.in-Err-recover.why in
    let fault : HasFault s why checkpoint behind =
    subst (λ (l : List PairItem). HasFault s why l behind) read.0 (subst (λ (l : List PairItem). HasFault s why opened.checkpoint.items l) (c.deref.ensures.value ∙ read.1) c.in-Err-recover.ensures.fault) in
    not_bad s h k trail checkpoint behind state xs ys are g.D.Disk.stands gave.result.first gave.result.second _ _ _ why gave.result.why gave.ensures.first gave.ensures.second gave.ensures.why fault history read.2

pub returns-clause-cause : goal.returns-clause-cause
returns-clause-cause g c = λ h k honest_a honest_b one two sound_h sound_k.
    let s = numbers c.args.me c.args.n c.args.k c.args.limit in
    let opened = c.in-Ok.opened in
    let gave = c.given_up in
    let why = c.in-Err-recover.why in
    let honest = honest_both g.D.Disk.is_honest opened.side (pairs.live_disk opened.pair) (pairs.other_disk opened.pair) (subst g.D.Disk.is_honest gave.ensures.first honest_a) (subst g.D.Disk.is_honest gave.ensures.second honest_b) in
    let fault : HasFault s why opened.checkpoint.items opened.behind.items = subst (λ (l : List PairItem). HasFault s why opened.checkpoint.items l) c.deref.ensures.value c.in-Err-recover.ensures.fault in
    subst (λ w. HasCauseIn s w (seen h) (seen k)) (sym gave.ensures.why) (cause_of s why opened.checkpoint.items opened.behind.items (seen h) (seen k) (c.in-Ok.ensures.is h k honest.0 honest.1 one two sound_h sound_k) fault)
