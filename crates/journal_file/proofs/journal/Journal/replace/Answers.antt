use Rattle.std.proofs.Common.{◌≡◌, ◌<◌, ◌⊎◌, inl, false, ℕ, [], List, refl, sym, ◌∙◌, subst, arith}
use Rattle.journal_disk.specs.declared.disk.Moment.{Moment}
use Rattle.journal_disk.proofs.Histories.{ran_none, ran_more}
use Rattle.journal_file.specs.Journal.{IsAt, FileOf, IsEither}
use Rattle.journal_file.proofs.Items.{at_file}
use Rattle.journal_file.proofs.Protocol.{ran_stands, ran_shuts, on_match_err}
use Rattle.journal_file.proofs.Wiping.{split, none, wiped_at, replaced, wiped_files}
use Rattle.journal_file.proofs.journal.Journal.replace.Goals as goal

pub returns-then-self-eq0-clause-moments : goal.returns-then-self-eq0-clause-moments
returns-then-self-eq0-clause-moments g c = λ h xs unshut stands at.
    let empty : xs ≡ [] = none g.T.Item.spelled xs h (subst (λ end. IsAt g.T.Item.spelled end h xs) c.if-self-eq0.true at) in
    replaced g.T.Item.spelled _ (g.D.Disk.stands c.append.new.self.disk) h xs xs c.args.items.now c.append.new.self.end c.append.result empty (c.append.ensures.moments h xs unshut stands at)

pub returns-in_err-out-clause-moments : goal.returns-in_err-out-clause-moments
returns-in_err-out-clause-moments g c = λ h xs unshut stands at.
    let P : List ℕ → Type 0 = λ file. (FileOf g.T.Item.spelled xs file) ⊎ (IsEither g.T.Item.spelled [] c.args.items.now file) in
    ran_none (g.D.Disk.stands c.args.self.now.disk) h P (λ file left. inl (at_file g.T.Item.spelled c.args.self.now.end h xs file at (at.settled.only file left))) _ stands (on_match_err _ _ _ c.from_residual.ensures.0 (λ _ _. at))

pub returns-in-Ok-clause-moments : goal.returns-in-Ok-clause-moments
returns-in-Ok-clause-moments g c = λ h xs unshut stands at.
    let some : 0 < c.args.self.now.end = omega (arith, c.if-self-eq0.false) in
    let s = split g.T.Item.spelled xs c.args.self.now.end h at some in
    let items = c.args.items.now in
    let next = c.put.new.self in
    let P : List ℕ → Type 0 = λ file. (FileOf g.T.Item.spelled xs file) ⊎ (IsEither g.T.Item.spelled [] items file) in
    ran_more (g.D.Disk.stands c.wipe.new.disk) (g.D.Disk.stands next.disk) h P _ _
    (wiped_files g.T.Item.spelled (g.D.Disk.stands c.wipe.new.disk) c.args.self.now.end h xs items at some _ _ (λ l q. q) (c.in-Ok.ensures.moments h s.gate s.rest stands at.settled s.is))
    (λ h1 s1 q1. replaced g.T.Item.spelled _ (g.D.Disk.stands next.disk) h1 xs [] items next.end c.put.result refl
    (ran_shuts (g.D.Disk.stands next.disk) h1 (IsEither g.T.Item.spelled [] items) (λ l. IsAt g.T.Item.spelled next.end l items) (λ l. IsAt g.T.Item.spelled next.end l xs)
    c.put.result next.shut c.put.ensures.closes (c.put.ensures.moments h1 [] s1 (wiped_at g.T.Item.spelled h1 q1.0 q1.1))))

pub returns-clause-moments : goal.returns-clause-moments
returns-clause-moments g c = λ h xs unshut stands at.
    let some : 0 < c.args.self.now.end = omega (arith, c.if-self-eq0.false) in
    let s = split g.T.Item.spelled xs c.args.self.now.end h at some in
    let next = c.close.new.self in
    let P : List ℕ → Type 0 = λ file. (FileOf g.T.Item.spelled xs file) ⊎ (IsEither g.T.Item.spelled [] c.args.items.now file) in
    let S : List Moment → Type 0 = λ l. next.shut ≡ false → IsAt g.T.Item.spelled next.end l xs in
    ran_stands (g.D.Disk.stands c.wipe.new.disk) (g.D.Disk.stands next.disk) h P S (λ l s. subst (λ d. g.D.Disk.stands d l) (sym c.close.ensures.disk) s)
    (wiped_files g.T.Item.spelled (g.D.Disk.stands c.wipe.new.disk) c.args.self.now.end h xs c.args.items.now at some _ S (λ l q unshut. absurd (cc (sym c.close.ensures.shut ∙ unshut))) (c.in-Err.ensures.moments h s.gate s.rest stands at.settled s.is))
