-- Late copies: the first commit ask of a number among the notes, and what the step leaves.
use Rattle.std.proofs.Common.{◌≡◌, ℕ, zero, suc, Bool, true, false, inl, inr, List, [], ◌∷◌, Option, Some, None, refl, sym, ap, ◌∙◌, subst}
use Rattle.std.specs.Prelude.{◌==◌, slice_get}
use Rattle.std.specs.Option.{option_or}
use Rattle.list_core.specs.Choices.{when}
use Rattle.tx_core.specs.declared.tx.Tx.{Tx}
use Rattle.dc_talk.specs.declared.ask.Ask.TheVariants.{Commit as CommitAsk}
use Rattle.dc_talk.specs.declared.say.Say.{Say}
use Rattle.dc_talk.specs.declared.log.Fate.{Fate}
use Rattle.dc_talk.specs.declared.log.Fate.TheVariants.{Unheard}
use Rattle.dc_talk.specs.declared.log.Deed.{Deed}
use Rattle.dc_talk.specs.declared.log.Deed.TheVariants.{Asked}
use Rattle.dc_talk.specs.declared.log.Note.{Note}
use Rattle.dc_talk.specs.declared.line.Line.{Line}
use Rattle.dc_talk.specs.declared.line.Line.TheVariants as line
use Rattle.dc_talk.specs.Logs.{Logged, commit_asked, commit_sent, entry_for, noted}
use Rattle.dc_talk.specs.Doors.{DoorView, IsBehind, HasAsked}
use Rattle.dc_talk.specs.Rule.{IsLate}
use Rattle.script_core.specs.declared.steps.ClientStep.TheVariants.{Again}
use Rattle.script_core.specs.Deeds.{AgainDeeds, StepDeeds, again_line, told}
use Rattle.dc_talk.specs.Acting.{acting, noted_all}
use Rattle.client_stub.specs.Playing.{Playing, Grows, Takes, progress}
use Rattle.dc_talk.proofs.Acting.{leaves_ask}
use Rattle.client_stub.proofs.Growth.{grows_leaves, grows_then, grows_told}
use Rattle.client_stub.proofs.Stepping.{grows_line, over_some, over_none}

-- ---- it is late

-- a deed that is a commit ask
pub record IsCommitAsk (deed : Deed) (tx : Tx) : Type 0 where
  pub centre : ℕ
  pub fate : Fate
  pub asked : deed ≡ Asked centre (CommitAsk tx) fate

-- it is one where the numbers are equal
asked_when : (test : Bool) (i : ℕ) (t tx : Tx) (fate : Fate) → when test t ≡ Some tx → IsCommitAsk (Asked i (CommitAsk t) fate) tx
asked_when true i t tx fate is = let same : t ≡ tx = cc in record { centre = i; fate = fate; asked = ap (λ t. Asked i (CommitAsk t) fate) same }
asked_when false i t tx fate is = cc

-- a deed of which a transaction was asked is a commit ask of it
asked_of : (number : ℕ) (deed : Deed) (tx : Tx) → commit_asked number deed ≡ Some tx → IsCommitAsk deed tx
asked_of number (Asked i (CommitAsk t) fate) tx is = asked_when (t.dot.number == number) i t tx fate is
asked_of number _ tx is = cc

-- it stands among the notes
pub record IsSent (notes : List Note) (tx : Tx) : Type 0 where
  pub place : ℕ
  pub note : Note
  pub there : slice_get notes place ≡ Some note
  pub commit : IsCommitAsk note.deed tx

-- the first commit ask of a number does
sent_of : (number : ℕ) (notes : List Note) (tx : Tx) → commit_sent number notes ≡ Some tx → IsSent notes tx
sent_of number [] tx is = cc
sent_of number (note ∷ notes) tx is = by_first (sent_of number notes tx) (commit_asked number note.deed) refl is
  where
    by_first : (commit_sent number notes ≡ Some tx → IsSent notes tx) → (o : Option Tx) → commit_asked number note.deed ≡ o → option_or o (commit_sent number notes) ≡ Some tx → IsSent (note ∷ notes) tx
    by_first rest None first later = let sent = rest later in record { place = suc sent.place; note = sent.note; there = sent.there; commit = sent.commit }
    by_first rest (Some t) first same = record { place = zero; note = note; there = refl; commit = asked_of number note.deed tx (first ∙ same) }

-- so a copy of it is late
late : (number : ℕ) (notes : List Note) (tx : Tx) (say : Say) → commit_sent number notes ≡ Some tx → IsLate notes (CommitAsk tx) (Unheard say)
late number notes tx say is =
    let sent = sent_of number notes tx is in
    record { say = say; unheard = refl; tx = tx; commit = refl; place = sent.place; note = sent.note; there = sent.there; centre = sent.commit.centre; end = sent.commit.fate; same = sent.commit.asked }

-- ---- the step

-- a late copy that was answered
pub again_takes : (p : Playing) (door : DoorView) (i number : ℕ) (tx : Tx) (say : Say) (between later : Logged) (client : ℕ) (said : Option Line) → commit_sent number p.log.notes ≡ Some tx → IsBehind p.door i → HasAsked p.door door i (entry_for p.door.actor (CommitAsk tx, say)) → between ≡ noted p.log (Asked i (CommitAsk tx) (Unheard say)) → client ≡ p.client.client → said ≡ again_line client i number (Unheard say) → later ≡ noted_all between (told said) → Takes (Again i number) p (record p { door = door; log = later })
again_takes p door i number tx say between later client said sent behind asked noting who lined telling =
    let deed : Deed = Asked i (CommitAsk tx) (Unheard say) in
    let q : Playing = record p { door = door; log = between } in
    let first : Grows p q (deed ∷ []) = grows_leaves p (acting door between) (deed ∷ []) (leaves_ask (acting p.door p.log) (acting door between) i (CommitAsk tx) (Unheard say) say refl behind asked noting) refl (inr (inl (late number p.log.notes tx say sent)), tt) in
    let last : Grows q (record q { log = later }) (told said) = subst (λ (log : Logged). Grows q (record q { log = log }) (told said)) (sym telling) (grows_told q said) in
    record {
      deeds = deed ∷ told said;
      such = over_some (commit_sent number p.log.notes) tx (line.AgainNone p.client.client i number) (AgainDeeds p.client.client i number) (deed ∷ told said) sent (say, ap (λ said. deed ∷ told said) (lined ∙ ap (λ n. again_line n i number (Unheard say)) who));
      grows = grows_then p q (record q { log = later }) (deed ∷ []) (told said) first last;
      armed = refl;
    }

-- no commit ask has the number
pub again_none : (p : Playing) (later : Logged) (i number client : ℕ) → commit_sent number p.log.notes ≡ None → client ≡ p.client.client → later ≡ noted_all p.log (told (Some (line.AgainNone client i number))) → Takes (Again i number) p (record p { log = later })
again_none p later i number client lacks same is =
    let s = p.client in
    let by = grows_line (StepDeeds (progress p) (Again i number)) p later (line.AgainNone client i number) (line.AgainNone s.client i number) is (ap (λ n. line.AgainNone n i number) same) (over_none (commit_sent number p.log.notes) (line.AgainNone s.client i number) (AgainDeeds s.client i number) lacks) in
    record { deeds = by.deeds; such = by.such; grows = by.grows; armed = refl }
