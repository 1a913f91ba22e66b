use Rattle.std.proofs.Common.{◌≡◌, ℕ, ◌+◌, ◌-◌, List, length, take, drop, IfSome, refl, sym, ap, ◌∙◌, subst}
use Rattle.std.specs.Prelude.{is_some}
use Rattle.std.proofs.lemmas.List.{take_rest}
use Rattle.dc_talk.specs.declared.settings.Settings.{Settings}
use Rattle.dc_talk.specs.Entries.{Entry}
use Rattle.dc_centre.specs.Centre.{CentreView, StandsFor}
use Rattle.dc_journal.specs.Files.{HasTaken, IsBadGate}
use Rattle.dc_journal.specs.Replays.{TakesFirst}
use Rattle.dc_journal.proofs.Reading.{taken_none, taken_all, taken_more, none_place, none_bad, ended_bad, ended_place}
use Rattle.dc_journal.proofs.opening.replay.Goals as goal

-- of the whole rest of a file, with the settings at the start
some_of : (s now : Settings) (old new : CentreView) (part rest : List ℕ) (count : ℕ) → now ≡ s → part ≡ rest → TakesFirst now old new part count → TakesFirst s old new rest count
some_of s now old new part rest count same whole t = subst (λ l. TakesFirst s old new l count) whole (subst (λ g. TakesFirst g old new part count) same t)

none_of : (s now : Settings) (old : CentreView) (part rest : List ℕ) → now ≡ s → part ≡ rest → ((trail : List Entry) → StandsFor old trail → HasTaken now trail part → ⊥) → (trail : List Entry) → StandsFor old trail → HasTaken s trail rest → ⊥
none_of s now old part rest same whole none trail stands has = none trail stands (subst (λ l. HasTaken now trail l) (sym whole) (subst (λ g. HasTaken g trail rest) (sym same) has))

pub loop-at-init : goal.loop-at-init
loop-at-init c = (refl, taken_none c.args.centre.settings c.args.bytes.now c.args.centre c.requires.fresh)

pub returns-then-bytes-at-eq0-clause-all : goal.returns-then-bytes-at-eq0-clause-all
returns-then-bytes-at-eq0-clause-all c =
    taken_all c.args.centre.settings c.args.bytes.now c.loop-at.at c.loop-at.centre c.loop-at.invariant.1 c.loop-at-test.true c.if-bytes-at-eq0.true

pub loop-at-preserved : goal.loop-at-preserved
loop-at-preserved c =
    let s = c.args.centre.settings in
    let bytes = c.args.bytes.now in
    let at = c.loop-at.at in
    let old = c.loop-at.centre in
    let new = c.take_first.new.centre in
    let part = take (length bytes - (at + 1)) (drop (at + 1) bytes) in
    let t = subst (λ o. IfSome o (TakesFirst old.settings old new part)) c.in-Some.is c.in_ok-count.ensures.some in (
      c.in_ok-count.ensures.settings ∙ c.loop-at.invariant.0,
      taken_more s bytes at old c.loop-at.invariant.1 c.loop-at-test.true c.if-bytes-at-eq0.false new c.in-Some.count
          (some_of s old.settings old new part (drop (at + 1) bytes) c.in-Some.count c.loop-at.invariant.0 (take_rest bytes (at + 1)) t),
    )

pub returns-in-None-clause-bad : goal.returns-in-None-clause-bad
returns-in-None-clause-bad c = λ trail history file _.
    let s = c.args.centre.settings in
    let bytes = c.args.bytes.now in
    let at = c.loop-at.at in
    let old = c.loop-at.centre in
    none_bad s bytes at old c.loop-at.invariant.1 c.loop-at-test.true c.if-bytes-at-eq0.false
    (none_of s old.settings old (take (length bytes - (at + 1)) (drop (at + 1) bytes)) (drop (at + 1) bytes) c.loop-at.invariant.0 (take_rest bytes (at + 1)) (c.in_ok-count.ensures.none (ap is_some c.in-None.is))) trail history file

pub returns-in-None-clause-place : goal.returns-in-None-clause-place
returns-in-None-clause-place c = λ place is.
    let s = c.args.centre.settings in
    let bytes = c.args.bytes.now in
    let at = c.loop-at.at in
    let old = c.loop-at.centre in
    let same : at ≡ place = cc is in
    subst (λ p. IsBadGate s p bytes) same
    (none_place s bytes at old c.loop-at.invariant.1 c.loop-at-test.true c.if-bytes-at-eq0.false
    (none_of s old.settings old (take (length bytes - (at + 1)) (drop (at + 1) bytes)) (drop (at + 1) bytes) c.loop-at.invariant.0 (take_rest bytes (at + 1)) (c.in_ok-count.ensures.none (ap is_some c.in-None.is))))

pub returns-clause-bad : goal.returns-clause-bad
returns-clause-bad c = λ trail history file _. ended_bad c.args.centre.settings c.args.bytes.now c.loop-at.at c.loop-at.centre c.loop-at.invariant.1 c.loop-at-test.false trail file

pub returns-clause-place : goal.returns-clause-place
returns-clause-place c = λ place is.
    let same : c.loop-at.at ≡ place = cc is in
    subst (λ p. IsBadGate c.args.centre.settings p c.args.bytes.now) same (ended_place c.args.centre.settings c.args.bytes.now c.loop-at.at c.loop-at.centre c.loop-at.invariant.1 c.loop-at-test.false)
