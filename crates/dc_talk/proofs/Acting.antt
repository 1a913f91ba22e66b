-- What deeds leave in a log and at a door, one after another, and early ends behind them.
use Rattle.std.proofs.Common.{◌≡◌, ◌≤◌, ℕ, map, List, [], ◌∷◌, ◌++◌, Some, None, refl, sym, ap, ◌∙◌, subst}
use Rattle.std.specs.Prelude.{All}
use Rattle.std.proofs.lemmas.List.{append-nil, append_assoc, map-append}
use Rattle.std.proofs.lemmas.List.Elements.{All-nil, All-cons, All-head, All-tail, All-append}
use Rattle.dc_talk.specs.declared.ask.Ask.{Ask}
use Rattle.dc_talk.specs.declared.say.Say.{Say}
use Rattle.dc_talk.specs.declared.log.Fate.{Fate}
use Rattle.dc_talk.specs.declared.log.Deed.{Deed}
use Rattle.dc_talk.specs.declared.log.Deed.TheVariants.{Did, Asked, Told, Spoilt}
use Rattle.dc_talk.specs.declared.line.Line.{Line}
use Rattle.dc_talk.specs.Entries.{Entry}
use Rattle.dc_talk.specs.Logs.{Logged, marked, noted, answered, exchanged_in, entry_for}
use Rattle.dc_talk.specs.Doors.{DoorView, IsBehind, IsSameDoor, HasAsked, HasNotAsked, HasDone, MayHaveAsked}
use Rattle.dc_talk.specs.Acting.{Acting, acting, noted_all, IsAskBehind, Leaves, IsCutShort}
use Rattle.dc_talk.proofs.Doors.{done_none, done_quiet, done_ask, done_then, may_none, may_not, may_asked, may_done, may_then}

-- ---- logs

-- with no more deeds a log stays as it is
pub noted_none : (log : Logged) → noted_all log [] ≡ log
noted_none log = ap (λ notes. record log { notes = notes }) (append-nil log.notes)

-- more deeds after some
pub noted_then : (log : Logged) (ds es : List Deed) → noted_all (noted_all log ds) es ≡ noted_all log (ds ++ es)
noted_then log ds es = ap (λ notes. record log { notes = notes }) (append_assoc log.notes (map (marked log.section log.step) ds) (map (marked log.section log.step) es) ∙ ap (λ more. log.notes ++ more) (sym (map-append (marked log.section log.step) ds es)))

-- ---- the centres behind a door

-- a centre behind a door is behind it later
pub behind_later : (a b : DoorView) (i : ℕ) → IsSameDoor a b → IsBehind a i → IsBehind b i
behind_later a b i same is = (is.0, subst (λ n. i ≤ n) (sym same.centres) is.1)

-- and it was behind it before
behind_before : (a b : DoorView) (deed : Deed) → IsSameDoor a b → IsAskBehind b deed → IsAskBehind a deed
behind_before a b (Asked i ask fate) same is = (is.0, subst (λ n. i ≤ n) same.centres is.1)
behind_before a b (Did call outcome) same is = tt
behind_before a b (Told line) same is = tt
behind_before a b (Spoilt from item why) same is = tt

pub all_before : (a b : DoorView) (ds : List Deed) → IsSameDoor a b → All (IsAskBehind b) ds → All (IsAskBehind a) ds
all_before a b [] same all = All-nil (IsAskBehind a)
all_before a b (d ∷ ds) same all = All-cons (IsAskBehind a) d ds (behind_before a b d same (All-head (IsAskBehind b) d ds all)) (all_before a b ds same (All-tail (IsAskBehind b) d ds all))

-- ---- deeds

-- no deeds
pub leaves_none : (a : Acting) → Leaves a a []
leaves_none a = record { log = sym (noted_none a.log); door = done_none a.door; behind = All-nil (IsAskBehind a.door) }

-- one ask that reached its centre, with its note
pub leaves_ask : (a b : Acting) (i : ℕ) (ask : Ask) (fate : Fate) (say : Say) → answered fate ≡ Some say → IsBehind a.door i → HasAsked a.door b.door i (entry_for a.door.actor (ask, say)) → b.log ≡ noted a.log (Asked i ask fate) → Leaves a b (Asked i ask fate ∷ [])
leaves_ask a b i ask fate say got behind asked log = record {
  log = log;
  door = done_ask a.door b.door i ask fate say got asked;
  behind = All-cons (IsAskBehind a.door) (Asked i ask fate) [] behind (All-nil (IsAskBehind a.door));
}

-- a line that is told
pub leaves_line : (door : DoorView) (log later : Logged) (line : Line) → later ≡ noted log (Told line) → Leaves (acting door log) (acting door later) (Told line ∷ [])
leaves_line door log later line is = record {
  log = is;
  door = done_quiet door (Told line) (λ i. refl);
  behind = All-cons (IsAskBehind door) (Told line) [] tt (All-nil (IsAskBehind door));
}

-- one deed that exchanged nothing with any centre, with its note
pub leaves_quiet : (a b : Acting) (deed : Deed) → ((i : ℕ) → exchanged_in i deed ≡ None) → IsAskBehind a.door deed → b.door ≡ a.door → b.log ≡ noted a.log deed → Leaves a b (deed ∷ [])
leaves_quiet a b deed quiet behind door log = record {
  log = log;
  door = subst (λ (door : DoorView). HasDone a.door door (deed ∷ [])) (sym door) (done_quiet a.door deed quiet);
  behind = All-cons (IsAskBehind a.door) deed [] behind (All-nil (IsAskBehind a.door));
}

-- deeds after deeds
pub leaves_then : (a b c : Acting) (ds es : List Deed) → Leaves a b ds → Leaves b c es → Leaves a c (ds ++ es)
leaves_then a b c ds es first later = record {
  log = later.log ∙ (ap (λ log. noted_all log es) first.log ∙ noted_then a.log ds es);
  door = done_then a.door b.door c.door ds es first.door later.door;
  behind = All-append (IsAskBehind a.door) ds es first.behind (all_before a.door b.door es first.door.same later.behind);
}

-- ---- early ends

-- nothing was noted, and the door may have been asked
pub cut_quiet : (a b : Acting) → b.log ≡ a.log → MayHaveAsked a.door b.door → IsCutShort a b
cut_quiet a b log door = record { notes = []; log = log ∙ ap (λ notes. record a.log { notes = notes }) (sym (append-nil a.log.notes)); door = door }

-- nothing was noted, and nothing asked
pub cut_unasked : (a b : Acting) → b.log ≡ a.log → HasNotAsked a.door b.door → IsCutShort a b
cut_unasked a b log not = cut_quiet a b log (may_not a.door b.door not)

-- nothing was noted, beside a door that nobody asked
pub cut_none : (door : DoorView) (log later : Logged) → later ≡ log → IsCutShort (acting door log) (acting door later)
cut_none door log later is = cut_quiet (acting door log) (acting door later) is (may_none door)

-- one ask was answered, and not noted
pub cut_asked : (a b : Acting) (i : ℕ) (entry : Entry) → b.log ≡ a.log → HasAsked a.door b.door i entry → IsCutShort a b
cut_asked a b i entry log asked = cut_quiet a b log (may_asked a.door b.door i entry asked)

-- an early end behind deeds
pub cut_after : (a b c : Acting) (ds : List Deed) → Leaves a b ds → IsCutShort b c → IsCutShort a c
cut_after a b c ds first cut = record {
  notes = map (marked a.log.section a.log.step) ds ++ cut.notes;
  log = cut.log ∙ (ap (λ (log : Logged). record log { notes = log.notes ++ cut.notes }) first.log ∙ ap (λ notes. record a.log { notes = notes }) (append_assoc a.log.notes (map (marked a.log.section a.log.step) ds) cut.notes));
  door = may_then a.door b.door c.door (may_done a.door b.door ds first.door) cut.door;
}

-- an early end at once behind deeds
pub cut_behind : (a b : Acting) (ds : List Deed) → Leaves a b ds → IsCutShort a b
cut_behind a b ds first = record { notes = map (marked a.log.section a.log.step) ds; log = first.log; door = may_done a.door b.door ds first.door }
