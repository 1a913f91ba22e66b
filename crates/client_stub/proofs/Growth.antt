-- How a client, its log and what a door shows grow, deed by deed.
use Rattle.std.proofs.Common.{◌≡◌, List, [], ◌∷◌, ◌++◌, Option, Some, None, Result, Ok, Err, refl, sym, ap, ◌∙◌, subst}
use Rattle.std.specs.Prelude.{IfSome, OnErr}
use Rattle.std.proofs.lemmas.List.Elements.{All-nil, All-cons, All-append}
use Rattle.std.proofs.lemmas.List.Sums.{fold-append}
use Rattle.dc_talk.specs.declared.calls.Connection.{Connection}
use Rattle.dc_talk.specs.declared.calls.Call.{Call}
use Rattle.dc_talk.specs.declared.calls.Outcome.{Outcome}
use Rattle.dc_talk.specs.declared.log.Deed.{Deed}
use Rattle.dc_talk.specs.declared.log.Deed.TheVariants.{Did, Told}
use Rattle.dc_talk.specs.declared.line.Line.{Line}
use Rattle.dc_talk.specs.Logs.{Logged, marked, noted}
use Rattle.dc_talk.specs.Clients.{Client}
use Rattle.dc_talk.specs.Calls.{Ends}
use Rattle.dc_talk.specs.Doors.{DoorView, IsSameDoor, IsBehind}
use Rattle.dc_talk.specs.Rule.{after}
use Rattle.dc_talk.proofs.Doors.{done_none, done_quiet, done_then, may_none}
use Rattle.dc_talk.proofs.Acting.{noted_none, noted_then, behind_later, all_before, leaves_none, leaves_line, leaves_then, cut_none, cut_after}
use Rattle.script_core.specs.Deeds.{after_all, told}
use Rattle.dc_talk.specs.Acting.{Acting, Leaves, IsAskBehind, IsCutShort, acting, noted_all}
use Rattle.client_stub.specs.Playing.{Playing, Grows, AllowsAll}

-- ---- logs

-- more deeds that the rule allows
allows_then : (s : Client) (log : Logged) (ds es : List Deed) → AllowsAll s log ds → AllowsAll (after_all s ds) (noted_all log ds) es → AllowsAll s log (ds ++ es)
allows_then s log [] es first more = subst (λ log. AllowsAll s log es) (noted_none log) more
allows_then s log (d ∷ ds) es first more = (first.0, allows_then (after s d) (noted log d) ds es first.1 (subst (λ log. AllowsAll (after_all (after s d) ds) log es) (sym (noted_then log (d ∷ []) ds)) more))

-- ---- what is behind a door

-- a client's link stays behind the door
pub link_on : (a b : DoorView) (l : Option Connection) → IsSameDoor a b → IfSome l (λ link. IsBehind a link.centre) → IfSome l (λ link. IsBehind b link.centre)
link_on a b None same is = is
link_on a b (Some link) same is = behind_later a b link.centre same is

-- ---- growth

-- one growth after another
pub grows_then : (a b c : Playing) (ds es : List Deed) → Grows a b ds → Grows b c es → Grows a c (ds ++ es)
grows_then a b c ds es first more = record {
  log = more.log ∙ (ap (λ log. noted_all log es) first.log ∙ noted_then a.log ds es);
  client = more.client ∙ (ap (λ s. after_all s es) first.client ∙ sym (fold-append after a.client ds es));
  door = done_then a.door b.door c.door ds es first.door more.door;
  allowed = allows_then a.client a.log ds es first.allowed
      (subst (λ (s : Client). AllowsAll s (noted_all a.log ds) es) first.client
      (subst (λ (log : Logged). AllowsAll b.client log es) first.log more.allowed));
  behind = All-append (IsAskBehind a.door) ds es first.behind (all_before a.door b.door es first.door.same more.behind);
}

-- no deeds
pub grows_none : (p : Playing) → Grows p p []
grows_none p = record { log = sym (noted_none p.log); client = refl; door = done_none p.door; allowed = tt; behind = All-nil (IsAskBehind p.door) }

-- a call of the session with its note
pub grows_call : (p : Playing) (s : Client) (call : Call) (outcome : Outcome) → Ends p.client s call outcome → Grows p (record p { client = s; log = noted p.log (Did call outcome) }) (Did call outcome ∷ [])
grows_call p s call outcome ends = record {
  log = refl;
  client = ends.after;
  door = done_quiet p.door (Did call outcome) (λ i. refl);
  allowed = (ends.ends, tt);
  behind = All-cons (IsAskBehind p.door) (Did call outcome) [] tt (All-nil (IsAskBehind p.door));
}

-- a line that is told
pub grows_told : (p : Playing) (line : Option Line) → Grows p (record p { log = noted_all p.log (told line) }) (told line)
grows_told p None = subst (λ (log : Logged). Grows p (record p { log = log }) []) (sym (noted_none p.log)) (grows_none p)
grows_told p (Some line) = record {
  log = refl;
  client = refl;
  door = done_quiet p.door (Told line) (λ i. refl);
  allowed = (tt, tt);
  behind = All-cons (IsAskBehind p.door) (Told line) [] tt (All-nil (IsAskBehind p.door));
}

-- the deeds of a log beside a door, which no session hears
pub grows_leaves : (p : Playing) (q : Acting) (ds : List Deed) → Leaves (acting p.door p.log) q ds → p.client ≡ after_all p.client ds → AllowsAll p.client p.log ds → Grows p (record p { door = q.door; log = q.log }) ds
grows_leaves p q ds leaves still allowed = record { log = leaves.log; client = still; door = leaves.door; allowed = allowed; behind = leaves.behind }

-- what a client's log and door grow by
pub grown_leaves : (p q : Playing) (ds : List Deed) → Grows p q ds → Leaves (acting p.door p.log) (acting q.door q.log) ds
grown_leaves p q ds grows = record { log = grows.log; door = grows.door; behind = grows.behind }

-- the line of deeds, where there is one, behind them
pub leaves_told : (a b : Acting) (later : Logged) (ds : List Deed) (line : Option Line) → Leaves a b ds → later ≡ noted_all b.log (told line) → Leaves a (acting b.door later) (ds ++ told line)
leaves_told a b later ds line leaves is = leaves_then a b (acting b.door later) ds (told line) leaves (last line is)
  where
    last : (line : Option Line) → later ≡ noted_all b.log (told line) → Leaves b (acting b.door later) (told line)
    last None is = subst (λ (log : Logged). Leaves b (acting b.door log) []) (sym (is ∙ noted_none b.log)) (leaves_none b)
    last (Some line) is = leaves_line b.door b.log later line is

-- ---- steps that came to an early end

-- what holds in any case holds after an error
pub on_err : {T E P : Type 0} (r : Result T E) → P → OnErr r P
on_err (Ok x) p = tt
on_err (Err e) p = p

-- one deed that exchanged nothing was noted
pub cut_noted : (a : DoorView) (log between later : Logged) (deed : Deed) → between ≡ noted log deed → later ≡ between → IsCutShort (acting a log) (acting a later)
cut_noted a log between later deed more same = record { notes = marked log.section log.step deed ∷ []; log = same ∙ more; door = may_none a }

-- these deeds were done, and no more was noted
pub cut_done : (a b : Acting) (later : Logged) (ds : List Deed) → Leaves a b ds → later ≡ b.log → IsCutShort a (acting b.door later)
cut_done a b later ds leaves same = cut_after a b (acting b.door later) ds leaves (cut_none b.door b.log later same)

-- an early end behind deeds that were done
pub cut_grown : (p q : Playing) (b : Acting) (ds : List Deed) → Grows p q ds → IsCutShort (acting q.door q.log) b → IsCutShort (acting p.door p.log) b
cut_grown p q b ds grows later = cut_after (acting p.door p.log) (acting q.door q.log) b ds (grown_leaves p q ds grows) later
