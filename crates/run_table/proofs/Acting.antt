-- What a step through the door leaves of the table of a run.
use Rattle.std.proofs.Common.{◌≡◌, ◌≤◌, ◌<◌, ◌⊎◌, ℕ, suc, ◌+◌, ◌-◌, ◌*◌, List, [], ◌∷◌, map, length, get_or, Some, Result, Ok, Err, OnErr, refl, sym, ap, ◌∙◌, subst, arith}
use Rattle.std.specs.Prelude.{slice_get, slice_set}
use Rattle.std.proofs.lemmas.Option.{get_or_from_slice_get, slice_get_read}
use Rattle.std.proofs.lemmas.List.Elements.{All-nil, All-cons}
use Rattle.machine_trail.specs.History.{entry}
use Rattle.dc_talk.specs.declared.ask.Ask.{Ask}
use Rattle.dc_talk.specs.declared.say.Say.{Say}
use Rattle.dc_talk.specs.declared.log.Fate.TheVariants.{Unheard}
use Rattle.dc_talk.specs.declared.log.Deed.{Deed}
use Rattle.dc_talk.specs.declared.log.Deed.TheVariants.{Asked}
use Rattle.dc_talk.specs.Doors.{DoorView, IsBehind, HasAsked, HasNotAsked, HasDone}
use Rattle.dc_talk.specs.Logs.{Logged, noted}
use Rattle.dc_talk.proofs.Doors.{done_ask}
use Rattle.dc_door.specs.declared.kept_door.KeptPlace.{KeptPlace}
use Rattle.dc_door.specs.Centres.{CentreTrail}
use Rattle.dc_door.specs.KeptDoors.{KeptView, shown_of, place_of, begun}
use Rattle.script_core.specs.declared.steps.ClientStep.{ClientStep}
use Rattle.script_core.specs.declared.steps.OperatorStep.{OperatorStep}
use Rattle.script_core.specs.declared.rounds.Role.TheVariants.{Sender, Receiver, Reporter, Pruner}
use Rattle.script_core.specs.Steps.{IsCount}
use Rattle.dc_talk.specs.Acting.{IsAskBehind, IsCutShort, acting}
use Rattle.run_book.specs.Moves.{Does, operator_does, actor_of}
use Rattle.client_stub.specs.Playing.{StubView, IsLinkBehind, beside}
use Rattle.run_book.specs.Parts.{idle_log}
use Rattle.run_table.specs.declared.table.Table.{Table}
use Rattle.run_table.specs.declared.works.Work.{Work}
use Rattle.run_table.specs.declared.works.Work.TheVariants.{Round, Close}
use Rattle.run_table.specs.Works.{work_of, HasWorkedPart}
use Rattle.run_table.specs.Taps.{TakesWith, OperatesWith}
use Rattle.run_table.specs.Tables.{AreHistories, log_in, outside, HasStepped, HasOperated, HasPosts, HasWorked, HasMadeRound, HasAskedOnce, IsCutTurn, HasSteppedPart, HasMadeRoundPart, HasAskedOncePart, Turn, log_at}

-- the log that was found at a place is the one of the actor behind it
pub log_found : (logs : List Logged) (place : ℕ) (log : Logged) → place < length logs → log ≡ get_or logs place log → log_at logs (place + 1) ≡ log
log_found logs place log within is =
    let next : suc place ≡ place + 1 = omega arith in
    subst (λ a. log_at logs a ≡ log) next (get_or_from_slice_get logs place log (idle_log 0) (slice_get_read logs (length logs) place log refl within is))

-- so that it is that log as the turn begins
log_begun : (turn : Turn) (place : ℕ) (logs : List Logged) (found before : Logged) → place + 1 ≡ turn.actor → place < length logs → found ≡ get_or logs place found → before ≡ log_in turn found → before ≡ log_in turn (log_at logs turn.actor)
log_begun turn place logs found before own within found_is before_is =
    let at : log_at logs turn.actor ≡ found = subst (λ a. log_at logs a ≡ found) own (log_found logs place found within found_is) in
    before_is ∙ ap (log_in turn) (sym at)

-- the settings stay where the place of the door does
settings_kept : (actor : ℕ) (old : List CentreTrail) (door new : KeptView) → door ≡ begun actor old → place_of new ≡ place_of door → map (λ (centre : CentreTrail). centre.settings) new.centres ≡ map (λ (centre : CentreTrail). centre.settings) old
settings_kept actor old door new begins same = ap (λ (place : KeptPlace). place.settings) same ∙ ap (λ (door : KeptView). map (λ (centre : CentreTrail). centre.settings) door.centres) begins

-- a client's link is behind the door as its turn begins
pub linked_then : (client : ℕ) (stubs : List StubView) (old door : KeptView) (stub : StubView) → ((stub : StubView) → slice_get stubs (client - 1) ≡ Some stub → IsLinkBehind (shown_of old) stub.client) → door ≡ begun (client + 1) old.centres → client ≤ length stubs → 1 ≤ client → stub ≡ get_or stubs (client - 1) stub → IsLinkBehind (shown_of door) stub.client
linked_then client stubs old door stub linked begins within low is =
    subst (λ (door : KeptView). IsLinkBehind (shown_of door) stub.client) (sym begins)
    (linked stub (slice_get_read stubs (length stubs) (client - 1) stub refl (omega (arith, within, low)) is))

-- a client's step in its turn
pub step_left : (client section number : ℕ) (step : ClientStep) (old new : Table) (door : KeptView) (stub later : StubView) (found before log : Logged) → (1 ≤ client) × (client ≤ length old.stubs.items) → client < length old.logs.items → door ≡ begun (client + 1) old.door.centres → stub ≡ get_or old.stubs.items (client - 1) stub → found ≡ get_or old.logs.items client found → before ≡ record found { section = section; step = number } → place_of new.door ≡ place_of door → TakesWith old.taps.items step (beside stub (shown_of door) before) (beside later (shown_of new.door) log) → new.stubs.items ≡ slice_set old.stubs.items (client - 1) later → new.posts ≡ old.posts → new.taps.items ≡ old.taps.items → new.logs.items ≡ slice_set old.logs.items client log → AreHistories new.door.centres → HasStepped (record { actor = client + 1; section = section; step = number }) step old new
step_left client section number step old new door stub later found before log range inside begins stub_is found_is before_is same takes stubs posts taps logs histories =
    let turn : Turn = record { actor = client + 1; section = section; step = number } in
    let place : client - 1 ≡ turn.actor - 2 = omega arith in
    let own : client ≡ turn.actor - 1 = omega arith in
    let log_is : before ≡ log_in turn (log_at old.logs.items turn.actor) = log_begun turn client old.logs.items found before refl inside found_is before_is in
    let taken : TakesWith old.taps.items step (beside stub (shown_of (begun turn.actor old.door.centres)) (log_in turn (log_at old.logs.items turn.actor))) (beside later (shown_of new.door) log) =
    subst (λ (first : Logged). TakesWith old.taps.items step (beside stub (shown_of (begun turn.actor old.door.centres)) first) (beside later (shown_of new.door) log)) log_is
    (subst (λ (door : KeptView). TakesWith old.taps.items step (beside stub (shown_of door) before) (beside later (shown_of new.door) log)) begins takes) in
    record {
      stub = stub;
      there = subst (λ k. slice_get old.stubs.items k ≡ Some stub) place (slice_get_read old.stubs.items (length old.stubs.items) (client - 1) stub refl (omega (arith, range)) stub_is);
      later = later;
      log = log;
      takes = taken.takes;
      looks = taken.looks;
      stubs = subst (λ k. new.stubs.items ≡ slice_set old.stubs.items k later) place stubs;
      posts = posts;
      taps = taps;
      turn_is = record {
        logs = subst (λ k. new.logs.items ≡ slice_set old.logs.items k log) own logs;
        settings = settings_kept turn.actor old.door.centres door new.door begins same;
        histories = histories;
      };
    }

-- the operator's step in its turn
pub order_left : (n section number : ℕ) (step : OperatorStep) (old new : Table) (door : KeptView) (found before log : Logged) → n ≡ length old.door.centres → 1 ≤ length old.logs.items → door ≡ begun 1 old.door.centres → found ≡ get_or old.logs.items 0 found → before ≡ record found { section = section; step = number } → place_of new.door ≡ place_of door → OperatesWith n step old.taps.items new.taps.items (acting (shown_of door) before) (acting (shown_of new.door) log) → new.stubs ≡ old.stubs → ((deeds : List Deed) → HasPosts n (operator_does step) deeds old.posts new.posts) → new.logs.items ≡ slice_set old.logs.items 0 log → AreHistories new.door.centres → HasOperated (record { actor = 1; section = section; step = number }) step old new
order_left n section number step old new door found before log count inside begins found_is before_is same operates stubs posts logs histories =
    let turn : Turn = record { actor = 1; section = section; step = number } in
    let first : before ≡ log_in turn (log_at old.logs.items turn.actor) = log_begun turn 0 old.logs.items found before refl inside found_is before_is in
    let kept : OperatesWith (length old.door.centres) step old.taps.items new.taps.items (acting (shown_of (begun 1 old.door.centres)) (log_in turn (log_at old.logs.items 1))) (acting (shown_of new.door) log) =
    subst (λ n. OperatesWith n step old.taps.items new.taps.items (acting (shown_of (begun 1 old.door.centres)) (log_in turn (log_at old.logs.items 1))) (acting (shown_of new.door) log)) count
    (subst (λ (first : Logged). OperatesWith n step old.taps.items new.taps.items (acting (shown_of (begun 1 old.door.centres)) first) (acting (shown_of new.door) log)) first
    (subst (λ (door : KeptView). OperatesWith n step old.taps.items new.taps.items (acting (shown_of door) before) (acting (shown_of new.door) log)) begins operates)) in
    record {
      log = log;
      operates = kept.operates;
      stubs = stubs;
      posts = subst (λ n. HasPosts n (operator_does step) kept.operates.deeds old.posts new.posts) count (posts kept.operates.deeds);
      feeds = kept.feeds;
      taps = kept.behind;
      turn_is = record { logs = logs; settings = settings_kept 1 old.door.centres door new.door begins same; histories = histories };
    }

-- an ask outside of the script
pub ask_left : (actor centre : ℕ) (ask : Ask) (say : Say) (old new : Table) (door : KeptView) (found before log : Logged) → (1 ≤ actor) × (actor ≤ length old.logs.items) → IsBehind (shown_of (begun actor old.door.centres)) centre → door ≡ begun actor old.door.centres → found ≡ get_or old.logs.items (actor - 1) found → before ≡ record found { section = 0; step = 0 } → place_of new.door ≡ place_of door → HasAsked (shown_of door) (shown_of new.door) centre (entry door.actor ask say) → log ≡ noted before (Asked centre ask (Unheard say)) → new.stubs ≡ old.stubs → new.posts ≡ old.posts → new.taps.items ≡ old.taps.items → new.logs.items ≡ slice_set old.logs.items (actor - 1) log → AreHistories new.door.centres → HasAskedOnce actor centre ask old new
ask_left actor centre ask say old new door found before log range behind begins found_is before_is same has log_is stubs posts taps logs histories =
    let deed : Deed = Asked centre ask (Unheard say) in
    let first : before ≡ log_in (outside actor) (log_at old.logs.items actor) = log_begun (outside actor) (actor - 1) old.logs.items found before (omega (arith, range.0)) (omega (arith, range.0, range.1)) found_is before_is in
    record {
      say = say;
      log = log;
      leaves = record {
        log = log_is ∙ ap (λ log. noted log deed) first;
        door = subst (λ (door : KeptView). HasDone (shown_of door) (shown_of new.door) (deed ∷ [])) begins (done_ask (shown_of door) (shown_of new.door) centre ask (Unheard say) say refl has);
        behind = All-cons (IsAskBehind (shown_of (begun actor old.door.centres))) deed [] behind (All-nil (IsAskBehind (shown_of (begun actor old.door.centres))));
      };
      stubs = stubs;
      posts = posts;
      taps = taps;
      turn_is = record { logs = logs; settings = settings_kept actor old.door.centres door new.door begins same; histories = histories };
    }

-- a worker is one of the actors, and no client
pub worker_range : (clients n centre : ℕ) (work : Work) → IsCount n centre → (clients + 2 ≤ actor_of clients (work_of centre work)) × (actor_of clients (work_of centre work) ≤ 1 + clients + 4 * n)
worker_range clients n centre (Round Sender) range = (omega arith, omega (arith, range.0, range.1))
worker_range clients n centre (Round Receiver) range = (omega arith, omega (arith, range.0, range.1))
worker_range clients n centre (Round Reporter) range = (omega arith, omega (arith, range.0, range.1))
worker_range clients n centre (Round Pruner) range = (omega arith, omega (arith, range.0, range.1))
worker_range clients n centre Close range = (omega arith, omega (arith, range.0, range.1))

-- a worker's round in its turn
pub round_left : (actor due n section number : ℕ) (does : Does) (old new : Table) (door : KeptView) (found before log : Logged) → actor ≡ due → (1 ≤ actor) × (actor ≤ length old.logs.items) → n ≡ length old.door.centres → door ≡ begun actor old.door.centres → found ≡ get_or old.logs.items (actor - 1) found → before ≡ record found { section = section; step = number } → place_of new.door ≡ place_of door → HasWorked n number does old.posts new.posts (acting (shown_of door) before) (acting (shown_of new.door) log) → new.stubs ≡ old.stubs → new.taps.items ≡ old.taps.items → new.logs.items ≡ slice_set old.logs.items (actor - 1) log → AreHistories new.door.centres → HasMadeRound (record { actor = due; section = section; step = number }) does old new
round_left actor due n section number does old new door found before log is range count begins found_is before_is same works stubs taps logs histories =
    let turn : Turn = record { actor = actor; section = section; step = number } in
    let first : before ≡ log_in turn (log_at old.logs.items actor) = log_begun turn (actor - 1) old.logs.items found before (omega (arith, range.0)) (omega (arith, range.0, range.1)) found_is before_is in
    subst (λ due. HasMadeRound (record { actor = due; section = section; step = number }) does old new) is
    (record {
      log = log;
      works = subst (λ n. HasWorked n number does old.posts new.posts (acting (shown_of (begun actor old.door.centres)) (log_in turn (log_at old.logs.items actor))) (acting (shown_of new.door) log)) count
          (subst (λ (first : Logged). HasWorked n number does old.posts new.posts (acting (shown_of (begun actor old.door.centres)) first) (acting (shown_of new.door) log)) first
          (subst (λ (door : KeptView). HasWorked n number does old.posts new.posts (acting (shown_of door) before) (acting (shown_of new.door) log)) begins works));
      stubs = stubs;
      taps = taps;
      turn_is = record { logs = logs; settings = settings_kept actor old.door.centres door new.door begins same; histories = histories };
    })

-- ---- an early end

-- a turn of the actor whose log stands at a place
pub turn_cut : (turn : Turn) (place : ℕ) (old new : Table) (door : KeptView) (found before log : Logged) → place + 1 ≡ turn.actor → place < length old.logs.items → door ≡ begun turn.actor old.door.centres → found ≡ get_or old.logs.items place found → before ≡ log_in turn found → place_of new.door ≡ place_of door → IsCutShort (acting (shown_of door) before) (acting (shown_of new.door) log) → new.logs.items ≡ slice_set old.logs.items place log → AreHistories new.door.centres → IsCutTurn turn old new
turn_cut turn place old new door found before log own within begins found_is before_is same short logs histories =
    let first : before ≡ log_in turn (log_at old.logs.items turn.actor) = log_begun turn place old.logs.items found before own within found_is before_is in
    let here : place ≡ turn.actor - 1 = omega (arith, own) in
    record {
      log = log;
      short = subst (λ (first : Logged). IsCutShort (acting (shown_of (begun turn.actor old.door.centres)) first) (acting (shown_of new.door) log)) first
          (subst (λ (door : KeptView). IsCutShort (acting (shown_of door) before) (acting (shown_of new.door) log)) begins short);
      turn_is = record {
        logs = subst (λ k. new.logs.items ≡ slice_set old.logs.items k log) here logs;
        settings = settings_kept turn.actor old.door.centres door new.door begins same;
        histories = histories;
      };
    }

-- a client's step
pub step_cut : (client section number : ℕ) (old new : Table) (door : KeptView) (later : StubView) (found before log : Logged) → client < length old.logs.items → door ≡ begun (client + 1) old.door.centres → found ≡ get_or old.logs.items client found → before ≡ record found { section = section; step = number } → place_of new.door ≡ place_of door → IsCutShort (acting (shown_of door) before) (acting (shown_of new.door) log) → IsLinkBehind (shown_of new.door) later.client → new.stubs.items ≡ slice_set old.stubs.items (client - 1) later → new.posts ≡ old.posts → new.taps.items ≡ old.taps.items → new.logs.items ≡ slice_set old.logs.items client log → AreHistories new.door.centres → HasSteppedPart (record { actor = client + 1; section = section; step = number }) old new
step_cut client section number old new door later found before log inside begins found_is before_is same short linked stubs posts taps logs histories =
    let turn : Turn = record { actor = client + 1; section = section; step = number } in
    let place : client - 1 ≡ turn.actor - 2 = omega arith in
    record {
      later = later;
      linked = linked;
      stubs = subst (λ k. new.stubs.items ≡ slice_set old.stubs.items k later) place stubs;
      posts = posts;
      taps = taps;
      cut = turn_cut turn client old new door found before log refl inside begins found_is before_is same short logs histories;
    }

-- what follows from two facts of an error
pub on_err_both : {T E : Type 0} (r : Result T E) (P Q S : Type 0) → (P → Q → S) → OnErr r P → OnErr r Q → OnErr r S
on_err_both (Ok x) P Q S both p q = tt
on_err_both (Err e) P Q S both p q = both p q

-- a worker's round
pub round_cut : (actor due n section number centre : ℕ) (does : Work) (old new : Table) (door : KeptView) (found before log : Logged) → actor ≡ due → (1 ≤ actor) × (actor ≤ length old.logs.items) → n ≡ length old.door.centres → door ≡ begun actor old.door.centres → found ≡ get_or old.logs.items (actor - 1) found → before ≡ record found { section = section; step = number } → place_of new.door ≡ place_of door → IsCutShort (acting (shown_of door) before) (acting (shown_of new.door) log) → HasWorkedPart n centre does old.posts new.posts (acting (shown_of door) before) (acting (shown_of new.door) log) → new.stubs ≡ old.stubs → new.taps.items ≡ old.taps.items → new.logs.items ≡ slice_set old.logs.items (actor - 1) log → AreHistories new.door.centres → HasMadeRoundPart (record { actor = due; section = section; step = number }) centre does old new
unfolding turn_cut
round_cut actor due n section number centre does old new door found before log is range count begins found_is before_is same short works stubs taps logs histories =
    let turn : Turn = record { actor = actor; section = section; step = number } in
    let own : actor - 1 + 1 ≡ actor = omega (arith, range.0) in
    let within : actor - 1 < length old.logs.items = omega (arith, range.0, range.1) in
    let first : before ≡ log_in turn (log_at old.logs.items actor) = log_begun turn (actor - 1) old.logs.items found before own within found_is before_is in
    subst (λ due. HasMadeRoundPart (record { actor = due; section = section; step = number }) centre does old new) is
    (record {
      cut = turn_cut turn (actor - 1) old new door found before log own within begins found_is before_is same short logs histories;
      works = subst (λ n. HasWorkedPart n centre does old.posts new.posts (acting (shown_of (begun actor old.door.centres)) (log_in turn (log_at old.logs.items actor))) (acting (shown_of new.door) log)) count
          (subst (λ (first : Logged). HasWorkedPart n centre does old.posts new.posts (acting (shown_of (begun actor old.door.centres)) first) (acting (shown_of new.door) log)) first
          (subst (λ (door : KeptView). HasWorkedPart n centre does old.posts new.posts (acting (shown_of door) before) (acting (shown_of new.door) log)) begins works));
      stubs = stubs;
      taps = taps;
    })

-- a door of which an ask outside of the script was not made, or which made it
abbrev MayHaveMade : DoorView → DoorView → ℕ → Ask → Type 0
MayHaveMade a b centre ask = HasNotAsked a b ⊎ ((say : Say) × HasAsked a b centre (entry a.actor ask say))

-- such an ask
pub ask_cut : (actor centre : ℕ) (ask : Ask) (old new : Table) (door : KeptView) (found before : Logged) → (1 ≤ actor) × (actor ≤ length old.logs.items) → door ≡ begun actor old.door.centres → found ≡ get_or old.logs.items (actor - 1) found → before ≡ record found { section = 0; step = 0 } → place_of new.door ≡ place_of door → MayHaveMade (shown_of door) (shown_of new.door) centre ask → new.stubs ≡ old.stubs → new.posts ≡ old.posts → new.taps.items ≡ old.taps.items → new.logs.items ≡ slice_set old.logs.items (actor - 1) before → AreHistories new.door.centres → HasAskedOncePart actor centre ask old new
ask_cut actor centre ask old new door found before range begins found_is before_is same made stubs posts taps logs histories =
    let turn : Turn = outside actor in
    let first : before ≡ log_in turn (log_at old.logs.items actor) = log_begun turn (actor - 1) old.logs.items found before (omega (arith, range.0)) (omega (arith, range.0, range.1)) found_is before_is in
    record {
      asked = subst (λ (door : KeptView). MayHaveMade (shown_of door) (shown_of new.door) centre ask) begins made;
      stubs = stubs;
      posts = posts;
      taps = taps;
      turn_is = record {
        logs = logs ∙ ap (λ (log : Logged). slice_set old.logs.items (actor - 1) log) first;
        settings = settings_kept actor old.door.centres door new.door begins same;
        histories = histories;
      };
    }
