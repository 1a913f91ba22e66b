-- A turn of a client or of the operator in a world.
use Rattle.std.proofs.Common.{◌≡◌, ◌≢◌, ◌≤◌, ◌<◌, ℕ, suc, ◌+◌, ◌-◌, Bool, false, ⊎_elim, List, [], ◌∷◌, ◌++◌, map, length, Option, Some, None, refl, sym, ap, ◌∙◌, subst, arith}
use Rattle.std.specs.Prelude.{slice_get, slice_set, All, IfSome}
use Rattle.std.proofs.lemmas.Bool.{cases_eq}
use Rattle.std.proofs.lemmas.Option.{same_Some, slice_get_within}
use Rattle.std.proofs.lemmas.List.Folds.{fold-map}
use Rattle.std.proofs.lemmas.List.Sums.{fold-append}
use Rattle.std.proofs.lemmas.List.Elements.{All-weaker}
use Rattle.std.proofs.Math.ListN.{length-set}
use Rattle.list_core.proofs.Gets.{set_else, set_here}
use Rattle.dc_talk.specs.declared.ask.Ask.{Ask}
use Rattle.dc_talk.specs.declared.calls.Connection.{Connection}
use Rattle.dc_talk.specs.declared.log.Fate.TheVariants.{Unheard}
use Rattle.dc_talk.specs.declared.log.Deed.{Deed}
use Rattle.dc_talk.specs.declared.log.Deed.TheVariants.{Did, Asked, Told, Spoilt}
use Rattle.dc_talk.specs.declared.log.Note.{Note}
use Rattle.dc_talk.specs.Logs.{marked, entries_made}
use Rattle.dc_talk.specs.Acting.{IsAskBehind}
use Rattle.dc_talk.specs.Doors.{DoorView, IsBehind, HasDone}
use Rattle.dc_talk.specs.Clients.{Client, new_client}
use Rattle.dc_talk.specs.Rule.{after, client_after}
use Rattle.dc_door.specs.Centres.{CentreTrail}
use Rattle.dc_door.specs.KeptDoors.{shown_of, begun, trail_at}
use Rattle.script_core.specs.declared.script.Script.{Script}
use Rattle.script_core.specs.declared.steps.ClientStep.{ClientStep}
use Rattle.script_core.specs.declared.steps.OperatorStep.{OperatorStep}
use Rattle.script_core.specs.Steps.{IsOperatorStep}
use Rattle.script_core.specs.Deeds.{StepDeeds, after_all}
use Rattle.script_core.specs.Orders.{OperatorDeeds}
use Rattle.client_stub.specs.Playing.{StubView, IsLinkBehind}
use Rattle.run_book.specs.Setups.{setup_of}
use Rattle.run_book.specs.Happenings.{Happened, notes_by, happening, GoesToOneOf, IsLinkWithin, ClientDoes, AreTogether}
use Rattle.run_book.proofs.Happenings.Entries.{own_then, other_then, deeds_marked}
use Rattle.run_book.proofs.Happenings.More.{client_then, carrier_then, operator_carries, together_more}
use Rattle.run_book.proofs.Happenings.OperatorSteps.{order_does}
use Rattle.run_book.proofs.Happenings.Reach.{link_within}
use Rattle.run_table.proofs.Allowing.{allows_does}
use Rattle.run_table.specs.declared.table.Table.{Table}
use Rattle.run_book.specs.Moves.{operator_does}
use Rattle.world_core.specs.Worlds.{IsWorld, Acts, stub_at, notes_in, seen_of}
use Rattle.run_table.specs.Tables.{HasStepped, HasOperated, HasAskedOnce, log_in, outside, Turn, HasPosts, log_at}
use Rattle.world_core.specs.Events.{TakesStep, TakesOrder, AsksOnce, MayAsk}
use Rattle.world_core.proofs.Mail.{mail_later, mail_after}
use Rattle.world_core.proofs.Worlds.{centre_count, HasActed, more, world_then, histories_then, stub_named, stub_got}

-- ---- deeds through the door

-- asks of centres behind the door go to centres that there are
pub behind_go : (door : DoorView) (n : ℕ) (turn : Turn) (deeds : List Deed) → door.centres ≡ n → All (IsAskBehind door) deeds → All (GoesToOneOf n) (map (λ (note : Note). note.deed) (notes_in turn deeds))
behind_go door n turn deeds count behind = subst (All (GoesToOneOf n)) (sym (deeds_marked turn.section turn.step deeds)) (All-weaker (IsAskBehind door) (GoesToOneOf n) each deeds behind)
  where
    each : (deed : Deed) → IsAskBehind door deed → GoesToOneOf n deed
    each (Asked i ask fate) here = (here.0, omega (arith, here.1, count))
    each (Did call outcome) here = tt
    each (Told line) here = tt
    each (Spoilt from item why) here = tt

-- each trail ends with the entries of what was done through a door that is alone
pub trails_made : (actor : ℕ) (old : List CentreTrail) (door : DoorView) (deeds : List Deed) → HasDone (shown_of (begun actor old)) door deeds → (i : ℕ) → door.seen i ≡ trail_at old i ++ entries_made actor i deeds
trails_made actor old door deeds done i = done.seen i ∙ ap (λ es. trail_at old i ++ es) (done.alone refl i)

-- a client after deeds is the one of its notes
client_on : (n client capacity : ℕ) (turn : Turn) (notes : List Note) (s : Client) (deeds : List Deed) → s ≡ client_after n client capacity notes → after_all s deeds ≡ client_after n client capacity (notes ++ notes_in turn deeds)
client_on n client capacity turn notes s deeds is =
    let by_note : Client → Note → Client = λ s note. after s note.deed in
    ap (λ s. after_all s deeds) is
    ∙ (sym (fold-map by_note (marked turn.section turn.step) (client_after n client capacity notes) deeds)
    ∙ sym (fold-append by_note (new_client n client capacity) notes (notes_in turn deeds)))

-- ---- a world as a turn begins

module _ (script : Script) (spent : Bool) (table : Table) (all : List Happened) (w : IsWorld (seen_of script spent table) all) where
  -- the links of the clients are behind the door
  pub links_behind : (place : ℕ) (stub : StubView) → slice_get table.stubs.items place ≡ Some stub → IsLinkBehind (shown_of table.door) stub.client
  links_behind place stub there =
      let client : stub.client ≡ client_after script.n (suc place) script.cache (notes_by (suc place + 1) all) = w.stubs (suc place) stub there in
      behind stub.client.link (subst (λ (s : Client). IsLinkWithin script.n s.link) (sym client) (link_within script.n script.k (setup_of script) all w.together (suc place) (suc place + 1)))
    where
      behind : (link : Option Connection) → IsLinkWithin script.n link → IfSome link (λ link. IsBehind (shown_of table.door) link.centre)
      behind None within = tt
      behind (Some link) within = (within.0, omega (arith, within.1, centre_count (seen_of script spent table) all w))

-- ---- a client's turn

module _ (script : Script) (client section number : ℕ) (step : ClientStep) (old new : Table) (h : HasStepped (record { actor = client + 1; section = section; step = number }) step old new) (range : (1 ≤ client) × (client < length old.logs.items)) where
  -- the turn
  abbrev mine : Turn
  mine = record { actor = client + 1; section = section; step = number }

  -- the deeds
  abbrev done : List Deed
  done = h.takes.deeds

  client_acted : HasActed mine done old new
  client_acted = record {
    range = (omega arith, omega (arith, range.1));
    logs = h.turn_is.logs ∙ ap (slice_set old.logs.items (mine.actor - 1)) h.takes.grows.log;
    settings = h.turn_is.settings;
    trails = trails_made mine.actor old.door.centres (shown_of new.door) done h.takes.grows.door;
    kept = h.turn_is.histories;
    stub_count = ap (λ (stubs : List StubView). length stubs) h.stubs ∙ length-set old.stubs.items (mine.actor - 2) h.later;
  }

  client_may : ClientDoes h.stub.client (log_at old.logs.items mine.actor).notes (notes_in mine done)
  client_may = allows_does mine.section mine.step h.stub.client (log_in mine (log_at old.logs.items mine.actor)) done refl refl h.takes.grows.allowed

  -- the client's place
  there : slice_get old.stubs.items (client - 1) ≡ Some h.stub
  there = let place : mine.actor - 2 ≡ client - 1 = omega arith in subst (λ k. slice_get old.stubs.items k ≡ Some h.stub) place h.there

  module _ (spent : Bool) (all : List Happened) (w : IsWorld (seen_of script spent old) all) where
    -- the client is as its log said
    was : h.stub.client ≡ client_after script.n client script.cache (notes_by (client + 1) all)
    was = w.stubs client h.stub (stub_named old.stubs.items client h.stub range.0 there)

    together : client ≤ script.clients → AreTogether script.n script.k (setup_of script) (more mine done script spent old new client_acted all w)
    together high =
        let may : ClientDoes (client_after script.n client script.cache (notes_by (client + 1) all)) (notes_by (client + 1) all) (notes_in mine done) = subst (λ s. ClientDoes s (notes_by (client + 1) all) (notes_in mine done)) was (subst (λ ns. ClientDoes h.stub.client ns (notes_in mine done)) (w.notes (client + 1)) client_may) in
        client_then script.n script.k (setup_of script) client all (notes_in mine done) (range.0, high) w.together
        (histories_then mine done script spent old new client_acted all w)
        (behind_go (shown_of (begun mine.actor old.door.centres)) script.n mine done (centre_count (seen_of script spent old) all w) h.takes.grows.behind)
        may

    -- each client is as its log says then
    clients_then : (other : ℕ) (stub : StubView) → stub_at new.stubs.items other ≡ Some stub → stub.client ≡ client_after script.n other script.cache (notes_by (other + 1) (more mine done script spent old new client_acted all w))
    clients_then other stub is = ⊎_elim own else (cases_eq other client)
      where
        place : mine.actor - 2 ≡ client - 1
        place = omega arith

        own : other ≡ client → stub.client ≡ client_after script.n other script.cache (notes_by (other + 1) (more mine done script spent old new client_acted all w))
        own same =
            let at = (stub_got new.stubs.items other stub is).1 in
            let at_own : slice_get (slice_set old.stubs.items (client - 1) h.later) (client - 1) ≡ Some stub = subst (λ k. slice_get (slice_set old.stubs.items k h.later) (client - 1) ≡ Some stub) place (subst (λ stubs. slice_get stubs (client - 1) ≡ Some stub) h.stubs (subst (λ c. slice_get new.stubs.items (c - 1) ≡ Some stub) same at)) in
            let later : h.later ≡ stub = same_Some h.later stub (sym (set_here old.stubs.items (client - 1) h.later (slice_get_within old.stubs.items (client - 1) h.stub there)) ∙ at_own) in
            subst (λ c. stub.client ≡ client_after script.n c script.cache (notes_by (c + 1) (more mine done script spent old new client_acted all w))) (sym same)
            (ap (λ (stub : StubView). stub.client) (sym later)
            ∙ (h.takes.grows.client
            ∙ (client_on script.n client script.cache mine (notes_by (client + 1) all) h.stub.client done was
            ∙ ap (client_after script.n client script.cache) (sym (own_then mine.actor all (notes_in mine done))))))

        else : other ≢ client → stub.client ≡ client_after script.n other script.cache (notes_by (other + 1) (more mine done script spent old new client_acted all w))
        else differs =
            let at = stub_got new.stubs.items other stub is in
            let apart : other - 1 ≢ mine.actor - 2 = λ same. differs (omega (arith, same, at.0, range.0)) in
            let before : slice_get old.stubs.items (other - 1) ≡ Some stub = sym (set_else old.stubs.items (mine.actor - 2) (other - 1) h.later apart) ∙ subst (λ stubs. slice_get stubs (other - 1) ≡ Some stub) h.stubs at.1 in
            w.stubs other stub (stub_named old.stubs.items other stub at.0 before)
            ∙ ap (client_after script.n other script.cache) (sym (other_then mine.actor (other + 1) all (notes_in mine done) (λ same. differs (omega (arith, same)))))

  -- so the world goes on
  client_acts : client ≤ script.clients → (spent : Bool) → spent ≡ false → Acts mine done (seen_of script spent old) (seen_of script false new)
  client_acts high spent fresh = record {
    script = refl;
    spent = sym fresh;
    logs = client_acted.logs;
    settings = client_acted.settings;
    trails = client_acted.trails;
    goes_on = λ all w. world_then mine done script spent old new client_acted all w false (clients_then spent all w) (mail_later script.n old.posts new.posts all (happening mine.actor (notes_in mine done)) h.posts w.mail) (together spent all w high);
  }

  -- it takes its step
  pub step_taken : client ≤ script.clients → (spent : Bool) → spent ≡ false → TakesStep mine step (seen_of script spent old) (seen_of script false new)
  step_taken high spent fresh =
      let back : client ≡ mine.actor - 1 = omega arith in
      let again : mine.actor ≡ mine.actor - 1 + 1 = omega arith in
      record {
        stub = h.stub;
        there = subst (λ c. stub_at old.stubs.items c ≡ Some h.stub) back (stub_named old.stubs.items client h.stub range.0 there);
        deeds = done;
        such = subst (λ a. StepDeeds (record { client = h.stub.client; armed = h.stub.armed; notes = (log_at old.logs.items a).notes }) step done) again h.takes.such;
        stubs = h.stubs ∙ ap (slice_set old.stubs.items (mine.actor - 2)) (λ i. record { client = h.takes.grows.client i; armed = h.takes.armed i });
        looks = h.looks;
        posts = h.posts;
        taps = h.taps;
        allowed = client_may;
        acts = client_acts high spent fresh;
      }

-- ---- the operator's turn

module _ (script : Script) (section number : ℕ) (step : OperatorStep) (old new : Table) (h : HasOperated (record { actor = 1; section = section; step = number }) step old new) (range : 1 ≤ length old.logs.items) where
  -- the turn
  abbrev its : Turn
  its = record { actor = 1; section = section; step = number }

  -- the deeds
  abbrev ordered : List Deed
  ordered = h.operates.deeds

  operator_acted : HasActed its ordered old new
  operator_acted = record {
    range = (omega arith, range);
    logs = h.turn_is.logs ∙ ap (slice_set old.logs.items (its.actor - 1)) h.operates.leaves.log;
    settings = h.turn_is.settings;
    trails = trails_made its.actor old.door.centres (shown_of new.door) ordered h.operates.leaves.door;
    kept = h.turn_is.histories;
    stub_count = ap (λ stubs. length stubs.items) h.stubs;
  }

  -- it takes its step
  pub order_taken : length old.door.centres ≡ script.n → IsOperatorStep script.n step → (spent : Bool) → spent ≡ false → TakesOrder its step (seen_of script spent old) (seen_of script false new)
  order_taken count fits spent fresh =
      let such : OperatorDeeds script.n step ordered = subst (λ n. OperatorDeeds n step ordered) count h.operates.such in
      let posts : HasPosts script.n (operator_does step) ordered old.posts new.posts = subst (λ n. HasPosts n (operator_does step) ordered old.posts new.posts) count h.posts in
      record {
        deeds = ordered;
        such = such;
        stubs = ap (λ stubs. stubs.items) h.stubs;
        posts = posts;
        feeds = h.feeds;
        taps = h.taps;
        acts = record {
          script = refl;
          spent = sym fresh;
          logs = operator_acted.logs;
          settings = operator_acted.settings;
          trails = operator_acted.trails;
          goes_on = λ all w.
              let together : AreTogether script.n script.k (setup_of script) (more its ordered script spent old new operator_acted all w) =
              carrier_then script.n script.k (setup_of script) 1 all (notes_in its ordered) (operator_carries script.n script.clients) w.together
              (histories_then its ordered script spent old new operator_acted all w)
              (behind_go (shown_of (begun 1 old.door.centres)) script.n its ordered (centre_count (seen_of script spent old) all w) h.operates.leaves.behind)
              (order_does script.n script.k (setup_of script) all step section number ordered w.together (histories_then its ordered script spent old new operator_acted all w) fits such) in
              world_then its ordered script spent old new operator_acted all w false
              (λ client stub is. w.stubs client stub (subst (λ stubs. stub_at stubs client ≡ Some stub) (ap (λ stubs. stubs.items) h.stubs) is)
              ∙ ap (client_after script.n client script.cache) (sym (other_then 1 (client + 1) all (notes_in its ordered) (λ same. omega (arith, same, (stub_got new.stubs.items client stub is).0)))))
              (mail_after script.n script.k (setup_of script) (operator_does step) its ordered all old.posts new.posts together posts w.mail)
              together;
        };
      }

-- ---- an ask outside of the script

module _ (script : Script) (actor centre : ℕ) (ask : Ask) (old new : Table) (h : HasAskedOnce actor centre ask old new) (range : (1 ≤ actor) × (actor ≤ length old.logs.items)) where
  -- its only deed
  abbrev asked : List Deed
  asked = Asked centre ask (Unheard h.say) ∷ []

  asker_acted : HasActed (outside actor) asked old new
  asker_acted = record {
    range = range;
    logs = h.turn_is.logs ∙ ap (slice_set old.logs.items (actor - 1)) h.leaves.log;
    settings = h.turn_is.settings;
    trails = trails_made actor old.door.centres (shown_of new.door) asked h.leaves.door;
    kept = h.turn_is.histories;
    stub_count = ap (λ stubs. length stubs.items) h.stubs;
  }

  -- what a client becomes by an ask that no session hears
  unheard : (client : ℕ) (all : List Happened) → client_after script.n client script.cache (notes_by (client + 1) all) ≡ client_after script.n client script.cache (notes_by (client + 1) (all ++ happening actor (notes_in (outside actor) asked)))
  unheard client all = ⊎_elim own other (cases_eq actor (client + 1))
    where
      by_note : Client → Note → Client
      by_note s note = after s note.deed

      own : actor ≡ client + 1 → client_after script.n client script.cache (notes_by (client + 1) all) ≡ client_after script.n client script.cache (notes_by (client + 1) (all ++ happening actor (notes_in (outside actor) asked)))
      own same =
          let mine : notes_by (client + 1) (all ++ happening actor (notes_in (outside actor) asked)) ≡ notes_by (client + 1) all ++ notes_in (outside actor) asked = subst (λ a. notes_by a (all ++ happening actor (notes_in (outside actor) asked)) ≡ notes_by a all ++ notes_in (outside actor) asked) same (own_then actor all (notes_in (outside actor) asked)) in
          client_on script.n client script.cache (outside actor) (notes_by (client + 1) all) (client_after script.n client script.cache (notes_by (client + 1) all)) asked refl
          ∙ ap (client_after script.n client script.cache) (sym mine)

      other : actor ≢ client + 1 → client_after script.n client script.cache (notes_by (client + 1) all) ≡ client_after script.n client script.cache (notes_by (client + 1) (all ++ happening actor (notes_in (outside actor) asked)))
      other differs = ap (client_after script.n client script.cache) (sym (other_then actor (client + 1) all (notes_in (outside actor) asked) differs))

  -- the world goes on, where it may ask so
  pub ask_made : (spent : Bool) → spent ≡ false → MayAsk actor centre ask (seen_of script spent old) → AsksOnce actor centre ask (seen_of script spent old) (seen_of script false new)
  ask_made spent fresh may = record {
    say = h.say;
    stubs = ap (λ stubs. stubs.items) h.stubs;
    posts = h.posts;
    taps = h.taps;
    acts = record {
      script = refl;
      spent = sym fresh;
      logs = asker_acted.logs;
      settings = asker_acted.settings;
      trails = asker_acted.trails;
      goes_on = λ all w. world_then (outside actor) asked script spent old new asker_acted all w false
          (λ client stub is. w.stubs client stub (subst (λ stubs. stub_at stubs client ≡ Some stub) (ap (λ stubs. stubs.items) h.stubs) is) ∙ unheard client all)
          (mail_later script.n old.posts new.posts all (happening actor (notes_in (outside actor) asked)) h.posts w.mail)
          (together_more script.n script.k (setup_of script) all (record { actor = actor; note = marked 0 0 (Asked centre ask (Unheard h.say)) }) w.together
          (histories_then (outside actor) asked script spent old new asker_acted all w) (may all w h.say));
    };
  }
