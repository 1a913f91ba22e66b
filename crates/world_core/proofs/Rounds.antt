-- A round of a worker in a world.
use Rattle.std.proofs.Common.{◌≡◌, ◌≢◌, ◌≤◌, ℕ, ◌+◌, ◌-◌, ◌*◌, Bool, false, List, map, length, Some, refl, sym, ap, ◌∙◌, subst, arith}
use Rattle.std.specs.Prelude.{All, slice_set}
use Rattle.std.proofs.lemmas.Option.{slice_get_within}
use Rattle.list_core.specs.Members.{In}
use Rattle.list_core.proofs.Members.{In_right}
use Rattle.vv_core.specs.Vectors.{centres}
use Rattle.dc_talk.specs.declared.log.Deed.{Deed}
use Rattle.dc_talk.specs.declared.log.Note.{Note}
use Rattle.dc_talk.specs.Rule.{client_after}
use Rattle.dc_door.specs.KeptDoors.{shown_of, begun, trail_at, settings_of}
use Rattle.script_core.specs.declared.script.Script.{Script}
use Rattle.script_core.specs.declared.rounds.Role.TheVariants.{Sender, Receiver, Reporter, Pruner}
use Rattle.script_core.specs.Steps.{IsCount}
use Rattle.script_core.specs.Scripts.{IsInRange}
use Rattle.script_core.specs.Mail.{due_in_round, due_at_close}
use Rattle.script_core.proofs.Arriving.{due_lies, close_lies}
use Rattle.script_core.proofs.RoundDeeds.{sender_carries, reporter_carries, pruner_carries}
use Rattle.dc_mail.specs.Posts.{post_at}
use Rattle.client_stub.specs.Playing.{StubView}
use Rattle.run_book.specs.Setups.{setup_of, settings_among}
use Rattle.run_book.specs.Happenings.{Happened, trails_in, GoesToOneOf, CarrierDoes, IsCarrier, AreTogether}
use Rattle.run_book.specs.Moves.{actor_of}
use Rattle.run_book.specs.Played.{DoesSo}
use Rattle.run_book.proofs.Happenings.Entries.{other_then, deeds_marked}
use Rattle.run_book.proofs.Happenings.More.{carrier_then}
use Rattle.run_book.proofs.Happenings.Carrying.{deeds_do}
use Rattle.run_book.proofs.Happenings.WorkerRounds.{worker_carries, receiver_does}
use Rattle.run_table.specs.declared.table.Table.{Table}
use Rattle.run_table.specs.declared.works.Work.{Work}
use Rattle.run_table.specs.declared.works.Work.TheVariants.{Round, Close}
use Rattle.run_table.specs.Works.{work_of}
use Rattle.world_core.specs.Worlds.{IsWorld, stub_at, notes_in, stage_of, seen_of}
use Rattle.run_table.specs.Tables.{HasMadeRound, stage_with, Turn, HasPosts}
use Rattle.run_table.specs.Framing.{AreFramed}
use Rattle.run_table.proofs.Acting.{worker_range}
use Rattle.run_table.proofs.Framing.{deeds_framed}
use Rattle.world_core.specs.Events.{TakesRound}
use Rattle.world_core.proofs.Worlds.{centre_count, HasActed, more, world_then, histories_then, stub_got}
use Rattle.world_core.proofs.Mail.{mail_after}
use Rattle.world_core.proofs.Turns.{trails_made, behind_go}

-- ---- who

-- a worker is a carrier
work_carrier : (n clients centre : ℕ) (work : Work) → IsCount n centre → IsCarrier n clients (actor_of clients (work_of centre work))
work_carrier n clients centre (Round role) range = worker_carries n clients centre role range
work_carrier n clients centre Close range = worker_carries n clients centre Receiver range

-- ---- what is due at a stage by what lies on the links

-- who came how far does not matter
does_with : (n number centre : ℕ) (work : Work) (script : Script) (spent : Bool) (table : Table) (deeds : List Deed) → DoesSo n (stage_with table.posts) number (work_of centre work) deeds → DoesSo n (stage_of (seen_of script spent table)) number (work_of centre work) deeds
does_with n number centre (Round Sender) script spent table deeds are = are
does_with n number centre (Round Receiver) script spent table deeds are = are
does_with n number centre (Round Reporter) script spent table deeds are = are
does_with n number centre (Round Pruner) script spent table deeds are = are
does_with n number centre Close script spent table deeds are = are

module _ (script : Script) (section number centre : ℕ) (work : Work) (old new : Table) (h : HasMadeRound (record { actor = actor_of script.clients (work_of centre work); section = section; step = number }) (work_of centre work) old new) (range : IsCount script.n centre) (count : length old.logs.items ≡ 1 + script.clients + 4 * script.n) where
  -- the turn
  abbrev its : Turn
  its = record { actor = actor_of script.clients (work_of centre work); section = section; step = number }

  -- the deeds
  abbrev worked : List Deed
  worked = h.works.deeds

  -- who did them
  who : (script.clients + 2 ≤ its.actor) × (its.actor ≤ 1 + script.clients + 4 * script.n)
  who = worker_range script.clients script.n centre work range

  worker_acted : HasActed its worked old new
  worker_acted = record {
    range = (omega (arith, who.0), omega (arith, who.1, count));
    logs = h.turn_is.logs ∙ ap (slice_set old.logs.items (its.actor - 1)) h.works.leaves.log;
    settings = h.turn_is.settings;
    trails = trails_made its.actor old.door.centres (shown_of new.door) worked h.works.leaves.door;
    kept = h.turn_is.histories;
    stub_count = ap (λ stubs. length stubs.items) h.stubs;
  }

  module _ (spent : Bool) (all : List Happened) (w : IsWorld (seen_of script spent old) all) where
    -- all that happened then
    abbrev then_all : List Happened
    then_all = more its worked script spent old new worker_acted all w

    -- the deeds go to centres that there are
    go : All (GoesToOneOf script.n) (map (λ (note : Note). note.deed) (notes_in its worked))
    go = behind_go (shown_of (begun its.actor old.door.centres)) script.n its worked (centre_count (seen_of script spent old) all w) h.works.leaves.behind

    go_deeds : All (GoesToOneOf script.n) worked
    go_deeds = subst (All (GoesToOneOf script.n)) (deeds_marked section number worked) go

    such : DoesSo script.n (stage_with old.posts) number (work_of centre work) worked
    such = subst (λ n. DoesSo n (stage_with old.posts) number (work_of centre work) worked) (centre_count (seen_of script spent old) all w) h.works.such

    -- a carrier may do so
    may : (it : Work) → IsCarrier script.n script.clients (actor_of script.clients (work_of centre it)) → its.actor ≡ actor_of script.clients (work_of centre it) → DoesSo script.n (stage_with old.posts) number (work_of centre it) worked → CarrierDoes its.actor (trails_in all) (notes_in its worked)
    may (Round Sender) carrier same are = deeds_do script.n script.k (setup_of script) its.actor (subst (IsCarrier script.n script.clients) (sym same) carrier) all section number worked w.together (histories_then its worked script spent old new worker_acted all w) go_deeds (sender_carries script.n centre worked are)
    may (Round Receiver) carrier same are = receiver_does its.actor script.n centre section number (λ from. due_in_round (post_at old.posts from centre)) worked (trails_in all) (λ from other item due. w.mail from centre other range item (due_lies (post_at old.posts from centre) item due)) are
    may (Round Reporter) carrier same are = deeds_do script.n script.k (setup_of script) its.actor (subst (IsCarrier script.n script.clients) (sym same) carrier) all section number worked w.together (histories_then its worked script spent old new worker_acted all w) go_deeds (reporter_carries script.n centre worked are)
    may (Round Pruner) carrier same are = deeds_do script.n script.k (setup_of script) its.actor (subst (IsCarrier script.n script.clients) (sym same) carrier) all section number worked w.together (histories_then its worked script spent old new worker_acted all w) go_deeds (pruner_carries centre number worked are)
    may Close carrier same are = receiver_does its.actor script.n centre section number (λ from. due_at_close (post_at old.posts from centre)) worked (trails_in all) (λ from other item due. w.mail from centre other range item (close_lies (post_at old.posts from centre) item due)) are

    together : AreTogether script.n script.k (setup_of script) then_all
    together =
        let carrier = work_carrier script.n script.clients centre work range in
        carrier_then script.n script.k (setup_of script) its.actor all (notes_in its worked) carrier w.together (histories_then its worked script spent old new worker_acted all w) go (may work carrier refl such)

  -- all that it mailed has frames
  framed_all : IsInRange script → settings_of old.door.centres ≡ map (settings_among script.n script.k (setup_of script)) (centres script.n) → AreFramed worked
  framed_all ranges settings = deeds_framed script ranges new.door.centres (h.turn_is.settings ∙ settings) h.turn_is.histories its.actor worked (λ i entry made.
      let door = h.works.leaves.door in
      subst (In entry) (sym (door.seen i)) (In_right (trail_at old.door.centres i) (door.more i) entry (door.there i entry made)))

  posts : IsInRange script → settings_of old.door.centres ≡ map (settings_among script.n script.k (setup_of script)) (centres script.n) → length old.door.centres ≡ script.n → HasPosts script.n (work_of centre work) worked old.posts new.posts
  posts ranges settings same = subst (λ n. HasPosts n (work_of centre work) worked old.posts new.posts) same (h.works.posts (framed_all ranges settings))

  -- it makes its round
  pub round_taken : IsInRange script → settings_of old.door.centres ≡ map (settings_among script.n script.k (setup_of script)) (centres script.n) → length old.door.centres ≡ script.n → (spent : Bool) → spent ≡ false → TakesRound its (work_of centre work) (seen_of script spent old) (seen_of script false new)
  round_taken ranges settings same spent fresh = record {
    deeds = worked;
    such = does_with script.n number centre work script spent old worked (subst (λ n. DoesSo n (stage_with old.posts) number (work_of centre work) worked) same h.works.such);
    stubs = ap (λ stubs. stubs.items) h.stubs;
    posts = posts ranges settings same;
    taps = h.taps;
    acts = record {
      script = refl;
      spent = sym fresh;
      logs = worker_acted.logs;
      settings = worker_acted.settings;
      trails = worker_acted.trails;
      goes_on = λ all w. world_then its worked script spent old new worker_acted all w false
          (λ client stub is. w.stubs client stub (subst (λ stubs. stub_at stubs client ≡ Some stub) (ap (λ stubs. stubs.items) h.stubs) is)
          ∙ ap (client_after script.n client script.cache) (sym (other_then its.actor (client + 1) all (notes_in its worked) (apart spent all w client stub is))))
          (mail_after script.n script.k (setup_of script) (work_of centre work) its worked all old.posts new.posts (together spent all w) (posts ranges settings same) w.mail)
          (together spent all w);
    };
  }
    where
      apart : (spent : Bool) (all : List Happened) (w : IsWorld (seen_of script spent old) all) (client : ℕ) (stub : StubView) → stub_at new.stubs.items client ≡ Some stub → its.actor ≢ client + 1
      apart spent all w client stub is same_actor =
          let got = stub_got new.stubs.items client stub is in
          let within = slice_get_within new.stubs.items (client - 1) stub got.1 in
          let many : length new.stubs.items ≡ length old.stubs.items = ap (λ stubs. length stubs.items) h.stubs in
          omega (arith, same_actor, who.0, within, many, w.stub_count, got.0)
