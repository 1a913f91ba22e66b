-- Moves that a world makes, one behind the other.
use Rattle.std.proofs.Common.{◌≡◌, ◌≢◌, ◌≤◌, ◌<◌, ℕ, ◌+◌, ◌-◌, cond, inl, inr, ⊎_elim, List, [], ◌∷◌, ◌++◌, map, Some, None, refl, sym, ap, ◌∙◌, subst, append_assoc, append-nil, arith}
use Rattle.std.specs.Prelude.{slice_get, slice_set, fold}
use Rattle.std.proofs.lemmas.Bool.{cases_eq, eq-eqb, ne_eqb}
use Rattle.std.proofs.lemmas.Option.{same_Some, slice_get_within}
use Rattle.std.proofs.lemmas.List.Folds.{fold-map}
use Rattle.std.proofs.lemmas.List.FromFn.{length-map-range_with_len}
use Rattle.dc_talk.specs.declared.log.Deed.{Deed}
use Rattle.dc_talk.specs.declared.log.Note.{Note}
use Rattle.dc_talk.specs.Logs.{marked}
use Rattle.dc_talk.specs.Clients.{Client, new_client}
use Rattle.dc_talk.specs.Rule.{after}
use Rattle.script_core.specs.declared.script.Script.{Script}
use Rattle.script_core.specs.declared.steps.ClientStep.{ClientStep}
use Rattle.script_core.specs.declared.steps.OperatorStep.{OperatorStep}
use Rattle.script_core.specs.declared.rounds.Role.TheVariants.{Sender, Receiver, Reporter, Pruner}
use Rattle.script_core.specs.Steps.{IsCount, IsStep, IsOperatorStep}
use Rattle.script_core.specs.declared.taps.TapState.{TapState}
use Rattle.script_core.specs.Taps.{LooksSo, feed_in}
use Rattle.script_core.specs.Deeds.{Progress, StepDeeds, after_all, armed_after, stepped}
use Rattle.script_core.specs.Mail.{due_in_round, due_at_close}
use Rattle.dc_talk.specs.declared.sent.Sent.{Sent}
use Rattle.dc_talk.specs.declared.links.Arrival.{Arrival}
use Rattle.client_stub.specs.Playing.{StubView}
use Rattle.ids_core.specs.declared.limits.TheConstants.{MOST_CENTRES}
use Rattle.dc_mail.specs.Posts.{post_at, new_posts}
use Rattle.run_book.specs.Happenings.{Happened, notes_by, happening}
use Rattle.run_book.specs.Moves.{Does, Move, move, client_does, operator_does, actor_of}
use Rattle.run_book.specs.Played.{Stage, new_progress, first_stage, DoesSo, TapsSo, come_after, post_after, taps_after, stage_after, HavePlayed}
use Rattle.run_book.proofs.Happenings.Entries.{own_then, other_then, deeds_marked}
use Rattle.run_book.proofs.Happenings.Playing.{played_none as none_played, played_more, all_at}
use Rattle.script_core.specs.Rounds.{ReceiverDeeds, Brings, others}
use Rattle.script_core.specs.Carrying.{route, InTurn, no_turn, next_turn}
use Rattle.list_core.specs.Members.{In}
use Rattle.list_core.proofs.Gets.{set_else, set_here}
use Rattle.run_book.proofs.Happenings.WorkerRounds.{others_within}
use Rattle.run_table.specs.declared.works.Work.{Work}
use Rattle.run_table.specs.declared.works.Work.TheVariants.{Round, Close}
use Rattle.run_table.specs.Works.{work_of}
use Rattle.run_table.specs.Taps.{taps_of, new_taps}
use Rattle.run_steps.proofs.Who.{behind_who}
use Rattle.world_core.specs.Worlds.{WorldView, IsWorld, Acts, stub_at, progress_at, notes_in, stage_of}
use Rattle.run_table.specs.Tables.{new_stub, new_stubs, Turn, HasPosts, log_at}
use Rattle.world_core.specs.Events.{TakesStep, TakesOrder, TakesRound, turn_of}
use Rattle.world_core.specs.Runs.{HasPlayed, MakesMoves}
use Rattle.run_table.proofs.Numbered.{get_below}
use Rattle.world_core.proofs.Mail.{new_post_at}
use Rattle.world_core.proofs.Taps.{new_tap_at, looks_as, feeds_as, taps_as}
use Rattle.run_table.proofs.Acting.{worker_range}
use Rattle.world_core.proofs.Worlds.{stub_named, stub_got}

-- ---- at first

-- how far a client of a new world is
first_progress : (w : WorldView) → IsWorld w [] → w.stubs ≡ new_stubs w.script.n w.script.cache w.script.clients → (client : ℕ) (stub : StubView) → stub_at w.stubs client ≡ Some stub → new_progress w.script.n client w.script.cache ≡ progress_at w client stub
first_progress w world stubs client stub there =
    let got = stub_got w.stubs client stub there in
    let at : slice_get (new_stubs w.script.n w.script.cache w.script.clients) (client - 1) ≡ Some stub = subst (λ stubs. slice_get stubs (client - 1) ≡ Some stub) stubs got.1 in
    let few : client - 1 < w.script.clients = omega (arith, slice_get_within (new_stubs w.script.n w.script.cache w.script.clients) (client - 1) stub at, length-map-range_with_len (new_stub w.script.n w.script.cache) 1 w.script.clients) in
    let same : new_stub w.script.n w.script.cache (1 + (client - 1)) ≡ stub = same_Some (new_stub w.script.n w.script.cache (1 + (client - 1))) stub (sym (get_below (new_stub w.script.n w.script.cache) w.script.clients (client - 1) few) ∙ at) in
    let armed : None ≡ stub.armed = ap (λ (stub : StubView). stub.armed) same in
    let state : new_client w.script.n client w.script.cache ≡ stub.client = sym (world.stubs client stub there) in
    let notes : [] ≡ (log_at w.logs (client + 1)).notes = sym (world.notes (client + 1)) in
    λ i. record { client = state i; armed = armed i; notes = notes i }

-- a new world has made no moves
pub played_none : (w : WorldView) → w.script.n ≤ MOST_CENTRES → IsWorld w [] → w.posts ≡ new_posts → w.taps ≡ new_taps w.script.n w.script.taps → w.stubs ≡ new_stubs w.script.n w.script.cache w.script.clients → HasPlayed [] w
played_none w few world posts taps stubs = record {
  all = [];
  world = world;
  stage = first_stage w.script;
  played = none_played w.script;
  stubs = first_progress w world stubs;
  posts = λ from to f t. sym (ap (λ posts. post_at posts from to) posts ∙ new_post_at w.script.n from to few f t);
  taps = λ centre range. sym (ap (λ taps. taps_of taps centre) taps ∙ new_tap_at w.script.n w.script.taps centre range);
}

-- ---- one behind the other

pub makes_none : (w : WorldView) → MakesMoves [] w w
makes_none w = record { script = refl; spent = refl; goes_on = λ front played. subst (λ moves. HasPlayed moves w) (sym (append-nil front)) played }

pub makes_then : (first later : List Move) (a b c : WorldView) → MakesMoves first a b → MakesMoves later b c → MakesMoves (first ++ later) a c
makes_then first later a b c one two = record {
  script = two.script ∙ one.script;
  spent = two.spent ∙ one.spent;
  goes_on = λ front played. subst (λ moves. HasPlayed moves c) (append_assoc front first later) (two.goes_on (front ++ first) (one.goes_on front played));
}

-- ---- what an actor noted

-- a world after deeds of an actor has another actor's notes as before
other_notes : (turn : Turn) (deeds : List Deed) (old new : WorldView) (all : List Happened) → IsWorld old all → IsWorld new (all ++ happening turn.actor (notes_in turn deeds)) → (a : ℕ) → turn.actor ≢ a → (log_at old.logs a).notes ≡ (log_at new.logs a).notes
other_notes turn deeds old new all before world a differs = before.notes a ∙ (sym (other_then turn.actor a all (notes_in turn deeds) differs) ∙ sym (world.notes a))

-- the actor's own notes then
own_notes : (turn : Turn) (deeds : List Deed) (old new : WorldView) (all : List Happened) → IsWorld old all → IsWorld new (all ++ happening turn.actor (notes_in turn deeds)) → (log_at old.logs turn.actor).notes ++ notes_in turn deeds ≡ (log_at new.logs turn.actor).notes
own_notes turn deeds old new all before world = ap (λ ns. ns ++ notes_in turn deeds) (before.notes turn.actor) ∙ (sym (own_then turn.actor all (notes_in turn deeds)) ∙ sym (world.notes turn.actor))

-- ---- a client's step

module _ (section number client : ℕ) (step : ClientStep) (old new : WorldView) (range : (1 ≤ client) × (client ≤ old.script.clients)) (fits : IsStep old.script.n step) (t : TakesStep (record { actor = client + 1; section = section; step = number }) step old new) (front : List Move) (h : HasPlayed front old) where
  -- the turn
  abbrev turn : Turn
  turn = record { actor = client + 1; section = section; step = number }

  -- its notes
  abbrev notes : List Note
  notes = notes_in turn t.deeds

  world : IsWorld new (h.all ++ happening (client + 1) notes)
  world = t.acts.goes_on h.all h.world

  -- the client that took the step
  mine : stub_at old.stubs client ≡ Some t.stub
  mine = let same : turn.actor - 1 ≡ client = omega arith in subst (λ c. stub_at old.stubs c ≡ Some t.stub) same t.there

  was : h.stage.come client ≡ progress_at old client t.stub
  was = h.stubs client t.stub mine

  -- how far each client is then
  abbrev later : ℕ → Progress
  later = come_after (client_does client step) notes h.stage.come

  own : later client ≡ stepped (h.stage.come client) step notes
  own = ap (λ test. cond test (stepped (h.stage.come client) step notes) (h.stage.come client)) (eq-eqb client client refl)

  away_is : (other : ℕ) → client ≢ other → later other ≡ h.stage.come other
  away_is other differs = ap (λ test. cond test (stepped (h.stage.come client) step notes) (h.stage.come other)) (ne_eqb other client (λ same. differs (sym same)))

  -- the client is as far as its step says
  own_then_is : stepped (h.stage.come client) step notes ≡ progress_at new client (record { client = after_all t.stub.client t.deeds; armed = armed_after t.stub.armed step t.deeds })
  own_then_is =
      let by_note : Client → Note → Client = λ s note. after s note.deed in
      let state : fold by_note t.stub.client notes ≡ after_all t.stub.client t.deeds = fold-map by_note (marked turn.section turn.step) t.stub.client t.deeds in
      let armed : armed_after t.stub.armed step (map (λ (note : Note). note.deed) notes) ≡ armed_after t.stub.armed step t.deeds = ap (armed_after t.stub.armed step) (deeds_marked turn.section turn.step t.deeds) in
      let log = own_notes turn t.deeds old new h.all h.world world in
      ap (λ p. stepped p step notes) was ∙ (λ i. record { client = state i; armed = armed i; notes = log i })

  far : (other : ℕ) (stub : StubView) → stub_at new.stubs other ≡ Some stub → later other ≡ progress_at new other stub
  far other stub there = ⊎_elim here away (cases_eq other client)
    where
      place : turn.actor - 2 ≡ client - 1
      place = omega arith

      now : StubView
      now = record { client = after_all t.stub.client t.deeds; armed = armed_after t.stub.armed step t.deeds }

      here : other ≡ client → later other ≡ progress_at new other stub
      here same =
          let at : slice_get new.stubs (client - 1) ≡ Some stub = subst (λ c. slice_get new.stubs (c - 1) ≡ Some stub) same (stub_got new.stubs other stub there).1 in
          let at_own : slice_get (slice_set old.stubs (client - 1) now) (client - 1) ≡ Some stub = subst (λ k. slice_get (slice_set old.stubs k now) (client - 1) ≡ Some stub) place (subst (λ stubs. slice_get stubs (client - 1) ≡ Some stub) t.stubs at) in
          let is : now ≡ stub = same_Some now stub (sym (set_here old.stubs (client - 1) now (slice_get_within old.stubs (client - 1) t.stub (stub_got old.stubs client t.stub mine).1)) ∙ at_own) in
          subst (λ c. later c ≡ progress_at new c stub) (sym same) (own ∙ (own_then_is ∙ ap (progress_at new client) is))

      away : other ≢ client → later other ≡ progress_at new other stub
      away differs =
          let at = stub_got new.stubs other stub there in
          let apart : other - 1 ≢ turn.actor - 2 = λ same. differs (omega (arith, same, at.0, range.0)) in
          let before : slice_get old.stubs (other - 1) ≡ Some stub = sym (set_else old.stubs (turn.actor - 2) (other - 1) now apart) ∙ subst (λ stubs. slice_get stubs (other - 1) ≡ Some stub) t.stubs at.1 in
          let log = other_notes turn t.deeds old new h.all h.world world (other + 1) (λ same. differs (omega (arith, same))) in
          away_is other (λ same. differs (sym same))
          ∙ (h.stubs other stub (stub_named old.stubs other stub at.0 before)
          ∙ (λ i. record { client = stub.client; armed = stub.armed; notes = log i }))

  -- the client has its number
  number_is : t.stub.client.client ≡ client
  number_is = ap (λ (s : Client). s.client) (h.world.stubs client t.stub mine) ∙ behind_who (new_client old.script.n client old.script.cache) (notes_by (client + 1) h.all)

  -- it sees what the taps of the stage show
  looked : LooksSo h.stage.taps client step t.deeds
  looked = subst (λ client. LooksSo h.stage.taps client step t.deeds) number_is (looks_as old.script.n (taps_of old.taps) h.stage.taps t.stub.client.client step t.deeds (λ centre range. sym (h.taps centre range)) fits t.looks)

  -- the moves with the client's step have been made
  client_played : HasPlayed (front ++ move section number (client_does client step) ∷ []) new
  client_played =
      let such : StepDeeds (h.stage.come client) step t.deeds = subst (λ p. StepDeeds p step t.deeds) (sym was) (let same : turn.actor - 1 ≡ client = omega arith in subst (λ c. StepDeeds (progress_at old c t.stub) step t.deeds) same t.such) in
      let script : new.script ≡ old.script = t.acts.script in
      record {
        all = h.all ++ happening (client + 1) notes;
        world = world;
        stage = stage_after (client_does client step) notes h.stage;
        played = subst (λ script. HavePlayed script (front ++ move section number (client_does client step) ∷ []) (h.all ++ happening (client + 1) notes) (stage_after (client_does client step) notes h.stage)) (sym script)
            (played_more old.script front h.all h.stage (move section number (client_does client step)) notes h.played (all_at section number t.deeds) (subst (StepDeeds (h.stage.come client) step) (sym (deeds_marked section number t.deeds)) such) (subst (LooksSo h.stage.taps client step) (sym (deeds_marked section number t.deeds)) looked));
        stubs = far;
        posts = λ from to f s. h.posts from to (subst (λ (script : Script). IsCount script.n from) script f) (subst (λ (script : Script). IsCount script.n to) script s) ∙ ap (λ posts. post_at posts from to) (sym t.posts);
        taps = λ centre range. h.taps centre (subst (λ (script : Script). IsCount script.n centre) script range) ∙ ap (λ taps. taps_of taps centre) (sym t.taps);
      }

pub client_makes : (section number client : ℕ) (step : ClientStep) (old new : WorldView) → (1 ≤ client) × (client ≤ old.script.clients) → IsStep old.script.n step → TakesStep (record { actor = client + 1; section = section; step = number }) step old new → MakesMoves (move section number (client_does client step) ∷ []) old new
client_makes section number client step old new range fits t = record { script = t.acts.script; spent = t.acts.spent; goes_on = client_played section number client step old new range fits t }

-- ---- of an actor that is no client

-- what is done leaves taps that are the same as others at n centres so
abbrev TapsAs : ℕ → Does → List Deed → Type 0
TapsAs n does deeds = (one two : ℕ → TapState) → ((centre : ℕ) → IsCount n centre → one centre ≡ two centre) → (centre : ℕ) → IsCount n centre → taps_after does deeds one centre ≡ taps_after does deeds two centre

module _ (does : Does) (section number : ℕ) (old new : WorldView) (deeds : List Deed) (stubs : new.stubs ≡ old.stubs) (posts : HasPosts old.script.n does deeds old.posts new.posts) (taps : (centre : ℕ) → taps_of new.taps centre ≡ taps_after does deeds (taps_of old.taps) centre) (acts : Acts (turn_of old.script section number does) deeds old new) (quiet : (notes : List Note) (come : ℕ → Progress) (client : ℕ) → come_after does notes come client ≡ come client) (apart : (client : ℕ) (stub : StubView) → stub_at old.stubs client ≡ Some stub → actor_of old.script.clients does ≢ client + 1) (front : List Move) (h : HasPlayed front old) (such : DoesSo old.script.n h.stage number does deeds) (fed : TapsSo h.stage.taps does deeds) (stays : TapsAs old.script.n does deeds) where
  -- the turn
  abbrev its : Turn
  its = turn_of old.script section number does

  -- the moves with this one have been made
  pub other_played : HasPlayed (front ++ move section number does ∷ []) new
  other_played =
      let script : new.script ≡ old.script = acts.script in
      let world : IsWorld new (h.all ++ happening its.actor (notes_in its deeds)) = acts.goes_on h.all h.world in
      let back : map (λ (note : Note). note.deed) (notes_in its deeds) ≡ deeds = deeds_marked section number deeds in
      record {
        all = h.all ++ happening its.actor (notes_in its deeds);
        world = world;
        stage = stage_after does (notes_in its deeds) h.stage;
        played = subst (λ script. HavePlayed script (front ++ move section number does ∷ []) (h.all ++ happening its.actor (notes_in its deeds)) (stage_after does (notes_in its deeds) h.stage)) (sym script)
            (played_more old.script front h.all h.stage (move section number does) (notes_in its deeds) h.played (all_at section number deeds) (subst (DoesSo old.script.n h.stage number does) (sym back) such) (subst (TapsSo h.stage.taps does) (sym back) fed));
        stubs = λ client stub there.
            let before : stub_at old.stubs client ≡ Some stub = subst (λ stubs. stub_at stubs client ≡ Some stub) stubs there in
            let log = other_notes its deeds old new h.all h.world world (client + 1) (apart client stub before) in
            quiet (notes_in its deeds) h.stage.come client ∙ (h.stubs client stub before ∙ (λ i. record { client = stub.client; armed = stub.armed; notes = log i }));
        posts = λ from to f t.
            let one : IsCount old.script.n from = subst (λ (script : Script). IsCount script.n from) script f in
            let two : IsCount old.script.n to = subst (λ (script : Script). IsCount script.n to) script t in
            ap (λ ds. post_after does ds from to (h.stage.posts from to)) back
            ∙ (ap (post_after does deeds from to) (h.posts from to one two)
            ∙ sym (posts from to one two));
        taps = λ centre range.
            ap (λ ds. taps_after does ds h.stage.taps centre) back
            ∙ (stays h.stage.taps (taps_of old.taps) h.taps centre (subst (λ (script : Script). IsCount script.n centre) script range)
            ∙ sym (taps centre));
      }

-- ---- the operator's step

pub order_makes : (section number : ℕ) (step : OperatorStep) (old new : WorldView) → IsOperatorStep old.script.n step → TakesOrder (record { actor = 1; section = section; step = number }) step old new → MakesMoves (move section number (operator_does step) ∷ []) old new
order_makes section number step old new fits t = record {
  script = t.acts.script;
  spent = t.acts.spent;
  goes_on = λ front h. other_played (operator_does step) section number old new t.deeds t.stubs t.posts t.taps t.acts (λ notes come client. refl)
      (λ client stub there same. let low = (stub_got old.stubs client stub there).0 in omega (arith, same, low)) front h t.such
      (feeds_as old.script.n (taps_of old.taps) h.stage.taps step t.deeds (λ centre range. sym (h.taps centre range)) fits t.feeds)
      (taps_as old.script.n (feed_in step) t.deeds);
}

-- ---- a worker's round

-- a receiver delivers what is due from the others
receives_as : (n j : ℕ) (due given : ℕ → List (Arrival Sent)) (deeds : List Deed) → ((from : ℕ) → IsCount n from → due from ≡ given from) → ReceiverDeeds n j due deeds → ReceiverDeeds n j given deeds
receives_as n j due given deeds same are = go (others n j) deeds (λ from there. same from (others_within n j from there)) are
  where
    go : (froms : List ℕ) (deeds : List Deed) → ((from : ℕ) → In from froms → due from ≡ given from) → InTurn (λ from deeds. Brings (route from j) (due from) deeds) froms deeds → InTurn (λ from deeds. Brings (route from j) (given from) deeds) froms deeds
    go [] deeds each no_turn = no_turn
    go (from ∷ froms) deeds each (next_turn first later whole does rest) = next_turn first later whole (subst (λ items. Brings (route from j) items first) (each from (inl refl)) does) (go froms later (λ other there. each other (inr there)) rest)

-- what is due where the same lies on the links
does_as : (n number centre : ℕ) (work : Work) (one two : Stage) (deeds : List Deed) → IsCount n centre → ((from to : ℕ) → IsCount n from → IsCount n to → one.posts from to ≡ two.posts from to) → DoesSo n one number (work_of centre work) deeds → DoesSo n two number (work_of centre work) deeds
does_as n number centre (Round Sender) one two deeds range same are = are
does_as n number centre (Round Receiver) one two deeds range same are = receives_as n centre (λ from. due_in_round (one.posts from centre)) (λ from. due_in_round (two.posts from centre)) deeds (λ from there. ap due_in_round (same from centre there range)) are
does_as n number centre (Round Reporter) one two deeds range same are = are
does_as n number centre (Round Pruner) one two deeds range same are = are
does_as n number centre Close one two deeds range same are = receives_as n centre (λ from. due_at_close (one.posts from centre)) (λ from. due_at_close (two.posts from centre)) deeds (λ from there. ap due_at_close (same from centre there range)) are

-- no client comes further by it
work_quiet : (centre : ℕ) (work : Work) (notes : List Note) (come : ℕ → Progress) (client : ℕ) → come_after (work_of centre work) notes come client ≡ come client
work_quiet centre (Round role) notes come client = refl
work_quiet centre Close notes come client = refl

-- it feeds no tap, and looks through none
work_feeds : (centre : ℕ) (work : Work) (taps : ℕ → TapState) (deeds : List Deed) → TapsSo taps (work_of centre work) deeds
work_feeds centre (Round role) taps deeds = tt
work_feeds centre Close taps deeds = tt

-- and leaves the taps
work_feeds_none : (centre : ℕ) (work : Work) (deeds : List Deed) (taps : ℕ → TapState) (other : ℕ) → taps_after (work_of centre work) deeds taps other ≡ taps other
work_feeds_none centre (Round role) deeds taps other = refl
work_feeds_none centre Close deeds taps other = refl

pub round_makes : (section number centre : ℕ) (work : Work) (old new : WorldView) → IsCount old.script.n centre → TakesRound (turn_of old.script section number (work_of centre work)) (work_of centre work) old new → MakesMoves (move section number (work_of centre work) ∷ []) old new
round_makes section number centre work old new range t = record {
  script = t.acts.script;
  spent = t.acts.spent;
  goes_on = λ front h. other_played (work_of centre work) section number old new t.deeds t.stubs t.posts (λ other. ap (λ taps. taps_of taps other) t.taps ∙ sym (work_feeds_none centre work t.deeds (taps_of old.taps) other)) t.acts (work_quiet centre work)
      (λ client stub there same.
      let got = stub_got old.stubs client stub there in
      let within = slice_get_within old.stubs (client - 1) stub got.1 in
      let who = worker_range old.script.clients old.script.n centre work range in
      omega (arith, same, who.0, within, got.0, h.world.stub_count))
      front h (does_as old.script.n number centre work (stage_of old) h.stage t.deeds range (λ from to f s. sym (h.posts from to f s)) t.such) (work_feeds centre work h.stage.taps t.deeds)
      (λ one two same other range. work_feeds_none centre work t.deeds one other ∙ (same other range ∙ sym (work_feeds_none centre work t.deeds two other)));
}
