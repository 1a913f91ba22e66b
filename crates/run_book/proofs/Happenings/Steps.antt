-- One move more, of a client, the operator or a worker, behind what happened before it.
use Rattle.std.proofs.Common.{◌≡◌, ℕ, ◌+◌, ◌≤◌, List, [], ◌∷◌, ◌++◌, map, sym, ap, ◌∙◌, subst}
use Rattle.std.specs.Prelude.{All}
use Rattle.list_core.specs.Members.{In}
use Rattle.dc_talk.specs.declared.sent.Sent.{Sent}
use Rattle.dc_talk.specs.declared.log.Deed.{Deed}
use Rattle.dc_talk.specs.declared.log.Note.{Note}
use Rattle.dc_talk.specs.Logs.{marked, entries_made}
use Rattle.dc_talk.specs.Clients.{Client}
use Rattle.dc_talk.specs.Rule.{client_after}
use Rattle.script_core.specs.declared.script.Script.{Script}
use Rattle.script_core.specs.declared.steps.ClientStep.{ClientStep}
use Rattle.script_core.specs.declared.steps.OperatorStep.{OperatorStep}
use Rattle.script_core.specs.declared.rounds.Role.{Role}
use Rattle.script_core.specs.declared.rounds.Role.TheVariants.{Sender, Receiver, Reporter, Pruner}
use Rattle.script_core.specs.Steps.{IsCount, IsStep, IsOperatorStep}
use Rattle.script_core.specs.Mail.{due_in_round, due_at_close}
use Rattle.script_core.specs.Rounds.{worker_of, mailed}
use Rattle.script_core.specs.Provenance.{CarriesAll, WasSent as WasBrought}
use Rattle.script_core.specs.Deeds.{StepDeeds}
use Rattle.script_core.specs.Orders.{OperatorDeeds}
use Rattle.script_core.specs.Taps.{LooksSo, FeedsSo}
use Rattle.script_core.proofs.Arriving.{due_lies, close_lies}
use Rattle.run_book.specs.Setups.{setup_of}
use Rattle.run_book.specs.Happenings.{Happened, notes_by, trail_in, trails_in, happening, GoesToOneOf, IsLinkWithin, ClientDoes, CarrierDoes, IsCarrier, AreHistories, AreTogether}
use Rattle.run_book.specs.Moves.{Does, client_does, operator_does, worker_does, closes, Move, move, actor_of}
use Rattle.run_book.specs.Played.{Stage, DoesSo, TapsSo, posts_after, stage_after, HavePlayed}
use Rattle.run_book.proofs.Happenings.Entries.{trail_then, deeds_marked}
use Rattle.run_book.proofs.Happenings.More.{client_then, carrier_then, operator_carries}
use Rattle.run_book.proofs.Happenings.Reach.{step_go, link_within}
use Rattle.run_book.proofs.Happenings.OperatorSteps.{order_go, order_does}
use Rattle.run_book.proofs.Happenings.Carrying.{deeds_do}
use Rattle.run_book.proofs.Happenings.WorkerRounds.{worker_carries, sender_go, receiver_go, reporter_go, pruner_go, receiver_does}
use Rattle.run_book.proofs.Happenings.Posts.{AreSent, posts_sent}
use Rattle.run_book.proofs.Happenings.Playing.{all_at, played_more}

-- the trail of a centre after deeds of an actor that it noted at a section and step
pub trail_marked : (actor i section step : ℕ) (all : List Happened) (deeds : List Deed) → trail_in i (all ++ happening actor (map (marked section step) deeds)) ≡ trail_in i all ++ entries_made actor i deeds
trail_marked actor i section step all deeds = trail_then actor i all (map (marked section step) deeds) ∙ ap (λ ds. trail_in i all ++ entries_made actor i ds) (deeds_marked section step deeds)

module _ (script : Script) (moves : List Move) (all : List Happened) (stage : Stage) (t : AreTogether script.n script.k (setup_of script) all) (h : HavePlayed script moves all stage) (section step : ℕ) where
  -- what happened when the deeds of a move were noted in this section and step
  abbrev pub happened_then : Does → List Deed → List Happened
  happened_then does deeds = all ++ happening (actor_of script.clients does) (map (marked section step) deeds)

  -- it happened together with the rest, and the move was played
  pub record IsMade (does : Does) (deeds : List Deed) : Type 0 where
    pub together : AreTogether script.n script.k (setup_of script) (happened_then does deeds)
    pub played : HavePlayed script (moves ++ move section step does ∷ []) (happened_then does deeds) (stage_after does (map (marked section step) deeds) stage)

  -- the move was played
  pub move_played : (does : Does) (deeds : List Deed) → DoesSo script.n stage step does deeds → TapsSo stage.taps does deeds → HavePlayed script (moves ++ move section step does ∷ []) (happened_then does deeds) (stage_after does (map (marked section step) deeds) stage)
  move_played does deeds are taps = played_more script moves all stage (move section step does) (map (marked section step) deeds) h (all_at section step deeds) (subst (DoesSo script.n stage step does) (sym (deeds_marked section step deeds)) are) (subst (TapsSo stage.taps does) (sym (deeds_marked section step deeds)) taps)

  -- a client that is as its log says took its step
  pub client_takes : (client : ℕ) (does : ClientStep) (deeds : List Deed) → (1 ≤ client) × (client ≤ script.clients) → (stage.come client).client ≡ client_after script.n client script.cache (notes_by (client + 1) all) → (stage.come client).notes ≡ notes_by (client + 1) all → IsStep script.n does → StepDeeds (stage.come client) does deeds → LooksSo stage.taps client does deeds → ClientDoes (stage.come client).client (stage.come client).notes (map (marked section step) deeds) → AreHistories script.n script.k (setup_of script) (happened_then (client_does client does) deeds) → IsMade (client_does client does) deeds
  client_takes client does deeds range state notes is are looks allowed histories =
      let mine : List Note = map (marked section step) deeds in
      let back : map (λ (note : Note). note.deed) mine ≡ deeds = deeds_marked section step deeds in
      let within : IsLinkWithin script.n (stage.come client).client.link = subst (λ (s : Client). IsLinkWithin script.n s.link) (sym state) (link_within script.n script.k (setup_of script) all t client (client + 1)) in
      let go : All (GoesToOneOf script.n) (map (λ (note : Note). note.deed) mine) = subst (All (GoesToOneOf script.n)) (sym back) (step_go script.n (stage.come client) does deeds is within are) in
      let may : ClientDoes (client_after script.n client script.cache (notes_by (client + 1) all)) (notes_by (client + 1) all) mine = subst (λ s. ClientDoes s (notes_by (client + 1) all) mine) state (subst (λ ns. ClientDoes (stage.come client).client ns mine) notes allowed) in
      record {
        together = client_then script.n script.k (setup_of script) client all mine range t histories go may;
        played = move_played (client_does client does) deeds are looks;
      }

  -- a carrier made its move
  carrier_takes : (does : Does) (deeds : List Deed) → IsCarrier script.n script.clients (actor_of script.clients does) → DoesSo script.n stage step does deeds → TapsSo stage.taps does deeds → All (GoesToOneOf script.n) deeds → CarrierDoes (actor_of script.clients does) (trails_in all) (map (marked section step) deeds) → AreHistories script.n script.k (setup_of script) (happened_then does deeds) → IsMade does deeds
  carrier_takes does deeds carrier are taps go allowed histories = record {
    together = carrier_then script.n script.k (setup_of script) (actor_of script.clients does) all (map (marked section step) deeds) carrier t histories (subst (All (GoesToOneOf script.n)) (sym (deeds_marked section step deeds)) go) allowed;
    played = move_played does deeds are taps;
  }

  -- the operator took its step
  pub operator_takes : (does : OperatorStep) (deeds : List Deed) → IsOperatorStep script.n does → OperatorDeeds script.n does deeds → FeedsSo stage.taps does deeds → AreHistories script.n script.k (setup_of script) (happened_then (operator_does does) deeds) → IsMade (operator_does does) deeds
  operator_takes does deeds is are feeds histories =
      carrier_takes (operator_does does) deeds (operator_carries script.n script.clients) are feeds (order_go script.n does deeds is are)
      (order_does script.n script.k (setup_of script) all does section step deeds t histories is are) histories

  -- the deeds of a worker's round go to centres that there are
  round_go : (i : ℕ) (role : Role) (deeds : List Deed) → IsCount script.n i → DoesSo script.n stage step (worker_does i role) deeds → All (GoesToOneOf script.n) deeds
  round_go i Sender deeds range are = sender_go script.n i deeds range are
  round_go i Receiver deeds range are = receiver_go script.n i (λ from. due_in_round (stage.posts from i)) deeds range are
  round_go i Reporter deeds range are = reporter_go script.n i deeds range are
  round_go i Pruner deeds range are = pruner_go script.n i step deeds range are

  -- a sender, a reporter or a pruner made its round: what it carries it brought itself
  pub worker_takes : (i : ℕ) (role : Role) (deeds : List Deed) → IsCount script.n i → DoesSo script.n stage step (worker_does i role) deeds → CarriesAll [] deeds → AreHistories script.n script.k (setup_of script) (happened_then (worker_does i role) deeds) → IsMade (worker_does i role) deeds
  worker_takes i role deeds range are carries histories =
      let carrier = worker_carries script.n script.clients i role range in
      let go = round_go i role deeds range are in
      carrier_takes (worker_does i role) deeds carrier are tt go
      (deeds_do script.n script.k (setup_of script) (worker_of script.clients i role) carrier all section step deeds t histories go carries) histories

  -- a receiver made its round: what lay on its links was sent
  pub receiver_takes : (i : ℕ) (deeds : List Deed) → IsCount script.n i → DoesSo script.n stage step (worker_does i Receiver) deeds → AreSent script.n stage.posts all → AreHistories script.n script.k (setup_of script) (happened_then (worker_does i Receiver) deeds) → IsMade (worker_does i Receiver) deeds
  receiver_takes i deeds range are sent histories =
      carrier_takes (worker_does i Receiver) deeds (worker_carries script.n script.clients i Receiver range) are tt (round_go i Receiver deeds range are)
      (receiver_does (worker_of script.clients i Receiver) script.n i section step (λ from. due_in_round (stage.posts from i)) deeds (trails_in all) (λ from other item due. sent from i other range item (due_lies (stage.posts from i) item due)) are) histories

  -- a receiver made its closing round
  pub closing_takes : (i : ℕ) (deeds : List Deed) → IsCount script.n i → DoesSo script.n stage step (closes i) deeds → AreSent script.n stage.posts all → AreHistories script.n script.k (setup_of script) (happened_then (closes i) deeds) → IsMade (closes i) deeds
  closing_takes i deeds range are sent histories =
      carrier_takes (closes i) deeds (worker_carries script.n script.clients i Receiver range) are tt (receiver_go script.n i (λ from. due_at_close (stage.posts from i)) deeds range are)
      (receiver_does (worker_of script.clients i Receiver) script.n i section step (λ from. due_at_close (stage.posts from i)) deeds (trails_in all) (λ from other item due. sent from i other range item (close_lies (stage.posts from i) item due)) are) histories

  -- after a move that was made each record that lies on a link was sent, where the deeds brought what they put there
  pub made_sent : (does : Does) (deeds : List Deed) → IsMade does deeds → ((to : ℕ) (item : Sent) → In item (mailed to deeds) → WasBrought deeds item) → AreSent script.n stage.posts all → AreSent script.n (stage_after does (map (marked section step) deeds) stage).posts (happened_then does deeds)
  made_sent does deeds made brought sent =
      let noted : map (λ (note : Note). note.deed) (map (marked section step) deeds) ≡ deeds = deeds_marked section step deeds in
      subst (λ ds. AreSent script.n (posts_after does ds stage.posts) (happened_then does deeds)) (sym noted)
      (posts_sent script.n script.k (setup_of script) does all (actor_of script.clients does) section step deeds stage.posts made.together brought sent)
