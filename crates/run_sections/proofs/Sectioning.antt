-- Notes and trails that belong together do so with what a section left behind them.
use Rattle.std.proofs.Common.{◌≡◌, ◌≢◌, ℕ, ◌+◌, inl, ⊎_elim, Bool, true, false, cond, fold, List, [], ◌∷◌, ◌++◌, replicate, refl, sym, ap, ◌∙◌, subst}
use Rattle.std.proofs.lemmas.List.Sums.{fold-append}
use Rattle.std.proofs.lemmas.List.Elements.{filter_map-append}
use Rattle.list_core.specs.Members.{In}
use Rattle.list_core.proofs.Members.{In_either, In_right, In_map, In_from_map}
use Rattle.list_core.proofs.Moments.{each_none}
use Rattle.dc_talk.specs.declared.sent.Sent.{Sent}
use Rattle.dc_talk.specs.declared.say.Say.{Say}
use Rattle.dc_talk.specs.declared.log.Note.{Note}
use Rattle.dc_talk.specs.Clients.{Client, new_client}
use Rattle.dc_talk.specs.Entries.{Entry}
use Rattle.dc_talk.specs.Logs.{exchanged_in}
use Rattle.dc_talk.specs.Answers.{History}
use Rattle.dc_talk.specs.Rule.{after}
use Rattle.script_core.specs.declared.script.Script.{Script}
use Rattle.script_core.specs.declared.steps.Section.{Section}
use Rattle.script_core.specs.declared.rounds.Role.{Role}
use Rattle.script_core.specs.declared.rounds.Role.TheVariants.{Sender, Receiver, Reporter, Pruner}
use Rattle.script_core.specs.Links.{Inlet, wholes}
use Rattle.script_core.specs.Rows.{IsSection}
use Rattle.script_core.specs.Rounds.{worker_of}
use Rattle.script_core.specs.Scripts.{header_of}
use Rattle.script_core.specs.Steps.{IsCount}
use Rattle.script_core.proofs.Mailing.{mailed_sent}
use Rattle.script_core.proofs.RoundDeeds.{sender_carries, reporter_carries, pruner_carries}
use Rattle.run_book.specs.Setups.{setup_of, settings_among}
use Rattle.run_book.specs.Parts.{exchanged, entries_by}
use Rattle.run_book.specs.Happenings.{GoesToOneOf, HasAnswer, WasSent, CarrierAllows, ClientDoes, IsCarrier}
use Rattle.run_book.specs.Moves.{operator_steps}
use Rattle.run_book.proofs.Pairing.{entry_by}
use Rattle.run_book.proofs.Happenings.OperatorSteps.{order_carries}
use Rattle.run_book.proofs.Happenings.Sending.{answer_still}
use Rattle.run_book.proofs.Happenings.WorkerRounds.{worker_carries}
use Rattle.run_sections.specs.Apart.{AreApart, StandsAt, notes_then, trails_then}
use Rattle.run_sections.specs.Orders.{deeds_of, InOrder, none_left, OperatorGoes, SenderGoes, ReceiverGoes, ReporterGoes, PrunerGoes, Intake, takes_some, takes_rest}
use Rattle.run_sections.specs.Sections.{actors_of, Between, first_between, Left, PlaysSection, rounds_in, mail_left}
use Rattle.run_sections.proofs.Actors.{by_actor, carrier_acts, client_carries_none}
use Rattle.run_sections.proofs.Carried.{AreExchanged, allows_more, brought_sent, order_allowed}
use Rattle.run_sections.proofs.InTurn.{client_comes, follows_on}
use Rattle.run_sections.proofs.Reaching.{left_reaches}
use Rattle.run_sections.proofs.Receiving.{receiver_allowed, closed_then, linked_held}

-- ---- before the first section

-- no notes and no entries belong together
pub none_apart : (script : Script) → AreApart script (λ a. []) (λ i. [])
none_apart script = record {
  histories = λ i centre. each_none _;
  outside = λ i none. refl;
  callers = λ i entry centre there. absurd there;
  paired = λ i a centre actor. refl;
  reach = λ a note actor there. absurd there;
  clients = λ client range. each_none _;
  carriers = λ a note carrier there. absurd there;
}

-- each client is as it is at first
pub none_stands : (script : Script) → StandsAt script (λ a. []) (first_between script)
none_stands script = record { clients = λ client range. refl; own = λ client range. refl; none_held = λ from to range other apart. refl }

-- ---- behind a section

module _ (script : Script) (number : ℕ) (section : Section) (old : Between) (left : Left) (new : Between) (notes : ℕ → List Note) (trails : ℕ → List Entry) (sound : IsSection (header_of script) section) (apart : AreApart script notes trails) (stands : StandsAt script notes old) (plays : PlaysSection script number section old left new) where
  -- the links to centre j hold no item, neither at first nor behind the section
  starts_bare : (j from : ℕ) → (range : IsCount script.n j) → IsCount script.n from → from ≢ j → ((plays.receivers j range).first from).inlet.held ≡ []
  starts_bare j from range there other =
      ap (λ (now : Intake). now.inlet.held) ((plays.receivers j range).begins from there other)
      ∙ (linked_held (operator_steps section) from j (old.inlets from j) ∙ stands.none_held from j there range other)

  ends_bare : (j from : ℕ) → IsCount script.n j → IsCount script.n from → from ≢ j → (new.inlets from j).held ≡ []
  ends_bare j from range there other =
      let r = plays.receivers j range in
      ap (λ (inlet : Inlet Sent). inlet.held) (r.inlets from there other)
      ∙ go section.phase (left.notes (worker_of script.clients j Receiver)) r.first r.last (starts_bare j from range there other) r.order
    where
      go : (phase : Bool) (mine : List Note) (first last : ℕ → Intake) → (first from).inlet.held ≡ [] → InOrder (ReceiverGoes script.n j) number 1 first (cond phase (replicate script.rounds takes_some ++ takes_rest ∷ []) []) mine last → (last from).inlet.held ≡ []
      go true mine first last bare order = closed_then script.n j number 1 first last (replicate script.rounds takes_some) mine from there other order
      go false mine first last bare none_left = bare

  module _ (histories : (i : ℕ) → IsCount script.n i → History (settings_among script.n script.k (setup_of script) i) (trails_then trails left i)) where
    -- the entries are what the notes exchanged
    paired_then : (i a : ℕ) → IsCount script.n i → IsCount (actors_of script) a → entries_by a (trails_then trails left i) ≡ exchanged i (notes_then notes left a)
    paired_then i a centre actor =
        filter_map-append (entry_by a) (trails i) (left.entries i)
        ∙ (ap (λ pairs. pairs ++ entries_by a (left.entries i)) (apart.paired i a centre actor)
        ∙ (ap (λ pairs. exchanged i (notes a) ++ pairs) (plays.paired i a centre actor)
        ∙ sym (filter_map-append (λ (note : Note). exchanged_in i note.deed) (notes a) (left.notes a))))

    -- the asks go to centres that there are
    reach_then : (a : ℕ) (note : Note) → IsCount (actors_of script) a → In note (notes_then notes left a) → GoesToOneOf script.n note.deed
    reach_then a note actor there = ⊎_elim
        (λ before. apart.reach a note actor before)
        (λ new'. left_reaches script number section old left new notes trails sound apart stands plays a actor note new')
        (In_either (notes a) (left.notes a) note there)

    are_exchanged : AreExchanged script (notes_then notes left) (trails_then trails left)
    are_exchanged = record { histories = histories; paired = paired_then; reach = reach_then }

    -- what an actor does in the section a carrier may do
    abbrev AllowsLeft : ℕ → Type 0
    AllowsLeft a = (note : Note) → In note (left.notes a) → CarrierAllows (trails_then trails left) note.deed

    -- what it left is among its notes
    left_among : (a : ℕ) (note : Note) → In note (left.notes a) → In note (notes_then notes left a)
    left_among a note there = In_right (notes a) (left.notes a) note there

    operator_allowed : AllowsLeft 1
    operator_allowed = order_allowed script (notes_then notes left) (trails_then trails left) are_exchanged (OperatorGoes script.n) number 1 tt tt (operator_steps section) (left.notes 1) 1
        (carrier_acts script 1 (record { who = inl refl })) (left_among 1) (λ s next step m mine does. order_carries script.n m (deeds_of mine) does) plays.operator

    -- what a sender put on a link was sent
    mail_sent : (from j : ℕ) (item : Sent) → IsCount script.n from → In item (mail_left script left from j) → WasSent (trails_then trails left) item
    mail_sent from j item range there =
        let a : ℕ = worker_of script.clients from Sender in
        brought_sent script (notes_then notes left) (trails_then trails left) are_exchanged a (carrier_acts script a (worker_carries script.n script.clients from Sender range)) (deeds_of (left.notes a))
        (λ deed among.
        let note = In_from_map (λ (note : Note). note.deed) (left.notes a) deed among in
        subst (λ deed. In deed (deeds_of (notes_then notes left a))) (sym note.2) (In_map (λ (note : Note). note.deed) (notes_then notes left a) note.0 (left_among a note.0 note.1)))
        item (mailed_sent j (deeds_of (left.notes a)) item there)

    -- a receiver delivers what was sent
    receiver_may : (j : ℕ) → IsCount script.n j → AllowsLeft (worker_of script.clients j Receiver)
    receiver_may j range =
        let r = plays.receivers j range in
        go section.phase (left.notes (worker_of script.clients j Receiver)) r.first r.last (λ from there other. starts_bare j from range there other) (λ from there other phase. r.all from there other phase) r.order
      where
        go : (phase : Bool) (mine : List Note) (first last : ℕ → Intake) → ((from : ℕ) → IsCount script.n from → from ≢ j → (first from).inlet.held ≡ []) → ((from : ℕ) → IsCount script.n from → from ≢ j → phase ≡ true → (last from).taken ≡ mail_left script left from j) → InOrder (ReceiverGoes script.n j) number 1 first (cond phase (replicate script.rounds takes_some ++ takes_rest ∷ []) []) mine last → (note : Note) → In note mine → CarrierAllows (trails_then trails left) note.deed
        go true mine first last bare all order note there = receiver_allowed script.n j number (trails_then trails left) 1 first last (replicate script.rounds takes_some ++ takes_rest ∷ []) mine
            (λ from centre other item taken. mail_sent from j item centre (subst (In item) (all from centre other refl) taken))
            (λ from centre other item held. absurd (subst (λ all. In item (wholes all)) (bare from centre other) held)) order note there
        go false mine first last bare all none_left note there = absurd there

    -- what a worker does a carrier may do
    worker_may : (i : ℕ) (role : Role) → IsCount script.n i → AllowsLeft (worker_of script.clients i role)
    worker_may i Sender range =
        let a : ℕ = worker_of script.clients i Sender in
        order_allowed script (notes_then notes left) (trails_then trails left) are_exchanged (SenderGoes script.n i) number 1 tt tt (rounds_in script section) (left.notes a) a
        (carrier_acts script a (worker_carries script.n script.clients i Sender range)) (left_among a) (λ s next step m mine does. sender_carries script.n i (deeds_of mine) does) (plays.senders i range)
    worker_may i Receiver range = receiver_may i range
    worker_may i Reporter range =
        let a : ℕ = worker_of script.clients i Reporter in
        order_allowed script (notes_then notes left) (trails_then trails left) are_exchanged (ReporterGoes script.n i) number 1 tt tt (rounds_in script section) (left.notes a) a
        (carrier_acts script a (worker_carries script.n script.clients i Reporter range)) (left_among a) (λ s next step m mine does. reporter_carries script.n i (deeds_of mine) does) (plays.reporters i range)
    worker_may i Pruner range =
        let a : ℕ = worker_of script.clients i Pruner in
        order_allowed script (notes_then notes left) (trails_then trails left) are_exchanged (PrunerGoes i) number 1 tt tt (rounds_in script section) (left.notes a) a
        (carrier_acts script a (worker_carries script.n script.clients i Pruner range)) (left_among a) (λ s next step m mine does. pruner_carries i m (deeds_of mine) does) (plays.pruners i range)

    -- so does each carrier
    left_allowed : (a : ℕ) → IsCarrier script.n script.clients a → AllowsLeft a
    left_allowed a carrier = by_actor script (λ a. IsCarrier script.n script.clients a → AllowsLeft a)
        (λ operator. operator_allowed)
        (λ client range none. absurd (client_carries_none script client range none))
        (λ i role range worker. worker_may i role range)
        a (carrier_acts script a carrier) carrier

    -- what was answered still is
    answered_still : (i : ℕ) (say : Say) → HasAnswer (trails i) say → HasAnswer (trails_then trails left i) say
    answered_still i say has = answer_still (trails i) (left.entries i) say has

    -- so what was noted belongs together with the rest
    pub apart_then : ((i : ℕ) → (IsCount script.n i → ⊥) → left.entries i ≡ []) → ((client : ℕ) → IsCount script.clients client → ClientDoes (old.come client).client (notes (client + 1)) (left.notes (client + 1))) → AreApart script (notes_then notes left) (trails_then trails left)
    apart_then outside does = record {
      histories = histories;
      outside = λ i none. ap (λ entries. entries ++ left.entries i) (apart.outside i none) ∙ outside i none;
      callers = λ i entry centre there. ⊎_elim (λ before. apart.callers i entry centre before) (λ later. plays.callers i entry centre later) (In_either (trails i) (left.entries i) entry there);
      paired = paired_then;
      reach = reach_then;
      clients = λ client range. follows_on script.n client script.cache (notes (client + 1)) (left.notes (client + 1)) (old.come client).client (stands.clients client range) (apart.clients client range) (does client range);
      carriers = λ a note carrier there. ⊎_elim
          (λ before. allows_more trails (trails_then trails left) answered_still note.deed (apart.carriers a note carrier before))
          (λ later. left_allowed a carrier note later)
          (In_either (notes a) (left.notes a) note there);
    }

  -- and the section ends where these notes were made
  pub stands_then : StandsAt script (notes_then notes left) new
  stands_then = record {
    clients = λ client range.
        (client_comes number 1 (old.come client) (new.come client) _ (left.notes (client + 1)) (plays.clients client range)).0
        ∙ (ap (λ s. fold (λ s (note : Note). after s note.deed) s (left.notes (client + 1))) (stands.clients client range)
        ∙ sym (fold-append (λ (s : Client) (note : Note). after s note.deed) (new_client script.n client script.cache) (notes (client + 1)) (left.notes (client + 1))));
    own = λ client range.
        (client_comes number 1 (old.come client) (new.come client) _ (left.notes (client + 1)) (plays.clients client range)).1
        ∙ ap (λ ns. ns ++ left.notes (client + 1)) (stands.own client range);
    none_held = λ from to there range other. ends_bare to from range there other;
  }

-- a section leaves notes and trails that belong together with those before it
pub section_apart : (script : Script) (number : ℕ) (section : Section) (old : Between) (left : Left) (new : Between) (notes : ℕ → List Note) (trails : ℕ → List Entry) → IsSection (header_of script) section → AreApart script notes trails → StandsAt script notes old → PlaysSection script number section old left new → ((i : ℕ) → IsCount script.n i → History (settings_among script.n script.k (setup_of script) i) (trails_then trails left i)) → ((i : ℕ) → (IsCount script.n i → ⊥) → left.entries i ≡ []) → ((client : ℕ) → IsCount script.clients client → ClientDoes (old.come client).client (notes (client + 1)) (left.notes (client + 1))) → AreApart script (notes_then notes left) (trails_then trails left) × StandsAt script (notes_then notes left) new
section_apart script number section old left new notes trails sound apart stands plays histories outside does = (
  apart_then script number section old left new notes trails sound apart stands plays histories outside does,
  stands_then script number section old left new notes trails sound apart stands plays,
)
