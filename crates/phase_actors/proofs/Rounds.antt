-- Rounds of workers and steps of the operator, one more.
use Rattle.std.proofs.Common.{◌≡◌, ℕ, ◌+◌, List, [], ◌∷◌, ◌++◌, length, refl, sym, ap, ◌∙◌, subst, append_assoc, arith}
use Rattle.std.specs.Prelude.{replicate}
use Rattle.std.specs.List.{range_with_len}
use Rattle.std.proofs.lemmas.List.{append-nil, map-append, map-id, replicate-append-replicate, length-replicate}
use Rattle.std.proofs.lemmas.List.Elements.{filter-append}
use Rattle.std.proofs.lemmas.List.FromFn.{map-range_with_len_more, length-range_with_len}
use Rattle.dc_talk.specs.declared.sent.Sent.{Sent}
use Rattle.dc_talk.specs.declared.log.Deed.{Deed}
use Rattle.dc_talk.specs.declared.log.Note.{Note}
use Rattle.dc_talk.specs.Logs.{Logged}
use Rattle.dc_talk.specs.Acting.{Acting, acting, Leaves}
use Rattle.mail_link.specs.Ends.{GiverView}
use Rattle.script_core.specs.declared.taps.Show.{Show}
use Rattle.script_core.specs.declared.taps.TapState.{TapState}
use Rattle.script_core.specs.declared.steps.OperatorStep.{OperatorStep}
use Rattle.script_core.specs.Orders.{OperatorDeeds}
use Rattle.script_core.specs.Taps.{feed_in, FeedsSo}
use Rattle.script_core.specs.Links.{arrivals, arrived}
use Rattle.script_core.specs.Carrying.{route, InTurn, no_turn, next_turn}
use Rattle.link_frames.specs.Frames.{is_deliverable, framed}
use Rattle.script_core.specs.Rounds.{SenderDeeds, ReceiverDeeds, ReporterDeeds, PrunerDeeds, others, Mails, mailed_from, mailed}
use Rattle.dc_worker.specs.Work.{AddsSuch, CarriesSuch}
use Rattle.script_core.proofs.Mailing.{IsFresh, mailed_then, mails_fresh}
use Rattle.dc_links.specs.Links.{put_to, inlet_from}
use Rattle.dc_links.specs.Rounds.{SendsOver, inward, ReceivesOver, DrainsOver}
use Rattle.run_book.proofs.Happenings.Playing.{all_at}
use Rattle.run_sections.proofs.Orders.{order_more}
use Rattle.run_sections.specs.Orders.{deeds_of, InOrder, none_left, SenderGoes, ReporterGoes, PrunerGoes, intake, Receipt, takes_some, ReceiverGoes}
use Rattle.run_sections.specs.Taps.{shows_fed}
use Rattle.run_table.specs.Taps.{taps_of}
use Rattle.read_tap.specs.Shows.{FeederView}
use Rattle.phase_actors.specs.Taps.{shows_kept, TakesOrder}
use Rattle.phase_actors.specs.Playing.{Plays}
use Rattle.phase_actors.specs.Workers.{OrderGoes, PlaysOperator, PlaysReporter, PlaysPruner, PlaysSender, PlaysReceiver, Closes, Sending, Receiving, intakes_of}
use Rattle.phase_actors.proofs.Growing.{acted_none, acted_more, log_at_step, marked_all, turn_deeds, plays_more}

-- ---- numbers and mail

-- one number more
range_more : (k : ℕ) → range_with_len 1 (k + 1) ≡ range_with_len 1 k ++ (k + 1) ∷ []
range_more k =
    let next : 1 + k ≡ k + 1 = omega arith in
    sym (map-id (range_with_len 1 (k + 1)))
    ∙ (map-range_with_len_more (λ (n : ℕ). n) 1 k (k + 1) next
    ∙ ap (λ xs. xs ++ (k + 1) ∷ []) (map-id (range_with_len 1 k)))

-- the step of the round behind so many
next_step : (k : ℕ) → k + 1 ≡ 1 + length (range_with_len 1 k)
next_step k = omega (arith, length-range_with_len 1 k)

-- a round of a sender begins with a report
sender_fresh : (i : ℕ) (tos : List ℕ) (deeds : List Deed) → InTurn (λ to deeds. (items : List Sent) × Mails (route i to) deeds items) tos deeds → IsFresh deeds
sender_fresh i [] deeds no_turn = record { last = λ last to. refl }
sender_fresh i (to ∷ tos) deeds (next_turn first later whole mails rest) =
    let after : IsFresh later = sender_fresh i tos later rest in
    let front : IsFresh first = mails_fresh (route i to) first mails.0 mails.1 in
    record {
      last = λ last j.
          ap (mailed_from last j) whole
          ∙ (mailed_then last j first later after
          ∙ (ap (λ xs. xs ++ mailed j later) (front.last last j)
          ∙ (sym (mailed_then 0 j first later after) ∙ ap (mailed j) (sym whole))));
    }

-- ---- workers that keep nothing in mind

-- a reporter's round more
pub reporter_more : (n i section before : ℕ) (a b c : Acting) (log : Logged) → log ≡ log_at_step section (before + 1) b.log → PlaysReporter n i section before a b → CarriesSuch (ReporterDeeds n i) (acting b.door log) c → PlaysReporter n i section (before + 1) a c
reporter_more n i section before a b c log is was round =
    let leaves : Leaves (acting b.door (log_at_step section (before + 1) b.log)) c round.deeds = subst (λ (log : Logged). Leaves (acting b.door log) c round.deeds) is round.adds.leaves in
    subst (λ rounds. Plays (ReporterGoes n i) section tt rounds a c tt) (sym (range_more before))
    (plays_more (ReporterGoes n i) section (before + 1) tt tt tt (range_with_len 1 before) (before + 1) a b c round.deeds (next_step before) was leaves
    (subst (ReporterDeeds n i) (sym (turn_deeds section (before + 1) round.deeds)) round.such))

-- a pruner's
pub pruner_more : (i section before : ℕ) (a b c : Acting) (log : Logged) → log ≡ log_at_step section (before + 1) b.log → PlaysPruner i section before a b → AddsSuch (PrunerDeeds i (before + 1)) (acting b.door log) c → PlaysPruner i section (before + 1) a c
pruner_more i section before a b c log is was round =
    let leaves : Leaves (acting b.door (log_at_step section (before + 1) b.log)) c round.deeds = subst (λ (log : Logged). Leaves (acting b.door log) c round.deeds) is round.adds.leaves in
    subst (λ rounds. Plays (PrunerGoes i) section tt rounds a c tt) (sym (range_more before))
    (plays_more (PrunerGoes i) section (before + 1) tt tt tt (range_with_len 1 before) (before + 1) a b c round.deeds (next_step before) was leaves
    (subst (PrunerDeeds i (before + 1)) (sym (turn_deeds section (before + 1) round.deeds)) round.such))

-- a step of the operator more
pub operator_more : (taps : List TapState) (n section number : ℕ) (first : ℕ → List Show) (feeders later : List FeederView) (steps : List OperatorStep) (step : OperatorStep) (a b c : Acting) (log : Logged) → number ≡ 1 + length steps → log ≡ log_at_step section number b.log → PlaysOperator taps n section first steps a b (shows_kept taps feeders) → TakesOrder taps n step feeders later (acting b.door log) c → PlaysOperator taps n section first (steps ++ step ∷ []) a c (shows_kept taps later)
operator_more taps n section number first feeders later steps step a b c log next is was order =
    let leaves : Leaves (acting b.door (log_at_step section number b.log)) c order.deeds = subst (λ (log : Logged). Leaves (acting b.door log) c order.deeds) is order.leaves in
    let back : deeds_of (marked_all section number order.deeds) ≡ order.deeds = turn_deeds section number order.deeds in
    plays_more (OrderGoes taps n) section number first (shows_kept taps feeders) (shows_kept taps later) steps step a b c order.deeds next was leaves
    (record {
      orders = subst (OperatorDeeds n step) (sym back) order.such;
      feeds = (
        subst (FeedsSo (taps_of taps) step) (sym back) order.feeds,
        λ centre. subst (λ deeds. shows_kept taps later centre ≡ shows_fed (feed_in step) deeds (shows_kept taps feeders) centre) (sym back) (order.shows centre),
      );
    })

-- ---- a sender

-- no round yet
pub sender_none : (n i section : ℕ) (a : Sending) → PlaysSender n i section 0 a a
sender_none n i section a = record {
  plays = record { mine = []; acted = acted_none a.acting; order = none_left };
  puts = λ to range other. sym (append-nil (put_to a.givers to));
}

-- one more
pub sender_more : (n i section before : ℕ) (a b c : Sending) (log : Logged) → log ≡ log_at_step section (before + 1) b.acting.log → PlaysSender n i section before a b → SendsOver n i b.givers c.givers (acting b.acting.door log) c.acting → PlaysSender n i section (before + 1) a c
sender_more n i section before a b c log is was round =
    let leaves : Leaves (acting b.acting.door (log_at_step section (before + 1) b.acting.log)) c.acting round.deeds = subst (λ (log : Logged). Leaves (acting b.acting.door log) c.acting round.deeds) is round.adds.leaves in
    let mine : List Note = was.plays.mine ++ marked_all section (before + 1) round.deeds in
    let deeds : deeds_of mine ≡ deeds_of was.plays.mine ++ round.deeds = map-append (λ (note : Note). note.deed) was.plays.mine (marked_all section (before + 1) round.deeds) ∙ ap (λ ds. deeds_of was.plays.mine ++ ds) (turn_deeds section (before + 1) round.deeds) in
    record {
      plays = record {
        mine = mine;
        acted = acted_more section (before + 1) a.acting b.acting c.acting was.plays.mine round.deeds was.plays.acted leaves;
        order = subst (λ rounds. InOrder (SenderGoes n i) section 1 tt rounds mine tt) (sym (range_more before))
            (order_more (SenderGoes n i) section 1 (before + 1) tt tt tt (range_with_len 1 before) (before + 1) was.plays.mine (marked_all section (before + 1) round.deeds) (next_step before) was.plays.order (all_at section (before + 1) round.deeds)
            (subst (SenderDeeds n i) (sym (turn_deeds section (before + 1) round.deeds)) round.such));
      };
      puts = λ to range other.
          let all : framed (mailed to (deeds_of mine)) ≡ framed (mailed to (deeds_of was.plays.mine)) ++ framed (mailed to round.deeds) =
          ap (λ deeds. framed (mailed to deeds)) deeds
          ∙ (ap framed (mailed_then 0 to (deeds_of was.plays.mine) round.deeds (sender_fresh i (others n i) round.deeds round.such))
          ∙ filter-append is_deliverable (mailed to (deeds_of was.plays.mine)) (mailed to round.deeds)) in
          round.put to range.0
          ∙ (ap (λ xs. xs ++ framed (mailed to round.deeds)) (was.puts to range other)
          ∙ (append_assoc (put_to a.givers to) (framed (mailed to (deeds_of was.plays.mine))) (framed (mailed to round.deeds))
          ∙ ap (λ xs. put_to a.givers to ++ xs) (sym all)));
    }

-- ---- a receiver

-- it has made rounds, after which its ends are these
abbrev pub HasMadeRounds : ℕ → ℕ → ℕ → List Receipt → Receiving → Receiving → Type 0
HasMadeRounds n i section receipts old new = Plays (ReceiverGoes n i) section (intakes_of old) receipts old.acting new.acting (intakes_of new)

-- so it has played
pub receiver_played : (n i section : ℕ) (receipts : List Receipt) (a b : Receiving) → HasMadeRounds n i section receipts a b → PlaysReceiver n i section receipts a b
receiver_played n i section receipts a b made = record { last = intakes_of b; plays = made; ends = λ from range other. refl }

-- a round of it, while more may come
goes_some : (n i section step : ℕ) (b c : Receiving) (log : Logged) (round : ReceivesOver n i (inward b.takers b.inlets) (inward c.takers c.inlets) (acting b.acting.door log) c.acting) → ReceiverGoes n i (intakes_of b) step takes_some (marked_all section step round.takes.deeds) (intakes_of c)
goes_some n i section step b c log round = record {
  items = round.takes.items;
  may = λ from range other. round.few from;
  delivers = subst (ReceiverDeeds n i (λ from. arrived (inlet_from b.inlets from) (round.takes.items from))) (sym (turn_deeds section step round.takes.deeds)) round.takes.such;
  then_is = λ from range other. λ j. intake (round.takes.inlets from (range, other) j) (round.takes.taken from range.0 j);
}

-- one more
pub receiver_more : (n i section before : ℕ) (a b c : Receiving) (log : Logged) → log ≡ log_at_step section (before + 1) b.acting.log → HasMadeRounds n i section (replicate before takes_some) a b → ReceivesOver n i (inward b.takers b.inlets) (inward c.takers c.inlets) (acting b.acting.door log) c.acting → HasMadeRounds n i section (replicate (before + 1) takes_some) a c
receiver_more n i section before a b c log is was round =
    let leaves : Leaves (acting b.acting.door (log_at_step section (before + 1) b.acting.log)) c.acting round.takes.deeds = subst (λ (log : Logged). Leaves (acting b.acting.door log) c.acting round.takes.deeds) is round.takes.adds.leaves in
    let next : before + 1 ≡ 1 + length (replicate before takes_some) = omega (arith, length-replicate before takes_some) in
    subst (λ receipts. HasMadeRounds n i section receipts a c) (replicate-append-replicate before 1 takes_some)
    (plays_more (ReceiverGoes n i) section (before + 1) (intakes_of a) (intakes_of b) (intakes_of c) (replicate before takes_some) takes_some a.acting b.acting c.acting round.takes.deeds next was leaves
    (goes_some n i section (before + 1) b c log round))

-- the closing round
pub closes_over : (n i section step : ℕ) (givers : List (List (GiverView Sent))) (a c : Receiving) (log : Logged) → log ≡ log_at_step section step a.acting.log → DrainsOver n i givers (inward a.takers a.inlets) (inward c.takers c.inlets) (acting a.acting.door log) c.acting → Closes n i section step givers a c
closes_over n i section step givers a c log is round =
    let leaves : Leaves (acting a.acting.door (log_at_step section step a.acting.log)) c.acting round.takes.deeds = subst (λ (log : Logged). Leaves (acting a.acting.door log) c.acting round.takes.deeds) is round.takes.adds.leaves in
    record {
      mine = marked_all section step round.takes.deeds;
      acted = acted_more section step a.acting a.acting c.acting [] round.takes.deeds (acted_none a.acting) leaves;
      at = all_at section step round.takes.deeds;
      goes = record {
        items = round.takes.items;
        may = λ from range other. tt;
        delivers = subst (ReceiverDeeds n i (λ from. arrivals (inlet_from a.inlets from) (round.takes.items from))) (sym (turn_deeds section step round.takes.deeds)) round.takes.such;
        then_is = λ from range other. λ j. intake (round.takes.inlets from (range, other) j) (round.takes.taken from range.0 j);
      };
      all = λ from range other. round.all from (range, other);
    }
