-- The book of notes and trails that belong together fits.
use Rattle.std.proofs.Common.{◌≡◌, ℕ, zero, suc, ◌+◌, ◌-◌, ◌≤◌, ◌<◌, ⊎_elim, List, [], take, Some, refl, sym, ap, ◌∙◌, subst, arith}
use Rattle.std.specs.Prelude.{slice_get}
use Rattle.std.proofs.lemmas.Bool.{cases_lt}
use Rattle.std.proofs.lemmas.List.{get_or_past}
use Rattle.std.proofs.lemmas.Option.{none-some}
use Rattle.list_core.specs.Members.{In}
use Rattle.list_core.proofs.Gets.{get_In, In_get}
use Rattle.tx_core.specs.declared.tx.Tx.{Tx}
use Rattle.tx_core.specs.declared.tx.Record.{Record}
use Rattle.dc_talk.specs.declared.settings.Settings.{Settings}
use Rattle.dc_talk.specs.declared.ask.Ask.TheVariants.{Refresh, Commit, Deliver, Learn}
use Rattle.dc_talk.specs.declared.say.Say.{Say}
use Rattle.dc_talk.specs.declared.say.Say.TheVariants.{Records, Vector}
use Rattle.dc_talk.specs.declared.log.Fate.{Fate}
use Rattle.dc_talk.specs.declared.log.Deed.{Deed}
use Rattle.dc_talk.specs.declared.log.Deed.TheVariants.{Did, Asked}
use Rattle.dc_talk.specs.declared.log.Note.{Note}
use Rattle.dc_talk.specs.Entries.{Entry}
use Rattle.dc_talk.specs.Sents.{with_hops}
use Rattle.dc_talk.specs.Logs.{Logged}
use Rattle.dc_talk.specs.Answers.{History}
use Rattle.dc_talk.specs.Rule.{Follows, commits_of}
use Rattle.script_core.specs.declared.script.Script.{Script}
use Rattle.script_core.specs.Scripts.{IsInRange}
use Rattle.script_core.specs.Steps.{IsCount}
use Rattle.run_book.specs.declared.book.Book.{Book}
use Rattle.run_book.specs.Setups.{setup_of, settings_among, centre_settings}
use Rattle.run_book.specs.Parts.{trail_of, idle_log, notes_of, entries_by, exchanged, IsClient}
use Rattle.run_book.specs.Graphs.{commits_at}
use Rattle.run_book.specs.Fit.{InForm, IsHandedOn, IsReported, FitsWith}
use Rattle.run_book.specs.Happenings.{GoesToOneOf, HasAnswer, WasSent, CarrierAllows, IsCarrier}
use Rattle.run_book.proofs.OwnAsks.{own_commit, delivers_none, teaches_none}
use Rattle.run_sections.specs.Sections.{actors_of}
use Rattle.run_sections.specs.Apart.{AreApart, IsBookWith}
use Rattle.run_sections.proofs.Actors.{client_or_carrier}
use Rattle.run_sections.proofs.Exchanges.{HasNote, entry_noted}

-- ---- notes and trails

module _ (script : Script) (notes : ℕ → List Note) (trails : ℕ → List Entry) (apart : AreApart script notes trails) where
  -- an entry stands in the trail of a centre that there is
  centre_in : (i : ℕ) (entry : Entry) → In entry (trails i) → IsCount script.n i
  centre_in zero entry there = absurd (subst (In entry) (apart.outside 0 (λ centre. omega (arith, centre.0))) there)
  centre_in (suc i) entry there = ⊎_elim
      (λ (inside : i < script.n). (omega arith, omega (arith, inside)))
      (λ (past : script.n ≤ i). absurd (subst (In entry) (apart.outside (suc i) (λ centre. omega (arith, past, centre.1))) there))
      (cases_lt i script.n)

  -- each client follows the rule
  follows : (a : ℕ) → IsClient (setup_of script) a → Follows script.n (a - 1) script.cache (notes a)
  follows a client =
      let same : a - 1 + 1 ≡ a = omega (arith, client.low) in
      subst (λ c. Follows script.n (a - 1) script.cache (notes c)) same (apart.clients (a - 1) (omega (arith, client.low), omega (arith, client.high)))

  -- a deed of a carrier is one that it may do
  allowed : (a : ℕ) (note : Note) (deed : Deed) → In note (notes a) → note.deed ≡ deed → IsCarrier script.n script.clients a → CarrierAllows trails deed
  allowed a note deed there is carrier = subst (CarrierAllows trails) is (apart.carriers a note carrier there)

  -- who does what a carrier may not do is a client
  is_client : (a : ℕ) (note : Note) (deed : Deed) → IsCount (actors_of script) a → In note (notes a) → note.deed ≡ deed → (CarrierAllows trails deed → ⊥) → IsClient (setup_of script) a
  is_client a note deed actor there is none = ⊎_elim (λ client. client) (λ carrier. absurd (none (allowed a note deed there is carrier))) (client_or_carrier script a actor)

  -- the note of an entry, which is one of its caller's
  noted : (i : ℕ) (entry : Entry) → In entry (trails i) → HasNote (notes entry.caller) i entry
  noted i entry there =
      let centre = centre_in i entry there in
      let caller = apart.callers i entry centre there in
      entry_noted i entry.caller (trails i) (notes entry.caller) (apart.paired i entry.caller centre caller) entry refl there

  -- what is delivered was sent
  delivered : (i : ℕ) (entry : Entry) (item : Record) (hops : ℕ) → In entry (trails i) → entry.ask ≡ Deliver item hops → WasSent trails (with_hops item hops)
  delivered i entry item hops there delivers =
      let h = noted i entry there in
      let a : ℕ = entry.caller in
      let deed : h.note.deed ≡ Asked i (Deliver item hops) h.exchange.fate = h.exchange.is ∙ ap (λ ask. Asked i ask h.exchange.fate) delivers in
      ⊎_elim
      (λ client.
      let at = In_get (notes a) h.note h.there in
      absurd (delivers_none script.n (a - 1) script.cache (notes a) (follows a client) at.0 h.note i h.exchange.fate item hops at.1 deed))
      (λ carrier. allowed a h.note (Asked i (Deliver item hops) h.exchange.fate) h.there deed carrier)
      (client_or_carrier script a (apart.callers i entry (centre_in i entry there) there))

  -- what is learned was reported
  learned : (i : ℕ) (entry : Entry) (from : ℕ) (news : List ℕ) → In entry (trails i) → entry.ask ≡ Learn from news → HasAnswer (trails from) (Vector news)
  learned i entry from news there teaches =
      let h = noted i entry there in
      let a : ℕ = entry.caller in
      let deed : h.note.deed ≡ Asked i (Learn from news) h.exchange.fate = h.exchange.is ∙ ap (λ ask. Asked i ask h.exchange.fate) teaches in
      ⊎_elim
      (λ client.
      let at = In_get (notes a) h.note h.there in
      absurd (teaches_none script.n (a - 1) script.cache (notes a) (follows a client) at.0 h.note i h.exchange.fate from news at.1 deed))
      (λ carrier. allowed a h.note (Asked i (Learn from news) h.exchange.fate) h.there deed carrier)
      (client_or_carrier script a (apart.callers i entry (centre_in i entry there) there))

-- ---- the book of them

module _ (script : Script) (b : Book) (notes : ℕ → List Note) (trails : ℕ → List Entry) (range : IsInRange script) (apart : AreApart script notes trails) (is : IsBookWith script b notes trails) where
  -- an entry of a trail of the book is one of these, at a centre
  in_trail : (i p : ℕ) (entry : Entry) → slice_get (trail_of b i) p ≡ Some entry → IsCount script.n i × In entry (trails i)
  in_trail zero p entry there = absurd (none-some entry there)
  in_trail (suc i) p entry there = ⊎_elim
      (λ (inside : i < script.n).
      let centre : IsCount script.n (suc i) = (omega arith, omega (arith, inside)) in
      (centre, get_In (trails (suc i)) p entry (subst (λ es. slice_get es p ≡ Some entry) (is.trails_are (suc i) centre) there)))
      (λ (past : script.n ≤ i). absurd (none-some entry (subst (λ es. slice_get es p ≡ Some entry) (get_or_past b.trails i [] (omega (arith, past, is.trail_count))) there)))
      (cases_lt i script.n)

  -- a note of a log of the book is one of these, of an actor
  in_log : (a m : ℕ) (note : Note) → slice_get (notes_of b a) m ≡ Some note → IsCount (actors_of script) a × (slice_get (notes a) m ≡ Some note)
  in_log zero m note there = absurd (none-some note there)
  in_log (suc a) m note there = ⊎_elim
      (λ (inside : a < actors_of script).
      let actor : IsCount (actors_of script) (suc a) = (omega arith, omega (arith, inside)) in
      (actor, subst (λ ns. slice_get ns m ≡ Some note) (is.notes_are (suc a) actor) there))
      (λ (past : actors_of script ≤ a). absurd (none-some note (subst (λ (log : Logged). slice_get log.notes m ≡ Some note) (get_or_past b.logs a (idle_log 0) (omega (arith, past, is.log_count))) there)))
      (cases_lt a (actors_of script))

  -- who does what a carrier may not do is a client
  by_client : (a m : ℕ) (note : Note) (deed : Deed) → slice_get (notes_of b a) m ≡ Some note → note.deed ≡ deed → (CarrierAllows trails deed → ⊥) → IsClient (setup_of script) a
  by_client a m note deed there same none =
      let l = in_log a m note there in
      is_client script notes trails apart a note deed l.0 (get_In (notes a) m note l.1) same none

  -- an answer stands in a trail of the book
  record IsInBook (i : ℕ) (say : Say) : Type 0 where
    centre : (1 ≤ i) × (i ≤ b.n)
    place : ℕ
    entry : Entry
    there : slice_get (trail_of b i) place ≡ Some entry
    says : entry.say ≡ say

  answer_there : (i : ℕ) (say : Say) → HasAnswer (trails i) say → IsInBook i say
  answer_there i say has =
      let centre = centre_in script notes trails apart i has.entry has.there in
      let at = In_get (trails i) has.entry has.there in
      record { centre = (centre.0, omega (arith, centre.1, is.n)); place = at.0; entry = has.entry; there = subst (λ es. slice_get es at.0 ≡ Some has.entry) (sym (is.trails_are i centre)) at.1; says = has.says }

  -- the book is in form
  form : InForm b (setup_of script)
  form = record {
    n = (omega (arith, is.n, range.header.n.0), omega (arith, is.n, range.header.n.1));
    k = (omega (arith, is.k, range.header.k.0), omega (arith, is.n, is.k, range.header.k.1));
    clients_range = range.header.clients;
    trails = is.trail_count ∙ sym is.n;
    logs = omega (arith, is.log_count, is.n);
    actors = λ a least most. is.actors a (least, omega (arith, most, is.log_count));
    callers = λ i p entry there.
        let at = in_trail i p entry there in
        let caller = apart.callers i entry at.0 at.1 in
        (caller.0, omega (arith, caller.1, is.log_count));
    centres = λ a m note i ask fate there deed.
        let l = in_log a m note there in
        let centre : (1 ≤ i) × (i ≤ script.n) = subst (GoesToOneOf script.n) deed (apart.reach a note l.0 (get_In (notes a) m note l.1)) in
        (centre.0, omega (arith, centre.1, is.n));
    calls = λ a m note call outcome there deed. by_client a m note (Did call outcome) there deed (λ none. none);
  }

  -- what is delivered was handed on
  handed : (i p : ℕ) (entry : Entry) (item : Record) (hops : ℕ) → slice_get (trail_of b i) p ≡ Some entry → entry.ask ≡ Deliver item hops → IsHandedOn b item hops
  handed i p entry item hops there delivers =
      let was = delivered script notes trails apart i entry item hops (in_trail i p entry there).1 delivers in
      let at = answer_there was.centre (Records was.list) was.answer in
      record { centre = was.centre; range = at.centre; place = at.place; entry = at.entry; there = at.there; list = was.list; says = at.says; has = was.has }

  -- what is learned was reported
  reported : (i p : ℕ) (entry : Entry) (from : ℕ) (news : List ℕ) → slice_get (trail_of b i) p ≡ Some entry → entry.ask ≡ Learn from news → IsReported b from news
  reported i p entry from news there teaches =
      let was = learned script notes trails apart i entry from news (in_trail i p entry there).1 teaches in
      let at = answer_there from (Vector news) was in
      record { origin = at.centre; place = at.place; entry = at.entry; there = at.there; says = at.says }

  -- the notes of a client
  client_notes : (a : ℕ) → IsClient (setup_of script) a → notes_of b a ≡ notes a
  client_notes a client = is.notes_are a (omega (arith, client.low), omega (arith, client.high))

  -- a commit that was asked for is the client's own
  home : (a m : ℕ) (note : Note) (i : ℕ) (tx : Tx) (fate : Fate) → slice_get (notes_of b a) m ≡ Some note → note.deed ≡ Asked i (Commit tx) fate → IsClient (setup_of script) a × In tx (commits_at b (setup_of script) a m)
  home a m note i tx fate there deed =
      let client = by_client a m note (Asked i (Commit tx) fate) there deed (λ none. none) in
      let mine : In tx (commits_of script.n (a - 1) script.cache (take m (notes a))) = own_commit script.n (a - 1) script.cache (notes a) (follows script notes trails apart a client) m note i tx fate (in_log a m note there).1 deed in
      let here : In tx (commits_of script.n (a - 1) script.cache (take m (notes_of b a))) = subst (λ ns. In tx (commits_of script.n (a - 1) script.cache (take m ns))) (sym (client_notes a client)) mine in
      (client, subst (λ n. In tx (commits_of n (a - 1) script.cache (take m (notes_of b a)))) (sym is.n) here)

  -- the settings of the book's centres
  settings_are : (i : ℕ) → centre_settings b (setup_of script) i ≡ settings_among script.n script.k (setup_of script) i
  settings_are i = λ j. settings_among (is.n j) (is.k j) (setup_of script) i

  -- each trail is a history
  history : (i : ℕ) → 1 ≤ i → i ≤ b.n → History (centre_settings b (setup_of script) i) (trail_of b i)
  history i low high =
      let centre : IsCount script.n i = (low, omega (arith, high, is.n)) in
      subst (λ (s : Settings). History s (trail_of b i)) (sym (settings_are i))
      (subst (History (settings_among script.n script.k (setup_of script) i)) (sym (is.trails_are i centre)) (apart.histories i centre))

  -- the book fits
  pub fits_apart : FitsWith b (setup_of script)
  fits_apart = record {
    form = form;
    limit_range = range.limit;
    capacity_range = range.cache.0;
    histories = history;
    paired = λ i a low high least most.
        let centre : IsCount script.n i = (low, omega (arith, high, is.n)) in
        let actor : IsCount (actors_of script) a = (least, omega (arith, most, is.log_count)) in
        ap (entries_by a) (is.trails_are i centre) ∙ (apart.paired i a centre actor ∙ ap (exchanged i) (sym (is.notes_are a actor)));
    delivered = handed;
    learned = reported;
    follows = λ a client.
        subst (λ n. Follows n (a - 1) script.cache (notes_of b a)) (sym is.n)
        (subst (Follows script.n (a - 1) script.cache) (sym (client_notes a client)) (follows script notes trails apart a client));
    commits_home = home;
    refresh_home = λ a m note i client here fate there deed. by_client a m note (Asked i (Refresh client here) fate) there deed (λ none. none);
  }
