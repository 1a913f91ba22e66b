-- The book of what happened among several centres fits.
use Rattle.std.proofs.Common.{◌≡◌, ℕ, zero, suc, ◌+◌, ◌-◌, ◌*◌, ◌≤◌, ◌<◌, ⊎_elim, List, [], take, Some, refl, sym, ap, ◌∙◌, subst, arith}
use Rattle.std.specs.Prelude.{slice_get}
use Rattle.std.proofs.lemmas.Option.{none-some}
use Rattle.std.proofs.lemmas.Bool.{cases_lt}
use Rattle.list_core.specs.Members.{In}
use Rattle.list_core.proofs.Gets.{past_end}
use Rattle.tx_core.specs.declared.tx.Tx.{Tx}
use Rattle.tx_core.specs.declared.tx.Record.{Record}
use Rattle.dc_talk.specs.declared.settings.Settings.{Settings}
use Rattle.dc_talk.specs.declared.ask.Ask.TheVariants.{Commit, Deliver, Learn}
use Rattle.dc_talk.specs.declared.say.Say.TheVariants.{Records, Vector}
use Rattle.dc_talk.specs.declared.log.Fate.{Fate}
use Rattle.dc_talk.specs.declared.log.Deed.TheVariants.{Asked}
use Rattle.dc_talk.specs.declared.log.Note.{Note}
use Rattle.dc_talk.specs.Entries.{Entry}
use Rattle.dc_talk.specs.Logs.{Logged}
use Rattle.dc_talk.specs.Answers.{History}
use Rattle.dc_talk.specs.Rule.{Follows, commits_of}
use Rattle.run_book.specs.declared.book.Book.{Book}
use Rattle.run_book.specs.Setups.{Setup, settings_among, centre_settings}
use Rattle.run_book.specs.Parts.{trail_of, idle_log, notes_of, entries_by, exchanged, IsClient}
use Rattle.run_book.specs.Graphs.{commits_at}
use Rattle.run_book.specs.Fit.{InForm, IsHandedOn, IsReported, FitsWith}
use Rattle.run_book.specs.Happenings.{Happened, notes_by, trail_in, AreTogether, InRange, IsBookOf}
use Rattle.run_book.proofs.Happenings.Entries.{paired_in}
use Rattle.run_book.proofs.Happenings.Places.{answered_later, reached_one, follows, noted, entered, actor_range, calls, refreshes, commits, delivered, learned, answer_there, own}

module _ (b : Book) (n k clients : ℕ) (all : List Happened) (is : IsBookOf b n k clients all) where
  -- an entry of a trail of the book is one of what happened
  pub record IsTrailEntry (i p : ℕ) (entry : Entry) : Type 0 where
    pub centre : (1 ≤ i) × (i ≤ n)
    pub there : slice_get (trail_in i all) p ≡ Some entry

  -- so is each
  pub in_trail : (i p : ℕ) (entry : Entry) → slice_get (trail_of b i) p ≡ Some entry → IsTrailEntry i p entry
  in_trail zero p entry there = absurd (none-some entry there)
  in_trail (suc i) p entry there = ⊎_elim
      (λ (inside : i < n). record {
        centre = (omega arith, omega (arith, inside));
        there = subst (λ es. slice_get es p ≡ Some entry) (is.trails (suc i) (omega arith) (omega (arith, inside))) there;
      })
      (λ (past : n ≤ i). absurd (none-some entry (subst (λ es. slice_get es p ≡ Some entry) (past_end b.trails i [] (omega (arith, past, is.trail_count))) there)))
      (cases_lt i n)

  -- there are no notes but those of actors
  pub silent : (a : ℕ) → 1 + clients + 4 * n < a → notes_of b a ≡ []
  silent zero past = refl
  silent (suc a) past = ap (λ (log : Logged). log.notes) (past_end b.logs a (idle_log 0) (omega (arith, past, is.log_count)))

  -- a note of a log of the book is one of what happened
  pub record IsLogNote (a m : ℕ) (note : Note) : Type 0 where
    pub actor : (1 ≤ a) × (a ≤ 1 + clients + 4 * n)
    pub there : slice_get (notes_by a all) m ≡ Some note

  -- so is each
  pub in_log : (a m : ℕ) (note : Note) → slice_get (notes_of b a) m ≡ Some note → IsLogNote a m note
  in_log zero m note there = absurd (none-some note there)
  in_log (suc a) m note there = ⊎_elim
      (λ (inside : a < 1 + clients + 4 * n). record {
        actor = (omega arith, omega (arith, inside));
        there = subst (λ ns. slice_get ns m ≡ Some note) (is.notes (suc a) (omega arith) (omega (arith, inside))) there;
      })
      (λ (past : 1 + clients + 4 * n ≤ a). absurd (none-some note (subst (λ ns. slice_get ns m ≡ Some note) (silent (suc a) (omega (arith, past))) there)))
      (cases_lt a (1 + clients + 4 * n))

  -- the trails of the centres
  pub trail_is : (i : ℕ) → 1 ≤ i → i ≤ b.n → trail_of b i ≡ trail_in i all
  trail_is i low high = is.trails i low (omega (arith, high, is.n_is))

  -- the notes of the clients
  pub notes_are : (setup : Setup) (a : ℕ) → setup.clients ≡ clients → IsClient setup a → notes_of b a ≡ notes_by a all
  notes_are setup a same client = is.notes a (omega (arith, client.low)) (omega (arith, client.high, same))

module _ (b : Book) (n k : ℕ) (setup : Setup) (all : List Happened) (range : InRange n k setup) (is : IsBookOf b n k setup.clients all) (t : AreTogether n k setup all) where
  -- the settings of the book's centres
  settings_are : (i : ℕ) → centre_settings b setup i ≡ settings_among n k setup i
  settings_are i = λ j. settings_among (is.n_is j) (is.k_is j) setup i

  -- the book is in form
  form : InForm b setup
  form = record {
    n = (omega (arith, is.n_is, range.n_range.0), omega (arith, is.n_is, range.n_range.1));
    k = (omega (arith, is.k_is, range.k_range.0), omega (arith, is.n_is, is.k_is, range.k_range.1));
    clients_range = range.clients_range;
    trails = is.trail_count ∙ sym is.n_is;
    logs = omega (arith, is.log_count, is.n_is);
    actors = λ a least most. is.actors a least (omega (arith, most, is.log_count));
    callers = λ i p entry there.
        let e = entered n k setup all t i p entry (in_trail b n k setup.clients all is i p entry there).there in
        let r = actor_range n k setup all t e.place e.it e.there in
        let who = e.made.caller in
        (omega (arith, r.0, who), omega (arith, r.1, who, is.log_count));
    centres = λ a m note i ask fate there deed.
        let h = noted n k setup all t a m note (in_log b n k setup.clients all is a m note there).there in
        let centre = reached_one n k setup all t h.place h.it i ask fate h.there (ap (λ (note : Note). note.deed) h.note_is ∙ deed) in
        (centre.0, omega (arith, centre.1, is.n_is));
    calls = λ a m note call outcome there deed.
        let h = noted n k setup all t a m note (in_log b n k setup.clients all is a m note there).there in
        subst (IsClient setup) h.actor (calls n k setup all t h.place h.it call outcome h.there (ap (λ (note : Note). note.deed) h.note_is ∙ deed));
  }

  -- what is delivered was sent
  sent : (i p : ℕ) (entry : Entry) (item : Record) (hops : ℕ) → slice_get (trail_of b i) p ≡ Some entry → entry.ask ≡ Deliver item hops → IsHandedOn b item hops
  sent i p entry item hops there delivers =
      let e = entered n k setup all t i p entry (in_trail b n k setup.clients all is i p entry there).there in
      let was = delivered n k setup all t e.place e.it i e.made.exchange.fate item hops e.there (e.made.exchange.is ∙ ap (λ ask. Asked i ask e.made.exchange.fate) delivers) in
      let o : ℕ = was.centre in
      let at = answer_there n k setup all t o (Records was.list) (answered_later all e.place o (Records was.list) was.answer) in
      let origin : (1 ≤ o) × (o ≤ b.n) = (at.centre.0, omega (arith, at.centre.1, is.n_is)) in
      record {
        centre = o;
        range = origin;
        place = at.place;
        entry = at.entry;
        there = subst (λ es. slice_get es at.place ≡ Some at.entry) (sym (trail_is b n k setup.clients all is o origin.0 origin.1)) at.there;
        list = was.list;
        says = at.says;
        has = was.has;
      }

  -- what is learned was reported
  reported : (i p : ℕ) (entry : Entry) (from : ℕ) (news : List ℕ) → slice_get (trail_of b i) p ≡ Some entry → entry.ask ≡ Learn from news → IsReported b from news
  reported i p entry from news there teaches =
      let e = entered n k setup all t i p entry (in_trail b n k setup.clients all is i p entry there).there in
      let was = learned n k setup all t e.place e.it i e.made.exchange.fate from news e.there (e.made.exchange.is ∙ ap (λ ask. Asked i ask e.made.exchange.fate) teaches) in
      let at = answer_there n k setup all t from (Vector news) (answered_later all e.place from (Vector news) was) in
      let origin : (1 ≤ from) × (from ≤ b.n) = (at.centre.0, omega (arith, at.centre.1, is.n_is)) in
      record {
        origin = origin;
        place = at.place;
        entry = at.entry;
        there = subst (λ es. slice_get es at.place ≡ Some at.entry) (sym (trail_is b n k setup.clients all is from origin.0 origin.1)) at.there;
        says = at.says;
      }

  -- a commit that was asked for is the client's own
  home : (a m : ℕ) (note : Note) (i : ℕ) (tx : Tx) (fate : Fate) → slice_get (notes_of b a) m ≡ Some note → note.deed ≡ Asked i (Commit tx) fate → IsClient setup a × In tx (commits_at b setup a m)
  home a m note i tx fate there deed =
      let l = in_log b n k setup.clients all is a m note there in
      let h = noted n k setup all t a m note l.there in
      let client : IsClient setup a = subst (IsClient setup) h.actor (commits n k setup all t h.place h.it i tx fate h.there (ap (λ (note : Note). note.deed) h.note_is ∙ deed)) in
      let mine : In tx (commits_of n (a - 1) setup.capacity (take m (notes_by a all))) = own n k setup all t a m note i tx fate client l.there deed in
      let there : In tx (commits_of n (a - 1) setup.capacity (take m (notes_of b a))) = subst (λ ns. In tx (commits_of n (a - 1) setup.capacity (take m ns))) (sym (notes_are b n k setup.clients all is setup a refl client)) mine in
      (client, subst (λ n. In tx (commits_of n (a - 1) setup.capacity (take m (notes_of b a)))) (sym is.n_is) there)

  -- each trail is a history
  history : (i : ℕ) → 1 ≤ i → i ≤ b.n → History (centre_settings b setup i) (trail_of b i)
  history i low high =
      subst (λ (s : Settings). History s (trail_of b i)) (sym (settings_are i))
      (subst (History (settings_among n k setup i)) (sym (trail_is b n k setup.clients all is i low high)) (t.histories i low (omega (arith, high, is.n_is))))

  -- the book fits
  pub fits : FitsWith b setup
  fits = record {
    form = form;
    limit_range = range.limit_range;
    capacity_range = range.capacity_range;
    histories = history;
    paired = λ i a low high least most.
        ap (entries_by a) (trail_is b n k setup.clients all is i low high)
        ∙ (paired_in i a all ∙ ap (exchanged i) (sym (is.notes a least (omega (arith, most, is.log_count)))));
    delivered = sent;
    learned = reported;
    follows = λ a client.
        subst (λ n. Follows n (a - 1) setup.capacity (notes_of b a)) (sym is.n_is)
        (subst (Follows n (a - 1) setup.capacity) (sym (notes_are b n k setup.clients all is setup a refl client)) (follows n k setup all t a client));
    commits_home = home;
    refresh_home = λ a m note i client here fate there deed.
        let h = noted n k setup all t a m note (in_log b n k setup.clients all is a m note there).there in
        subst (IsClient setup) h.actor (refreshes n k setup all t h.place h.it i client here fate h.there (ap (λ (note : Note). note.deed) h.note_is ∙ deed));
  }
