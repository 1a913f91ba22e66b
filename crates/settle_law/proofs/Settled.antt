-- What happened up to a pass without news is settled, and so it is up to the last of passes until one has no news.
use Rattle.std.proofs.Common.{◌≡◌, ℕ, zero, suc, ◌+◌, ◌-◌, ◌*◌, ◌≤◌, false, List, [], ◌++◌, length, map, take, drop, Some, refl, sym, ap, ◌∙◌, subst, arith}
use Rattle.std.specs.Prelude.{slice_get}
use Rattle.std.specs.List.{list_any}
use Rattle.std.proofs.lemmas.List.{append_assoc, take-append-drop, map-append, drop-map, take_all}
use Rattle.std.proofs.lemmas.Option.{same_Some}
use Rattle.std.proofs.Math.Seq.{drop-append_seam, take-append_seam}
use Rattle.std.proofs.lemmas.List.FromFn.{length-map-range_with_len, get_or-map-range_with_len}
use Rattle.std.proofs.lemmas.List.Elements.{filter_map-append}
use Rattle.list_core.specs.Members.{In}
use Rattle.list_core.specs.Moments.{Each}
use Rattle.list_core.proofs.Gets.{In_get}
use Rattle.list_core.proofs.Moments.{each_take}
use Rattle.vv_core.specs.declared.stamp.Stamp.{Stamp}
use Rattle.vv_core.specs.Vectors.{at, centres}
use Rattle.vv_core.proofs.Entrywise.{same_tabulate}
use Rattle.tx_core.specs.declared.tx.Record.{Record}
use Rattle.dc_talk.specs.declared.log.Deed.{Deed}
use Rattle.dc_talk.specs.declared.log.Note.{Note}
use Rattle.dc_talk.specs.Logs.{Logged}
use Rattle.dc_talk.specs.Records.{count, vector}
use Rattle.dc_talk.specs.Trails.{applied, stopped, horizon}
use Rattle.dc_talk.specs.Answers.{History}
use Rattle.dc_talk.proofs.Counts.{stamp_counted}
use Rattle.dc_talk.proofs.Places.{have_stamp}
use Rattle.script_core.specs.Carrying.{Passes, Settles, last_pass, one_pass, is_news}
use Rattle.run_book.specs.declared.book.Book.{Book}
use Rattle.run_book.specs.Setups.{Setup, centre_settings, settings_among}
use Rattle.run_book.specs.Parts.{trail_of, log_of}
use Rattle.run_book.specs.Graphs.{own_list}
use Rattle.run_book.specs.Fit.{FitsWith}
use Rattle.run_book.specs.Happenings.{Happened, notes_by, entry_in, trail_in, happening, Happens, AreTogether, InRange, IsBookOf}
use Rattle.run_book.proofs.Happenings.Entries.{trail_then}
use Rattle.run_book.proofs.Happenings.Fits.{fits}
use Rattle.run_book.proofs.Happenings.Trimming.{let_go_by}
use Rattle.run_book.proofs.Causal.Origins.{whole_each, agreement_whole}
use Rattle.settle_law.specs.Settled.{applied_in, IsRunning, AreSettled}
use Rattle.settle_law.proofs.Lacking.{IsCentre, KeepsLacked, EndsWith, counts_alike}

-- ---- a book

-- the log of an actor after what happened
log_in : List Happened → ℕ → Logged
log_in all a = record { actor = a; section = 0; step = 0; notes = notes_by a all }

-- the trail of each centre, and the log of each actor, in one book
abbrev book_in : ℕ → ℕ → ℕ → List Happened → Book
book_in n k clients all = record { n = n; k = k; trails = map (λ i. trail_in i all) (centres n); logs = map (log_in all) (centres (1 + clients + 4 * n)) }

-- it is one of what happened
is_book : (n k clients : ℕ) (all : List Happened) → IsBookOf (book_in n k clients all) n k clients all
unfolding log_in
is_book n k clients all = record {
  n_is = refl;
  k_is = refl;
  trail_count = length-map-range_with_len (λ i. trail_in i all) 1 n;
  log_count = length-map-range_with_len (log_in all) 1 (1 + clients + 4 * n);
  trails = trails;
  actors = λ a low high. ap (λ (log : Logged). log.actor) (logs a low high);
  notes = λ a low high. ap (λ (log : Logged). log.notes) (logs a low high);
}
  where
    trails : (i : ℕ) → 1 ≤ i → i ≤ n → trail_of (book_in n k clients all) i ≡ trail_in i all
    trails zero low high = absurd (omega (arith, low))
    trails (suc i) low high = get_or-map-range_with_len (λ i. trail_in i all) 1 n i (suc i) [] (omega (arith, high)) (omega arith)

    logs : (a : ℕ) → 1 ≤ a → a ≤ 1 + clients + 4 * n → log_of (book_in n k clients all) a ≡ log_in all a
    logs zero low high = absurd (omega (arith, low))
    logs (suc a) low high = get_or-map-range_with_len (log_in all) 1 (1 + clients + 4 * n) a (suc a) (record { actor = 0; section = 0; step = 0; notes = [] }) (omega (arith, high)) (omega arith)

-- ---- a pass

module _ (n k : ℕ) (setup : Setup) (before : List Happened) (actor : ℕ) (notes : List Note) (range : InRange n k setup) (t : AreTogether n k setup (before ++ happening actor notes)) (pass : Passes n (map (λ (note : Note). note.deed) notes)) (quiet : list_any is_news (map (λ (note : Note). note.deed) notes) ≡ false) where
  -- what happened up to the end of the pass
  abbrev all : List Happened
  all = before ++ happening actor notes

  -- the book of it
  abbrev b : Book
  b = book_in n k setup.clients (before ++ happening actor notes)

  -- it fits
  fit : FitsWith b setup
  fit = fits b n k setup all range (is_book n k setup.clients all) t

  -- what a centre has applied by the book is what it has
  there : (i : ℕ) → IsRunning n i all → applied n (trail_of b i) ≡ applied_in n i all
  there i is = ap (applied n) ((is_book n k setup.clients all).trails i is.range.0 is.range.1)

  -- what a centre let go, each centre has
  keeps : KeepsLacked b setup
  keeps i origin j from to =
      let books = (is_book n k setup.clients all).trails in
      let whole : take (length all) all ≡ all = take_all (length all) all (omega arith) in
      let now : (i : ℕ) → IsCentre b i → trail_in i (take (length all) all) ≡ trail_of b i = λ i is. ap (trail_in i) whole ∙ sym (books i is.0 is.1) in
      let gone : at (horizon (settings_among n k setup i) (trail_in i (take (length all) all))).trimmed origin ≡ at (horizon (settings_among n k setup i) (trail_of b i)).trimmed origin = ap (λ T. at (horizon (settings_among n k setup i) T).trimmed origin) (now i from) in
      subst (λ T. at (horizon (settings_among n k setup i) (trail_of b i)).trimmed origin ≤ at (vector n (applied n T)) origin) (now j to)
      (let_go_by n k setup all t (length all) i origin (at (horizon (settings_among n k setup i) (trail_of b i)).trimmed origin) j to.0 to.1 (omega (arith, gone)))

  -- the trails end with what the pass did
  ends : EndsWith b (λ i. trail_in i before) actor (map (λ (note : Note). note.deed) notes)
  ends i is = (is_book n k setup.clients all).trails i is.0 is.1 ∙ trail_then actor i before notes

  -- two running centres count as many
  counts : (i j e : ℕ) → IsRunning n i all → IsRunning n j all → count e (applied n (trail_of b i)) ≡ count e (applied n (trail_of b j))
  counts i j e one two = counts_alike b setup fit keeps (λ i. trail_in i before) actor (map (λ (note : Note). note.deed) notes) ends pass quiet i j e one.range two.range (runs i one) (runs j two)
    where
      runs : (i : ℕ) → IsRunning n i all → stopped (trail_of b i) ≡ false
      runs i is = ap stopped ((is_book n k setup.clients all).trails i is.range.0 is.range.1) ∙ is.runs

  -- each record of one is one of the other
  shared : (i j : ℕ) (item : Record) → IsRunning n i all → IsRunning n j all → In item (applied n (trail_of b i)) → In item (applied n (trail_of b j))
  shared i j item one two here =
      let each = whole_each b setup fit i one.range.0 one.range.1 in
      let place = In_get (applied n (trail_of b i)) item here in
      let number = (each.holds place.0 item place.1).number in
      let counted = stamp_counted (centre_settings b setup i) (applied n (trail_of b i)) item each here in
      let same = counts i j item.stamp.centre one two in
      let h = have_stamp (centre_settings b setup j) (applied n (trail_of b j)) (whole_each b setup fit j two.range.0 two.range.1) item.stamp.centre item.stamp.seq (omega (arith, number)) (omega (arith, counted, same)) in
      let own = subst (λ (s : Stamp). slice_get (own_list b s.centre) (s.seq - 1) ≡ Some h.item) h.stamp_is (agreement_whole b setup fit j two.range.0 two.range.1 h.item h.there) in
      subst (λ r. In r (applied n (trail_of b j))) (same_Some h.item item (sym own ∙ agreement_whole b setup fit i one.range.0 one.range.1 item here)) h.there

  -- all is settled
  pub pass_settles : AreSettled n all
  pass_settles = record {
    records = λ i j item one two here. subst (In item) (there j two) (shared i j item one two (subst (In item) (sym (there i one)) here));
    vectors = λ i j one two. ap (vector n) (sym (there i one)) ∙ (same_tabulate n (λ e. count e (applied n (trail_of b i))) (λ e. count e (applied n (trail_of b j))) (λ e low high. counts i j e one two) ∙ ap (vector n) (there j two));
  }

-- ---- passes

-- so it is up to the last of them
pub settles : (n k : ℕ) (setup : Setup) (before : List Happened) (actor : ℕ) (notes : List Note) → InRange n k setup → AreTogether n k setup (before ++ happening actor notes) → Settles n (map (λ (note : Note). note.deed) notes) → AreSettled n (before ++ happening actor notes)
settles n k setup before actor notes range t done = go (map (λ (note : Note). note.deed) notes) done before notes refl t
  where
    go : (deeds : List Deed) → Settles n deeds → (before : List Happened) (notes : List Note) → map (λ (note : Note). note.deed) notes ≡ deeds → AreTogether n k setup (before ++ happening actor notes) → AreSettled n (before ++ happening actor notes)
    go deeds (last_pass pass none) before notes is t = pass_settles n k setup before actor notes range t (subst (Passes n) (sym is) pass) (ap (list_any is_news) is ∙ none)
    go deeds (one_pass first later whole pass news rest) before notes is t =
        let mine = take (length first) notes in
        let more = drop (length first) notes in
        let parts : mine ++ more ≡ notes = take-append-drop (length first) notes in
        let behind : map (λ (note : Note). note.deed) more ≡ later = sym (drop-map (λ (note : Note). note.deed) (length first) notes) ∙ (ap (drop (length first)) (is ∙ whole) ∙ drop-append_seam first later) in
        let same : before ++ happening actor notes ≡ (before ++ happening actor mine) ++ happening actor more = ap (λ notes. before ++ happening actor notes) (sym parts) ∙ (ap (λ l. before ++ l) (map-append _ mine more) ∙ sym (append_assoc before (happening actor mine) (happening actor more))) in
        subst (AreSettled n) (sym same) (go later rest (before ++ happening actor mine) more behind (subst (AreTogether n k setup) same t))

-- ---- a moment

-- what happened together by a moment did so without what happened later
pub together_by : (n k : ℕ) (setup : Setup) (before later : List Happened) → AreTogether n k setup (before ++ later) → AreTogether n k setup before
together_by n k setup before later t = record {
  histories = λ i low high.
      subst (History (settings_among n k setup i)) (take-append_seam (trail_in i before) (trail_in i later))
      (each_take _ (trail_in i before ++ trail_in i later) (length (trail_in i before)) (subst (History (settings_among n k setup i)) (filter_map-append (entry_in i) before later) (t.histories i low high)));
  each = subst (Each (Happens n setup)) (take-append_seam before later) (each_take (Happens n setup) (before ++ later) (length before) t.each);
}
