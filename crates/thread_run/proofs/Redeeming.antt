-- What comes out of the hosts behind a phase: each centre's trail, longer by what the notes of the actors made there.
use Rattle.std.proofs.Common.{◌≡◌, ℕ, suc, ◌+◌, ◌≤◌, ◌<◌, ◌⊎◌, inl, inr, ⊎_elim, Bool, true, false, cond, List, [], ◌∷◌, ◌++◌, map, length, take, Option, Some, None, refl, sym, ap, ◌∙◌, subst, arith}
use Rattle.std.specs.Prelude.{slice_get, All, ◌==◌}
use Rattle.std.specs.List.{AllZip, cons_option, range_with_len}
use Rattle.std.specs.Global.{Vec}
use Rattle.std.specs.Option.{option_map}
use Rattle.std.proofs.Math.Seq.{take-length}
use Rattle.std.proofs.lemmas.Bool.{cases_lt, eq-eqb}
use Rattle.std.proofs.lemmas.List.{length-map}
use Rattle.std.proofs.lemmas.List.Elements.{All-map, All-weaker}
use Rattle.std.proofs.lemmas.List.FromFn.{length-map-range_with_len}
use Rattle.std.proofs.lemmas.Option.{same_Some, slice_get_within}
use Rattle.list_core.specs.Members.{In}
use Rattle.list_core.proofs.Gets.{get_within, get_In, In_get, is_front}
use Rattle.list_core.proofs.Members.{In-All, In_filter}
use Rattle.list_core.proofs.Passing.{In_filter_map}
use Rattle.host_lock.specs.Law.{calls_of}
use Rattle.host_lock.specs.Hosts.{fresh, Stood, AllStood}
use Rattle.dc_talk.specs.declared.ask.Ask.{Ask}
use Rattle.dc_talk.specs.declared.say.Say.{Say}
use Rattle.dc_talk.specs.declared.log.Note.{Note}
use Rattle.dc_talk.specs.declared.settings.Settings.{Settings}
use Rattle.dc_talk.specs.Answers.{History}
use Rattle.dc_talk.specs.Entries.{Entry}
use Rattle.dc_talk.specs.Logs.{exchanged_in, entry_for, entries_made}
use Rattle.dc_door.specs.Centres.{CentreTrail, KeptCentre, seen_of, all_seen, IsKeptCentre}
use Rattle.dc_host.specs.HostDoors.{CentreHost, CentrePass, bare, made_with}
use Rattle.dc_host.specs.Hosts.{rows_of, bare_rows, new_row, new_rows, column, IsHostOf, IsClosed, AreClosed}
use Rattle.dc_door.specs.KeptDoors.{entries_of, trail_at, settings_of}
use Rattle.dc_host.proofs.Rows.{bare_new}
use Rattle.dc_host.proofs.Passes.{zip_long}
use Rattle.dc_door.proofs.Trails.{trail_found}
use Rattle.script_core.specs.Steps.{IsCount}
use Rattle.run_book.specs.Parts.{exchanged, entries_by}
use Rattle.run_table.specs.Tables.{AreHistories}
use Rattle.run_table.proofs.Numbered.{get_below}
use Rattle.run_sections.specs.Orders.{deeds_of}
use Rattle.phase_actors.specs.declared.callers.Caller.{Caller}
use Rattle.thread_run.proofs.Zips.{zip_get, zip_same, get_source, get_image}
use Rattle.thread_run.proofs.Callers.{HasActed}

-- ---- the passes

-- the passes of a caller as they were before any call
abbrev pub bare_row : Caller → List CentrePass
bare_row caller = map bare caller.row.items

-- the passes of callers
abbrev pub rows_in : List Caller → List (List CentrePass)
rows_in callers = rows_of (map (λ (c : Caller). c.row) callers)

-- these passes of all callers, row by row
rows_bare : (callers : List Caller) → bare_rows (rows_in callers) ≡ map bare_row callers
rows_bare [] = refl
rows_bare (c ∷ callers) = ap (λ rows. bare_row c ∷ rows) (rows_bare callers)

-- new rows are bare
bare_all : (hosts : List CentreHost) (numbers : List ℕ) → bare_rows (map (new_row hosts) numbers) ≡ map (new_row hosts) numbers
bare_all hosts [] = refl
bare_all hosts (n ∷ numbers) = λ i. bare_new hosts n i ∷ bare_all hosts numbers i

-- what callers did leaves their passes those of the hosts
pub rows_stay : (hosts : List CentreHost) (count : ℕ) (callers acted : List Caller) → rows_in callers ≡ new_rows hosts 1 count → AllZip HasActed callers acted → bare_rows (rows_in acted) ≡ new_rows hosts 1 count
rows_stay hosts count callers acted new did =
    rows_bare acted
    ∙ (zip_same HasActed bare_row bare_row callers acted (λ old later r. r.same.1) did
    ∙ (sym (rows_bare callers)
    ∙ (ap bare_rows new ∙ bare_all hosts (range_with_len 1 count))))

-- ---- calls and notes

-- what an entry exchanged
abbrev pub pair_of : Entry → Ask × Say
pair_of entry = (entry.ask, entry.say)

-- what the calls of a number exchanged
calls_exchanged : (a : ℕ) (es : List Entry) → entries_by a es ≡ map pair_of (calls_of a es)
calls_exchanged a [] = refl
calls_exchanged a (e ∷ es) = go (e.caller == a) (calls_exchanged a es)
  where
    go : (b : Bool) → entries_by a es ≡ map pair_of (calls_of a es) → cons_option (cond b (Some (pair_of e)) None) (entries_by a es) ≡ map pair_of (cond b (e ∷ calls_of a es) (calls_of a es))
    go true is = ap (λ pairs. pair_of e ∷ pairs) is
    go false is = is

-- what the entries of notes exchanged
made_exchanged : (a i : ℕ) (notes : List Note) → map pair_of (entries_made a i (deeds_of notes)) ≡ exchanged i notes
made_exchanged a i [] = refl
made_exchanged a i (note ∷ notes) = go (exchanged_in i note.deed) (made_exchanged a i notes)
  where
    go : (o : Option (Ask × Say)) → map pair_of (entries_made a i (deeds_of notes)) ≡ exchanged i notes → map pair_of (cons_option (option_map (entry_for a) o) (entries_made a i (deeds_of notes))) ≡ cons_option o (exchanged i notes)
    go None is = is
    go (Some pair) is = ap (λ pairs. pair ∷ pairs) is

-- where the calls of an actor are what its notes made, they exchanged what these did
pub calls_paired : (a i : ℕ) (notes : List Note) (later : List Entry) → calls_of a later ≡ entries_made a i (deeds_of notes) → entries_by a later ≡ exchanged i notes
calls_paired a i notes later made = calls_exchanged a later ∙ (ap (map pair_of) made ∙ made_exchanged a i notes)

-- each entry is of a caller of the host
pub called_within : (count callers : ℕ) (later : List Entry) → callers ≡ count → ((n : ℕ) → (n ≡ 0) ⊎ (callers < n) → calls_of n later ≡ []) → (entry : Entry) → In entry later → IsCount count entry.caller
called_within count callers later is none entry there = ⊎_elim
    (λ (zeroth : entry.caller < 1). absurd (not_there (none entry.caller (inl (omega (arith, zeroth))))))
    (λ (low : 1 ≤ entry.caller). ⊎_elim
    (λ (within : entry.caller < count + 1). (low, omega (arith, within)))
    (λ (past : count + 1 ≤ entry.caller). absurd (not_there (none entry.caller (inr (omega (arith, past, is))))))
    (cases_lt entry.caller (count + 1)))
    (cases_lt entry.caller 1)
  where
    not_there : calls_of entry.caller later ≡ [] → ⊥
    not_there empty = subst (In entry) empty (In_filter (λ (e : Entry). e.caller == entry.caller) later entry there (eq-eqb entry.caller entry.caller refl))

-- so it is of each pass
stood_of : (later : List Entry) (passes : List CentrePass) (pass : CentrePass) → In pass passes → AllStood later passes → Stood later pass
stood_of later [] pass there all = absurd there
stood_of later (p ∷ passes) pass (inl same) all = subst (Stood later) (sym same) all.0
stood_of later (p ∷ passes) pass (inr there) all = stood_of later passes pass there all.1

module _ (hosts : List CentreHost) (count : ℕ) (callers acted : List Caller) (new : rows_in callers ≡ new_rows hosts 1 count) where
  -- a caller began with new passes
  pub new_at : (p : ℕ) (c : Caller) → slice_get callers p ≡ Some c → c.row.items ≡ new_row hosts (1 + p)
  new_at p c there =
      let within : p < length callers = slice_get_within callers p c there in
      let long : length callers ≡ count = sym (length-map callers (λ (c : Caller). c.row)) ∙ (sym (length-map (map (λ (c : Caller). c.row) callers) (λ (row : Vec CentrePass). row.items)) ∙ (ap length new ∙ length-map-range_with_len (new_row hosts) 1 count)) in
      same_Some c.row.items (new_row hosts (1 + p))
      (sym (get_image (λ (row : Vec CentrePass). row.items) (map (λ (c : Caller). c.row) callers) p c.row (get_image (λ (c : Caller). c.row) callers p c there))
      ∙ (ap (λ rows. slice_get rows p) new ∙ get_below (new_row hosts) count p (omega (arith, within, long))))

  -- its calls at a host are the entries of what it noted
  pub calls_noted : (k p : ℕ) (host : CentreHost) (later : List Entry) (c d : Caller) → slice_get hosts k ≡ Some host → slice_get callers p ≡ Some c → slice_get acted p ≡ Some d → (did : HasActed c d) → c.log.actor ≡ 1 + p → AllStood later (column k (rows_in acted)) → calls_of (1 + p) later ≡ entries_made (1 + p) (suc k) (deeds_of did.mine)
  calls_noted k p host later c d at was is did actor all =
      let first : slice_get c.row.items k ≡ Some (fresh host (1 + p)) = ap (λ row. slice_get row k) (new_at p c was) ∙ get_image (λ (h : CentreHost). fresh h (1 + p)) hosts k host at in
      let one = get_source bare d.row.items k (fresh host (1 + p)) (ap (λ row. slice_get row k) did.same.1 ∙ get_image bare c.row.items k (fresh host (1 + p)) first) in
      let number : one.source.number ≡ 1 + p = ap (λ (pass : CentrePass). pass.number) one.gives in
      let row : slice_get (rows_in acted) p ≡ Some d.row.items = get_image (λ (row : Vec CentrePass). row.items) (map (λ (c : Caller). c.row) acted) p d.row (get_image (λ (c : Caller). c.row) acted p d is) in
      let among : In one.source (column k (rows_in acted)) = In_filter_map (λ (row : List CentrePass). slice_get row k) (rows_in acted) d.row.items one.source (get_In (rows_in acted) p d.row.items row) one.there in
      ap (λ n. calls_of n later) (sym number)
      ∙ ((stood_of later (column k (rows_in acted)) one.source among all).1
      ∙ (sym (ap made_with one.there)
      ∙ (did.acted.made (suc k)
      ∙ (λ j. made_with (first j) ++ entries_made (actor j) (suc k) (deeds_of did.mine)))))

-- ---- the centres

-- lists of one length with the same at each place
lists_same : {X : Type 0} (xs ys : List X) → length xs ≡ length ys → ((p : ℕ) (x : X) → slice_get xs p ≡ Some x → slice_get ys p ≡ Some x) → xs ≡ ys
lists_same xs ys long same = is_front xs ys same ∙ (ap (λ k. take k ys) long ∙ take-length ys)

-- a centre with its host, and what came out of it
pub record HasGrown (old : List CentreTrail) (hosts : List CentreHost) (rows : List (List CentrePass)) (kept : List KeptCentre) (k : ℕ) : Type 0 where
  pub centre : CentreTrail
  pub was : slice_get old k ≡ Some centre
  pub host : CentreHost
  pub at : slice_get hosts k ≡ Some host
  pub opened : IsHostOf centre host
  pub one : KeptCentre
  pub is : slice_get kept k ≡ Some one
  pub closed : IsClosed host (column k rows) one

module _ (old : List CentreTrail) (hosts : List CentreHost) (rows : List (List CentrePass)) (kept : List KeptCentre) (opened : AllZip IsHostOf old hosts) (closed : AreClosed hosts rows kept) where
  -- there are as many
  pub as_many : length kept ≡ length old
  as_many = closed.number ∙ sym (zip_long IsHostOf old hosts opened)

  -- each centre has its host, and its trail behind the phase
  pub grown : (k : ℕ) → k < length old → HasGrown old hosts rows kept k
  grown k within =
      let centre = get_within old k within in
      let host = zip_get IsHostOf old hosts k centre.0 opened centre.1 in
      let one = get_within kept k (omega (arith, within, as_many)) in
      record { centre = centre.0; was = centre.1; host = host.partner; at = host.there; opened = host.related; one = one.0; is = one.1; closed = closed.each k host.partner one.0 host.there one.1 }

  -- each trail is longer by what is past the host's opening
  pub trail_grown : (k : ℕ) (g : HasGrown old hosts rows kept k) → trail_at (all_seen kept) (suc k) ≡ trail_at old (suc k) ++ g.closed.whole.0
  trail_grown k g =
      sym (trail_found kept k (suc k) g.one refl g.is)
      ∙ (g.closed.whole.1
      ∙ ap (λ front. front ++ g.closed.whole.0) (g.opened.opening ∙ sym (ap entries_of g.was)))

  -- what came out is kept
  pub all_kept : All IsKeptCentre kept
  all_kept = In-All IsKeptCentre kept (λ one there.
      let at = In_get kept one there in
      let g = grown at.0 (omega (arith, slice_get_within kept at.0 one at.1, as_many)) in
      subst IsKeptCentre (same_Some g.one one (sym g.is ∙ at.1)) g.closed.kept_at)

  -- each trail is a history
  pub all_histories : AreHistories (all_seen kept)
  all_histories = All-map (λ (centre : CentreTrail). History centre.settings centre.entries) seen_of kept (All-weaker IsKeptCentre (λ one. History (seen_of one).settings (seen_of one).entries) (λ one is. is.history) kept all_kept)

  -- with the settings that its centre had
  pub same_settings : settings_of (all_seen kept) ≡ settings_of old
  same_settings = lists_same (settings_of (all_seen kept)) (settings_of old)
      (length-map (all_seen kept) (λ (centre : CentreTrail). centre.settings) ∙ (length-map kept seen_of ∙ (as_many ∙ sym (length-map old (λ (centre : CentreTrail). centre.settings)))))
      same
    where
      same : (p : ℕ) (s : Settings) → slice_get (settings_of (all_seen kept)) p ≡ Some s → slice_get (settings_of old) p ≡ Some s
      same p s there =
          let later = get_source (λ (centre : CentreTrail). centre.settings) (all_seen kept) p s there in
          let one = get_source seen_of kept p later.source later.there in
          let g = grown p (omega (arith, slice_get_within kept p one.source one.there, as_many)) in
          let own : g.one ≡ one.source = same_Some g.one one.source (sym g.is ∙ one.there) in
          let settings : g.centre.settings ≡ s = same_Some g.centre.settings g.one.machine.settings (sym g.opened.settings ∙ g.closed.settings) ∙ (ap (λ (kept : KeptCentre). kept.machine.settings) own ∙ (ap (λ (centre : CentreTrail). centre.settings) one.gives ∙ later.gives)) in
          get_image (λ (centre : CentreTrail). centre.settings) old p g.centre g.was ∙ ap Some settings
