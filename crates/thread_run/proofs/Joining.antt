-- Section after section of a script, as the table shows them, and the book of all.
use Rattle.std.proofs.Common.{◌≡◌, ◌≤◌, ◌<◌, ⊎_elim, ℕ, zero, suc, ◌+◌, ◌-◌, ◌*◌, List, [], ◌∷◌, ◌++◌, map, length, length-append, get_or, replicate, take, cond, ◌==◌, inl, Some, None, refl, sym, ap, ◌∙◌, subst, arith}
use Rattle.std.specs.Prelude.{slice_get, All, flat_map, Result, Ok, Err, IfOk}
use Rattle.std.specs.Option.{option_map}
use Rattle.std.specs.List.{range_with_len}
use Rattle.std.proofs.lemmas.Bool.{cases_lt}
use Rattle.std.proofs.lemmas.Option.{same_Some, slice_get-map, slice_get_past, get_or_from_slice_get}
use Rattle.std.proofs.lemmas.List.{append-nil, length-map, nil_from_length, take_more, length-take-le}
use Rattle.std.proofs.lemmas.List.Elements.{All-map}
use Rattle.std.proofs.lemmas.List.FromFn.{length-map-range_with_len}
use Rattle.std.proofs.lemmas.Grind.{flat_map-append}
use Rattle.list_core.specs.Members.{In}
use Rattle.list_core.proofs.Gets.{get_within, all_get}
use Rattle.list_core.proofs.Moments.{each_none}
use Rattle.dc_talk.specs.declared.log.Deed.{Deed}
use Rattle.dc_talk.specs.declared.log.Note.{Note}
use Rattle.dc_talk.specs.declared.settings.Settings.{Settings}
use Rattle.dc_talk.specs.Entries.{Entry}
use Rattle.dc_talk.specs.Logs.{Logged}
use Rattle.dc_talk.specs.Answers.{History}
use Rattle.dc_talk.specs.Clients.{Client, new_client}
use Rattle.dc_talk.specs.Rule.{Follows, client_after}
use Rattle.dc_door.specs.Centres.{CentreTrail, new_centre}
use Rattle.dc_door.specs.KeptDoors.{entries_of, trail_at, settings_of}
use Rattle.dc_mail.specs.Posts.{post_at, place_of}
use Rattle.vv_core.specs.Vectors.{centres}
use Rattle.ids_core.specs.declared.limits.TheConstants.{MOST_CENTRES}
use Rattle.script_core.specs.declared.script.Script.{Script}
use Rattle.script_core.specs.declared.taps.TapState.{TapState}
use Rattle.script_core.specs.declared.steps.ClientStep.{ClientStep}
use Rattle.script_core.specs.declared.steps.ClientStep.TheVariants.{Look}
use Rattle.script_core.specs.declared.steps.OperatorStep.{OperatorStep}
use Rattle.script_core.specs.declared.steps.OperatorStep.TheVariants.{Feed}
use Rattle.script_core.specs.declared.steps.Section.{Section}
use Rattle.script_core.specs.Deeds.{Progress}
use Rattle.script_core.specs.Mail.{Post, new_post}
use Rattle.script_core.specs.Rows.{IsSection}
use Rattle.script_core.specs.Scripts.{header_of, IsInRange}
use Rattle.script_core.specs.Steps.{IsCount, IsStep, IsOperatorStep}
use Rattle.script_core.specs.Feeds.{FeedDeeds, show_in}
use Rattle.script_core.specs.Taps.{first_tap, FeedsSo, LooksSo, fed_tap, looks, seen_through, taps_then}
use Rattle.client_stub.specs.Playing.{StubView}
use Rattle.run_book.specs.declared.book.Book.{Book}
use Rattle.run_book.specs.Setups.{setup_of, settings_among}
use Rattle.run_book.specs.Parts.{idle_log, exchanged}
use Rattle.run_book.specs.Happenings.{IsLinkWithin}
use Rattle.run_book.specs.Moves.{client_steps, operator_steps}
use Rattle.run_book.specs.Played.{new_progress}
use Rattle.run_table.specs.declared.table.Table.{Table}
use Rattle.run_table.specs.Tables.{log_at, IsNew, new_stub}
use Rattle.run_table.specs.Taps.{no_tap, taps_of}
use Rattle.run_table.proofs.Reading.{new_trails, new_settings, new_notes, new_actors, trails_match, logs_match}
use Rattle.run_table.proofs.Numbered.{get_below}
use Rattle.run_sections.specs.Apart.{AreApart, StandsAt, IsBookWith, notes_then, trails_then}
use Rattle.run_sections.specs.Orders.{deeds_of, InOrder, ClientGoes, intake}
use Rattle.run_sections.proofs.Tapping.{taps_alike}
use Rattle.run_sections.specs.Runs.{no_sections, IsSectionRunOf}
use Rattle.run_sections.specs.Sections.{actors_of, Between, first_between, Left, PlaysSection, linked}
use Rattle.run_sections.proofs.Actors.{client_acts, carrier_acts}
use Rattle.run_sections.proofs.Fits.{fits_apart}
use Rattle.run_sections.proofs.Reaching.{client_sound, operator_sound, link_there}
use Rattle.run_sections.proofs.Orders.{sections_more}
use Rattle.run_sections.proofs.Sectioning.{none_apart, none_stands, section_apart}
use Rattle.run_steps.proofs.Who.{behind_who}
use Rattle.thread_run.specs.Played.{AreAlike, HasRun}
use Rattle.thread_run.specs.Tables.{notes_at, between_of, AreLinked, AreNumbered, AreWide, IsTableOf, HasPlayed}
use Rattle.thread_run.specs.Taps.{IsWide}
use Rattle.thread_run.proofs.Wide.{wide_sections, wide_first}
use Rattle.thread_run.proofs.Taking.{centres_many, come_at}

-- ---- the trails of a table

-- the trail of a centre is a history of it
histories_at : (script : Script) (table : Table) → IsTableOf script table → (i : ℕ) → IsCount script.n i → History (settings_among script.n script.k (setup_of script) i) (trail_at table.door.centres i)
histories_at script table is zero range = absurd (omega (arith, range.0))
histories_at script table is (suc place) range =
    let cs : List CentreTrail = table.door.centres in
    let one = get_within cs place (omega (arith, range.1, centres_many script table is)) in
    let next : 1 + place ≡ suc place = omega arith in
    let mine : slice_get (settings_of cs) place ≡ Some one.0.settings = slice_get-map (λ (centre : CentreTrail). centre.settings) cs place ∙ ap (option_map (λ (centre : CentreTrail). centre.settings)) one.1 in
    let due : slice_get (map (settings_among script.n script.k (setup_of script)) (centres script.n)) place ≡ Some (settings_among script.n script.k (setup_of script) (suc place)) = get_below (settings_among script.n script.k (setup_of script)) script.n place (omega (arith, range.1)) ∙ ap (λ i. Some (settings_among script.n script.k (setup_of script) i)) next in
    let same : one.0.settings ≡ settings_among script.n script.k (setup_of script) (suc place) = same_Some one.0.settings (settings_among script.n script.k (setup_of script) (suc place)) (sym mine ∙ (ap (λ (list : List Settings). slice_get list place) is.settings ∙ due)) in
    let trail : one.0.entries ≡ trail_at cs (suc place) = sym (ap entries_of one.1) in
    let history : History one.0.settings one.0.entries = all_get (λ (centre : CentreTrail). History centre.settings centre.entries) cs place one.0 is.histories one.1 in
    subst (λ s. History s (trail_at cs (suc place))) same (subst (λ es. History one.0.settings es) trail history)

-- no entry is outside of the centres
pub trail_past : (script : Script) (table : Table) → IsTableOf script table → (i : ℕ) → (IsCount script.n i → ⊥) → trail_at table.door.centres i ≡ []
trail_past script table is zero none = refl
trail_past script table is (suc place) none =
    let past : script.n ≤ place = ⊎_elim (λ (within : place < script.n). absurd (none (omega arith, omega (arith, within)))) (λ (past : script.n ≤ place). past) (cases_lt place script.n) in
    ap entries_of (slice_get_past table.door.centres place (omega (arith, past, centres_many script table is)))

-- what stands behind nothing is nothing
none_behind : {X : Type 0} (front more whole : List X) → whole ≡ front ++ more → whole ≡ [] → more ≡ []
none_behind front more whole is none = nil_from_length more (omega (arith, length-append front more, ap (λ xs. length xs) is, ap (λ xs. length xs) none))

-- ---- notes and trails that are the same

module _ (script : Script) (notes other : ℕ → List Note) (same : (a : ℕ) → IsCount (actors_of script) a → other a ≡ notes a) where
  -- they belong together as these do
  apart_as : (trails behind : ℕ → List Entry) → ((i : ℕ) → behind i ≡ trails i) → AreApart script notes trails → AreApart script other behind
  apart_as trails behind is apart = subst (AreApart script other) (sym (λ k i. is i k)) (record {
    histories = apart.histories;
    outside = apart.outside;
    callers = apart.callers;
    paired = λ i a centre actor. apart.paired i a centre actor ∙ ap (exchanged i) (sym (same a actor));
    reach = λ a note actor there. apart.reach a note actor (subst (In note) (same a actor) there);
    clients = λ client range. subst (Follows script.n client script.cache) (sym (same (client + 1) (client_acts script client range))) (apart.clients client range);
    carriers = λ a note carrier there. apart.carriers a note carrier (subst (In note) (same a (carrier_acts script a carrier)) there);
  })

  -- clients stand where they were made
  stands_as : (one two : Between) → AreAlike script one two → StandsAt script notes one → StandsAt script other two
  stands_as one two alike stands = record {
    clients = λ client range. ap (λ (p : Progress). p.client) (sym (alike.come client range)) ∙ (stands.clients client range ∙ ap (client_after script.n client script.cache) (sym (same (client + 1) (client_acts script client range))));
    own = λ client range. ap (λ (p : Progress). p.notes) (sym (alike.come client range)) ∙ (stands.own client range ∙ sym (same (client + 1) (client_acts script client range)));
    none_held = λ from to f t differs. ap (λ inlet. inlet.held) (sym (alike.inlets from to f t)) ∙ stands.none_held from to f t differs;
  }

-- the same between two sections
alike_itself : (script : Script) (here : Between) → AreAlike script here here
alike_itself script here = record { come = λ client range. refl; inlets = λ from to f t. refl; taps = λ i range. refl }

-- a section that was played from there on
plays_alike : (script : Script) (number : ℕ) (section : Section) (one two new : Between) (left : Left) → IsSection (header_of script) section → AreAlike script one two → PlaysSection script number section two left new → PlaysSection script number section one left new
plays_alike script number section one two new left sound alike plays = record {
  clients = λ client range. subst (λ p. InOrder ClientGoes number 1 p (client_steps client section) (left.notes (client + 1)) (new.come client)) (sym (alike.come client range)) (plays.clients client range);
  operator = plays.operator;
  senders = plays.senders;
  receivers = λ j range.
      let r = plays.receivers j range in
      record {
        first = r.first;
        last = r.last;
        begins = λ from other differs. r.begins from other differs ∙ ap (λ inlet. intake (linked (operator_steps section) from j inlet) []) (sym (alike.inlets from j other range));
        order = r.order;
        all = r.all;
        inlets = r.inlets;
      };
  reporters = plays.reporters;
  pruners = plays.pruners;
  taps = taps_alike script number section one two new left sound (λ i range. sym (alike.taps i range)) plays.taps;
  callers = plays.callers;
  paired = plays.paired;
}

-- ---- before the first section

-- each element of a list of one thing is that thing
replicate_or : {X : Type 0} (count place : ℕ) (x : X) → get_or (replicate count x) place x ≡ x
replicate_or zero place x = refl
replicate_or (suc count) zero x = refl
replicate_or (suc count) (suc place) x = replicate_or count place x

module _ (script : Script) (table : Table) (new : IsNew script table) where
  -- a new table is one of the script
  new_is : IsTableOf script table
  new_is = record {
    settings = ap settings_of new.centres ∙ new_settings script.n script.k (setup_of script) (centres script.n);
    histories = subst (All (λ (centre : CentreTrail). History centre.settings centre.entries)) (sym new.centres) (All-map (λ (centre : CentreTrail). History centre.settings centre.entries) (new_centre script.n script.k script.limit) (centres script.n) (λ k me lt. each_none _));
    stubs = ap (λ (stubs : List StubView). length stubs) new.stubs ∙ length-map-range_with_len (new_stub script.n script.cache) 1 script.clients;
    logs = ap (λ (logs : List Logged). length logs) new.logs ∙ length-map-range_with_len idle_log 1 (actors_of script);
    actors = λ a range. ap (λ logs. (log_at logs a).actor) new.logs ∙ new_actors (actors_of script) a range.0 range.1;
  }

  -- it has no notes
  no_notes : (a : ℕ) → notes_at table a ≡ []
  no_notes a = ap (λ logs. (log_at logs a).notes) new.logs ∙ new_notes (range_with_len 1 (actors_of script)) a

  -- and no entries
  no_trails : (i : ℕ) → trail_at table.door.centres i ≡ []
  no_trails i = ap (λ cs. trail_at cs i) new.centres ∙ new_trails script.n script.k script.limit i

  -- its clients have not begun
  new_come : (client : ℕ) → IsCount script.clients client → new_progress script.n client script.cache ≡ (between_of script table).come client
  new_come client range =
      let number : 1 + (client - 1) ≡ client = omega (arith, range.0) in
      let there : slice_get table.stubs.items (client - 1) ≡ Some (new_stub script.n script.cache client) =
      ap (λ (stubs : List StubView). slice_get stubs (client - 1)) new.stubs
      ∙ (get_below (new_stub script.n script.cache) script.clients (client - 1) (omega (arith, range.0, range.1))
      ∙ ap (λ client. Some (new_stub script.n script.cache client)) number) in
      sym (come_at script table client (new_stub script.n script.cache client) there
      ∙ (λ k. record { client = new_client script.n client script.cache; armed = None; notes = no_notes (client + 1) k }))

  -- its taps show what is shown at first
  new_taps_show : (i : ℕ) → IsCount script.n i → first_tap script.n script.taps i ≡ taps_of table.taps.items i
  new_taps_show zero range = absurd (omega (arith, range.0))
  new_taps_show (suc place) range =
      let next : 1 + place ≡ suc place = omega arith in
      let there : slice_get table.taps.items place ≡ Some (first_tap script.n script.taps (suc place)) =
      ap (λ (taps : List TapState). slice_get taps place) new.taps
      ∙ (get_below (first_tap script.n script.taps) script.n place (omega (arith, range.1))
      ∙ ap (λ i. Some (first_tap script.n script.taps i)) next) in
      sym (get_or_from_slice_get table.taps.items place (first_tap script.n script.taps (suc place)) no_tap there)

  new_alike : AreAlike script (first_between script) (between_of script table)
  new_alike = record {
    come = new_come;
    inlets = λ from to f t. sym (ap (λ posts. (post_at posts from to).inlet) new.posts ∙ ap (λ (post : Post). post.inlet) (replicate_or (MOST_CENTRES * MOST_CENTRES) (place_of from to) new_post));
    taps = new_taps_show;
  }

  -- no section was played
  pub none_run : HasRun script [] table
  none_run = record {
    is = new_is;
    lefts = [];
    last = first_between script;
    plays = no_sections;
    alike = new_alike;
    notes = λ a range. no_notes a;
    trails = no_trails;
    apart = apart_as script (λ a. []) (notes_at table) (λ a range. no_notes a) (λ i. []) (trail_at table.door.centres) no_trails (none_apart script);
    stands = stands_as script (λ a. []) (notes_at table) (λ a range. no_notes a) (first_between script) (between_of script table) new_alike (none_stands script);
  }

-- ---- one section more

-- what was left by all sections, with one more
lefts_more : {X : Type 0} (f : Left → List X) (lefts : List Left) (left : Left) (before now : List X) → before ≡ flat_map f lefts → now ≡ before ++ f left → now ≡ flat_map f (lefts ++ left ∷ [])
lefts_more f lefts left before now were are =
    are
    ∙ (ap (λ before. before ++ f left) were
    ∙ sym (flat_map-append f lefts (left ∷ []) ∙ ap (λ more. flat_map f lefts ++ more) (append-nil (f left))))

module _ (script : Script) (front : List Section) (table : Table) (run : HasRun script front table) where
  -- the links of the clients are to centres that there are
  pub run_linked : AreLinked script table
  run_linked client range =
      subst (λ (s : Client). IsLinkWithin script.n s.link) (sym (run.stands.clients client range))
      (link_there script (notes_at table) (trail_at table.door.centres) run.apart client range)

  -- each client has its own number
  pub run_numbered : AreNumbered script table
  run_numbered client range = ap (λ (s : Client). s.client) (run.stands.clients client range) ∙ behind_who (new_client script.n client script.cache) (notes_at table (client + 1))

  -- each tap shows a state of each of its objects
  pub run_wide : AreWide script table
  run_wide i range = subst IsWide (run.alike.taps i range) (wide_sections script 1 (first_between script) run.last front run.lefts i range run.plays (wide_first script i))

  -- one section more was played
  pub run_more : (number : ℕ) (section : Section) (new : Table) → number ≡ 1 + length front → IsSection (header_of script) section → HasPlayed script number section table new → HasRun script (front ++ section ∷ []) new
  run_more number section new is sound played =
      let left : Left = played.left in
      let together = section_apart script number section (between_of script table) left (between_of script new) (notes_at table) (trail_at table.door.centres) sound run.apart run.stands played.plays
      (λ i centre. subst (History (settings_among script.n script.k (setup_of script) i)) (played.trails i) (histories_at script new played.is i centre))
      (λ i none. none_behind (trail_at table.door.centres i) (left.entries i) (trail_at new.door.centres i) (played.trails i) (trail_past script new played.is i none))
      played.allowed in
      record {
        is = played.is;
        lefts = run.lefts ++ left ∷ [];
        last = between_of script new;
        plays = sections_more script 1 number (first_between script) run.last (between_of script new) front section run.lefts left is run.plays (plays_alike script number section run.last (between_of script table) (between_of script new) left sound run.alike played.plays);
        alike = alike_itself script (between_of script new);
        notes = λ a range. lefts_more (λ (left : Left). left.notes a) run.lefts left (notes_at table a) (notes_at new a) (run.notes a range) (played.notes a range);
        trails = λ i. lefts_more (λ (left : Left). left.entries i) run.lefts left (trail_at table.door.centres i) (trail_at new.door.centres i) (run.trails i) (played.trails i);
        apart = apart_as script (notes_then (notes_at table) left) (notes_at new) played.notes (trails_then (trail_at table.door.centres) left) (trail_at new.door.centres) played.trails together.0;
        stands = stands_as script (notes_then (notes_at table) left) (notes_at new) played.notes (between_of script new) (between_of script new) (alike_itself script (between_of script new)) together.1;
      }

-- the section at a place is a sound one
pub section_at : (script : Script) (sections : List Section) (place : ℕ) (section : Section) → sections ≡ script.sections → place < length sections → section ≡ get_or sections place section → IsInRange script → IsSection (header_of script) section
section_at script sections place section are lt is range =
    subst (IsSection (header_of script)) (sym is) (subst (All (IsSection (header_of script))) (sym are) range.sections place section lt)

-- so with the section at the next place
pub run_next : (script : Script) (sections : List Section) (place : ℕ) (section : Section) (table new : Table) → sections ≡ script.sections → place < length sections → section ≡ get_or sections place section → IsInRange script → HasRun script (take place sections) table → HasPlayed script (place + 1) section table new → HasRun script (take (place + 1) sections) new
run_next script sections place section table new are lt is range run played =
    let more : take (place + 1) sections ≡ take place sections ++ section ∷ [] = take_more sections place section lt ∙ ap (λ section. take place sections ++ section ∷ []) (sym is) in
    let many : length (take place sections) ≡ place = length-take-le place sections (omega (arith, lt)) in
    subst (λ sections. HasRun script sections new) (sym more)
    (run_more script (take place sections) table run (place + 1) section new (omega (arith, many)) (section_at script sections place section are lt is range) played)

-- ---- the book

-- the book of a table has its notes and trails
pub table_book : (script : Script) (table : Table) (b : Book) → IsTableOf script table → b.n ≡ script.n → b.k ≡ script.k → b.trails ≡ map (λ (centre : CentreTrail). centre.entries) table.door.centres → b.logs ≡ table.logs.items → IsBookWith script b (notes_at table) (trail_at table.door.centres)
table_book script table b is n k trails logs = record {
  n = n;
  k = k;
  trail_count = ap (λ (trails : List (List Entry)). length trails) trails ∙ (length-map table.door.centres (λ (centre : CentreTrail). centre.entries) ∙ centres_many script table is);
  log_count = ap (λ (logs : List Logged). length logs) logs ∙ is.logs;
  trails_are = λ i range. trails_match table.door.centres b i trails;
  actors = λ a range. ap (λ (log : Logged). log.actor) (logs_match table.logs.items b a logs) ∙ is.actors a range;
  notes_are = λ a range. ap (λ (log : Logged). log.notes) (logs_match table.logs.items b a logs);
}

-- so the book is a run of the script
run_book : (script : Script) (table : Table) (b : Book) → IsInRange script → HasRun script script.sections table → IsBookWith script b (notes_at table) (trail_at table.door.centres) → IsSectionRunOf script b
run_book script table b range run is = record {
  n = is.n;
  k = is.k;
  fits = fits_apart script b (notes_at table) (trail_at table.door.centres) range run.apart is;
  steps = record {
    lefts = run.lefts;
    last = run.last;
    plays = run.plays;
    notes = λ a there. is.notes_are a there ∙ run.notes a there;
    trails = λ i centre. is.trails_are i centre ∙ run.trails i;
  };
}

-- where there is one
pub run_of : {E : Type 0} (script : Script) (table : Table) (r : Result Book E) → IsInRange script → HasRun script script.sections table → IfOk r (λ b. IsBookWith script b (notes_at table) (trail_at table.door.centres)) → IfOk r (IsSectionRunOf script)
run_of script table (Ok b) range run is = run_book script table b range run is
run_of script table (Err e) range run is = tt
