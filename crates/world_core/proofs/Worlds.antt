-- Worlds at first, and worlds in which an actor did more.
use Rattle.std.proofs.Common.{◌≡◌, ◌≢◌, ◌≤◌, ◌<◌, ℕ, zero, suc, ◌+◌, ◌-◌, ◌*◌, Bool, ⊎_elim, List, [], ◌++◌, map, length, Some, sym, ap, ◌∙◌, subst, arith}
use Rattle.std.specs.Prelude.{slice_get, slice_set}
use Rattle.std.specs.Option.{option_map}
use Rattle.std.specs.List.{range_with_len}
use Rattle.std.proofs.lemmas.Bool.{cases_eq}
use Rattle.std.proofs.lemmas.Option.{none-some, same_Some, slice_get-map, slice_get_within}
use Rattle.std.proofs.lemmas.List.{length-map}
use Rattle.std.proofs.lemmas.List.FromFn.{length-map-range_with_len}
use Rattle.std.proofs.Math.ListN.{length-set}
use Rattle.list_core.proofs.Gets.{get_within, all_get}
use Rattle.vv_core.specs.Vectors.{centres}
use Rattle.dc_talk.specs.declared.settings.Settings.{Settings}
use Rattle.dc_talk.specs.declared.log.Deed.{Deed}
use Rattle.dc_talk.specs.Logs.{Logged, entries_made}
use Rattle.dc_talk.specs.Answers.{History}
use Rattle.dc_talk.specs.Rule.{client_after}
use Rattle.dc_door.specs.Centres.{CentreTrail}
use Rattle.dc_door.specs.KeptDoors.{entries_of, trail_at}
use Rattle.ids_core.specs.declared.limits.TheConstants.{MOST_CENTRES}
use Rattle.script_core.specs.declared.script.Script.{Script}
use Rattle.script_core.specs.Scripts.{IsInRange}
use Rattle.client_stub.specs.Playing.{StubView}
use Rattle.run_book.specs.Setups.{Setup, setup_of, settings_among}
use Rattle.run_book.specs.Parts.{idle_log}
use Rattle.run_book.specs.Happenings.{Happened, notes_by, trail_in, happening, AreTogether, AreHistories}
use Rattle.run_book.proofs.Happenings.Entries.{own_then, other_then}
use Rattle.run_book.proofs.Happenings.Steps.{trail_marked}
use Rattle.run_book.proofs.Happenings.More.{together_none}
use Rattle.run_table.specs.declared.table.Table.{Table}
use Rattle.world_core.specs.Worlds.{WorldView, IsWorld, IsMailSent, Acts, stub_at, notes_in, log_after, seen_of}
use Rattle.run_table.specs.Tables.{AreHistories as AreKept, IsNew, new_stub, new_stubs, Turn, log_at}
use Rattle.world_core.specs.Runs.{IsSound}
use Rattle.run_table.proofs.Reading.{log_here, log_else, new_trails, new_settings, new_notes, new_actors}
use Rattle.run_table.proofs.Numbered.{get_below}
use Rattle.world_core.proofs.Mail.{new_mail}

-- ---- logs and clients by number

-- a client that was found at a place
pub stub_named : (stubs : List StubView) (client : ℕ) (stub : StubView) → 1 ≤ client → slice_get stubs (client - 1) ≡ Some stub → stub_at stubs client ≡ Some stub
stub_named stubs zero stub low there = absurd (omega (arith, low))
stub_named stubs (suc place) stub low there = let same : suc place - 1 ≡ place = omega arith in subst (λ k. slice_get stubs k ≡ Some stub) same there

-- and the place of one
pub stub_got : (stubs : List StubView) (client : ℕ) (stub : StubView) → stub_at stubs client ≡ Some stub → (1 ≤ client) × (slice_get stubs (client - 1) ≡ Some stub)
stub_got stubs zero stub there = absurd (none-some stub there)
stub_got stubs (suc place) stub there = let same : place ≡ suc place - 1 = omega arith in (omega arith, subst (λ k. slice_get stubs k ≡ Some stub) same there)

-- ---- at first

-- a new client is as its empty log says
new_client_is : (n cache clients client : ℕ) (stub : StubView) → stub_at (new_stubs n cache clients) client ≡ Some stub → stub.client ≡ client_after n client cache []
new_client_is n cache clients zero stub there = absurd (none-some stub there)
new_client_is n cache clients (suc place) stub there =
    let within = slice_get_within (new_stubs n cache clients) place stub there in
    let few : place < clients = omega (arith, within, length-map-range_with_len (new_stub n cache) 1 clients) in
    let same : new_stub n cache (1 + place) ≡ stub = same_Some (new_stub n cache (1 + place)) stub (sym (get_below (new_stub n cache) clients place few) ∙ there) in
    let next : 1 + place ≡ suc place = omega arith in
    ap (λ (stub : StubView). stub.client) (sym same) ∙ ap (λ client. client_after n client cache []) next

-- a world at first is one in which nothing happened
pub new_world : (script : Script) (spent : Bool) (table : Table) → script.n ≤ MOST_CENTRES → IsNew script table → IsWorld (seen_of script spent table) []
new_world script spent table few is = record {
  settings = ap (map (λ (centre : CentreTrail). centre.settings)) is.centres ∙ new_settings script.n script.k (setup_of script) (centres script.n);
  trails = λ i. ap (λ cs. trail_at cs i) is.centres ∙ new_trails script.n script.k script.limit i;
  stub_count = ap (λ (stubs : List StubView). length stubs) is.stubs ∙ length-map-range_with_len (new_stub script.n script.cache) 1 script.clients;
  stubs = λ client stub there. new_client_is script.n script.cache script.clients client stub (subst (λ stubs. stub_at stubs client ≡ Some stub) is.stubs there);
  log_count = ap (λ (logs : List Logged). length logs) is.logs ∙ length-map-range_with_len idle_log 1 (1 + script.clients + 4 * script.n);
  actors = λ actor low high.
      let count : length table.logs.items ≡ 1 + script.clients + 4 * script.n = ap (λ (logs : List Logged). length logs) is.logs ∙ length-map-range_with_len idle_log 1 (1 + script.clients + 4 * script.n) in
      ap (λ logs. (log_at logs actor).actor) is.logs ∙ new_actors (1 + script.clients + 4 * script.n) actor low (omega (arith, high, count));
  notes = λ actor. ap (λ logs. (log_at logs actor).notes) is.logs ∙ new_notes (range_with_len 1 (1 + script.clients + 4 * script.n)) actor;
  mail = subst (λ posts. IsMailSent script.n posts []) (sym is.posts) (new_mail script.n few);
  together = together_none script.n script.k (setup_of script);
}

-- ---- more of an actor

-- there are as many centres as the script says
pub centre_count : (w : WorldView) (all : List Happened) → IsWorld w all → length w.centres ≡ w.script.n
centre_count w all world = sym (length-map w.centres (λ (centre : CentreTrail). centre.settings)) ∙ (ap (λ (list : List Settings). length list) world.settings ∙ length-map-range_with_len (settings_among w.script.n w.script.k (setup_of w.script)) 1 w.script.n)

-- the trails of the centres are histories of theirs
pub histories_are : (n k : ℕ) (setup : Setup) (cs : List CentreTrail) (all : List Happened) → map (λ (centre : CentreTrail). centre.settings) cs ≡ map (settings_among n k setup) (centres n) → ((i : ℕ) → trail_at cs i ≡ trail_in i all) → AreKept cs → AreHistories n k setup all
histories_are n k setup cs all settings trails kept zero low high = absurd (omega (arith, low))
histories_are n k setup cs all settings trails kept (suc place) low high =
    let count : length cs ≡ n = sym (length-map cs (λ (centre : CentreTrail). centre.settings)) ∙ (ap (λ (list : List Settings). length list) settings ∙ length-map-range_with_len (settings_among n k setup) 1 n) in
    let one = get_within cs place (omega (arith, high, count)) in
    let next : 1 + place ≡ suc place = omega arith in
    let mine : slice_get (map (λ (centre : CentreTrail). centre.settings) cs) place ≡ Some one.0.settings = slice_get-map (λ (centre : CentreTrail). centre.settings) cs place ∙ ap (option_map (λ (centre : CentreTrail). centre.settings)) one.1 in
    let due : slice_get (map (settings_among n k setup) (centres n)) place ≡ Some (settings_among n k setup (suc place)) = get_below (settings_among n k setup) n place (omega (arith, high)) ∙ ap (λ i. Some (settings_among n k setup i)) next in
    let same : one.0.settings ≡ settings_among n k setup (suc place) = same_Some one.0.settings (settings_among n k setup (suc place)) (sym mine ∙ (ap (λ (list : List Settings). slice_get list place) settings ∙ due)) in
    let trail : one.0.entries ≡ trail_in (suc place) all = sym (ap entries_of one.1) ∙ trails (suc place) in
    let history : History one.0.settings one.0.entries = all_get (λ (centre : CentreTrail). History centre.settings centre.entries) cs place one.0 kept one.1 in
    subst (λ s. History s (trail_in (suc place) all)) same (subst (λ es. History one.0.settings es) trail history)

-- what an actor did in its turn, as its log and the trails show it
pub record HasActed (turn : Turn) (deeds : List Deed) (old new : Table) : Type 0 where
  pub range : (1 ≤ turn.actor) × (turn.actor ≤ length old.logs.items)
  pub logs : new.logs.items ≡ slice_set old.logs.items (turn.actor - 1) (log_after turn deeds (log_at old.logs.items turn.actor))
  pub settings : map (λ centre. centre.settings) new.door.centres ≡ map (λ centre. centre.settings) old.door.centres
  pub trails : (i : ℕ) → trail_at new.door.centres i ≡ trail_at old.door.centres i ++ entries_made turn.actor i deeds
  pub kept : AreKept new.door.centres
  pub stub_count : length new.stubs.items ≡ length old.stubs.items

module _ (turn : Turn) (deeds : List Deed) (script : Script) (spent : Bool) (old new : Table) (did : HasActed turn deeds old new) (all : List Happened) (w : IsWorld (seen_of script spent old) all) where
  -- all that happened then
  abbrev pub more : List Happened
  more = all ++ happening turn.actor (notes_in turn deeds)

  pub trails_then : (i : ℕ) → trail_at new.door.centres i ≡ trail_in i more
  trails_then i = did.trails i ∙ (ap (λ es. es ++ entries_made turn.actor i deeds) (w.trails i) ∙ sym (trail_marked turn.actor i turn.section turn.step all deeds))

  settings_then : map (λ (centre : CentreTrail). centre.settings) new.door.centres ≡ map (settings_among script.n script.k (setup_of script)) (centres script.n)
  settings_then = did.settings ∙ w.settings

  -- each trail is a history of its centre
  pub histories_then : AreHistories script.n script.k (setup_of script) more
  histories_then = histories_are script.n script.k (setup_of script) new.door.centres more settings_then trails_then did.kept

  -- the logs then
  log_then : (a : ℕ) → (log_at new.logs.items a).notes ≡ notes_by a more
  log_then a = ⊎_elim own other (cases_eq a turn.actor)
    where
      own : a ≡ turn.actor → (log_at new.logs.items a).notes ≡ notes_by a more
      own is = subst (λ b. (log_at new.logs.items b).notes ≡ notes_by b more) (sym is)
          (ap (λ logs. (log_at logs turn.actor).notes) did.logs
          ∙ (ap (λ (log : Logged). log.notes) (log_here old.logs.items turn.actor (log_after turn deeds (log_at old.logs.items turn.actor)) did.range.0 did.range.1)
          ∙ (ap (λ ns. ns ++ notes_in turn deeds) (w.notes turn.actor)
          ∙ sym (own_then turn.actor all (notes_in turn deeds)))))

      other : a ≢ turn.actor → (log_at new.logs.items a).notes ≡ notes_by a more
      other differs = ap (λ logs. (log_at logs a).notes) did.logs
          ∙ (ap (λ (log : Logged). log.notes) (log_else old.logs.items turn.actor a (log_after turn deeds (log_at old.logs.items turn.actor)) did.range.0 differs)
          ∙ (w.notes a
          ∙ sym (other_then turn.actor a all (notes_in turn deeds) (λ same. differs (sym same)))))

  log_count_then : length new.logs.items ≡ length old.logs.items
  log_count_then = ap (λ (logs : List Logged). length logs) did.logs ∙ length-set old.logs.items (turn.actor - 1) (log_after turn deeds (log_at old.logs.items turn.actor))

  actor_then : (a : ℕ) → 1 ≤ a → a ≤ length new.logs.items → (log_at new.logs.items a).actor ≡ a
  actor_then a low high = ⊎_elim own other (cases_eq a turn.actor)
    where
      own : a ≡ turn.actor → (log_at new.logs.items a).actor ≡ a
      own is = subst (λ b. (log_at new.logs.items b).actor ≡ b) (sym is)
          (ap (λ logs. (log_at logs turn.actor).actor) did.logs
          ∙ (ap (λ (log : Logged). log.actor) (log_here old.logs.items turn.actor (log_after turn deeds (log_at old.logs.items turn.actor)) did.range.0 did.range.1)
          ∙ w.actors turn.actor did.range.0 did.range.1))

      other : a ≢ turn.actor → (log_at new.logs.items a).actor ≡ a
      other differs = ap (λ logs. (log_at logs a).actor) did.logs
          ∙ (ap (λ (log : Logged). log.actor) (log_else old.logs.items turn.actor a (log_after turn deeds (log_at old.logs.items turn.actor)) did.range.0 differs)
          ∙ w.actors a low (omega (arith, high, log_count_then)))

  -- the world then
  pub world_then : (after : Bool) → ((client : ℕ) (stub : StubView) → stub_at new.stubs.items client ≡ Some stub → stub.client ≡ client_after script.n client script.cache (notes_by (client + 1) more)) → IsMailSent script.n new.posts more → AreTogether script.n script.k (setup_of script) more → IsWorld (seen_of script after new) more
  world_then after stubs mail together = record {
    settings = settings_then;
    trails = trails_then;
    stub_count = did.stub_count ∙ w.stub_count;
    stubs = stubs;
    log_count = log_count_then ∙ w.log_count;
    actors = actor_then;
    notes = log_then;
    mail = mail;
    together = together;
  }

-- a sound world is sound after an actor's turn
pub goes_sound : (turn : Turn) (deeds : List Deed) (old new : WorldView) → IsSound old → Acts turn deeds old new → IsSound new
goes_sound turn deeds old new sound acts = record {
  range = subst IsInRange (sym acts.script) sound.range;
  all = sound.all ++ happening turn.actor (notes_in turn deeds);
  world = acts.goes_on sound.all sound.world;
}
