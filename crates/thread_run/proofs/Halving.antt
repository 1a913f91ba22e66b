-- Crews taken apart around their closing rounds, and the parts of all actors behind them.
use Rattle.std.proofs.Common.{◌≡◌, ◌<◌, ℕ, ◌+◌, ◌-◌, List, [], ◌∷◌, ◌++◌, map, length, append_assoc, append-nil, Some, refl, sym, ap, ◌∙◌, subst, arith}
use Rattle.std.specs.Prelude.{flat_map, All, slice_get}
use Rattle.std.specs.List.{AllZip, range_with_len}
use Rattle.std.specs.Option.{option_map}
use Rattle.std.specs.Global.{Vec}
use Rattle.std.proofs.lemmas.List.{map-append, length-map}
use Rattle.std.proofs.lemmas.List.FromFn.{length-range_with_len, get_or-range_with_len}
use Rattle.std.proofs.lemmas.List.Elements.{All-map}
use Rattle.std.proofs.lemmas.Option.{slice_get-map, slice_get-get_or, get_or_from_slice_get, same_Some}
use Rattle.std.proofs.lemmas.Simd.{map-map}
use Rattle.list_core.proofs.Gets.{get_within, all_get}
use Rattle.vv_core.specs.Vectors.{centres}
use Rattle.dc_talk.specs.declared.sent.Sent.{Sent}
use Rattle.mail_link.specs.Ends.{GiverView}
use Rattle.client_stub.specs.Playing.{StubView}
use Rattle.script_core.specs.Steps.{IsCount}
use Rattle.dc_links.specs.Links.{AreGiverRows, AreGivers, rows_of, row_of}
use Rattle.phase_actors.specs.declared.callers.Caller.{Caller}
use Rattle.phase_actors.specs.declared.receivers.ReceiverEnd.{ReceiverEnd}
use Rattle.phase_play.specs.declared.crews.Crew.{Crew}
use Rattle.phase_actors.specs.declared.clients.Player.{Player}
use Rattle.phase_actors.specs.declared.scene.Scene.{Scene}
use Rattle.phase_play.specs.declared.threads.Cast.{Cast}
use Rattle.phase_actors.specs.Scenes.{IsScene}
use Rattle.phase_actors.specs.Actors.{HasClosed}
use Rattle.phase_play.specs.Casts.{IsCrewOf}
use Rattle.thread_run.specs.declared.parts.Parts.{Parts}
use Rattle.thread_run.specs.declared.closing.Half.{Half}
use Rattle.thread_run.specs.declared.closing.Halves.{Halves}
use Rattle.thread_run.specs.Casts.{AreNoParts, HasCaller, crew_callers, HasCrewClosed, HaveParted}
use Rattle.thread_run.specs.Closing.{half_of, AreHalves, IsHalfOf, half_callers, HasMore, HasClosedHalf, all_callers, HaveClosed, HasClients}
use Rattle.thread_run.proofs.Zips.{zip_append}

-- four more, one after another
four_more : {X : Type 0} (old one two three new : List X) (a b c d : X) → one ≡ old ++ a ∷ [] → two ≡ one ++ b ∷ [] → three ≡ two ++ c ∷ [] → new ≡ three ++ d ∷ [] → new ≡ old ++ a ∷ b ∷ c ∷ d ∷ []
four_more old one two three new a b c d first second third fourth =
    fourth
    ∙ (ap (λ three. three ++ d ∷ []) third
    ∙ (append_assoc two (c ∷ []) (d ∷ [])
    ∙ (ap (λ two. two ++ c ∷ d ∷ []) second
    ∙ (append_assoc one (b ∷ []) (c ∷ d ∷ [])
    ∙ (ap (λ one. one ++ b ∷ c ∷ d ∷ []) first
    ∙ append_assoc old (a ∷ []) (b ∷ c ∷ d ∷ []))))))

-- the parts of a half, one after another
pub half_parted : (old one two three four new : Parts) (half : Half) (receiver : ReceiverEnd) → HasCaller old half.sender one → HasCaller one receiver.caller two → HasCaller two half.reporter three → HasCaller three half.pruner four → new.rows ≡ four.rows → new.logs ≡ four.logs → new.stubs ≡ four.stubs → new.givers ≡ four.givers → new.takers.items ≡ four.takers.items ++ receiver.takers ∷ [] → new.inlets.items ≡ four.inlets.items ++ receiver.inlets ∷ [] → HasMore old (half_callers half receiver) (receiver ∷ []) new
half_parted old one two three four new half receiver a b c d rows logs stubs givers takers inlets = record {
  rows = four_more old.rows.items one.rows.items two.rows.items three.rows.items new.rows.items half.sender.row receiver.caller.row half.reporter.row half.pruner.row a.rows b.rows c.rows (ap (λ rows. rows.items) rows ∙ d.rows);
  logs = four_more old.logs.items one.logs.items two.logs.items three.logs.items new.logs.items half.sender.log receiver.caller.log half.reporter.log half.pruner.log a.logs b.logs c.logs (ap (λ logs. logs.items) logs ∙ d.logs);
  stubs = stubs ∙ (d.stubs ∙ (c.stubs ∙ (b.stubs ∙ a.stubs)));
  givers = givers ∙ (d.givers ∙ (c.givers ∙ (b.givers ∙ a.givers)));
  takers = takers ∙ ap (λ takers. takers.items ++ receiver.takers ∷ []) (d.takers ∙ (c.takers ∙ (b.takers ∙ a.takers)));
  inlets = inlets ∙ ap (λ inlets. inlets.items ++ receiver.inlets ∷ []) (d.inlets ∙ (c.inlets ∙ (b.inlets ∙ a.inlets)));
}

-- ---- all halves

-- what some give, and what more give
join_more : {X Y : Type 0} (f : X → Y) (xs ys : List X) (old mid new : List Y) → mid ≡ old ++ map f xs → new ≡ mid ++ map f ys → new ≡ old ++ map f (xs ++ ys)
join_more f xs ys old mid new before later =
    later
    ∙ (ap (λ mid. mid ++ map f ys) before
    ∙ (append_assoc old (map f xs) (map f ys)
    ∙ ap (λ more. old ++ more) (sym (map-append f xs ys))))

-- what was added in two steps
more_then : (old mid new : Parts) (callers more : List Caller) (receivers behind : List ReceiverEnd) → HasMore old callers receivers mid → HasMore mid more behind new → HasMore old (callers ++ more) (receivers ++ behind) new
more_then old mid new callers more receivers behind before later = record {
  rows = join_more (λ (caller : Caller). caller.row) callers more old.rows.items mid.rows.items new.rows.items before.rows later.rows;
  logs = join_more (λ (caller : Caller). caller.log) callers more old.logs.items mid.logs.items new.logs.items before.logs later.logs;
  stubs = later.stubs ∙ before.stubs;
  givers = later.givers ∙ before.givers;
  takers = join_more (λ (receiver : ReceiverEnd). receiver.takers) receivers behind old.takers.items mid.takers.items new.takers.items before.takers later.takers;
  inlets = join_more (λ (receiver : ReceiverEnd). receiver.inlets) receivers behind old.inlets.items mid.inlets.items new.inlets.items before.inlets later.inlets;
}

-- the callers of one half more
callers_more : (R : Half → ReceiverEnd → Type 0) (halves : List Half) (receivers : List ReceiverEnd) (half : Half) (receiver : ReceiverEnd) → AllZip R halves receivers → all_callers (halves ++ half ∷ []) (receivers ++ receiver ∷ []) ≡ all_callers halves receivers ++ half_callers half receiver
callers_more R [] [] half receiver all = refl
callers_more R [] (r ∷ receivers) half receiver all = absurd all
callers_more R (h ∷ halves) [] half receiver all = absurd all
callers_more R (h ∷ halves) (r ∷ receivers) half receiver all =
    ap (λ rest. half_callers h r ++ rest) (callers_more R halves receivers half receiver all.1)
    ∙ sym (append_assoc (half_callers h r) (all_callers halves receivers) (half_callers half receiver))

module _ (scene : Scene) (givers : List (List (GiverView Sent))) where
  -- before the first half
  pub closed_begin : (old : Parts) → HaveClosed scene givers old [] old
  closed_begin old = record {
    receivers = [];
    closed = tt;
    more = record {
      rows = sym (append-nil old.rows.items);
      logs = sym (append-nil old.logs.items);
      stubs = refl;
      givers = refl;
      takers = sym (append-nil old.takers.items);
      inlets = sym (append-nil old.inlets.items);
    };
  }

  -- one half more
  pub closed_more : (old parts new : Parts) (halves : List Half) (half : Half) → HaveClosed scene givers old halves parts → HasClosedHalf scene givers parts half new → HaveClosed scene givers old (halves ++ half ∷ []) new
  closed_more old parts new halves half before one = record {
    receivers = before.receivers ++ one.receiver ∷ [];
    closed = zip_append (λ (half : Half) (receiver : ReceiverEnd). HasClosed scene half.centre givers half.receiver receiver) halves (half ∷ []) before.receivers (one.receiver ∷ []) before.closed (one.closed, tt);
    more = subst (λ callers. HasMore old callers (before.receivers ++ one.receiver ∷ []) new)
        (sym (callers_more (λ (half : Half) (receiver : ReceiverEnd). HasClosed scene half.centre givers half.receiver receiver) halves before.receivers half one.receiver before.closed))
        (more_then old parts new (all_callers halves before.receivers) (half_callers half one.receiver) before.receivers (one.receiver ∷ []) before.more one.more);
  }

-- the receivers of crews are those of halves
pub halves_fit : (scene : Scene) (crews : List Crew) (halves : List Half) → All (IsCrewOf scene) crews → halves ≡ map half_of crews → All (IsHalfOf scene) halves
halves_fit scene crews halves all are = subst (All (IsHalfOf scene)) (sym are) (All-map (IsHalfOf scene) half_of crews (λ k crew lt. let is = all k crew lt in record { centre = is.centre; receiver = is.receiver }))

-- ---- the ends of the senders

-- the crew of a centre
crew_at : (crews : List Crew) (n i : ℕ) → map (λ (crew : Crew). crew.centre) crews ≡ centres n → IsCount n i → (crew : Crew) × (slice_get crews (i - 1) ≡ Some crew) × (crew.centre ≡ i)
crew_at crews n i are range =
    let many : length crews ≡ n = sym (length-map crews (λ (crew : Crew). crew.centre)) ∙ (ap (λ numbers. length numbers) are ∙ length-range_with_len 1 n) in
    let there = get_within crews (i - 1) (omega (arith, range.0, range.1, many)) in
    let place : i - 1 < n = omega (arith, range.0, range.1) in
    let number : 1 + (i - 1) ≡ i = omega (arith, range.0) in
    let centre : Some there.0.centre ≡ Some i =
    ap (option_map (λ (crew : Crew). crew.centre)) (sym there.1)
    ∙ (sym (slice_get-map (λ (crew : Crew). crew.centre) crews (i - 1))
    ∙ (ap (λ numbers. slice_get numbers (i - 1)) are
    ∙ (slice_get-get_or (centres n) (i - 1) 0 (omega (arith, place, length-range_with_len 1 n))
    ∙ ap Some (get_or-range_with_len 1 n (i - 1) 0 place ∙ number)))) in
    (there.0, there.1, same_Some there.0.centre i centre)

-- the ends of the senders of all crews are rows of the scene's links
pub giver_rows : (scene : Scene) (crews : List Crew) (givers : List (Vec (GiverView Sent))) → IsScene scene → All (IsCrewOf scene) crews → map (λ (crew : Crew). crew.centre) crews ≡ centres scene.script.now.n → givers ≡ map (λ (crew : Crew). crew.sender.givers) crews → AreGiverRows scene.links.now (rows_of givers)
giver_rows scene crews givers is all numbers are =
    let n : ℕ = scene.script.now.n in
    let many : length crews ≡ n = sym (length-map crews (λ (crew : Crew). crew.centre)) ∙ (ap (λ numbers. length numbers) numbers ∙ length-range_with_len 1 n) in
    record {
      number =
          length-map givers (λ (givers : Vec (GiverView Sent)). givers.items)
          ∙ (ap (λ givers. length givers) are
          ∙ (length-map crews (λ (crew : Crew). crew.sender.givers)
          ∙ (many ∙ sym is.links)));
      each = λ i range.
          let crew = crew_at crews n i numbers (range.0, omega (arith, range.1, is.links)) in
          let fit = all_get (IsCrewOf scene) crews (i - 1) crew.0 all crew.1 in
          let row : row_of (rows_of givers) i ≡ crew.0.sender.givers.items =
          ap (λ givers. row_of (rows_of givers) i) are
          ∙ get_or_from_slice_get (rows_of (map (λ (crew : Crew). crew.sender.givers) crews)) (i - 1) crew.0.sender.givers.items []
          (slice_get-map (λ (givers : Vec (GiverView Sent)). givers.items) (map (λ (crew : Crew). crew.sender.givers) crews) (i - 1)
          ∙ ap (option_map (λ (givers : Vec (GiverView Sent)). givers.items)) (slice_get-map (λ (crew : Crew). crew.sender.givers) crews (i - 1) ∙ ap (option_map (λ (crew : Crew). crew.sender.givers)) crew.1)) in
          subst (AreGivers scene.links.now i) (sym row) (subst (λ centre. AreGivers scene.links.now centre crew.0.sender.givers.items) crew.2 fit.sender.givers);
    }

-- ---- the parts of all

-- a crew with its receiver as it is then
abbrev pub with_receiver : Crew → ReceiverEnd → Crew
with_receiver crew receiver = record { centre = crew.centre; sender = crew.sender; receiver = receiver; reporter = crew.reporter; pruner = crew.pruner }

-- all crews with these receivers
abbrev pub with_receivers : List Crew → List ReceiverEnd → List Crew
with_receivers [] receivers = []
with_receivers (crew ∷ crews) [] = []
with_receivers (crew ∷ crews) (receiver ∷ receivers) = with_receiver crew receiver ∷ with_receivers crews receivers

-- their callers are those of the halves
callers_with : (crews : List Crew) (receivers : List ReceiverEnd) → flat_map crew_callers (with_receivers crews receivers) ≡ all_callers (map half_of crews) receivers
callers_with [] receivers = refl
callers_with (crew ∷ crews) [] = refl
callers_with (crew ∷ crews) (receiver ∷ receivers) = ap (λ rest. half_callers (half_of crew) receiver ++ rest) (callers_with crews receivers)

module _ (R : Half → ReceiverEnd → Type 0) where
  -- the rest of each crew stays
  kept_with : {Y : Type 0} (f : Crew → Y) → ((crew : Crew) (receiver : ReceiverEnd) → f (with_receiver crew receiver) ≡ f crew) → (crews : List Crew) (receivers : List ReceiverEnd) → AllZip R (map half_of crews) receivers → map f (with_receivers crews receivers) ≡ map f crews
  kept_with f same [] receivers all = refl
  kept_with f same (crew ∷ crews) [] all = absurd all
  kept_with f same (crew ∷ crews) (receiver ∷ receivers) all = λ k. same crew receiver k ∷ kept_with f same crews receivers all.1 k

  -- and the receivers are these
  received_with : {Y : Type 0} (g : ReceiverEnd → Y) (crews : List Crew) (receivers : List ReceiverEnd) → AllZip R (map half_of crews) receivers → map (λ (crew : Crew). g crew.receiver) (with_receivers crews receivers) ≡ map g receivers
  received_with g [] [] all = refl
  received_with g [] (receiver ∷ receivers) all = absurd all
  received_with g (crew ∷ crews) [] all = absurd all
  received_with g (crew ∷ crews) (receiver ∷ receivers) all = ap (λ rest. g receiver ∷ rest) (received_with g crews receivers all.1)

-- each receiver made its closing round
closed_with : (scene : Scene) (givers : List (List (GiverView Sent))) (crews : List Crew) (receivers : List ReceiverEnd) → AllZip (λ (half : Half) (receiver : ReceiverEnd). HasClosed scene half.centre givers half.receiver receiver) (map half_of crews) receivers → AllZip (HasCrewClosed scene givers) crews (with_receivers crews receivers)
closed_with scene givers [] receivers all = tt
closed_with scene givers (crew ∷ crews) [] all = absurd all
closed_with scene givers (crew ∷ crews) (receiver ∷ receivers) all = (record { centre = refl; sender = refl; receiver = all.0; reporter = refl; pruner = refl }, closed_with scene givers crews receivers all.1)

-- what all callers have, one after another
all_have : {Y : Type 0} (f : Caller → Y) (operator : Caller) (players : List Player) (crews workers : List Caller) (none one two three : List Y) → none ≡ [] → one ≡ none ++ f operator ∷ [] → two ≡ one ++ map (λ (player : Player). f player.caller) players → three ≡ two ++ map f workers → crews ≡ workers → map f (operator ∷ (map (λ (player : Player). player.caller) players ++ crews)) ≡ three
all_have f operator players crews workers none one two three none_is one_is two_is three_is same =
    ap (λ rest. f operator ∷ rest)
    (ap (λ crews. map f (map (λ (player : Player). player.caller) players ++ crews)) same
    ∙ (map-append f (map (λ (player : Player). player.caller) players) workers
    ∙ ap (λ theirs. theirs ++ map f workers) (map-map f (λ (player : Player). player.caller) players)))
    ∙ sym (three_is ∙ ap (λ two. two ++ map f workers) (two_is ∙ ap (λ one. one ++ map (λ (player : Player). f player.caller) players) (one_is ∙ ap (λ none. none ++ f operator ∷ []) none_is)))

-- the parts of all actors behind the closing rounds
pub all_parted : (scene : Scene) (n clients : ℕ) (old : Cast) (none one two three parts : Parts) (h : Halves) → AreNoParts none → HasCaller none old.operator one → HasClients one old.clients.items two → AreHalves old.crews.items h → HaveClosed scene (rows_of h.givers.items) two h.halves.items three → parts.rows ≡ three.rows → parts.logs ≡ three.logs → parts.stubs ≡ three.stubs → parts.givers ≡ h.givers → parts.takers ≡ three.takers → parts.inlets ≡ three.inlets → map (λ (crew : Crew). crew.centre) old.crews.items ≡ centres n → map (λ (player : Player). player.client) old.clients.items ≡ range_with_len 1 clients → HaveParted scene n clients old parts
all_parted scene n clients old none one two three parts h no_parts operator players halves made rows logs stubs givers takers inlets numbers client_numbers =
    let crews : List Crew = old.crews.items in
    let receivers : List ReceiverEnd = made.receivers in
    let closed : List Crew = with_receivers crews receivers in
    let zip : AllZip (λ (half : Half) (receiver : ReceiverEnd). HasClosed scene half.centre (rows_of h.givers.items) half.receiver receiver) (map half_of crews) receivers = subst (λ halves. AllZip (λ (half : Half) (receiver : ReceiverEnd). HasClosed scene half.centre (rows_of h.givers.items) half.receiver receiver) halves receivers) halves.halves made.closed in
    let workers : flat_map crew_callers closed ≡ all_callers h.halves.items receivers = callers_with crews receivers ∙ ap (λ halves. all_callers halves receivers) (sym halves.halves) in
    record {
      closed = closed;
      crews = subst (λ (rows : Vec (Vec (GiverView Sent))). AllZip (HasCrewClosed scene (rows_of rows.items)) crews closed) (sym givers) (closed_with scene (rows_of h.givers.items) crews receivers zip);
      parted = record {
        callers = record {
          rows_are = all_have (λ (caller : Caller). caller.row) old.operator old.clients.items (flat_map crew_callers closed) (all_callers h.halves.items receivers) none.rows.items one.rows.items two.rows.items three.rows.items no_parts.rows operator.rows players.rows made.more.rows workers ∙ ap (λ rows. rows.items) (sym rows);
          logs_are = all_have (λ (caller : Caller). caller.log) old.operator old.clients.items (flat_map crew_callers closed) (all_callers h.halves.items receivers) none.logs.items one.logs.items two.logs.items three.logs.items no_parts.logs operator.logs players.logs made.more.logs workers ∙ ap (λ logs. logs.items) (sym logs);
        };
        numbers = client_numbers;
        stubs = sym (ap (λ stubs. stubs.items) (stubs ∙ made.more.stubs) ∙ (players.stubs ∙ ap (λ none. none ++ map (λ (player : Player). player.stub) old.clients.items) (ap (λ stubs. stubs.items) operator.stubs ∙ no_parts.stubs)));
        crews = record {
          numbers = kept_with _ (λ (crew : Crew). crew.centre) (λ crew receiver. refl) crews receivers zip ∙ numbers;
          callers_are = refl;
          givers_are = kept_with _ (λ (crew : Crew). crew.sender.givers) (λ crew receiver. refl) crews receivers zip ∙ (sym halves.givers ∙ ap (λ givers. givers.items) (sym givers));
          takers_are = received_with _ (λ (receiver : ReceiverEnd). receiver.takers) crews receivers zip ∙ sym (ap (λ takers. takers.items) takers ∙ (made.more.takers ∙ ap (λ none. none ++ map (λ (receiver : ReceiverEnd). receiver.takers) receivers) (ap (λ takers. takers.items) (players.takers ∙ operator.takers) ∙ no_parts.takers)));
          inlets_are = received_with _ (λ (receiver : ReceiverEnd). receiver.inlets) crews receivers zip ∙ sym (ap (λ inlets. inlets.items) inlets ∙ (made.more.inlets ∙ ap (λ none. none ++ map (λ (receiver : ReceiverEnd). receiver.inlets) receivers) (ap (λ inlets. inlets.items) (players.inlets ∙ operator.inlets) ∙ no_parts.inlets)));
        };
      };
    }

-- ---- clients

-- before the first one
pub clients_begin : (old : Parts) → HasClients old [] old
clients_begin old = record {
  rows = sym (append-nil old.rows.items);
  logs = sym (append-nil old.logs.items);
  stubs = sym (append-nil old.stubs.items);
  givers = refl;
  takers = refl;
  inlets = refl;
}

-- one client more
pub clients_more : (old parts mid new : Parts) (players : List Player) (player : Player) → HasClients old players parts → HasCaller parts player.caller mid → new.rows ≡ mid.rows → new.logs ≡ mid.logs → new.stubs.items ≡ mid.stubs.items ++ player.stub ∷ [] → new.givers ≡ mid.givers → new.takers ≡ mid.takers → new.inlets ≡ mid.inlets → HasClients old (players ++ player ∷ []) new
clients_more old parts mid new players player before one rows logs stubs givers takers inlets = record {
  rows = join_more (λ (player : Player). player.caller.row) players (player ∷ []) old.rows.items parts.rows.items new.rows.items before.rows (ap (λ rows. rows.items) rows ∙ one.rows);
  logs = join_more (λ (player : Player). player.caller.log) players (player ∷ []) old.logs.items parts.logs.items new.logs.items before.logs (ap (λ logs. logs.items) logs ∙ one.logs);
  stubs = join_more (λ (player : Player). player.stub) players (player ∷ []) old.stubs.items parts.stubs.items new.stubs.items before.stubs (stubs ∙ ap (λ (stubs : Vec StubView). stubs.items ++ player.stub ∷ []) one.stubs);
  givers = givers ∙ (one.givers ∙ before.givers);
  takers = takers ∙ (one.takers ∙ before.takers);
  inlets = inlets ∙ (one.inlets ∙ before.inlets);
}
