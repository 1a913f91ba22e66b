-- Deliveries of what comes over a link.
use Rattle.std.proofs.Common.{◌≡◌, ℕ, ◌+◌, ◌⊎◌, inl, inr, ⊎_elim, List, [], ◌∷◌, ◌++◌, length, take, drop, refl, sym, ap, ◌∙◌, subst, arith, append_assoc, length-append}
use Rattle.std.proofs.lemmas.List.{append-nil, take-append-drop}
use Rattle.std.proofs.Math.Nat.{sub_self}
use Rattle.list_core.specs.Members.{In}
use Rattle.list_core.proofs.Members.{In_left, In_right, In_either, In_take, In_drop}
use Rattle.dc_talk.specs.declared.sent.Sent.{Sent}
use Rattle.dc_talk.specs.declared.links.Arrival.{Arrival}
use Rattle.dc_talk.specs.declared.links.Arrival.TheVariants as arrival
use Rattle.dc_talk.specs.declared.links.FrameFault.{FrameFault}
use Rattle.dc_talk.specs.declared.ask.Ask.TheVariants.{Deliver}
use Rattle.dc_talk.specs.declared.say.Say.{Say}
use Rattle.dc_talk.specs.declared.log.Fate.TheVariants.{Unheard}
use Rattle.dc_talk.specs.declared.log.Deed.{Deed}
use Rattle.dc_talk.specs.declared.log.Deed.TheVariants.{Asked, Spoilt}
use Rattle.dc_talk.specs.Logs.{Logged, noted}
use Rattle.dc_talk.specs.Doors.{DoorView}
use Rattle.dc_talk.specs.Acting.{Acting, acting, IsCutShort}
use Rattle.script_core.specs.Carrying.{Route}
use Rattle.script_core.specs.Provenance.{WasSent, Carries, CarriesAll}
use Rattle.script_core.specs.Links.{Inlet, wholes, arrivals, arrived, arrived_count, inlet_after}
use Rattle.script_core.specs.Rounds.{BringsOne, Brings}
use Rattle.dc_worker.specs.Work.{Adds, AddsSuch}
use Rattle.dc_worker.specs.Brings.{Incoming, incoming, Receives, StopsAt, BringsPart}
use Rattle.script_core.proofs.Provenance.{sent_before}
use Rattle.script_core.proofs.Arriving.{wholes_from, arrivals_among}
use Rattle.dc_worker.proofs.Work.{adds_none, adds_spoilt, adds_then}
use Rattle.dc_worker.proofs.Items.{arrivals_next, arrived_next, after_next}

-- deliveries behind deliveries
pub brings_then : (r : Route) (xs ys : List (Arrival Sent)) (ds es : List Deed) → Brings r xs ds → Brings r ys es → Brings r (xs ++ ys) (ds ++ es)
brings_then r [] ys ds es first later = subst (λ ds. Brings r ys (ds ++ es)) (sym first) later
brings_then r (x ∷ xs) ys [] es first later = absurd first
brings_then r (x ∷ xs) ys (d ∷ ds) es first later = (first.0, brings_then r xs ys ds es first.1 later)

-- nothing is delivered
pub brings_none : (r : Route) (a : Acting) → AddsSuch (Brings r []) a a
brings_none r a = record { deeds = []; such = refl; adds = adds_none a }

pub brings_absent : (r : Route) (items : List (Arrival Sent)) (a : Acting) → items ≡ [] → AddsSuch (Brings r items) a a
brings_absent r items a none = subst (λ items. AddsSuch (Brings r items) a a) (sym none) (brings_none r a)

-- one record is delivered
pub brings_whole : (r : Route) (items : List (Arrival Sent)) (a b : Acting) (item : Sent) (say : Say) → items ≡ arrival.Whole item ∷ [] → Adds a b (Asked r.to (Deliver item.item item.hops) (Unheard say) ∷ []) → AddsSuch (Brings r items) a b
brings_whole r items a b item say is adds = subst (λ items. AddsSuch (Brings r items) a b) (sym is) (record { deeds = Asked r.to (Deliver item.item item.hops) (Unheard say) ∷ []; such = ((say, refl), refl); adds = adds })

-- an item that was spoilt is noted
pub brings_spoilt : (r : Route) (items : List (Arrival Sent)) (door : DoorView) (log later : Logged) (number : ℕ) (why : FrameFault) → items ≡ arrival.Spoilt number why ∷ [] → later ≡ noted log (Spoilt r.from number why) → AddsSuch (Brings r items) (acting door log) (acting door later)
brings_spoilt r items door log later number why is note = subst (λ items. AddsSuch (Brings r items) (acting door log) (acting door later)) (sym is) (record { deeds = Spoilt r.from number why ∷ []; such = (refl, refl); adds = adds_spoilt door log later r.from number why note })

-- records behind records
pub brings_both : (r : Route) (xs ys : List (Arrival Sent)) (a b c : Acting) → AddsSuch (Brings r xs) a b → AddsSuch (Brings r ys) b c → AddsSuch (Brings r (xs ++ ys)) a c
brings_both r xs ys a b c first later = record { deeds = first.deeds ++ later.deeds; such = brings_then r xs ys first.deeds later.deeds first.such later.such; adds = adds_then a b c first.deeds later.deeds first.adds later.adds }

-- no item
pub arrived_none : (i : Inlet Sent) → arrived i [] ≡ []
arrived_none i = ap (λ n. take n i.held) (sub_self (length i.held))

pub after_none : (i : Inlet Sent) → inlet_after i [] ≡ i
after_none i =
    let same : i.before + 0 ≡ i.before = omega arith in
    ap (λ n. record { fault = i.fault; before = i.before + 0; held = drop n i.held }) (sub_self (length i.held)) ∙ ap (λ n. record { fault = i.fault; before = n; held = i.held }) same

-- what is held at the end comes behind the rest
pub brings_rest : (r : Route) (first : Inlet Sent) (items : List Sent) (now : Inlet Sent) (a b c : Acting) → AddsSuch (Brings r (arrived first items)) a b → now ≡ inlet_after first items → AddsSuch (Brings r now.held) b c → AddsSuch (Brings r (arrivals first items)) a c
brings_rest r first items now a b c before after rest =
    let left : now.held ≡ drop (arrived_count first items) (arrivals first items) = ap (λ (i : Inlet Sent). i.held) after in
    let whole : arrived first items ++ now.held ≡ arrivals first items = ap (λ held. arrived first items ++ held) left ∙ take-append-drop (arrived_count first items) (arrivals first items) in
    subst (λ all. AddsSuch (Brings r all) a c) whole (brings_both r (arrived first items) now.held a b c before rest)

-- ---- items behind items

pub arrived_then : (i : Inlet Sent) (xs ys : List Sent) → arrived i (xs ++ ys) ≡ arrived i xs ++ arrived (inlet_after i xs) ys
arrived_then i [] ys = ap (λ i. arrived i ys) (sym (after_none i)) ∙ ap (λ front. front ++ arrived (inlet_after i []) ys) (sym (arrived_none i))
arrived_then i (x ∷ xs) ys =
    let next : Inlet Sent = inlet_after i (x ∷ []) in
    let first : List (Arrival Sent) = arrived i (x ∷ []) in
    let last : List (Arrival Sent) = arrived (inlet_after next xs) ys in
    arrived_next i x (xs ++ ys)
    ∙ (ap (λ more. first ++ more) (arrived_then next xs ys)
    ∙ (sym (append_assoc first (arrived next xs) last)
    ∙ (ap (λ front. front ++ last) (sym (arrived_next i x xs))
    ∙ ap (λ i'. arrived i (x ∷ xs) ++ arrived i' ys) (sym (after_next i x xs)))))

pub after_then : (i : Inlet Sent) (xs ys : List Sent) → inlet_after i (xs ++ ys) ≡ inlet_after (inlet_after i xs) ys
after_then i [] ys = ap (λ i. inlet_after i ys) (sym (after_none i))
after_then i (x ∷ xs) ys = after_next i x (xs ++ ys) ∙ (after_then (inlet_after i (x ∷ [])) xs ys ∙ ap (λ i. inlet_after i ys) (sym (after_next i x xs)))

pub arrivals_then : (i : Inlet Sent) (xs ys : List Sent) → arrivals i (xs ++ ys) ≡ arrived i xs ++ arrivals (inlet_after i xs) ys
arrivals_then i [] ys = ap (λ i. arrivals i ys) (sym (after_none i)) ∙ ap (λ front. front ++ arrivals (inlet_after i []) ys) (sym (arrived_none i))
arrivals_then i (x ∷ xs) ys =
    let next : Inlet Sent = inlet_after i (x ∷ []) in
    let first : List (Arrival Sent) = arrived i (x ∷ []) in
    let last : List (Arrival Sent) = arrivals (inlet_after next xs) ys in
    arrivals_next i x (xs ++ ys)
    ∙ (ap (λ more. first ++ more) (arrivals_then next xs ys)
    ∙ (sym (append_assoc first (arrived next xs) last)
    ∙ (ap (λ front. front ++ last) (sym (arrived_next i x xs))
    ∙ ap (λ i'. arrived i (x ∷ xs) ++ arrivals i' ys) (sym (after_next i x xs)))))

-- ---- what is received

-- nothing was taken
pub receives_none : (r : Route) (a : Acting) (i : Inlet Sent) (xs ys : List Sent) → ys ≡ xs → Receives r 0 (incoming a i xs) (incoming a i ys)
receives_none r a i xs ys same = record {
  items = [];
  taken = same ∙ sym (append-nil xs);
  brings = subst (λ all. AddsSuch (Brings r all) a a) (sym (arrived_none i)) (brings_none r a);
  inlet = sym (after_none i);
  count = refl;
}

-- records were taken, and then others
pub receives_then : (r : Route) (m n : ℕ) (a b c : Incoming) → Receives r m a b → Receives r n b c → Receives r (m + n) a c
receives_then r m n a b c first later = record {
  items = first.items ++ later.items;
  taken = later.taken ∙ (ap (λ front. front ++ later.items) first.taken ∙ append_assoc a.taken first.items later.items);
  brings =
      let come : List (Arrival Sent) = arrived a.inlet first.items ++ arrived b.inlet later.items in
      let all : arrived a.inlet (first.items ++ later.items) ≡ come = arrived_then a.inlet first.items later.items ∙ ap (λ i. arrived a.inlet first.items ++ arrived i later.items) (sym first.inlet) in
      subst (λ all. AddsSuch (Brings r all) a.acting c.acting) (sym all) (brings_both r (arrived a.inlet first.items) (arrived b.inlet later.items) a.acting b.acting c.acting first.brings later.brings);
  inlet = later.inlet ∙ (ap (λ i. inlet_after i later.items) first.inlet ∙ sym (after_then a.inlet first.items later.items));
  count = omega (arith, first.count, later.count, length-append first.items later.items);
}

-- one record was taken
receives_one : (r : Route) (a b : Acting) (i next : Inlet Sent) (xs : List Sent) (item : Sent) → AddsSuch (Brings r (arrived i (item ∷ []))) a b → next ≡ inlet_after i (item ∷ []) → Receives r 1 (incoming a i xs) (incoming b next (xs ++ item ∷ []))
receives_one r a b i next xs item one after = record { items = item ∷ []; taken = refl; brings = one; inlet = after; count = refl }

-- ---- item by item

-- so far the first of the items were taken, and what comes of them was delivered
pub record BringsOn (r : Route) (first : Inlet Sent) (items rest : List Sent) (now : Inlet Sent) (old new : Acting) : Type 0 where
  pub taken : List Sent
  pub whole : items ≡ taken ++ rest
  pub receives : Receives r (length taken) (incoming old first []) (incoming new now taken)

pub brings_on_none : (r : Route) (first : Inlet Sent) (items rest : List Sent) (a : Acting) → rest ≡ items → BringsOn r first items rest first a a
brings_on_none r first items rest a all = record { taken = []; whole = sym all; receives = receives_none r a first [] [] refl }

-- with the next item the first ones are one more
next_taken : (items taken left rest : List Sent) (item : Sent) → items ≡ taken ++ left → left ≡ item ∷ rest → items ≡ (taken ++ item ∷ []) ++ rest
next_taken items taken left rest item whole is = whole ∙ (ap (λ left. taken ++ left) is ∙ sym (append_assoc taken (item ∷ []) rest))

-- one item more
pub brings_on_more : (r : Route) (first : Inlet Sent) (items left rest : List Sent) (now next : Inlet Sent) (a b c : Acting) (item : Sent) → left ≡ item ∷ rest → BringsOn r first items left now a b → AddsSuch (Brings r (arrived now (item ∷ []))) b c → next ≡ inlet_after now (item ∷ []) → BringsOn r first items rest next a c
brings_on_more r first items left rest now next a b c item is before one after =
    let old : Incoming = incoming a first [] in
    let mid : Incoming = incoming b now before.taken in
    let new : Incoming = incoming c next (before.taken ++ item ∷ []) in
    record {
      taken = before.taken ++ item ∷ [];
      whole = next_taken items before.taken left rest item before.whole is;
      receives = subst (λ n. Receives r n old new) (sym (length-append before.taken (item ∷ []))) (receives_then r (length before.taken) 1 old mid new before.receives (receives_one r b c now next before.taken item one after));
    }

-- no item is left
all_taken : (r : Route) (first : Inlet Sent) (items left : List Sent) (now : Inlet Sent) (a b : Acting) → left ≡ [] → (before : BringsOn r first items left now a b) → items ≡ before.receives.items
all_taken r first items left now a b none before = before.whole ∙ (ap (λ left. before.taken ++ left) none ∙ (append-nil before.taken ∙ before.receives.taken))

pub brings_on_all : (r : Route) (first : Inlet Sent) (items left : List Sent) (now : Inlet Sent) (a b : Acting) → left ≡ [] → BringsOn r first items left now a b → AddsSuch (Brings r (arrived first items)) a b
brings_on_all r first items left now a b none before = subst (λ items. AddsSuch (Brings r (arrived first items)) a b) (sym (all_taken r first items left now a b none before)) before.receives.brings

pub after_all : (r : Route) (first : Inlet Sent) (items left : List Sent) (now : Inlet Sent) (a b : Acting) → left ≡ [] → BringsOn r first items left now a b → now ≡ inlet_after first items
after_all r first items left now a b none before = before.receives.inlet ∙ ap (inlet_after first) (sym (all_taken r first items left now a b none before))

-- ---- an early end

-- at one record
pub stops_at_one : (a b : Acting) (i next : Inlet Sent) (xs ys : List Sent) (item : Sent) → ys ≡ xs ++ item ∷ [] → (next ≡ i) ⊎ (next ≡ inlet_after i (item ∷ [])) → IsCutShort a b → StopsAt (incoming a i xs) (incoming b next ys)
stops_at_one a b i next xs ys item more which cut = record { last = item ∷ []; one = omega arith; taken = more; inlet = ⊎_elim (λ same. inl same) (λ after. inr (inl after)) which; short = cut }

-- at what is held
pub stops_at_held : (a b : Acting) (i next : Inlet Sent) (xs : List Sent) → next ≡ record i { held = [] } → IsCutShort a b → StopsAt (incoming a i xs) (incoming b next xs)
stops_at_held a b i next xs empty cut = record { last = []; one = omega arith; taken = sym (append-nil xs); inlet = inr (inr empty); short = cut }

-- before any record
pub brings_part_none : (r : Route) (i : Inlet Sent) (a b : Acting) → IsCutShort a b → BringsPart r [] i i a b
brings_part_none r i a b cut = record {
  taken = [];
  rest = [];
  whole = refl;
  part = record {
    number = 0;
    between = incoming a i [];
    receives = receives_none r a i [] [] refl;
    stops = record { last = []; one = omega arith; taken = refl; inlet = inl refl; short = cut };
  };
}

-- at the next of the items
pub brings_part_next : (r : Route) (first : Inlet Sent) (items left rest : List Sent) (now next : Inlet Sent) (a b c : Acting) (item : Sent) → left ≡ item ∷ rest → BringsOn r first items left now a b → IsCutShort b c → (next ≡ now) ⊎ (next ≡ inlet_after now (item ∷ [])) → BringsPart r items first next a c
brings_part_next r first items left rest now next a b c item is before cut which = record {
  taken = before.taken ++ item ∷ [];
  rest = rest;
  whole = next_taken items before.taken left rest item before.whole is;
  part = record {
    number = length before.taken;
    between = incoming b now before.taken;
    receives = before.receives;
    stops = stops_at_one b c now next before.taken (before.taken ++ item ∷ []) item refl which cut;
  };
}

-- behind all items, at what is held
pub brings_part_held : (r : Route) (first : Inlet Sent) (items : List Sent) (now next : Inlet Sent) (a b c : Acting) → AddsSuch (Brings r (arrived first items)) a b → now ≡ inlet_after first items → next ≡ record now { held = [] } → IsCutShort b c → BringsPart r items first next a c
brings_part_held r first items now next a b c before after empty cut = record {
  taken = items;
  rest = [];
  whole = sym (append-nil items);
  part = record {
    number = length items;
    between = incoming b now items;
    receives = record { items = items; taken = refl; brings = before; inlet = after; count = refl };
    stops = stops_at_held b c now next items empty cut;
  };
}

-- ---- where they come from

-- what arrives whole was held or taken
pub arrivals_from : (i : Inlet Sent) (xs : List Sent) (y : Sent) → In (arrival.Whole y) (arrivals i xs) → In y (wholes i.held ++ xs)
arrivals_from i xs y among = ⊎_elim (λ taken. In_right (wholes i.held) xs y taken) (λ held. In_left (wholes i.held) xs y held) (In_either xs (wholes i.held) y (arrivals_among i xs y among))

pub arrived_from : (i : Inlet Sent) (xs : List Sent) (y : Sent) → In (arrival.Whole y) (arrived i xs) → In y (wholes i.held ++ xs)
arrived_from i xs y among = arrivals_from i xs y (In_take (arrived_count i xs) (arrivals i xs) (arrival.Whole y) among)

pub held_from : (i : Inlet Sent) (xs : List Sent) (y : Sent) → In y (wholes (inlet_after i xs).held) → In y (wholes i.held ++ xs)
held_from i xs y among = arrivals_from i xs y (In_drop (arrived_count i xs) (arrivals i xs) (arrival.Whole y) (wholes_from (inlet_after i xs).held y among))

-- deliveries of records that were sent, among notes of what was spoilt
pub brings_carry : (before : List Deed) (r : Route) (items : List (Arrival Sent)) (deeds : List Deed) → ((item : Sent) → In (arrival.Whole item) items → WasSent before item) → Brings r items deeds → CarriesAll before deeds
brings_carry before r [] deeds sent is = subst (CarriesAll before) (sym is) tt
brings_carry before r (item ∷ items) [] sent is = tt
brings_carry before r (item ∷ items) (deed ∷ deeds) sent is = (
  carries_one before r item deed (λ whole same. sent whole (inl same)) is.0,
  brings_carry (before ++ deed ∷ []) r items deeds (λ other among. sent_before before (deed ∷ []) other (sent other (inr among))) is.1,
)
  where
    carries_one : (before : List Deed) (r : Route) (item : Arrival Sent) (deed : Deed) → ((whole : Sent) → arrival.Whole whole ≡ item → WasSent before whole) → BringsOne r item deed → Carries before deed
    carries_one before r (arrival.Whole item) deed sent is = subst (Carries before) (sym is.1) (sent item refl)
    carries_one before r (arrival.Spoilt number why) deed sent is = subst (Carries before) (sym is) tt
