-- A receiver's round over the links from the first centres, and over the next one.
use Rattle.std.proofs.Common.{◌≡◌, ◌≢◌, ◌≤◌, ◌<◌, ◌⊎◌, inl, inr, ℕ, ◌+◌, ◌-◌, ◌==◌, Bool, true, false, cond, List, [], ◌++◌, length, get_or, set, refl, sym, ap, ◌∙◌, subst, arith}
use Rattle.std.proofs.lemmas.Bool.{cases_eq, eq-eqb, ne_eqb}
use Rattle.std.proofs.lemmas.List.{append-nil, get_or_default, get_or-set_same, get_or-set_other}
use Rattle.dc_talk.specs.declared.sent.Sent.{Sent}
use Rattle.dc_talk.specs.Acting.{Acting}
use Rattle.mail_link.specs.Ends.{GiverView, TakerView}
use Rattle.script_core.specs.declared.rounds.TheConstants.{MOST_MAILED}
use Rattle.script_core.specs.Carrying.{route, no_turn}
use Rattle.script_core.specs.Links.{Inlet, clean_inlet, arrivals, arrived, inlet_after, inlet_closed}
use Rattle.script_core.specs.Rounds.{Brings}
use Rattle.script_core.proofs.Turns.{turns_among, turns_next, turns_self}
use Rattle.dc_worker.specs.Work.{AddsSuch}
use Rattle.dc_worker.specs.Brings.{Receives, Closes, ReceivesPart, incoming}
use Rattle.dc_worker.proofs.Work.{adds_none, adds_then}
use Rattle.dc_links.specs.Links.{IsOther, taken_from, inlet_from, put_between}
use Rattle.dc_links.specs.Rounds.{Due, Later, Inward, inward, TakesOver, TakesFrom, ReceivesOver, ReceivesFrom, DrainsOver, DrainsFrom, StopsFrom}
use Rattle.dc_links.proofs.Places.{seen_at, seen_here, seen_else, places_apart}

-- ---- one link

-- the others are as they were
others_rest : (from : ℕ) (takers : List (TakerView Sent)) (now : TakerView Sent) (inlets : List (Inlet Sent)) (after : Inlet Sent) → 1 ≤ from → (i : ℕ) → 1 ≤ i → i ≢ from → (taken_from (set takers (from - 1) now) i ≡ taken_from takers i) × (inlet_from (set inlets (from - 1) after) i ≡ inlet_from inlets i)
others_rest from takers now inlets after low i least other = (
  seen_else (λ (taker : TakerView Sent). taker.taken) [] takers (from - 1) (i - 1) now (places_apart from i low least other),
  get_or-set_other inlets (from - 1) (i - 1) after clean_inlet (λ same. places_apart from i low least other same),
)

-- what was taken of it, and its inlet
pub takes_from : (due : Due) (later : Later) (from j : ℕ) (items : List Sent) (takers : List (TakerView Sent)) (taker now : TakerView Sent) (inlets : List (Inlet Sent)) (inlet after : Inlet Sent) (a b : Acting) → 1 ≤ from → from - 1 < length takers → from - 1 < length inlets → taker ≡ get_or takers (from - 1) taker → inlet ≡ get_or inlets (from - 1) inlet → now.taken ≡ taker.taken ++ items → AddsSuch (Brings (route from j) (due inlet items)) a b → after ≡ later inlet items
    → TakesFrom due later from j (inward takers inlets) (inward (set takers (from - 1) now) (set inlets (from - 1) after)) a b
takes_from due later from j items takers taker now inlets inlet after a b low lt within is there more brings then = record {
  items = items;
  brings = subst (λ inlet. AddsSuch (Brings (route from j) (due inlet items)) a b) (sym here) brings;
  taken = seen_here taken [] takers (from - 1) now lt ∙ (more ∙ ap (λ before. before ++ items) (sym (seen_at taken [] takers (from - 1) taker lt is)));
  inlet = get_or-set_same inlets (from - 1) after clean_inlet within ∙ (then ∙ ap (λ inlet. later inlet items) (sym here));
  rest = others_rest from takers now inlets after low;
}
  where
    taken : TakerView Sent → List Sent
    taken taker = taker.taken

    here : inlet_from inlets from ≡ inlet
    here = get_or_default inlets (from - 1) clean_inlet inlet within ∙ sym there

-- the same by what a round leaves
pub received_from : (from j number : ℕ) (takers : List (TakerView Sent)) (taker now : TakerView Sent) (inlets : List (Inlet Sent)) (inlet after : Inlet Sent) (a b : Acting) → 1 ≤ from → from - 1 < length takers → from - 1 < length inlets → taker ≡ get_or takers (from - 1) taker → inlet ≡ get_or inlets (from - 1) inlet → Receives (route from j) number (incoming a inlet taker.taken) (incoming b after now.taken) → number ≤ MOST_MAILED
    → ReceivesFrom from j (inward takers inlets) (inward (set takers (from - 1) now) (set inlets (from - 1) after)) a b
unfolding takes_from
received_from from j number takers taker now inlets inlet after a b low lt within is there got most = record {
  takes = takes_from arrived inlet_after from j got.items takers taker now inlets inlet after a b low lt within is there got.taken got.brings got.inlet;
  few = let count = got.count in omega (arith, count, most);
}

-- and by what a closing round leaves
pub drained_from : (from j number : ℕ) (givers : List (List (GiverView Sent))) (takers : List (TakerView Sent)) (taker now : TakerView Sent) (inlets : List (Inlet Sent)) (inlet after : Inlet Sent) (a b : Acting) → 1 ≤ from → from - 1 < length takers → from - 1 < length inlets → taker ≡ get_or takers (from - 1) taker → inlet ≡ get_or inlets (from - 1) inlet → Closes (route from j) number (incoming a inlet taker.taken) (incoming b after now.taken) → length now.taken ≡ length (put_between givers from j)
    → DrainsFrom from j givers (inward takers inlets) (inward (set takers (from - 1) now) (set inlets (from - 1) after)) a b
drained_from from j number givers takers taker now inlets inlet after a b low lt within is there got all = record {
  takes = takes_from arrivals inlet_closed from j got.items takers taker now inlets inlet after a b low lt within is there got.taken got.brings got.inlet;
  all = ap length (seen_here (λ (taker : TakerView Sent). taker.taken) [] takers (from - 1) now lt) ∙ all;
}

-- and by what an early end leaves
pub stops_from : (from j : ℕ) (takers : List (TakerView Sent)) (taker now : TakerView Sent) (inlets : List (Inlet Sent)) (inlet after : Inlet Sent) (a b : Acting) → 1 ≤ from → from - 1 < length takers → from - 1 < length inlets → taker ≡ get_or takers (from - 1) taker → inlet ≡ get_or inlets (from - 1) inlet → ReceivesPart (route from j) (incoming a inlet taker.taken) (incoming b after now.taken)
    → StopsFrom from j (inward takers inlets) (inward (set takers (from - 1) now) (set inlets (from - 1) after)) a b
stops_from from j takers taker now inlets inlet after a b low lt within is there got = record {
  part = subst (λ old. ReceivesPart (route from j) old (incoming b (inlet_from (set inlets (from - 1) after) from) (taken_from (set takers (from - 1) now) from))) (sym before) (subst (λ new. ReceivesPart (route from j) (incoming a inlet taker.taken) new) (sym behind) got);
  rest = others_rest from takers now inlets after low;
}
  where
    taken : TakerView Sent → List Sent
    taken taker = taker.taken

    held : inlet_from inlets from ≡ inlet
    held = get_or_default inlets (from - 1) clean_inlet inlet within ∙ sym there

    before : incoming a (inlet_from inlets from) (taken_from takers from) ≡ incoming a inlet taker.taken
    before = λ i. incoming a (held i) (seen_at taken [] takers (from - 1) taker lt is i)

    behind : incoming b (inlet_from (set inlets (from - 1) after) from) (taken_from (set takers (from - 1) now) from) ≡ incoming b after now.taken
    behind = λ i. incoming b (get_or-set_same inlets (from - 1) after clean_inlet within i) (seen_here taken [] takers (from - 1) now lt i)

-- ---- the first links

module _ (due : Due) (later : Later) where
  -- no links
  pub taken_none : (j : ℕ) (w : Inward) (a : Acting) → TakesOver due later 0 j w w a a
  taken_none j w a = record {
    items = λ from. [];
    deeds = [];
    such = no_turn;
    adds = adds_none a;
    taken = λ from low. sym (append-nil (taken_from w.takers from));
    inlets = λ from is. absurd (omega (arith, is.0.0, is.0.1));
    none = λ from low which. refl;
    same = λ from low which. refl;
  }

  module _ (k j next : ℕ) (is : next ≡ k + 1) (old mid : Inward) (a b : Acting) (before : TakesOver due later k j old mid a b) where
    -- the link from the next centre
    module _ (new : Inward) (c : Acting) (other : next ≢ j) (one : TakesFrom due later next j mid new b c) where
      -- what was taken of each link
      abbrev all : ℕ → List Sent
      all from = cond (from == next) one.items (before.items from)

      -- of the next one
      all_here : (from : ℕ) → from ≡ next → all from ≡ one.items
      all_here from this = ap (λ test. cond test one.items (before.items from)) (eq-eqb from next this)

      -- of the others
      all_else : (from : ℕ) → from ≢ next → all from ≡ before.items from
      all_else from else = ap (λ test. cond test one.items (before.items from)) (ne_eqb from next else)

      -- the inlet of the next link is as it was
      inlet_here : inlet_from mid.inlets next ≡ inlet_from old.inlets next
      inlet_here = before.same next (omega (arith, is)) (inr (omega (arith, is)))

      -- what each end has taken
      taken_each : (from : ℕ) → 1 ≤ from → (from ≡ next) ⊎ (from ≢ next) → taken_from new.takers from ≡ taken_from old.takers from ++ all from
      taken_each from low (inl this) =
          let none : before.items from ≡ [] = before.none from low (inr (omega (arith, is, this))) in
          let was : taken_from mid.takers from ≡ taken_from old.takers from = before.taken from low ∙ (ap (λ more. taken_from old.takers from ++ more) none ∙ append-nil (taken_from old.takers from)) in
          ap (taken_from new.takers) this
          ∙ (one.taken
          ∙ (ap (λ i. taken_from mid.takers i ++ one.items) (sym this)
          ∙ (λ i. was i ++ sym (all_here from this) i)))
      taken_each from low (inr else) = (one.rest from low else).0 ∙ (before.taken from low ∙ ap (λ more. taken_from old.takers from ++ more) (sym (all_else from else)))

      -- how each inlet is
      inlets_each : (from : ℕ) → IsOther next j from → (from ≡ next) ⊎ (from ≢ next) → inlet_from new.inlets from ≡ later (inlet_from old.inlets from) (all from)
      inlets_each from there (inl this) =
          ap (inlet_from new.inlets) this
          ∙ (one.inlet
          ∙ (ap (λ inlet. later inlet one.items) inlet_here
          ∙ ((λ i. later (inlet_from old.inlets (sym this i)) one.items) ∙ ap (later (inlet_from old.inlets from)) (sym (all_here from this)))))
      inlets_each from there (inr else) =
          (one.rest from there.0.0 else).1
          ∙ (before.inlets from ((there.0.0, omega (arith, there.0.1, else, is)), there.1) ∙ ap (later (inlet_from old.inlets from)) (sym (all_else from else)))

      -- a link from the centre itself, or from one behind the next, is not the next one
      apart : (from : ℕ) → (from ≡ j) ⊎ (next < from) → (from ≢ next) × ((from ≡ j) ⊎ (k < from))
      apart from (inl self) = ((λ same. other (sym same ∙ self)), inl self)
      apart from (inr high) = ((λ same. omega (arith, same, high)), inr (omega (arith, is, high)))

      -- all together
      pub taken_next : TakesOver due later next j old new a c
      taken_next = record {
        items = all;
        deeds = before.deeds ++ one.brings.deeds;
        such = turns_next k j next is before.deeds one.brings.deeds other
            (turns_among (λ from deeds. Brings (route from j) (due (inlet_from old.inlets from) (before.items from)) deeds) (λ from deeds. Brings (route from j) (due (inlet_from old.inlets from) (all from)) deeds) k j before.deeds
            (λ from low most es does. subst (λ items. Brings (route from j) (due (inlet_from old.inlets from) items) es) (sym (all_else from (λ same. omega (arith, same, most, is)))) does) before.such)
            (subst (λ inlet. Brings (route next j) (due inlet (all next)) one.brings.deeds) inlet_here (subst (λ items. Brings (route next j) (due (inlet_from mid.inlets next) items) one.brings.deeds) (sym (all_here next refl)) one.brings.such));
        adds = adds_then a b c before.deeds one.brings.deeds before.adds one.brings.adds;
        taken = λ from low. taken_each from low (cases_eq from next);
        inlets = λ from there. inlets_each from there (cases_eq from next);
        none = λ from low which. let away = apart from which in all_else from away.0 ∙ before.none from low away.1;
        same = λ from low which. let away = apart from which in (one.rest from low away.0).1 ∙ before.same from low away.1;
      }

    -- but not from the centre itself
    pub taken_self : next ≡ j → TakesOver due later next j old mid a b
    taken_self self = record {
      items = before.items;
      deeds = before.deeds;
      such = turns_self k j next is before.deeds self before.such;
      adds = before.adds;
      taken = before.taken;
      inlets = λ from there. before.inlets from ((there.0.0, low from there), there.1);
      none = λ from least which. before.none from least (still from which);
      same = λ from least which. before.same from least (still from which);
    }
      where
        low : (from : ℕ) → IsOther next j from → from ≤ k
        low from there = let else : from ≢ next = λ same. there.1 (same ∙ self) in omega (arith, there.0.1, else, is)

        still : (from : ℕ) → (from ≡ j) ⊎ (next < from) → (from ≡ j) ⊎ (k < from)
        still from (inl own) = inl own
        still from (inr high) = inr (omega (arith, is, high))

-- ---- a round while more may come

-- over no links
pub received_none : (j : ℕ) (w : Inward) (a : Acting) → ReceivesOver 0 j w w a a
unfolding taken_none
received_none j w a = record { takes = taken_none arrived inlet_after j w a; few = λ from. omega arith }

-- over one link more
pub received_next : (k j next : ℕ) (old mid new : Inward) (a b c : Acting) → next ≡ k + 1 → next ≢ j → ReceivesOver k j old mid a b → ReceivesFrom next j mid new b c → ReceivesOver next j old new a c
unfolding taken_next
received_next k j next old mid new a b c is other before one = record { takes = taken_next arrived inlet_after k j next is old mid a b before.takes new c other one.takes; few = λ from. few from (from == next) }
  where
    few : (from : ℕ) (test : Bool) → length (cond test one.takes.items (before.takes.items from)) ≤ MOST_MAILED
    few from true = one.few
    few from false = before.few from

-- but not from the centre itself
pub received_self : (k j next : ℕ) (old mid : Inward) (a b : Acting) → next ≡ k + 1 → next ≡ j → ReceivesOver k j old mid a b → ReceivesOver next j old mid a b
unfolding taken_self
received_self k j next old mid a b is self before = record { takes = taken_self arrived inlet_after k j next is old mid a b before.takes self; few = before.few }

-- ---- a closing round

module _ (givers : List (List (GiverView Sent))) where
  -- over no links
  pub drained_none : (j : ℕ) (w : Inward) (a : Acting) → DrainsOver 0 j givers w w a a
  drained_none j w a = record { takes = taken_none arrivals inlet_closed j w a; all = λ from there. absurd (omega (arith, there.0.0, there.0.1)) }

  -- over one link more
  pub drained_next : (k j next : ℕ) (old mid new : Inward) (a b c : Acting) → next ≡ k + 1 → next ≢ j → DrainsOver k j givers old mid a b → DrainsFrom next j givers mid new b c → DrainsOver next j givers old new a c
  drained_next k j next old mid new a b c is other before one = record { takes = taken_next arrivals inlet_closed k j next is old mid a b before.takes new c other one.takes; all = λ from there. each from there (cases_eq from next) }
    where
      each : (from : ℕ) → IsOther next j from → (from ≡ next) ⊎ (from ≢ next) → length (taken_from new.takers from) ≡ length (put_between givers from j)
      each from there (inl this) = ap (λ i. length (taken_from new.takers i)) this ∙ (one.all ∙ ap (λ i. length (put_between givers i j)) (sym this))
      each from there (inr else) = ap length (one.takes.rest from there.0.0 else).0 ∙ before.all from ((there.0.0, omega (arith, there.0.1, else, is)), there.1)

  -- but not from the centre itself
  pub drained_self : (k j next : ℕ) (old mid : Inward) (a b : Acting) → next ≡ k + 1 → next ≡ j → DrainsOver k j givers old mid a b → DrainsOver next j givers old mid a b
  drained_self k j next old mid a b is self before = record {
    takes = taken_self arrivals inlet_closed k j next is old mid a b before.takes self;
    all = λ from there. let else : from ≢ next = λ same. there.1 (same ∙ self) in before.all from ((there.0.0, omega (arith, there.0.1, else, is)), there.1);
  }
