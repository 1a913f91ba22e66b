-- What the last state of the table says, once all passes were taken in.
use Rattle.std.proofs.Common.{◌≡◌, ◌⊎◌, ℕ, ◌+◌, ◌<◌, ◌≤◌, Bool, true, false, List, [], ◌∷◌, ◌++◌, length, Option, Some, None, sym, refl, ap, ◌∙◌, subst, ⊎_elim, inl, inr, arith}
use mathlib.Core.List.{IsPrefix}
use mathlib.Core.Logic.{dite}
use mathlib.Core.Option.{some, none, some-injective}
use mathlib.Core.Option as maybe
use native.Mathlib.Decide.{ℕ_discrete}
use lib.ListN.{get_elem?}
use Rattle.atomic_table.specs.Table.{Final, Seen}
use Rattle.atomic_table.proofs.Lists.{at_longer, at_last}
use Rattle.machine_trail.specs.declared.machine.Entry.{Entry}
use Rattle.machine_trail.specs.declared.machine.Kept.{Kept}
use Rattle.host_lock.specs.declared.law.SeatView.{SeatView}
use Rattle.host_lock.specs.declared.law.SpentPass.{SpentPass}
use Rattle.machine_trail.specs.History.{IsHistory, IsKept}
use Rattle.host_lock.specs.Law.{calls_of, spent_of, WasSpent, Holds, homed}
use Rattle.host_lock.specs.Hosts.{PassView, HostView, IsOf, InOrder, AllStood, IsWhole}
use Rattle.host_lock.proofs.Steps.{owner_of_turn}
use Rattle.host_lock.proofs.Seats.{off, at_one}

abbrev SpentStood : {A Y : Type 0} → List (Entry A Y) → SpentPass A Y → Type 0
SpentStood later p = IsPrefix p.since later × (calls_of p.number later ≡ p.mine)

module _ {A Y G : Type 0} where
  abbrev pub as_spent : PassView A Y G → SpentPass A Y
  as_spent p = record { number = p.number; since = p.since; mine = p.mine }

  -- each of these passes was taken in, or is the one that took them in
  abbrev pub Knows : SpentPass A Y → List (SpentPass A Y) → List (PassView A Y G) → Type 0
  Knows own past [] = Unit {0}
  Knows own past (p ∷ ps) = (((k : ℕ) × (get_elem? past k ≡ some (as_spent p))) ⊎ (own ≡ as_spent p)) × Knows own past ps

  knows_longer : (own : SpentPass A Y) (past : List (SpentPass A Y)) (q : SpentPass A Y) (ps : List (PassView A Y G)) → Knows own past ps → Knows own (past ++ q ∷ []) ps
  knows_longer own past q [] h = tt
  knows_longer own past q (p ∷ ps) h = (⊎_elim (λ t. inl (t.0, at_longer past (q ∷ []) t.0 (as_spent p) t.1)) (λ t. inr t) h.0, knows_longer own past q ps h.1)

  pub knows_more : (own : SpentPass A Y) (past : List (SpentPass A Y)) (p : PassView A Y G) (ps : List (PassView A Y G)) → Knows own past ps → Knows own (past ++ as_spent p ∷ []) (p ∷ ps)
  knows_more own past p ps h = (inl (length past, at_last past (as_spent p) (length past) refl), knows_longer own past (as_spent p) ps h)

  pub in_order_at : (h : HostView A Y G) (n : ℕ) (xs : List (PassView A Y G)) (x : PassView A Y G) (ys : List (PassView A Y G)) → InOrder h n (xs ++ x ∷ ys) → IsOf h x
  in_order_at h n [] x ys o = o.0.0
  in_order_at h n (y ∷ xs) x ys o = in_order_at h (n + 1) xs x ys o.1

  -- the pass with the number m was taken in, or is the one that took them in
  has_number : (h : HostView A Y G) (n : ℕ) (ps : List (PassView A Y G)) (own : SpentPass A Y) (past : List (SpentPass A Y)) → InOrder h n ps → Knows own past ps → (m : ℕ) → n ≤ m → m < n + length ps
      → ((k : ℕ) × (p : SpentPass A Y) × (get_elem? past k ≡ some p) × (p.number ≡ m)) ⊎ (own.number ≡ m)
  has_number h n [] own past o kn m le lt = absurd (omega arith)
  has_number h n (p ∷ ps) own past o kn m le lt = dite (ℕ_discrete n m)
      (λ e. ⊎_elim (λ t. inl (t.0, as_spent p, t.1, o.0.1 ∙ e)) (λ (t : own ≡ as_spent p). inr (ap (λ (x : SpentPass A Y). x.number) t ∙ (o.0.1 ∙ e))) kn.0)
      (λ ne. has_number h (n + 1) ps own past o.1 kn.1 m (omega arith) (omega arith))

  all_stood : (owner : ℕ → ℕ) (later : List (Entry A Y)) (own : SpentPass A Y) (past : List (SpentPass A Y)) (ps : List (PassView A Y G)) → ((k : ℕ) (p : SpentPass A Y) → get_elem? past k ≡ some p → WasSpent owner later p)
      → SpentStood later own → Knows own past ps → AllStood later ps
  all_stood owner later own past [] was mine kn = tt
  all_stood owner later own past (p ∷ ps) was mine kn =
      (⊎_elim (λ t. let h = was t.0 (as_spent p) t.1 in (h.1, h.2)) (λ (t : own ≡ as_spent p). subst (SpentStood later) t mine) kn.0, all_stood owner later own past ps was mine kn.1)

le_of : {a b : ℕ} → (b < a → ⊥) → a ≤ b
le_of h = omega arith

module _ {A Y G M : Type 0} (reply : G → List (Entry A Y) → A → Y → Type 0) (stands : M → List (Entry A Y) → Type 0) (settings_of : M → G) (settings : G) (opening : List (Entry A Y)) (callers : ℕ) where
  abbrev Slot : Type 0
  Slot = Option (Kept M A Y G)

  -- what comes out
  abbrev pub Ends : HostView A Y G → List (PassView A Y G) → Kept M A Y G → Type 0
  Ends h ps kept = IsWhole reply h ps kept.trail.entries × IsKept reply stands settings_of kept.machine kept.trail.entries × (h.settings ≡ Some (settings_of kept.machine))

  pub closes : (h : HostView A Y G) (ps : List (PassView A Y G)) (id : ℕ) (v : SeatView A Y G) (ws : List ℕ) (xs : List Slot) → v.calls ≡ true → v.turns ≡ false → callers ≡ h.callers → h.settings ≡ Some settings → h.opening ≡ opening
      → InOrder h 1 ps → length ps ≡ h.callers → Knows (spent_of v) v.past ps → Final (Seen (Holds reply stands settings_of settings opening callers) id v) ws xs
      → (kept : Kept M A Y G) × (get_elem? xs 0 ≡ some (Some kept)) × Ends h ps kept
  closes h ps id v ws xs calls at_rest all set_by opened order count kn fin =
      let s = fin.0 in let r = fin.1.0 in let at = fin.1.1 in
      let f = r.seats id v at in let pasts = f.pasts calls in let own = f.owns calls in let known = f.knows calls in
      let free : r.turn ≡ 0 = dite (ℕ_discrete r.turn 0) (λ e. e) (λ ne.
      let u = r.held ne in let its = owner_of_turn reply stands settings_of settings opening callers s r r.who u.0 u.1 u.2.0 in
      let low : r.turn ≤ r.drawn = le_of (λ more. omega (arith, sym its ∙ r.fresh r.turn more)) in
      ⊎_elim
      (λ (q : (k : ℕ) × (p : SpentPass A Y) × (get_elem? v.past k ≡ some p) × (p.number ≡ r.turn)). let was = pasts q.0 q.1 q.2 in absurd (omega (arith, sym was.0 ∙ (ap r.owner q.3 ∙ its))))
      (λ (mine : v.number ≡ r.turn). let same : r.who ≡ id = omega (arith, sym its ∙ (ap r.owner (sym mine) ∙ own.0)) in
      off v.turns at_rest (ap (λ (x : SeatView A Y G). x.turns) (at_one s.views id v u.0 at (subst (λ k. get_elem? s.views k ≡ some u.0) same u.1)) ∙ u.2.0))
      (has_number h 1 ps (spent_of v) v.past order kn r.turn (omega arith) (omega (arith, low, r.few, all, count)))) in
      let home = r.idle free in let st = r.home home in
      let homes : s.homes ≡ homed false r.kept = r.homes ∙ ap (λ (b : Bool). homed b r.kept) home in
      let log : r.kept.trail.entries ≡ h.opening ++ r.later = st.trail ∙ ap (λ (l : List (Entry A Y)). l ++ r.later) (sym opened) in (
        r.kept,
        fin.4 0 (Some r.kept) (ap (λ (l : List (maybe.Option Slot)). get_elem? l 0) homes),
        (
          (
            r.later,
            log,
            all_stood r.owner r.later (spent_of v) v.past ps pasts known kn,
            (λ n. ⊎_elim (λ (e : n ≡ 0). r.unowned n (ap r.owner e ∙ r.zeroth)) (λ (more : h.callers < n). r.unowned n (r.fresh n (omega (arith, more, r.few, all))))),
            (settings, set_by, subst (IsHistory (reply settings)) (sym st.trail) r.history),
          ),
          subst (IsKept reply stands settings_of r.kept.machine) (sym st.trail) st.machine,
          set_by ∙ ap Some (sym st.same),
        ),
      )

  module _ (h : HostView A Y G) (ps left done : List (PassView A Y G)) (id : ℕ) (v : SeatView A Y G) (ws : List ℕ) (xs : List Slot) (calls : v.calls ≡ true) (at_rest : v.turns ≡ false) (all : callers ≡ h.callers) (set_by : Some settings ≡ h.settings) (opened : opening ≡ h.opening)
      (order : InOrder h 1 ps) (count : length ps ≡ h.callers) (are : ps ≡ left ++ done) (no_more : left ≡ []) (kn : Knows (spent_of v) v.past done) (fin : Final (Seen (Holds reply stands settings_of settings opening callers) id v) ws xs) (r : Slot) (taken : get_elem? xs 0 ≡ some r) where
    abbrev last : (kept : Kept M A Y G) × (get_elem? xs 0 ≡ some (Some kept)) × Ends h ps kept
    last = closes h ps id v ws xs calls at_rest all (sym set_by) (sym opened) order count (subst (Knows (spent_of v) v.past) (sym (are ∙ ap (λ (l : List (PassView A Y G)). l ++ done) no_more)) kn) fin

    r_is : r ≡ Some last.0
    r_is = some-injective r (Some last.0) (sym taken ∙ last.1)

    pub ends_with : (kept : Kept M A Y G) → r ≡ Some kept → Ends h ps kept
    ends_with kept is = let same : last.0 ≡ kept = (let e : Some last.0 ≡ Some kept = sym r_is ∙ is in cc e) in subst (Ends h ps) same last.2

    pub ends_not : r ≡ None → ⊥
    ends_not is = let e : None ≡ Some last.0 = sym is ∙ r_is in cc e
