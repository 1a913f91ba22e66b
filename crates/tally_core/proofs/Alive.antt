-- What is live by tallies is live by the operations.
use Rattle.std.proofs.Common.{◌≡◌, ℕ, ◌+◌, ◌≤◌, true, false, cond, ◌⊎◌, inl, inr, ⊎_elim, ◌↔◌, Option, Some, None, is_some, List, [], ◌∷◌, arith, refl, sym, ap, ◌∙◌, subst}
use Rattle.std.specs.Prelude.{◌-ℤ◌, pos, int_lt}
use Rattle.std.proofs.lemmas.Int.{ints}
use Rattle.std.proofs.lemmas.Bool.{cases_Bool, and_parts}
use Rattle.std.proofs.lemmas.Option.{none-some}
use Rattle.list_core.specs.Members.{In}
use Rattle.ids_core.specs.Kinds.{Distinct}
use Rattle.ids_core.specs.Orders.{id_cmp_same}
use Rattle.ids_core.specs.declared.ids.OpId.{OpId}
use Rattle.ids_core.specs.declared.ids.Mark.{Mark}
use Rattle.tally_core.specs.Places.{place, same_name, same_id}
use Rattle.tally_core.specs.Cells.{Tallied, cell_at}
use Rattle.tally_core.specs.Live.{is_live, live_ids, kept_at, live_names}
use Rattle.tally_core.specs.Changes.{Change, adds, holds, added, held, tally_of, kept_of, or_else, IsTallyOf, IsLiveIn, LiveByOps}
use Rattle.tally_core.proofs.Sparse.{is_same}
use Rattle.tally_core.proofs.Listed.{live_exact, kept_exact, names_exact}

-- a difference above 0, of which the first number is 1 at most
above : (a h : ℕ) → a ≤ 1 → int_lt (pos 0) (pos a -ℤ pos h) ≡ true → (1 ≤ a) × (h ≡ 0)
above a h le e = (grind (arith, ints), grind (arith, ints))

below : (a h : ℕ) → 1 ≤ a → h ≡ 0 → int_lt (pos 0) (pos a -ℤ pos h) ≡ true
below a h le e = grind (arith, ints)

at_most : (a h : ℕ) → a ≤ 1 → int_lt (pos 1) (pos a -ℤ pos h) ≡ false
at_most a h le = grind (arith, ints)

module _ {O P : Type 0} (does : (Mark × O) → Change P) (name : List ℕ) (id : OpId) where
  own : (op : Mark × O) → adds does name id op ≡ true → id ≡ op.0.id
  own op h = is_same id_cmp_same id op.0.id (and_parts (is_some (does op).add) (same_id id op.0.id) (and_parts (same_name name (does op).name) _ h).1).1

  -- no add of the identifier
  NoAdd : List (Mark × O) → Type 0
  NoAdd ops = (op : Mark × O) → In op ops → adds does name id op ≡ false

  other : (op : Mark × O) (ops : List (Mark × O)) → adds does name id op ≡ true → ((next : Mark × O) → In next ops → op.0.id ≡ next.0.id → ⊥) → (next : Mark × O) → In next ops → adds does name id next ≡ false
  other op ops h apart next i = ⊎_elim (λ t. absurd (apart next i (sym (own op h) ∙ own next t))) (λ f. f) (cases_Bool (adds does name id next))

  none_added : (ops : List (Mark × O)) → ((op : Mark × O) → In op ops → adds does name id op ≡ false) → added does name id ops ≡ 0
  none_added [] h = refl
  none_added (op ∷ ops) h = rw (h op (inl refl), none_added ops (λ next i. h next (inr i))) refl

  none_kept : (ops : List (Mark × O)) → ((op : Mark × O) → In op ops → adds does name id op ≡ false) → kept_of does name id ops ≡ None
  none_kept [] h = refl
  none_kept (op ∷ ops) h = rw (h op (inl refl), none_kept ops (λ next i. h next (inr i))) refl

  once : (ops : List (Mark × O)) → Distinct ops → added does name id ops ≤ 1
  once [] d = omega arith
  once (op ∷ ops) d = at (cases_Bool (adds does name id op)) (once ops d.1)
    where
      at : (adds does name id op ≡ true) ⊎ (adds does name id op ≡ false) → added does name id ops ≤ 1 → cond (adds does name id op) 1 0 + added does name id ops ≤ 1
      at (inl t) rest = rw (t, none_added ops (other op ops t d.0)) (omega arith)
      at (inr f) rest = rw f (omega (arith, rest))

  some_added : (ops : List (Mark × O)) → 1 ≤ added does name id ops → (op : Mark × O) × In op ops × (adds does name id op ≡ true)
  some_added [] le = absurd (omega (arith, le))
  some_added (op ∷ ops) le = at (cases_Bool (adds does name id op)) (λ h. some_added ops h)
    where
      at : (adds does name id op ≡ true) ⊎ (adds does name id op ≡ false) → (1 ≤ added does name id ops → (op : Mark × O) × In op ops × (adds does name id op ≡ true)) → (next : Mark × O) × In next (op ∷ ops) × (adds does name id next ≡ true)
      at (inl t) rest = (op, inl refl, t)
      at (inr f) rest =
          let n = added does name id ops in
          let same : 1 ≤ 0 + n = subst (λ b. 1 ≤ cond b 1 0 + n) f le in
          let fewer : 1 ≤ n = omega (arith, same) in
          let r = rest fewer in
          (r.0, inr r.1, r.2)

  add_counts : (ops : List (Mark × O)) (op : Mark × O) → In op ops → adds does name id op ≡ true → 1 ≤ added does name id ops
  add_counts [] op i h = absurd i
  add_counts (next ∷ ops) op (inl s) h = rw (ap (adds does name id) (sym s) ∙ h) (omega arith)
  add_counts (next ∷ ops) op (inr i) h = let rest = add_counts ops op i h in let a = added does name id ops in let c : ℕ = cond (adds does name id next) 1 0 in omega (arith, rest)

  held_none : (ops : List (Mark × O)) → held does name id ops ≡ 0 → (op : Mark × O) → In op ops → holds does name id op ≡ 0
  held_none [] h op i = absurd i
  held_none (next ∷ ops) h op (inl s) = ap (holds does name id) s ∙ (let a = holds does name id next in let b = held does name id ops in omega (arith, h))
  held_none (next ∷ ops) h op (inr i) = held_none ops (let a = holds does name id next in let b = held does name id ops in omega (arith, h)) op i

  none_held : (ops : List (Mark × O)) → ((op : Mark × O) → In op ops → holds does name id op ≡ 0) → held does name id ops ≡ 0
  none_held [] h = refl
  none_held (next ∷ ops) h = rw (h next (inl refl), none_held ops (λ op i. h op (inr i))) refl

  -- the add that is there is the one whose kept is kept
  add_kept : (ops : List (Mark × O)) → Distinct ops → (op : Mark × O) → In op ops → adds does name id op ≡ true → kept_of does name id ops ≡ (does op).add
  add_kept [] d op i h = absurd i
  add_kept (next ∷ ops) d op (inl s) h =
      let here : adds does name id next ≡ true = ap (adds does name id) (sym s) ∙ h in
      rw (none_kept ops (other next ops here d.0), here) (ap (λ op. (does op).add) (sym s))
  add_kept (next ∷ ops) d op (inr i) h = later (does op).add (and_parts (is_some (does op).add) _ (and_parts (same_name name (does op).name) _ h).1).0 (add_kept ops d.1 op i h)
    where
      later : (o : Option P) → is_some o ≡ true → kept_of does name id ops ≡ o → or_else (kept_of does name id ops) (cond (adds does name id next) (does next).add None) ≡ o
      later None e is = cc
      later (Some p) e is = rw is refl

  live_ops : (ops : List (Mark × O)) → Distinct ops → int_lt (pos 0) (tally_of does name id ops) ≡ true → IsLiveIn does ops name id
  live_ops ops d h =
      let parts = above (added does name id ops) (held does name id ops) (once ops d) h in
      let r = some_added ops parts.0 in
      record { op = r.0; there = r.1; is = r.2; free = held_none ops parts.1 }

  ops_live : (ops : List (Mark × O)) → IsLiveIn does ops name id → int_lt (pos 0) (tally_of does name id ops) ≡ true
  ops_live ops l = below (added does name id ops) (held does name id ops) (add_counts ops l.op l.there l.is) (none_held ops l.free)

  module _ (ops : List (Mark × O)) (m : Tallied P) (d : Distinct ops) (t : IsTallyOf does ops m) where
    ids : In id (live_ids m name) ↔ IsLiveIn does ops name id
    ids = (
      λ i. live_ops ops d (ap is_live (sym (t.each name id)) ∙ (live_exact m name id).0 i),
      λ l. (live_exact m name id).1 (ap is_live (t.each name id) ∙ ops_live ops l),
    )

    few : int_lt (pos 1) (cell_at m (place name id)).count ≡ false
    few = ap (λ c. int_lt (pos 1) c.count) (t.each name id) ∙ at_most (added does name id ops) (held does name id ops) (once ops d)

    kept : (p : P) → In (id, p) (kept_at m name) ↔ ((live : IsLiveIn does ops name id) × ((does live.op).add ≡ Some p))
    kept p = (to, from)
      where
        to : In (id, p) (kept_at m name) → (live : IsLiveIn does ops name id) × ((does live.op).add ≡ Some p)
        to i = at (cases_Bool (int_lt (pos 0) (tally_of does name id ops))) (ap (λ c. c.kept) (sym (t.each name id)) ∙ (kept_exact m name id p).0 i)
          where
            at : (int_lt (pos 0) (tally_of does name id ops) ≡ true) ⊎ (int_lt (pos 0) (tally_of does name id ops) ≡ false) → cond (int_lt (pos 0) (tally_of does name id ops)) (kept_of does name id ops) None ≡ Some p → (live : IsLiveIn does ops name id) × ((does live.op).add ≡ Some p)
            at (inl l) e =
                let live = live_ops ops d l in
                (live, sym (add_kept ops d live.op live.there live.is) ∙ (sym (ap (λ b. cond b (kept_of does name id ops) None) l) ∙ e))
            at (inr f) e = absurd (none-some p (sym (ap (λ b. cond b (kept_of does name id ops) None) f) ∙ e))

        from : (live : IsLiveIn does ops name id) × ((does live.op).add ≡ Some p) → In (id, p) (kept_at m name)
        from l = (kept_exact m name id p).1 (ap (λ c. c.kept) (t.each name id) ∙ (ap (λ b. cond b (kept_of does name id ops) None) (ops_live ops l.0) ∙ (add_kept ops d l.0.op l.0.there l.0.is ∙ l.1)))

module _ {O P : Type 0} (does : (Mark × O) → Change P) (ops : List (Mark × O)) (m : Tallied P) (d : Distinct ops) (t : IsTallyOf does ops m) where
  names : (name : List ℕ) → In name (live_names m) ↔ ((id : OpId) × IsLiveIn does ops name id)
  names name = (
    λ i. let r = (names_exact m name).0 i in (r.0, live_ops does name r.0 ops d (ap is_live (sym (t.each name r.0)) ∙ r.1)),
    λ l. (names_exact m name).1 (l.0, ap is_live (t.each name l.0) ∙ ops_live does name l.0 ops l.1),
  )

  pub live_by_ops : LiveByOps does ops m
  live_by_ops = record {
    few = λ name id. few does name id ops m d t;
    ids = λ name id. ids does name id ops m d t;
    kept = λ name id p. kept does name id ops m d t p;
    names = names;
  }
