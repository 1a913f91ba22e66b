-- What tests of acts tell: which act adds a word or key, which takes it out, which is over which, and which sees which.
use Rattle.std.proofs.Common.{◌≡◌, ℕ, ◌<◌, ◌⊎◌, inl, inr, ⊎_elim, Bool, true, false, not, ◌&&◌, List, Option, Some, None, sym, ap, ◌∙◌, subst}
use Rattle.std.specs.Prelude.{nat_lt}
use Rattle.std.specs.Ordering.{is_lt}
use Rattle.std.specs.Cmp.{IsEquivalence}
use Rattle.std.proofs.lemmas.Cmp.{eq_by_cmp_equiv}
use Rattle.std.proofs.lemmas.Bool.{and_parts, and_from, or_cases, or_left, or_right, ltb-true, lt-ltb, not_from_false, not-true, false≢true}
use Rattle.list_core.specs.Members.{In}
use Rattle.ids_core.specs.declared.ids.OpId.{OpId}
use Rattle.ids_core.specs.declared.ids.Mark.{Mark}
use Rattle.ids_core.specs.Ids.{same_dot}
use Rattle.ids_core.specs.Same.{same_dot-true, same_dot-same}
use Rattle.ids_core.specs.Orders.{id_cmp_total, id_cmp_same, name_cmp_total, name_cmp_same, mark_cmp}
use Rattle.tally_core.specs.Places.{same_id}
use Rattle.tally_core.specs.Live.{is_name}
use Rattle.tally_core.specs.Sees.{any}
use Rattle.tally_core.proofs.Sparse.{is_same}
use Rattle.tally_core.proofs.Finds.{any_true, any_false, any_from}
use Rattle.tx_core.specs.declared.op.Op.{Op}
use Rattle.tx_core.specs.Ops.{over_of, name_of, is_add}
use Rattle.dc_talk.specs.Records.{has}
use Rattle.dc_talk.proofs.Dots.{has_In, In_has}
use Rattle.tx_graph.specs.Values.{Act, sees}
use Rattle.run_book.proofs.Causal.Acts.{HasAct}

-- ---- words and identifiers

-- the operation is on the word or key
abbrev under : List ℕ → Op → Bool
under w op = is_name (name_of op) w

-- where this test holds, the operation is on the word or key
under-true : (w : List ℕ) (op : Op) → under w op ≡ true → name_of op ≡ Some w
under-true w op is = go (name_of op) is
  where
    go : (n : Option (List ℕ)) → is_name n w ≡ true → n ≡ Some w
    go None is = absurd (false≢true is)
    go (Some name) is = ap Some (is_same name_cmp_same name w is)

-- of an operation on the word or key the test holds
under-from : (w : List ℕ) (op : Op) → name_of op ≡ Some w → under w op ≡ true
under-from w op is = ap (λ n. is_name n w) is ∙ IsEquivalence.refl (eq_by_cmp_equiv name_cmp_total) w

-- the identifier is one of these
abbrev has_id : OpId → List OpId → Bool
has_id id ids = any (same_id id) ids

-- where this test holds, the identifier is one of these
has_id-true : (id : OpId) (ids : List OpId) → has_id id ids ≡ true → In id ids
has_id-true id ids is = let r = any_true (same_id id) ids is in subst (λ x. In x ids) (sym (is_same id_cmp_same id r.0 r.2)) r.1

-- of one of these identifiers the test holds
has_id-from : (id : OpId) (ids : List OpId) → In id ids → has_id id ids ≡ true
has_id-from id ids i = any_from (same_id id) ids id i (IsEquivalence.refl (eq_by_cmp_equiv id_cmp_total) id)

-- ---- acts on a word or key

-- the act adds the word or puts the key
abbrev pub adds : List ℕ → Act → Bool
adds w act = under w act.op && is_add act.op

-- where this test holds, the act is an add or a put under the name
pub adds-true : (w : List ℕ) (act : Act) → adds w act ≡ true → (name_of act.op ≡ Some w) × (is_add act.op ≡ true)
adds-true w act is = let parts = and_parts (under w act.op) (is_add act.op) is in (under-true w act.op parts.0, parts.1)

-- of an add or a put under the name the test holds
pub adds-from : (w : List ℕ) (act : Act) → name_of act.op ≡ Some w → is_add act.op ≡ true → adds w act ≡ true
adds-from w act name add = and_from (under w act.op) (is_add act.op) (under-from w act.op name) add

-- the act removes the word or erases the key
abbrev pub kills : List ℕ → Act → Bool
kills w act = under w act.op && not (is_add act.op)

-- where this test holds, the act is under the name, and neither an add nor a put
pub kills-true : (w : List ℕ) (act : Act) → kills w act ≡ true → (name_of act.op ≡ Some w) × (is_add act.op ≡ false)
kills-true w act is = let parts = and_parts (under w act.op) (not (is_add act.op)) is in (under-true w act.op parts.0, not-true (is_add act.op) parts.1)

-- of an act under the name that is neither the test holds
pub kills-from : (w : List ℕ) (act : Act) → name_of act.op ≡ Some w → is_add act.op ≡ false → kills w act ≡ true
kills-from w act name add = and_from (under w act.op) (not (is_add act.op)) (under-from w act.op name) (not_from_false (is_add act.op) add)

-- the first act is on the word or key, and over the identifier of the second
abbrev pub over : List ℕ → Act → Act → Bool
over w q p = under w q.op && has_id p.mark.id (over_of q.op)

-- where this test holds, the first act is under the name, and over the identifier of the second
pub over-true : (w : List ℕ) (q p : Act) → over w q p ≡ true → (name_of q.op ≡ Some w) × In p.mark.id (over_of q.op)
over-true w q p is = let parts = and_parts (under w q.op) (has_id p.mark.id (over_of q.op)) is in (under-true w q.op parts.0, has_id-true p.mark.id (over_of q.op) parts.1)

-- of an act under the name that is over the identifier the test holds
pub over-from : (w : List ℕ) (q p : Act) → name_of q.op ≡ Some w → In p.mark.id (over_of q.op) → over w q p ≡ true
over-from w q p name i = and_from (under w q.op) (has_id p.mark.id (over_of q.op)) (under-from w q.op name) (has_id-from p.mark.id (over_of q.op) i)

-- where no act is over p, no operation of theirs is
pub none_over : (acts : List Act) (w : List ℕ) (p : Act) → any (λ h. over w h p) acts ≡ false → (op : Mark × Op) → HasAct acts op → name_of op.1 ≡ Some w → In p.mark.id (over_of op.1) → ⊥
none_over acts w p none op a name held =
    let over_p = over-from w a.act p (ap (λ (op : Mark × Op). name_of op.1) (sym a.is) ∙ name) (subst (λ (op : Mark × Op). In p.mark.id (over_of op.1)) a.is held) in
    false≢true (sym (any_false (λ h. over w h p) acts a.act none a.there) ∙ over_p)

-- the mark of the first act is below that of the second
abbrev pub less : Act → Act → Bool
less p q = is_lt (mark_cmp p.mark q.mark)

-- ---- what sees what

-- the identifier is of an act that q sees: its dot is in the dependency set of q, or it stands earlier in one
-- transaction
abbrev pub IsSeenBy : Act → OpId → Type 0
IsSeenBy q id = In id.dot q.deps ⊎ ((id.dot ≡ q.mark.id.dot) × (id.place < q.mark.id.place))

-- an act that sees p by the test sees the identifier of p
pub sees-true : (q p : Act) → sees q p ≡ true → IsSeenBy q p.mark.id
sees-true q p is =
    ⊎_elim
    (λ d. inl (has_In p.mark.id.dot q.deps d))
    (λ s. let parts = and_parts (same_dot p.mark.id.dot q.mark.id.dot) (nat_lt p.mark.id.place q.mark.id.place) s in inr (same_dot-true p.mark.id.dot q.mark.id.dot parts.0, ltb-true p.mark.id.place q.mark.id.place parts.1))
    (or_cases (has p.mark.id.dot q.deps) (same_dot p.mark.id.dot q.mark.id.dot && nat_lt p.mark.id.place q.mark.id.place) is)

-- an act that sees the identifier of p sees p by the test
pub sees-from : (q p : Act) → IsSeenBy q p.mark.id → sees q p ≡ true
sees-from q p (inl d) = or_left (has p.mark.id.dot q.deps) _ (In_has p.mark.id.dot q.deps d)
sees-from q p (inr s) = or_right (has p.mark.id.dot q.deps) _ (and_from (same_dot p.mark.id.dot q.mark.id.dot) (nat_lt p.mark.id.place q.mark.id.place) (same_dot-same p.mark.id.dot q.mark.id.dot s.0) (lt-ltb p.mark.id.place q.mark.id.place s.1))
