-- What is known of objects, kept from one ask to the next and past one record more.
use Rattle.std.proofs.Common.{◌≡◌, ℕ, Bool, true, false, cond, ◌⊎◌, inl, inr, ⊎_elim, Option, Some, None, List, [], ◌∷◌, ◌++◌, ◌-◌, length, drop, refl, sym, ap, subst, ◌∙◌, arith}
use Rattle.std.specs.Prelude.{IfSome, filter, take, Result, Ok, Err, OnOk, OnErr}
use Rattle.std.specs.BTreeMap.{is_at}
use Rattle.std.proofs.lemmas.Bool.{cases_Bool}
use Rattle.std.proofs.lemmas.List.{length-append, take-append-le, take_rest}
use Rattle.ids_core.specs.declared.object.ObjectId.{ObjectId}
use Rattle.ids_core.specs.Orders.{object_cmp, same_object-by_cmp}
use Rattle.ids_core.specs.Same.{same_object-true}
use Rattle.vv_core.specs.Vectors.{Covers}
use Rattle.op_log.specs.declared.chains.Cell.{Cell}
use Rattle.tx_core.specs.declared.tx.Record.{Record}
use Rattle.op_log.specs.Logs as log
use Rattle.list_core.specs.Members.{In}
use Rattle.point_log.specs.StandFor.{with_one}
use Rattle.point_log.specs.LogSplits.{ops_in}
use Rattle.point_log.specs.Served.{is_since, AreInside}
use Rattle.point_log.proofs.Serving.{since_drop, inside_later, Goes, chain_goes, inside_more}
use Rattle.object_delta.specs.Deltas.{ops_told, if_few}
use Rattle.object_delta.specs.declared.passed.Passed.{Passed}
use Rattle.object_delta.specs.Passed.{IsPassed, ArePassed, IsPassedPut, PassedEntries, passed_of}

-- of what is found something holds
pub passed_found : (P : Passed → Type 0) (found : Option Passed) (p : Passed) → found ≡ Some p → IfSome found P → P p
passed_found P found p is all = subst (λ found. IfSome found P) is all

-- what is known of an object's first operations is so at each later vector
pub passed_later : (w : List ℕ) (n : ℕ) (kept : log.LogView) (o : ObjectId) (p : Passed) → IsPassed n kept o p → Covers w p.at → AreInside w kept.items (take p.done (log.chain_of o kept.items))
passed_later w n kept o p is later c i = inside_later w p.at c.tx kept.items later (is.first c i)

-- behind those that are known to be within the first vector is all that came since
pub told_behind : (kept : log.LogView) (o : ObjectId) (before w : List ℕ) (cells : List Cell) (n : ℕ) → cells ≡ log.chain_of o kept.items → AreInside before kept.items (take n (log.chain_of o kept.items)) → if_few (ops_in (filter (is_since before w kept.items) (take (length cells - n) (drop n cells)))) ≡ if_few (ops_told kept o before w)
told_behind kept o before w cells n chain first =
    ap (λ cells. if_few (ops_in (filter (is_since before w kept.items) cells))) (take_rest cells n)
    ∙ ap (λ cells. if_few (ops_in (filter (is_since before w kept.items) (drop n cells)))) chain
    ∙ ap (λ l. if_few (ops_in l)) (since_drop before w kept.items n (log.chain_of o kept.items) first)

-- what is put of an object, over what was kept or nothing, or not where memory was refused
pub put_over : {T E : Type 0} (r : Result T E) (old mid new : PassedEntries) (o : ObjectId) (p : Passed) → ((q : ObjectId) → (passed_of mid q ≡ passed_of old q) ⊎ (passed_of mid q ≡ None)) → OnOk r ((q : ObjectId) → passed_of new q ≡ cond (is_at (object_cmp o) q) (Some p) (passed_of mid q)) → OnErr r (new ≡ mid) → IsPassedPut old new o p
put_over (Ok x) old mid new o p room is same q = at (cases_Bool (is_at (object_cmp o) q))
  where
    at : (is_at (object_cmp o) q ≡ true) ⊎ (is_at (object_cmp o) q ≡ false) → ((q ≡ o) × (passed_of new q ≡ Some p)) ⊎ (passed_of new q ≡ passed_of old q) ⊎ (passed_of new q ≡ None)
    at (inl own) = inl (sym (same_object-true o q (same_object-by_cmp o q ∙ own)), is q ∙ ap (λ b. cond b (Some p) (passed_of mid q)) own)
    at (inr other) = inr (⊎_elim (λ was. inl (is q ∙ ap (λ b. cond b (Some p) (passed_of mid q)) other ∙ was)) (λ none. inr (is q ∙ ap (λ b. cond b (Some p) (passed_of mid q)) other ∙ none)) (room q))
put_over (Err x) old mid new o p room is same q = inr (⊎_elim (λ was. inl (ap (λ es. passed_of es q) same ∙ was)) (λ none. inr (ap (λ es. passed_of es q) same ∙ none)) (room q))

-- what is known of each object stays so, where what was put is
pub passed_with : (n : ℕ) (kept : log.LogView) (old new : PassedEntries) (o : ObjectId) (p : Passed) → IsPassedPut old new o p → IsPassed n kept o p → ArePassed n kept old → ArePassed n kept new
passed_with n kept old new o p put one all q = at (put q)
  where
    at : ((q ≡ o) × (passed_of new q ≡ Some p)) ⊎ (passed_of new q ≡ passed_of old q) ⊎ (passed_of new q ≡ None) → IfSome (passed_of new q) (IsPassed n kept q)
    at (inl own) = subst (λ found. IfSome found (IsPassed n kept q)) (sym own.1) (subst (λ o. IsPassed n kept o p) (sym own.0) one)
    at (inr (inl same)) = subst (λ found. IfSome found (IsPassed n kept q)) (sym same) (all q)
    at (inr (inr none)) = subst (λ found. IfSome found (IsPassed n kept q)) (sym none) tt

-- nothing is known
pub none_passed : (n : ℕ) (kept : log.LogView) (entries : PassedEntries) → entries ≡ [] → ArePassed n kept entries
none_passed n kept entries none o = subst (λ es. IfSome (passed_of es o) (IsPassed n kept o)) (sym none) tt

-- what is known of an object stands with one record more
passed_one : (n : ℕ) (kept : log.LogView) (o : ObjectId) (r : Record) (fresh : Bool) (p : Passed) → IsPassed n kept o p → IsPassed n (with_one kept r fresh) o p
passed_one n kept o r fresh p is = record {
  wide = is.wide;
  few = let few = is.few in omega (arith, few, ap length g.is, length-append (log.chain_of o kept.items) g.more);
  first = λ c i. inside_more p.at c.tx kept r fresh (is.first c (subst (λ l. In c l) (ap (take p.done) g.is ∙ take-append-le p.done (log.chain_of o kept.items) g.more is.few) i));
}
  where
    g : Goes (log.chain_of o kept.items) (log.chain_of o (with_one kept r fresh).items)
    g = chain_goes o kept r fresh

if_some_on : {X : Type 0} (P Q : X → Type 0) (found : Option X) → ((x : X) → P x → Q x) → IfSome found P → IfSome found Q
if_some_on P Q None on p = tt
if_some_on P Q (Some x) on p = on x p

-- so does what is known of all objects
pub passed_more : (n : ℕ) (kept : log.LogView) (r : Record) (fresh : Bool) (entries : PassedEntries) → ArePassed n kept entries → ArePassed n (with_one kept r fresh) entries
passed_more n kept r fresh entries all o = if_some_on (IsPassed n kept o) (IsPassed n (with_one kept r fresh) o) (passed_of entries o) (passed_one n kept o r fresh) (all o)
