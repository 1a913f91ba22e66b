-- States that are kept, folded on at a later vector, and after one record more.
use Rattle.std.proofs.Common.{◌≡◌, ◌≤◌, ◌<◌, ℕ, ◌+◌, Bool, true, false, cond, ◌&&◌, ◌⊎◌, inl, inr, ⊎_elim, Option, Some, None, List, [], ◌∷◌, ◌++◌, length, take, drop, get_or, refl, sym, ap, subst, ◌∙◌, arith}
use Rattle.std.specs.Prelude.{filter, not, IfSome, ◌==◌, Result, Ok, Err, OnOk, OnErr, IfOk}
use Rattle.std.specs.BTreeMap.{is_at}
use Rattle.std.proofs.Math.Bool.{and-false}
use Rattle.std.proofs.lemmas.Bool.{cases_Bool, false≢true, or_cases, or_left, or_right, and_parts, and_from}
use Rattle.std.proofs.lemmas.List.{append-nil, length-append, take-append-drop, take-append-le, take_more}
use Rattle.std.proofs.lemmas.List.Elements.{filter-append}
use Rattle.std.proofs.lemmas.List.Folds.{list_any-append}
use Rattle.list_core.specs.Members.{In}
use Rattle.list_core.proofs.Members.{filter_none, In_more}
use Rattle.ids_core.specs.declared.ids.Dot.{Dot}
use Rattle.ids_core.specs.declared.object.ObjectId.{ObjectId}
use Rattle.ids_core.specs.Ids.{same_dot}
use Rattle.ids_core.specs.Orders.{object_cmp, same_object-by_cmp}
use Rattle.ids_core.specs.Same.{same_object-true}
use Rattle.vv_core.specs.declared.stamp.Stamp.{Stamp}
use Rattle.vv_core.specs.Vectors.{within, Covers}
use Rattle.vv_core.specs.Stamps.{is_any_within}
use Rattle.vv_core.proofs.Covering.{Covers_trans}
use Rattle.tx_core.specs.declared.tx.Record.{Record}
use Rattle.tx_core.specs.declared.state.State.{State}
use Rattle.tx_core.specs.States.{fold_of}
use Rattle.dc_talk.specs.Clients.{same_vector}
use Rattle.dc_talk.proofs.Vectors.{same_vector-true}
use Rattle.op_log.specs.declared.chains.Cell.{Cell}
use Rattle.op_log.specs.declared.logged.Logged.{Logged}
use Rattle.op_log.specs.Logs as log
use Rattle.op_log.proofs.Items.{chain_of-with_stamp, chain_more}
use Rattle.check_point.specs.Points.{PointView}
use Rattle.point_log.specs.declared.served.Served.{Served}
use Rattle.point_log.specs.LogSplits.{ops_in}
use Rattle.point_log.specs.StandFor.{state_told, with_one}
use Rattle.point_log.specs.Served.{is_since, AreInside, IsServed, AreServed, IsPut, ServedEntries, served_of}
use Rattle.point_log.specs.KeptLogs.{IsKeptLog}
use Rattle.point_log.proofs.KeptLogs.{any_later, told_on, told_more}

-- ---- a later vector

-- what is within a vector did not come since
pub since_drop : (v w : List ℕ) (items : List Logged) (n : ℕ) (cells : List Cell) → AreInside v items (take n cells) → filter (is_since v w items) (drop n cells) ≡ filter (is_since v w items) cells
since_drop v w items n cells first =
    sym (ap (filter (is_since v w items)) (sym (take-append-drop n cells)) ∙ filter-append (is_since v w items) (take n cells) (drop n cells) ∙ ap (λ l. l ++ filter (is_since v w items) (drop n cells)) (filter_none (is_since v w items) (take n cells) none))
  where
    none : (c : Cell) → In c (take n cells) → is_since v w items c ≡ false
    none c i = ap (λ b. log.is_inside_at w c.tx items && not b) (first c i) ∙ and-false (log.is_inside_at w c.tx items)

-- nothing came since the same vector
since_same : (v : List ℕ) (items : List Logged) (cells : List Cell) → filter (is_since v v items) cells ≡ []
since_same v items cells = filter_none (is_since v v items) cells (λ c i. neither (log.is_inside_at v c.tx items))
  where
    neither : (b : Bool) → (b && not b) ≡ false
    neither true = refl
    neither false = refl

-- so what is kept at a vector stays there
pub same_served : (v w : List ℕ) (items : List Logged) (cells : List Cell) (state : State) → same_vector v w ≡ true → state ≡ fold_of state (ops_in (filter (is_since v w items) cells))
same_served v w items cells state is = sym (ap (λ w. fold_of state (ops_in (filter (is_since v w items) cells))) (sym (same_vector-true v w is)) ∙ ap (λ l. fold_of state (ops_in l)) (since_same v items cells))

-- what is within a vector is within a later one
pub inside_later : (w v : List ℕ) (n : ℕ) (items : List Logged) → Covers w v → log.is_inside_at v n items ≡ true → log.is_inside_at w n items ≡ true
inside_later w v n [] later is = is
inside_later w v n (x ∷ items) later is = ⊎_elim
    (λ here. let parts = and_parts (x.number == n) (log.is_inside v x) here in or_left ((x.number == n) && log.is_inside w x) (log.is_inside_at w n items) (and_from (x.number == n) (log.is_inside w x) parts.0 (any_later w v x.stamps later parts.1)))
    (λ rest. or_right ((x.number == n) && log.is_inside w x) (log.is_inside_at w n items) (inside_later w v n items later rest))
    (or_cases ((x.number == n) && log.is_inside v x) (log.is_inside_at v n items) is)

-- one more of the first operations
pub inside_one_more : (w : List ℕ) (items : List Logged) (cells : List Cell) (n : ℕ) (c : Cell) → n < length cells → c ≡ get_or cells n c → AreInside w items (take n cells) → log.is_inside_at w c.tx items ≡ true → AreInside w items (take (n + 1) cells)
inside_one_more w items cells n c small is before own d i = ⊎_elim
    (λ j. before d j)
    (λ same. ap (λ (c : Cell). log.is_inside_at w c.tx items) (same ∙ sym is) ∙ own)
    (In_more (take n cells) (get_or cells n c) d (subst (λ l. In d l) (take_more cells n c small) i))

-- what came since, folded into what is kept of an object, is what is kept of it at a later vector
pub gone_served : {E : Type 0} (r : Result Served E) (point : PointView) (kept : log.LogView) (o : ObjectId) (s : Served) (w : List ℕ) (cells : List Cell) → IsKeptLog kept → cells ≡ log.chain_of o kept.items → IsServed point kept o s → Covers w s.at → length w ≡ length point.vector → IfOk r (λ t. t.state ≡ fold_of s.state (ops_in (filter (is_since s.at w kept.items) (drop s.done cells)))) → IfOk r (λ t. t.at ≡ w) → IfOk r (λ t. t.done ≤ length cells) → IfOk r (λ t. AreInside w kept.items (take t.done cells)) → IfOk r (IsServed point kept o)
gone_served (Err e) point kept o s w cells well chain is later wide state at few first = tt
gone_served (Ok t) point kept o s w cells well chain is later wide state at few first = record {
  told =
      state
      ∙ ap (λ before. fold_of before (ops_in (filter (is_since s.at w kept.items) (drop s.done cells)))) is.told
      ∙ ap (λ l. fold_of (state_told point kept o s.at) (ops_in (filter (is_since s.at w kept.items) (drop s.done l)))) chain
      ∙ ap (λ l. fold_of (state_told point kept o s.at) (ops_in l)) (since_drop s.at w kept.items s.done (log.chain_of o kept.items) is.first)
      ∙ told_on point kept well o s.at w later
      ∙ ap (state_told point kept o) (sym at);
  wide = ap length at ∙ wide;
  above = subst (λ v. Covers v point.vector) (sym at) (Covers_trans w s.at point.vector later is.above);
  few = subst (λ l. t.done ≤ length l) chain few;
  first = subst (λ l. AreInside t.at kept.items (take t.done l)) chain (subst (λ v. AreInside v kept.items (take t.done cells)) (sym at) first);
}

-- ---- one record more

-- a list of stamps within a vector is so with one more
any_more : (w : List ℕ) (stamps : List Stamp) (s : Stamp) → is_any_within w stamps ≡ true → is_any_within w (stamps ++ s ∷ []) ≡ true
any_more w [] s is = absurd (false≢true is)
any_more w (t ∷ stamps) s is = ⊎_elim (λ here. or_left (within t w) (is_any_within w (stamps ++ s ∷ [])) here) (λ rest. or_right (within t w) (is_any_within w (stamps ++ s ∷ [])) (any_more w stamps s rest)) (or_cases (within t w) (is_any_within w stamps) is)

-- a number that is inside stays so with one more stamp
inside_stamped : (w : List ℕ) (n : ℕ) (d : Dot) (s : Stamp) (items : List Logged) → log.is_inside_at w n items ≡ true → log.is_inside_at w n (log.with_stamp d s items) ≡ true
inside_stamped w n d s [] is = absurd (false≢true is)
inside_stamped w n d s (x ∷ items) is =
    let rest_of = log.is_inside_at w n (log.with_stamp d s items) in
    ⊎_elim
    (λ here. or_left ((log.stamped d s x).number == n && log.is_inside w (log.stamped d s x)) rest_of (one (same_dot x.tx.dot d) here))
    (λ rest. or_right ((log.stamped d s x).number == n && log.is_inside w (log.stamped d s x)) rest_of (inside_stamped w n d s items rest))
    (or_cases (x.number == n && log.is_inside w x) (log.is_inside_at w n items) is)
  where
    one : (b : Bool) → (x.number == n && log.is_inside w x) ≡ true → ((cond b (log.with_one s x) x).number == n && log.is_inside w (cond b (log.with_one s x) x)) ≡ true
    one true is = let parts = and_parts (x.number == n) (log.is_inside w x) is in and_from (x.number == n) (is_any_within w (x.stamps ++ s ∷ [])) parts.0 (any_more w x.stamps s parts.1)
    one false is = is

-- so it does with one record more
pub inside_more : (w : List ℕ) (n : ℕ) (kept : log.LogView) (r : Record) (fresh : Bool) → log.is_inside_at w n kept.items ≡ true → log.is_inside_at w n (with_one kept r fresh).items ≡ true
inside_more w n kept r true is = list_any-append (λ x. (x.number == n) && log.is_inside w x) kept.items (log.first_of kept.appended r ∷ []) ∙ or_left (log.is_inside_at w n kept.items) (log.is_inside_at w n (log.first_of kept.appended r ∷ [])) is
inside_more w n kept r false is = inside_stamped w n r.tx.dot r.stamp kept.items is

-- a chain is the front of what it is with one record more
pub record Goes (before after : List Cell) : Type 0 where
  pub more : List Cell
  pub is : after ≡ before ++ more

pub chain_goes : (o : ObjectId) (kept : log.LogView) (r : Record) (fresh : Bool) → Goes (log.chain_of o kept.items) (log.chain_of o (with_one kept r fresh).items)
chain_goes o kept r true = record { more = log.cells_of o (log.first_of kept.appended r); is = chain_more o kept.items (log.first_of kept.appended r) }
chain_goes o kept r false = record { more = []; is = chain_of-with_stamp o r.tx.dot r.stamp kept.items ∙ sym (append-nil (log.chain_of o kept.items)) }

-- what is kept of an object stands, where its vector does not have the record's stamp
pub served_more : (point : PointView) (kept : log.LogView) (o : ObjectId) (r : Record) (fresh : Bool) (s : Served) → IsKeptLog kept → within r.stamp s.at ≡ false → IsServed point kept o s → IsServed point (with_one kept r fresh) o s
served_more point kept o r fresh s well out is = record {
  told = is.told ∙ sym (told_more point kept well o s.at r fresh out);
  wide = is.wide;
  above = is.above;
  few = let few = is.few in omega (arith, few, ap length g.is, length-append (log.chain_of o kept.items) g.more);
  first = λ c i. inside_more s.at c.tx kept r fresh (is.first c (subst (λ l. In c l) (ap (take s.done) g.is ∙ take-append-le s.done (log.chain_of o kept.items) g.more is.few) i));
}
  where
    g : Goes (log.chain_of o kept.items) (log.chain_of o (with_one kept r fresh).items)
    g = chain_goes o kept r fresh

-- ---- what is kept of all objects

-- what holds of what is kept holds after an object's state was taken away
pub kept_without : (P : ObjectId → Served → Type 0) (old new : ServedEntries) (o : ObjectId) → ((q : ObjectId) → served_of new q ≡ cond (is_at (object_cmp o) q) None (served_of old q)) → ((q : ObjectId) → IfSome (served_of old q) (P q)) → (q : ObjectId) → IfSome (served_of new q) (P q)
kept_without P old new o is all q = subst (λ found. IfSome found (P q)) (sym (is q)) (at (is_at (object_cmp o) q))
  where
    at : (b : Bool) → IfSome (cond b None (served_of old q)) (P q)
    at true = tt
    at false = all q

-- and after an object's state of which it holds was put there
pub kept_with : (P : ObjectId → Served → Type 0) (old new : ServedEntries) (o : ObjectId) (s : Served) → IsPut old new o s → P o s → ((q : ObjectId) → IfSome (served_of old q) (P q)) → (q : ObjectId) → IfSome (served_of new q) (P q)
kept_with P old new o s put one all q = at (put q)
  where
    at : ((q ≡ o) × (served_of new q ≡ Some s)) ⊎ (served_of new q ≡ served_of old q) ⊎ (served_of new q ≡ None) → IfSome (served_of new q) (P q)
    at (inl own) = subst (λ found. IfSome found (P q)) (sym own.1) (subst (λ p. P p s) (sym own.0) one)
    at (inr (inl same)) = subst (λ found. IfSome found (P q)) (sym same) (all q)
    at (inr (inr none)) = subst (λ found. IfSome found (P q)) (sym none) tt

-- a state that is put there, over what was kept or nothing, or not where memory was refused
pub put_over : {T E : Type 0} (r : Result T E) (old mid new : ServedEntries) (o : ObjectId) (s : Served) → ((q : ObjectId) → (served_of mid q ≡ served_of old q) ⊎ (served_of mid q ≡ None)) → OnOk r ((q : ObjectId) → served_of new q ≡ cond (is_at (object_cmp o) q) (Some s) (served_of mid q)) → OnErr r (new ≡ mid) → IsPut old new o s
put_over (Ok x) old mid new o s room is same q = at (cases_Bool (is_at (object_cmp o) q))
  where
    at : (is_at (object_cmp o) q ≡ true) ⊎ (is_at (object_cmp o) q ≡ false) → ((q ≡ o) × (served_of new q ≡ Some s)) ⊎ (served_of new q ≡ served_of old q) ⊎ (served_of new q ≡ None)
    at (inl own) = inl (sym (same_object-true o q (same_object-by_cmp o q ∙ own)), is q ∙ ap (λ b. cond b (Some s) (served_of mid q)) own)
    at (inr other) = inr (⊎_elim (λ was. inl (is q ∙ ap (λ b. cond b (Some s) (served_of mid q)) other ∙ was)) (λ none. inr (is q ∙ ap (λ b. cond b (Some s) (served_of mid q)) other ∙ none)) (room q))
put_over (Err x) old mid new o s room is same q = inr (⊎_elim (λ was. inl (ap (λ es. served_of es q) same ∙ was)) (λ none. inr (ap (λ es. served_of es q) same ∙ none)) (room q))

-- what holds of what is kept of an object holds of what is found
pub kept_found : (P : Served → Type 0) (found : Option Served) (s : Served) → found ≡ Some s → IfSome found P → P s
kept_found P found s is all = subst (λ found. IfSome found P) is all

-- of what is kept, where it is of two kinds, a third holds that follows
pub kept_on : {X : Type 0} (P Q R : X → Type 0) (found : Option X) → ((s : X) → P s → Q s → R s) → IfSome found P → IfSome found Q → IfSome found R
kept_on P Q R None on p q = tt
kept_on P Q R (Some s) on p q = on s p q

-- nothing kept
pub none_served : (counts : List ℕ) (point : PointView) (kept : log.LogView) (entries : ServedEntries) → entries ≡ [] → AreServed counts point kept entries
none_served counts point kept entries none = record {
  states = λ o. subst (λ es. IfSome (served_of es o) (IsServed point kept o)) (sym none) tt;
  here = λ o. subst (λ es. IfSome (served_of es o) (λ s. Covers counts s.at)) (sym none) tt;
}
