-- An account that is checked before each taking is never below 0.
use Rattle.std.proofs.Common.{◌≡◌, ◌≢◌, ℕ, zero, suc, ◌≤◌, ◌⊎◌, inl, inr, ⊎_elim, ℤ, Bool, true, false, List, [], ◌∷◌, ◌++◌, Some, refl, sym, ap, ◌∙◌, subst, arith}
use Rattle.std.specs.Prelude.{slice_get, pos, ◌+ℤ◌, ◌≤ℤ◌, ◌<ℤ◌}
use Rattle.std.proofs.lemmas.Int.{ints, by_lt_z}
use Rattle.std.proofs.lemmas.Bool.{false≢true, cases_lt}
use Rattle.std.proofs.lemmas.Option.{none-some, same_Some}
use Rattle.list_core.specs.Members.{In}
use Rattle.list_core.proofs.Gets.{get_In}
use Rattle.list_core.proofs.Members.{In_right}
use Rattle.ids_core.specs.declared.ids.Dot.{Dot}
use Rattle.obj_counter.specs.Counter.{total}
use Rattle.graph_rights.specs.Accounts.{AccountTx, sum_over, counted_if, balance, IsClosedOver, IsCheckedAccount}

-- ---- sums

-- a sum of two lists
pub total-append : (xs ys : List ℤ) → total (xs ++ ys) ≡ total xs +ℤ total ys
total-append [] ys = omega (arith, ints)
total-append (x ∷ xs) ys =
    let rest = total-append xs ys in
    omega (arith, ints, rest)

-- numbers of which none is below 0
abbrev pub AreAtLeastZero : List ℤ → Type 0
AreAtLeastZero xs = (x : ℤ) → In x xs → pos 0 ≤ℤ x

-- so is their sum
pub total_at_least : (xs : List ℤ) → AreAtLeastZero xs → pos 0 ≤ℤ total xs
total_at_least [] all = omega (arith, ints)
total_at_least (x ∷ xs) all =
    let rest = total_at_least xs (λ y i. all y (inr i)) in
    let first = all x (inl refl) in
    omega (arith, ints, rest, first)

-- a sum of numbers of which none is below 0
pub sum_at_least : {X : Type 0} (f : X → ℤ) (xs : List X) → ((x : X) → In x xs → pos 0 ≤ℤ f x) → pos 0 ≤ℤ sum_over f xs
sum_at_least f [] all = omega (arith, ints)
sum_at_least f (x ∷ xs) all =
    let rest = sum_at_least f xs (λ y i. all y (inr i)) in
    let first = all x (inl refl) in
    omega (arith, ints, rest, first)

-- a sum of numbers of which none is below its partner
sum_at_most : {X : Type 0} (f g : X → ℤ) (xs : List X) → ((q : ℕ) (x : X) → slice_get xs q ≡ Some x → g x ≤ℤ f x) → sum_over g xs ≤ℤ sum_over f xs
sum_at_most f g [] all = omega (arith, ints)
sum_at_most f g (x ∷ xs) all =
    let rest = sum_at_most f g xs (λ q y is. all (suc q) y is) in
    let first = all zero x refl in
    omega (arith, ints, rest, first)

-- and where one of them is above its partner by a number, so is the sum
sum_above : {X : Type 0} (f g : X → ℤ) (xs : List X) (p : ℕ) (t : X) (more : ℤ) → slice_get xs p ≡ Some t → (g t +ℤ more) ≤ℤ f t → ((q : ℕ) (x : X) → slice_get xs q ≡ Some x → q ≢ p → g x ≤ℤ f x) → (sum_over g xs +ℤ more) ≤ℤ sum_over f xs
sum_above f g [] p t more there one all = absurd (none-some t there)
sum_above f g (x ∷ xs) zero t more there one all =
    let rest = sum_at_most f g xs (λ q y is. all (suc q) y is (omega arith)) in
    let first : (g x +ℤ more) ≤ℤ f x = subst (λ y. (g y +ℤ more) ≤ℤ f y) (sym (same_Some x t there)) one in
    omega (arith, ints, rest, first)
sum_above f g (x ∷ xs) (suc p) t more there one all =
    let rest = sum_above f g xs p t more there one (λ q y is other. all (suc q) y is (omega (arith, other))) in
    let first = all zero x refl (omega arith) in
    omega (arith, ints, rest, first)

-- ---- the last that takes

-- numbers of which the last that is below 0 parts the others
pub record LastTaken (xs : List ℤ) : Type 0 where
  pub before : List ℤ
  pub amount : ℤ
  pub later : List ℤ
  pub parts : xs ≡ before ++ amount ∷ later
  pub takes : amount <ℤ pos 0
  pub none : AreAtLeastZero later

-- numbers have one, or none is below 0
pub last_taken : (xs : List ℤ) → AreAtLeastZero xs ⊎ LastTaken xs
last_taken [] = inl (λ x i. absurd i)
last_taken (x ∷ xs) = ⊎_elim here (λ last. inr (record { before = x ∷ last.before; amount = last.amount; later = last.later; parts = ap (λ l. x ∷ l) last.parts; takes = last.takes; none = last.none })) (last_taken xs)
  where
    here : AreAtLeastZero xs → AreAtLeastZero (x ∷ xs) ⊎ LastTaken (x ∷ xs)
    here none =
        by_lt_z x (pos 0)
        (λ takes. inr (record { before = []; amount = x; later = xs; parts = refl; takes = takes; none = none }))
        (λ keeps. inl (λ y i. ⊎_elim (λ same. subst (λ z. pos 0 ≤ℤ z) (sym same) keeps) (none y) i))

-- of a list with elements of two kinds, one of the second kind that has the greatest key of that kind
pub record Last {X : Type 0} (key : X → ℕ) (xs : List X) (Other This : X → Type 0) : Type 0 where
  pub one : X
  pub place : ℕ
  pub there : slice_get xs place ≡ Some one
  pub is : This one
  pub above : (y : X) → In y xs → Other y ⊎ (key y ≤ key one)

-- all are of the first kind, or there is one
last_by : {X : Type 0} (key : X → ℕ) (Other This : X → Type 0) → ((x : X) → Other x ⊎ This x) → (xs : List X) → ((x : X) → In x xs → Other x) ⊎ Last key xs Other This
last_by key Other This decide [] = inl (λ x i. absurd i)
last_by {X} key Other This decide (x ∷ xs) = ⊎_elim alone beside (last_by key Other This decide xs)
  where
    alone : ((y : X) → In y xs → Other y) → ((y : X) → In y (x ∷ xs) → Other y) ⊎ Last key (x ∷ xs) Other This
    alone none =
        ⊎_elim
        (λ other. inl (λ y i. ⊎_elim (λ same. subst Other (sym same) other) (none y) i))
        (λ is. inr (record { one = x; place = zero; there = refl; is = is; above = λ y i. ⊎_elim (λ same. inr (omega (arith, ap key same))) (λ j. inl (none y j)) i }))
        (decide x)

    behind : (last : Last key xs Other This) → Other x ⊎ (key x ≤ key last.one) → Last key (x ∷ xs) Other This
    behind last first = record { one = last.one; place = suc last.place; there = last.there; is = last.is; above = λ y i. ⊎_elim (λ same. subst (λ z. Other z ⊎ (key z ≤ key last.one)) (sym same) first) (last.above y) i }

    front : (last : Last key xs Other This) → This x → key last.one ≤ key x → Last key (x ∷ xs) Other This
    front last is most = record { one = x; place = zero; there = refl; is = is; above = λ y i. ⊎_elim (λ same. inr (omega (arith, ap key same))) (λ j. ⊎_elim (λ o. inl o) (λ le. inr (omega (arith, le, most))) (last.above y j)) i }

    beside : Last key xs Other This → ((y : X) → In y (x ∷ xs) → Other y) ⊎ Last key (x ∷ xs) Other This
    beside last =
        inr (⊎_elim
        (λ other. behind last (inl other))
        (λ is. ⊎_elim (λ less. behind last (inr (omega (arith, less)))) (λ most. front last is most) (cases_lt (key x) (key last.one)))
        (decide x))

-- ---- the law

-- the transaction is outside, or takes nothing
abbrev Keeps : (Dot → Bool) → AccountTx → Type 0
Keeps inside t = (inside t.dot ≡ false) ⊎ AreAtLeastZero t.amounts

-- it is inside, and takes
record Takes (inside : Dot → Bool) (t : AccountTx) : Type 0 where
  within : inside t.dot ≡ true
  last : LastTaken t.amounts

keeps_or_takes : (inside : Dot → Bool) (t : AccountTx) → Keeps inside t ⊎ Takes inside t
keeps_or_takes inside t = go (inside t.dot) refl
  where
    go : (b : Bool) → inside t.dot ≡ b → Keeps inside t ⊎ Takes inside t
    go false is = inl (inl is)
    go true is = ⊎_elim (λ none. inl (inr none)) (λ last. inr (record { within = is; last = last })) (last_taken t.amounts)

-- what one that takes nothing adds
kept_worth : (inside : Dot → Bool) (t : AccountTx) → Keeps inside t → pos 0 ≤ℤ counted_if (inside t.dot) (total t.amounts)
kept_worth inside t keeps = go (inside t.dot) refl keeps
  where
    go : (b : Bool) → inside t.dot ≡ b → Keeps inside t → pos 0 ≤ℤ counted_if b (total t.amounts)
    go false is keeps = omega (arith, ints)
    go true is (inl out) = absurd (false≢true (sym out ∙ is))
    go true is (inr none) = total_at_least t.amounts none

same_parts : (a b : Dot) → a.client ≡ b.client → a.number ≡ b.number → a ≡ b
same_parts a b who number = λ i. record { client = who i; number = number i }

pub never_below : (owner : ℕ) (all : List AccountTx) (inside : Dot → Bool) → IsCheckedAccount owner all → IsClosedOver all inside → pos 0 ≤ℤ balance inside all
never_below owner all inside account closed =
    ⊎_elim
    (λ none. sum_at_least (λ t. counted_if (inside t.dot) (total t.amounts)) all (λ t i. kept_worth inside t (none t i)))
    after_last
    (last_by (λ (t : AccountTx). t.dot.number) (Keeps inside) (Takes inside) (keeps_or_takes inside) all)
  where
    after_last : Last (λ (t : AccountTx). t.dot.number) all (Keeps inside) (Takes inside) → pos 0 ≤ℤ balance inside all
    after_last top = omega (arith, ints, enough, above)
      where
        one : AccountTx
        one = top.one

        last : LastTaken one.amounts
        last = top.is.last

        there : In one all
        there = get_In all top.place one top.there

        -- the owner's it is, for it takes
        owned : (t : AccountTx) → In t all → LastTaken t.amounts → t.dot.client ≡ owner
        owned t i taken = account.owned t taken.amount i (subst (λ l. In taken.amount l) (sym taken.parts) (In_right taken.before (taken.amount ∷ taken.later) taken.amount (inl refl))) taken.takes

        -- what its last taking was checked against
        enough : pos 0 ≤ℤ (balance one.deps all +ℤ (total last.before +ℤ last.amount))
        enough = account.checked one last.before last.later last.amount there last.parts last.takes

        -- what it adds itself
        itself : (counted_if (one.deps one.dot) (total one.amounts) +ℤ (total last.before +ℤ last.amount)) ≤ℤ counted_if (inside one.dot) (total one.amounts)
        itself =
            let none : counted_if (one.deps one.dot) (total one.amounts) ≡ pos 0 = ap (λ b. counted_if b (total one.amounts)) (account.forward one there) in
            let all_of : counted_if (inside one.dot) (total one.amounts) ≡ total one.amounts = ap (λ b. counted_if b (total one.amounts)) top.is.within in
            let split : total one.amounts ≡ total last.before +ℤ (last.amount +ℤ total last.later) = ap total last.parts ∙ total-append last.before (last.amount ∷ last.later) in
            let rest = total_at_least last.later last.none in
            omega (arith, ints, none, all_of, split, rest)

        -- what each other one adds
        other : (q : ℕ) (t : AccountTx) → slice_get all q ≡ Some t → q ≢ top.place → counted_if (one.deps t.dot) (total t.amounts) ≤ℤ counted_if (inside t.dot) (total t.amounts)
        other q t at elsewhere = go (one.deps t.dot) refl
          where
            i : In t all
            i = get_In all q t at

            beyond : one.deps t.dot ≡ false → Keeps inside t ⊎ Takes inside t → Keeps inside t
            beyond out (inl keeps) = keeps
            beyond out (inr takes) =
                let who : t.dot.client ≡ one.dot.client = owned t i takes.last ∙ sym (owned one there last) in
                ⊎_elim
                (λ keeps. keeps)
                (λ most.
                ⊎_elim
                (λ less. absurd (false≢true (sym out ∙ account.own one t there i who less)))
                (λ least. absurd (elsewhere (account.unique q top.place t one at top.there (same_parts t.dot one.dot who (omega (arith, most, least))))))
                (cases_lt t.dot.number one.dot.number))
                (top.above t i)

            go : (b : Bool) → one.deps t.dot ≡ b → counted_if b (total t.amounts) ≤ℤ counted_if (inside t.dot) (total t.amounts)
            go true is =
                let within : inside t.dot ≡ true = closed one t there i top.is.within is in
                let all_of : counted_if (inside t.dot) (total t.amounts) ≡ total t.amounts = ap (λ b. counted_if b (total t.amounts)) within in
                omega (arith, ints, all_of)
            go false is = kept_worth inside t (beyond is (keeps_or_takes inside t))

        above : (balance one.deps all +ℤ (total last.before +ℤ last.amount)) ≤ℤ balance inside all
        above = sum_above (λ t. counted_if (inside t.dot) (total t.amounts)) (λ t. counted_if (one.deps t.dot) (total t.amounts)) all top.place one (total last.before +ℤ last.amount) top.there itself other
