-- Lists of logged transactions whose numbers ascend.
use Rattle.std.proofs.Common.{◌≡◌, ◌<◌, ℕ, zero, suc, Bool, true, false, cond, inl, inr, ⊎_elim, List, [], ◌∷◌, ◌++◌, length, get_or, map, refl, sym, ap, ◌∙◌, subst, arith}
use Rattle.std.specs.Prelude.{filter}
use Rattle.std.proofs.lemmas.Bool.{cases_Bool}
use Rattle.std.proofs.lemmas.List.{append-nil}
use Rattle.std.proofs.lemmas.Grind.{flat_map-append}
use Rattle.list_core.specs.Members.{In}
use Rattle.list_core.proofs.Members.{In_more, In_from_filter, In_from_map}
use Rattle.ids_core.specs.declared.ids.Dot.{Dot}
use Rattle.ids_core.specs.declared.object.ObjectId.{ObjectId}
use Rattle.ids_core.specs.Ids.{same_dot}
use Rattle.vv_core.specs.declared.stamp.Stamp.{Stamp}
use Rattle.op_log.specs.declared.logged.Logged.{Logged}
use Rattle.op_log.specs.Logs.{cells_of, chain_of, with_one, stamped, with_stamp}
use Rattle.op_log.specs.Tables.{Rises}

-- ---- lists

-- what leaves each member as it is, leaves the list as it is
pub maps_same : {X : Type 0} (f : X → X) (xs : List X) → ((x : X) → In x xs → f x ≡ x) → map f xs ≡ xs
maps_same f [] same = refl
maps_same f (x ∷ xs) same = ap (λ y. y ∷ map f xs) (same x (inl refl)) ∙ ap (λ ys. x ∷ ys) (maps_same f xs (λ y i. same y (inr i)))

-- the element at a place is a member
pub get_or_In : {X : Type 0} (xs : List X) (i : ℕ) (d : X) → i < length xs → In (get_or xs i d) xs
get_or_In [] i d lt = absurd (omega (arith, lt))
get_or_In (x ∷ xs) zero d lt = inl refl
get_or_In (x ∷ xs) (suc i) d lt = inr (get_or_In xs i d (omega (arith, lt)))

-- so is what it is
pub item_In : {X : Type 0} (xs : List X) (i : ℕ) (x : X) → i < length xs → x ≡ get_or xs i x → In x xs
item_In xs i x lt is = subst (λ y. In y xs) (sym is) (get_or_In xs i x lt)

-- ---- numbers that ascend

-- members of one number are one
pub rises_one : (items : List Logged) (x y : Logged) → Rises items → In x items → In y items → x.number ≡ y.number → x ≡ y
rises_one [] x y rises i j same = absurd i
rises_one (z ∷ items) x y rises (inl here) (inl there) same = here ∙ sym there
rises_one (z ∷ items) x y rises (inl here) (inr j) same = absurd (omega (arith, rises.0 y j, ap (λ w. w.number) here, same))
rises_one (z ∷ items) x y rises (inr i) (inl there) same = absurd (omega (arith, rises.0 x i, ap (λ w. w.number) there, same))
rises_one (z ∷ items) x y rises (inr i) (inr j) same = rises_one items x y rises.1 i j same

-- what ascends is settled by its members
pub rises_same : (xs ys : List Logged) → Rises xs → Rises ys → ((x : Logged) → In x xs → In x ys) → ((x : Logged) → In x ys → In x xs) → xs ≡ ys
rises_same [] [] up rise f g = refl
rises_same [] (y ∷ ys) up rise f g = absurd (g y (inl refl))
rises_same (x ∷ xs) [] up rise f g = absurd (f x (inl refl))
rises_same (x ∷ xs) (y ∷ ys) up rise f g = ap (λ z. z ∷ xs) first ∙ ap (λ l. y ∷ l) (rises_same xs ys up.1 rise.1 (λ z i. into z i (f z (inr i))) (λ z i. back z i (g z (inr i))))
  where
    first : x ≡ y
    first = ⊎_elim (λ same. same) (λ later. ⊎_elim (λ same. sym same) (λ before. let a = rise.0 x later in let b = up.0 y before in absurd (omega (arith, a, b))) (g y (inl refl))) (f x (inl refl))

    into : (z : Logged) → In z xs → In z (y ∷ ys) → In z ys
    into z i (inl same) = let lt = up.0 z i in let number : z.number ≡ x.number = ap (λ (w : Logged). w.number) (same ∙ sym first) in absurd (omega (arith, lt, number))
    into z i (inr j) = j

    back : (z : Logged) → In z ys → In z (x ∷ xs) → In z xs
    back z i (inl same) = let lt = rise.0 z i in let number : z.number ≡ y.number = ap (λ (w : Logged). w.number) (same ∙ first) in absurd (omega (arith, lt, number))
    back z i (inr j) = j

-- one more, whose number is above all others
pub rises_more : (items : List Logged) (x : Logged) → Rises items → ((y : Logged) → In y items → y.number < x.number) → Rises (items ++ x ∷ [])
rises_more [] x rises below = (λ y i. absurd i, tt)
rises_more (z ∷ items) x rises below = (
  λ y i. ⊎_elim (λ j. rises.0 y j) (λ same. subst (λ w. z.number < w.number) (sym same) (below z (inl refl))) (In_more items x y i),
  rises_more items x rises.1 (λ y i. below y (inr i)),
)

-- those that pass a test
pub rises_filter : (p : Logged → Bool) (items : List Logged) → Rises items → Rises (filter p items)
rises_filter p [] rises = tt
rises_filter p (z ∷ items) rises = go (p z) (rises_filter p items rises.1)
  where
    go : (b : Bool) → Rises (filter p items) → Rises (cond b (z ∷ filter p items) (filter p items))
    go true rest = (λ y i. rises.0 y (In_from_filter p items y i).0, rest)
    go false rest = rest

-- those that were changed, but not their numbers
pub rises_map : (f : Logged → Logged) (items : List Logged) → ((x : Logged) → (f x).number ≡ x.number) → Rises items → Rises (map f items)
rises_map f [] same rises = tt
rises_map f (z ∷ items) same rises = (
  λ y i. let m = In_from_map f items y i in omega (arith, rises.0 m.0 m.1, same m.0, same z, ap (λ w. w.number) m.2),
  rises_map f items same rises.1,
)

-- ---- a stamp more

-- nothing but the stamps changes
pub stamped_number : (d : Dot) (s : Stamp) (x : Logged) → (stamped d s x).number ≡ x.number
stamped_number d s x = go (same_dot x.tx.dot d)
  where
    go : (b : Bool) → (cond b (with_one s x) x).number ≡ x.number
    go true = refl
    go false = refl

pub stamped_tx : (d : Dot) (s : Stamp) (x : Logged) → (stamped d s x).tx ≡ x.tx
stamped_tx d s x = go (same_dot x.tx.dot d)
  where
    go : (b : Bool) → (cond b (with_one s x) x).tx ≡ x.tx
    go true = refl
    go false = refl

-- where no transaction has the dot, none changes
pub stamps_none : (d : Dot) (s : Stamp) (items : List Logged) → ((x : Logged) → In x items → same_dot x.tx.dot d ≡ true → ⊥) → with_stamp d s items ≡ items
stamps_none d s items none = maps_same (stamped d s) items (λ x i. ap (λ b. cond b (with_one s x) x) (⊎_elim (λ is. absurd (none x i is)) (λ is. is) (cases_Bool (same_dot x.tx.dot d))))

-- the chains stay
pub chain_of-with_stamp : (o : ObjectId) (d : Dot) (s : Stamp) (items : List Logged) → chain_of o (with_stamp d s items) ≡ chain_of o items
chain_of-with_stamp o d s [] = refl
chain_of-with_stamp o d s (x ∷ items) = go (same_dot x.tx.dot d) ∙ ap (λ l. cells_of o x ++ l) (chain_of-with_stamp o d s items)
  where
    go : (b : Bool) → cells_of o (cond b (with_one s x) x) ++ chain_of o (with_stamp d s items) ≡ cells_of o x ++ chain_of o (with_stamp d s items)
    go true = refl
    go false = refl

-- one more has its operations behind all others
pub chain_more : (o : ObjectId) (items : List Logged) (x : Logged) → chain_of o (items ++ x ∷ []) ≡ chain_of o items ++ cells_of o x
chain_more o items x = flat_map-append (cells_of o) items (x ∷ []) ∙ ap (λ l. chain_of o items ++ l) (append-nil (cells_of o x))
