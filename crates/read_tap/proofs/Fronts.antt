-- Fronts of lists, and tokens of a table at their places.
use Rattle.std.proofs.Common.{◌≡◌, get_or, ℕ, zero, suc, ◌+◌, ◌≤◌, ◌<◌, nat_le, false, List, [], ◌∷◌, ◌++◌, map, length, Some, refl, sym, ap, ◌∙◌, subst, ⊎_elim, arith}
use Rattle.std.specs.Prelude.{slice_get, fold}
use Rattle.std.proofs.lemmas.Option.{none-some, same_Some}
use Rattle.std.proofs.lemmas.Bool.{cases_lt}
use Rattle.std.proofs.lemmas.List.{append-nil, append_assoc}
use Rattle.boxcar.specs.Table.{Shelves, Where, Shows as IsIn}
use Rattle.list_core.proofs.Gets.{get_last}
use Rattle.script_core.specs.declared.taps.Show.{Show}
use Rattle.read_tap.specs.Shows.{IsFront, ArePlaced, show_of}

-- ---- fronts

-- a list is a front of itself
pub front_same : {X : Type 0} (xs : List X) → IsFront xs xs
front_same xs = record { rest = []; whole_is = sym (append-nil xs) }

-- a front stays one as the list grows by an element
pub front_more : {X : Type 0} (front xs ys : List X) (x : X) → IsFront front xs → ys ≡ xs ++ x ∷ [] → IsFront front ys
front_more front xs ys x is more = record { rest = is.rest ++ x ∷ []; whole_is = more ∙ (ap (λ l. l ++ x ∷ []) is.whole_is ∙ append_assoc front is.rest (x ∷ [])) }

map_append : {X Y : Type 0} (f : X → Y) (xs ys : List X) → map f (xs ++ ys) ≡ map f xs ++ map f ys
map_append f [] ys = refl
map_append f (x ∷ xs) ys = ap (λ l. f x ∷ l) (map_append f xs ys)

-- images of a front are a front
pub front_map : {X Y : Type 0} (f : X → Y) (xs ys : List X) → IsFront xs ys → IsFront (map f xs) (map f ys)
front_map f xs ys is = record { rest = map f is.rest; whole_is = ap (map f) is.whole_is ∙ map_append f xs is.rest }

-- ---- tokens

-- the token of the first place, alone
pub placed_one : (table : Shelves) (token : Where Show) (tokens : List (Where Show)) → token.index ≡ 0 → IsIn table token → tokens ≡ token ∷ [] → ArePlaced table tokens
placed_one table token tokens first here is = subst (ArePlaced table) (sym is) (record { each = each })
  where
    each : (place : ℕ) (other : Where Show) → slice_get (token ∷ []) place ≡ Some other → (other.index ≡ place) × IsIn table other
    each zero other at = subst (λ (t : Where Show). (t.index ≡ 0) × IsIn table t) (same_Some token other at) (first, here)
    each (suc place) other at = absurd (none-some other at)

-- one token more, of the next place
pub placed_more : (table : Shelves) (tokens tokens' : List (Where Show)) (token : Where Show) → ArePlaced table tokens → token.index ≡ length tokens → IsIn table token → tokens' ≡ tokens ++ token ∷ [] → ArePlaced table tokens'
placed_more table tokens tokens' token placed next here is = subst (ArePlaced table) (sym is) (record { each = each })
  where
    each : (place : ℕ) (other : Where Show) → slice_get (tokens ++ token ∷ []) place ≡ Some other → (other.index ≡ place) × IsIn table other
    each place other at =
        ⊎_elim
        (λ before. placed.each place other before)
        (λ last. subst (λ (t : Where Show). (t.index ≡ place) × IsIn table t) last.0 (next ∙ sym last.1, here))
        (get_last tokens token other place at)

-- what is read at a place within a list stands there
pub read_at : {X : Type 0} (xs : List X) (place : ℕ) (x : X) → place < length xs → x ≡ get_or xs place x → slice_get xs place ≡ Some x
read_at [] place x lt is = absurd (omega (arith, lt))
read_at (y ∷ xs) zero x lt is = ap (λ z. Some z) (sym is)
read_at (y ∷ xs) (suc place) x lt is = read_at xs place x (omega (arith, lt)) is

-- a copy of a token that is read at a place is one of that place
pub placed_again : (table : Shelves) (tokens : List (Where Show)) (place : ℕ) (token copy : Where Show) → ArePlaced table tokens → place < length tokens → token ≡ get_or tokens place token → copy ≡ token → (copy.index ≡ place) × IsIn table copy
placed_again table tokens place token copy placed lt is same = subst (λ (t : Where Show). (t.index ≡ place) × IsIn table t) (sym same) (placed.each place token (read_at tokens place token lt is))

-- ---- tokens of one table

-- two lists of tokens have equal shows at each place below a number
abbrev pub AreAlike : ℕ → List (Where Show) → List (Where Show) → Type 0
AreAlike below xs ys = (place : ℕ) (a b : Where Show) → place < below → slice_get xs place ≡ Some a → slice_get ys place ≡ Some b → a.value ≡ b.value

-- so the shows of the one are a front of those of the other, where it has at least as many
pub alike_front : (xs ys : List (Where Show)) → length xs ≤ length ys → AreAlike (length xs) xs ys → IsFront (map show_of xs) (map show_of ys)
alike_front [] ys few alike = record { rest = map show_of ys; whole_is = refl }
alike_front (x ∷ xs) [] few alike = absurd (omega (arith, few))
alike_front (x ∷ xs) (y ∷ ys) few alike =
    let rest = alike_front xs ys (omega (arith, few)) (λ place a b lt. alike (suc place) a b (omega (arith, lt))) in
    let first : x.value ≡ y.value = alike zero x y (omega arith) refl refl in
    record { rest = rest.rest; whole_is = λ i. sym first i ∷ rest.whole_is i }

-- and one place more
pub alike_more : (below : ℕ) (xs ys : List (Where Show)) (x y : Where Show) → AreAlike below xs ys → slice_get xs below ≡ Some x → slice_get ys below ≡ Some y → x.value ≡ y.value → AreAlike (below + 1) xs ys
alike_more below xs ys x y alike there here same place a b lt at bt =
    ⊎_elim
    (λ less. alike place a b less at bt)
    (λ most.
    let is : below ≡ place = omega (arith, most, lt) in
    let first : x ≡ a = same_Some x a (sym there ∙ subst (λ p. slice_get xs p ≡ Some a) (sym is) at) in
    let second : y ≡ b = same_Some y b (sym here ∙ subst (λ p. slice_get ys p ≡ Some b) (sym is) bt) in
    ap (λ (t : Where Show). t.value) (sym first) ∙ (same ∙ ap (λ (t : Where Show). t.value) second))
    (cases_lt place below)

-- ---- lengths

-- a number that is not at most another one is greater
pub longer : (a b : ℕ) → nat_le a b ≡ false → b < a
longer a b no_more = grind (arith, no_more)

-- ---- the port

-- the last of several numbers is what they come to, one after another
pub fold_last : (before : ℕ) (numbers : List ℕ) (last : ℕ) → fold (λ (before now : ℕ). now) before (numbers ++ last ∷ []) ≡ last
fold_last before [] last = refl
fold_last before (number ∷ numbers) last = fold_last number numbers last
