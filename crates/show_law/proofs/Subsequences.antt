-- Where the elements of a subsequence stand.
use Rattle.std.proofs.Common.{◌≡◌, ℕ, suc, Bool, true, false, cond, inl, inr, List, [], ◌∷◌, ◌++◌, drop, Some, sym, ap, ◌∙◌}
use Rattle.std.specs.Prelude.{slice_get, filter}
use Rattle.list_core.specs.Members.{In}
use Rattle.show_law.specs.Subsequences.{IsSubsequence}

-- the first element stands at a place, and the others behind it
pub record StandsFirst {X : Type 0} (x : X) (xs ys : List X) : Type 0 where
  pub place : ℕ
  pub there : slice_get ys place ≡ Some x
  pub behind : IsSubsequence xs (drop (suc place) ys)

pub stands_first : {X : Type 0} (x : X) (xs ys : List X) → IsSubsequence (x ∷ xs) ys → StandsFirst x xs ys
stands_first x xs [] sub = absurd sub
stands_first x xs (y ∷ ys) (inl here) = record { place = 0; there = ap Some (sym here.0); behind = here.1 }
stands_first x xs (y ∷ ys) (inr later) = let rest = stands_first x xs ys later in record { place = suc rest.place; there = rest.there; behind = rest.behind }

-- a subsequence stands in a longer list
sub_later : {X : Type 0} (y : X) (xs ys : List X) → IsSubsequence xs ys → IsSubsequence xs (y ∷ ys)
sub_later y [] ys sub = tt
sub_later y (x ∷ xs) ys sub = inr sub

-- without its first element it is one
sub_tail : {X : Type 0} (x : X) (xs ys : List X) → IsSubsequence (x ∷ xs) ys → IsSubsequence xs ys
sub_tail x xs [] sub = absurd sub
sub_tail x xs (y ∷ ys) (inl here) = sub_later y xs ys here.1
sub_tail x xs (y ∷ ys) (inr later) = sub_later y xs ys (sub_tail x xs ys later)

-- so it is without several of the first
pub sub_right : {X : Type 0} (xs zs ys : List X) → IsSubsequence (xs ++ zs) ys → IsSubsequence zs ys
sub_right [] zs ys sub = sub
sub_right (x ∷ xs) zs ys sub = sub_right xs zs ys (sub_tail x (xs ++ zs) ys sub)

-- each of its elements is a member
pub sub_In : {X : Type 0} (xs ys : List X) → IsSubsequence xs ys → (x : X) → In x xs → In x ys
sub_In [] ys sub x i = absurd i
sub_In (z ∷ xs) [] sub x i = absurd sub
sub_In (z ∷ xs) (y ∷ ys) (inl here) x (inl same) = inl (same ∙ here.0)
sub_In (z ∷ xs) (y ∷ ys) (inl here) x (inr i) = inr (sub_In xs ys here.1 x i)
sub_In (z ∷ xs) (y ∷ ys) (inr later) x i = inr (sub_In (z ∷ xs) ys later x i)

-- a subsequence of those that pass a test is one of all
pub sub_filter : {X : Type 0} (p : X → Bool) (xs ys : List X) → IsSubsequence xs (filter p ys) → IsSubsequence xs ys
sub_filter p [] ys sub = tt
sub_filter p (x ∷ xs) [] sub = absurd sub
sub_filter {X} p (x ∷ xs) (y ∷ ys) sub = go (p y) sub (sub_filter p xs ys) (sub_filter p (x ∷ xs) ys)
  where
    go : (t : Bool) → IsSubsequence (x ∷ xs) (cond t (y ∷ filter p ys) (filter p ys)) → (IsSubsequence xs (filter p ys) → IsSubsequence xs ys) → (IsSubsequence (x ∷ xs) (filter p ys) → IsSubsequence (x ∷ xs) ys) → IsSubsequence (x ∷ xs) (y ∷ ys)
    go true (inl here) rest later = inl (here.0, rest here.1)
    go true (inr behind) rest later = inr (later behind)
    go false sub rest later = inr (later sub)
