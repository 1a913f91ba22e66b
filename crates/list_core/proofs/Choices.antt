-- What the first of several choices is, and what holds of it.
use Rattle.std.proofs.Common.{◌≡◌, Bool, true, false, List, [], ◌∷◌, Option, Some, None, refl, sym, ◌∙◌, subst}
use Rattle.std.specs.Prelude.{is_none, option_map}
use Rattle.std.proofs.lemmas.Bool.{false≢true}
use Rattle.std.proofs.lemmas.Option.{none-some, same_Some}
use Rattle.list_core.specs.Choices.{when, first_of}

-- what is not true is false
pub not_true : (b : Bool) → (b ≡ true → ⊥) → b ≡ false
not_true true h = absurd (h refl)
not_true false h = refl

-- a choice of which the test says that there is none, is none
pub is_none_true : {X : Type 0} (choice : Option X) → is_none choice ≡ true → choice ≡ None
is_none_true None is = refl
is_none_true (Some x) is = absurd (false≢true is)

-- a choice whose image is none, is none
pub option_map-none : {X Y : Type 0} (f : X → Y) (choice : Option X) → option_map f choice ≡ None → choice ≡ None
option_map-none f None is = refl
option_map-none f (Some x) is = absurd (none-some (f x) (sym is))

-- ---- a choice under a test

-- it is the one that the test allows
pub when_some : {X : Type 0} (test : Bool) (x y : X) → when test x ≡ Some y → y ≡ x
when_some true x y is = sym (same_Some x y is)
when_some false x y is = absurd (none-some y is)

-- where there is none, the test fails
pub when_none : {X : Type 0} (test : Bool) (x : X) → when test x ≡ None → test ≡ false
when_none true x is = absurd (none-some x (sym is))
when_none false x is = refl

-- what holds of the one that the test allows, where it does, holds of it
pub when_holds : {X : Type 0} (P : X → Type 0) (test : Bool) (x : X) → (test ≡ true → P x) → (y : X) → when test x ≡ Some y → P y
when_holds P true x h y is = subst P (same_Some x y is) (h refl)
when_holds P false x h y is = absurd (none-some y is)

-- where the test fails, everything holds of it
pub when_fails : {X : Type 0} (P : X → Type 0) (test : Bool) (x : X) → test ≡ false → (y : X) → when test x ≡ Some y → P y
when_fails P test x fails = when_holds P test x (λ passes. absurd (false≢true (sym fails ∙ passes)))

-- ---- several choices

-- the fact holds of each choice that is there where those before it are not, and of the last resort
abbrev pub EachChoice : {X : Type 0} → (X → Type 0) → List (Option X) → X → Type 0
EachChoice {X} P [] last = P last
EachChoice {X} P (choice ∷ choices) last = ((x : X) → choice ≡ Some x → P x) × (choice ≡ None → EachChoice P choices last)

-- so it holds of the first choice
pub first_of_holds : {X : Type 0} (P : X → Type 0) (choices : List (Option X)) (last : X) → EachChoice P choices last → P (first_of choices last)
first_of_holds P [] last each = each
first_of_holds P (None ∷ choices) last each = first_of_holds P choices last (each.1 refl)
first_of_holds P (Some x ∷ choices) last each = each.0 x refl

-- x is none of the choices that are there
abbrev pub Differs : {X : Type 0} → X → List (Option X) → Type 0
Differs {X} x [] = Unit {0}
Differs {X} x (choice ∷ choices) = ((y : X) → choice ≡ Some y → x ≡ y → ⊥) × Differs x choices

-- no choice is there
abbrev pub NoChoice : {X : Type 0} → List (Option X) → Type 0
NoChoice [] = Unit {0}
NoChoice (choice ∷ choices) = (choice ≡ None) × NoChoice choices

-- what is none of the choices is the last resort, and no choice is there
pub last_of : {X : Type 0} (choices : List (Option X)) (last x : X) → x ≡ first_of choices last → Differs x choices → NoChoice choices × (x ≡ last)
last_of [] last x is differs = (tt, is)
last_of (None ∷ choices) last x is differs = let rest = last_of choices last x is differs.1 in ((refl, rest.0), rest.1)
last_of (Some y ∷ choices) last x is differs = absurd (differs.0 y refl is)
