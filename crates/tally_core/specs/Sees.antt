-- Live adds and the adds that no remove sees, among the acts on one word.
use Rattle.std.specs.Prelude.{◌≡◌, ◌↔◌, Bool, true, false, ◌&&◌, ◌||◌, not, ◌⊎◌, List, [], ◌∷◌}
use Rattle.list_core.specs.Members.{In}

-- some element passes
abbrev pub any : {X : Type 0} → (X → Bool) → List X → Bool
any p [] = false
any p (x ∷ xs) = p x || any p xs

-- What is asked of acts: whether one adds or kills, whether the first is over the second, whether the first
-- sees the second, and whether the first is less than the second by their marks.
pub record Tests (X : Type 0) : Type 0 where
  pub adds : X → Bool
  pub kills : X → Bool
  pub over : X → X → Bool
  pub sees : X → X → Bool
  pub less : X → X → Bool

-- What is known of the acts. What is over an act adds or kills and sees it, what is seen is less, what is seen
-- by what is seen is seen, and an add that a killer sees has some act over it.
pub record Tagged {X : Type 0} (acts : List X) (t : Tests X) : Type 0 where
  pub irreflexive : (p : X) → t.less p p ≡ false
  pub transitive : (p q r : X) → t.less p q ≡ true → t.less q r ≡ true → t.less p r ≡ true
  pub kinds : (q p : X) → In q acts → In p acts → t.over q p ≡ true → (t.adds q ≡ true) ⊎ (t.kills q ≡ true)
  pub seen : (q p : X) → In q acts → In p acts → t.over q p ≡ true → t.sees q p ≡ true
  pub grows : (q p : X) → In q acts → In p acts → t.sees q p ≡ true → t.less p q ≡ true
  pub through : (r q p : X) → In r acts → In q acts → In p acts → t.sees r q ≡ true → t.sees q p ≡ true → t.sees r p ≡ true
  pub kept : (q p : X) → In q acts → In p acts → t.kills q ≡ true → t.adds p ≡ true → t.sees q p ≡ true → (h : X) × In h acts × (t.over h p ≡ true)

-- an add that no act is over
abbrev pub live : {X : Type 0} → (X → Bool) → (X → X → Bool) → List X → X → Bool
live adds over acts p = adds p && not (any (λ q. over q p) acts)

-- an add that no killer sees
abbrev pub unseen : {X : Type 0} → (X → Bool) → (X → Bool) → (X → X → Bool) → List X → X → Bool
unseen adds kills sees acts p = adds p && not (any (λ q. kills q && sees q p) acts)

-- an act that passes, and no other that passes is greater
pub record IsGreatest {X : Type 0} (less : X → X → Bool) (test : X → Bool) (acts : List X) (g : X) : Type 0 where
  pub there : In g acts
  pub passes : test g ≡ true
  pub above : (p : X) → In p acts → test p ≡ true → less g p ≡ false

-- The live adds are unseen and the greatest unseen ones are live. So there is a live one where there is
-- an unseen one, and the greatest live ones are the greatest unseen ones.
pub record TagsEqualSees {X : Type 0} (acts : List X) (t : Tests X) : Type 0 where
  pub live_is_unseen : (p : X) → In p acts → live t.adds t.over acts p ≡ true → unseen t.adds t.kills t.sees acts p ≡ true
  pub greatest_is_live : (g : X) → IsGreatest t.less (unseen t.adds t.kills t.sees acts) acts g → live t.adds t.over acts g ≡ true
  pub same_words : any (live t.adds t.over acts) acts ≡ any (unseen t.adds t.kills t.sees acts) acts
  pub same_greatest : (g : X) → IsGreatest t.less (live t.adds t.over acts) acts g ↔ IsGreatest t.less (unseen t.adds t.kills t.sees acts) acts g
