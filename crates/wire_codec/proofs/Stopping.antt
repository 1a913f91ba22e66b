-- Where reading stops, and that it says so.
use Rattle.std.proofs.Common.{◌≡◌, ℕ, ◌<◌, ◌≤◌, Bool, true, false, cond, eqb, ltb, List, [], ◌∷◌, ◌++◌, length, take, drop, Option, Some, None, refl, sym, ap, ◌∙◌, append_assoc, arith, inl, inr}
use Rattle.std.specs.Prelude.{◌&&◌, ◌⊎◌}
use Rattle.std.specs.List.{concat}
use Rattle.std.proofs.lemmas.Bool.{and_parts, eq-eqb, eqb-true, ltb-true, ltb-false, le-ltb}
use Rattle.std.proofs.lemmas.List.{take_at, drop_at, take-append-drop, length-append, length-take}
use Rattle.wire_codec.specs.Fields.{Fields, End, Field, after, read}

-- a choice that is there
there : {A : Type 0} (test : Bool) (x : Option A) (y : A) → cond test x None ≡ Some y → (test ≡ true) × (x ≡ Some y)
there true x y e = (refl, e)
there false x y e = absurd cc

-- what is there is one
some_is : {A : Type 0} (x y : A) → Some x ≡ Some y → x ≡ y
some_is x y e = cc

-- reading goes on behind whole fields that are allowed
pub read_through : {A : Type 0} (whole : List (List ℕ)) (fields left : Fields A) (rest : List ℕ) → after fields whole ≡ Some left → read fields (concat whole ++ rest) ≡ read left rest
read_through [] fields left rest e = ap (λ f. read f rest) (some_is fields left e)
read_through (bytes ∷ more) (End x) left rest e = absurd cc
read_through (bytes ∷ more) (Field size allowed next) left rest e =
    let found = there (eqb (length bytes) size && allowed bytes) (after (next bytes) more) left e in
    let parts = and_parts (eqb (length bytes) size) (allowed bytes) found.0 in
    let len : length bytes ≡ size = eqb-true (length bytes) size parts.0 in
    let behind = concat more ++ rest in
    let long : ltb (length (bytes ++ behind)) size ≡ false = le-ltb _ _ (omega (arith, length-append bytes behind)) in
    ap (read (Field size allowed next)) (append_assoc bytes (concat more) rest)
    ∙ rw (long, take_at bytes behind size len, parts.1, drop_at bytes behind size len) (read_through more (next bytes) left rest found.1)

-- no field is left; or too few bytes are, or those of the next are not allowed
abbrev pub IsStop : {A : Type 0} → Fields A → List ℕ → Type 0
IsStop (End x) rest = Unit {0}
IsStop (Field size allowed next) rest = (length rest < size) ⊎ ((size ≤ length rest) × (allowed (take size rest) ≡ false))

-- whole fields that are allowed, and a stop behind them
pub record Stops {A : Type 0} (fields : Fields A) (bytes : List ℕ) : Type 0 where
  pub whole : List (List ℕ)
  pub left : Fields A
  pub rest : List ℕ
  pub comes : after fields whole ≡ Some left
  pub are : bytes ≡ concat whole ++ rest
  pub stop : IsStop left rest

-- reading stops somewhere
pub stop_of : {A : Type 0} (fields : Fields A) (bytes : List ℕ) → Stops fields bytes
stop_of (End x) bytes = record { whole = []; left = End x; rest = bytes; comes = refl; are = refl; stop = tt }
stop_of (Field size allowed next) bytes = choose (ltb (length bytes) size) (allowed (take size bytes)) refl refl (stop_of (next (take size bytes)) (drop size bytes))
  where
    front : List ℕ
    front = take size bytes

    choose : (short fine : Bool) → ltb (length bytes) size ≡ short → allowed front ≡ fine → Stops (next front) (drop size bytes) → Stops (Field size allowed next) bytes
    choose true fine s f more = record { whole = []; left = Field size allowed next; rest = bytes; comes = refl; are = refl; stop = inl (ltb-true _ _ s) }
    choose false false s f more = record { whole = []; left = Field size allowed next; rest = bytes; comes = refl; are = refl; stop = inr (ltb-false _ _ s, f) }
    choose false true s f more =
        let long : size ≤ length bytes = ltb-false _ _ s in
        let len : length front ≡ size = omega (arith, length-take size bytes) in
        record {
          whole = front ∷ more.whole;
          left = more.left;
          rest = more.rest;
          comes = rw (eq-eqb (length front) size len, f) more.comes;
          are = sym (take-append-drop size bytes) ∙ ap (λ (behind : List ℕ). front ++ behind) more.are ∙ sym (append_assoc front (concat more.whole) more.rest);
          stop = more.stop;
        }
