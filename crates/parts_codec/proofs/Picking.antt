-- Ways that pick a part of what another way tells, and ways of which the value at the front is known.
use Rattle.std.proofs.Common.{◌≡◌, ℕ, List, ◌++◌, drop, Option, Some, None, refl, ap, ◌∙◌, subst}
use Rattle.wire_codec.proofs.Spells.{AreBytes}
use Rattle.state_codec.specs.Reading.{◌>>=◌, Reading}
use Rattle.state_codec.specs.Fronts.{IsFront}
use Rattle.state_codec.proofs.Ways.{Tells, some_same}
use Rattle.parts_codec.specs.Reading.{with_rest}

-- what is picked of a value, where that is made of it
pub picked : {A B : Type 0} {f : List ℕ → Reading A} {Is : A → Type 0} {spelling : A → List ℕ} (pick : A → Option B) (make : B → A)
    → Tells f Is spelling → ((y : B) → Is (make y) → pick (make y) ≡ Some y) → ((x : A) (y : B) → Is x → pick x ≡ Some y → x ≡ make y)
    → Tells (λ bytes. f bytes >>= λ x. with_rest (pick x.0) x.1) (λ y. Is (make y)) (λ y. spelling (make y))
picked {A} {B} {f} {Is} {spelling} pick make t there back = record {
  comes = λ y rest is.
      ap (λ (r : Reading A). r >>= λ x. with_rest (pick x.0) x.1) (t.comes (make y) rest is)
      ∙ ap (λ (o : Option B). with_rest o rest) (there y is);
  goes = λ y bytes rest all h. both y bytes rest all (f bytes) refl h;
}
  where
    by : (x : A) (behind : List ℕ) (y : B) (bytes rest : List ℕ) → Is x × (bytes ≡ spelling x ++ behind) → (o : Option B) → pick x ≡ o → with_rest o behind ≡ Some (y, rest) → Is (make y) × (bytes ≡ spelling (make y) ++ rest)
    by x behind y bytes rest a (Some z) e h =
        let same = some_same z y behind rest h in
        let was : x ≡ make y = back x y a.0 (e ∙ ap Some same.0) in
        subst (λ w. Is w × (bytes ≡ spelling w ++ rest)) was (a.0, a.1 ∙ ap (λ more. spelling x ++ more) same.1)
    by x behind y bytes rest a None e h = absurd cc

    both : (y : B) (bytes rest : List ℕ) → AreBytes bytes → (r : Reading A) → f bytes ≡ r → (r >>= λ x. with_rest (pick x.0) x.1) ≡ Some (y, rest) → Is (make y) × (bytes ≡ spelling (make y) ++ rest)
    both y bytes rest all (Some x) is h = by x.0 x.1 y bytes rest (t.goes x.0 bytes x.1 all is) (pick x.0) refl h
    both y bytes rest all None is h = absurd cc

-- ---- what is read where the value at the front is known

module _ {A : Type 0} {way : List ℕ → Reading A} {Is : A → Type 0} {spelling : A → List ℕ} (t : Tells way Is spelling) (bytes : List ℕ) where
  -- it is read
  pub front_read : (x : A) (count : ℕ) → IsFront Is spelling bytes (Some (x, count)) → way bytes ≡ Some (x, drop count bytes)
  front_read x count h = ap way h.is ∙ t.comes x (drop count bytes) h.fits

  -- none is read
  pub none_read : AreBytes bytes → IsFront Is spelling bytes None → way bytes ≡ None
  none_read all h = by (way bytes) refl
    where
      by : (r : Reading A) → way bytes ≡ r → way bytes ≡ None
      by None e = e
      by (Some x) e =
          let was = t.goes x.0 bytes x.1 all e in
          let found = h.only x.0 x.1 was.0 was.1 in
          absurd cc
