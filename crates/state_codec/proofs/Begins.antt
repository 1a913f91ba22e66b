-- What reading tells of the front of bytes.
use Rattle.std.proofs.Common.{◌≡◌, ℕ, ◌-◌, ◌≤◌, List, ◌++◌, length, drop, Some, None, sym, ap, ◌∙◌, arith}
use Rattle.std.proofs.lemmas.List.{drop_at, length-append}
use Rattle.wire_codec.proofs.Spells.{AreBytes}
use Rattle.state_codec.specs.Reading.{Reading}
use Rattle.state_codec.specs.Fronts.{IsFront}
use Rattle.state_codec.proofs.Ways.{Tells, some_same}

-- how many bytes stand in front
used : (front rest bytes : List ℕ) → bytes ≡ front ++ rest → length bytes - length rest ≡ length front
used front rest bytes e = omega (arith, ap length e, length-append front rest)

module _ {A : Type 0} {way : List ℕ → Reading A} {Is : A → Type 0} {spelling : A → List ℕ} (t : Tells way Is spelling) where
  -- the rest is no longer than the bytes
  pub rest_within : (bytes rest : List ℕ) (x : A) → AreBytes bytes → way bytes ≡ Some (x, rest) → length rest ≤ length bytes
  rest_within bytes rest x all h =
      let was = t.goes x bytes rest all h in
      omega (arith, ap length was.1, length-append (spelling x) rest)

  -- a value was read
  pub found : (bytes rest : List ℕ) (x : A) → AreBytes bytes → way bytes ≡ Some (x, rest) → IsFront Is spelling bytes (Some (x, length bytes - length rest))
  found bytes rest x all h =
      let was = t.goes x bytes rest all h in
      let size = used (spelling x) rest bytes was.1 in
      let behind : rest ≡ drop (length bytes - length rest) bytes = sym (ap (drop (length bytes - length rest)) was.1 ∙ drop_at (spelling x) rest (length bytes - length rest) (sym size)) in
      record {
        only = λ other more is e.
            let same = some_same x other rest more (sym h ∙ ap way e ∙ t.comes other more is) in
            (λ i. Some (same.0 i, length bytes - length rest)) ∙ ap (λ n. Some (other, n)) (size ∙ ap (λ s. length (spelling s)) same.0);
        fits = was.0;
        is = was.1 ∙ ap (λ more. spelling x ++ more) behind;
        count = size;
      }

  -- none was read
  pub none_found : (bytes : List ℕ) → way bytes ≡ None → IsFront Is spelling bytes None
  none_found bytes h = record { only = λ other more is e. absurd (nothing other more is e); fits = tt; is = tt; count = tt }
    where
      nothing : (other : A) (more : List ℕ) → Is other → bytes ≡ spelling other ++ more → ⊥
      nothing other more is e =
          let both = sym h ∙ ap way e ∙ t.comes other more is in
          absurd cc

  -- no spelling begins another
  pub one_spelling : (x y : A) (rest behind : List ℕ) → Is x → Is y → spelling x ++ rest ≡ spelling y ++ behind → (x ≡ y) × (rest ≡ behind)
  one_spelling x y rest behind h k e = some_same x y rest behind (sym (t.comes x rest h) ∙ ap way e ∙ t.comes y behind k)
