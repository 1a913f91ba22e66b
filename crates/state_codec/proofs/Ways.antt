-- Ways to read and the bytes of what they tell: what is spelled is read back, and what is read was spelled.
use Rattle.std.proofs.Common.{◌≡◌, ℕ, zero, suc, Bool, true, false, List, [], ◌∷◌, ◌++◌, length, Some, None, Result, Ok, Err, refl, sym, ap, ◌∙◌, subst, append_assoc, arith}
use Rattle.std.specs.Prelude.{All, if◌then◌else◌}
use Rattle.std.specs.List.{flat_map}
use Rattle.std.specs.Result.{result_ok}
use Rattle.std.proofs.lemmas.List.Elements.{All-cons, All-head, All-tail, All-nil}
use Rattle.wire_codec.specs.declared.fault.Fault.{Fault}
use Rattle.wire_codec.specs.Fields.{Fields, joined, read}
use Rattle.wire_codec.specs.Reading.{◌>>=◌ as ◌then◌}
use Rattle.wire_codec.proofs.Joining.{read_joined}
use Rattle.wire_codec.proofs.Spells.{Spells, AreBytes, bytes_behind}
use Rattle.state_codec.specs.Reading.{◌>>=◌, Reading, front, times_at}

-- the way tells what the property says, and these are its bytes
pub record Tells {A : Type 0} (way : List ℕ → Reading A) (Is : A → Type 0) (spelling : A → List ℕ) : Type 0 where
  pub comes : (x : A) (rest : List ℕ) → Is x → way (spelling x ++ rest) ≡ Some (x, rest)
  pub goes : (x : A) (bytes rest : List ℕ) → AreBytes bytes → way bytes ≡ Some (x, rest) → Is x × (bytes ≡ spelling x ++ rest)

-- what is read is one value, and one rest
pub some_same : {A : Type 0} (x y : A) (behind rest : List ℕ) → (let r : Reading A = Some (x, behind) in let s : Reading A = Some (y, rest) in r ≡ s) → (x ≡ y) × (behind ≡ rest)
some_same {A} x y behind rest h =
    let p : A × List ℕ = (x, behind) in
    let q : A × List ℕ = (y, rest) in
    let same : p ≡ q = cc in
    (ap (λ (z : A × List ℕ). z.0) same, ap (λ (z : A × List ℕ). z.1) same)

-- ---- fields

ok_from : {X E : Type 0} (r : Result X E) (x : X) → result_ok r ≡ Some x → r ≡ Ok x
ok_from (Ok y) x h =
    let same : y ≡ x = cc in
    ap Ok same
ok_from (Err e) x h = absurd cc

pub of_fields : {A : Type 0} {f : Fields A} {Is : A → Type 0} {spelling : A → List ℕ} → Spells f Is spelling → Tells (front f) Is spelling
of_fields {f = f} s = record {
  comes = λ x rest is. ap result_ok (s.comes x rest is);
  goes = λ x bytes rest all h. s.goes x bytes rest all (ok_from (read f bytes) (x, rest) h);
}

-- fields one behind the other
pub front_joined : {A B : Type 0} (f : Fields A) (g : A → Fields B) (bytes : List ℕ) → front (joined f g) bytes ≡ (front f bytes >>= λ x. front (g x.0) x.1)
front_joined {A} {B} f g bytes = ap result_ok (read_joined f g bytes) ∙ by (read f bytes)
  where
    by : (r : Result (A × List ℕ) Fault) → result_ok (r then λ x. read (g x.0) x.1) ≡ (result_ok r >>= λ x. result_ok (read (g x.0) x.1))
    by (Ok x) = refl
    by (Err fault) = refl

-- another way that gives the same
pub same_way : {A : Type 0} {f g : List ℕ → Reading A} {Is : A → Type 0} {spelling : A → List ℕ} → Tells f Is spelling → ((bytes : List ℕ) → f bytes ≡ g bytes) → Tells g Is spelling
same_way {spelling = spelling} t same = record {
  comes = λ x rest is. sym (same (spelling x ++ rest)) ∙ t.comes x rest is;
  goes = λ x bytes rest all h. t.goes x bytes rest all (same bytes ∙ h);
}

-- the same, in other words
pub fit : {A : Type 0} {f : List ℕ → Reading A} {Is Js : A → Type 0} {spelling other : A → List ℕ} → Tells f Is spelling → ((x : A) → Is x → Js x) → ((x : A) → Js x → Is x) → ((x : A) → Js x → spelling x ≡ other x) → Tells f Js other
fit {f = f} s to from same = record {
  comes = λ x rest is. ap (λ bytes. f (bytes ++ rest)) (sym (same x is)) ∙ s.comes x rest (from x is);
  goes = λ x bytes rest all h.
      let was = s.goes x bytes rest all h in
      let is = to x was.0 in
      (is, was.1 ∙ ap (λ front. front ++ rest) (same x is));
}

-- ---- no field

pub told : {A : Type 0} (x : A) (Js : A → Type 0) (other : A → List ℕ) → Js x × (other x ≡ []) → ((y : A) → Js y → x ≡ y) → Tells (λ bytes. Some (x, bytes)) Js other
told {A} x Js other is only = record {
  comes = λ y rest js.
      let same = only y js in
      ap (λ bytes. Some (x, bytes ++ rest)) (ap other (sym same) ∙ is.1) ∙ ap (λ z. Some (z, rest)) same;
  goes = λ y bytes rest all h.
      let same = some_same x y bytes rest h in
      subst (λ z. Js z × (bytes ≡ other z ++ rest)) same.0 (is.0, same.1 ∙ ap (λ front. front ++ rest) (sym is.1));
}

-- ---- one behind the other

pub seq : {A B : Type 0} {f : List ℕ → Reading A} {g : A → List ℕ → Reading B} {Is : A → Type 0} {first : A → List ℕ} {Inner : A → B → Type 0} {others : A → B → List ℕ} (part : B → A)
    → Tells f Is first → ((x : A) → Is x → Tells (g x) (Inner x) (others x)) → ((x : A) (y : B) → Is x → Inner x y → part y ≡ x)
    → Tells (λ bytes. f bytes >>= λ x. g x.0 x.1) (λ y. Is (part y) × Inner (part y) y) (λ y. first (part y) ++ others (part y) y)
seq {A} {B} {f} {g} {Is} {first} {Inner} {others} part one next same = record {
  comes = λ y rest is.
      ap (λ bytes. f bytes >>= λ x. g x.0 x.1) (append_assoc (first (part y)) (others (part y) y) rest)
      ∙ ap (λ (r : Reading A). r >>= λ x. g x.0 x.1) (one.comes (part y) (others (part y) y ++ rest) is.0)
      ∙ (next (part y) is.0).comes y rest is.1;
  goes = λ y bytes rest all h. both y bytes rest all (f bytes) refl h;
}
  where
    both : (y : B) (bytes rest : List ℕ) → AreBytes bytes → (r : Reading A) → f bytes ≡ r → (r >>= λ x. g x.0 x.1) ≡ Some (y, rest)
        → (Is (part y) × Inner (part y) y) × (bytes ≡ (first (part y) ++ others (part y) y) ++ rest)
    both y bytes rest all (Some x) is h =
        let a = one.goes x.0 bytes x.1 all is in
        let b = (next x.0 a.0).goes y x.1 rest (bytes_behind (first x.0) x.1 (subst AreBytes a.1 all)) h in
        let there : x.0 ≡ part y = sym (same x.0 y a.0 b.0) in
        subst (λ z. (Is z × Inner z y) × (bytes ≡ (first z ++ others z y) ++ rest)) there
        ((a.0, b.0), a.1 ∙ ap (λ behind. first x.0 ++ behind) b.1 ∙ sym (append_assoc (first x.0) (others x.0 y) rest))
    both y bytes rest all None is h = absurd cc

-- what is made of a value
pub made : {A B : Type 0} {f : List ℕ → Reading A} {Is : A → Type 0} {spelling : A → List ℕ} (make : A → B) (Js : B → Type 0) (other : B → List ℕ)
    → Tells f Is spelling → ((x : A) → Is x → Js (make x) × (spelling x ≡ other (make x))) → ((y : B) → Js y → (x : A) × (Is x × (make x ≡ y)))
    → Tells (λ bytes. f bytes >>= λ x. Some (make x.0, x.1)) Js other
made {A} {B} {f} {Is} {spelling} make Js other t to back = record {
  comes = λ y rest js.
      let x = back y js in
      let is : other y ≡ spelling x.0 = ap other (sym x.1.1) ∙ sym (to x.0 x.1.0).1 in
      ap (λ bytes. f (bytes ++ rest) >>= λ z. Some (make z.0, z.1)) is
      ∙ ap (λ (r : Reading A). r >>= λ z. Some (make z.0, z.1)) (t.comes x.0 rest x.1.0)
      ∙ ap (λ z. Some (z, rest)) x.1.1;
  goes = λ y bytes rest all h. both y bytes rest all (f bytes) refl h;
}
  where
    both : (y : B) (bytes rest : List ℕ) → AreBytes bytes → (r : Reading A) → f bytes ≡ r → (r >>= λ x. Some (make x.0, x.1)) ≡ Some (y, rest) → Js y × (bytes ≡ other y ++ rest)
    both y bytes rest all (Some x) is h =
        let a = t.goes x.0 bytes x.1 all is in
        let b = to x.0 a.0 in
        let same = some_same (make x.0) y x.1 rest h in
        subst (λ z. Js z × (bytes ≡ other z ++ rest)) same.0
        (b.0, a.1 ∙ ap (λ behind. spelling x.0 ++ behind) same.1 ∙ ap (λ front. front ++ rest) b.1)
    both y bytes rest all None is h = absurd cc

-- a value that passes a test
pub tested : {A : Type 0} {f : List ℕ → Reading A} {Is : A → Type 0} {spelling : A → List ℕ} → Tells f Is spelling → (test : A → Bool)
    → Tells (λ bytes. f bytes >>= λ x. if test x.0 then Some x else None) (λ x. Is x × (test x ≡ true)) spelling
tested {A} {f} {Is} {spelling} t test = record {
  comes = λ x rest is.
      ap (λ (r : Reading A). r >>= λ z. if test z.0 then Some z else None) (t.comes x rest is.0)
      ∙ rw is.1 refl;
  goes = λ x bytes rest all h. both x bytes rest all (f bytes) refl h;
}
  where
    by : (x : A) (bytes rest : List ℕ) (z : A × List ℕ) → Is z.0 × (bytes ≡ spelling z.0 ++ z.1) → (b : Bool) → test z.0 ≡ b → (let r : Reading A = if b then Some z else None in let s : Reading A = Some (x, rest) in r ≡ s) → (Is x × (test x ≡ true)) × (bytes ≡ spelling x ++ rest)
    by x bytes rest z a true e h =
        let same = some_same z.0 x z.1 rest h in
        subst (λ y. (Is y × (test y ≡ true)) × (bytes ≡ spelling y ++ rest)) same.0
        ((a.0, e), a.1 ∙ ap (λ behind. spelling z.0 ++ behind) same.1)
    by x bytes rest z a false e h = absurd cc

    both : (x : A) (bytes rest : List ℕ) → AreBytes bytes → (r : Reading A) → f bytes ≡ r → (r >>= λ z. if test z.0 then Some z else None) ≡ Some (x, rest) → (Is x × (test x ≡ true)) × (bytes ≡ spelling x ++ rest)
    both x bytes rest all (Some z) is h = by x bytes rest z (t.goes z.0 bytes z.1 all is) (test z.0) refl h
    both x bytes rest all None is h = absurd cc

-- one of two ways, by a test of what was read before
pub chosen : {A : Type 0} {f g : List ℕ → Reading A} {Is : A → Type 0} {spelling : A → List ℕ} (test : Bool) → (test ≡ true → Tells f Is spelling) → (test ≡ false → Tells g Is spelling)
    → Tells (λ bytes. if test then f bytes else g bytes) Is spelling
chosen true first second = first refl
chosen false first second = second refl

-- ---- so many times

-- a list that begins with one such and goes on so
abbrev Begun : {A : Type 0} → (A → Type 0) → (List A → Type 0) → List A → Type 0
Begun Is Behind [] = ⊥
Begun Is Behind (x ∷ xs) = Is x × Behind xs

-- the first of a list, and the others
list_tells : {A : Type 0} {f : List ℕ → Reading A} {g : List ℕ → Reading (List A)} {Is : A → Type 0} {Behind : List A → Type 0} {spelling : A → List ℕ}
    → Tells f Is spelling → Tells g Behind (flat_map spelling) → Tells (λ bytes. f bytes >>= λ x. (g x.1 >>= λ xs. Some (x.0 ∷ xs.0, xs.1))) (Begun Is Behind) (flat_map spelling)
list_tells {A} {f} {g} {Is} {Behind} {spelling} s t = record { comes = more; goes = λ xs bytes rest all h. both xs bytes rest all (f bytes) refl h }
  where
    more : (xs : List A) (rest : List ℕ) → Begun Is Behind xs → (f (flat_map spelling xs ++ rest) >>= λ x. (g x.1 >>= λ ys. Some (x.0 ∷ ys.0, ys.1))) ≡ Some (xs, rest)
    more [] rest h = absurd h
    more (x ∷ xs) rest h =
        ap (λ bytes. f bytes >>= λ y. (g y.1 >>= λ ys. Some (y.0 ∷ ys.0, ys.1))) (append_assoc (spelling x) (flat_map spelling xs) rest)
        ∙ ap (λ (r : Reading A). r >>= λ y. (g y.1 >>= λ ys. Some (y.0 ∷ ys.0, ys.1))) (s.comes x (flat_map spelling xs ++ rest) h.0)
        ∙ ap (λ (r : Reading (List A)). r >>= λ ys. Some (x ∷ ys.0, ys.1)) (t.comes xs rest h.1)

    last : (x : A) (xs : List A) (bytes mid rest : List ℕ) → Is x → bytes ≡ spelling x ++ mid → AreBytes mid → (r : Reading (List A)) → g mid ≡ r → (r >>= λ ys. Some (x ∷ ys.0, ys.1)) ≡ Some (xs, rest)
        → Begun Is Behind xs × (bytes ≡ flat_map spelling xs ++ rest)
    last x xs bytes mid rest is are all (Some ys) e h =
        let b = t.goes ys.0 mid ys.1 all e in
        let same = some_same (x ∷ ys.0) xs ys.1 rest h in
        subst (λ (zs : List A). Begun Is Behind zs × (bytes ≡ flat_map spelling zs ++ rest)) same.0
        ((is, b.0), are ∙ ap (λ r. spelling x ++ r) (b.1 ∙ ap (λ r. flat_map spelling ys.0 ++ r) same.1) ∙ sym (append_assoc (spelling x) (flat_map spelling ys.0) rest))
    last x xs bytes mid rest is are all None e h = absurd cc

    both : (xs : List A) (bytes rest : List ℕ) → AreBytes bytes → (r : Reading A) → f bytes ≡ r → (r >>= λ x. (g x.1 >>= λ ys. Some (x.0 ∷ ys.0, ys.1))) ≡ Some (xs, rest)
        → Begun Is Behind xs × (bytes ≡ flat_map spelling xs ++ rest)
    both xs bytes rest all (Some x) is h =
        let a = s.goes x.0 bytes x.1 all is in
        last x.0 xs bytes x.1 rest a.0 a.1 (bytes_behind (spelling x.0) x.1 (subst AreBytes a.1 all)) (g x.1) refl h
    both xs bytes rest all None is h = absurd cc

-- none
none_tells : {A : Type 0} (Is : A → Type 0) (spelling : A → List ℕ) → Tells (λ bytes. Some ([], bytes)) (λ (xs : List A). (length xs ≡ 0) × All Is xs) (flat_map spelling)
none_tells {A} Is spelling = record { comes = none; goes = nothing }
  where
    none : (xs : List A) (rest : List ℕ) → (length xs ≡ 0) × All Is xs → (let r : Reading (List A) = Some ([], flat_map spelling xs ++ rest) in r ≡ Some (xs, rest))
    none [] rest h = refl
    none (x ∷ xs) rest h = absurd (omega (arith, h.0))

    nothing : (xs : List A) (bytes rest : List ℕ) → AreBytes bytes → (let r : Reading (List A) = Some ([], bytes) in r ≡ Some (xs, rest)) → ((length xs ≡ 0) × All Is xs) × (bytes ≡ flat_map spelling xs ++ rest)
    nothing xs bytes rest all h =
        let same = some_same [] xs bytes rest h in
        subst (λ (ys : List A). ((length ys ≡ 0) × All Is ys) × (bytes ≡ flat_map spelling ys ++ rest)) same.0 ((refl, All-nil Is), same.1)

-- the same so many times
pub times_tell : {A : Type 0} {f : List ℕ → Reading A} {Is : A → Type 0} {spelling : A → List ℕ} → Tells f Is spelling → (n : ℕ) → Tells (times_at f n) (λ xs. (length xs ≡ n) × All Is xs) (flat_map spelling)
unfolding times_at
times_tell {A} {f} {Is} {spelling} s zero = none_tells Is spelling
times_tell {A} {f} {Is} {spelling} s (suc n) = fit (list_tells {Behind = λ xs. (length xs ≡ n) × All Is xs} s (times_tell s n)) to from (λ xs h. refl)
  where
    to : (xs : List A) → Begun Is (λ ys. (length ys ≡ n) × All Is ys) xs → (length xs ≡ suc n) × All Is xs
    to [] h = absurd h
    to (x ∷ xs) h = (omega (arith, h.1.0), All-cons Is x xs h.0 h.1.1)

    from : (xs : List A) → (length xs ≡ suc n) × All Is xs → Begun Is (λ ys. (length ys ≡ n) × All Is ys) xs
    from [] h = omega (arith, h.0)
    from (x ∷ xs) h = (All-head Is x xs h.1, (omega (arith, h.0), All-tail Is x xs h.1))
