-- Fields and the bytes of what they tell: what is spelled is read back, and what is read was spelled.
use Rattle.std.proofs.Common.{◌≡◌, ℕ, zero, suc, ◌<◌, ◌≤◌, Bool, true, false, cond, ltb, List, [], ◌∷◌, ◌++◌, length, take, drop, Ok, Err, refl, sym, ap, ◌∙◌, subst, append_assoc, arith}
use Rattle.std.specs.Prelude.{All}
use Rattle.std.specs.List.{flat_map}
use Rattle.std.proofs.lemmas.Bool.{ltb-false, le-ltb}
use Rattle.std.proofs.lemmas.List.{take_at, drop_at, take-append-drop, length-append, length-take-le}
use Rattle.std.proofs.lemmas.List.Elements.{All-take, All-drop, All-cons, All-head, All-tail, All-nil}
use Rattle.wire_codec.specs.declared.fault.Fault.TheVariants.{Short, Bad}
use Rattle.wire_codec.specs.Fields.{Fields, End, Field, joined, times, read}
use Rattle.wire_codec.specs.Reading.{◌>>=◌, Reading}
use Rattle.wire_codec.proofs.Joining.{read_joined}

-- each is less than 256
abbrev pub AreBytes : List ℕ → Type 0
AreBytes bytes = All (λ byte. byte < 256) bytes

-- the fields tell what the property says, and these are its bytes
pub record Spells {A : Type 0} (fields : Fields A) (Is : A → Type 0) (spelling : A → List ℕ) : Type 0 where
  pub comes : (x : A) (rest : List ℕ) → Is x → read fields (spelling x ++ rest) ≡ Ok (x, rest)
  pub goes : (x : A) (bytes rest : List ℕ) → AreBytes bytes → read fields bytes ≡ Ok (x, rest) → Is x × (bytes ≡ spelling x ++ rest)

-- what stands behind is bytes too
pub bytes_behind : (front rest : List ℕ) → AreBytes (front ++ rest) → AreBytes rest
bytes_behind front rest all = subst AreBytes (drop_at front rest (length front) refl) (All-drop (λ byte. byte < 256) (length front) (front ++ rest) all)

-- what is read is one value, and one rest
pub ok_same : {A : Type 0} (x y : A) (behind rest : List ℕ) → (let r : Reading A = Ok (x, behind) in let s : Reading A = Ok (y, rest) in r ≡ s) → (x ≡ y) × (behind ≡ rest)
ok_same {A} x y behind rest h =
    let p : A × List ℕ = (x, behind) in
    let q : A × List ℕ = (y, rest) in
    let same : p ≡ q = cc in
    (ap (λ (z : A × List ℕ). z.0) same, ap (λ (z : A × List ℕ). z.1) same)

-- ---- no field

pub ends : {A : Type 0} (x : A) → Spells (End x) (λ y. y ≡ x) (λ y. [])
ends {A} x = record {
  comes = λ y rest same. ap (λ z. Ok (z, rest)) (sym same);
  goes = λ y bytes rest all h. is_end bytes rest y h;
}
  where
    is_end : (bytes rest : List ℕ) (y : A) → read (End x) bytes ≡ Ok (y, rest) → (y ≡ x) × (bytes ≡ rest)
    is_end bytes rest y h =
        let same = ok_same x y bytes rest h in
        (sym same.0, same.1)

-- ---- one field

-- a field that was read is whole and allowed
pub was_read : {A : Type 0} (short fine : Bool) (left : ℕ) (v x : A) (behind rest : List ℕ) → (let fault : Reading A = Err (Bad left) in let r : Reading A = Ok (x, rest) in cond short (Err Short) (cond fine (Ok (v, behind)) fault) ≡ r)
    → (short ≡ false) × (fine ≡ true) × (v ≡ x) × (behind ≡ rest)
was_read true fine left v x behind rest h = absurd cc
was_read false false left v x behind rest h = absurd cc
was_read false true left v x behind rest h =
    let same = ok_same v x behind rest h in
    (refl, refl, same.0, same.1)

-- one field that tells a value
pub field_spells : {A : Type 0} (size : ℕ) (allowed : List ℕ → Bool) (value : List ℕ → A) (Is : A → Type 0) (spelling : A → List ℕ)
    → ((x : A) → Is x → (length (spelling x) ≡ size) × (allowed (spelling x) ≡ true) × (value (spelling x) ≡ x))
    → ((bytes : List ℕ) → length bytes ≡ size → AreBytes bytes → allowed bytes ≡ true → Is (value bytes) × (spelling (value bytes) ≡ bytes))
    → Spells (Field size allowed (λ bytes. End (value bytes))) Is spelling
field_spells size allowed value Is spelling back forth = record {
  comes = λ x rest is.
      let h = back x is in
      let long : ltb (length (spelling x ++ rest)) size ≡ false = le-ltb _ _ (omega (arith, length-append (spelling x) rest)) in
      rw (long, take_at (spelling x) rest size h.0, h.1, drop_at (spelling x) rest size h.0, h.2) refl;
  goes = λ x bytes rest all h.
      let was = was_read (ltb (length bytes) size) (allowed (take size bytes)) (length bytes) (value (take size bytes)) x (drop size bytes) rest h in
      let long : size ≤ length bytes = ltb-false _ _ was.0 in
      let told = forth (take size bytes) (length-take-le size bytes long) (All-take (λ byte. byte < 256) size bytes all) was.1 in
      (subst Is was.2 told.0, sym (take-append-drop size bytes) ∙ ap (λ front. front ++ drop size bytes) (sym told.1) ∙ subst (λ y. spelling (value (take size bytes)) ++ drop size bytes ≡ spelling y ++ rest) was.2 (ap (λ behind. spelling (value (take size bytes)) ++ behind) was.3));
}

-- ---- fields one behind the other

pub seq : {A B : Type 0} {f : Fields A} {g : A → Fields B} {Is : A → Type 0} {first : A → List ℕ} {Inner : A → B → Type 0} {others : A → B → List ℕ} (part : B → A)
    → Spells f Is first → ((x : A) → Is x → Spells (g x) (Inner x) (others x)) → ((x : A) (y : B) → Is x → Inner x y → part y ≡ x)
    → Spells (joined f g) (λ y. Is (part y) × Inner (part y) y) (λ y. first (part y) ++ others (part y) y)
seq {A} {B} {f} {g} {Is} {first} {Inner} {others} part one next same = record {
  comes = λ y rest is.
      ap (read (joined f g)) (append_assoc (first (part y)) (others (part y) y) rest)
      ∙ read_joined f g (first (part y) ++ (others (part y) y ++ rest))
      ∙ ap (λ (r : Reading A). r >>= λ x. read (g x.0) x.1) (one.comes (part y) (others (part y) y ++ rest) is.0)
      ∙ (next (part y) is.0).comes y rest is.1;
  goes = λ y bytes rest all h. both y bytes rest all (read f bytes) refl (sym (read_joined f g bytes) ∙ h);
}
  where
    both : (y : B) (bytes rest : List ℕ) → AreBytes bytes → (r : Reading A) → read f bytes ≡ r → (r >>= λ x. read (g x.0) x.1) ≡ Ok (y, rest)
        → (Is (part y) × Inner (part y) y) × (bytes ≡ (first (part y) ++ others (part y) y) ++ rest)
    both y bytes rest all (Ok x) is h =
        let a = one.goes x.0 bytes x.1 all is in
        let b = (next x.0 a.0).goes y x.1 rest (bytes_behind (first x.0) x.1 (subst AreBytes a.1 all)) h in
        let there : x.0 ≡ part y = sym (same x.0 y a.0 b.0) in
        subst (λ z. (Is z × Inner z y) × (bytes ≡ (first z ++ others z y) ++ rest)) there
        ((a.0, b.0), a.1 ∙ ap (λ behind. first x.0 ++ behind) b.1 ∙ sym (append_assoc (first x.0) (others x.0 y) rest))
    both y bytes rest all (Err fault) is h = absurd cc

-- the same, in other words
pub fit : {A : Type 0} {f : Fields A} {Is Js : A → Type 0} {spelling other : A → List ℕ} → Spells f Is spelling → ((x : A) → Is x → Js x) → ((x : A) → Js x → Is x) → ((x : A) → Js x → spelling x ≡ other x) → Spells f Js other
fit {f = f} s to from same = record {
  comes = λ x rest is. ap (λ bytes. read f (bytes ++ rest)) (sym (same x is)) ∙ s.comes x rest (from x is);
  goes = λ x bytes rest all h.
      let was = s.goes x bytes rest all h in
      let is = to x was.0 in
      (is, was.1 ∙ ap (λ front. front ++ rest) (same x is));
}

-- none
times_none : {A : Type 0} (f : Fields A) (Is : A → Type 0) (spelling : A → List ℕ) → Spells (times 0 f) (λ xs. (length xs ≡ 0) × All Is xs) (flat_map spelling)
times_none {A} f Is spelling = record { comes = none; goes = λ xs bytes rest all h. nothing xs bytes rest (empty.goes xs bytes rest all h) }
  where
    empty : Spells (End []) (λ (ys : List A). ys ≡ []) (λ ys. [])
    empty = ends []

    none : (xs : List A) (rest : List ℕ) → (length xs ≡ 0) × All Is xs → read (times 0 f) (flat_map spelling xs ++ rest) ≡ Ok (xs, rest)
    none [] rest h = refl
    none (x ∷ xs) rest h = absurd (omega (arith, h.0))

    nothing : (xs : List A) (bytes rest : List ℕ) → (xs ≡ []) × (bytes ≡ rest) → ((length xs ≡ 0) × All Is xs) × (bytes ≡ flat_map spelling xs ++ rest)
    nothing xs bytes rest h = subst (λ (ys : List A). ((length ys ≡ 0) × All Is ys) × (bytes ≡ flat_map spelling ys ++ rest)) (sym h.0) ((refl, All-nil Is), h.1)

-- a list that begins with one such and goes on so
abbrev pub Begun : {A : Type 0} → (A → Type 0) → (A → List A → Type 0) → List A → Type 0
Begun Is Behind [] = ⊥
Begun Is Behind (x ∷ xs) = Is x × Behind x xs

-- the first of a list, and the others by fields that may go by it
pub list_spells : {A : Type 0} {f : Fields A} {g : A → Fields (List A)} {Is : A → Type 0} {Behind : A → List A → Type 0} {spelling : A → List ℕ}
    → Spells f Is spelling → ((x : A) → Is x → Spells (g x) (Behind x) (flat_map spelling)) → Spells (joined f (λ x. joined (g x) (λ xs. End (x ∷ xs)))) (Begun Is Behind) (flat_map spelling)
list_spells {A} {f} {g} {Is} {Behind} {spelling} s next = record { comes = more; goes = λ xs bytes rest all h. both xs bytes rest all (read f bytes) refl (sym (read_joined f behind bytes) ∙ h) }
  where
    behind : A → Fields (List A)
    behind x = joined (g x) (λ xs. End (x ∷ xs))

    others : (x : A) (xs : List A) (rest : List ℕ) → Is x → Behind x xs → read (behind x) (flat_map spelling xs ++ rest) ≡ Ok (x ∷ xs, rest)
    others x xs rest is h =
        read_joined (g x) (λ ys. End (x ∷ ys)) (flat_map spelling xs ++ rest)
        ∙ ap (λ (r : Reading (List A)). r >>= λ ys. read (End (x ∷ ys.0)) ys.1) ((next x is).comes xs rest h)

    more : (xs : List A) (rest : List ℕ) → Begun Is Behind xs → read (joined f behind) (flat_map spelling xs ++ rest) ≡ Ok (xs, rest)
    more [] rest h = absurd h
    more (x ∷ xs) rest h =
        ap (read (joined f behind)) (append_assoc (spelling x) (flat_map spelling xs) rest)
        ∙ read_joined f behind (spelling x ++ (flat_map spelling xs ++ rest))
        ∙ ap (λ (r : Reading A). r >>= λ y. read (behind y.0) y.1) (s.comes x (flat_map spelling xs ++ rest) h.0)
        ∙ others x xs rest h.0 h.1

    last : (x : A) (xs : List A) (bytes mid rest : List ℕ) → Is x → bytes ≡ spelling x ++ mid → AreBytes mid → (r : Reading (List A)) → read (g x) mid ≡ r → (r >>= λ ys. read (End (x ∷ ys.0)) ys.1) ≡ Ok (xs, rest)
        → Begun Is Behind xs × (bytes ≡ flat_map spelling xs ++ rest)
    last x xs bytes mid rest is are all (Ok ys) h e =
        let a = (next x is).goes ys.0 mid ys.1 all h in
        let b = (ends (x ∷ ys.0)).goes xs ys.1 rest (bytes_behind (flat_map spelling ys.0) ys.1 (subst AreBytes a.1 all)) e in
        subst (λ (zs : List A). Begun Is Behind zs × (bytes ≡ flat_map spelling zs ++ rest)) (sym b.0)
        ((is, a.0), are ∙ ap (λ r. spelling x ++ r) (a.1 ∙ ap (λ r. flat_map spelling ys.0 ++ r) b.1) ∙ sym (append_assoc (spelling x) (flat_map spelling ys.0) rest))
    last x xs bytes mid rest is are all (Err fault) h e = absurd cc

    both : (xs : List A) (bytes rest : List ℕ) → AreBytes bytes → (r : Reading A) → read f bytes ≡ r → (r >>= λ y. read (behind y.0) y.1) ≡ Ok (xs, rest)
        → Begun Is Behind xs × (bytes ≡ flat_map spelling xs ++ rest)
    both xs bytes rest all (Ok x) is h =
        let a = s.goes x.0 bytes x.1 all is in
        last x.0 xs bytes x.1 rest a.0 a.1 (bytes_behind (spelling x.0) x.1 (subst AreBytes a.1 all)) (read (g x.0) x.1) refl (sym (read_joined (g x.0) (λ ys. End (x.0 ∷ ys)) x.1) ∙ h)
    both xs bytes rest all (Err fault) is h = absurd cc

-- the same fields so many times
pub times_spell : {A : Type 0} {f : Fields A} {Is : A → Type 0} {spelling : A → List ℕ} → Spells f Is spelling → (n : ℕ) → Spells (times n f) (λ xs. (length xs ≡ n) × All Is xs) (flat_map spelling)
times_spell {A} {f} {Is} {spelling} s zero = times_none f Is spelling
times_spell {A} {f} {Is} {spelling} s (suc n) = fit (list_spells {Behind = λ x xs. (length xs ≡ n) × All Is xs} s (λ x is. times_spell s n)) to from (λ xs h. refl)
  where
    to : (xs : List A) → Begun Is (λ x ys. (length ys ≡ n) × All Is ys) xs → (length xs ≡ suc n) × All Is xs
    to [] h = absurd h
    to (x ∷ xs) h = (omega (arith, h.1.0), All-cons Is x xs h.0 h.1.1)

    from : (xs : List A) → (length xs ≡ suc n) × All Is xs → Begun Is (λ x ys. (length ys ≡ n) × All Is ys) xs
    from [] h = omega (arith, h.0)
    from (x ∷ xs) h = (All-head Is x xs h.1, (omega (arith, h.0), All-tail Is x xs h.1))
