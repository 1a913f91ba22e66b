-- The test of names is that of the definition of names.
use Rattle.std.proofs.Common.{◌≡◌, ℕ, Bool, true, false, List, [], ◌∷◌, refl, ap, sym, ◌∙◌, arith, leb-true, le-leb}
use Rattle.std.specs.Prelude.{All, cond, Some, None}
use Rattle.std.specs.List.{list_all}
use Rattle.std.proofs.lemmas.Bool.{and_parts, and_from, false≢true}
use Rattle.std.proofs.lemmas.List.Elements.{All-nil, All-cons, All-head, All-tail}
use Rattle.ids_core.specs.Name.{IsName, IsNameByte}
use Rattle.script_reader.specs.Names.{is_name, is_name_byte}

byte_from_test : (b : ℕ) → is_name_byte b ≡ true → IsNameByte b
byte_from_test b h = grind arith

test_from_byte : (b : ℕ) → IsNameByte b → is_name_byte b ≡ true
test_from_byte b h = grind arith

bytes_from_test : (bytes : List ℕ) → list_all is_name_byte bytes ≡ true → All IsNameByte bytes
bytes_from_test [] all = All-nil IsNameByte
bytes_from_test (b ∷ bs) all = let parts = and_parts _ _ all in All-cons IsNameByte b bs (byte_from_test b parts.0) (bytes_from_test bs parts.1)

test_from_bytes : (bytes : List ℕ) → All IsNameByte bytes → list_all is_name_byte bytes ≡ true
test_from_bytes [] all = refl
test_from_bytes (b ∷ bs) all = and_from _ _ (test_from_byte b (All-head IsNameByte b bs all)) (test_from_bytes bs (All-tail IsNameByte b bs all))

-- what passes the test is a name
pub name_from_test : (word : List ℕ) → is_name word ≡ true → IsName word
name_from_test word h =
    let parts = and_parts _ _ h in
    let lengths = and_parts _ _ parts.1 in
    record { some = leb-true _ _ lengths.0; most = leb-true _ _ lengths.1; each = bytes_from_test word parts.0 }

-- and a name passes it
pub test_from_name : (word : List ℕ) → IsName word → is_name word ≡ true
test_from_name word name = and_from _ _ (test_from_bytes word name.each) (and_from _ _ (le-leb _ _ name.some) (le-leb _ _ name.most))

-- a name is found
pub name_found : (word name : List ℕ) → name ≡ word → ((IsName word → ⊥) → ⊥) → Some name ≡ cond (is_name word) (Some word) None
name_found word name same not_none = go (is_name word) refl
  where
    go : (test : Bool) → is_name word ≡ test → Some name ≡ cond test (Some word) None
    go true is = ap Some same
    go false is = absurd (not_none (λ name. false≢true (sym is ∙ test_from_name word name)))

-- and nothing else
pub no_name_found : (word : List ℕ) → (IsName word → ⊥) → None ≡ cond (is_name word) (Some word) None
no_name_found word none = go (is_name word) refl
  where
    go : (test : Bool) → is_name word ≡ test → None ≡ cond test (Some word) None
    go true is = absurd (none (name_from_test word is))
    go false is = refl
