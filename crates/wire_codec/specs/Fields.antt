-- Fields one behind the other, as bytes. What comes next may go by the fields before.
use Rattle.std.specs.Prelude.{◌≡◌, ◌≤◌, ◌<◌, ◌+◌, ◌==◌, ◌&&◌, ℕ, zero, suc, Bool, false, List, [], ◌∷◌, ◌++◌, length, take, drop, Option, Some, None, Result, Ok, Err, nat_lt, if◌then◌else◌}
use Rattle.std.specs.Int.{Width, byte_len, from_be_bytes}
use Rattle.std.specs.List.{concat}
use Rattle.tx_core.specs.Checks.{is_within}
use Rattle.wire_codec.specs.declared.fault.Fault.{Fault}
use Rattle.wire_codec.specs.declared.fault.Fault.TheVariants.{Short, Bad}

-- the end, where something is told; or a field of so many bytes, which of its values are allowed, and what comes next
pub data Fields (A : Type 0) : Type 0 where
  End : A → Fields A
  Field : ℕ → (List ℕ → Bool) → (List ℕ → Fields A) → Fields A

-- the first fields, and then those that go by what the first tell
abbrev pub joined : {A B : Type 0} → Fields A → (A → Fields B) → Fields B
joined (End x) f = f x
joined (Field size allowed next) f = Field size allowed (λ bytes. joined (next bytes) f)

infixl 10 ◌>>=◌
-- the same, for lines of fields
abbrev pub ◌>>=◌ : {A B : Type 0} → Fields A → (A → Fields B) → Fields B
fields >>= f = joined fields f

-- a number of that width that passes the test
abbrev pub number_where : Width → (ℕ → Bool) → Fields ℕ
number_where w test = Field (byte_len w) (λ bytes. test (from_be_bytes w bytes)) (λ bytes. End (from_be_bytes w bytes))

-- a number of that width from low to high
abbrev pub number : Width → ℕ → ℕ → Fields ℕ
number w low high = number_where w (is_within low high)

-- so many bytes that pass the test
abbrev pub bytes_where : ℕ → (List ℕ → Bool) → Fields (List ℕ)
bytes_where size test = Field size test (λ bytes. End bytes)

-- the same fields so many times
abbrev pub times : {A : Type 0} → ℕ → Fields A → Fields (List A)
times zero fields = End []
times (suc n) fields = do
  x ← fields
  xs ← times n fields
  End (x ∷ xs)

-- the fields that are still to come behind whole ones with these bytes, where each of these is allowed
abbrev pub after : {A : Type 0} → Fields A → List (List ℕ) → Option (Fields A)
after fields [] = Some fields
after (End x) (bytes ∷ more) = None
after (Field size allowed next) (bytes ∷ more) = if (length bytes == size) && allowed bytes then after (next bytes) more else None

-- The bytes begin with whole fields, each of which is allowed. That many bytes of the next stand behind them.
pub record Begins {A : Type 0} (fields : Fields A) (bytes rest : List ℕ) (size : ℕ) (allowed : List ℕ → Bool) : Type 0 where
  pub whole : List (List ℕ)
  pub next : List ℕ → Fields A
  pub left : after fields whole ≡ Some (Field size allowed next)
  pub are : bytes ≡ concat whole ++ rest

-- every whole field is allowed, and the bytes end before the fields do
pub record EndsEarly {A : Type 0} (fields : Fields A) (bytes : List ℕ) : Type 0 where
  pub rest : List ℕ
  pub size : ℕ
  pub allowed : List ℕ → Bool
  pub begins : Begins fields bytes rest size allowed
  pub few : length rest < size

-- the first field that is not allowed begins at that place, and it is whole
pub record IsFirstFault {A : Type 0} (fields : Fields A) (bytes : List ℕ) (place : ℕ) : Type 0 where
  pub rest : List ℕ
  pub size : ℕ
  pub allowed : List ℕ → Bool
  pub begins : Begins fields bytes rest size allowed
  pub whole : size ≤ length rest
  pub bad : allowed (take size rest) ≡ false
  pub there : length bytes ≡ place + length rest

-- what the fields tell and the bytes behind them; or the first fault, with the number of bytes from there on
abbrev pub read : {A : Type 0} → Fields A → List ℕ → Result (A × List ℕ) Fault
read (End x) bytes = Ok (x, bytes)
read (Field size allowed next) bytes =
    if nat_lt (length bytes) size then Err Short
    else if allowed (take size bytes) then read (next (take size bytes)) (drop size bytes)
    else Err (Bad (length bytes))
