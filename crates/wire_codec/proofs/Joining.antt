-- Reading fields one behind the other is reading the first, and then those behind it.
use Rattle.std.proofs.Common.{◌≡◌, ℕ, Bool, true, false, cond, ltb, List, length, take, drop, Result, Ok, Err, refl, ◌∙◌}
use Rattle.wire_codec.specs.declared.fault.Fault.{Fault}
use Rattle.wire_codec.specs.declared.fault.Fault.TheVariants.{Short, Bad}
use Rattle.wire_codec.specs.Fields.{Fields, End, Field, joined, read}
use Rattle.wire_codec.specs.Reading.{◌>>=◌, Reading}

-- a field that stops reading stops it whatever stands behind
choose : {A B : Type 0} (short fine : Bool) (left : ℕ) (r : Reading A) (s : Reading B) (f : A × List ℕ → Reading B) → s ≡ (r >>= f)
    → cond short (Err Short) (cond fine s (Err (Bad left))) ≡ (cond short (Err Short) (cond fine r (Err (Bad left))) >>= f)
choose true fine left r s f e = refl
choose false true left r s f e = e
choose false false left r s f e = refl

-- fields, and those behind them
pub read_joined : {A B : Type 0} (fields : Fields A) (f : A → Fields B) (bytes : List ℕ) → read (joined fields f) bytes ≡ (read fields bytes >>= λ x. read (f x.0) x.1)
read_joined (End x) f bytes = refl
read_joined (Field size allowed next) f bytes =
    choose (ltb (length bytes) size) (allowed (take size bytes)) (length bytes) (read (next (take size bytes)) (drop size bytes)) (read (joined (next (take size bytes)) f) (drop size bytes)) (λ x. read (f x.0) x.1)
    (read_joined (next (take size bytes)) f (drop size bytes))

-- equal first steps, and second steps that are equal at each value
pub bind_same : {A B : Type 0} (r s : Result A Fault) (f g : A → Result B Fault) → r ≡ s → ((x : A) → f x ≡ g x) → (r >>= f) ≡ (s >>= g)
bind_same r (Ok x) f g e h = rw e (h x)
bind_same r (Err fault) f g e h = rw e refl

-- fields that are read so, and what is read behind them
pub read_step : {A B : Type 0} (fields : Fields A) (f : A → Fields B) (bytes : List ℕ) (r : Reading A) (k : A × List ℕ → Reading B)
    → read fields bytes ≡ r → ((x : A × List ℕ) → read (f x.0) x.1 ≡ k x) → read (joined fields f) bytes ≡ (r >>= k)
read_step fields f bytes r k first behind = read_joined fields f bytes ∙ bind_same (read fields bytes) r (λ x. read (f x.0) x.1) k first behind
