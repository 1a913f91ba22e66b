-- The bytes of numbers.
use Rattle.std.proofs.Common.{◌≡◌, ℕ, refl}
use Rattle.std.specs.Int.{w16, w32, w64, to_be_bytes}
use Rattle.wire_codec.specs.Spelling.{u16_bytes, u32_bytes, u64_bytes}

pub u16_is : (n : ℕ) → to_be_bytes w16 n ≡ u16_bytes n
unfolding u16_bytes
u16_is n = refl

pub u32_is : (n : ℕ) → to_be_bytes w32 n ≡ u32_bytes n
unfolding u32_bytes
u32_is n = refl

pub u64_is : (n : ℕ) → to_be_bytes w64 n ≡ u64_bytes n
unfolding u64_bytes
u64_is n = refl
