-- A number is read from its bytes.
use Rattle.std.proofs.Common.{◌≡◌, ℕ, zero, suc, ◌<◌, ◌≤◌, ◌^◌, List, [], ◌∷◌, ◌++◌, length, get_or, Some, refl, sym, ◌∙◌, ap, subst, arith, Fits, w8}
use Rattle.std.proofs.Math.Facts.{Fits-lt-pow}
use Rattle.std.specs.Int.{w64, from_be_bytes}
use Rattle.std.specs.Coded.{le_prop}
use Rattle.std.proofs.lemmas.Nat.{from_be_bytes-to_be_bytes_8, be_bytes_8}
use Rattle.journal_pair.specs.declared.mark.Mark.{Mark}
use Rattle.journal_pair.specs.Numbers.{IsFront}
use Rattle.journal_pair.specs.Marks.{mark_bytes}

-- marks of one number are one
pub same_mark : (a b : Mark) → a.number ≡ b.number → a ≡ b
same_mark a b same =
    let P : ℕ → Type 0 = λ n. (few : n < 2 ^ 64) → a ≡ record { number = n; few = few } in
    subst P same (λ few. (λ i. record { number = a.number; few = le_prop a.few few i })) b.few

abbrev sized : Mark → ℕ → Mark × ℕ
sized m n = (m, n)

-- eight bytes and any behind them
eight : (a b c d e f g h : ℕ) (rest : List ℕ) (m : Mark) → ((i : ℕ) → get_or (a ∷ b ∷ c ∷ d ∷ e ∷ f ∷ g ∷ h ∷ []) i 0 < 256)
    → m.number ≡ from_be_bytes w64 (a ∷ b ∷ c ∷ d ∷ e ∷ f ∷ g ∷ h ∷ []) → IsFront mark_bytes (a ∷ b ∷ c ∷ d ∷ e ∷ f ∷ g ∷ h ∷ rest) (Some (m, 8))
eight a b c d e f g h rest m small is = record {
  only = λ x more begins.
      let number : m.number ≡ x.number = is ∙ ap (from_be_bytes w64) begins ∙ from_be_bytes-to_be_bytes_8 x.number x.few in
      ap (λ z. Some (sized z 8)) (same_mark m x number);
  is = ap (λ l. l ++ rest) (sym (be_bytes_8 (a ∷ b ∷ c ∷ d ∷ e ∷ f ∷ g ∷ h ∷ []) m.number refl small is));
  count = refl;
}

-- the first eight of bytes
pub mark_front : (bytes : List ℕ) (m : Mark) → 8 ≤ length bytes → ((i : ℕ) → Fits w8 (get_or bytes i 0)) → m.number ≡ from_be_bytes w64 bytes → IsFront mark_bytes bytes (Some (m, 8))
mark_front [] m long fits is = absurd (omega (arith, long))
mark_front (a ∷ []) m long fits is = absurd (omega (arith, long))
mark_front (a ∷ b ∷ []) m long fits is = absurd (omega (arith, long))
mark_front (a ∷ b ∷ c ∷ []) m long fits is = absurd (omega (arith, long))
mark_front (a ∷ b ∷ c ∷ d ∷ []) m long fits is = absurd (omega (arith, long))
mark_front (a ∷ b ∷ c ∷ d ∷ e ∷ []) m long fits is = absurd (omega (arith, long))
mark_front (a ∷ b ∷ c ∷ d ∷ e ∷ f ∷ []) m long fits is = absurd (omega (arith, long))
mark_front (a ∷ b ∷ c ∷ d ∷ e ∷ f ∷ g ∷ []) m long fits is = absurd (omega (arith, long))
mark_front (a ∷ b ∷ c ∷ d ∷ e ∷ f ∷ g ∷ h ∷ rest) m long fits is = eight a b c d e f g h rest m small is
  where
    byte : (i : ℕ) → get_or (a ∷ b ∷ c ∷ d ∷ e ∷ f ∷ g ∷ h ∷ rest) i 0 < 256
    byte i = Fits-lt-pow {w = w8} (fits i)

    small : (i : ℕ) → get_or (a ∷ b ∷ c ∷ d ∷ e ∷ f ∷ g ∷ h ∷ []) i 0 < 256
    small zero = byte 0
    small (suc zero) = byte 1
    small (suc (suc zero)) = byte 2
    small (suc (suc (suc zero))) = byte 3
    small (suc (suc (suc (suc zero)))) = byte 4
    small (suc (suc (suc (suc (suc zero))))) = byte 5
    small (suc (suc (suc (suc (suc (suc zero)))))) = byte 6
    small (suc (suc (suc (suc (suc (suc (suc zero))))))) = byte 7
    small (suc (suc (suc (suc (suc (suc (suc (suc i)))))))) = omega arith
