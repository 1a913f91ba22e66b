-- Words spell one form.
use Rattle.std.proofs.Common.{◌≡◌, ◌≤◌, ℕ, Bool, true, false, List, [], length, drop, get_or, refl, ap, arith, decimal}
use Rattle.std.proofs.lemmas.Fmt.{decimal_injective}
use Rattle.command_line.specs.Forms.{IsForm, most_num, spelled, trail_flag}
use Rattle.command_line.specs.declared.form.Form.{Form}
use Rattle.command_line.specs.declared.form.Form.TheVariants.{Run, Serial, Journal, Make, Load, Help, Version}

-- the third byte of the first word, by which the forms differ
abbrev pub third : List (List ℕ) → ℕ
third words = get_or (get_or words 0 []) 2 0

-- the words behind the first
abbrev flag_in : List (List ℕ) → List (List ℕ)
flag_in words = drop 1 words

-- the flag stands there or not
pub one_flag : (b c : Bool) → trail_flag b ≡ trail_flag c → b ≡ c
one_flag true true same = refl
one_flag true false same = absurd (let bad : 1 ≡ 0 = ap length same in omega (arith, bad))
one_flag false true same = absurd (let bad : 0 ≡ 1 = ap length same in omega (arith, bad))
one_flag false false same = refl

-- the second word
abbrev number_in : List (List ℕ) → List ℕ
number_in words = get_or words 1 []

-- two numbers of one text are one
one_number : (m n : ℕ) → (1 ≤ m) × (m ≤ most_num) → (1 ≤ n) × (n ≤ most_num) → decimal m ≡ decimal n → m ≡ n
one_number m n known too same = decimal_injective m n (omega (arith, known.1)) (omega (arith, too.1)) same

-- two forms that the same words spell are one
pub one_form : (f g : Form) → IsForm f → IsForm g → spelled f ≡ spelled g → f ≡ g
one_form (Run b) (Run c) known too same = ap Run (one_flag b c (ap flag_in same))
one_form (Run b) (Serial c) known too same = absurd (let bad : 110 ≡ 114 = ap third same in omega (arith, bad))
one_form (Run b) Journal known too same = absurd (let bad : 110 ≡ 117 = ap third same in omega (arith, bad))
one_form (Run b) (Make n) known too same = absurd (let bad : 110 ≡ 107 = ap third same in omega (arith, bad))
one_form (Run b) (Load n) known too same = absurd (let bad : 110 ≡ 97 = ap third same in omega (arith, bad))
one_form (Run b) Help known too same = absurd (let bad : 110 ≡ 104 = ap third same in omega (arith, bad))
one_form (Run b) Version known too same = absurd (let bad : 110 ≡ 118 = ap third same in omega (arith, bad))
one_form (Serial b) (Run c) known too same = absurd (let bad : 114 ≡ 110 = ap third same in omega (arith, bad))
one_form (Serial b) (Serial c) known too same = ap Serial (one_flag b c (ap flag_in same))
one_form (Serial b) Journal known too same = absurd (let bad : 114 ≡ 117 = ap third same in omega (arith, bad))
one_form (Serial b) (Make n) known too same = absurd (let bad : 114 ≡ 107 = ap third same in omega (arith, bad))
one_form (Serial b) (Load n) known too same = absurd (let bad : 114 ≡ 97 = ap third same in omega (arith, bad))
one_form (Serial b) Help known too same = absurd (let bad : 114 ≡ 104 = ap third same in omega (arith, bad))
one_form (Serial b) Version known too same = absurd (let bad : 114 ≡ 118 = ap third same in omega (arith, bad))
one_form Journal (Run c) known too same = absurd (let bad : 117 ≡ 110 = ap third same in omega (arith, bad))
one_form Journal (Serial c) known too same = absurd (let bad : 117 ≡ 114 = ap third same in omega (arith, bad))
one_form Journal Journal known too same = refl
one_form Journal (Make n) known too same = absurd (let bad : 117 ≡ 107 = ap third same in omega (arith, bad))
one_form Journal (Load n) known too same = absurd (let bad : 117 ≡ 97 = ap third same in omega (arith, bad))
one_form Journal Help known too same = absurd (let bad : 117 ≡ 104 = ap third same in omega (arith, bad))
one_form Journal Version known too same = absurd (let bad : 117 ≡ 118 = ap third same in omega (arith, bad))
one_form (Make m) (Run c) known too same = absurd (let bad : 107 ≡ 110 = ap third same in omega (arith, bad))
one_form (Make m) (Serial c) known too same = absurd (let bad : 107 ≡ 114 = ap third same in omega (arith, bad))
one_form (Make m) Journal known too same = absurd (let bad : 107 ≡ 117 = ap third same in omega (arith, bad))
one_form (Make m) (Make n) known too same = ap Make (one_number m n known too (ap number_in same))
one_form (Make m) (Load n) known too same = absurd (let bad : 107 ≡ 97 = ap third same in omega (arith, bad))
one_form (Make m) Help known too same = absurd (let bad : 107 ≡ 104 = ap third same in omega (arith, bad))
one_form (Make m) Version known too same = absurd (let bad : 107 ≡ 118 = ap third same in omega (arith, bad))
one_form (Load m) (Run c) known too same = absurd (let bad : 97 ≡ 110 = ap third same in omega (arith, bad))
one_form (Load m) (Serial c) known too same = absurd (let bad : 97 ≡ 114 = ap third same in omega (arith, bad))
one_form (Load m) Journal known too same = absurd (let bad : 97 ≡ 117 = ap third same in omega (arith, bad))
one_form (Load m) (Make n) known too same = absurd (let bad : 97 ≡ 107 = ap third same in omega (arith, bad))
one_form (Load m) (Load n) known too same = ap Load (one_number m n known too (ap number_in same))
one_form (Load m) Help known too same = absurd (let bad : 97 ≡ 104 = ap third same in omega (arith, bad))
one_form (Load m) Version known too same = absurd (let bad : 97 ≡ 118 = ap third same in omega (arith, bad))
one_form Help (Run c) known too same = absurd (let bad : 104 ≡ 110 = ap third same in omega (arith, bad))
one_form Help (Serial c) known too same = absurd (let bad : 104 ≡ 114 = ap third same in omega (arith, bad))
one_form Help Journal known too same = absurd (let bad : 104 ≡ 117 = ap third same in omega (arith, bad))
one_form Help (Make n) known too same = absurd (let bad : 104 ≡ 107 = ap third same in omega (arith, bad))
one_form Help (Load n) known too same = absurd (let bad : 104 ≡ 97 = ap third same in omega (arith, bad))
one_form Help Help known too same = refl
one_form Help Version known too same = absurd (let bad : 104 ≡ 118 = ap third same in omega (arith, bad))
one_form Version (Run c) known too same = absurd (let bad : 118 ≡ 110 = ap third same in omega (arith, bad))
one_form Version (Serial c) known too same = absurd (let bad : 118 ≡ 114 = ap third same in omega (arith, bad))
one_form Version Journal known too same = absurd (let bad : 118 ≡ 117 = ap third same in omega (arith, bad))
one_form Version (Make n) known too same = absurd (let bad : 118 ≡ 107 = ap third same in omega (arith, bad))
one_form Version (Load n) known too same = absurd (let bad : 118 ≡ 97 = ap third same in omega (arith, bad))
one_form Version Help known too same = absurd (let bad : 118 ≡ 104 = ap third same in omega (arith, bad))
one_form Version Version known too same = refl
