-- What `clap` makes of the words that spell a command.
use Rattle.std.proofs.Common.{◌≡◌, ◌<◌, ◌≤◌, ◌∙◌, ℕ, Bool, true, false, List, [], ◌∷◌, Option, Some, None, unwrap_or, get_or, arith, refl, sym, ap, subst, codes, decimal}
use Rattle.clap.specs.Words.{Row, Text, first_of, one_of, subcommand_name_of, subcommand_of, subcommand_rows_of, takes}
use Rattle.clap.specs.declared.parser.matches.ArgMatches.{ArgMatches}
use Rattle.clap.specs.declared.parser.matches.ArgMatches.TheViews.{out-ArgMatches}
use Rattle.clap.proofs.OnLiterals.{clap_on_literals}
use Rattle.std.specs.Option.{option_map}
use Rattle.std.proofs.lemmas.Option.{none-some}
use Rattle.command_line.specs.Apps.{program_app}
use Rattle.command_line.specs.Forms.{IsCommand, flag_text, spelled}
use Rattle.command_line.specs.declared.form.Form.{Form}
use Rattle.command_line.specs.declared.form.Form.TheVariants.{Run, Serial, Journal, Make, Load, Help, Version}
use Rattle.command_line.proofs.Numbers.{begins, by_digit}

-- a command and the text of a number
abbrev number_words : Text → Text → List Text
number_words name num = name ∷ num ∷ []

-- `clap` takes `run` and `serial`, with the flag or without
run_taken : (trail : Bool) → takes program_app (spelled (Run trail)) ≡ true
unfolding clap_on_literals
run_taken true = refl
run_taken false = refl

serial_taken : (trail : Bool) → takes program_app (spelled (Serial trail)) ≡ true
unfolding clap_on_literals
serial_taken true = refl
serial_taken false = refl

-- and `journal`
journal_taken : takes program_app (spelled Journal) ≡ true
unfolding clap_on_literals
journal_taken = refl

-- `clap` takes this command with each word that begins with this digit
abbrev IsTaken : Text → ℕ → Type 0
IsTaken name d = (ds : List ℕ) → takes program_app (number_words name (d ∷ ds)) ≡ true

make_at : (d : ℕ) → 48 < d → d ≤ 57 → IsTaken (codes "make") d
unfolding clap_on_literals
make_at = by_digit (IsTaken (codes "make")) (λ ds. refl) (λ ds. refl) (λ ds. refl) (λ ds. refl) (λ ds. refl) (λ ds. refl) (λ ds. refl) (λ ds. refl) (λ ds. refl)

load_at : (d : ℕ) → 48 < d → d ≤ 57 → IsTaken (codes "load") d
unfolding clap_on_literals
load_at = by_digit (IsTaken (codes "load")) (λ ds. refl) (λ ds. refl) (λ ds. refl) (λ ds. refl) (λ ds. refl) (λ ds. refl) (λ ds. refl) (λ ds. refl) (λ ds. refl)

-- what is taken with each digit in front is taken with a number
number_taken : (name : Text) → ((d : ℕ) → 48 < d → d ≤ 57 → IsTaken name d) → (num : ℕ) → 1 ≤ num → num ≤ 999999999 → takes program_app (number_words name (decimal num)) ≡ true
number_taken name at num one most =
    let text = begins num one most in
    subst (λ word. takes program_app (number_words name word) ≡ true) (sym text.is) (at text.digit text.above text.below text.rest)

-- the name, and the rows, of what was found
abbrev pub name_in : Option (Text × List Row) → Option Text
name_in = option_map (λ p. p.0)

abbrev pub rows_in : Option (Text × List Row) → Option (List Row)
rows_in = option_map (λ p. p.1)

abbrev Finds : List Text → Text → (List Row → Option Text) → Text → Type 0
Finds words name value text = (name_in (subcommand_of program_app words) ≡ Some name)
    × (option_map value (rows_in (subcommand_of program_app words)) ≡ Some (Some text))

abbrev num_in : List Row → Option Text
num_in = first_of (codes "num")

abbrev trail_in : List Row → Option Text
trail_in = one_of (codes "trail")

-- of this command with each word that begins with this digit the word is found
abbrev FindsNumber : Text → ℕ → Type 0
FindsNumber name d = (ds : List ℕ) → Finds (number_words name (d ∷ ds)) name num_in (d ∷ ds)

make_finds : (d : ℕ) → 48 < d → d ≤ 57 → FindsNumber (codes "make") d
unfolding clap_on_literals
make_finds = by_digit (FindsNumber (codes "make")) (λ ds. (refl, refl)) (λ ds. (refl, refl)) (λ ds. (refl, refl)) (λ ds. (refl, refl)) (λ ds. (refl, refl)) (λ ds. (refl, refl)) (λ ds. (refl, refl)) (λ ds. (refl, refl)) (λ ds. (refl, refl))

load_finds : (d : ℕ) → 48 < d → d ≤ 57 → FindsNumber (codes "load") d
unfolding clap_on_literals
load_finds = by_digit (FindsNumber (codes "load")) (λ ds. (refl, refl)) (λ ds. (refl, refl)) (λ ds. (refl, refl)) (λ ds. (refl, refl)) (λ ds. (refl, refl)) (λ ds. (refl, refl)) (λ ds. (refl, refl)) (λ ds. (refl, refl)) (λ ds. (refl, refl))

-- what is found with each digit in front is found with a number
finds_number : (name : Text) → ((d : ℕ) → 48 < d → d ≤ 57 → FindsNumber name d) → (num : ℕ) → 1 ≤ num → num ≤ 999999999 → Finds (number_words name (decimal num)) name num_in (decimal num)
finds_number name at num one most =
    let text = begins num one most in
    subst (λ word. Finds (number_words name word) name num_in word) (sym text.is) (at text.digit text.above text.below text.rest)

-- `make` and `load` find their number
make_found : (num : ℕ) → 1 ≤ num → num ≤ 999999999 → Finds (spelled (Make num)) (codes "make") num_in (decimal num)
make_found = finds_number (codes "make") make_finds

load_found : (num : ℕ) → 1 ≤ num → num ≤ 999999999 → Finds (spelled (Load num)) (codes "load") num_in (decimal num)
load_found = finds_number (codes "load") load_finds

-- `run` and `serial` find whether their flag is there
run_found : (trail : Bool) → Finds (spelled (Run trail)) (codes "run") trail_in (flag_text trail)
unfolding clap_on_literals
run_found true = (refl, refl)
run_found false = (refl, refl)

serial_found : (trail : Bool) → Finds (spelled (Serial trail)) (codes "serial") trail_in (flag_text trail)
unfolding clap_on_literals
serial_found true = (refl, refl)
serial_found false = (refl, refl)

-- of `journal` the name is found
journal_found : name_in (subcommand_of program_app (spelled Journal)) ≡ Some (codes "journal")
unfolding clap_on_literals
journal_found = refl

-- `clap` takes the words of each command
pub command_taken : (form : Form) → IsCommand form → takes program_app (spelled form) ≡ true
command_taken (Run trail) fits = run_taken trail
command_taken (Serial trail) fits = serial_taken trail
command_taken Journal fits = journal_taken
command_taken (Make num) fits = number_taken (codes "make") make_at num fits.0 fits.1
command_taken (Load num) fits = number_taken (codes "load") load_at num fits.0 fits.1
command_taken Help fits = absurd fits
command_taken Version fits = absurd fits

map_twice : {X Y Z : Type 0} (f : X → Y) (g : Y → Z) (o : Option X) → option_map (λ x. g (f x)) o ≡ option_map g (option_map f o)
map_twice f g None = refl
map_twice f g (Some x) = refl

pub some_inj : {X : Type 0} (x y : X) → Some x ≡ Some y → x ≡ y
some_inj x y e = ap (λ o. unwrap_or o x) e

-- the name that was found stands with the rows
pub name_is : (m : ArgMatches) → subcommand_name_of m ≡ name_in (subcommand_rows_of m)
name_is m = map_twice _ _ (out-ArgMatches m).subcommand

-- the name of a command, the first of its words
abbrev name_of : Form → Text
name_of form = get_or (spelled form) 0 []

-- of the words of a command its name is found
finds_name : (form : Form) → IsCommand form → name_in (subcommand_of program_app (spelled form)) ≡ Some (name_of form)
finds_name (Run trail) fits = (run_found trail).0
finds_name (Serial trail) fits = (serial_found trail).0
finds_name Journal fits = journal_found
finds_name (Make num) fits = (make_found num fits.0 fits.1).0
finds_name (Load num) fits = (load_found num fits.0 fits.1).0
finds_name Help fits = absurd fits
finds_name Version fits = absurd fits

-- the name that was found is that of the command
named_so : (form : Form) → IsCommand form → (found : Option (Text × List Row)) → found ≡ subcommand_of program_app (spelled form) → (name : Text) → Some name ≡ name_in found → name ≡ name_of form
named_so form fits found is name named = some_inj name (name_of form) (named ∙ ap name_in is ∙ finds_name form fits)

-- the first bytes of two names that are one
differ : (name one two : Text) → name ≡ one → name ≡ two → get_or one 0 0 ≡ get_or two 0 0
differ name one two is too = ap (λ (t : Text). get_or t 0 0) (sym is ∙ too)

-- what the rows say of the flag
flag_found : (words : List Text) (name : Text) (found : Option (Text × List Row)) → found ≡ subcommand_of program_app words → (trail : Bool) → Finds words name trail_in (flag_text trail) → (rows : List Row) → Some rows ≡ rows_in found → trail_in rows ≡ Some (flag_text trail)
flag_found words name found is trail finds rows at = some_inj (trail_in rows) (Some (flag_text trail)) (ap (option_map trail_in) (at ∙ ap rows_in is) ∙ finds.1)

-- where `run` was found, the words spell it with the flag or without
pub run_form : (form : Form) → IsCommand form → (found : Option (Text × List Row)) → found ≡ subcommand_of program_app (spelled form) → (name : Text) → name ≡ codes "run"
    → Some name ≡ name_in found → (rows : List Row) → Some rows ≡ rows_in found → (has : Bool) → ((trail : Bool) → trail_in rows ≡ Some (flag_text trail) → has ≡ trail)
    → Some (Run has) ≡ Some form
run_form (Run trail) fits found is name run named rows at has reads = ap (λ t. Some (Run t)) (reads trail (flag_found (spelled (Run trail)) (codes "run") found is trail (run_found trail) rows at))
run_form (Serial trail) fits found is name run named rows at has reads = absurd (let bad : 114 ≡ 115 = differ name (codes "run") (codes "serial") run (named_so (Serial trail) fits found is name named) in omega (arith, bad))
run_form Journal fits found is name run named rows at has reads = absurd (let bad : 114 ≡ 106 = differ name (codes "run") (codes "journal") run (named_so Journal fits found is name named) in omega (arith, bad))
run_form (Make num) fits found is name run named rows at has reads = absurd (let bad : 114 ≡ 109 = differ name (codes "run") (codes "make") run (named_so (Make num) fits found is name named) in omega (arith, bad))
run_form (Load num) fits found is name run named rows at has reads = absurd (let bad : 114 ≡ 108 = differ name (codes "run") (codes "load") run (named_so (Load num) fits found is name named) in omega (arith, bad))
run_form Help fits found is name run named rows at has reads = absurd fits
run_form Version fits found is name run named rows at has reads = absurd fits

-- and so where `serial` was found
pub serial_form : (form : Form) → IsCommand form → (found : Option (Text × List Row)) → found ≡ subcommand_of program_app (spelled form) → (name : Text) → name ≡ codes "serial"
    → Some name ≡ name_in found → (rows : List Row) → Some rows ≡ rows_in found → (has : Bool) → ((trail : Bool) → trail_in rows ≡ Some (flag_text trail) → has ≡ trail)
    → Some (Serial has) ≡ Some form
serial_form (Run trail) fits found is name serial named rows at has reads = absurd (let bad : 115 ≡ 114 = differ name (codes "serial") (codes "run") serial (named_so (Run trail) fits found is name named) in omega (arith, bad))
serial_form (Serial trail) fits found is name serial named rows at has reads = ap (λ t. Some (Serial t)) (reads trail (flag_found (spelled (Serial trail)) (codes "serial") found is trail (serial_found trail) rows at))
serial_form Journal fits found is name serial named rows at has reads = absurd (let bad : 115 ≡ 106 = differ name (codes "serial") (codes "journal") serial (named_so Journal fits found is name named) in omega (arith, bad))
serial_form (Make num) fits found is name serial named rows at has reads = absurd (let bad : 115 ≡ 109 = differ name (codes "serial") (codes "make") serial (named_so (Make num) fits found is name named) in omega (arith, bad))
serial_form (Load num) fits found is name serial named rows at has reads = absurd (let bad : 115 ≡ 108 = differ name (codes "serial") (codes "load") serial (named_so (Load num) fits found is name named) in omega (arith, bad))
serial_form Help fits found is name serial named rows at has reads = absurd fits
serial_form Version fits found is name serial named rows at has reads = absurd fits

-- where `journal` was found, the words spell it
pub journal_form : (form : Form) → IsCommand form → (found : Option (Text × List Row)) → found ≡ subcommand_of program_app (spelled form) → (name : Text) → name ≡ codes "journal"
    → Some name ≡ name_in found → Some Journal ≡ Some form
journal_form (Run trail) fits found is name journal named = absurd (let bad : 106 ≡ 114 = differ name (codes "journal") (codes "run") journal (named_so (Run trail) fits found is name named) in omega (arith, bad))
journal_form (Serial trail) fits found is name journal named = absurd (let bad : 106 ≡ 115 = differ name (codes "journal") (codes "serial") journal (named_so (Serial trail) fits found is name named) in omega (arith, bad))
journal_form Journal fits found is name journal named = refl
journal_form (Make num) fits found is name journal named = absurd (let bad : 106 ≡ 109 = differ name (codes "journal") (codes "make") journal (named_so (Make num) fits found is name named) in omega (arith, bad))
journal_form (Load num) fits found is name journal named = absurd (let bad : 106 ≡ 108 = differ name (codes "journal") (codes "load") journal (named_so (Load num) fits found is name named) in omega (arith, bad))
journal_form Help fits found is name journal named = absurd fits
journal_form Version fits found is name journal named = absurd fits

-- what was read of the rows is the number of which they have the text
abbrev pub Reads : Option ℕ → List Row → Type 0
Reads read rows = (num : ℕ) → 1 ≤ num → num ≤ 999999999 → num_in rows ≡ Some (decimal num) → read ≡ Some num

-- what the rows say of the number
number_found : (words : List Text) (name : Text) (found : Option (Text × List Row)) → found ≡ subcommand_of program_app words → (num : ℕ) → (1 ≤ num) × (num ≤ 999999999) → Finds words name num_in (decimal num)
    → (rows : List Row) → Some rows ≡ rows_in found → (read : Option ℕ) → Reads read rows → read ≡ Some num
number_found words name found is num fits finds rows at read reads =
    reads num fits.0 fits.1 (some_inj (num_in rows) (Some (decimal num)) (ap (option_map num_in) (at ∙ ap rows_in is) ∙ finds.1))

-- where `make` was found, the words spell it with the number
pub make_form : (form : Form) → IsCommand form → (found : Option (Text × List Row)) → found ≡ subcommand_of program_app (spelled form) → (name : Text) → name ≡ codes "make"
    → Some name ≡ name_in found → (rows : List Row) → Some rows ≡ rows_in found → (num : Option ℕ) → Reads num rows → option_map Make num ≡ Some form
make_form (Run trail) fits found is name make named rows at read reads = absurd (let bad : 109 ≡ 114 = differ name (codes "make") (codes "run") make (named_so (Run trail) fits found is name named) in omega (arith, bad))
make_form (Serial trail) fits found is name make named rows at read reads = absurd (let bad : 109 ≡ 115 = differ name (codes "make") (codes "serial") make (named_so (Serial trail) fits found is name named) in omega (arith, bad))
make_form Journal fits found is name make named rows at read reads = absurd (let bad : 109 ≡ 106 = differ name (codes "make") (codes "journal") make (named_so Journal fits found is name named) in omega (arith, bad))
make_form (Make num) fits found is name make named rows at read reads = ap (option_map Make) (number_found (spelled (Make num)) (codes "make") found is num fits (make_found num fits.0 fits.1) rows at read reads)
make_form (Load num) fits found is name make named rows at read reads = absurd (let bad : 109 ≡ 108 = differ name (codes "make") (codes "load") make (named_so (Load num) fits found is name named) in omega (arith, bad))
make_form Help fits found is name make named rows at read reads = absurd fits
make_form Version fits found is name make named rows at read reads = absurd fits

-- and so where `load` was found
pub load_form : (form : Form) → IsCommand form → (found : Option (Text × List Row)) → found ≡ subcommand_of program_app (spelled form) → (name : Text) → name ≡ codes "load"
    → Some name ≡ name_in found → (rows : List Row) → Some rows ≡ rows_in found → (num : Option ℕ) → Reads num rows → option_map Load num ≡ Some form
load_form (Run trail) fits found is name load named rows at read reads = absurd (let bad : 108 ≡ 114 = differ name (codes "load") (codes "run") load (named_so (Run trail) fits found is name named) in omega (arith, bad))
load_form (Serial trail) fits found is name load named rows at read reads = absurd (let bad : 108 ≡ 115 = differ name (codes "load") (codes "serial") load (named_so (Serial trail) fits found is name named) in omega (arith, bad))
load_form Journal fits found is name load named rows at read reads = absurd (let bad : 108 ≡ 106 = differ name (codes "load") (codes "journal") load (named_so Journal fits found is name named) in omega (arith, bad))
load_form (Make num) fits found is name load named rows at read reads = absurd (let bad : 108 ≡ 109 = differ name (codes "load") (codes "make") load (named_so (Make num) fits found is name named) in omega (arith, bad))
load_form (Load num) fits found is name load named rows at read reads = ap (option_map Load) (number_found (spelled (Load num)) (codes "load") found is num fits (load_found num fits.0 fits.1) rows at read reads)
load_form Help fits found is name load named rows at read reads = absurd fits
load_form Version fits found is name load named rows at read reads = absurd fits

-- where no command was found, the words spell none
pub no_form : (form : Form) → IsCommand form → (found : Option (Text × List Row)) → found ≡ subcommand_of program_app (spelled form) → None ≡ name_in found → ⊥
no_form form fits found is none = none-some (name_of form) (none ∙ ap name_in is ∙ finds_name form fits)
