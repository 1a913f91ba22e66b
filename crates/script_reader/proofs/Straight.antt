-- What lines say whose words are read straight.
use Rattle.std.proofs.Common.{◌≡◌, ℕ, ℤ, true, List, [], ◌∷◌, Bor, length, get_or, refl, ap, sym, ◌∙◌, arith}
use Rattle.std.specs.Prelude.{Option, Some, None, Result, Ok, Err}
use Rattle.std.proofs.lemmas.Bool.{false≢true}
use Rattle.ids_core.specs.declared.object.ObjectId.{ObjectId}
use Rattle.script_core.specs.declared.script.Header.{Header}
use Rattle.script_core.specs.declared.steps.ClientStep.TheVariants.{Read as read_of}
use Rattle.script_core.specs.declared.steps.Step.TheVariants.{Client as step_of}
use Rattle.script_reader.specs.declared.fault.Cause.{Cause}
use Rattle.script_reader.specs.declared.fault.Cause.TheVariants.{Name}
use Rattle.script_reader.specs.declared.form.Word.{Word}
use Rattle.script_reader.specs.declared.form.Word.TheVariants as word
use Rattle.script_reader.specs.declared.form.Part.TheVariants.{Fixed, Client, Summand, Delta, Object}
use Rattle.script_reader.specs.declared.form.Form.{Form}
use Rattle.script_reader.specs.declared.form.Form.TheVariants as form
use Rattle.script_reader.specs.declared.row.Row.{Row}
use Rattle.script_reader.specs.declared.row.Row.TheVariants.{Does}
use Rattle.script_reader.specs.declared.said.Said.{Said}
use Rattle.script_reader.specs.Forms.{parts_of}
use Rattle.script_reader.specs.Names.{object_named}
use Rattle.script_reader.specs.Numbers.{delta_in}
use Rattle.script_reader.specs.Rows.{kind_checked, row_of, row_said, row_spelled}
use Rattle.script_reader.specs.Said.{said_word, said_words, unsaid, with_said, with_object}
use Rattle.script_reader.specs.Shares.{summand_in}
use Rattle.script_reader.specs.Steps.{is_bare, sum_of}
use Rattle.script_reader.specs.Words.{texts_of}

-- the parts of a form that says no more than the client
bare_parts : (one : Form) → is_bare one ≡ true → (own : Word) × (parts_of one ≡ Client ∷ Fixed own ∷ [])
bare_parts form.Begin bare = (word.Begin, refl)
bare_parts form.Commit bare = (word.Commit, refl)
bare_parts form.Abort bare = (word.Abort, refl)
bare_parts form.Push bare = (word.Push, refl)
bare_parts form.Flush bare = (word.Flush, refl)
bare_parts form.Refresh bare = (word.Refresh, refl)
bare_parts form.AskTwice bare = (word.Twice, refl)
bare_parts _ bare = absurd (false≢true bare)

-- what it says has no object of another kind
bare_kind : (one : Form) (said : Said) → is_bare one ≡ true → kind_checked (row_of one said) ≡ Ok (Some (row_of one said))
unfolding row_of
bare_kind form.Begin said bare = refl
bare_kind form.Commit said bare = refl
bare_kind form.Abort said bare = refl
bare_kind form.Push said bare = refl
bare_kind form.Flush said bare = refl
bare_kind form.Refresh said bare = refl
bare_kind form.AskTwice said bare = refl
bare_kind _ said bare = absurd (false≢true bare)

-- what is said with this client, or why there is none
abbrev bare_of : Form → Result ℕ Cause → Result (Option Row) Cause
bare_of one (Ok client) = Ok (Some (row_of one (record unsaid { client = client })))
bare_of one (Err why) = Err why

bare_spelled : (header : Option Header) (one : Form) (first verb : List ℕ) (client : Result ℕ Cause) → is_bare one ≡ true → with_said (λ n. record unsaid { client = n }) client ≡ said_word header Client first unsaid → bare_of one client ≡ row_spelled header (first ∷ verb ∷ []) (Ok one)
unfolding said_word
bare_spelled header one first verb client bare is = let shape = bare_parts one bare in go client ∙ (ap (λ r. row_said one (elim r [ Ok more ↦ Ok more | Err why ↦ Err why ])) is ∙ ap (λ parts. row_said one (said_words header parts (first ∷ verb ∷ []) unsaid)) (sym shape.1))
  where
    go : (client : Result ℕ Cause) → bare_of one client ≡ row_said one (elim (with_said (λ n. record unsaid { client = n }) client) [ Ok more ↦ Ok more | Err why ↦ Err why ])
    go (Ok n) = sym (bare_kind one (record unsaid { client = n }) bare)
    go (Err why) = refl

-- the same of words that were cut off
pub bare_words : (header : Option Header) (one : Form) (words : List (Bor (List ℕ))) (none : Bor (List ℕ)) (client : Result ℕ Cause) → is_bare one ≡ true → length words ≡ 2 → with_said (λ n. record unsaid { client = n }) client ≡ said_word header Client (get_or words 0 none).now unsaid → bare_of one client ≡ row_spelled header (texts_of words) (Ok one)
bare_words header one (first ∷ verb ∷ []) none client bare two is = bare_spelled header one first.now verb.now client bare is
bare_words header one [] none client bare two is = absurd (omega arith)
bare_words header one (first ∷ []) none client bare two is = absurd (omega arith)
bare_words header one (first ∷ verb ∷ more ∷ words) none client bare two is = absurd (omega arith)

-- an addition of a client, to an object, by a delta, or why there is none
abbrev inc_of : Result ℕ Cause → Result ObjectId Cause → Result ℤ Cause → Result (Option Row) Cause
inc_of (Ok client) (Ok object) delta = sum_of client object delta
inc_of (Ok client) (Err why) delta = Err why
inc_of (Err why) object delta = Err why

inc_spelled : (header : Option Header) (first verb object delta : List ℕ) (client : Result ℕ Cause) → with_said (λ n. record unsaid { client = n }) client ≡ said_word header Client first unsaid → inc_of client (summand_in object) (delta_in delta) ≡ row_spelled header (first ∷ verb ∷ object ∷ delta ∷ []) (Ok form.Inc)
unfolding said_word row_of
inc_spelled header first verb object delta client is = go client ∙ ap (λ r. row_said form.Inc (onward r)) is
  where
    onward : Result Said Cause → Result Said Cause
    onward (Ok more) = said_words header (Fixed word.Inc ∷ Summand ∷ Delta ∷ []) (verb ∷ object ∷ delta ∷ []) more
    onward (Err why) = Err why

    behind : ℕ → Result ObjectId Cause → Result ℤ Cause → Result Said Cause
    behind n summand by = elim (with_said (λ o. record unsaid { client = n; summand = o }) summand) [ Ok more ↦ elim (with_said (λ d. record more { delta = d }) by) [ Ok all ↦ Ok all | Err why ↦ Err why ] | Err why ↦ Err why ]

    each : (n : ℕ) (summand : Result ObjectId Cause) (by : Result ℤ Cause) → inc_of (Ok n) summand by ≡ row_said form.Inc (behind n summand by)
    each n (Ok o) (Ok d) = refl
    each n (Ok o) (Err why) = refl
    each n (Err why) by = refl

    go : (client : Result ℕ Cause) → inc_of client (summand_in object) (delta_in delta) ≡ row_said form.Inc (onward (with_said (λ n. record unsaid { client = n }) client))
    go (Ok n) = each n (summand_in object) (delta_in delta)
    go (Err why) = refl

pub inc_words : (header : Option Header) (words : List (Bor (List ℕ))) (none : Bor (List ℕ)) (client : Result ℕ Cause) (summand : Result ObjectId Cause) (by : Result ℤ Cause) → length words ≡ 4 → with_said (λ n. record unsaid { client = n }) client ≡ said_word header Client (get_or words 0 none).now unsaid → summand ≡ summand_in (get_or words 2 none).now → by ≡ delta_in (get_or words 3 none).now → inc_of client summand by ≡ row_spelled header (texts_of words) (Ok form.Inc)
inc_words header (first ∷ verb ∷ object ∷ delta ∷ []) none client summand by four is to adds =
    ap (λ s. inc_of client s by) to ∙ (ap (inc_of client (summand_in object.now)) adds ∙ inc_spelled header first.now verb.now object.now delta.now client is)
inc_words header [] none client summand by four is to adds = absurd (omega arith)
inc_words header (first ∷ []) none client summand by four is to adds = absurd (omega arith)
inc_words header (first ∷ verb ∷ []) none client summand by four is to adds = absurd (omega arith)
inc_words header (first ∷ verb ∷ object ∷ []) none client summand by four is to adds = absurd (omega arith)
inc_words header (first ∷ verb ∷ object ∷ delta ∷ more ∷ words) none client summand by four is to adds = absurd (omega arith)

-- a read of a client, of an object, or why there is none
abbrev read_said : Result ℕ Cause → Option ObjectId → Result (Option Row) Cause
read_said (Ok client) (Some object) = Ok (Some (Does (step_of client (read_of object))))
read_said (Ok client) None = Err Name
read_said (Err why) object = Err why

read_spelled : (header : Option Header) (first verb object : List ℕ) (client : Result ℕ Cause) → with_said (λ n. record unsaid { client = n }) client ≡ said_word header Client first unsaid → read_said client (object_named object) ≡ row_spelled header (first ∷ verb ∷ object ∷ []) (Ok form.Read)
unfolding said_word row_of
read_spelled header first verb object client is = go client ∙ ap (λ r. row_said form.Read (onward r)) is
  where
    onward : Result Said Cause → Result Said Cause
    onward (Ok more) = said_words header (Fixed word.Read ∷ Object ∷ []) (verb ∷ object ∷ []) more
    onward (Err why) = Err why

    behind : ℕ → Option ObjectId → Result Said Cause
    behind n named = elim (with_object (λ o. record unsaid { client = n; object = o }) named) [ Ok all ↦ Ok all | Err why ↦ Err why ]

    each : (n : ℕ) (named : Option ObjectId) → read_said (Ok n) named ≡ row_said form.Read (behind n named)
    each n (Some o) = refl
    each n None = refl

    go : (client : Result ℕ Cause) → read_said client (object_named object) ≡ row_said form.Read (onward (with_said (λ n. record unsaid { client = n }) client))
    go (Ok n) = each n (object_named object)
    go (Err why) = refl

pub read_words : (header : Option Header) (words : List (Bor (List ℕ))) (none : Bor (List ℕ)) (client : Result ℕ Cause) (named : Option ObjectId) → length words ≡ 3 → with_said (λ n. record unsaid { client = n }) client ≡ said_word header Client (get_or words 0 none).now unsaid → named ≡ object_named (get_or words 2 none).now → read_said client named ≡ row_spelled header (texts_of words) (Ok form.Read)
read_words header (first ∷ verb ∷ object ∷ []) none client named three is of =
    ap (read_said client) of ∙ read_spelled header first.now verb.now object.now client is
read_words header [] none client named three is of = absurd (omega arith)
read_words header (first ∷ []) none client named three is of = absurd (omega arith)
read_words header (first ∷ verb ∷ []) none client named three is of = absurd (omega arith)
read_words header (first ∷ verb ∷ object ∷ more ∷ words) none client named three is of = absurd (omega arith)

-- two words are all of a line of a form that says no more than the client
pub bare_count : (one : Form) → is_bare one ≡ true → length (parts_of one) ≡ 2
bare_count one bare = ap length (bare_parts one bare).1
