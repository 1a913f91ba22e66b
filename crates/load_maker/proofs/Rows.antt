-- Each line of a made script is one of the grammar of scripts.
use Rattle.std.proofs.Common.{◌≡◌, ◌≤◌, ◌<◌, ◌-◌, ◌^◌, ℕ, zero, suc, true, false, Bool, List, [], ◌∷◌, ◌++◌, length, get_or, refl, ap, ◌∙◌, subst, append_assoc, arith, Ok, Err, Some, None, pos, lit≤, lit<}
use Rattle.std.specs.Prelude.{Option, Result, cond, codes, decimal, nat_lt, not, take, ◌==◌}
use Rattle.std.specs.List.{list_all}
use Rattle.std.proofs.lemmas.Bool.{and_parts, ne_eqb, false≢true}
use Rattle.std.proofs.lemmas.Bool.Decides.{nat_tests}
use Rattle.std.proofs.lemmas.Fmt.{length-decimal-le, decimal_nonempty}
use Rattle.std.proofs.lemmas.List.{length-append}
use Rattle.std.proofs.lemmas.List.Elements.{All-nil, All-cons}
use Rattle.script_core.specs.declared.limits.TheConstants.{MAX_LINE, MAX_LINES}
use Rattle.script_core.specs.declared.script.Header.{Header}
use Rattle.script_reader.specs.declared.fault.Cause.{Cause}
use Rattle.script_reader.specs.declared.fault.Cause.TheVariants as cause
use Rattle.script_reader.specs.declared.form.Form.{Form}
use Rattle.script_reader.specs.declared.form.Form.TheVariants as form
use Rattle.script_reader.specs.declared.form.Part.{Part}
use Rattle.script_reader.specs.declared.form.Part.TheVariants as part
use Rattle.script_reader.specs.declared.form.Word.{Word}
use Rattle.script_reader.specs.declared.form.Word.TheVariants as word
use Rattle.script_reader.specs.declared.said.Said.{Said}
use Rattle.script_reader.specs.declared.row.Row.TheVariants as row
use Rattle.script_core.specs.declared.steps.Step.TheVariants as step
use Rattle.script_core.specs.declared.steps.OperatorStep.TheVariants as operator
use Rattle.script_reader.specs.Words.{is_blank, is_plain, is_plain_text, is_comment, words_of, without_return}
use Rattle.script_reader.specs.Numbers.{is_digit, number_in, delta_in}
use Rattle.script_reader.specs.Names.{is_name_byte, object_named}
use Rattle.script_reader.specs.Shares.{summand_in}
use Rattle.script_reader.specs.Forms.{form_among, form_of, parts_of}
use Rattle.script_reader.specs.Said.{said_word, said_words, unsaid, with_said, with_object}
use Rattle.script_reader.specs.Rows.{row_of, row_in, row_in_text, row_in_words, row_spelled, row_said, is_of_its_kind}
use Rattle.script_reader.proofs.Blanks.{IsUnbroken, words_at, words_last, words_none}
use Rattle.load_maker.specs.Lines.{client_text}
use Rattle.script_core.specs.declared.steps.ClientStep.TheVariants as does
use Rattle.ids_core.specs.declared.object.ObjectId.{ObjectId}
use Rattle.dc_talk.specs.declared.calls.Change.TheVariants.{Inc, Write, Add, Put}
use Rattle.load_maker.specs.Rows.{made_header, client_does, total, side, note, cart, cart_map, word_of, key_of}
use Rattle.load_maker.proofs.Spelled.{all_append, digits_pass, decimal_digits, number_read, delta_read, name_read}

-- no byte of a plain line is a carriage return
no_return_at : (line : List ℕ) (i : ℕ) → list_all is_plain line ≡ true → get_or line i 0 ≡ 13 → ⊥
no_return_at [] i plain is = absurd (omega (arith, is))
no_return_at (b ∷ bs) zero plain is = let here : is_plain 13 ≡ true = subst (λ b. is_plain b ≡ true) is (and_parts _ _ plain).0 in false≢true here
no_return_at (b ∷ bs) (suc i) plain is = no_return_at bs i (and_parts _ _ plain).1 is

-- a line is read as the row of its form, where its words are these and they say this
row_by : (number : ℕ) (line : List ℕ) (texts : List (List ℕ)) (one : Form) (said : Said) → number ≤ MAX_LINES → list_all is_plain line ≡ true → length line ≤ MAX_LINE → words_of line ≡ texts → is_comment texts ≡ false → form_of texts ≡ Ok one → said_words (Some made_header) (parts_of one) texts unsaid ≡ Ok said → is_of_its_kind (row_of one said) ≡ true → row_in (Some made_header) number line ≡ Ok (Some (row_of one said))
unfolding row_in row_in_text
row_by number line texts one said early plain short words comment formed spoken kind =
    let few : nat_lt MAX_LINES number ≡ false = grind (arith, nat_tests) in
    let fits : nat_lt MAX_LINE (length line) ≡ false = grind (arith, nat_tests) in
    let whole : without_return line ≡ line = ap (λ b. cond b (take (length line - 1) line) line) (ne_eqb (get_or line (length line - 1) 0) 13 (no_return_at line (length line - 1) plain)) in
    ap (λ b. cond b (Err cause.Many) (cond (nat_lt MAX_LINE (length line)) (Err cause.Long) (row_in_text (Some made_header) (without_return line)))) few
    ∙ ap (λ b. cond b (Err cause.Long) (row_in_text (Some made_header) (without_return line))) fits
    ∙ ap (row_in_text (Some made_header)) whole
    ∙ ap (λ ws. cond (is_comment ws) (Ok None) (cond (is_plain_text line) (row_in_words (Some made_header) ws) (Err cause.Byte))) words
    ∙ ap (λ b. cond b (Ok None) (cond (is_plain_text line) (row_in_words (Some made_header) texts) (Err cause.Byte))) comment
    ∙ ap (λ b. cond b (row_in_words (Some made_header) texts) (Err cause.Byte)) plain
    ∙ ap (row_spelled (Some made_header) texts) formed
    ∙ ap (row_said one) spoken
    ∙ ap (λ b. cond b (Ok (Some (row_of one said))) (Err cause.Kind)) kind

-- ---- words

-- a digit is plain
pub plain_digit : (b : ℕ) → is_digit b ≡ true → is_plain b ≡ true
plain_digit b is = grind (arith, nat_tests)

-- it is no blank
unblank_digit : (b : ℕ) → is_digit b ≡ true → not (is_blank b) ≡ true
unblank_digit b is = grind (arith, nat_tests)

-- bytes without a blank
unbroken_from : (word : List ℕ) → list_all (λ b. not (is_blank b)) word ≡ true → IsUnbroken word
unbroken_from [] all = All-nil (λ b. is_blank b ≡ false)
unbroken_from (b ∷ bs) all = let parts = and_parts _ _ all in All-cons (λ b. is_blank b ≡ false) b bs (not_true (is_blank b) parts.0) (unbroken_from bs parts.1)
  where
    not_true : (b : Bool) → not b ≡ true → b ≡ false
    not_true true is = absurd (false≢true is)
    not_true false is = refl

-- a word and a blank in front of a text
word_cut : (word rest : List ℕ) → list_all (λ b. not (is_blank b)) word ≡ true → 0 < length word → words_of (word ++ 32 ∷ rest) ≡ word ∷ words_of rest
word_cut word rest plain some = words_at word 32 rest (unbroken_from word plain) some refl

-- a last word
word_end : (word : List ℕ) → list_all (λ b. not (is_blank b)) word ≡ true → 0 < length word → words_of word ≡ word ∷ []
word_end word plain some = words_last word (unbroken_from word plain) some ∙ ap (λ words. word ∷ words) words_none

-- ---- a client's line

-- what holds of all digits holds of a number in decimal
by_digits : (P : List ℕ → Type 0) → ((d : ℕ) (ds : List ℕ) → is_digit d ≡ true → list_all is_digit ds ≡ true → P (d ∷ ds)) → (n : ℕ) → n < 2 ^ 64 → P (decimal n)
by_digits P each n small = go (decimal n) (decimal_digits n small) (decimal_nonempty n small)
  where
    go : (ds : List ℕ) → list_all is_digit ds ≡ true → 0 < length ds → P ds
    go [] all some = absurd (omega arith)
    go (d ∷ ds) all some = let parts = and_parts _ _ all in each d ds parts.0 parts.1

-- the form of a client's line, where digits behind a `c` are no other word
abbrev IsForm : List (List ℕ) → Form → List ℕ → Type 0
IsForm texts one ds = form_of ((99 ∷ ds) ∷ texts) ≡ Ok one

form_begin : (d : ℕ) (ds : List ℕ) → is_digit d ≡ true → list_all is_digit ds ≡ true → IsForm (codes "begin" ∷ []) form.Begin (d ∷ ds)
unfolding form_among
form_begin d ds digit digits =
    let not_a : (d == 97) ≡ false = grind (arith, nat_tests) in
    let not_e : (d == 101) ≡ false = grind (arith, nat_tests) in
    let not_l : (d == 108) ≡ false = grind (arith, nat_tests) in
    let more : nat_lt 1 (length (99 ∷ d ∷ ds)) ≡ true = grind (arith, nat_tests) in
    simp (not_a, not_e, not_l, more, digit, digits)

form_commit : (d : ℕ) (ds : List ℕ) → is_digit d ≡ true → list_all is_digit ds ≡ true → IsForm (codes "commit" ∷ []) form.Commit (d ∷ ds)
unfolding form_among
form_commit d ds digit digits =
    let not_a : (d == 97) ≡ false = grind (arith, nat_tests) in
    let not_e : (d == 101) ≡ false = grind (arith, nat_tests) in
    let not_l : (d == 108) ≡ false = grind (arith, nat_tests) in
    let more : nat_lt 1 (length (99 ∷ d ∷ ds)) ≡ true = grind (arith, nat_tests) in
    simp (not_a, not_e, not_l, more, digit, digits)

form_push : (d : ℕ) (ds : List ℕ) → is_digit d ≡ true → list_all is_digit ds ≡ true → IsForm (codes "push" ∷ []) form.Push (d ∷ ds)
unfolding form_among
form_push d ds digit digits =
    let not_a : (d == 97) ≡ false = grind (arith, nat_tests) in
    let not_e : (d == 101) ≡ false = grind (arith, nat_tests) in
    let not_l : (d == 108) ≡ false = grind (arith, nat_tests) in
    let more : nat_lt 1 (length (99 ∷ d ∷ ds)) ≡ true = grind (arith, nat_tests) in
    simp (not_a, not_e, not_l, more, digit, digits)

form_flush : (d : ℕ) (ds : List ℕ) → is_digit d ≡ true → list_all is_digit ds ≡ true → IsForm (codes "flush" ∷ []) form.Flush (d ∷ ds)
unfolding form_among
form_flush d ds digit digits =
    let not_a : (d == 97) ≡ false = grind (arith, nat_tests) in
    let not_e : (d == 101) ≡ false = grind (arith, nat_tests) in
    let not_l : (d == 108) ≡ false = grind (arith, nat_tests) in
    let more : nat_lt 1 (length (99 ∷ d ∷ ds)) ≡ true = grind (arith, nat_tests) in
    simp (not_a, not_e, not_l, more, digit, digits)

form_refresh : (d : ℕ) (ds : List ℕ) → is_digit d ≡ true → list_all is_digit ds ≡ true → IsForm (codes "refresh" ∷ []) form.Refresh (d ∷ ds)
unfolding form_among
form_refresh d ds digit digits =
    let not_a : (d == 97) ≡ false = grind (arith, nat_tests) in
    let not_e : (d == 101) ≡ false = grind (arith, nat_tests) in
    let not_l : (d == 108) ≡ false = grind (arith, nat_tests) in
    let more : nat_lt 1 (length (99 ∷ d ∷ ds)) ≡ true = grind (arith, nat_tests) in
    simp (not_a, not_e, not_l, more, digit, digits)

form_connect : (d : ℕ) (ds last : List ℕ) → is_digit d ≡ true → list_all is_digit ds ≡ true → IsForm (codes "connect" ∷ last ∷ []) form.Connect (d ∷ ds)
unfolding form_among
form_connect d ds last digit digits =
    let more : nat_lt 1 (length (99 ∷ d ∷ ds)) ≡ true = grind (arith, nat_tests) in
    simp (more, digit, digits)

form_read : (d : ℕ) (ds last : List ℕ) → is_digit d ≡ true → list_all is_digit ds ≡ true → IsForm (codes "read" ∷ last ∷ []) form.Read (d ∷ ds)
unfolding form_among
form_read d ds last digit digits =
    let more : nat_lt 1 (length (99 ∷ d ∷ ds)) ≡ true = grind (arith, nat_tests) in
    simp (more, digit, digits)

form_inc : (d : ℕ) (ds object last : List ℕ) → is_digit d ≡ true → list_all is_digit ds ≡ true → IsForm (codes "inc" ∷ object ∷ last ∷ []) form.Inc (d ∷ ds)
unfolding form_among
form_inc d ds object last digit digits =
    let not_a : (d == 97) ≡ false = grind (arith, nat_tests) in
    let not_e : (d == 101) ≡ false = grind (arith, nat_tests) in
    let not_l : (d == 108) ≡ false = grind (arith, nat_tests) in
    let more : nat_lt 1 (length (99 ∷ d ∷ ds)) ≡ true = grind (arith, nat_tests) in
    simp (not_a, not_e, not_l, more, digit, digits)

form_set : (d : ℕ) (ds object last : List ℕ) → is_digit d ≡ true → list_all is_digit ds ≡ true → IsForm (codes "set" ∷ object ∷ last ∷ []) form.Set (d ∷ ds)
unfolding form_among
form_set d ds object last digit digits =
    let not_a : (d == 97) ≡ false = grind (arith, nat_tests) in
    let not_e : (d == 101) ≡ false = grind (arith, nat_tests) in
    let not_l : (d == 108) ≡ false = grind (arith, nat_tests) in
    let more : nat_lt 1 (length (99 ∷ d ∷ ds)) ≡ true = grind (arith, nat_tests) in
    simp (not_a, not_e, not_l, more, digit, digits)

form_add : (d : ℕ) (ds object last : List ℕ) → is_digit d ≡ true → list_all is_digit ds ≡ true → IsForm (codes "add" ∷ object ∷ last ∷ []) form.Add (d ∷ ds)
unfolding form_among
form_add d ds object last digit digits =
    let not_a : (d == 97) ≡ false = grind (arith, nat_tests) in
    let not_e : (d == 101) ≡ false = grind (arith, nat_tests) in
    let not_l : (d == 108) ≡ false = grind (arith, nat_tests) in
    let more : nat_lt 1 (length (99 ∷ d ∷ ds)) ≡ true = grind (arith, nat_tests) in
    simp (not_a, not_e, not_l, more, digit, digits)

form_put : (d : ℕ) (ds object last rest : List ℕ) → is_digit d ≡ true → list_all is_digit ds ≡ true → IsForm (codes "put" ∷ object ∷ last ∷ rest ∷ []) form.Put (d ∷ ds)
unfolding form_among
form_put d ds object last rest digit digits =
    let more : nat_lt 1 (length (99 ∷ d ∷ ds)) ≡ true = grind (arith, nat_tests) in
    simp (more, digit, digits)

-- a word that is said, and those behind it
said_next : (h : Option Header) (one : Part) (parts : List Part) (text : List ℕ) (texts : List (List ℕ)) (said more : Said) → said_word h one text said ≡ Ok more → said_words h (one ∷ parts) (text ∷ texts) said ≡ said_words h parts texts more
said_next h one parts text texts said more is = ap (λ (r : Result Said Cause). elim r [ Ok more ↦ said_words h parts texts more | Err why ↦ Err why ]) is

-- a client, and a fixed word behind it
said_client : (client : ℕ) (own : Word) (parts : List Part) (text : List ℕ) (texts : List (List ℕ)) → 1 ≤ client → client ≤ 100 → said_words (Some made_header) (part.Client ∷ part.Fixed own ∷ parts) (client_text client ∷ text ∷ texts) unsaid ≡ said_words (Some made_header) parts texts (record unsaid { client = client })
unfolding said_word
said_client client own parts text texts low high =
    said_next (Some made_header) part.Client (part.Fixed own ∷ parts) (client_text client) (text ∷ texts) unsaid (record unsaid { client = client })
    (ap (with_said (λ client. record unsaid { client = client })) (number_read 1 100 client low (omega arith) low high))
    ∙ said_next (Some made_header) (part.Fixed own) parts text texts (record unsaid { client = client }) (record unsaid { client = client }) refl

-- a centre
said_centre : (centre : ℕ) (parts : List Part) (texts : List (List ℕ)) (said : Said) → 1 ≤ centre → centre ≤ 3 → said_words (Some made_header) (part.Centre ∷ parts) (decimal centre ∷ texts) said ≡ said_words (Some made_header) parts texts (record said { centre = centre })
unfolding said_word
said_centre centre parts texts said low high =
    said_next (Some made_header) part.Centre parts (decimal centre) texts said (record said { centre = centre })
    (ap (with_said (λ centre. record said { centre = centre })) (number_read 1 3 centre low (omega arith) low high))

-- a client's line
client_line : (client number : ℕ) (rest : List ℕ) (texts : List (List ℕ)) (one : Form) (said : Said) → 1 ≤ client → client ≤ 100 → number ≤ MAX_LINES → list_all is_plain rest ≡ true → length rest ≤ 100 → words_of rest ≡ texts → ((d : ℕ) (ds : List ℕ) → is_digit d ≡ true → list_all is_digit ds ≡ true → IsForm texts one (d ∷ ds)) → said_words (Some made_header) (parts_of one) (client_text client ∷ texts) unsaid ≡ Ok said → is_of_its_kind (row_of one said) ≡ true → row_in (Some made_header) number (client_text client ++ 32 ∷ rest) ≡ Ok (Some (row_of one said))
client_line client number rest texts one said low high early plain short words formed spoken kind =
    let wide : client < 2 ^ 64 = omega arith in
    let digits = decimal_digits client wide in
    let few = length-decimal-le 3 client (omega arith) (omega arith) wide in
    row_by number (client_text client ++ 32 ∷ rest) (client_text client ∷ texts) one said early
    (all_append is_plain (client_text client) (32 ∷ rest) (digits_pass is_plain (decimal client) plain_digit digits) plain)
    (simp length-append (omega arith))
    (word_cut (client_text client) rest (digits_pass (λ b. not (is_blank b)) (decimal client) unblank_digit digits) (omega arith) ∙ ap (λ words. client_text client ∷ words) words)
    refl
    (by_digits (IsForm texts one) formed client wide)
    spoken
    kind

-- c1 connect 2
pub connect_read : (client centre number : ℕ) → 1 ≤ client → client ≤ 100 → 1 ≤ centre → centre ≤ 3 → number ≤ MAX_LINES → row_in (Some made_header) number (client_text client ++ (codes " connect " ++ decimal centre)) ≡ Ok (Some (client_does client (does.Connect centre)))
unfolding row_of
connect_read client centre number low high least most early =
    let wide : centre < 2 ^ 64 = omega arith in
    let digits = decimal_digits centre wide in
    let few = length-decimal-le 3 centre (omega arith) (omega arith) wide in
    client_line client number (codes "connect " ++ decimal centre) (codes "connect" ∷ decimal centre ∷ []) form.Connect (record unsaid { client = client; centre = centre }) low high early
    (digits_pass is_plain (decimal centre) plain_digit digits)
    (omega arith)
    (word_cut (codes "connect") (decimal centre) refl (lit< tt) ∙ ap (λ words. codes "connect" ∷ words) (word_end (decimal centre) (digits_pass (λ b. not (is_blank b)) (decimal centre) unblank_digit digits) (decimal_nonempty centre wide)))
    (λ d ds digit digits. form_connect d ds (decimal centre) digit digits)
    (said_client client word.Connect (part.Centre ∷ []) (codes "connect") (decimal centre ∷ []) low high ∙ said_centre centre [] [] (record unsaid { client = client }) least most)
    refl

-- ---- each line

pub begin_read : (client number : ℕ) → 1 ≤ client → client ≤ 100 → number ≤ MAX_LINES → row_in (Some made_header) number (client_text client ++ codes " begin") ≡ Ok (Some (client_does client does.Begin))
unfolding row_of words_of
begin_read client number low high early =
    client_line client number (codes "begin") (codes "begin" ∷ []) form.Begin (record unsaid { client = client }) low high early refl (lit≤ tt) refl form_begin
    (said_client client word.Begin [] (codes "begin") [] low high) refl

pub commit_read : (client number : ℕ) → 1 ≤ client → client ≤ 100 → number ≤ MAX_LINES → row_in (Some made_header) number (client_text client ++ codes " commit") ≡ Ok (Some (client_does client does.Commit))
unfolding row_of words_of
commit_read client number low high early =
    client_line client number (codes "commit") (codes "commit" ∷ []) form.Commit (record unsaid { client = client }) low high early refl (lit≤ tt) refl form_commit
    (said_client client word.Commit [] (codes "commit") [] low high) refl

pub push_read : (client number : ℕ) → 1 ≤ client → client ≤ 100 → number ≤ MAX_LINES → row_in (Some made_header) number (client_text client ++ codes " push") ≡ Ok (Some (client_does client does.Push))
unfolding row_of words_of
push_read client number low high early =
    client_line client number (codes "push") (codes "push" ∷ []) form.Push (record unsaid { client = client }) low high early refl (lit≤ tt) refl form_push
    (said_client client word.Push [] (codes "push") [] low high) refl

pub flush_read : (client number : ℕ) → 1 ≤ client → client ≤ 100 → number ≤ MAX_LINES → row_in (Some made_header) number (client_text client ++ codes " flush") ≡ Ok (Some (client_does client does.Flush))
unfolding row_of words_of
flush_read client number low high early =
    client_line client number (codes "flush") (codes "flush" ∷ []) form.Flush (record unsaid { client = client }) low high early refl (lit≤ tt) refl form_flush
    (said_client client word.Flush [] (codes "flush") [] low high) refl

pub refresh_read : (client number : ℕ) → 1 ≤ client → client ≤ 100 → number ≤ MAX_LINES → row_in (Some made_header) number (client_text client ++ codes " refresh") ≡ Ok (Some (client_does client does.Refresh))
unfolding row_of words_of
refresh_read client number low high early =
    client_line client number (codes "refresh") (codes "refresh" ∷ []) form.Refresh (record unsaid { client = client }) low high early refl (lit≤ tt) refl form_refresh
    (said_client client word.Refresh [] (codes "refresh") [] low high) refl

pub centres_line : (number : ℕ) → number ≤ MAX_LINES → row_in (Some made_header) number (codes "centres 3 k 2") ≡ Ok (Some (row.Centres 3 2))
unfolding form_among said_word row_of words_of number_in
centres_line number early = row_by number (codes "centres 3 k 2") (codes "centres" ∷ codes "3" ∷ codes "k" ∷ codes "2" ∷ []) form.Centres (record unsaid { n = 3; k = 2 }) early refl (lit≤ tt) refl refl refl refl refl

pub threads_line : (number : ℕ) → number ≤ MAX_LINES → row_in (Some made_header) number (codes "threads 4") ≡ Ok (Some (row.Threads 4))
unfolding form_among said_word row_of words_of number_in
threads_line number early = row_by number (codes "threads 4") (codes "threads" ∷ codes "4" ∷ []) form.Threads (record unsaid { count = 4 }) early refl (lit≤ tt) refl refl refl refl refl

pub rounds_line : (number : ℕ) → number ≤ MAX_LINES → row_in (Some made_header) number (codes "rounds 32") ≡ Ok (Some (row.Rounds 32))
unfolding form_among said_word row_of words_of number_in
rounds_line number early = row_by number (codes "rounds 32") (codes "rounds" ∷ codes "32" ∷ []) form.Rounds (record unsaid { count = 32 }) early refl (lit≤ tt) refl refl refl refl refl

pub phase_line : (number : ℕ) → number ≤ MAX_LINES → row_in (Some made_header) number (codes "phase") ≡ Ok (Some row.Phase)
unfolding form_among said_word row_of words_of number_in
phase_line number early = row_by number (codes "phase") (codes "phase" ∷ []) form.Phase unsaid early refl (lit≤ tt) refl refl refl refl refl

pub end_line : (number : ℕ) → number ≤ MAX_LINES → row_in (Some made_header) number (codes "end") ≡ Ok (Some row.End)
unfolding form_among said_word row_of words_of number_in
end_line number early = row_by number (codes "end") (codes "end" ∷ []) form.End unsaid early refl (lit≤ tt) refl refl refl refl refl

pub settle_line : (number : ℕ) → number ≤ MAX_LINES → row_in (Some made_header) number (codes "settle") ≡ Ok (Some (row.Does (step.Operator operator.Settle)))
unfolding form_among said_word row_of words_of number_in
settle_line number early = row_by number (codes "settle") (codes "settle" ∷ []) form.Settle unsaid early refl (lit≤ tt) refl refl refl refl refl

-- a word that is fixed, and a number
numbered_line : (n number : ℕ) (own : List ℕ) (one : Form) (said : Said) → n < 1000000 → number ≤ MAX_LINES → list_all is_plain own ≡ true → list_all (λ b. not (is_blank b)) own ≡ true → length own ≤ 20 → 0 < length own → is_comment (own ∷ []) ≡ false → form_of (own ∷ decimal n ∷ []) ≡ Ok one → said_words (Some made_header) (parts_of one) (own ∷ decimal n ∷ []) unsaid ≡ Ok said → is_of_its_kind (row_of one said) ≡ true → row_in (Some made_header) number (own ++ 32 ∷ decimal n) ≡ Ok (Some (row_of one said))
numbered_line n number own one said small early plain whole short some comment formed spoken kind =
    let wide : n < 2 ^ 64 = omega arith in
    let digits = decimal_digits n wide in
    let few = length-decimal-le 6 n (omega arith) (omega arith) wide in
    row_by number (own ++ 32 ∷ decimal n) (own ∷ decimal n ∷ []) one said early
    (all_append is_plain own (32 ∷ decimal n) plain (digits_pass is_plain (decimal n) plain_digit digits))
    (simp length-append (omega arith))
    (word_cut own (decimal n) whole some ∙ ap (λ words. own ∷ words) (word_end (decimal n) (digits_pass (λ b. not (is_blank b)) (decimal n) unblank_digit digits) (decimal_nonempty n wide)))
    comment formed spoken kind

pub down_read : (centre number : ℕ) → 1 ≤ centre → centre ≤ 3 → number ≤ MAX_LINES → row_in (Some made_header) number (codes "down " ++ decimal centre) ≡ Ok (Some (row.Does (step.Operator (operator.Down centre))))
unfolding form_among said_word row_of
down_read centre number least most early =
    numbered_line centre number (codes "down") form.Down (record unsaid { centre = centre }) (omega arith) early refl refl (lit≤ tt) (lit< tt) refl refl
    (said_next (Some made_header) (part.Fixed word.Down) (part.Centre ∷ []) (codes "down") (decimal centre ∷ []) unsaid unsaid refl ∙ said_centre centre [] [] unsaid least most)
    refl

pub prune_read : (centre number : ℕ) → 1 ≤ centre → centre ≤ 3 → number ≤ MAX_LINES → row_in (Some made_header) number (codes "prune " ++ decimal centre) ≡ Ok (Some (row.Does (step.Operator (operator.Prune centre))))
unfolding form_among said_word row_of
prune_read centre number least most early =
    numbered_line centre number (codes "prune") form.Prune (record unsaid { centre = centre }) (omega arith) early refl refl (lit≤ tt) (lit< tt) refl refl
    (said_next (Some made_header) (part.Fixed word.Prune) (part.Centre ∷ []) (codes "prune") (decimal centre ∷ []) unsaid unsaid refl ∙ said_centre centre [] [] unsaid least most)
    refl

pub up_read : (centre number : ℕ) → 1 ≤ centre → centre ≤ 3 → number ≤ MAX_LINES → row_in (Some made_header) number (codes "up " ++ decimal centre) ≡ Ok (Some (row.Does (step.Operator (operator.Up centre))))
unfolding form_among said_word row_of
up_read centre number least most early =
    numbered_line centre number (codes "up") form.Up (record unsaid { centre = centre }) (omega arith) early refl refl (lit≤ tt) (lit< tt) refl refl
    (said_next (Some made_header) (part.Fixed word.Up) (part.Centre ∷ []) (codes "up") (decimal centre ∷ []) unsaid unsaid refl ∙ said_centre centre [] [] unsaid least most)
    refl

pub clients_read : (clients number : ℕ) → 1 ≤ clients → clients ≤ 1024 → number ≤ MAX_LINES → row_in (Some made_header) number (codes "clients " ++ decimal clients) ≡ Ok (Some (row.Clients clients))
unfolding form_among said_word row_of
clients_read clients number low high early =
    numbered_line clients number (codes "clients") form.Clients (record unsaid { count = clients }) (omega arith) early refl refl (lit≤ tt) (lit< tt) refl refl
    (said_next (Some made_header) (part.Fixed word.Clients) (part.Count 1 1024 ∷ []) (codes "clients") (decimal clients ∷ []) unsaid unsaid refl
    ∙ said_next (Some made_header) (part.Count 1 1024) [] (decimal clients) [] unsaid (record unsaid { count = clients }) (ap (with_said (λ count. record unsaid { count = count })) (number_read 1 1024 clients low (omega arith) low high)))
    refl

-- ---- a client's line about an object

-- an object, where a word is one
said_object : (text : List ℕ) (object : ObjectId) (parts : List Part) (texts : List (List ℕ)) (said : Said) → object_named text ≡ Some object → said_words (Some made_header) (part.Object ∷ parts) (text ∷ texts) said ≡ said_words (Some made_header) parts texts (record said { object = object })
unfolding said_word
said_object text object parts texts said is = said_next (Some made_header) part.Object parts text texts said (record said { object = object }) (ap (with_object (λ object. record said { object = object })) is)

-- one to which may be added
said_summand : (text : List ℕ) (object : ObjectId) (parts : List Part) (texts : List (List ℕ)) (said : Said) → summand_in text ≡ Ok object → said_words (Some made_header) (part.Summand ∷ parts) (text ∷ texts) said ≡ said_words (Some made_header) parts texts (record said { summand = object })
unfolding said_word
said_summand text object parts texts said is = said_next (Some made_header) part.Summand parts text texts said (record said { summand = object }) (ap (with_said (λ object. record said { summand = object })) is)

-- a delta
said_delta : (n : ℕ) (parts : List Part) (texts : List (List ℕ)) (said : Said) → 1 ≤ n → n < 1000000 → said_words (Some made_header) (part.Delta ∷ parts) (decimal n ∷ texts) said ≡ said_words (Some made_header) parts texts (record said { delta = pos n })
unfolding said_word
said_delta n parts texts said low small = said_next (Some made_header) part.Delta parts (decimal n) texts said (record said { delta = pos n }) (ap (with_said (λ delta. record said { delta = delta })) (delta_read n low small))

-- a word of a letter and a number
said_name : (letter n : ℕ) (parts : List Part) (texts : List (List ℕ)) (said : Said) → is_name_byte letter ≡ true → n < 1000000 → said_words (Some made_header) (part.Name ∷ parts) ((letter ∷ decimal n) ∷ texts) said ≡ said_words (Some made_header) parts texts (record said { word = letter ∷ decimal n })
unfolding said_word
said_name letter n parts texts said named small = said_next (Some made_header) part.Name parts (letter ∷ decimal n) texts said (record said { word = letter ∷ decimal n }) (ap (λ b. cond b (Ok (record said { word = letter ∷ decimal n })) (Err cause.Name)) (name_read letter n named small))

-- so is a key
said_key : (letter n : ℕ) (parts : List Part) (texts : List (List ℕ)) (said : Said) → is_name_byte letter ≡ true → n < 1000000 → said_words (Some made_header) (part.Key ∷ parts) ((letter ∷ decimal n) ∷ texts) said ≡ said_words (Some made_header) parts texts (record said { key = letter ∷ decimal n })
unfolding said_word
said_key letter n parts texts said named small = said_next (Some made_header) part.Key parts (letter ∷ decimal n) texts said (record said { key = letter ∷ decimal n }) (ap (λ b. cond b (Ok (record said { key = letter ∷ decimal n })) (Err cause.Name)) (name_read letter n named small))

-- two fixed words and one that ends in a number
ended_words : (first second front : List ℕ) (n : ℕ) → n < 2 ^ 64 → list_all (λ b. not (is_blank b)) first ≡ true → 0 < length first → list_all (λ b. not (is_blank b)) second ≡ true → 0 < length second → list_all (λ b. not (is_blank b)) front ≡ true → words_of (first ++ 32 ∷ (second ++ 32 ∷ (front ++ decimal n))) ≡ first ∷ second ∷ (front ++ decimal n) ∷ []
ended_words first second front n wide whole some whole2 some2 whole3 =
    let digits = decimal_digits n wide in
    let last : 0 < length (front ++ decimal n) = simp length-append (omega (arith, decimal_nonempty n wide)) in
    word_cut first (second ++ 32 ∷ (front ++ decimal n)) whole some
    ∙ ap (λ words. first ∷ words) (word_cut second (front ++ decimal n) whole2 some2
    ∙ ap (λ words. second ∷ words) (word_end (front ++ decimal n) (all_append (λ b. not (is_blank b)) front (decimal n) whole3 (digits_pass (λ b. not (is_blank b)) (decimal n) unblank_digit digits)) last))

pub total_read : (client number : ℕ) → 1 ≤ client → client ≤ 100 → number ≤ MAX_LINES → row_in (Some made_header) number (client_text client ++ (codes " inc c.total " ++ decimal client)) ≡ Ok (Some (client_does client (does.Change total (Inc (pos client)))))
unfolding row_of object_named
total_read client number low high early =
    let wide : client < 2 ^ 64 = omega arith in
    let few = length-decimal-le 3 client (omega arith) (omega arith) wide in
    client_line client number (codes "inc c.total " ++ decimal client) (codes "inc" ∷ codes "c.total" ∷ decimal client ∷ []) form.Inc (record unsaid { client = client; delta = pos client; summand = total }) low high early
    (digits_pass is_plain (decimal client) plain_digit (decimal_digits client wide))
    (omega arith)
    (ended_words (codes "inc") (codes "c.total") [] client wide refl (lit< tt) refl (lit< tt) refl)
    (λ d ds digit digits. form_inc d ds (codes "c.total") (decimal client) digit digits)
    (said_client client word.Inc (part.Summand ∷ part.Delta ∷ []) (codes "inc") (codes "c.total" ∷ decimal client ∷ []) low high
    ∙ said_summand (codes "c.total") total (part.Delta ∷ []) (decimal client ∷ []) (record unsaid { client = client }) refl
    ∙ said_delta client [] [] (record unsaid { client = client; summand = total }) low (omega arith))
    refl

pub side_read : (client number : ℕ) → 1 ≤ client → client ≤ 100 → number ≤ MAX_LINES → row_in (Some made_header) number (client_text client ++ codes " inc c.side 1") ≡ Ok (Some (client_does client (does.Change side (Inc (pos 1)))))
unfolding row_of object_named words_of said_word delta_in number_in
side_read client number low high early =
    client_line client number (codes "inc c.side 1") (codes "inc" ∷ codes "c.side" ∷ codes "1" ∷ []) form.Inc (record unsaid { client = client; delta = pos 1; summand = side }) low high early refl (lit≤ tt) refl
    (λ d ds digit digits. form_inc d ds (codes "c.side") (codes "1") digit digits)
    (said_client client word.Inc (part.Summand ∷ part.Delta ∷ []) (codes "inc") (codes "c.side" ∷ codes "1" ∷ []) low high)
    refl

pub total_told : (client number : ℕ) → 1 ≤ client → client ≤ 100 → number ≤ MAX_LINES → row_in (Some made_header) number (client_text client ++ codes " read c.total") ≡ Ok (Some (client_does client (does.Read total)))
unfolding row_of object_named words_of said_word
total_told client number low high early =
    client_line client number (codes "read c.total") (codes "read" ∷ codes "c.total" ∷ []) form.Read (record unsaid { client = client; object = total }) low high early refl (lit≤ tt) refl
    (λ d ds digit digits. form_read d ds (codes "c.total") digit digits)
    (said_client client word.Read (part.Object ∷ []) (codes "read") (codes "c.total" ∷ []) low high)
    refl

pub note_read : (client number n : ℕ) → 1 ≤ client → client ≤ 100 → n < 50 → number ≤ MAX_LINES → row_in (Some made_header) number (client_text client ++ (codes " set r.note w" ++ decimal n)) ≡ Ok (Some (client_does client (does.Change note (Write (word_of n)))))
unfolding row_of object_named
note_read client number n low high small early =
    let wide : n < 2 ^ 64 = omega arith in
    let few = length-decimal-le 3 n (omega arith) (omega arith) wide in
    client_line client number (codes "set r.note w" ++ decimal n) (codes "set" ∷ codes "r.note" ∷ word_of n ∷ []) form.Set (record unsaid { client = client; object = note; word = word_of n }) low high early
    (digits_pass is_plain (decimal n) plain_digit (decimal_digits n wide))
    (omega arith)
    (ended_words (codes "set") (codes "r.note") (codes "w") n wide refl (lit< tt) refl (lit< tt) refl)
    (λ d ds digit digits. form_set d ds (codes "r.note") (word_of n) digit digits)
    (said_client client word.Set (part.Object ∷ part.Name ∷ []) (codes "set") (codes "r.note" ∷ word_of n ∷ []) low high
    ∙ said_object (codes "r.note") note (part.Name ∷ []) (word_of n ∷ []) (record unsaid { client = client }) refl
    ∙ said_name 119 n [] [] (record unsaid { client = client; object = note }) refl (omega arith))
    refl

pub cart_read : (client number n : ℕ) → 1 ≤ client → client ≤ 100 → n < 50 → number ≤ MAX_LINES → row_in (Some made_header) number (client_text client ++ (codes " add s.cart w" ++ decimal n)) ≡ Ok (Some (client_does client (does.Change cart (Add (word_of n)))))
unfolding row_of object_named
cart_read client number n low high small early =
    let wide : n < 2 ^ 64 = omega arith in
    let few = length-decimal-le 3 n (omega arith) (omega arith) wide in
    client_line client number (codes "add s.cart w" ++ decimal n) (codes "add" ∷ codes "s.cart" ∷ word_of n ∷ []) form.Add (record unsaid { client = client; object = cart; word = word_of n }) low high early
    (digits_pass is_plain (decimal n) plain_digit (decimal_digits n wide))
    (omega arith)
    (ended_words (codes "add") (codes "s.cart") (codes "w") n wide refl (lit< tt) refl (lit< tt) refl)
    (λ d ds digit digits. form_add d ds (codes "s.cart") (word_of n) digit digits)
    (said_client client word.Add (part.Object ∷ part.Name ∷ []) (codes "add") (codes "s.cart" ∷ word_of n ∷ []) low high
    ∙ said_object (codes "s.cart") cart (part.Name ∷ []) (word_of n ∷ []) (record unsaid { client = client }) refl
    ∙ said_name 119 n [] [] (record unsaid { client = client; object = cart }) refl (omega arith))
    refl

pub put_read : (client number key n : ℕ) → 1 ≤ client → client ≤ 100 → key < 50 → n < 50 → number ≤ MAX_LINES → row_in (Some made_header) number (client_text client ++ (codes " put m.cart k" ++ decimal key) ++ (codes " w" ++ decimal n)) ≡ Ok (Some (client_does client (does.Change cart_map (Put (key_of key) (word_of n)))))
unfolding row_of object_named
put_read client number key n low high few_keys small early =
    let wide : n < 2 ^ 64 = omega arith in
    let wide_key : key < 2 ^ 64 = omega arith in
    let digits = decimal_digits n wide in
    let key_digits = decimal_digits key wide_key in
    let few = length-decimal-le 3 n (omega arith) (omega arith) wide in
    let few_key = length-decimal-le 3 key (omega arith) (omega arith) wide_key in
    let unblank = λ (b : ℕ). not (is_blank b) in
    let rest : List ℕ = (codes "put m.cart k" ++ decimal key) ++ (codes " w" ++ decimal n) in
    let texts : List (List ℕ) = codes "put" ∷ codes "m.cart" ∷ key_of key ∷ word_of n ∷ [] in
    ap (row_in (Some made_header) number) (append_assoc (client_text client) (codes " put m.cart k" ++ decimal key) (codes " w" ++ decimal n))
    ∙ client_line client number rest texts form.Put (record unsaid { client = client; object = cart_map; key = key_of key; word = word_of n }) low high early
    (all_append is_plain (codes "put m.cart k" ++ decimal key) (codes " w" ++ decimal n) (digits_pass is_plain (decimal key) plain_digit key_digits) (digits_pass is_plain (decimal n) plain_digit digits))
    (simp length-append (omega arith))
    (word_cut (codes "put") (codes "m.cart" ++ 32 ∷ (key_of key ++ 32 ∷ word_of n)) refl (lit< tt)
    ∙ ap (λ words. codes "put" ∷ words) (word_cut (codes "m.cart") (key_of key ++ 32 ∷ word_of n) refl (lit< tt)
    ∙ ap (λ words. codes "m.cart" ∷ words) (word_cut (key_of key) (word_of n) (digits_pass unblank (decimal key) unblank_digit key_digits) (omega arith)
    ∙ ap (λ words. key_of key ∷ words) (word_end (word_of n) (digits_pass unblank (decimal n) unblank_digit digits) (omega arith)))))
    (λ d ds digit digits. form_put d ds (codes "m.cart") (key_of key) (word_of n) digit digits)
    (said_client client word.Put (part.Object ∷ part.Key ∷ part.Name ∷ []) (codes "put") (codes "m.cart" ∷ key_of key ∷ word_of n ∷ []) low high
    ∙ said_object (codes "m.cart") cart_map (part.Key ∷ part.Name ∷ []) (key_of key ∷ word_of n ∷ []) (record unsaid { client = client }) refl
    ∙ said_key 107 key (part.Name ∷ []) (word_of n ∷ []) (record unsaid { client = client; object = cart_map }) refl (omega arith)
    ∙ said_name 119 n [] [] (record unsaid { client = client; object = cart_map; key = key_of key }) refl (omega arith))
    refl
