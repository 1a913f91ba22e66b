-- All lines of a made script are lines of the grammar of scripts, and they are its lines.
use Rattle.std.proofs.Common.{◌≡◌, ◌≢◌, ◌≤◌, ◌<◌, ◌+◌, ◌^◌, ℕ, zero, suc, true, List, [], ◌∷◌, ◌++◌, map, refl, sym, ap, ◌∙◌, subst, arith, append_assoc, lit<, lit≤}
use Rattle.std.specs.Prelude.{All, codes, decimal, flat_map}
use Rattle.std.specs.List.{AllByRecursion, list_all, range_with_len}
use Rattle.std.proofs.lemmas.Bool.{and_parts, false≢true}
use Rattle.std.proofs.lemmas.List.Elements.{All-nil, All-cons}
use Rattle.script_core.specs.Lines.{lines_of}
use Rattle.script_core.proofs.Cuts.{first_line}
use Rattle.script_reader.specs.Words.{is_plain}
use Rattle.load_maker.specs.declared.line.Line.{Line}
use Rattle.load_maker.specs.declared.line.Line.TheVariants.{Centres, Clients, Threads, Rounds, Phase, End, Settle, Down, Prune, Up, Connect, Begin, IncTotal, IncSide, SetNote, AddCart, PutCart, ReadTotal, Commit, Push, Flush, Refresh}
use Rattle.load_maker.specs.Draws.{drawn, next_state}
use Rattle.load_maker.specs.Lines.{client_text, line_text, lines_text}
use Rattle.load_maker.specs.Made.{Block, lines_made, fixed, outage, connect, change_of, transaction, transactions, client_load, within, phase, phases, flush, flushes, last_read, last_reads, ending, settings, body, blocks, made_lines, made_script}
use Rattle.load_maker.specs.Rows.{IsRead}
use Rattle.load_maker.proofs.Spelled.{all_append, digits_pass, decimal_digits}
use Rattle.load_maker.proofs.Rows as rows

-- one of a hundred clients
abbrev IsOne : ℕ → Type 0
IsOne client = (1 ≤ client) × (client ≤ 100)

-- one of three centres
abbrev IsThere : ℕ → Type 0
IsThere centre = (1 ≤ centre) × (centre ≤ 3)

-- a line is none of the settings, and its numbers are in range
abbrev pub IsInRange : Line → Type 0
IsInRange Centres = ⊥
IsInRange (Clients clients) = ⊥
IsInRange Threads = ⊥
IsInRange Rounds = ⊥
IsInRange (Down centre) = IsThere centre
IsInRange (Prune centre) = IsThere centre
IsInRange (Up centre) = IsThere centre
IsInRange (Connect client centre) = IsOne client × IsThere centre
IsInRange (Begin client) = IsOne client
IsInRange (IncTotal client) = IsOne client
IsInRange (IncSide client) = IsOne client
IsInRange (SetNote client word) = IsOne client × (word < 50)
IsInRange (AddCart client word) = IsOne client × (word < 50)
IsInRange (PutCart client key word) = IsOne client × (key < 50) × (word < 50)
IsInRange (ReadTotal client) = IsOne client
IsInRange (Commit client) = IsOne client
IsInRange (Push client) = IsOne client
IsInRange (Flush client) = IsOne client
IsInRange (Refresh client) = IsOne client
IsInRange _ = Unit {0}

-- a line is such a step
abbrev pub IsStep : Line → Type 0
IsStep Phase = ⊥
IsStep End = ⊥
IsStep line = IsInRange line

-- and one that may stand in a phase
abbrev pub IsInside : Line → Type 0
IsInside Settle = ⊥
IsInside line = IsStep line

pub step_ranged : (line : Line) → IsStep line → IsInRange line
step_ranged Phase is = absurd is
step_ranged End is = absurd is
step_ranged line is = is

inside_step : (line : Line) → IsInside line → IsStep line
inside_step Settle is = absurd is
inside_step line is = is

pub inside_ranged : (line : Line) → IsInside line → IsInRange line
inside_ranged line is = step_ranged line (inside_step line is)

-- such a line is read
pub line_read : (line : Line) → IsInRange line → IsRead line
line_read Centres h number early = absurd h
line_read (Clients clients) h number early = absurd h
line_read Threads h number early = absurd h
line_read Rounds h number early = absurd h
line_read Phase h number early = rows.phase_line number early
line_read End h number early = rows.end_line number early
line_read Settle h number early = rows.settle_line number early
line_read (Down centre) h number early = rows.down_read centre number h.0 h.1 early
line_read (Prune centre) h number early = rows.prune_read centre number h.0 h.1 early
line_read (Up centre) h number early = rows.up_read centre number h.0 h.1 early
line_read (Connect client centre) h number early = rows.connect_read client centre number h.0.0 h.0.1 h.1.0 h.1.1 early
line_read (Begin client) h number early = rows.begin_read client number h.0 h.1 early
line_read (IncTotal client) h number early = rows.total_read client number h.0 h.1 early
line_read (IncSide client) h number early = rows.side_read client number h.0 h.1 early
line_read (SetNote client word) h number early = rows.note_read client number word h.0.0 h.0.1 h.1 early
line_read (AddCart client word) h number early = rows.cart_read client number word h.0.0 h.0.1 h.1 early
line_read (PutCart client key word) h number early = rows.put_read client number key word h.0.0 h.0.1 h.1 h.2 early
line_read (ReadTotal client) h number early = rows.total_told client number h.0 h.1 early
line_read (Commit client) h number early = rows.commit_read client number h.0 h.1 early
line_read (Push client) h number early = rows.push_read client number h.0 h.1 early
line_read (Flush client) h number early = rows.flush_read client number h.0 h.1 early
line_read (Refresh client) h number early = rows.refresh_read client number h.0 h.1 early

-- a number is plain text
plain_number : (n : ℕ) → n < 2 ^ 64 → list_all is_plain (decimal n) ≡ true
plain_number n wide = digits_pass is_plain (decimal n) rows.plain_digit (decimal_digits n wide)

-- so is what a client is called, and what stands behind it
plain_client : (client : ℕ) (rest : List ℕ) → IsOne client → list_all is_plain rest ≡ true → list_all is_plain (client_text client ++ rest) ≡ true
plain_client client rest one plain = all_append is_plain (client_text client) rest (plain_number client (omega (arith, one.1))) plain

-- a line is plain text
line_plain : (line : Line) → IsInRange line → list_all is_plain (line_text line) ≡ true
line_plain Centres h = absurd h
line_plain (Clients clients) h = absurd h
line_plain Threads h = absurd h
line_plain Rounds h = absurd h
line_plain Phase h = refl
line_plain End h = refl
line_plain Settle h = refl
line_plain (Down centre) h = plain_number centre (omega (arith, h.1))
line_plain (Prune centre) h = plain_number centre (omega (arith, h.1))
line_plain (Up centre) h = plain_number centre (omega (arith, h.1))
line_plain (Connect client centre) h = plain_client client (codes " connect " ++ decimal centre) h.0 (plain_number centre (omega (arith, h.1.1)))
line_plain (Begin client) h = plain_client client (codes " begin") h refl
line_plain (IncTotal client) h = plain_client client (codes " inc c.total " ++ decimal client) h (plain_number client (omega (arith, h.1)))
line_plain (IncSide client) h = plain_client client (codes " inc c.side 1") h refl
line_plain (SetNote client word) h = plain_client client (codes " set r.note w" ++ decimal word) h.0 (plain_number word (omega (arith, h.1)))
line_plain (AddCart client word) h = plain_client client (codes " add s.cart w" ++ decimal word) h.0 (plain_number word (omega (arith, h.1)))
line_plain (PutCart client key word) h =
    all_append is_plain (client_text client ++ (codes " put m.cart k" ++ decimal key)) (codes " w" ++ decimal word)
    (plain_client client (codes " put m.cart k" ++ decimal key) h.0 (plain_number key (omega (arith, h.1))))
    (plain_number word (omega (arith, h.2)))
line_plain (ReadTotal client) h = plain_client client (codes " read c.total") h refl
line_plain (Commit client) h = plain_client client (codes " commit") h refl
line_plain (Push client) h = plain_client client (codes " push") h refl
line_plain (Flush client) h = plain_client client (codes " flush") h refl
line_plain (Refresh client) h = plain_client client (codes " refresh") h refl

-- ---- the lines of blocks

-- what holds of each element of two lists holds of each of both together
all_both : {X : Type 0} (P : X → Type 0) (xs ys : List X) → AllByRecursion P xs → AllByRecursion P ys → AllByRecursion P (xs ++ ys)
all_both P [] ys front rest = rest
all_both P (x ∷ xs) ys front rest = (front.0, all_both P xs ys front.1 rest)

-- lines are in range
abbrev pub AreInRange : List Line → Type 0
AreInRange lines = AllByRecursion IsInRange lines

-- something holds of the lines of a block, whatever is drawn
abbrev IsGood : (Line → Type 0) → Block → Type 0
IsGood P block = (state : ℕ) → AllByRecursion P (block state).0

-- and of those of blocks
abbrev pub AreGood : (Line → Type 0) → List Block → Type 0
AreGood P made = AllByRecursion (IsGood P) made

pub good_lines : (P : Line → Type 0) (made : List Block) (state : ℕ) → AreGood P made → AllByRecursion P (lines_made made state)
good_lines P [] state good = tt
good_lines P (block ∷ made) state good = all_both P (block state).0 (lines_made made (block state).1) (good.0 state) (good_lines P made (block state).1 good.1)

-- and of those of blocks over a range of numbers
good_joined : (P : Line → Type 0) (f : ℕ → List Block) (first count : ℕ) → ((k : ℕ) → first ≤ k → k < first + count → AreGood P (f k)) → AreGood P (flat_map f (range_with_len first count))
good_joined P f first zero each = tt
good_joined P f first (suc count) each = all_both (IsGood P) (f first) (flat_map f (range_with_len (first + 1) count)) (each first (omega arith) (omega arith)) (good_joined P f (first + 1) count (λ k low high. each k (omega arith) (omega arith)))

-- what follows from it holds too
also_lines : (P Q : Line → Type 0) (lines : List Line) → ((line : Line) → P line → Q line) → AllByRecursion P lines → AllByRecursion Q lines
also_lines P Q [] each all = tt
also_lines P Q (line ∷ lines) each all = (each line all.0, also_lines P Q lines each all.1)

also_good : (P Q : Line → Type 0) (made : List Block) → ((line : Line) → P line → Q line) → AreGood P made → AreGood Q made
also_good P Q [] each good = tt
also_good P Q (block ∷ made) each good = (λ state. also_lines P Q (block state).0 each (good.0 state), also_good P Q made each good.1)

-- what is drawn is below its bound
below : (bound state : ℕ) → 0 < bound → drawn bound state < bound
below bound state some = omega arith

-- a centre that is drawn is there
centre_there : (state : ℕ) → IsThere (1 + drawn 3 state)
centre_there state = let high = below 3 state (lit< tt) in (omega arith, omega (arith, high))

connect_good : (client : ℕ) → IsOne client → IsGood IsInside (connect client)
connect_good client one state = ((one, centre_there state), tt)

outage_good : IsGood IsInside outage
outage_good state = (centre_there state, ((lit≤ tt, lit≤ tt), ((lit≤ tt, lit≤ tt), ((lit≤ tt, lit≤ tt), (centre_there state, tt)))))

change_of_good : (client kind state : ℕ) → IsOne client → AllByRecursion IsInside (change_of client kind state).0
change_of_good client zero state one = (one, tt)
change_of_good client (suc zero) state one = ((one, below 50 state (lit< tt)), tt)
change_of_good client (suc (suc zero)) state one = ((one, below 50 state (lit< tt)), tt)
change_of_good client (suc (suc (suc kind))) state one = ((one, below 50 state (lit< tt), below 50 (next_state state) (lit< tt)), tt)

transaction_good : (client : ℕ) → IsOne client → AreGood IsInside (transaction client)
transaction_good client one = (λ state. (one, (one, tt)), (λ state. change_of_good client (drawn 4 state) (next_state state) one, (λ state. (one, (one, (one, tt))), tt)))

load_good : (turns client : ℕ) → IsOne client → AreGood IsInside (client_load turns client)
load_good turns client one = (connect_good client one, all_both (IsGood IsInside) (transactions client turns) (fixed (Refresh client ∷ []) ∷ []) (good_joined IsInside (λ turn. transaction client) 1 turns (λ k low high. transaction_good client one)) (λ state. (one, tt), tt))

-- what is done in a phase may stand there
pub within_good : (turns clients : ℕ) → clients ≤ 100 → AreGood IsInside (within turns clients)
within_good turns clients few = (outage_good, good_joined IsInside (client_load turns) 1 clients (λ k low high. load_good turns k (low, omega arith)))

phase_good : (turns clients : ℕ) → clients ≤ 100 → AreGood IsInRange (phase turns clients)
phase_good turns clients few = (λ state. (tt, tt), all_both (IsGood IsInRange) (within turns clients) (fixed (End ∷ []) ∷ []) (also_good IsInside IsInRange (within turns clients) inside_ranged (within_good turns clients few)) (λ state. (tt, tt), tt))

flush_good : (client : ℕ) → IsOne client → AreGood IsInside (flush client)
flush_good client one = (connect_good client one, (λ state. (one, tt), tt))

last_good : (client : ℕ) → IsOne client → AreGood IsInside (last_read client)
last_good client one = (λ state. (one, (one, tt)), tt)

-- what is done behind the phases are steps
pub ending_good : (clients : ℕ) → clients ≤ 100 → AreGood IsStep (ending clients)
ending_good clients few =
    let settle : IsGood IsStep (fixed (Settle ∷ [])) = λ state. (tt, tt) in
    let flushed = also_good IsInside IsStep (flushes clients) inside_step (good_joined IsInside flush 1 clients (λ k low high. flush_good k (low, omega arith))) in
    let last = also_good IsInside IsStep (last_reads clients) inside_step (good_joined IsInside last_read 1 clients (λ k low high. last_good k (low, omega arith))) in
    (settle, all_both (IsGood IsStep) (flushes clients) (fixed (Settle ∷ []) ∷ last_reads clients) flushed (settle, last))

body_good : (turns clients many : ℕ) → clients ≤ 100 → AreGood IsInRange (body turns clients many)
unfolding body
body_good turns clients many few =
    all_both (IsGood IsInRange) (phases turns clients many) (ending clients)
    (good_joined IsInRange (λ turn. phase turns clients) 1 many (λ k low high. phase_good turns clients few))
    (also_good IsStep IsInRange (ending clients) step_ranged (ending_good clients few))

-- ---- the lines of a made script

-- what is done in it
abbrev pub done : ℕ → List Line
done num = lines_made (body 10 100 5) num

-- behind the settings
pub made_is : (num : ℕ) → made_lines num ≡ settings 100 ++ done num
unfolding made_lines blocks
made_is num = refl

pub done_good : (num : ℕ) → AreInRange (done num)
done_good num = good_lines IsInRange (body 10 100 5) num (body_good 10 100 5 (lit≤ tt))

-- what holds of each line in range holds of each of lines in range
all_good : (P : Line → Type 0) (lines : List Line) → ((line : Line) → IsInRange line → P line) → AreInRange lines → All P lines
all_good P [] each all = All-nil P
all_good P (line ∷ lines) each all = All-cons P line lines (each line all.0) (all_good P lines each all.1)

-- each line is read
pub made_read : (num : ℕ) → All IsRead (made_lines num)
made_read num = subst (All IsRead) (sym (made_is num)) all
  where
    rest : All IsRead (done num)
    rest = all_good IsRead (done num) line_read (done_good num)

    all : All IsRead (settings 100 ++ done num)
    all =
        All-cons IsRead Centres (Clients 100 ∷ Threads ∷ Rounds ∷ done num) rows.centres_line
        (All-cons IsRead (Clients 100) (Threads ∷ Rounds ∷ done num) (λ number early. rows.clients_read 100 number (lit≤ tt) (lit≤ tt) early)
        (All-cons IsRead Threads (Rounds ∷ done num) rows.threads_line (All-cons IsRead Rounds (done num) rows.rounds_line rest)))

-- no byte of plain text is a line feed
no_feed : (text : List ℕ) → list_all is_plain text ≡ true → All (λ b. b ≢ 10) text
no_feed [] plain = All-nil (λ b. b ≢ 10)
no_feed (b ∷ bs) plain = All-cons (λ b. b ≢ 10) b bs (λ is. false≢true (subst (λ b. is_plain b ≡ true) is (and_parts _ _ plain).0)) (no_feed bs (and_parts _ _ plain).1)

-- the lines of lines that are plain text
pub lines_back : (lines : List Line) → AllByRecursion (λ line. list_all is_plain (line_text line) ≡ true) lines → lines_of (lines_text lines) ≡ map line_text lines
lines_back [] all = refl
lines_back (line ∷ lines) all =
    ap lines_of (append_assoc (line_text line) (codes "\n") (lines_text lines))
    ∙ first_line (line_text line) (lines_text lines) (no_feed (line_text line) all.0)
    ∙ ap (λ rest. line_text line ∷ rest) (lines_back lines all.1)

-- lines in range are plain text
pub plain_lines : (lines : List Line) → AreInRange lines → AllByRecursion (λ line. list_all is_plain (line_text line) ≡ true) lines
plain_lines [] all = tt
plain_lines (line ∷ lines) all = (line_plain line all.0, plain_lines lines all.1)

-- the lines of a text that begins with the settings
pub settings_back : (lines : List Line) → AreInRange lines → lines_of (lines_text (settings 100 ++ lines)) ≡ map line_text (settings 100 ++ lines)
settings_back lines all = lines_back (settings 100 ++ lines) (refl, (plain_number 100 (lit< tt), (refl, (refl, plain_lines lines all))))

-- the lines of a made script
pub made_back : (num : ℕ) → lines_of (made_script num) ≡ map line_text (made_lines num)
unfolding made_script
made_back num = ap (λ lines. lines_of (lines_text lines)) (made_is num) ∙ settings_back (done num) (done_good num) ∙ ap (map line_text) (sym (made_is num))
