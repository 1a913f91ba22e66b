-- Bytes past the limits of a script are refused as they are with any more behind them.
use Rattle.std.proofs.Common.{◌≡◌, ◌≢◌, ◌<◌, ◌≤◌, ◌+◌, ◌⊎◌, ℕ, suc, Bool, true, false, List, [], ◌∷◌, ◌++◌, length, refl, ap, sym, ◌∙◌, subst, inl, inr, arith, length-append, ne_eqb}
use Rattle.std.specs.Prelude.{◌==◌, nat_lt, cond, Option, Result, Ok, Err}
use Rattle.std.proofs.lemmas.Bool.{lt-ltb, cond-true, cond-false}
use Rattle.std.proofs.lemmas.List.Elements.{All-head, All-tail}
use Rattle.std.proofs.lemmas.List.Sums.{sum_by-cons}
use Rattle.script_core.specs.Limits.{line_feeds, IsOfOneLine, PassesLimits}
use Rattle.script_core.specs.Lines.{lines_of, onto_first}
use Rattle.script_core.specs.declared.limits.TheConstants.{MAX_LINE, MAX_LINES}
use Rattle.script_core.specs.declared.script.Script.{Script}
use Rattle.script_reader.specs.declared.fault.Cause.{Cause}
use Rattle.script_reader.specs.declared.fault.Cause.TheVariants.{Many, Long}
use Rattle.script_reader.specs.declared.fault.ScriptFault.{ScriptFault}
use Rattle.script_reader.specs.declared.fault.ScriptFault.TheVariants.{Refused}
use Rattle.script_reader.specs.declared.reading.Reading.{Reading}
use Rattle.script_reader.specs.declared.row.Row.{Row}
use Rattle.script_reader.specs.Rows.{row_in}
use Rattle.script_reader.specs.Readings.{nothing_read}
use Rattle.script_reader.specs.Lines.{taken, line_taken}
use Rattle.script_reader.specs.Scripts.{lines_read, script_read}

-- ---- lines with more behind them

-- the same lines, but that the last goes on, and more may follow it
abbrev GoOn : List (List ℕ) → List (List ℕ) → Type 0
GoOn [] ms = Unit {0}
GoOn (l ∷ ls) [] = ⊥
GoOn (l ∷ []) (m ∷ ms) = (more : List ℕ) × (m ≡ l ++ more)
GoOn (l ∷ k ∷ ls) (m ∷ ms) = (m ≡ l) × GoOn (k ∷ ls) ms

go_on_feed : (ls ms : List (List ℕ)) → GoOn ls ms → GoOn ([] ∷ ls) ([] ∷ ms)
go_on_feed [] ms go = ([], refl)
go_on_feed (k ∷ ls) ms go = (refl, go)

go_on_byte : (b : ℕ) (ls ms : List (List ℕ)) → GoOn ls ms → GoOn (onto_first b ls) (onto_first b ms)
go_on_byte b [] [] go = ([], refl)
go_on_byte b [] (m ∷ ms) go = (m, refl)
go_on_byte b (l ∷ ls) [] go = absurd go
go_on_byte b (l ∷ []) (m ∷ ms) go = (go.0, ap (λ x. b ∷ x) go.1)
go_on_byte b (l ∷ k ∷ ls) (m ∷ ms) go = (ap (λ x. b ∷ x) go.0, go.1)

lines_go_on : (bytes more : List ℕ) → GoOn (lines_of bytes) (lines_of (bytes ++ more))
lines_go_on [] more = tt
lines_go_on (b ∷ bs) more = step (b == 10) (lines_go_on bs more)
  where
    step : (feed : Bool) → GoOn (lines_of bs) (lines_of (bs ++ more)) → GoOn (cond feed ([] ∷ lines_of bs) (onto_first b (lines_of bs))) (cond feed ([] ∷ lines_of (bs ++ more)) (onto_first b (lines_of (bs ++ more))))
    step true go = go_on_feed (lines_of bs) (lines_of (bs ++ more)) go
    step false go = go_on_byte b (lines_of bs) (lines_of (bs ++ more)) go

-- ---- a line past the limits

-- one of these lines, of which the first has this number, is too long or one too many
abbrev Past : ℕ → List (List ℕ) → Type 0
Past number [] = ⊥
Past number (line ∷ lines) = (MAX_LINES < number) ⊎ ((MAX_LINE < length line) ⊎ Past (number + 1) lines)

-- one of them is too long
abbrev SomeLong : List (List ℕ) → Type 0
SomeLong [] = ⊥
SomeLong (line ∷ lines) = (MAX_LINE < length line) ⊎ SomeLong lines

past_long : (number : ℕ) (lines : List (List ℕ)) → SomeLong lines → Past number lines
past_long number [] long = absurd long
past_long number (line ∷ lines) (inl long) = inr (inl long)
past_long number (line ∷ lines) (inr long) = inr (inr (past_long (number + 1) lines long))

past_many : (number : ℕ) (lines : List (List ℕ)) → 0 < length lines → MAX_LINES + 1 < number + length lines → Past number lines
past_many number [] some many = absurd (omega arith)
past_many number (line ∷ []) some many = inl (omega arith)
past_many number (line ∷ k ∷ lines) some many = inr (inr (past_many (number + 1) (k ∷ lines) (omega arith) (omega arith)))

-- a first line that is at least so long
abbrev FirstFrom : ℕ → List (List ℕ) → Type 0
FirstFrom n [] = n ≡ 0
FirstFrom n (line ∷ lines) = n ≤ length line

first_byte_from : (b n : ℕ) (lines : List (List ℕ)) → FirstFrom n lines → FirstFrom (suc n) (onto_first b lines)
first_byte_from b n [] from = omega arith
first_byte_from b n (line ∷ lines) from = omega arith

first_zero : (lines : List (List ℕ)) → FirstFrom 0 lines
first_zero [] = refl
first_zero (line ∷ lines) = omega arith

first_from : (line rest : List ℕ) → IsOfOneLine line → FirstFrom (length line) (lines_of (line ++ rest))
first_from [] rest one = first_zero (lines_of rest)
first_from (b ∷ bs) rest one =
    let plain : (b == 10) ≡ false = ne_eqb b 10 (All-head (λ x. x ≢ 10) b bs one) in
    subst (FirstFrom (suc (length bs))) (sym (cond-false (b == 10) ([] ∷ lines_of (bs ++ rest)) (onto_first b (lines_of (bs ++ rest))) plain))
    (first_byte_from b (length bs) (lines_of (bs ++ rest)) (first_from bs rest (All-tail (λ x. x ≢ 10) b bs one)))

long_first : (n : ℕ) (lines : List (List ℕ)) → MAX_LINE < n → FirstFrom n lines → SomeLong lines
long_first n [] long from = absurd (omega arith)
long_first n (line ∷ lines) long from = inl (omega arith)

long_byte : (b : ℕ) (lines : List (List ℕ)) → SomeLong lines → SomeLong (onto_first b lines)
long_byte b [] long = absurd long
long_byte b (line ∷ lines) (inl long) = inl (omega arith)
long_byte b (line ∷ lines) (inr long) = inr long

long_more : (b : ℕ) (bytes : List ℕ) → SomeLong (lines_of bytes) → SomeLong (lines_of (b ∷ bytes))
long_more b bytes long = go (b == 10)
  where
    go : (feed : Bool) → SomeLong (cond feed ([] ∷ lines_of bytes) (onto_first b (lines_of bytes)))
    go true = inr long
    go false = long_byte b (lines_of bytes) long

long_behind : (before bytes : List ℕ) → SomeLong (lines_of bytes) → SomeLong (lines_of (before ++ bytes))
long_behind [] bytes long = long
long_behind (b ∷ bs) bytes long = long_more b (bs ++ bytes) (long_behind bs bytes long)

-- a line has at least its first byte, and so there is one
count_byte : (b : ℕ) (lines : List (List ℕ)) → (length lines ≤ length (onto_first b lines)) × (0 < length (onto_first b lines))
count_byte b [] = (omega arith, omega arith)
count_byte b (line ∷ lines) = (omega arith, omega arith)

count_more : (b n : ℕ) (bytes : List ℕ) → n < length (lines_of bytes) → cond (b == 10) 1 0 + n < length (lines_of (b ∷ bytes))
count_more b n bytes some = go (b == 10)
  where
    go : (feed : Bool) → cond feed 1 0 + n < length (cond feed ([] ∷ lines_of bytes) (onto_first b (lines_of bytes)))
    go true = omega arith
    go false = let counts = count_byte b (lines_of bytes) in omega arith

count_some : (b : ℕ) (bytes : List ℕ) → 0 < length (lines_of (b ∷ bytes))
count_some b bytes = go (b == 10)
  where
    go : (feed : Bool) → 0 < length (cond feed ([] ∷ lines_of bytes) (onto_first b (lines_of bytes)))
    go true = omega arith
    go false = (count_byte b (lines_of bytes)).1

count_feeds : (before : List ℕ) (b : ℕ) (rest : List ℕ) → line_feeds before < length (lines_of (before ++ b ∷ rest))
count_feeds [] b rest = count_some b rest
count_feeds (x ∷ xs) b rest = let feeds = sum_by-cons (λ y. cond (y == 10) 1 0) x xs in let more = count_more x (line_feeds xs) (xs ++ b ∷ rest) (count_feeds xs b rest) in omega arith

-- what passes the limits has such a line
past_limits : (bytes : List ℕ) → PassesLimits bytes → Past 1 (lines_of bytes)
past_limits bytes (inl h) = past_long 1 (lines_of bytes) (subst (λ all. SomeLong (lines_of all)) (sym h.parts) (long_behind h.before (h.line ++ h.rest) (long_first (length h.line) (lines_of (h.line ++ h.rest)) h.long (first_from h.line h.rest h.one_line))))
past_limits bytes (inr h) =
    let feeds = count_feeds h.before h.byte h.rest in
    let many : MAX_LINES ≤ line_feeds h.before = h.many in
    subst (λ all. Past 1 (lines_of all)) (sym h.parts) (past_many 1 (lines_of (h.before ++ h.byte ∷ h.rest)) (omega arith) (omega arith))

-- ---- the verdict

-- a line that is refused ends the reading
ends_at : (number : ℕ) (reading : Reading) (line : List ℕ) (lines : List (List ℕ)) (why : Cause) → line_taken reading number line ≡ Err why → lines_read number reading (line ∷ lines) ≡ Err (Refused number why)
ends_at number reading line lines why refused = ap (λ t. elim t [ Ok more ↦ lines_read (number + 1) more lines | Err cause ↦ Err (Refused number cause) ]) refused

-- one too many
refused_many : (number : ℕ) (reading : Reading) (line : List ℕ) → MAX_LINES < number → line_taken reading number line ≡ Err Many
unfolding row_in
refused_many number reading line many = ap (taken reading) (cond-true _ _ _ (lt-ltb MAX_LINES number many))

-- too long, or one too many
too_long : ℕ → Cause
too_long number = cond (nat_lt MAX_LINES number) Many Long

refused_long : (number : ℕ) (reading : Reading) (line : List ℕ) → MAX_LINE < length line → line_taken reading number line ≡ Err (too_long number)
unfolding row_in too_long
refused_long number reading line long = ap (taken reading) (ap (λ rest. cond (nat_lt MAX_LINES number) (Err Many) rest) (cond-true _ _ _ (lt-ltb MAX_LINE (length line) long)) ∙ go (nat_lt MAX_LINES number))
  where
    wrong : Cause → Result (Option Row) Cause
    wrong why = Err why

    go : (late : Bool) → cond late (wrong Many) (wrong Long) ≡ wrong (cond late Many Long)
    go true = refl
    go false = refl

-- the first line does not grow shorter
no_shorter : (l m : List ℕ) (ls ms : List (List ℕ)) → GoOn (l ∷ ls) (m ∷ ms) → length l ≤ length m
no_shorter l m [] ms go = let n : length m ≡ length (l ++ go.0) = ap length go.1 in omega (arith, length-append l go.0)
no_shorter l m (k ∷ ls) ms go = let n : length m ≡ length l = ap length go.0 in omega arith

-- what follows a line: the others, or nothing
abbrev rest_read : ℕ → List (List ℕ) → Result Reading Cause → Result Script ScriptFault
rest_read number lines (Ok more) = lines_read (number + 1) more lines
rest_read number lines (Err why) = Err (Refused number why)

-- where a line is taken or refused, the others decide alike
alike : (number : ℕ) (ls ms : List (List ℕ)) (t : Result Reading Cause) → ((more : Reading) → lines_read (number + 1) more ms ≡ lines_read (number + 1) more ls) → rest_read number ms t ≡ rest_read number ls t
alike number ls ms (Ok more) same = same more
alike number ls ms (Err why) same = refl

same_end : (number : ℕ) (reading : Reading) (ls ms : List (List ℕ)) → GoOn ls ms → Past number ls → lines_read number reading ms ≡ lines_read number reading ls
same_end number reading [] ms go past = absurd past
same_end number reading (l ∷ ls) [] go past = absurd go
same_end number reading (l ∷ ls) (m ∷ ms) go (inl many) = ends_at number reading m ms Many (refused_many number reading m many) ∙ sym (ends_at number reading l ls Many (refused_many number reading l many))
same_end number reading (l ∷ ls) (m ∷ ms) go (inr (inl long)) =
    let longer : MAX_LINE < length m = let grown = no_shorter l m ls ms go in omega arith in
    ends_at number reading m ms (too_long number) (refused_long number reading m longer) ∙ sym (ends_at number reading l ls (too_long number) (refused_long number reading l long))
same_end number reading (l ∷ []) (m ∷ ms) go (inr (inr none)) = absurd none
same_end number reading (l ∷ k ∷ ls) (m ∷ ms) go (inr (inr later)) =
    ap (λ line. lines_read number reading (line ∷ ms)) go.0
    ∙ alike number (k ∷ ls) ms (line_taken reading number l) (λ more. same_end (number + 1) more (k ∷ ls) ms go.1 later)

-- what was read past the limits is refused as it is with more behind it
pub cut_off : (bytes more : List ℕ) → PassesLimits bytes → script_read (bytes ++ more) ≡ script_read bytes
unfolding script_read
cut_off bytes more past = same_end 1 nothing_read (lines_of bytes) (lines_of (bytes ++ more)) (lines_go_on bytes more) (past_limits bytes past)

no_script : (number : ℕ) (reading : Reading) (ls : List (List ℕ)) (script : Script) → Past number ls → lines_read number reading ls ≡ Ok script → ⊥
no_script number reading [] script past is = past
no_script number reading (l ∷ ls) script (inl many) is = absurd (let bad : Err (Refused number Many) ≡ Ok script = sym (ends_at number reading l ls Many (refused_many number reading l many)) ∙ is in cc)
no_script number reading (l ∷ ls) script (inr (inl long)) is = absurd (let bad : Err (Refused number (too_long number)) ≡ Ok script = sym (ends_at number reading l ls (too_long number) (refused_long number reading l long)) ∙ is in cc)
no_script number reading (l ∷ ls) script (inr (inr later)) is = further number ls (line_taken reading number l) script (λ more. no_script (number + 1) more ls script later) is
  where
    further : (n : ℕ) (rest : List (List ℕ)) (t : Result Reading Cause) (s : Script) → ((more : Reading) → lines_read (n + 1) more rest ≡ Ok s → ⊥) → rest_read n rest t ≡ Ok s → ⊥
    further n rest (Ok more) s none e = none more e
    further n rest (Err why) s none e = absurd (cc)

-- it is no script
pub past_is_none : (bytes : List ℕ) (script : Script) → PassesLimits bytes → script_read bytes ≡ Ok script → ⊥
unfolding script_read
past_is_none bytes script past is = no_script 1 nothing_read (lines_of bytes) script (past_limits bytes past) is
