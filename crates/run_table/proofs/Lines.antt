-- Steps that are dealt, one more.
use Rattle.std.proofs.Common.{◌≡◌, ◌≢◌, ◌≤◌, ◌<◌, ⊎_elim, ℕ, zero, suc, ◌+◌, ◌-◌, List, [], ◌∷◌, ◌++◌, map, length, get_or, Option, Some, None, refl, sym, ap, ◌∙◌, arith}
use Rattle.std.specs.Prelude.{All, fold, max, slice_set, slice_index_or}
use Rattle.std.specs.List.{filter_map, cons_option, range_with_len}
use Rattle.std.specs.Global.{Vec}
use Rattle.std.proofs.lemmas.Bool.{cases_eq, eq-eqb, ne_eqb}
use Rattle.std.proofs.lemmas.List.{append-nil, ext_get_or, map-append, map-set, length-append, length-set, length-map, get_or-set_same, get_or-set_other}
use Rattle.std.proofs.lemmas.List.Sums.{fold-append}
use Rattle.std.proofs.lemmas.List.FromFn.{get_or-map-range_with_len, length-map-range_with_len}
use Rattle.std.proofs.lemmas.List.Elements.{filter_map-append, All-nil, All-cons, All-head, All-tail}
use Rattle.list_core.specs.Choices.{when}
use Rattle.script_core.specs.declared.steps.ClientStep.{ClientStep}
use Rattle.script_core.specs.declared.steps.OperatorStep.{OperatorStep}
use Rattle.script_core.specs.declared.steps.Step.{Step}
use Rattle.script_core.specs.declared.steps.Step.TheVariants.{Client, Operator}
use Rattle.script_core.specs.declared.steps.Section.{Section}
use Rattle.run_book.specs.Moves.{client_step, operator_step, client_steps, operator_steps, most_steps}
use Rattle.run_table.specs.declared.dealing.Dealt.{Dealt}
use Rattle.run_table.specs.Dealing.{IsDealt, line_of}

-- one step more, which is none of this actor's, or is
step_more : {X : Type 0} (f : Step → Option X) (steps : List Step) (step : Step) → filter_map f (steps ++ step ∷ []) ≡ filter_map f steps ++ cons_option (f step) []
step_more f steps step = filter_map-append f steps (step ∷ [])

-- what was dealt to a client is the line at its place
pub line_got : (dealt : Dealt) (client : ℕ) (line : Vec ClientStep) → (1 ≤ client) × (client ≤ length dealt.clients.items) → line ≡ get_or dealt.clients.items (client - 1) line → line.items ≡ line_of dealt client
line_got dealt client line range is = go dealt.clients.items (client - 1) (omega (arith, range.0, range.1)) is
  where
    go : (lines : List (Vec ClientStep)) (place : ℕ) → place < length lines → line ≡ get_or lines place line → line.items ≡ slice_index_or (map (λ (line : Vec ClientStep). line.items) lines) place []
    go [] place within is = absurd (omega (arith, within))
    go (first ∷ lines) zero within is = ap (λ line. line.items) is
    go (first ∷ lines) (suc place) within is = go lines place (omega (arith, within)) is

-- a client's step is dealt to the client
pub dealt_client : (clients client : ℕ) (step : ClientStep) (steps : List Step) (old new : Dealt) (line : Vec ClientStep) → (1 ≤ client) × (client ≤ clients) → new.clients.items ≡ slice_set old.clients.items (client - 1) line → line.items ≡ line_of old client ++ step ∷ [] → new.operator ≡ old.operator → IsDealt clients steps old → IsDealt clients (steps ++ Client client step ∷ []) new
dealt_client clients client step steps old new line range put is same dealt = record {
  count = ap (λ (lines : List (Vec ClientStep)). length lines) put ∙ (length-set old.clients.items (client - 1) line ∙ dealt.count);
  each = each;
  operator = ap (λ operator. operator.items) same ∙ (dealt.operator ∙ (sym (append-nil (filter_map operator_step steps)) ∙ sym (step_more operator_step steps (Client client step))));
}
  where
    lines : List (List ClientStep)
    lines = map (λ (line : Vec ClientStep). line.items) old.clients.items

    many : length lines ≡ clients
    many = length-map old.clients.items (λ (line : Vec ClientStep). line.items) ∙ dealt.count

    now : map (λ (line : Vec ClientStep). line.items) new.clients.items ≡ slice_set lines (client - 1) line.items
    now = ap (map (λ (line : Vec ClientStep). line.items)) put ∙ map-set (λ (line : Vec ClientStep). line.items) old.clients.items (client - 1) line

    each : (other : ℕ) → 1 ≤ other → other ≤ clients → line_of new other ≡ filter_map (client_step other) (steps ++ Client client step ∷ [])
    each other low high = ⊎_elim own away (cases_eq client other)
      where
        own : client ≡ other → line_of new other ≡ filter_map (client_step other) (steps ++ Client client step ∷ [])
        own same =
            ap (λ lines. slice_index_or lines (other - 1) []) now
            ∙ ((λ i. slice_index_or (slice_set lines (same i - 1) line.items) (other - 1) [])
            ∙ (get_or-set_same lines (other - 1) line.items [] (omega (arith, low, high, many))
            ∙ (is
            ∙ ((λ i. line_of old (same i) ++ step ∷ [])
            ∙ (ap (λ steps. steps ++ step ∷ []) (dealt.each other low high)
            ∙ (ap (λ test. filter_map (client_step other) steps ++ cons_option (when test step) []) (sym (eq-eqb client other same))
            ∙ sym (step_more (client_step other) steps (Client client step))))))))

        away : client ≢ other → line_of new other ≡ filter_map (client_step other) (steps ++ Client client step ∷ [])
        away differs =
            ap (λ lines. slice_index_or lines (other - 1) []) now
            ∙ (get_or-set_other lines (client - 1) (other - 1) line.items [] (λ place. differs (omega (arith, place, low, range.0)))
            ∙ (dealt.each other low high
            ∙ (sym (append-nil (filter_map (client_step other) steps))
            ∙ (ap (λ test. filter_map (client_step other) steps ++ cons_option (when test step) []) (sym (ne_eqb client other differs))
            ∙ sym (step_more (client_step other) steps (Client client step))))))

-- the operator's step to the operator
pub dealt_operator : (clients : ℕ) (step : OperatorStep) (steps : List Step) (old new : Dealt) → new.clients ≡ old.clients → new.operator.items ≡ old.operator.items ++ step ∷ [] → IsDealt clients steps old → IsDealt clients (steps ++ Operator step ∷ []) new
dealt_operator clients step steps old new same is dealt = record {
  count = ap (λ clients. length clients.items) same ∙ dealt.count;
  each = λ client low high.
      ap (λ clients. slice_index_or (map (λ (line : Vec ClientStep). line.items) clients.items) (client - 1) []) same
      ∙ (dealt.each client low high
      ∙ (sym (append-nil (filter_map (client_step client) steps)) ∙ sym (step_more (client_step client) steps (Operator step))));
  operator = is ∙ (ap (λ steps. steps ++ step ∷ []) dealt.operator ∙ sym (step_more operator_step steps (Operator step)));
}

-- ---- the most steps of an actor

-- so many lines, all empty
pub record AreEmpty (count : ℕ) (lines : List (Vec ClientStep)) : Type 0 where
  pub many : length lines ≡ count
  pub none : (place : ℕ) → slice_index_or (map (λ line. line.items) lines) place [] ≡ []

-- one more
pub empty_more : (count : ℕ) (lines : List (Vec ClientStep)) (line : Vec ClientStep) → line.items ≡ [] → AreEmpty count lines → AreEmpty (count + 1) (lines ++ line ∷ [])
empty_more count lines line none is = record { many = length-append lines (line ∷ []) ∙ ap (λ n. n + 1) is.many; none = λ place. go lines place is.none }
  where
    go : (lines : List (Vec ClientStep)) (place : ℕ) → ((place : ℕ) → slice_index_or (map (λ line. line.items) lines) place [] ≡ []) → slice_index_or (map (λ line. line.items) (lines ++ line ∷ [])) place [] ≡ []
    go [] zero each = none
    go [] (suc place) each = refl
    go (first ∷ lines) zero each = each zero
    go (first ∷ lines) (suc place) each = go lines place (λ place. each (suc place))

-- no steps were dealt yet
pub empty_dealt : (clients : ℕ) (dealt : Dealt) → AreEmpty clients dealt.clients.items → dealt.operator.items ≡ [] → IsDealt clients [] dealt
empty_dealt clients dealt is operator = record { count = is.many; each = λ client low high. is.none (client - 1); operator = operator }

-- the most steps of the operator and of these lines
abbrev pub longest_of : Dealt → List (Vec ClientStep) → ℕ
longest_of dealt lines = fold max (length dealt.operator.items) (map (λ line. length line.items) lines)

-- with one line more
pub longest_more : (dealt : Dealt) (lines : List (Vec ClientStep)) (line : Vec ClientStep) → longest_of dealt (lines ++ line ∷ []) ≡ max (longest_of dealt lines) (length line.items)
longest_more dealt lines line = ap (fold max (length dealt.operator.items)) (map-append (λ (line : Vec ClientStep). length line.items) lines (line ∷ [])) ∙ fold-append max (length dealt.operator.items) (map (λ (line : Vec ClientStep). length line.items) lines) (length line.items ∷ [])

-- they are the most steps that an actor has
pub longest_is : (clients : ℕ) (section : Section) (dealt : Dealt) → IsDealt clients section.steps dealt → longest_of dealt dealt.clients.items ≡ most_steps clients section
longest_is clients section dealt is = λ i. fold max (length (is.operator i)) (lengths i)
  where
    count : length (map (λ (line : Vec ClientStep). length line.items) dealt.clients.items) ≡ length (map (λ client. length (client_steps client section)) (range_with_len 1 clients))
    count = length-map dealt.clients.items (λ (line : Vec ClientStep). length line.items) ∙ (is.count ∙ sym (length-map-range_with_len (λ client. length (client_steps client section)) 1 clients))

    at : (lines : List (Vec ClientStep)) (place : ℕ) → get_or (map (λ (line : Vec ClientStep). length line.items) lines) place 0 ≡ length (slice_index_or (map (λ (line : Vec ClientStep). line.items) lines) place [])
    at [] place = refl
    at (line ∷ lines) zero = refl
    at (line ∷ lines) (suc place) = at lines place

    lengths : map (λ (line : Vec ClientStep). length line.items) dealt.clients.items ≡ map (λ client. length (client_steps client section)) (range_with_len 1 clients)
    lengths = ext_get_or 0 (map (λ (line : Vec ClientStep). length line.items) dealt.clients.items) (map (λ client. length (client_steps client section)) (range_with_len 1 clients)) count (λ place lt.
        let few : place < clients = omega (arith, lt, length-map dealt.clients.items (λ (line : Vec ClientStep). length line.items), is.count) in
        let same : 1 + place - 1 ≡ place = omega arith in
        at dealt.clients.items place
        ∙ (ap (λ place. length (slice_index_or (map (λ (line : Vec ClientStep). line.items) dealt.clients.items) place [])) (sym same)
        ∙ (ap length (is.each (1 + place) (omega arith) (omega (arith, few)))
        ∙ sym (get_or-map-range_with_len (λ client. length (client_steps client section)) 1 clients place (1 + place) 0 few refl))))

-- what is chosen is no more than there is
chosen_few : {X Y : Type 0} (f : X → Option Y) (xs : List X) → length (filter_map f xs) ≤ length xs
chosen_few f [] = omega arith
chosen_few {Y = Y} f (x ∷ xs) = go (f x) (chosen_few f xs)
  where
    go : (o : Option Y) → length (filter_map f xs) ≤ length xs → length (cons_option o (filter_map f xs)) ≤ suc (length xs)
    go None few = omega (arith, few)
    go (Some y) few = omega (arith, few)

-- the greatest of several, each of which is no more than a most
greatest_few : (most first : ℕ) (xs : List ℕ) → first ≤ most → All (λ x. x ≤ most) xs → fold max first xs ≤ most
greatest_few most first [] low all = low
greatest_few most first (x ∷ xs) low all = let here : x ≤ most = All-head (λ x. x ≤ most) x xs all in greatest_few most (max first x) xs (omega (arith, low, here)) (All-tail (λ x. x ≤ most) x xs all)

pub most_few : (clients : ℕ) (section : Section) → most_steps clients section ≤ length section.steps
most_few clients section = greatest_few (length section.steps) (length (operator_steps section)) (map (λ client. length (client_steps client section)) (range_with_len 1 clients)) (chosen_few operator_step section.steps) each
  where
    each : All (λ x. x ≤ length section.steps) (map (λ client. length (client_steps client section)) (range_with_len 1 clients))
    each = all_few (range_with_len 1 clients)
      where
        all_few : (clients : List ℕ) → All (λ x. x ≤ length section.steps) (map (λ client. length (client_steps client section)) clients)
        all_few [] = All-nil (λ x. x ≤ length section.steps)
        all_few (client ∷ clients) = All-cons (λ x. x ≤ length section.steps) (length (client_steps client section)) (map (λ client. length (client_steps client section)) clients) (chosen_few (client_step client) section.steps) (all_few clients)
