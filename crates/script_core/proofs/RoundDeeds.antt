-- Whole rounds of senders, reporters and pruners.
use Rattle.std.proofs.Common.{◌≡◌, ◌≢◌, ◌≤◌, ◌<◌, ℕ, zero, suc, ◌+◌, ◌==◌, Bool, true, false, cond, not, List, [], ◌∷◌, ◌++◌, Option, refl, sym, ap, ◌∙◌, subst, arith}
use Rattle.std.specs.Prelude.{flat_map}
use Rattle.std.proofs.lemmas.Bool.{eqb-true, eqb-false, ne_eqb}
use Rattle.std.proofs.lemmas.List.{append-nil}
use Rattle.std.proofs.lemmas.Grind.{flat_map-append}
use Rattle.dc_talk.specs.declared.sent.Sent.{Sent}
use Rattle.dc_talk.specs.declared.ask.Ask.TheVariants.{Prune}
use Rattle.dc_talk.specs.declared.line.Line.{Line}
use Rattle.dc_talk.specs.declared.log.Deed.{Deed}
use Rattle.script_core.specs.Carrying.{route, Tells, InTurn, no_turn, next_turn}
use Rattle.script_core.specs.Orders.{Orders}
use Rattle.script_core.specs.Provenance.{CarriesAll}
use Rattle.script_core.specs.Rounds.{Mails, SenderDeeds, ReporterDeeds, PrunerDeeds, is_prune_round, others, mailed_from, mailed}
use Rattle.script_core.proofs.Provenance.{turns_carry, tells_carry}
use Rattle.script_core.proofs.Mailing.{IsFresh, mailed_over, mailed_then, mails_carry}
use Rattle.script_core.proofs.Turns.{others_more}

-- ---- what they carry

pub sender_carries : (n i : ℕ) (deeds : List Deed) → SenderDeeds n i deeds → CarriesAll [] deeds
sender_carries n i deeds is = turns_carry (λ to deeds. (items : List Sent) × Mails (route i to) deeds items) (λ to deeds does. mails_carry (route i to) deeds does.0 does.1) (others n i) deeds is

pub reporter_carries : (n i : ℕ) (deeds : List Deed) → ReporterDeeds n i deeds → CarriesAll [] deeds
reporter_carries n i deeds is = turns_carry (λ to deeds. (line : Option Line) × Tells (route i to) deeds line) (λ to deeds does. tells_carry (route i to) deeds does.0 does.1) (others n i) deeds is

pub orders_carry : (i : ℕ) (deeds : List Deed) → Orders i Prune deeds → CarriesAll [] deeds
orders_carry i deeds is = subst (CarriesAll []) (sym is.1) (tt, tt)

pub pruner_carries : (i round : ℕ) (deeds : List Deed) → PrunerDeeds i round deeds → CarriesAll [] deeds
pruner_carries i round deeds is = go (is_prune_round round) is
  where
    go : (test : Bool) → cond test (Orders i Prune deeds) (deeds ≡ []) → CarriesAll [] deeds
    go true does = orders_carry i deeds does
    go false none = subst (CarriesAll []) (sym none) tt

-- ---- what a sender puts on each link

-- each puts what is its own
abbrev puts_of : (ℕ → List Sent) → ℕ → List ℕ → List Sent
puts_of items j tos = flat_map (λ to. cond (to == j) (items to) []) tos

turns_fresh : (i : ℕ) (items : ℕ → List Sent) (tos : List ℕ) (deeds : List Deed) → InTurn (λ to deeds. Mails (route i to) deeds (items to)) tos deeds → IsFresh deeds × ((j : ℕ) → mailed j deeds ≡ puts_of items j tos)
turns_fresh i items [] deeds no_turn = (record { last = λ last to. refl }, λ j. refl)
turns_fresh i items (to ∷ tos) deeds (next_turn first later whole does rest) =
    let more = turns_fresh i items tos later rest in
    (record { last = λ last j. both more last j ∙ sym (both more 0 j) }, λ j. both more 0 j)
  where
    both : IsFresh later × ((j : ℕ) → mailed j later ≡ puts_of items j tos) → (last j : ℕ) → mailed_from last j deeds ≡ cond (to == j) (items to) [] ++ puts_of items j tos
    both more last j = ap (mailed_from last j) whole ∙ (mailed_then last j first later more.0 ∙ (ap (λ front. front ++ mailed j later) (mailed_over last (route i to) first (items to) j does) ∙ ap (λ back. cond (to == j) (items to) [] ++ back) (more.1 j)))

-- with one centre more, what is put for it too
puts_more : (items : ℕ → List Sent) (n i j : ℕ) → puts_of items j (others (suc n) i) ≡ puts_of items j (others n i) ++ puts_of items j (cond (not (1 + n == i)) ((1 + n) ∷ []) [])
puts_more items n i j = ap (puts_of items j) (others_more n i) ∙ flat_map-append (λ to. cond (to == j) (items to) []) (others n i) (cond (not (1 + n == i)) ((1 + n) ∷ []) [])

-- nothing is put on the link to a centre past them
puts_past : (items : ℕ → List Sent) (n i j : ℕ) → n < j → puts_of items j (others n i) ≡ []
puts_past items zero i j past = refl
puts_past items (suc n) i j past =
    puts_more items n i j ∙ (ap (λ front. front ++ puts_of items j (cond (not (1 + n == i)) ((1 + n) ∷ []) [])) (puts_past items n i j (omega arith)) ∙ none (not (1 + n == i)))
  where
    none : (test : Bool) → puts_of items j (cond test ((1 + n) ∷ []) []) ≡ []
    none true = append-nil (cond (1 + n == j) (items (1 + n)) []) ∙ ap (λ test. cond test (items (1 + n)) []) (ne_eqb (1 + n) j (λ same. omega (arith, same, past)))
    none false = refl

-- each of them has its own
puts_there : (items : ℕ → List Sent) (n i j : ℕ) → 1 ≤ j → j ≤ n → j ≢ i → puts_of items j (others n i) ≡ items j
puts_there items zero i j low high other = absurd (omega (arith, low, high))
puts_there items (suc n) i j low high other = puts_more items n i j ∙ go (λ below. puts_there items n i j low below other) (1 + n == j) refl
  where
    go : (j ≤ n → puts_of items j (others n i) ≡ items j) → (test : Bool) → (1 + n == j) ≡ test → puts_of items j (others n i) ++ puts_of items j (cond (not (1 + n == i)) ((1 + n) ∷ []) []) ≡ items j
    go before true is =
        let same : 1 + n ≡ j = eqb-true (1 + n) j is in
        ap (λ front. front ++ puts_of items j (cond (not (1 + n == i)) ((1 + n) ∷ []) [])) (puts_past items n i j (omega (arith, same)))
        ∙ (ap (λ test. puts_of items j (cond (not test) ((1 + n) ∷ []) [])) (ne_eqb (1 + n) i (λ self. other (sym same ∙ self)))
        ∙ (append-nil (cond (1 + n == j) (items (1 + n)) [])
        ∙ (ap (λ test. cond test (items (1 + n)) []) is ∙ ap items same)))
    go before false is =
        ap (λ front. front ++ puts_of items j (cond (not (1 + n == i)) ((1 + n) ∷ []) [])) (before (let apart : 1 + n ≢ j = eqb-false (1 + n) j is in omega (arith, high, apart)))
        ∙ (ap (λ back. items j ++ back) (none (not (1 + n == i))) ∙ append-nil (items j))
      where
        none : (test : Bool) → puts_of items j (cond test ((1 + n) ∷ []) []) ≡ []
        none true = append-nil (cond (1 + n == j) (items (1 + n)) []) ∙ ap (λ test. cond test (items (1 + n)) []) is
        none false = refl

pub mailed_round : (n i : ℕ) (items : ℕ → List Sent) (deeds : List Deed) (j : ℕ) → InTurn (λ to deeds. Mails (route i to) deeds (items to)) (others n i) deeds → 1 ≤ j → j ≤ n → j ≢ i → mailed j deeds ≡ items j
mailed_round n i items deeds j turns low high other = (turns_fresh i items (others n i) deeds turns).1 j ∙ puts_there items n i j low high other
