-- What a door that answers from a list gives, and what it shows with one more entry.
use Rattle.std.proofs.Common.{◌≡◌, ◌≢◌, ◌≤◌, ◌<◌, ℕ, suc, ◌+◌, ◌^◌, Bool, true, false, cond, ◌==◌, length, List, [], ◌∷◌, ◌++◌, Some, None, refl, sym, ap, ◌∙◌, arith}
use Rattle.std.specs.List.{cons_option}
use Rattle.std.proofs.lemmas.Bool.{ne_eqb}
use Rattle.std.proofs.lemmas.List.{append-nil, length-append}
use Rattle.std.proofs.lemmas.List.Elements.{filter_map-append}
use Rattle.dc_talk.specs.declared.ask.Ask.{Ask}
use Rattle.dc_talk.specs.declared.say.Say.{Say}
use Rattle.dc_talk.specs.declared.say.Say.TheVariants.{Down}
use Rattle.dc_talk.specs.Entries.{Entry}
use Rattle.dc_talk.specs.Doors.{belongs, HasAsked}
use Rattle.dc_talk.specs.ListDoors.{ListDoorView, entry_at, entries_at, shown_of, next_answer}
use Rattle.dc_talk.proofs.Belonging.{down_belongs}

-- the next answer belongs to the ask
pub next_belongs : (says : List Say) (ask : Ask) → belongs ask (next_answer says ask) ≡ true
next_belongs [] ask = down_belongs ask
next_belongs (say ∷ says) ask = go (belongs ask say) refl
  where
    go : (test : Bool) → belongs ask say ≡ test → belongs ask (cond test say Down) ≡ true
    go true is = is
    go false is = down_belongs ask

-- with one more entry of centre i there is one more there
entries_here : (i : ℕ) (entries : List (ℕ × Entry)) (entry : Entry) → entries_at i (entries ++ (i, entry) ∷ []) ≡ entries_at i entries ++ entry ∷ []
entries_here i entries entry =
    let same : (i == i) ≡ true = grind arith in
    filter_map-append (entry_at i) entries ((i, entry) ∷ [])
    ∙ ap (λ test. entries_at i entries ++ cons_option (cond test (Some entry) None) []) same

-- and none elsewhere
entries_there : (i j : ℕ) (entries : List (ℕ × Entry)) (entry : Entry) → j ≢ i → entries_at j (entries ++ (i, entry) ∷ []) ≡ entries_at j entries
entries_there i j entries entry differs =
    let other : (i == j) ≡ false = ne_eqb i j (λ e. differs (sym e)) in
    filter_map-append (entry_at j) entries ((i, entry) ∷ [])
    ∙ (ap (λ test. entries_at j entries ++ cons_option (cond test (Some entry) None) []) other ∙ append-nil (entries_at j entries))

-- no centre has more entries than there are
few_at : (i : ℕ) (entries : List (ℕ × Entry)) → length (entries_at i entries) ≤ length entries
few_at i [] = omega arith
few_at i (made ∷ entries) = go (made.0 == i) (few_at i entries)
  where
    go : (test : Bool) → length (entries_at i entries) ≤ length entries → length (cons_option (cond test (Some made.1) None) (entries_at i entries)) ≤ suc (length entries)
    go true few = omega arith
    go false few = omega arith

-- a door with one more entry has been asked
pub asked_more : (old new : ListDoorView) (i : ℕ) (entry : Entry) → new.entries ≡ old.entries ++ (i, entry) ∷ [] → length old.entries + 1 < 2 ^ 62 → HasAsked (shown_of old) (shown_of new) i entry
asked_more old new i entry more few =
    let here : entries_at i new.entries ≡ entries_at i old.entries ++ entry ∷ [] = ap (entries_at i) more ∙ entries_here i old.entries entry in
    let there : (j : ℕ) → j ≢ i → entries_at j new.entries ≡ entries_at j old.entries = λ j differs. ap (entries_at j) more ∙ entries_there i j old.entries entry differs in
    let long : length new.entries ≡ length old.entries + 1 = ap length more ∙ length-append old.entries ((i, entry) ∷ []) in
    let short : length (entries_at i new.entries) < 2 ^ 62 = omega (arith, few_at i new.entries) in
    record {
      same = record { actor = refl; centres = refl; alone = refl };
      made = here;
      between = [];
      seen = here;
      alone = λ _. refl;
      other_made = there;
      other_seen = there;
      short = (short, short);
    }
