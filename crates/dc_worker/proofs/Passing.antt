-- Passes one after another, and that a pass with news asked centre 2.
use Rattle.std.proofs.Common.{◌≡◌, ◌≢◌, ◌≤◌, ◌<◌, ◌^◌, ℕ, zero, suc, ◌+◌, Bool, true, false, ◌||◌, length, List, [], ◌∷◌, ◌++◌, map, drop, Option, refl, sym, ap, ◌∙◌, subst, arith}
use Rattle.std.specs.List.{list_any}
use Rattle.std.proofs.lemmas.Bool.{false≢true}
use Rattle.std.proofs.lemmas.List.{append_assoc, length-append}
use Rattle.std.proofs.Math.Seq.{drop-append_seam}
use Rattle.dc_talk.specs.declared.ask.Ask.TheVariants.{Report}
use Rattle.dc_talk.specs.declared.log.Fate.TheVariants.{Unheard}
use Rattle.dc_talk.specs.declared.log.Deed.{Deed}
use Rattle.dc_talk.specs.declared.log.Deed.TheVariants.{Asked}
use Rattle.dc_talk.specs.declared.log.Note.{Note}
use Rattle.dc_talk.specs.declared.line.Line.{Line}
use Rattle.dc_talk.specs.declared.line.ShipEnd.{ShipEnd}
use Rattle.dc_talk.specs.Entries.{Entry}
use Rattle.dc_talk.specs.Logs.{Logged, marked, entries_made}
use Rattle.dc_talk.specs.Acting.{Acting, Leaves}
use Rattle.dc_talk.proofs.Doors.{made_then}
use Rattle.script_core.specs.Carrying.{Route, routes, detours, Ships, Tells, InTurn, no_turn, next_turn, Passes, Settles, last_pass, one_pass, is_news}
use Rattle.dc_worker.specs.declared.rounds.Round.TheVariants.{Ship, Tell}
use Rattle.dc_worker.specs.Work.{Adds, CarriesSuch}
use Rattle.script_core.specs.Provenance.{CarriesAll}
use Rattle.dc_worker.specs.Rounds.{Does, DoesRelay, passes_of}
use Rattle.dc_worker.proofs.Work.{adds_none, adds_then}
use Rattle.script_core.proofs.Provenance.{carries_both}

-- ---- a pass

-- deliveries over all routes, then relays over all detours and then tells over all routes are a pass
pub passes_all : (n : ℕ) (ds es fs : List Deed) → InTurn (Does Ship) (routes n) ds → InTurn DoesRelay (detours n) es → InTurn (Does Tell) (routes n) fs → Passes n (ds ++ (es ++ fs))
passes_all n ds es fs ships relays tells = record { ships = ds; relays = es; tells = fs; whole = refl; shipped = ships; relayed = relays; told_all = tells }

-- news among notes is news among their deeds
news_marked : (section step : ℕ) (ds : List Deed) → list_any (λ (note : Note). is_news note.deed) (map (marked section step) ds) ≡ list_any is_news ds
news_marked section step [] = refl
news_marked section step (d ∷ ds) = ap (λ rest. is_news d || rest) (news_marked section step ds)

-- the notes behind those that were there are of the deeds
pub news_behind : (a b : Acting) (ds : List Deed) → Leaves a b ds → list_any (λ (note : Note). is_news note.deed) (drop (length a.log.notes) b.log.notes) ≡ list_any is_news ds
news_behind a b ds leaves =
    ap (λ (log : Logged). list_any (λ (note : Note). is_news note.deed) (drop (length a.log.notes) log.notes)) leaves.log
    ∙ (ap (list_any (λ (note : Note). is_news note.deed)) (drop-append_seam a.log.notes (map (marked a.log.section a.log.step) ds))
    ∙ news_marked a.log.section a.log.step ds)

-- the same with a log and a door, where it is looked up behind the notes that were there whether there was news
pub pass_of_all : (n : ℕ) (a b c d : Acting) (before : ℕ) (notes : List Note) (news : Bool) → CarriesSuch (InTurn (Does Ship) (routes n)) a b → CarriesSuch (InTurn DoesRelay (detours n)) b c → CarriesSuch (InTurn (Does Tell) (routes n)) c d → before ≡ length a.log.notes → notes ≡ d.log.notes → news ≡ list_any (λ (note : Note). is_news note.deed) (drop before notes) → CarriesSuch (λ deeds. Passes n deeds × (news ≡ list_any is_news deeds)) a d
pass_of_all n a b c d before notes news ships relays tells long all found =
    let later : List Deed = relays.deeds ++ tells.deeds in
    let adds : Adds a d (ships.deeds ++ later) = adds_then a b d ships.deeds later ships.adds (adds_then b c d relays.deeds tells.deeds relays.adds tells.adds) in
    let here : list_any (λ (note : Note). is_news note.deed) (drop before notes) ≡ list_any (λ (note : Note). is_news note.deed) (drop (length a.log.notes) d.log.notes) = ap (λ k. list_any (λ (note : Note). is_news note.deed) (drop k notes)) long ∙ ap (λ (notes : List Note). list_any (λ (note : Note). is_news note.deed) (drop (length a.log.notes) notes)) all in
    record {
      deeds = ships.deeds ++ later;
      such = (passes_all n ships.deeds relays.deeds tells.deeds ships.such relays.such tells.such, found ∙ (here ∙ news_behind a d (ships.deeds ++ later) adds.leaves));
      adds = adds;
      carries = carries_both ships.deeds later ships.carries (carries_both relays.deeds tells.deeds relays.carries tells.carries);
    }

-- ---- what a pass asks

-- what is done in turn over nothing
turns_empty : {X : Type 0} (Do : X → List Deed → Type 0) (ds : List Deed) → InTurn Do [] ds → ds ≡ []
turns_empty Do [] no_turn = refl
turns_empty Do (_ ∷ _) none = elim none [ ]

-- with no route and no detour there is no deed, and so no news
no_news : (n : ℕ) (ds : List Deed) → routes n ≡ [] → detours n ≡ [] → Passes n ds → list_any is_news ds ≡ false
no_news n ds none nowhere passes =
    let ships : passes.ships ≡ [] = turns_empty (λ r deeds. (end : Option ShipEnd) × Ships r deeds end) passes.ships (subst (λ all. InTurn (λ r deeds. (end : Option ShipEnd) × Ships r deeds end) all passes.ships) none passes.shipped) in
    let relays : passes.relays ≡ [] = turns_empty DoesRelay passes.relays (subst (λ all. InTurn DoesRelay all passes.relays) nowhere passes.relayed) in
    let tells : passes.tells ≡ [] = turns_empty (λ r deeds. (line : Option Line) × Tells r deeds line) passes.tells (subst (λ all. InTurn (λ r deeds. (line : Option Line) × Tells r deeds line) all passes.tells) none passes.told_all) in
    ap (list_any is_news) (passes.whole ∙ (ap (λ ds. ds ++ (passes.relays ++ passes.tells)) ships ∙ (ap (λ ds. ds ++ passes.tells) relays ∙ tells)))

-- the first delivery asks the centre that is delivered to
first_asked : (actor : ℕ) (r : Route) (rest : List Route) (ds : List Deed) → r.to ≡ 2 → InTurn (λ r deeds. (end : Option ShipEnd) × Ships r deeds end) (r ∷ rest) ds → entries_made actor 2 ds ≢ []
first_asked actor r rest ds two (next_turn first later whole does more) none =
    let ships = does.1 in
    let front : ds ≡ Asked 2 Report (Unheard ships.say) ∷ (ships.later ++ later) = whole ∙ (ap (λ first. first ++ later) ships.whole ∙ ap (λ i. Asked i Report (Unheard ships.say) ∷ (ships.later ++ later)) two) in
    let made = ap (entries_made actor 2) front in
    let empty = sym made ∙ none in
    cc

-- the first part of an empty list is empty
empty_front : (xs ys : List Entry) → xs ++ ys ≡ [] → xs ≡ []
empty_front [] ys none = refl
empty_front (x ∷ xs) ys none = let empty : x ∷ (xs ++ ys) ≡ [] = none in cc

-- a pass with news asked centre 2
pub news_asked : (actor n : ℕ) (ds : List Deed) → Passes n ds → list_any is_news ds ≡ true → entries_made actor 2 ds ≢ []
news_asked actor zero ds passes news none = absurd (false≢true (sym (no_news zero ds refl refl passes) ∙ news))
news_asked actor (suc zero) ds passes news none = absurd (false≢true (sym (no_news (suc zero) ds refl refl passes) ∙ news))
news_asked actor (suc (suc n)) ds passes news none =
    let later : List Deed = passes.relays ++ passes.tells in
    let made : entries_made actor 2 passes.ships ++ entries_made actor 2 later ≡ [] = sym (made_then actor 2 passes.ships later) ∙ (ap (entries_made actor 2) (sym passes.whole) ∙ none) in
    first_asked actor _ _ passes.ships refl passes.shipped (empty_front (entries_made actor 2 passes.ships) (entries_made actor 2 later) made)

-- ---- passes

-- so many passes were made, the first of them counted from 1, and each had news: what is left of a settling is behind them
pub record Settling (n passes : ℕ) (deeds : List Deed) : Type 0 where
  pub on : (later : List Deed) (rest : Settles n later) → (all : Settles n (deeds ++ later)) × (passes_of all + 1 ≡ passes + passes_of rest)

-- no pass so far
pub settling_none : (n : ℕ) → Settling n 1 []
settling_none n = record { on = λ later rest. (rest, omega arith) }

-- one pass more, which had news
pub settling_more : (n passes : ℕ) (ds es : List Deed) → Settling n passes ds → Passes n es → list_any is_news es ≡ true → Settling n (passes + 1) (ds ++ es)
settling_more n passes ds es before passed news = record { on = on }
  where
    on : (later : List Deed) (rest : Settles n later) → (all : Settles n ((ds ++ es) ++ later)) × (passes_of all + 1 ≡ (passes + 1) + passes_of rest)
    on later rest =
        let one : Settles n (es ++ later) = one_pass es later refl passed news rest in
        let all = before.on (es ++ later) one in
        let count : passes_of one ≡ suc (passes_of rest) = refl in
        let joined : passes_of all.0 + 1 ≡ (passes + 1) + passes_of rest = omega (arith, all.1, count) in
        subst (λ deeds. (all : Settles n deeds) × (passes_of all + 1 ≡ (passes + 1) + passes_of rest)) (sym (append_assoc ds es later)) (all.0, joined)

-- the last pass, which had none
pub settling_last : (n passes : ℕ) (ds es : List Deed) → Settling n passes ds → Passes n es → list_any is_news es ≡ false → (all : Settles n (ds ++ es)) × (passes ≡ passes_of all)
settling_last n passes ds es before passed none =
    let all = before.on es (last_pass passed none) in
    (all.0, omega (arith, all.1))

-- ---- the same with a log and a door

-- so many passes were made, counted from 1, which are no more than the entries that the door made at centre 2
pub record SettlesOn (n passes : ℕ) (old new : Acting) : Type 0 where
  pub deeds : List Deed
  pub so_far : Settling n passes deeds
  pub adds : Adds old new deeds
  pub carries : CarriesAll [] deeds
  pub few : passes ≤ length (new.door.made 2) + 1

pub settles_on_none : (n : ℕ) (a : Acting) → SettlesOn n 1 a a
settles_on_none n a = record { deeds = []; so_far = settling_none n; adds = adds_none a; carries = tt; few = omega arith }

-- with a pass that had news the door's list of centre 2 has grown, and is short
pub record HasGrown (old new : Acting) : Type 0 where
  pub more : length (old.door.made 2) < length (new.door.made 2)
  pub short : length (new.door.made 2) < 2 ^ 62

-- a list that is not empty has a length
some_long : (xs : List Entry) → xs ≢ [] → 1 ≤ length xs
some_long [] some = absurd (some refl)
some_long (x ∷ xs) some = omega arith

pub pass_grows : (n : ℕ) (a b : Acting) (es : List Deed) → Adds a b es → Passes n es → list_any is_news es ≡ true → HasGrown a b
pass_grows n a b es adds passed news =
    let asked = news_asked a.door.actor n es passed news in
    let long : length (b.door.made 2) ≡ length (a.door.made 2) + length (entries_made a.door.actor 2 es) = ap (λ (made : List Entry). length made) (adds.leaves.door.made 2) ∙ length-append (a.door.made 2) (entries_made a.door.actor 2 es) in
    let some : 1 ≤ length (entries_made a.door.actor 2 es) = some_long (entries_made a.door.actor 2 es) asked in
    record { more = omega (arith, long, some); short = adds.short 2 asked }

pub settles_on_more : (n passes : ℕ) (a b c : Acting) (news : Bool) → news ≡ true → SettlesOn n passes a b → CarriesSuch (λ deeds. Passes n deeds × (news ≡ list_any is_news deeds)) b c → SettlesOn n (passes + 1) a c
settles_on_more n passes a b c news is before pass =
    let some : list_any is_news pass.deeds ≡ true = sym pass.such.1 ∙ is in
    let grown = pass_grows n b c pass.deeds pass.adds pass.such.0 some in
    record {
      deeds = before.deeds ++ pass.deeds;
      so_far = settling_more n passes before.deeds pass.deeds before.so_far pass.such.0 some;
      adds = adds_then a b c before.deeds pass.deeds before.adds pass.adds;
      carries = carries_both before.deeds pass.deeds before.carries pass.carries;
      few = omega (arith, before.few, grown.more);
    }

pub settles_on_grows : (n : ℕ) (b c : Acting) (news : Bool) → news ≡ true → CarriesSuch (λ deeds. Passes n deeds × (news ≡ list_any is_news deeds)) b c → HasGrown b c
settles_on_grows n b c news is pass = pass_grows n b c pass.deeds pass.adds pass.such.0 (sym pass.such.1 ∙ is)

pub settles_on_last : (n passes : ℕ) (a b c : Acting) (news : Bool) → news ≡ false → SettlesOn n passes a b → CarriesSuch (λ deeds. Passes n deeds × (news ≡ list_any is_news deeds)) b c → CarriesSuch (λ deeds. (settles : Settles n deeds) × (passes ≡ passes_of settles)) a c
settles_on_last n passes a b c news is before pass = record {
  deeds = before.deeds ++ pass.deeds;
  such = settling_last n passes before.deeds pass.deeds before.so_far pass.such.0 (sym pass.such.1 ∙ is);
  adds = adds_then a b c before.deeds pass.deeds before.adds pass.adds;
  carries = carries_both before.deeds pass.deeds before.carries pass.carries;
}
