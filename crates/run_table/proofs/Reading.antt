-- The logs and the trails of a table by their numbers, at first and in its book.
use Rattle.std.proofs.Common.{◌≡◌, ◌≢◌, ◌≤◌, ℕ, zero, suc, ◌-◌, List, [], ◌∷◌, map, length, Option, Some, None, refl, sym, ap, ◌∙◌, subst, arith}
use Rattle.std.specs.Prelude.{slice_get, slice_set, slice_index_or}
use Rattle.std.specs.Option.{option_map, unwrap_or}
use Rattle.std.proofs.lemmas.Option.{slice_get-map, unwrap_or-slice_get}
use Rattle.std.proofs.lemmas.List.{get_or-set_same, get_or-set_other}
use Rattle.std.proofs.lemmas.List.FromFn.{get_or-map-range_with_len}
use Rattle.vv_core.specs.Vectors.{centres}
use Rattle.dc_talk.specs.declared.settings.Settings.{Settings}
use Rattle.dc_talk.specs.Entries.{Entry}
use Rattle.dc_talk.specs.Logs.{Logged}
use Rattle.dc_door.specs.Centres.{CentreTrail, new_centre, new_centres}
use Rattle.dc_door.specs.KeptDoors.{entries_of, trail_at}
use Rattle.run_book.specs.declared.book.Book.{Book}
use Rattle.run_book.specs.Setups.{Setup, settings_among}
use Rattle.run_book.specs.Parts.{idle_log, trail_of, log_of}
use Rattle.run_table.specs.Tables.{new_logs, log_at}

-- ---- logs by the numbers of actors

-- a log that was put in place of an actor's
pub log_here : (logs : List Logged) (a : ℕ) (log : Logged) → 1 ≤ a → a ≤ length logs → log_at (slice_set logs (a - 1) log) a ≡ log
log_here logs zero log low high = absurd (omega (arith, low))
log_here logs (suc place) log low high =
    let same : place ≡ suc place - 1 = omega arith in
    subst (λ k. log_at (slice_set logs k log) (suc place) ≡ log) same (get_or-set_same logs place log (idle_log 0) (omega (arith, high)))

-- the logs of the others then
pub log_else : (logs : List Logged) (a b : ℕ) (log : Logged) → 1 ≤ a → b ≢ a → log_at (slice_set logs (a - 1) log) b ≡ log_at logs b
log_else logs a zero log low differs = refl
log_else logs a (suc place) log low differs = get_or-set_other logs (a - 1) place log (idle_log 0) (λ same. differs (omega (arith, same, low)))

-- ---- at first

-- the trails of new centres are empty
pub new_trails : (n k limit i : ℕ) → trail_at (new_centres n k limit) i ≡ []
new_trails n k limit zero = refl
new_trails n k limit (suc i) = ap entries_of (slice_get-map (new_centre n k limit) (centres n) i) ∙ none (slice_get (centres n) i)
  where
    none : (o : Option ℕ) → entries_of (option_map (new_centre n k limit) o) ≡ []
    none None = refl
    none (Some me) = refl

-- their settings
pub new_settings : (n k : ℕ) (setup : Setup) (numbers : List ℕ) → map (λ (centre : CentreTrail). centre.settings) (map (new_centre n k setup.limit) numbers) ≡ map (settings_among n k setup) numbers
new_settings n k setup [] = refl
new_settings n k setup (i ∷ numbers) = ap (λ (rest : List Settings). settings_among n k setup i ∷ rest) (new_settings n k setup numbers)

-- new logs have no notes
pub new_notes : (actors : List ℕ) (a : ℕ) → (log_at (map idle_log actors) a).notes ≡ []
new_notes actors zero = refl
new_notes actors (suc place) = idle actors place
  where
    idle : (actors : List ℕ) (place : ℕ) → (slice_index_or (map idle_log actors) place (idle_log 0)).notes ≡ []
    idle [] place = refl
    idle (a ∷ actors) zero = refl
    idle (a ∷ actors) (suc place) = idle actors place

-- and each is the one of its actor
pub new_actors : (count a : ℕ) → 1 ≤ a → a ≤ count → (log_at (new_logs count) a).actor ≡ a
new_actors count zero low high = absurd (omega (arith, low))
new_actors count (suc place) low high = ap (λ (log : Logged). log.actor) (get_or-map-range_with_len idle_log 1 count place (suc place) (idle_log 0) (omega (arith, high)) (omega arith))

-- ---- in a book

-- a trail by its number, in the book and at its centre
pub trails_match : (cs : List CentreTrail) (b : Book) (i : ℕ) → b.trails ≡ map (λ (centre : CentreTrail). centre.entries) cs → trail_of b i ≡ trail_at cs i
trails_match cs b zero are = refl
trails_match cs b (suc place) are =
    sym (unwrap_or-slice_get b.trails place [])
    ∙ (ap (λ (trails : List (List Entry)). unwrap_or (slice_get trails place) []) are
    ∙ (ap (λ (o : Option (List Entry)). unwrap_or o []) (slice_get-map (λ (centre : CentreTrail). centre.entries) cs place)
    ∙ in_either (slice_get cs place)))
  where
    in_either : (o : Option CentreTrail) → unwrap_or (option_map (λ (centre : CentreTrail). centre.entries) o) [] ≡ entries_of o
    in_either None = refl
    in_either (Some centre) = refl

-- a log by its number
pub logs_match : (logs : List Logged) (b : Book) (a : ℕ) → b.logs ≡ logs → log_of b a ≡ log_at logs a
logs_match logs b zero are = refl
logs_match logs b (suc place) are = ap (λ logs. log_at logs (suc place)) are
