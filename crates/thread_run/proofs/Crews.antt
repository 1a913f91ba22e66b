-- Callers, clients and crews, made of their parts one after another.
use Rattle.std.proofs.Common.{◌≡◌, ◌≤◌, ◌<◌, ℕ, ◌+◌, ◌*◌, List, [], ◌∷◌, ◌++◌, map, length, length-append, get_or, take, drop, append_assoc, append-nil, refl, sym, ap, ◌∙◌, subst, arith}
use Rattle.std.specs.Prelude.{flat_map}
use Rattle.std.specs.List.{range_with_len}
use Rattle.std.specs.Global.{Vec}
use Rattle.std.proofs.lemmas.List.{map-append, length-map, nil_from_length, take-append-drop}
use Rattle.std.proofs.lemmas.List.FromFn.{map-range_with_len_more, length-range_with_len}
use Rattle.std.proofs.lemmas.Grind.{flat_map-append}
use Rattle.vv_core.specs.Vectors.{centres}
use Rattle.dc_talk.specs.Logs.{Logged}
use Rattle.dc_host.specs.HostDoors.{CentrePass}
use Rattle.phase_actors.specs.declared.callers.Caller.{Caller}
use Rattle.phase_play.specs.declared.crews.Crew.{Crew}
use Rattle.phase_actors.specs.declared.clients.Player.{Player}
use Rattle.thread_run.specs.declared.parts.Parts.{Parts}
use Rattle.thread_run.specs.declared.casting.Workers.{Workers}
use Rattle.thread_run.specs.Casts.{crew_callers, callers_among, AreCallersOf, ArePlayersOf, AreCrewsOf, AreActorsOf}

module _ {X Y : Type 0} (f : X → Y) (xs : List X) (x : X) where
  -- what one element more gives
  pub map_more : (y : Y) (ys : List Y) → f x ≡ y → map f xs ≡ ys → map f (xs ++ x ∷ []) ≡ ys ++ y ∷ []
  map_more y ys gives are = map-append f xs (x ∷ []) ∙ (λ k. are k ++ gives k ∷ [])

  -- so where some are left
  pub seam_more : (y : Y) (left all : List Y) → f x ≡ y → map f xs ++ y ∷ left ≡ all → map f (xs ++ x ∷ []) ++ left ≡ all
  seam_more y left all gives are =
      ap (λ ys. ys ++ left) (map_more y (map f xs) gives refl)
      ∙ (append_assoc (map f xs) (y ∷ []) left ∙ are)

-- so where each element gives a list
pub flat_more : {X Y : Type 0} (f : X → List Y) (xs : List X) (x : X) (left all : List Y) → flat_map f xs ++ (f x ++ left) ≡ all → flat_map f (xs ++ x ∷ []) ++ left ≡ all
flat_more f xs x left all are =
    ap (λ ys. ys ++ left) (flat_map-append f xs (x ∷ []) ∙ ap (λ ys. flat_map f xs ++ ys) (append-nil (f x)))
    ∙ (append_assoc (flat_map f xs) (f x) left ∙ are)

-- where as many were used as there are, none is left
pub all_used : {X : Type 0} (used left all : List X) → used ++ left ≡ all → length used ≡ length all → used ≡ all
all_used used left all are many =
    let none : left ≡ [] = nil_from_length left (omega (arith, length-append used left, ap (λ xs. length xs) are, many)) in
    sym (append-nil used) ∙ (ap (λ left. used ++ left) (sym none) ∙ are)

-- callers have these passes and logs
pub callers_all : (rows : List (Vec CentrePass)) (logs : List Logged) (callers : List Caller) (left : List (Vec CentrePass)) → length rows ≡ length logs → map (λ (c : Caller). c.row) callers ++ left ≡ rows → map (λ (c : Caller). c.log) callers ≡ logs → AreCallersOf rows logs callers
callers_all rows logs callers left same rows_are logs_are = record {
  rows_are = all_used (map (λ (c : Caller). c.row) callers) left rows rows_are
      (length-map callers (λ (c : Caller). c.row)
      ∙ (sym (length-map callers (λ (c : Caller). c.log))
      ∙ (ap (λ logs. length logs) logs_are ∙ sym same)));
  logs_are = logs_are;
}

-- numbers from 1 on, with one more
pub numbers_more : {X : Type 0} (f : X → ℕ) (xs : List X) (x : X) (count : ℕ) → f x ≡ count + 1 → map f xs ≡ range_with_len 1 count → map f (xs ++ x ∷ []) ≡ range_with_len 1 (count + 1)
numbers_more f xs x count is are =
    let next : 1 + count ≡ count + 1 = omega arith in
    map_more f xs x (count + 1) (range_with_len 1 count) is are
    ∙ (sym (ap (λ ys. ys ++ (count + 1) ∷ []) (map_same (range_with_len 1 count)))
    ∙ (sym (map-range_with_len_more (λ number. number) 1 count (count + 1) next)
    ∙ map_same (range_with_len 1 (count + 1))))
  where
    map_same : (numbers : List ℕ) → map (λ number. number) numbers ≡ numbers
    map_same [] = refl
    map_same (number ∷ numbers) = ap (λ rest. number ∷ rest) (map_same numbers)

-- crews have four callers each
pub crew_count : (crews : List Crew) → length (flat_map crew_callers crews) ≡ 4 * length crews
crew_count [] = refl
crew_count (crew ∷ crews) = let rest = crew_count crews in omega (arith, length-append (crew_callers crew) (flat_map crew_callers crews), rest)

-- ---- crew after crew

-- the crews of so many centres, made of all parts but those that are left
pub record AreCrewsBefore (before : ℕ) (all left : Workers) (crews : List Crew) : Type 0 where
  pub numbers : map (λ (crew : Crew). crew.centre) crews ≡ centres before
  pub callers_are : flat_map crew_callers crews ++ left.callers.items ≡ all.callers.items
  pub givers_are : map (λ (crew : Crew). crew.sender.givers) crews ++ left.givers.items ≡ all.givers.items
  pub takers_are : map (λ (crew : Crew). crew.receiver.takers) crews ++ left.takers.items ≡ all.takers.items
  pub inlets_are : map (λ (crew : Crew). crew.receiver.inlets) crews ++ left.inlets.items ≡ all.inlets.items

-- before the first one all are left
pub crews_begin : (all : Workers) (crews : List Crew) → crews ≡ [] → AreCrewsBefore 0 all all crews
crews_begin all crews none = subst (AreCrewsBefore 0 all all) (sym none) (record { numbers = refl; callers_are = refl; givers_are = refl; takers_are = refl; inlets_are = refl })

module _ (before : ℕ) (all left : Workers) (crews : List Crew) (made : AreCrewsBefore before all left crews) where
  -- there are so many
  crew_number : length crews ≡ before
  crew_number =
      sym (length-map crews (λ (crew : Crew). crew.centre))
      ∙ (ap (λ numbers. length numbers) made.numbers ∙ length-range_with_len 1 before)

  -- callers are left for one more
  pub callers_left : (n : ℕ) → before < n → length all.callers.items ≡ 4 * n → 4 ≤ length left.callers.items
  callers_left n lt many = omega (arith, lt, many, crew_number, crew_count crews, length-append (flat_map crew_callers crews) left.callers.items, ap (λ callers. length callers) made.callers_are)

  -- so are ends
  some_left : {Y : Type 0} (f : Crew → Y) (ends given : List Y) (n : ℕ) → before < n → length given ≡ n → map f crews ++ ends ≡ given → 1 ≤ length ends
  some_left f ends given n lt many are = omega (arith, lt, many, crew_number, length-map crews f, length-append (map f crews) ends, ap (λ ends. length ends) are)

  pub givers_left : (n : ℕ) → before < n → length all.givers.items ≡ n → 1 ≤ length left.givers.items
  givers_left n lt many = some_left (λ (crew : Crew). crew.sender.givers) left.givers.items all.givers.items n lt many made.givers_are

  pub takers_left : (n : ℕ) → before < n → length all.takers.items ≡ n → 1 ≤ length left.takers.items
  takers_left n lt many = some_left (λ (crew : Crew). crew.receiver.takers) left.takers.items all.takers.items n lt many made.takers_are

  pub inlets_left : (n : ℕ) → before < n → length all.inlets.items ≡ n → 1 ≤ length left.inlets.items
  inlets_left n lt many = some_left (λ (crew : Crew). crew.receiver.inlets) left.inlets.items all.inlets.items n lt many made.inlets_are

  -- one crew more
  pub crews_next : (crew : Crew) (later : Workers) (more : List Crew) → more ≡ crews ++ crew ∷ [] → crew.centre ≡ before + 1 → left.callers.items ≡ crew_callers crew ++ later.callers.items → left.givers.items ≡ crew.sender.givers ∷ later.givers.items → left.takers.items ≡ crew.receiver.takers ∷ later.takers.items → left.inlets.items ≡ crew.receiver.inlets ∷ later.inlets.items → AreCrewsBefore (before + 1) all later more
  crews_next crew later more is number callers givers takers inlets = subst (AreCrewsBefore (before + 1) all later) (sym is) (record {
    numbers = numbers_more (λ (crew : Crew). crew.centre) crews crew before number made.numbers;
    callers_are = flat_more crew_callers crews crew later.callers.items all.callers.items (ap (λ left. flat_map crew_callers crews ++ left) (sym callers) ∙ made.callers_are);
    givers_are = seam_more (λ (crew : Crew). crew.sender.givers) crews crew crew.sender.givers later.givers.items all.givers.items refl (ap (λ left. map (λ (crew : Crew). crew.sender.givers) crews ++ left) (sym givers) ∙ made.givers_are);
    takers_are = seam_more (λ (crew : Crew). crew.receiver.takers) crews crew crew.receiver.takers later.takers.items all.takers.items refl (ap (λ left. map (λ (crew : Crew). crew.receiver.takers) crews ++ left) (sym takers) ∙ made.takers_are);
    inlets_are = seam_more (λ (crew : Crew). crew.receiver.inlets) crews crew crew.receiver.inlets later.inlets.items all.inlets.items refl (ap (λ left. map (λ (crew : Crew). crew.receiver.inlets) crews ++ left) (sym inlets) ∙ made.inlets_are);
  })

  -- all crews
  pub crews_made : length all.callers.items ≡ 4 * before → length all.givers.items ≡ before → length all.takers.items ≡ before → length all.inlets.items ≡ before → AreCrewsOf before all.callers.items all.givers.items all.takers.items all.inlets.items crews
  crews_made callers givers takers inlets = record {
    numbers = made.numbers;
    callers_are = all_used (flat_map crew_callers crews) left.callers.items all.callers.items made.callers_are (omega (arith, crew_count crews, crew_number, callers));
    givers_are = all_used (map (λ (crew : Crew). crew.sender.givers) crews) left.givers.items all.givers.items made.givers_are (omega (arith, length-map crews (λ (crew : Crew). crew.sender.givers), crew_number, givers));
    takers_are = all_used (map (λ (crew : Crew). crew.receiver.takers) crews) left.takers.items all.takers.items made.takers_are (omega (arith, length-map crews (λ (crew : Crew). crew.receiver.takers), crew_number, takers));
    inlets_are = all_used (map (λ (crew : Crew). crew.receiver.inlets) crews) left.inlets.items all.inlets.items made.inlets_are (omega (arith, length-map crews (λ (crew : Crew). crew.receiver.inlets), crew_number, inlets));
  }

-- callers that were cut into the first, some behind it, and the rest
pub callers_cut : (callers first one at_clients at_crews : List Caller) (operator : Caller) (count : ℕ) → first ≡ take count callers → at_crews ≡ drop count callers → at_clients ≡ drop 1 first → one ≡ take 1 first → 1 ≤ length one → operator ≡ get_or one 0 operator → callers ≡ operator ∷ (at_clients ++ at_crews)
callers_cut callers [] one at_clients at_crews operator count first_is crews clients one_is enough is = absurd (omega (arith, enough, ap (λ (callers : List Caller). length callers) one_is))
callers_cut callers (x ∷ xs) one at_clients at_crews operator count first_is crews clients one_is enough is =
    let same : operator ≡ x = is ∙ ap (λ one. get_or one 0 operator) one_is in
    sym (take-append-drop count callers)
    ∙ ((λ k. sym first_is k ++ sym crews k)
    ∙ (λ k. sym same k ∷ (sym clients k ++ at_crews)))

-- an operator, clients and crews that were made of these parts
pub cast_made : (n clients : ℕ) (parts : Parts) (callers : List Caller) (operator : Caller) (at_clients at_crews : List Caller) (players : List Player) (crews : List Crew) → AreCallersOf parts.rows.items parts.logs.items callers → callers ≡ operator ∷ (at_clients ++ at_crews) → length parts.stubs.items ≡ clients → ArePlayersOf at_clients parts.stubs.items players → AreCrewsOf n at_crews parts.givers.items parts.takers.items parts.inlets.items crews → AreActorsOf n clients parts operator players crews
cast_made n clients parts callers operator at_clients at_crews players crews are cut count at_players at_all =
    let same : callers_among operator players crews ≡ callers = (λ k. operator ∷ (at_players.callers_are k ++ at_all.callers_are k)) ∙ sym cut in
    record {
      callers = record {
        rows_are = ap (λ callers. map (λ (c : Caller). c.row) callers) same ∙ are.rows_are;
        logs_are = ap (λ callers. map (λ (c : Caller). c.log) callers) same ∙ are.logs_are;
      };
      numbers = at_players.numbers ∙ ap (λ count. range_with_len 1 count) count;
      stubs = at_players.stubs_are;
      crews = record {
        numbers = at_all.numbers;
        callers_are = refl;
        givers_are = at_all.givers_are;
        takers_are = at_all.takers_are;
        inlets_are = at_all.inlets_are;
      };
    }
