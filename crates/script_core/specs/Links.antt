-- What the fault of a link makes of the items that are taken from it.
use Rattle.std.specs.Prelude.{ℕ, ◌+◌, ◌-◌, ◌%◌, ◌==◌, Bool, false, cond, not, List, [], ◌∷◌, ◌++◌, map, filter, flat_map, length, take, drop, Option, Some, None}
use Rattle.dc_talk.specs.declared.links.LinkFault.{LinkFault}
use Rattle.dc_talk.specs.declared.links.LinkFault.TheVariants.{Clean, Drop, Twice, Hold, Cut, Bend}
use Rattle.dc_talk.specs.declared.links.FrameFault.{FrameFault}
use Rattle.dc_talk.specs.declared.links.FrameFault.TheVariants.{Short, Bad}
use Rattle.dc_talk.specs.declared.links.Arrival.{Arrival}
use Rattle.dc_talk.specs.declared.links.Arrival.TheVariants.{Whole, Spoilt}

-- a number is a multiple of another one
abbrev pub is_nth : ℕ → ℕ → Bool
is_nth every number = number % every == 0

-- whether the item of a number is held: it waits for the next one
abbrev pub is_held : LinkFault → ℕ → Bool
is_held (Hold every) number = is_nth every number
is_held _ number = false

-- why the item of a number is no record, where the fault spoils its bytes: without the last one a frame ends too early,
-- and the second one is the version, which is never 0
abbrev pub spoils : LinkFault → ℕ → Option FrameFault
spoils (Cut every) number = cond (is_nth every number) (Some Short) None
spoils (Bend every) number = cond (is_nth every number) (Some (Bad 1)) None
spoils _ number = None

module _ {X : Type 0} where
  -- an item as its bytes are then read
  abbrev pub read_with : Option FrameFault → ℕ → X → Arrival X
  read_with None number item = Whole item
  read_with (Some why) number item = Spoilt number why

  -- the item of a number as the fault leaves it
  abbrev pub left_by : LinkFault → ℕ → X → Arrival X
  left_by fault number item = read_with (spoils fault number) number item

  -- items as the fault leaves them, where so many came before them
  abbrev pub all_left_by : LinkFault → ℕ → List X → List (Arrival X)
  all_left_by fault before [] = []
  all_left_by fault before (x ∷ xs) = left_by fault (before + 1) x ∷ all_left_by fault (before + 1) xs

  -- what was read of them
  abbrev pub wholes : List (Arrival X) → List X
  wholes [] = []
  wholes (Whole x ∷ xs) = x ∷ wholes xs
  wholes (Spoilt number why ∷ xs) = wholes xs

  -- items with their numbers, where so many came before them
  abbrev pub numbered_on : ℕ → List X → List (ℕ × X)
  numbered_on before [] = []
  numbered_on before (x ∷ xs) = (before + 1, x) ∷ numbered_on (before + 1) xs

  -- each N-th item changes places with the next one
  abbrev pub swapped : ℕ → ℕ → List X → List X
  swapped every before [] = []
  swapped every before (x ∷ []) = x ∷ []
  swapped every before (x ∷ y ∷ rest) = cond (is_nth every (before + 1)) (y ∷ x ∷ swapped every (before + 2) rest) (x ∷ swapped every (before + 1) (y ∷ rest))

  -- what passes of items as they were left, where so many came before them since the fault was set and no more come:
  -- where each item is held, each passes as the next one is taken, so they keep their order
  abbrev pub through : LinkFault → ℕ → List X → List X
  through Clean before items = items
  through (Drop every) before items = map (λ it. it.1) (filter (λ it. not (is_nth every it.0)) (numbered_on before items))
  through (Twice every) before items = flat_map (λ it. cond (is_nth every it.0) (it.1 ∷ it.1 ∷ []) (it.1 ∷ [])) (numbered_on before items)
  through (Hold every) before items = cond (every == 1) items (swapped every before items)
  through (Cut every) before items = items
  through (Bend every) before items = items

  -- how many of the items are held
  abbrev pub held_count : LinkFault → ℕ → List X → ℕ
  held_count fault before [] = 0
  held_count fault before (x ∷ xs) = cond (is_held fault (before + length (x ∷ xs))) 1 0

  -- what passes of them while more may come: all but what is held
  abbrev pub passed : LinkFault → ℕ → List X → List X
  passed fault before items = take (length (through fault before items) - held_count fault before items) (through fault before items)

  -- what was held comes directly behind what passes of the first item
  abbrev pub behind_first : LinkFault → ℕ → List X → List X → List X
  behind_first fault before held [] = held
  behind_first fault before held (x ∷ xs) = let place : ℕ = length (passed fault before (x ∷ [])) in take place (through fault before (x ∷ xs)) ++ held ++ drop place (through fault before (x ∷ xs))

-- the end of a link at which items are taken: the fault of the link, how many items were taken since that was set, and
-- the item that is held, where one is, as it was left
pub record Inlet (X : Type 0) : Type 0 where
  pub fault : LinkFault
  pub before : ℕ
  pub held : List (Arrival X)

module _ {X : Type 0} where
  -- the end of a new link
  abbrev pub clean_inlet : Inlet X
  clean_inlet = record { fault = Clean; before = 0; held = [] }

  -- what arrives as items are taken, and no more come
  abbrev pub arrivals : Inlet X → List X → List (Arrival X)
  arrivals inlet items = behind_first inlet.fault inlet.before inlet.held (all_left_by inlet.fault inlet.before items)

  -- how many are held when items were taken
  abbrev pub still_held : Inlet X → List X → ℕ
  still_held inlet [] = length inlet.held
  still_held inlet (x ∷ xs) = held_count inlet.fault inlet.before (x ∷ xs)

  -- how many arrive as items are taken, while more may come
  abbrev pub arrived_count : Inlet X → List X → ℕ
  arrived_count inlet items = length (arrivals inlet items) - still_held inlet items

  -- these arrive then
  abbrev pub arrived : Inlet X → List X → List (Arrival X)
  arrived inlet items = take (arrived_count inlet items) (arrivals inlet items)

  -- the end when items were taken: the rest is held
  abbrev pub inlet_after : Inlet X → List X → Inlet X
  inlet_after inlet items = record { fault = inlet.fault; before = inlet.before + length items; held = drop (arrived_count inlet items) (arrivals inlet items) }

  -- the end when items were taken and no more come
  abbrev pub inlet_closed : Inlet X → List X → Inlet X
  inlet_closed inlet items = record { fault = inlet.fault; before = inlet.before + length items; held = [] }

  -- the end with another fault, which counts anew
  abbrev pub inlet_set : LinkFault → Inlet X → Inlet X
  inlet_set fault inlet = record { fault = fault; before = 0; held = inlet.held }
