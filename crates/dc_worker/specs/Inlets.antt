-- What a receiver makes of one item that it takes from a link.
use Rattle.std.specs.Prelude.{ℕ, ◌≤◌, cond, List, [], ◌∷◌, ◌++◌, Result, Ok, Err}
use Rattle.std.specs.Option.{option_to_list}
use Rattle.dc_talk.specs.declared.sent.Sent.{Sent}
use Rattle.dc_talk.specs.declared.links.LinkFault.{LinkFault}
use Rattle.dc_talk.specs.declared.links.LinkFault.TheVariants.{Clean, Drop, Twice, Hold, Cut, Bend}
use Rattle.dc_talk.specs.declared.links.FrameFault.{FrameFault}
use Rattle.dc_talk.specs.declared.links.Arrival.{Arrival}
use Rattle.dc_talk.specs.declared.links.Arrival.TheVariants.{Whole, Spoilt}
use Rattle.script_core.specs.Links.{is_nth, is_held, left_by}
use Rattle.dc_worker.specs.declared.inlets.Lot.{Lot}
use Rattle.dc_worker.specs.declared.inlets.Due.{Due}

-- the number to which a fault counts is at least 1
abbrev pub HasCount : LinkFault → Type 0
HasCount Clean = Unit {0}
HasCount (Drop every) = 1 ≤ every
HasCount (Twice every) = 1 ≤ every
HasCount (Hold every) = 1 ≤ every
HasCount (Cut every) = 1 ≤ every
HasCount (Bend every) = 1 ≤ every

module _ {Y : Type 0} where
  -- what passes at once of the item of a number, as it was left
  abbrev pub at_once : LinkFault → ℕ → Y → List Y
  at_once Clean number y = y ∷ []
  at_once (Drop every) number y = cond (is_nth every number) [] (y ∷ [])
  at_once (Twice every) number y = cond (is_nth every number) (y ∷ y ∷ []) (y ∷ [])
  at_once (Hold every) number y = cond (is_nth every number) [] (y ∷ [])
  at_once (Cut every) number y = y ∷ []
  at_once (Bend every) number y = y ∷ []

  -- what is kept back of it
  abbrev pub kept_back : LinkFault → ℕ → Y → List Y
  kept_back fault number y = cond (is_held fault number) (y ∷ []) []

module _ {X : Type 0} where
  -- what arrives of the item of a number as it is taken
  abbrev pub comes : LinkFault → ℕ → X → List (Arrival X)
  comes fault number x = at_once fault number (left_by fault number x)

  -- what is held of it
  abbrev pub stays : LinkFault → ℕ → X → List (Arrival X)
  stays fault number x = kept_back fault number (left_by fault number x)

-- the item of a number, as its bytes were read
abbrev pub read_as : ℕ → Result Sent FrameFault → Arrival Sent
read_as number (Ok sent) = Whole sent
read_as number (Err why) = Spoilt number why

-- what is due of a lot
abbrev pub lot_items : Lot → List (Arrival Sent)
lot_items lot = option_to_list lot.first ++ option_to_list lot.again

-- what is due
abbrev pub due_items : Due → List (Arrival Sent)
due_items due = option_to_list due.first ++ option_to_list due.again ++ option_to_list due.held
