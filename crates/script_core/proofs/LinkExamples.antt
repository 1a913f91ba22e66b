-- What faults of a link make of items, by the definitions alone.
use Rattle.std.proofs.Common.{◌≡◌, ℕ, List, [], ◌∷◌, refl}
use Rattle.dc_talk.specs.declared.links.LinkFault.{LinkFault}
use Rattle.dc_talk.specs.declared.links.LinkFault.TheVariants.{Clean, Drop, Twice, Hold, Cut, Bend}
use Rattle.dc_talk.specs.declared.links.FrameFault.TheVariants.{Short, Bad}
use Rattle.dc_talk.specs.declared.links.Arrival.TheVariants.{Whole, Spoilt}
use Rattle.script_core.specs.Links.{Inlet, wholes, through, clean_inlet, arrivals, arrived, inlet_after, inlet_closed, inlet_set}

-- five items
abbrev five : List ℕ
five = 1 ∷ 2 ∷ 3 ∷ 4 ∷ 5 ∷ []

-- the end of a link whose fault was set, before any item
abbrev set_to : LinkFault → Inlet ℕ
set_to fault = inlet_set fault clean_inlet

-- ---- all items at once

all_pass : through Clean 0 five ≡ five
all_pass = refl

each_second_dropped : through (Drop 2) 0 five ≡ 1 ∷ 3 ∷ 5 ∷ []
each_second_dropped = refl

all_dropped : through (Drop 1) 0 five ≡ []
all_dropped = refl

each_second_twice : through (Twice 2) 0 five ≡ 1 ∷ 2 ∷ 2 ∷ 3 ∷ 4 ∷ 4 ∷ 5 ∷ []
each_second_twice = refl

each_second_held : through (Hold 2) 0 five ≡ 1 ∷ 3 ∷ 2 ∷ 5 ∷ 4 ∷ []
each_second_held = refl

each_third_held : through (Hold 3) 0 five ≡ 1 ∷ 2 ∷ 4 ∷ 3 ∷ 5 ∷ []
each_third_held = refl

-- each is delivered as the next one is taken, so they keep their order
all_held : through (Hold 1) 0 five ≡ five
all_held = refl

-- where no item comes behind it, a held one is the last
last_held : through {X = ℕ} (Hold 2) 0 (1 ∷ 2 ∷ []) ≡ 1 ∷ 2 ∷ []
last_held = refl

-- items are counted on from those before them
counted_on : through (Drop 3) 2 five ≡ 2 ∷ 3 ∷ 5 ∷ []
counted_on = refl

-- ---- in two portions: what is delivered of each, and the end behind the first

-- the end behind the first two and the first four of the items
abbrev behind_two : LinkFault → Inlet ℕ
behind_two fault = inlet_after (set_to fault) (1 ∷ 2 ∷ [])

abbrev behind_four : LinkFault → Inlet ℕ
behind_four fault = inlet_after (set_to fault) (1 ∷ 2 ∷ 3 ∷ 4 ∷ [])

two_of_dropped : wholes (arrived (set_to (Drop 2)) (1 ∷ 2 ∷ [])) ≡ 1 ∷ []
two_of_dropped = refl

three_of_dropped : wholes (arrived (behind_two (Drop 2)) (3 ∷ 4 ∷ 5 ∷ [])) ≡ 3 ∷ 5 ∷ []
three_of_dropped = refl

three_of_twice : wholes (arrived (behind_two (Twice 2)) (3 ∷ 4 ∷ 5 ∷ [])) ≡ 3 ∷ 4 ∷ 4 ∷ 5 ∷ []
three_of_twice = refl

-- the second is held at the end of the first portion, and comes directly behind the third
two_of_held : wholes (arrived (set_to (Hold 2)) (1 ∷ 2 ∷ [])) ≡ 1 ∷ []
two_of_held = refl

held_between : behind_two (Hold 2) ≡ record { fault = Hold 2; before = 2; held = Whole 2 ∷ [] }
held_between = refl

three_of_held : wholes (arrived (behind_two (Hold 2)) (3 ∷ 4 ∷ 5 ∷ [])) ≡ 3 ∷ 2 ∷ 5 ∷ 4 ∷ []
three_of_held = refl

none_held_then : inlet_after (behind_two (Hold 2)) (3 ∷ 4 ∷ 5 ∷ []) ≡ record { fault = Hold 2; before = 5; held = [] }
none_held_then = refl

-- a portion without items delivers nothing, and what is held stays so
none_of_held : wholes (arrived (behind_two (Hold 2)) []) ≡ []
none_of_held = refl

held_on : inlet_after (behind_two (Hold 2)) [] ≡ behind_two (Hold 2)
held_on = refl

-- a portion that ends with one that is held
four_of_held : wholes (arrived (set_to (Hold 2)) (1 ∷ 2 ∷ 3 ∷ 4 ∷ [])) ≡ 1 ∷ 3 ∷ 2 ∷ []
four_of_held = refl

last_of_held : wholes (arrived (behind_four (Hold 2)) (5 ∷ [])) ≡ 5 ∷ 4 ∷ []
last_of_held = refl

two_of_third_held : wholes (arrived (set_to (Hold 3)) (1 ∷ 2 ∷ 3 ∷ [])) ≡ 1 ∷ 2 ∷ []
two_of_third_held = refl

rest_of_third_held : wholes (arrived (inlet_after (set_to (Hold 3)) (1 ∷ 2 ∷ 3 ∷ [])) (4 ∷ 5 ∷ [])) ≡ 4 ∷ 3 ∷ 5 ∷ []
rest_of_third_held = refl

-- where each is held, each is delivered as the next one is taken
one_of_all_held : wholes (arrived (set_to (Hold 1)) (1 ∷ [])) ≡ []
one_of_all_held = refl

two_of_all_held : wholes (arrived (set_to (Hold 1)) (1 ∷ 2 ∷ [])) ≡ 1 ∷ []
two_of_all_held = refl

rest_of_all_held : wholes (arrived (behind_two (Hold 1)) (3 ∷ 4 ∷ 5 ∷ [])) ≡ 2 ∷ 3 ∷ 4 ∷ []
rest_of_all_held = refl

fifth_held : inlet_after (behind_two (Hold 1)) (3 ∷ 4 ∷ 5 ∷ []) ≡ record { fault = Hold 1; before = 5; held = Whole 5 ∷ [] }
fifth_held = refl

-- ---- where no more items come

close_held : wholes (arrivals (behind_two (Hold 2)) []) ≡ 2 ∷ []
close_held = refl

close_all_held : wholes (arrivals (behind_two (Hold 1)) (3 ∷ 4 ∷ 5 ∷ [])) ≡ 2 ∷ 3 ∷ 4 ∷ 5 ∷ []
close_all_held = refl

close_four : wholes (arrivals (behind_two (Hold 2)) (3 ∷ 4 ∷ [])) ≡ 3 ∷ 2 ∷ 4 ∷ []
close_four = refl

-- items are counted on behind it
closed : inlet_closed (behind_two (Hold 2)) (3 ∷ 4 ∷ []) ≡ record { fault = Hold 2; before = 4; held = [] }
closed = refl

-- ---- another fault while an item is held: it counts anew, and the held one comes behind the next all the same

abbrev replaced : LinkFault → Inlet ℕ
replaced fault = inlet_set fault (behind_two (Hold 2))

replaced_clean : wholes (arrived (replaced Clean) (3 ∷ 4 ∷ [])) ≡ 3 ∷ 2 ∷ 4 ∷ []
replaced_clean = refl

replaced_drop : wholes (arrived (replaced (Drop 2)) (3 ∷ 4 ∷ 5 ∷ [])) ≡ 3 ∷ 2 ∷ 5 ∷ []
replaced_drop = refl

-- where the next one is dropped too, the held one comes in its place
replaced_drop_all : wholes (arrived (replaced (Drop 1)) (3 ∷ 4 ∷ [])) ≡ 2 ∷ []
replaced_drop_all = refl

replaced_twice : wholes (arrived (replaced (Twice 1)) (3 ∷ 4 ∷ [])) ≡ 3 ∷ 3 ∷ 2 ∷ 4 ∷ 4 ∷ []
replaced_twice = refl

replaced_hold : wholes (arrived (replaced (Hold 3)) (3 ∷ 4 ∷ 5 ∷ [])) ≡ 3 ∷ 2 ∷ 4 ∷ []
replaced_hold = refl

replaced_hold_all : wholes (arrived (replaced (Hold 1)) (3 ∷ 4 ∷ [])) ≡ 2 ∷ 3 ∷ []
replaced_hold_all = refl

-- ---- items whose bytes are spoilt: nothing is delivered of them, and what is held before them comes behind them

each_second_cut : arrivals (set_to (Cut 2)) five ≡ Whole 1 ∷ Spoilt 2 Short ∷ Whole 3 ∷ Spoilt 4 Short ∷ Whole 5 ∷ []
each_second_cut = refl

each_third_bent : arrivals (set_to (Bend 3)) five ≡ Whole 1 ∷ Whole 2 ∷ Spoilt 3 (Bad 1) ∷ Whole 4 ∷ Whole 5 ∷ []
each_third_bent = refl

-- all of them have arrived, so none is held
none_cut_later : inlet_after (set_to (Cut 2)) (1 ∷ 2 ∷ []) ≡ record { fault = Cut 2; before = 2; held = [] }
none_cut_later = refl

counted_between : arrived (behind_two (Bend 3)) (3 ∷ 4 ∷ []) ≡ Spoilt 3 (Bad 1) ∷ Whole 4 ∷ []
counted_between = refl

replaced_cut : arrived (replaced (Cut 1)) (3 ∷ 4 ∷ []) ≡ Spoilt 1 Short ∷ Whole 2 ∷ Spoilt 2 Short ∷ []
replaced_cut = refl
