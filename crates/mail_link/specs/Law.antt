-- The rule of a link: what was put is what was taken, and then what lies in the queue. One end at most may put, and it
-- has the list of what was put; so it is with taking.
use Rattle.std.specs.Prelude.{◌≡◌, ℕ, Bool, true, List, ◌++◌}
use mathlib.Core.Option.{some}
use lib.ListN.{get_elem?}
use Rattle.mail_link.specs.declared.law.Role.{Role}

module _ {T : Type 0} where
  -- an end that may put or not, and take or not, with what it has put and taken
  abbrev pub role : Bool → Bool → List T → List T → Role T
  role puts takes put taken = record { puts = puts; takes = takes; put = put; taken = taken }

  -- an end fits: if it may put it is the one that does, and has what was put; so it is with taking
  abbrev pub Fits : ℕ → ℕ → List T → List T → ℕ → Role T → Type 0
  Fits giver taker put taken seat v = (v.puts ≡ true → (seat ≡ giver) × (v.put ≡ put)) × (v.takes ≡ true → (seat ≡ taker) × (v.taken ≡ taken))

  -- the rule
  abbrev pub Ordered : List T → List (Role T) → Type 0
  Ordered items views = (giver : ℕ) × (taker : ℕ) × (put : List T) × (taken : List T) × (put ≡ taken ++ items)
      × ((seat : ℕ) (v : Role T) → get_elem? views seat ≡ some v → Fits giver taker put taken seat v)
