-- A guard taken apart: what is noted of each client that has a number.
use Rattle.std.specs.Prelude.{◌≡◌, ◌≤◌, ◌<◌, ◌==◌, ◌+◌, ℕ, cond, List, [], ◌∷◌, All, Option, Some, None}
use Rattle.std.specs.Option.{option_map}
use Rattle.list_core.specs.Members.{In}
use Rattle.ids_core.specs.declared.limits.TheConstants.{MOST_CLIENTS}
use Rattle.dup_guard.specs.declared.guard.Last.{Last}
use Rattle.dup_guard.specs.declared.noted.Noted.{Noted}
use Rattle.dup_guard.specs.Notes.{number_of, stamp_of}

-- what is noted of a client, where a number is
abbrev pub note_of : List Last → ℕ → Option Noted
note_of lasts client = option_map (λ stamp. record { client = client; number = number_of lasts client; stamp = stamp }) (stamp_of lasts client)

-- the part of a client, where there is one
abbrev pub part_of : List Noted → ℕ → Option Noted
part_of [] client = None
part_of (p ∷ parts) client = cond (p.client == client) (Some p) (part_of parts client)

-- the clients ascend
abbrev pub Ascends : List Noted → Type 0
Ascends [] = Unit {0}
Ascends (p ∷ parts) = ((q : Noted) → In q parts → p.client < q.client) × Ascends parts

-- parts of which a guard can be made: of clients that ascend, each with a number
pub record AreParts (parts : List Noted) : Type 0 where
  pub ascends : Ascends parts
  pub clients : All (λ p. (1 ≤ p.client) × (p.client ≤ MOST_CLIENTS)) parts
  pub numbers : All (λ p. 1 ≤ p.number) parts

-- the parts are those of the guard: each client's is what is noted of it
abbrev pub ArePartsOf : List Last → List Noted → Type 0
ArePartsOf lasts parts = (client : ℕ) → part_of parts client ≡ note_of lasts client

-- what is noted of the clients from one on, ascending
abbrev pub noted_from : ℕ → List Last → List Noted
noted_from client [] = []
noted_from client (last ∷ lasts) = cond (last.number == 0) (noted_from (client + 1) lasts) (record { client = client; number = last.number; stamp = last.stamp } ∷ noted_from (client + 1) lasts)
