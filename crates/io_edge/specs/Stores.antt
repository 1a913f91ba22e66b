-- What a source and a sink in memory are seen as, and what one call makes of them.
use Rattle.std.specs.Prelude.{ℕ, ◌+◌, ◌-◌, ◌^◌, List, [], ◌++◌, drop, min}

-- the number after this one; the last of 64 bits stays
abbrev pub one_more : ℕ → ℕ
one_more n = min (n + 1) (2 ^ 64 - 1)

-- the bytes left, how many go in a call at most, which calls fail, and how many were made and failed
pub record Supply : Type 0 where
  pub left : List ℕ
  pub step : ℕ
  pub fails : List ℕ
  pub calls : ℕ
  pub faults : ℕ

-- a supply before its first call
abbrev pub new_supply : List ℕ → ℕ → List ℕ → Supply
new_supply bytes step fails = record { left = bytes; step = step; fails = fails; calls = 0; faults = 0 }

-- a supply after a call that gave this many bytes
abbrev pub left_after : ℕ → Supply → Supply
left_after n s = record s { left = drop n s.left; calls = one_more s.calls }

-- a supply after a call that failed
abbrev pub read_failed : Supply → Supply
read_failed s = record s { calls = one_more s.calls; faults = one_more s.faults }

-- the bytes taken, how many go in a call at most, which calls fail, and how many were made and failed
pub record Store : Type 0 where
  pub taken : List ℕ
  pub step : ℕ
  pub fails : List ℕ
  pub calls : ℕ
  pub faults : ℕ

-- a store before its first call
abbrev pub new_store : ℕ → List ℕ → Store
new_store step fails = record { taken = []; step = step; fails = fails; calls = 0; faults = 0 }

-- a store after a call that took this piece
abbrev pub took : List ℕ → Store → Store
took piece s = record s { taken = s.taken ++ piece; calls = one_more s.calls }

-- a store after a call that failed
abbrev pub write_failed : Store → Store
write_failed s = record s { calls = one_more s.calls; faults = one_more s.faults }

-- a store after a call that found no memory
abbrev pub found_no_room : Store → Store
found_no_room s = record s { calls = one_more s.calls }
