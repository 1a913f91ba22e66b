-- The generator of made scripts: the linear congruential one that the C standard shows for `rand`.
use Rattle.std.specs.Prelude.{ℕ, ◌+◌, ◌*◌, ◌/◌, ◌%◌, ◌^◌}

-- the state behind one more draw
abbrev pub next_state : ℕ → ℕ
next_state state = (state * 1103515245 + 12345) % 2 ^ 31

-- the number below a bound that is drawn at a state
abbrev pub drawn : ℕ → ℕ → ℕ
drawn bound state = (next_state state / 65536) % bound
