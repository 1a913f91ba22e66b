-- What comes of an ask, by its purpose.
use Rattle.std.specs.Prelude.{ℕ, Bool, true, false, ◌&&◌, cond, Option, None}
use Rattle.dc_talk.specs.declared.log.Fate.{Fate}
use Rattle.dc_talk.specs.declared.line.Line.{Line}
use Rattle.script_core.specs.Deeds.{hello_line, fetch_line, push_line, goes_on, is_pruned, refresh_line}
use Rattle.client_stub.specs.declared.purpose.Purpose.{Purpose}
use Rattle.client_stub.specs.declared.purpose.Purpose.TheVariants.{Connect, Fetch, Push, Flush, Refresh}
use Rattle.client_stub.specs.declared.purpose.Next.{Next}
use Rattle.client_stub.specs.declared.purpose.Next.TheVariants.{Done, GoesOn, AsksOn}

-- the line that is told after an ask, by whether the session took what became of it
abbrev pub line_after : Purpose → ℕ → Bool → Fate → Option Line
line_after (Connect centre) client took fate = hello_line client centre fate
line_after (Fetch c) client took fate = cond took None (fetch_line client c fate)
line_after (Push number) client took fate = push_line client number fate
line_after (Flush number) client took fate = cond (goes_on fate) None (push_line client number fate)
line_after Refresh client took fate = refresh_line client took fate

-- what a step does that goes on where this is so
abbrev pub next_where : Bool → Next
next_where goes = cond goes GoesOn Done

-- what the step does after an ask, by whether the session took what became of it
abbrev pub next_after : Purpose → Bool → Fate → Next
next_after (Fetch c) took fate = cond (took && is_pruned fate) AsksOn (next_where took)
next_after (Flush number) took fate = next_where (goes_on fate)
next_after _ took fate = next_where took

-- whether the step goes on in any way
abbrev pub is_more : Next → Bool
is_more Done = false
is_more _ = true
