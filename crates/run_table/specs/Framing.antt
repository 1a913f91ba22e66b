-- Deeds of a sender whose records have frames.
use Rattle.std.specs.Prelude.{◌≡◌, ℕ, List}
use Rattle.dc_talk.specs.declared.log.Deed.{Deed}
use Rattle.link_frames.specs.Frames.{framed}
use Rattle.script_core.specs.Rounds.{mailed}

-- all that they mail has frames
abbrev pub AreFramed : List Deed → Type 0
AreFramed deeds = (to : ℕ) → framed (mailed to deeds) ≡ mailed to deeds
