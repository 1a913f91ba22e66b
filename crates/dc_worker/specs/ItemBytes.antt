-- What a fault of a link makes of the bytes of an item.
use Rattle.std.specs.Prelude.{ℕ, cond, List}
use Rattle.dc_talk.specs.declared.links.LinkFault.{LinkFault}
use Rattle.dc_talk.specs.declared.links.LinkFault.TheVariants.{Cut, Bend}
use Rattle.link_frames.specs.Spoiling.{cut_of, bent_of}
use Rattle.script_core.specs.Links.{is_nth}

-- the bytes of the item of a number, as the fault leaves them
abbrev pub spoilt : LinkFault → ℕ → List ℕ → List ℕ
spoilt (Cut every) number bytes = cond (is_nth every number) (cut_of bytes) bytes
spoilt (Bend every) number bytes = cond (is_nth every number) (bent_of bytes) bytes
spoilt _ number bytes = bytes
