-- What the bytes of an item spell, as a fault leaves them.
use Rattle.std.proofs.Common.{◌≡◌, ℕ, Bool, true, false, cond, Some, None, ap}
use Rattle.dc_talk.specs.declared.sent.Sent.{Sent}
use Rattle.dc_talk.specs.declared.links.LinkFault.{LinkFault}
use Rattle.dc_talk.specs.declared.links.LinkFault.TheVariants.{Clean, Drop, Twice, Hold, Cut, Bend}
use Rattle.dc_talk.specs.declared.links.FrameFault.TheVariants.{Short, Bad}
use Rattle.link_frames.specs.Spelling.{spelling}
use Rattle.link_frames.specs.Frames.{HasFrame}
use Rattle.link_frames.specs.Reading.{read_whole}
use Rattle.link_frames.specs.Spoiling.{cut_of, bent_of}
use Rattle.link_frames.proofs.Items.{item_read, cut_short, bend_bad}
use Rattle.script_core.specs.Links.{is_nth, read_with, left_by}
use Rattle.dc_worker.specs.Inlets.{read_as}
use Rattle.dc_worker.specs.ItemBytes.{spoilt}

-- it is the record, or the fault of the bytes
pub bytes_left : (fault : LinkFault) (number : ℕ) (sent : Sent) → HasFrame sent → read_as number (read_whole (spoilt fault number (spelling sent))) ≡ left_by fault number sent
bytes_left Clean number sent h = ap (read_as number) (item_read sent h)
bytes_left (Drop every) number sent h = ap (read_as number) (item_read sent h)
bytes_left (Twice every) number sent h = ap (read_as number) (item_read sent h)
bytes_left (Hold every) number sent h = ap (read_as number) (item_read sent h)
bytes_left (Cut every) number sent h = go (is_nth every number)
  where
    go : (test : Bool) → read_as number (read_whole (cond test (cut_of (spelling sent)) (spelling sent))) ≡ read_with (cond test (Some Short) None) number sent
    go true = ap (read_as number) (cut_short sent h)
    go false = ap (read_as number) (item_read sent h)
bytes_left (Bend every) number sent h = go (is_nth every number)
  where
    go : (test : Bool) → read_as number (read_whole (cond test (bent_of (spelling sent)) (spelling sent))) ≡ read_with (cond test (Some (Bad 1)) None) number sent
    go true = ap (read_as number) (bend_bad sent)
    go false = ap (read_as number) (item_read sent h)
