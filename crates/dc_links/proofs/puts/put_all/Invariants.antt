use Rattle.std.proofs.Common.{◌≡◌, ◌++◌}
use Rattle.link_frames.specs.Frames.{framed}
use Rattle.dc_links.specs.Links.{IsMore}
use Rattle.dc_links.proofs.puts.put_all.Given as goal

abbrev pub invariant-items : goal.invariant-items
invariant-items g l = record {
  link : l.giver.link ≡ l.link;
  put : l.fn.giver.put ++ framed l.fn.items ≡ l.giver.put ++ framed l.item-iterator.rest.items;
  kept : IsMore l.fn.giver.put l.giver.put;
}
