use Rattle.std.proofs.Common.{◌≡◌, [], ◌∷◌, ◌++◌, ◌∙◌, ap, rules}
use Rattle.link_frames.specs.Frames.{framed}
use Rattle.dc_links.proofs.Sending.{put_next, more_next}
use Rattle.dc_links.proofs.puts.put_all.Goals as goal

pub items-preserved : goal.items-preserved
items-preserved g c =
    let rest = c.next.new.self.rest.items in
    let left : c.items.item-iterator.rest.items ≡ c.in-Some.item ∷ rest = search rules in
    record {
      link = c.in_ok-put_one.ensures.link;
      put = put_next c.args.giver.now.put c.items.giver.put c.put_one.new.giver.put c.args.items rest c.in-Some.item (c.items.invariant.put ∙ ap (λ items. c.items.giver.put ++ framed items) left) c.in_ok-put_one.ensures.put;
      kept = more_next c.args.giver.now.put c.items.giver.put c.put_one.new.giver.put (framed (c.in-Some.item ∷ [])) c.items.invariant.kept c.in_ok-put_one.ensures.put;
    }
