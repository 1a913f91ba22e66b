use Rattle.std.proofs.Common.{◌≡◌}
use Rattle.std.specs.Prelude.{replicate}
use Rattle.script_core.specs.Mail.{new_post}
use Rattle.dc_mail.proofs.posts.Posts.new.Given as goal

abbrev pub invariant-places : goal.invariant-places
invariant-places l = l.spots.items ≡ replicate l._place new_post
