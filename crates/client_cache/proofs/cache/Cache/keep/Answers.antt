use Rattle.std.proofs.Common.{◌≤◌, length, ap, ◌∙◌, arith}
use Rattle.dc_talk.specs.Clients.{kept}
use Rattle.client_cache.specs.Tables.{as_entry, entries_of}
use Rattle.client_cache.proofs.Tables.{put}
use Rattle.client_cache.proofs.cache.Cache.keep.Goals as goal

pub returns-clause-ok : goal.returns-clause-ok
returns-clause-ok c =
    let o = c.args.object.now in
    let table = c.self.inside.table in
    let valid = c.len-size.ensures.valid in
    let some : 1 ≤ table.cap = omega (arith, valid.2) in
    let few : length table.entries ≤ table.cap = valid.1 in
    rw (← c.self.view_is) (ap (λ t. entries_of t.entries) c.in_ok-put.ensures.entries ∙ (put o table c.new-held.result some few ∙ ap (λ h. kept table.cap (as_entry (o, h)) (entries_of table.entries)) c.new-held.ensures))
