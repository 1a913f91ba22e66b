-- What a client is by its log alone, without a cache.
use Rattle.std.specs.Prelude.{◌≡◌, ◌≤◌}
use Rattle.std.specs.Option.{option_map}
use Rattle.dc_talk.specs.Clients.{Client}
use Rattle.run_book.specs.declared.replay.Replay.{Replay}
use Rattle.run_book.specs.Edits.{edits_of}
use Rattle.ids_core.specs.declared.limits.TheConstants.{MOST_NUMBER}

-- the replay shows the client: its snapshot, its numbers, the centre that it is connected to, and what
-- its open transaction was asked for
pub record Shows (r : Replay) (s : Client) : Type 0 where
  pub client : r.client ≡ s.client
  pub vector : r.vector ≡ s.vector
  pub own : r.own ≡ s.own
  pub mine : r.mine ≡ s.mine
  pub clock : r.clock ≡ s.clock
  pub centre : r.centre ≡ option_map (λ link. link.centre) s.link
  pub open_edits : r.open ≡ option_map edits_of s.draft

-- neither the number of the client's commits nor its clock passes the greatest rank
pub record IsInRange (s : Client) : Type 0 where
  pub own : s.own ≤ MOST_NUMBER
  pub clock : s.clock ≤ MOST_NUMBER
