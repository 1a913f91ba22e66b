-- What a session stands on, by what the centres answered.
use Rattle.std.specs.Prelude.{ℕ, length, take, flat_map, List, ◌++◌, Option, Some, None}
use Rattle.std.specs.List.{filter_map}
use Rattle.ids_core.specs.declared.ids.Dot.{Dot}
use Rattle.vv_core.specs.Vectors.{at, centres}
use Rattle.dc_talk.specs.declared.ask.Ask.{Ask}
use Rattle.dc_talk.specs.declared.ask.Ask.TheVariants.{Commit}
use Rattle.dc_talk.specs.declared.say.Say.{Say}
use Rattle.dc_talk.specs.declared.say.Say.TheVariants.{Stamped}
use Rattle.dc_talk.specs.Entries.{Entry}
use Rattle.run_book.specs.declared.book.Book.{Book}
use Rattle.run_book.specs.declared.replay.Replay.{Replay}
use Rattle.run_book.specs.Parts.{trail_of}
use Rattle.run_book.specs.Graphs.{own_dots}

-- the dot of a commit that got a stamp
abbrev pub dot_stamped : Ask → Say → Option Dot
dot_stamped (Commit tx) (Stamped stamp) = Some tx.dot
dot_stamped _ _ = None

-- the dots of the commits that the centre of a trail stamped, in order
abbrev pub stamped_dots : List Entry → List Dot
stamped_dots trail = filter_map (λ entry. dot_stamped entry.ask entry.say) trail

-- the dots that a vector covers: those that each centre stamped first, as many as its entry says
abbrev pub stamped_cover : Book → List ℕ → List Dot
stamped_cover b vector = flat_map (λ e. take (at vector e) (stamped_dots (trail_of b e))) (centres (length vector))

-- what the client of a replay stands on: what its snapshot covers, and all that it committed
abbrev pub basis_of : Book → Replay → List Dot
basis_of b r = stamped_cover b r.vector ++ own_dots r.client r.own
