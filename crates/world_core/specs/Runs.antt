-- What runs of scripts on one thread leave.
use Rattle.std.specs.Prelude.{◌≡◌, ℕ, List, ◌++◌, map, Some}
use Rattle.script_core.specs.Steps.{IsCount}
use Rattle.script_core.specs.Scripts.{IsInRange}
use Rattle.dc_mail.specs.Posts.{post_at}
use Rattle.client_stub.specs.Playing.{StubView}
use Rattle.run_book.specs.declared.book.Book.{Book}
use Rattle.run_book.specs.Setups.{setup_of}
use Rattle.run_book.specs.Fit.{FitsWith}
use Rattle.run_book.specs.Refusals.{IsTimely}
use Rattle.run_book.specs.Happenings.{Happened}
use Rattle.run_book.specs.Moves.{Move}
use Rattle.run_book.specs.Played.{Stage, HavePlayed}
use Rattle.run_table.specs.Taps.{taps_of}
use Rattle.world_core.specs.Worlds.{WorldView, IsWorld, stub_at, progress_at}

-- a world that is not spent: the numbers of its script are in range, and something happened in it, or nothing
pub record IsSound (w : WorldView) : Type 0 where
  pub range : IsInRange w.script
  pub all : List Happened
  pub world : IsWorld w all

-- the book of what happened in a world: it has the world's trails and logs, it fits, and it is timely
pub record IsWorldBook (w : WorldView) (b : Book) : Type 0 where
  pub n : b.n ≡ w.script.n
  pub k : b.k ≡ w.script.k
  pub trails : b.trails ≡ map (λ centre. centre.entries) w.centres
  pub logs : b.logs ≡ w.logs
  pub fits : FitsWith b (setup_of w.script)
  pub timely : IsTimely b (setup_of w.script)

-- the world has made these moves of its script, one after another
pub record HasPlayed (moves : List Move) (w : WorldView) : Type 0 where
  pub all : List Happened
  pub world : IsWorld w all
  pub stage : Stage
  pub played : HavePlayed w.script moves all stage
  pub stubs : (client : ℕ) (stub : StubView) → stub_at w.stubs client ≡ Some stub → stage.come client ≡ progress_at w client stub
  pub posts : (from to : ℕ) → IsCount w.script.n from → IsCount w.script.n to → stage.posts from to ≡ post_at w.posts from to
  pub taps : (centre : ℕ) → IsCount w.script.n centre → stage.taps centre ≡ taps_of w.taps centre

-- these moves were made behind those that were made before
pub record MakesMoves (moves : List Move) (old new : WorldView) : Type 0 where
  pub script : new.script ≡ old.script
  pub spent : new.spent ≡ old.spent
  pub goes_on : (front : List Move) → HasPlayed front old → HasPlayed (front ++ moves) new
