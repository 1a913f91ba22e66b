-- The book of a world.
use Rattle.std.proofs.Common.{◌≡◌, List, map, length, sym, ap, ◌∙◌, subst, arith}
use Rattle.std.specs.Prelude.{Result, Ok, Err, IfOk}
use Rattle.std.proofs.lemmas.List.{length-map}
use Rattle.dc_talk.specs.Entries.{Entry}
use Rattle.dc_talk.specs.Logs.{Logged}
use Rattle.dc_door.specs.Centres.{CentreTrail}
use Rattle.script_core.specs.declared.script.Script.{Script}
use Rattle.run_book.specs.declared.book.Book.{Book}
use Rattle.run_book.specs.Setups.{setup_of}
use Rattle.run_book.specs.Happenings.{Happened, InRange, IsBookOf}
use Rattle.run_book.specs.Moves.{moves_of}
use Rattle.run_book.specs.Played.{HavePlayed}
use Rattle.run_book.proofs.Happenings.Fits.{fits}
use Rattle.run_book.proofs.Happenings.Timely.{timely}
use Rattle.run_book.proofs.Happenings.Playing.{scripted}
use Rattle.world_core.specs.Worlds.{WorldView, IsWorld}
use Rattle.script_core.specs.Scripts.{IsInRange}
use Rattle.run_sections.specs.OneThread.{IsRunOf}
use Rattle.world_core.specs.Runs.{IsSound, IsWorldBook, HasPlayed}
use Rattle.run_table.proofs.Reading.{trails_match, logs_match}
use Rattle.world_core.proofs.Worlds.{centre_count}

-- the numbers of the run are in range
in_range : (script : Script) → IsInRange script → InRange script.n script.k (setup_of script)
in_range script range = record {
  n_range = range.header.n;
  k_range = range.header.k;
  clients_range = range.header.clients;
  limit_range = range.limit;
  capacity_range = range.cache.0;
}

module _ (w : WorldView) (b : Book) (n : b.n ≡ w.script.n) (k : b.k ≡ w.script.k) (trails : b.trails ≡ map (λ (centre : CentreTrail). centre.entries) w.centres) (logs : b.logs ≡ w.logs) where
  -- the book is the one of what happened
  pub book_of : (all : List Happened) → IsWorld w all → IsBookOf b w.script.n w.script.k w.script.clients all
  book_of all world = record {
    n_is = n;
    k_is = k;
    trail_count = ap (λ (trails : List (List Entry)). length trails) trails ∙ (length-map w.centres (λ (centre : CentreTrail). centre.entries) ∙ centre_count w all world);
    log_count = ap (λ (logs : List Logged). length logs) logs ∙ world.log_count;
    trails = λ i low high. trails_match w.centres b i trails ∙ world.trails i;
    actors = λ a low high. ap (λ (log : Logged). log.actor) (logs_match w.logs b a logs) ∙ world.actors a low (omega (arith, high, world.log_count));
    notes = λ a low high. ap (λ (log : Logged). log.notes) (logs_match w.logs b a logs) ∙ world.notes a;
  }

  -- it fits and is timely
  pub world_book : IsSound w → IsWorldBook w b
  world_book sound =
      let is = book_of sound.all sound.world in
      record {
        n = n;
        k = k;
        trails = trails;
        logs = logs;
        fits = fits b w.script.n w.script.k (setup_of w.script) sound.all (in_range w.script sound.range) is sound.world.together;
        timely = timely b w.script.n w.script.k (setup_of w.script) sound.all is sound.world.together;
      }

-- the book of a world that has made the moves of its script is a run of the script
pub run_of : {E : Type 0} (script : Script) (w : WorldView) (r : Result Book E) → w.script ≡ script → HasPlayed (moves_of script) w → IfOk r (IsWorldBook w) → IfOk r (IsRunOf script)
run_of script w (Err e) same played is = tt
run_of script w (Ok b) same played is = subst (λ script. IsRunOf script b) same (record {
  n = is.n;
  k = is.k;
  fits = is.fits;
  steps = scripted w.script b w.script.n w.script.k played.all played.stage (book_of w b is.n is.k is.trails is.logs played.all played.world) played.world.together (subst (λ script. HavePlayed w.script (moves_of script) played.all played.stage) (sym same) played.played);
  timely = is.timely;
})
