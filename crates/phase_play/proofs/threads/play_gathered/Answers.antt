use Rattle.std.proofs.Common.{◌≡◌, ℕ, List, length, min, sym, ap, ◌∙◌, subst}
use Rattle.std.specs.Prelude.{All}
use Rattle.std.specs.List.{AllZip}
use Rattle.std.proofs.lemmas.List.Elements.{length_all_zip}
use Rattle.phase_actors.specs.declared.clients.Player.{Player}
use Rattle.phase_actors.specs.Actors.{IsPlayerOf}
use Rattle.phase_play.specs.declared.gathering.Swap.{Swap}
use Rattle.phase_play.specs.Swaps.{IsWithin, swapped_back}
use Rattle.phase_play.specs.Casts.{HasTakenStepsBy}
use Rattle.phase_play.proofs.Swapping.{all_by, zip_back}
use Rattle.phase_play.proofs.threads.play_gathered.Goals as goal

pub play_blocks-requires-clause-clients : goal.play_blocks-requires-clause-clients
play_blocks-requires-clause-clients g c κs within =
    let noted = c.in_ok-swaps.ensures in
    let is = IsPlayerOf c.args.scene in
    record {
      players = subst (All is) (sym noted.made) (all_by is c.args.clients.players.items noted.more noted.within c.requires.clients.players);
      rows_are = c.requires.clients.rows_are;
      number = c.requires.clients.number ∙ ap (λ (many : ℕ). min many c.args.scene.script.now.threads) (sym noted.long);
    }

pub put_back-requires : goal.put_back-requires
put_back-requires g c =
    let noted = c.in_ok-swaps.ensures in
    let steps = HasTakenStepsBy c.args.scene c.in_ok-played.field-0.rows.items in
    let long : length c.in_ok-played.field-0.players.items ≡ length c.args.clients.players.items = sym (length_all_zip steps c.gather.new.players.items c.in_ok-played.field-0.players.items c.in_ok-played.ensures.players) ∙ noted.long in
    let within : All (IsWithin (length c.args.clients.players.items)) c.in_ok-swaps.swaps.items = subst (All (IsWithin (length c.args.clients.players.items))) (sym noted.noted) noted.within in
    subst (λ (n : ℕ). All (IsWithin n) c.in_ok-swaps.swaps.items) (sym long) within

pub returns : goal.returns
returns g c =
    let noted = c.in_ok-swaps.ensures in
    let steps = HasTakenStepsBy c.args.scene c.in_ok-played.field-0.rows.items in
    let first = c.args.clients.players.items in
    let done : List Player = c.in_ok-played.field-0.players.items in
    let played : AllZip steps first (swapped_back done noted.more) = zip_back steps first done noted.more noted.within (subst (λ (xs : List Player). AllZip steps xs done) noted.made c.in_ok-played.ensures.players) in
    record {
      players = subst (λ (xs : List Player). AllZip steps first xs) (ap (λ (swaps : List Swap). swapped_back done swaps) (sym noted.noted) ∙ sym c.put_back.ensures) played;
      rows_read = c.in_ok-played.ensures.rows_read;
    }
