use Rattle.std.proofs.Common.{rules, ◌≡◌, List, length, map, flat_map, sym, ap, ◌∙◌, subst}
use Rattle.std.specs.List.{AllZip}
use Rattle.std.specs.Global.{Vec}
use Rattle.std.proofs.lemmas.Result.{IfOk-weaker}
use Rattle.list_core.specs.Members.{In}
use Rattle.read_tap.specs.Shows.{ShowsView}
use Rattle.phase_actors.specs.declared.clients.Player.{Player}
use Rattle.phase_actors.specs.declared.clients.Block.{Block}
use Rattle.phase_actors.specs.Actors.{IsBlockOf, HasBlockPlayed}
use Rattle.phase_play.specs.Blocks.{ArePartsOf}
use Rattle.phase_play.specs.Casts.{HasReadRow, HasTakenStepsBy, HaveClientsPlayed}
use Rattle.phase_play.proofs.Cutting.{in_blocks, all_given}
use Rattle.phase_play.proofs.Rows.{readers_of, block_at, players_in, players_by, rows_by}
use Rattle.phase_play.proofs.threads.play_blocks.Goals as goal

pub with_readers-requires : goal.with_readers-requires
with_readers-requires g c = c.requires.clients.number ∙ sym c.in_ok-parts.ensures.number

pub map_vec-requires-after_bounds : goal.map_vec-requires-after_bounds
map_vec-requires-after_bounds g c κs within = λ place block inside is.
    let here : IsBlockOf c.args.scene block = block_at c.args.scene c.args.clients.players.items c.in_ok-parts.parts.items c.args.clients.rows.items c.in_ok-blocks.blocks.items place block c.in_ok-parts.ensures.all c.in_ok-blocks.ensures c.requires.clients.players c.requires.clients.rows_are inside is in
    ((c.requires.scene, here), search rules)

pub returns : goal.returns
returns g c =
    let scene = c.args.scene in
    let clients = c.args.clients in
    let blocks : List Block = c.in_ok-blocks.blocks.items in
    let done : List Block = c.in_ok-all_of.field-0.items in
    let results = c.in_ok-results.results.items in
    let long : length results ≡ length blocks = search rules in
    let zip : AllZip (HasBlockPlayed scene) blocks done =
    all_given (HasBlockPlayed scene) blocks results done long c.in_ok-all_of.ensures
    (λ place other inside. let given = (c.in_ok-results.ensures.each place other inside).1 in (given.job, given.job_is, given.call.met)) in
    let first : flat_map (λ (block : Block). block.players.items) blocks ≡ clients.players.items = players_in blocks ∙ (ap in_blocks c.in_ok-blocks.ensures.players_are ∙ c.in_ok-parts.ensures.all) in
    IfOk-weaker c.part_blocks.result (ArePartsOf done) (HaveClientsPlayed scene clients) (λ parts are.
    let there : (row : Vec ShowsView) → In row (map readers_of done) → In row parts.rows.items = λ row is. subst (In row) (sym are.rows_are) is in
    let by : AllZip (HasTakenStepsBy scene parts.rows.items) (flat_map (λ (block : Block). block.players.items) blocks) (flat_map (λ (block : Block). block.players.items) done) = players_by scene parts.rows.items blocks done there zip in
    record {
      players = subst (λ old. AllZip (HasTakenStepsBy scene parts.rows.items) old parts.players.items) first (subst (AllZip (HasTakenStepsBy scene parts.rows.items) (flat_map (λ (block : Block). block.players.items) blocks)) (sym are.players_are) by);
      rows_read = subst (λ old. AllZip HasReadRow old parts.rows.items) c.in_ok-blocks.ensures.rows_are (subst (AllZip HasReadRow (map readers_of blocks)) (sym are.rows_are) (rows_by scene blocks done zip));
    })
    c.part_blocks.ensures
