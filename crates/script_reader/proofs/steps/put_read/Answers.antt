use Rattle.std.proofs.Common.{◌∙◌, ap}
use Rattle.std.specs.Prelude.{Some, None, Ok}
use Rattle.script_reader.proofs.Straight.{read_words}
use Rattle.script_reader.proofs.steps.put_read.Goals as goal

pub returns-in-Some : goal.returns-in-Some
returns-in-Some c =
    ap (λ row. Ok (Some row)) c.client_row.ensures
    ∙ read_words c.args.header c.args.words.now _ (Ok c.in-Ok.client) (Some c.in-Some.object) c.requires c.in-Ok.ensures c.in-Some.ensures

pub returns-in-None : goal.returns-in-None
returns-in-None c = read_words c.args.header c.args.words.now _ (Ok c.in-Ok.client) None c.requires c.in-Ok.ensures c.in-None.ensures
