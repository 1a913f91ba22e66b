use Rattle.std.proofs.Common.{◌∙◌, ap}
use Rattle.std.specs.Prelude.{Some, Ok}
use Rattle.script_reader.proofs.Straight.{bare_words}
use Rattle.script_reader.proofs.steps.put_bare.Goals as goal

pub returns-in-Ok : goal.returns-in-Ok
returns-in-Ok c =
    ap (λ row. Ok (Some row)) c.bare_row.ensures
    ∙ bare_words c.args.header c.args.form c.args.words.now _ (Ok c.in-Ok.client) c.requires.bare c.requires.count c.in-Ok.ensures
