use Rattle.std.proofs.Common.{refl}
use Rattle.std.proofs.lemmas.Bool.{false≢true}
use Rattle.script_reader.proofs.NameTests.{name_found, no_name_found}
use Rattle.script_reader.proofs.names.name_in.Goals as goal

pub returns-in-Ok : goal.returns-in-Ok
returns-in-Ok c = name_found c.args.word.now c.in-Ok.name c.in-Ok.ensures.taken (λ none. false≢true (c.in-Ok.ensures.refused.1 none))

pub returns-in-Err : goal.returns-in-Err
returns-in-Err c = no_name_found c.args.word.now (c.in-Err.ensures.refused.0 refl)
