use Rattle.std.specs.Prelude.{◌==◌}
use Rattle.dc_talk.specs.Entries.{Entry}
use Rattle.show_law.proofs.Subsequences.{sub_filter}
use Rattle.show_law.proofs.laws.law_entries_stand.Goals as goal

pub returns : goal.returns
returns c = λ trail entries actor sub. sub_filter (λ (entry : Entry). entry.caller == actor) entries trail sub
