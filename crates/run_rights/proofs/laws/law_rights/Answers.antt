use Rattle.std.proofs.Common.{refl}
use Rattle.dc_talk.specs.declared.line.Line.TheVariants.{RightsValue, Short}
use Rattle.run_rights.proofs.HeldRights.{held, value_held}
use Rattle.run_rights.proofs.ToldRights.{line_rights}
use Rattle.run_rights.proofs.laws.law_rights.Goals as goal

pub returns : goal.returns
returns c = record {
  held = λ name holder set plays count closed. held c.args.script.now c.args.book.now plays name holder set count closed;
  value = λ name set plays closed. value_held c.args.script.now c.args.book.now plays name set closed;
  told = λ a place client counter rights plays is_client tells. line_rights c.args.script.now c.args.book.now plays a place is_client (RightsValue client counter rights) (record { client = client; counter = counter; rights = rights }) tells refl;
  short = λ a place client word counter rights plays is_client tells. line_rights c.args.script.now c.args.book.now plays a place is_client (Short client word counter rights) (record { client = client; counter = counter; rights = rights }) tells refl;
}
