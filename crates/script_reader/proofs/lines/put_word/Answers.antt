use Rattle.std.proofs.Common.{◌<◌, length, arith}
use Rattle.script_reader.proofs.Plain.{all_unbroken}
use Rattle.script_reader.proofs.LineCuts.{put_none, put_one}
use Rattle.script_reader.proofs.lines.put_word.Goals as goal

pub returns-then-is_empty-clause-words : goal.returns-then-is_empty-clause-words
returns-then-is_empty-clause-words c = put_none c.args.places.now c.args.word.now c.args.count (let test = c.is_empty.ensures in let empty = c.if-is_empty.true in grind arith)

pub returns-clause-words : goal.returns-clause-words
returns-clause-words c =
    let within : c.args.count < length c.args.places.now = let few = c.requires.few in let other = c.if-count-places.false in omega arith in
    let some : 0 < length c.args.word.now = let test = c.is_empty.ensures in let full = c.if-is_empty.false in grind arith in
    put_one c.args.places.now c.args.word c.args.count within (all_unbroken c.args.word.now c.requires.shown) some
