use Rattle.state_codec.specs.Spelling.{IsSpelledEntry}
use Rattle.parts_frames.specs.Ranges.{IsRangedEntry}
use Rattle.parts_frames.proofs.Seen.{spelled_tallies}
use Rattle.parts_frames.proofs.states.see_entries.Goals as goal

pub returns : goal.returns
returns c = spelled_tallies IsSpelledEntry IsRangedEntry c.args.tallies.now c.see.ensures
