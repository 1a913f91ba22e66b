use Rattle.state_codec.specs.Spelling.{IsSpelledMember}
use Rattle.parts_frames.specs.Ranges.{IsRangedMember}
use Rattle.parts_frames.proofs.Seen.{spelled_tallies}
use Rattle.parts_frames.proofs.states.see_members.Goals as goal

pub returns : goal.returns
returns c = spelled_tallies IsSpelledMember IsRangedMember c.args.tallies.now c.see.ensures
