-- The record in the bytes of its frame.
use Rattle.std.proofs.Common.{◌≡◌, ℕ, List, Ok, Err, sym, ap, ◌∙◌, subst}
use Rattle.dc_talk.specs.declared.sent.Sent.{Sent}
use Rattle.dc_talk.specs.declared.links.FrameFault.TheVariants.{Short, Bad}
use Rattle.link_frames.specs.Spelling.{spelling}
use Rattle.link_frames.specs.Frames.{HasFrame}
use Rattle.link_frames.specs.Reading.{read_whole}
use Rattle.link_frames.specs.Frame.{sent_of, sent_in, IsFrame}
use Rattle.link_frames.specs.Spoiling.{cut_of, bent_of}
use Rattle.link_frames.proofs.Items.{item_read, cut_short, bend_bad}

-- it is that record
pub record_in : (sent : Sent) (bytes : List ℕ) → HasFrame sent → bytes ≡ spelling sent → sent_in bytes ≡ sent
unfolding sent_in
record_in sent bytes h are = ap sent_of (ap read_whole are ∙ item_read sent h)

-- the bytes are a frame
pub frame_is : (sent : Sent) (bytes : List ℕ) → HasFrame sent → bytes ≡ spelling sent → IsFrame bytes
frame_is sent bytes h are =
    let is = record_in sent bytes h are in
    record { has = subst HasFrame (sym is) h; are = are ∙ ap spelling (sym is) }

-- they are read as that record
pub read_of : (bytes : List ℕ) → IsFrame bytes → read_whole bytes ≡ Ok (sent_in bytes)
read_of bytes is = ap read_whole is.are ∙ item_read (sent_in bytes) is.has

-- without the last one they end too early
pub cut_read : (bytes : List ℕ) → IsFrame bytes → read_whole (cut_of bytes) ≡ Err Short
cut_read bytes is = ap (λ bytes. read_whole (cut_of bytes)) is.are ∙ cut_short (sent_in bytes) is.has

-- with 0 as the second one they are at fault there
pub bent_read : (bytes : List ℕ) → IsFrame bytes → read_whole (bent_of bytes) ≡ Err (Bad 1)
bent_read bytes is = ap (λ bytes. read_whole (bent_of bytes)) is.are ∙ bend_bad (sent_in bytes)
