use Rattle.dc_worker.proofs.ItemBytes.{bytes_left}
use Rattle.dc_worker.proofs.item_bytes.law_item_bytes.Goals as goal

pub returns : goal.returns
returns c = bytes_left
