use Rattle.std.proofs.Common.{rules}
use Rattle.tx_graph.proofs.SameValues.{values_like}
use Rattle.tx_graph.proofs.values.value_by_sees.Goals as goal

pub returns-in-Counter : goal.returns-in-Counter
returns-in-Counter c = values_like c.args.acts.now c.args.sort _ (λ unique. rw c.in-Counter.is (search rules))

pub returns-in_ok-last_write-in-Register : goal.returns-in_ok-last_write-in-Register
returns-in_ok-last_write-in-Register c = values_like c.args.acts.now c.args.sort _ (λ unique. rw c.in-Register.is c.in_ok-last_write-in-Register.ensures)

pub returns-in_ok-from_vec-in-Set : goal.returns-in_ok-from_vec-in-Set
returns-in_ok-from_vec-in-Set c = values_like c.args.acts.now c.args.sort _ (λ unique. rw (c.in-Set.is, c.in_ok-from_vec-in-Set.ensures) c.in_ok-words-in-Set.ensures)

pub returns-in_ok-from_vec-in-Map : goal.returns-in_ok-from_vec-in-Map
returns-in_ok-from_vec-in-Map c = values_like c.args.acts.now c.args.sort _ (λ unique. rw (c.in-Map.is, c.in_ok-from_vec-in-Map.ensures) (c.in_ok-pairs-in-Map.ensures (unique c.in-Map.is)))
