-- What lies between a centre's sender and another centre's receiver.
use Rattle.std.specs.Prelude.{List, [], ◌++◌, take, drop}
use Rattle.dc_talk.specs.declared.sent.Sent.{Sent}
use Rattle.dc_talk.specs.declared.links.LinkFault.{LinkFault}
use Rattle.dc_talk.specs.declared.links.Arrival.{Arrival}
use Rattle.script_core.specs.declared.rounds.TheConstants.{MOST_MAILED}
use Rattle.script_core.specs.Links.{Inlet, wholes, clean_inlet, arrivals, arrived, inlet_after, inlet_closed, inlet_set}

-- the records that were put and not yet taken, in order, and the end at which they are taken
pub record Post : Type 0 where
  pub waits : List Sent
  pub inlet : Inlet Sent

-- nothing was put
abbrev pub new_post : Post
new_post = record { waits = []; inlet = clean_inlet }

-- more is put
abbrev pub post_put : List Sent → Post → Post
post_put items post = record post { waits = post.waits ++ items }

-- what a round takes, and what arrives of that
abbrev pub taken_in_round : Post → List Sent
taken_in_round post = take MOST_MAILED post.waits

abbrev pub due_in_round : Post → List (Arrival Sent)
due_in_round post = arrived post.inlet (taken_in_round post)

-- behind a round
abbrev pub post_after_round : Post → Post
post_after_round post = record { waits = drop MOST_MAILED post.waits; inlet = inlet_after post.inlet (taken_in_round post) }

-- what arrives in a closing round, which takes all
abbrev pub due_at_close : Post → List (Arrival Sent)
due_at_close post = arrivals post.inlet post.waits

-- behind a closing round
abbrev pub post_closed : Post → Post
post_closed post = record { waits = []; inlet = inlet_closed post.inlet post.waits }

-- with another fault
abbrev pub post_set : LinkFault → Post → Post
post_set fault post = record post { inlet = inlet_set fault post.inlet }

-- the records that lie there: those that were put and not yet taken, and what is held
abbrev pub lying : Post → List Sent
lying post = post.waits ++ wholes post.inlet.held
