-- What lies on the links between centres was sent, at each stage of what is played.
use Rattle.std.proofs.Common.{ℕ, ◌⊎◌, ⊎_elim, inl, inr, Bool, true, false, cond, ◌==◌, List, ◌++◌, map}
use Rattle.std.specs.Prelude.{◌&&◌, not}
use Rattle.list_core.specs.Members.{In}
use Rattle.dc_talk.specs.declared.sent.Sent.{Sent}
use Rattle.dc_talk.specs.declared.log.Deed.{Deed}
use Rattle.dc_talk.specs.Logs.{marked}
use Rattle.script_core.specs.declared.script.Script.{Script}
use Rattle.script_core.specs.declared.steps.OperatorStep.TheVariants.{Down, Up, ShipOne, Ship, Relay, Tell, Prune, Link, Settle, Feed}
use Rattle.script_core.specs.declared.rounds.Role.TheVariants.{Sender, Receiver, Reporter, Pruner}
use Rattle.script_core.specs.Steps.{IsCount}
use Rattle.script_core.specs.Mail.{Post, post_put, post_after_round, post_closed, post_set, lying}
use Rattle.script_core.specs.Rounds.{mailed}
use Rattle.script_core.specs.Provenance.{WasSent as WasBrought}
use Rattle.script_core.proofs.Arriving.{after_round_lies, closed_lies, put_lies, set_lies}
use Rattle.run_book.specs.Setups.{Setup}
use Rattle.run_book.specs.Happenings.{Happened, trails_in, happening, WasSent, AreTogether}
use Rattle.run_book.specs.Moves.{Does, client_does, operator_does, worker_does, closes}
use Rattle.run_book.specs.Played.{first_stage, posts_after}
use Rattle.run_book.proofs.Happenings.Sending.{sent_later}
use Rattle.run_book.proofs.Happenings.Carrying.{last_done, sent_there}

-- each record that lies on a link between two of n centres was sent
abbrev pub AreSent : ℕ → (ℕ → ℕ → Post) → List Happened → Type 0
AreSent n posts all = (from to : ℕ) → IsCount n from → IsCount n to → (item : Sent) → In item (lying (posts from to)) → WasSent (trails_in all) item

-- on the links of a script nothing lies at first
pub first_sent : (script : Script) (all : List Happened) → AreSent script.n (first_stage script).posts all
first_sent script all from to range other item there = absurd there

-- what lies on a link after a move lay there before, or was put there by the deeds
pub lies_after : (does : Does) (deeds : List Deed) (posts : ℕ → ℕ → Post) (from to : ℕ) (item : Sent) → In item (lying (posts_after does deeds posts from to)) → In item (lying (posts from to)) ⊎ In item (mailed to deeds)
lies_after (operator_does (Link i j fault)) deeds posts from to item there = go (from == i && to == j) there
  where
    go : (test : Bool) → In item (lying (cond test (post_set fault (posts from to)) (posts from to))) → In item (lying (posts from to)) ⊎ In item (mailed to deeds)
    go true is = inl (set_lies fault (posts from to) item is)
    go false is = inl is
lies_after (worker_does i Sender) deeds posts from to item there = go (from == i && not (to == i)) there
  where
    go : (test : Bool) → In item (lying (cond test (post_put (mailed to deeds) (posts from to)) (posts from to))) → In item (lying (posts from to)) ⊎ In item (mailed to deeds)
    go true is = ⊎_elim (λ new. inr new) (λ old. inl old) (put_lies (mailed to deeds) (posts from to) item is)
    go false is = inl is
lies_after (worker_does i Receiver) deeds posts from to item there = go (to == i && not (from == i)) there
  where
    go : (test : Bool) → In item (lying (cond test (post_after_round (posts from to)) (posts from to))) → In item (lying (posts from to)) ⊎ In item (mailed to deeds)
    go true is = inl (after_round_lies (posts from to) item is)
    go false is = inl is
lies_after (closes i) deeds posts from to item there = go (to == i && not (from == i)) there
  where
    go : (test : Bool) → In item (lying (cond test (post_closed (posts from to)) (posts from to))) → In item (lying (posts from to)) ⊎ In item (mailed to deeds)
    go true is = inl (closed_lies (posts from to) item is)
    go false is = inl is
lies_after (client_does client step) deeds posts from to item there = inl there
lies_after (operator_does (Down centre)) deeds posts from to item there = inl there
lies_after (operator_does (Up centre)) deeds posts from to item there = inl there
lies_after (operator_does (ShipOne i j seq)) deeds posts from to item there = inl there
lies_after (operator_does (Ship i j)) deeds posts from to item there = inl there
lies_after (operator_does (Relay i origin j)) deeds posts from to item there = inl there
lies_after (operator_does (Tell i j)) deeds posts from to item there = inl there
lies_after (operator_does (Prune centre)) deeds posts from to item there = inl there
lies_after (operator_does Settle) deeds posts from to item there = inl there
lies_after (operator_does (Feed centre)) deeds posts from to item there = inl there
lies_after (worker_does i Reporter) deeds posts from to item there = inl there
lies_after (worker_does i Pruner) deeds posts from to item there = inl there

-- so after a move each record that lies on a link was sent, where the deeds brought what they put there
pub posts_sent : (n k : ℕ) (setup : Setup) (does : Does) (all : List Happened) (actor section step : ℕ) (deeds : List Deed) (posts : ℕ → ℕ → Post) → AreTogether n k setup (all ++ happening actor (map (marked section step) deeds)) → ((to : ℕ) (item : Sent) → In item (mailed to deeds) → WasBrought deeds item) → AreSent n posts all → AreSent n (posts_after does deeds posts) (all ++ happening actor (map (marked section step) deeds))
posts_sent n k setup does all actor section step deeds posts t brought sent from to range other item there =
    let later : List Happened = happening actor (map (marked section step) deeds) in
    ⊎_elim
    (λ old. sent_later all later item (sent from to range other item old))
    (λ new. sent_there n k setup (all ++ later) t deeds (last_done all actor section step deeds) item (brought to item new))
    (lies_after does deeds posts from to item there)
