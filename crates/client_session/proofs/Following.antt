-- What holds of every session holds after a newer snapshot.
use Rattle.std.proofs.Common.{◌≡◌, ◌≤◌, ℕ, ◌+◌, ◌-◌, max, true, List, length, drop, Option, Some, None, sym, ◌∙◌, arith}
use Rattle.std.specs.Prelude.{is_none, IfSome, All, nat_le, ◌==◌}
use Rattle.std.proofs.lemmas.Bool.{and_parts, leb-true, eqb-true}
use Rattle.std.proofs.lemmas.List.{length-drop}
use Rattle.std.proofs.lemmas.List.Elements.{All-drop}
use Rattle.ids_core.specs.declared.limits.TheConstants.{MOST_NUMBER, MOST_PENDING, MOST_UPDATES}
use Rattle.vv_core.specs.Vectors.{covers}
use Rattle.tx_core.specs.declared.tx.Update.{Update}
use Rattle.tx_core.specs.Checks.{IsModestUpdate}
use Rattle.dc_talk.specs.Clients.{Client}
use Rattle.dc_talk.specs.Rule.{can_follow}
use Rattle.client_session.specs.Sessions.{IsClient, IsDraft}

-- a draft that is not there is few enough
no_draft : (clock : ℕ) (draft : Option (List Update)) → is_none draft ≡ true → IfSome draft (IsDraft clock)
no_draft clock None is = tt
no_draft clock (Some updates) is = cc

-- a snapshot follows only where no transaction is open
pub follows_closed : (s : Client) (vector : List ℕ) (mine top : ℕ) → can_follow s vector mine top ≡ true → is_none s.draft ≡ true
follows_closed s vector mine top follows =
    let most = and_parts _ (nat_le mine s.own) follows in
    let least = and_parts _ (nat_le s.mine mine) most.0 in
    let ranked = and_parts _ (nat_le top MOST_NUMBER) least.0 in
    let covered = and_parts _ (covers vector s.vector) ranked.0 in
    let wide = and_parts (is_none s.draft) (length vector == length s.vector) covered.0 in
    wide.0

pub followed : (s : Client) (vector : List ℕ) (mine top : ℕ) → IsClient s → can_follow s vector mine top ≡ true → IsClient (record s { vector = vector; mine = mine; clock = max s.clock top; pending = drop (mine - s.mine) s.pending })
followed s vector mine top is follows =
    let most = and_parts _ (nat_le mine s.own) follows in
    let least = and_parts _ (nat_le s.mine mine) most.0 in
    let ranked = and_parts _ (nat_le top MOST_NUMBER) least.0 in
    let covered = and_parts _ (covers vector s.vector) ranked.0 in
    let low : s.mine ≤ mine = leb-true s.mine mine least.1 in
    let high : mine ≤ s.own = leb-true mine s.own most.1 in
    let rank : top ≤ MOST_NUMBER = leb-true top MOST_NUMBER ranked.1 in
    let wide = and_parts (is_none s.draft) (length vector == length s.vector) covered.0 in
    let same : length vector ≡ length s.vector = eqb-true (length vector) (length s.vector) wide.1 in
    let count : length s.pending + s.mine ≡ s.own = is.count in
    let own : s.own ≤ s.clock = is.own in
    let clock : s.clock ≤ MOST_NUMBER = is.clock in
    let room : length s.pending ≤ MOST_PENDING = is.room in
    let left : length (drop (mine - s.mine) s.pending) ≡ length s.pending - (mine - s.mine) = length-drop (mine - s.mine) s.pending in
    record {
      client = is.client;
      mine = high;
      own = omega arith;
      clock = omega arith;
      count = omega arith;
      room = omega arith;
      pending = All-drop (λ tx. length tx.updates ≤ MOST_UPDATES) (mine - s.mine) s.pending is.pending;
      modest = All-drop (λ tx. All IsModestUpdate tx.updates) (mine - s.mine) s.pending is.modest;
      sent = is.sent;
      draft = no_draft (max s.clock top) s.draft (follows_closed s vector mine top follows);
      wide = λ c i. is.wide c i ∙ sym same;
    }
