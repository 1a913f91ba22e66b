-- What the session asks over its link, and when it asks nothing.
use Rattle.std.proofs.Common.{◌≡◌, ℕ, cond, List, Option, Some, None, Result, Ok, Err, refl, ap}
use Rattle.std.specs.Prelude.{is_some}
use Rattle.std.specs.Option.{option_map}
use Rattle.ids_core.specs.declared.object.ObjectId.{ObjectId}
use Rattle.tx_core.specs.declared.tx.Tx.{Tx}
use Rattle.tx_core.specs.declared.tx.Update.{Update}
use Rattle.dc_talk.specs.declared.ask.Ask.{Ask}
use Rattle.dc_talk.specs.declared.ask.Ask.TheVariants.{Commit as CommitAsk}
use Rattle.dc_talk.specs.declared.calls.Connection.{Connection}
use Rattle.dc_talk.specs.declared.calls.Refusal.{Refusal}
use Rattle.dc_talk.specs.declared.calls.Refusal.TheVariants.{NotConnected, AlreadyOpen}
use Rattle.dc_talk.specs.Clients.{Client}
use Rattle.dc_talk.specs.Rule.{refresh_of, fetch_of, next_commit}
use Rattle.client_session.specs.SessionAnswers.{over_link, refresh_ask, fetch_ask, commit_ask}

-- the ask of a commit over a link
abbrev commit_over : Connection → Option Tx → Option (ℕ × Ask)
commit_over link next = option_map (λ tx. (link.centre, CommitAsk tx)) next

abbrev commit_at : Client → Option Connection → Result (Option (ℕ × Ask)) Refusal
commit_at s l = over_link l (λ link. Ok (commit_over link (next_commit s link)))

-- the ask of a fetch over a link
abbrev fetch_at : Client → ObjectId → Option Connection → Result (ℕ × Ask) Refusal
fetch_at s o l = over_link l (λ link. Ok (link.centre, fetch_of s o))

-- the ask of a refresh over a link, with a transaction open or not
abbrev refresh_over : Client → Connection → Option (List Update) → Result (ℕ × Ask) Refusal
refresh_over s link draft = cond (is_some draft) (Err AlreadyOpen) (Ok (link.centre, refresh_of s))

abbrev refresh_at : Client → Option Connection → Result (ℕ × Ask) Refusal
refresh_at s l = over_link l (λ link. refresh_over s link s.draft)

-- a push asks the next commit over the link
pub record PushAsks (s : Client) (i : ℕ) (ask : Ask) : Type 0 where
  pub link : Connection
  pub tx : Tx
  pub linked : s.link ≡ Some link
  pub next : next_commit s link ≡ Some tx
  pub centre : i ≡ link.centre
  pub asks : ask ≡ CommitAsk tx

push_over : (s : Client) (link : Connection) (o : Option Tx) (i : ℕ) (ask : Ask) → s.link ≡ Some link → next_commit s link ≡ o → commit_over link o ≡ Some (i, ask) → PushAsks s i ask
push_over s link None i ask l n e = cc
push_over s link (Some tx) i ask l n e =
    let pair : (i, ask) ≡ (link.centre, CommitAsk tx) = cc in
    record { link = link; tx = tx; linked = l; next = n; centre = ap (λ (p : ℕ × Ask). p.0) pair; asks = ap (λ (p : ℕ × Ask). p.1) pair }

push_at : (s : Client) (l : Option Connection) (i : ℕ) (ask : Ask) → s.link ≡ l → commit_at s l ≡ Ok (Some (i, ask)) → PushAsks s i ask
push_at s None i ask l e = cc
push_at s (Some link) i ask l e = let same : commit_over link (next_commit s link) ≡ Some (i, ask) = cc in push_over s link (next_commit s link) i ask l refl same

pub push_asks : (s : Client) (i : ℕ) (ask : Ask) → commit_ask s ≡ Ok (Some (i, ask)) → PushAsks s i ask
push_asks s i ask e = push_at s s.link i ask refl e

-- a push finds no commit left
pub record PushIdle (s : Client) : Type 0 where
  pub link : Connection
  pub linked : s.link ≡ Some link
  pub next : next_commit s link ≡ None

idle_over : (s : Client) (link : Connection) (o : Option Tx) → s.link ≡ Some link → next_commit s link ≡ o → commit_over link o ≡ None → PushIdle s
idle_over s link None l n e = record { link = link; linked = l; next = n }
idle_over s link (Some tx) l n e = cc

idle_at : (s : Client) (l : Option Connection) → s.link ≡ l → commit_at s l ≡ Ok None → PushIdle s
idle_at s None l e = cc
idle_at s (Some link) l e = let same : commit_over link (next_commit s link) ≡ None = cc in idle_over s link (next_commit s link) l refl same

pub push_idle : (s : Client) → commit_ask s ≡ Ok None → PushIdle s
push_idle s e = idle_at s s.link refl e

-- a fetch asks over the link
pub record FetchAsks (s : Client) (o : ObjectId) (i : ℕ) (ask : Ask) : Type 0 where
  pub link : Connection
  pub linked : s.link ≡ Some link
  pub centre : i ≡ link.centre
  pub asks : ask ≡ fetch_of s o

fetches_at : (s : Client) (o : ObjectId) (l : Option Connection) (i : ℕ) (ask : Ask) → s.link ≡ l → fetch_at s o l ≡ Ok (i, ask) → FetchAsks s o i ask
fetches_at s o None i ask l e = cc
fetches_at s o (Some link) i ask l e =
    let pair : (i, ask) ≡ (link.centre, fetch_of s o) = cc in
    record { link = link; linked = l; centre = ap (λ (p : ℕ × Ask). p.0) pair; asks = ap (λ (p : ℕ × Ask). p.1) pair }

pub fetch_asks : (s : Client) (o : ObjectId) (i : ℕ) (ask : Ask) → fetch_ask s o ≡ Ok (i, ask) → FetchAsks s o i ask
fetch_asks s o i ask e = fetches_at s o s.link i ask refl e

fetch_refused_at : (s : Client) (o : ObjectId) (l : Option Connection) (r : Refusal) → fetch_at s o l ≡ Err r → l ≡ None
fetch_refused_at s o None r e = refl
fetch_refused_at s o (Some link) r e = cc

pub fetch_refused : (s : Client) (o : ObjectId) (r : Refusal) → fetch_ask s o ≡ Err r → s.link ≡ None
fetch_refused s o r e = fetch_refused_at s o s.link r e

-- a refresh asks over the link while no transaction is open
pub record RefreshAsks (s : Client) (i : ℕ) (ask : Ask) : Type 0 where
  pub link : Connection
  pub linked : s.link ≡ Some link
  pub shut : s.draft ≡ None
  pub centre : i ≡ link.centre
  pub asks : ask ≡ refresh_of s

refreshes_over : (s : Client) (link : Connection) (d : Option (List Update)) (i : ℕ) (ask : Ask) → s.link ≡ Some link → s.draft ≡ d → refresh_over s link d ≡ Ok (i, ask) → RefreshAsks s i ask
refreshes_over s link None i ask l d e =
    let pair : (i, ask) ≡ (link.centre, refresh_of s) = cc in
    record { link = link; linked = l; shut = d; centre = ap (λ (p : ℕ × Ask). p.0) pair; asks = ap (λ (p : ℕ × Ask). p.1) pair }
refreshes_over s link (Some draft) i ask l d e = cc

refreshes_at : (s : Client) (l : Option Connection) (i : ℕ) (ask : Ask) → s.link ≡ l → refresh_at s l ≡ Ok (i, ask) → RefreshAsks s i ask
refreshes_at s None i ask l e = cc
refreshes_at s (Some link) i ask l e = refreshes_over s link s.draft i ask l refl e

pub refresh_asks : (s : Client) (i : ℕ) (ask : Ask) → refresh_ask s ≡ Ok (i, ask) → RefreshAsks s i ask
refresh_asks s i ask e = refreshes_at s s.link i ask refl e

-- a refresh is refused since a transaction is open
pub record RefreshShut (s : Client) : Type 0 where
  pub link : Connection
  pub draft : List Update
  pub linked : s.link ≡ Some link
  pub is_open : s.draft ≡ Some draft

shut_over : (s : Client) (link : Connection) (d : Option (List Update)) (r : Refusal) → s.link ≡ Some link → s.draft ≡ d → refresh_over s link d ≡ Err r → RefreshShut s
shut_over s link None r l d e = cc
shut_over s link (Some draft) r l d e = record { link = link; draft = draft; linked = l; is_open = d }

shut_at : (s : Client) (l : Option Connection) (r : Refusal) → s.link ≡ l → (r ≡ NotConnected → ⊥) → refresh_at s l ≡ Err r → RefreshShut s
shut_at s None r l other e = absurd (other (cc))
shut_at s (Some link) r l other e = shut_over s link s.draft r l refl e

pub refresh_shut : (s : Client) (r : Refusal) → (r ≡ NotConnected → ⊥) → refresh_ask s ≡ Err r → RefreshShut s
refresh_shut s r other e = shut_at s s.link r refl other e
