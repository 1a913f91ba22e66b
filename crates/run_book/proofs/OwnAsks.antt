-- What a client asks for whose log follows the session rule: the commits are its own, and it delivers and teaches
-- nothing.
use Rattle.std.proofs.Common.{◌≡◌, ℕ, zero, suc, ◌≤◌, ◌<◌, ◌-◌, ◌⊎◌, inl, inr, ⊎_elim, List, [], length, take, drop, Some, refl, sym, ap, ◌∙◌, subst, arith}
use Rattle.std.specs.Prelude.{slice_get}
use Rattle.std.proofs.lemmas.List.{length-take, take-take}
use Rattle.std.proofs.lemmas.Option.{slice_get_within}
use Rattle.list_core.specs.Members.{In}
use Rattle.list_core.proofs.Gets.{get_In, get_in_take, get_seam}
use Rattle.list_core.proofs.Members.{In_drop, In_left}
use Rattle.tx_core.specs.declared.tx.Tx.{Tx}
use Rattle.tx_core.specs.declared.tx.Record.{Record}
use Rattle.dc_talk.specs.declared.ask.Ask.{Ask}
use Rattle.dc_talk.specs.declared.ask.Ask.TheVariants.{Commit, Deliver, Learn}
use Rattle.dc_talk.specs.declared.say.Say.{Say}
use Rattle.dc_talk.specs.declared.log.Fate.{Fate}
use Rattle.dc_talk.specs.declared.log.Fate.TheVariants.{Heard, Unheard}
use Rattle.dc_talk.specs.declared.log.Deed.TheVariants.{Asked}
use Rattle.dc_talk.specs.declared.log.Note.{Note}
use Rattle.dc_talk.specs.Clients.{Client, settled}
use Rattle.dc_talk.specs.Rule.{Sends, Gives, IsLate, IsSecond, Allows, Follows, client_after, commits_of}
use Rattle.run_book.proofs.Sessions.{commits_of_prefix}
use Rattle.run_book.proofs.Held.{Held, held_after}

-- ---- one ask

-- what was heard is no copy
heard_no_copy : (fate : Fate) (say other : Say) → fate ≡ Heard say → fate ≡ Unheard other → ⊥
heard_no_copy fate say other heard unheard = cc

-- an ask that was heard is one that the client gave
pub heard_gives : (s : Client) (before : List Note) (i : ℕ) (ask : Ask) (say : Say) → Allows s before (Asked i ask (Heard say)) → Gives s i ask
heard_gives s before i ask say allowed =
    ⊎_elim
    (λ gives. gives)
    (λ copy. ⊎_elim
    (λ late. absurd (heard_no_copy (Heard say) say late.say refl late.unheard))
    (λ second. absurd (heard_no_copy (Heard say) say second.say refl second.unheard))
    copy)
    allowed

-- what a client sends, it committed
sent : (client : ℕ) (s : Client) (C : List Tx) (i : ℕ) (tx : Tx) → Held client s C → Sends s i tx → In tx C
sent client s C i tx h sends =
    let place : ℕ = settled s sends.link - s.mine in
    let there : slice_get (drop s.mine C) place ≡ Some tx = subst (λ l. slice_get l place ≡ Some tx) h.waiting sends.next in
    In_drop s.mine C tx (get_In (drop s.mine C) place tx there)

-- commit asks are no deliveries, and teach nothing
commit_no_delivery : (ask : Ask) (tx : Tx) (item : Record) (hops : ℕ) → ask ≡ Commit tx → ask ≡ Deliver item hops → ⊥
commit_no_delivery ask tx item hops commit delivers = cc

commit_no_news : (ask : Ask) (tx : Tx) (from : ℕ) (news : List ℕ) → ask ≡ Commit tx → ask ≡ Learn from news → ⊥
commit_no_news ask tx from news commit teaches = cc

-- ---- a whole log

module _ (n client capacity : ℕ) (notes : List Note) (follows : Follows n client capacity notes) where
  -- the client before the note at a place
  abbrev client_before : ℕ → Client
  client_before m = client_after n client capacity (take m notes)

  -- the deed at a place is allowed
  allowed : (m : ℕ) (note : Note) (i : ℕ) (ask : Ask) (fate : Fate) → slice_get notes m ≡ Some note → note.deed ≡ Asked i ask fate → Allows (client_before m) (take m notes) (Asked i ask fate)
  allowed m note i ask fate there is = subst (λ deed. Allows (client_before m) (take m notes) deed) is (follows.holds m note there)

  -- those committed before a place are among those committed before a later one
  grows : (p m : ℕ) (tx : Tx) → p ≤ m → In tx (commits_of n client capacity (take p notes)) → In tx (commits_of n client capacity (take m notes))
  grows p m tx le own =
      let front = commits_of_prefix n client capacity p (take m notes) in
      let same : commits_of n client capacity (take p (take m notes)) ≡ commits_of n client capacity (take p notes) = ap (commits_of n client capacity) (take-take p m notes le) in
      subst (λ C. In tx C) (sym front.1) (In_left (commits_of n client capacity (take p (take m notes))) front.0 tx (subst (λ C. In tx C) (sym same) own))

  -- an earlier note of those before a place, with the same ask
  record IsEarlier (m : ℕ) (ask : Ask) : Type 0 where
    place : ℕ
    below : place < m
    note : Note
    there : slice_get notes place ≡ Some note
    centre : ℕ
    fate : Fate
    is : note.deed ≡ Asked centre ask fate

  -- a place of the notes before a place is below it
  place_below : (m p : ℕ) (note : Note) → slice_get (take m notes) p ≡ Some note → p < m
  place_below m p note there = let within = slice_get_within (take m notes) p note there in let long = length-take m notes in omega (arith, within, long)

  -- a late copy has one
  late_earlier : (m : ℕ) (ask : Ask) (fate : Fate) → IsLate (take m notes) ask fate → IsEarlier m ask
  late_earlier m ask fate late = record {
    place = late.place;
    below = place_below m late.place late.note late.there;
    note = late.note;
    there = get_in_take notes m late.place late.note late.there;
    centre = late.centre;
    fate = late.end;
    is = late.same;
  }

  -- and so has a second copy
  second_there : (m i : ℕ) (ask : Ask) (fate : Fate) → (second : IsSecond (take m notes) i ask fate) → slice_get (take m notes) (length second.earlier) ≡ Some second.last
  second_there m i ask fate second = ap (λ l. slice_get l (length second.earlier)) second.there ∙ get_seam second.earlier second.last []

  second_earlier : (m i : ℕ) (ask : Ask) (fate : Fate) → IsSecond (take m notes) i ask fate → IsEarlier m ask
  second_earlier m i ask fate second = record {
    place = length second.earlier;
    below = place_below m (length second.earlier) second.last (second_there m i ask fate second);
    note = second.last;
    there = get_in_take notes m (length second.earlier) second.last (second_there m i ask fate second);
    centre = i;
    fate = Heard second.first;
    is = second.same;
  }

  -- a commit that was asked for is one of those before it, whatever became of the ask
  own_before : (many m : ℕ) (note : Note) (i : ℕ) (tx : Tx) (fate : Fate) → m < many → slice_get notes m ≡ Some note → note.deed ≡ Asked i (Commit tx) fate → In tx (commits_of n client capacity (take m notes))
  own_before zero m note i tx fate lt there is = absurd (omega (arith, lt))
  own_before (suc many) m note i tx fate lt there is =
      ⊎_elim
      (λ gives. sent client (client_before m) (commits_of n client capacity (take m notes)) i tx (held_after n client capacity notes follows m) gives)
      (λ copy. ⊎_elim
      (λ (late : IsLate (take m notes) (Commit tx) fate). copied many m tx lt (late_earlier m (Commit tx) fate late) (own_before many))
      (λ (second : IsSecond (take m notes) i (Commit tx) fate). copied many m tx lt (second_earlier m i (Commit tx) fate second) (own_before many))
      copy)
      (allowed m note i (Commit tx) fate there is)
    where
      copied : (many m : ℕ) (tx : Tx) → m < suc many → (e : IsEarlier m (Commit tx)) → ((m : ℕ) (note : Note) (i : ℕ) (tx : Tx) (fate : Fate) → m < many → slice_get notes m ≡ Some note → note.deed ≡ Asked i (Commit tx) fate → In tx (commits_of n client capacity (take m notes))) → In tx (commits_of n client capacity (take m notes))
      copied many m tx lt e rest = grows e.place m tx (omega (arith, e.below)) (rest e.place e.note e.centre tx e.fate (omega (arith, e.below, lt)) e.there e.is)

  -- so of each commit ask of the log
  pub own_commit : (m : ℕ) (note : Note) (i : ℕ) (tx : Tx) (fate : Fate) → slice_get notes m ≡ Some note → note.deed ≡ Asked i (Commit tx) fate → In tx (commits_of n client capacity (take m notes))
  own_commit m note i tx fate there is = own_before (suc m) m note i tx fate (omega arith) there is

  -- what is asked is what the client gave now or before
  asked_given : (m : ℕ) (note : Note) (i : ℕ) (ask : Ask) (fate : Fate) → slice_get notes m ≡ Some note → note.deed ≡ Asked i ask fate → ((s : Client) × ((j : ℕ) × Gives s j ask)) ⊎ ((tx : Tx) × (ask ≡ Commit tx))
  asked_given m note i ask fate there is =
      ⊎_elim
      (λ gives. inl (client_before m, (i, gives)))
      (λ copy. ⊎_elim
      (λ (late : IsLate (take m notes) ask fate). inr (late.tx, late.commit))
      (λ (second : IsSecond (take m notes) i ask fate).
      let place : ℕ = length second.earlier in
      let last = get_in_take notes m place second.last (second_there m i ask fate second) in
      inl (client_before place, (i, heard_gives (client_before place) (take place notes) i ask second.first (allowed place second.last i ask (Heard second.first) last second.same))))
      copy)
      (allowed m note i ask fate there is)

  -- a client delivers no record
  pub delivers_none : (m : ℕ) (note : Note) (i : ℕ) (fate : Fate) (item : Record) (hops : ℕ) → slice_get notes m ≡ Some note → note.deed ≡ Asked i (Deliver item hops) fate → ⊥
  delivers_none m note i fate item hops there is =
      ⊎_elim (λ given. given.1.1) (λ commit. commit_no_delivery (Deliver item hops) commit.0 item hops commit.1 refl) (asked_given m note i (Deliver item hops) fate there is)

  -- and teaches no vector
  pub teaches_none : (m : ℕ) (note : Note) (i : ℕ) (fate : Fate) (from : ℕ) (news : List ℕ) → slice_get notes m ≡ Some note → note.deed ≡ Asked i (Learn from news) fate → ⊥
  teaches_none m note i fate from news there is =
      ⊎_elim (λ given. given.1.1) (λ commit. commit_no_news (Learn from news) commit.0 from news commit.1 refl) (asked_given m note i (Learn from news) fate there is)
