-- Rounds over the links to the first centres, and over the next one.
use Rattle.std.proofs.Common.{◌≡◌, ◌≢◌, ◌≤◌, ◌<◌, ◌⊎◌, inl, inr, ℕ, ◌+◌, ◌==◌, Bool, true, false, cond, not, List, [], ◌++◌, Option, refl, sym, ap, ◌∙◌, subst, append_assoc, arith}
use Rattle.std.specs.Prelude.{◌&&◌, nat_le}
use Rattle.std.proofs.lemmas.Bool.{cases_eq, eq-eqb, ne_eqb, leb-true, leb-false, le-leb, lt-leb}
use Rattle.std.proofs.lemmas.List.{append-nil}
use Rattle.std.proofs.lemmas.List.Elements.{filter-append}
use Rattle.dc_talk.specs.declared.sent.Sent.{Sent}
use Rattle.dc_talk.specs.declared.links.Arrival.{Arrival}
use Rattle.dc_talk.specs.declared.line.Line.{Line}
use Rattle.dc_talk.specs.Acting.{Acting}
use Rattle.link_frames.specs.Frames.{is_deliverable, framed}
use Rattle.script_core.specs.Carrying.{route, Tells, no_turn}
use Rattle.script_core.specs.Mail.{Post, post_put}
use Rattle.script_core.specs.Rounds.{Mails, mailed, Brings, ReporterDeeds}
use Rattle.script_core.proofs.Provenance.{carries_both}
use Rattle.script_core.proofs.Turns.{turns_next, turns_self}
use Rattle.script_core.proofs.Mailing.{mailed_over, mailed_then, mails_fresh}
use Rattle.dc_worker.specs.Work.{AddsSuch, CarriesSuch}
use Rattle.dc_worker.proofs.Work.{adds_none, adds_then}
use Rattle.dc_worker.proofs.Turns.{carries_such_then}
use Rattle.dc_mail.specs.Posts.{post_at, IsCentre, HasSet}
use Rattle.dc_mail.specs.Rounds.{HasSent, HasReceived, is_inward}

-- ---- a sender

-- more records behind those that are put
put_both : (items more : List Sent) (post : Post) → post_put more (post_put items post) ≡ post_put (items ++ more) post
put_both items more post = λ k. record { waits = append_assoc post.waits items more k; inlet = post.inlet }

put_none : (post : Post) → post_put [] post ≡ post
put_none post = λ k. record { waits = append-nil post.waits k; inlet = post.inlet }

-- over no links
pub sent_none : (i : ℕ) (posts : List Post) (a : Acting) → HasSent 0 i posts posts a a
sent_none i posts a = record {
  deeds = [];
  such = no_turn;
  adds = adds_none a;
  carries = tt;
  posts = λ from to f t. sym (same (from == i && not (to == i)) (post_at posts from to));
}
  where
    same : (test : Bool) (post : Post) → cond test (post_put [] post) post ≡ post
    same true post = put_none post
    same false post = refl

-- over one link more
pub sent_next : (k i next : ℕ) (old mid new : List Post) (a b c : Acting) (items : List Sent) → next ≡ k + 1 → next ≢ i → HasSent k i old mid a b → CarriesSuch (λ deeds. Mails (route i next) deeds items) b c → HasSet i next (post_put (framed items) (post_at mid i next)) mid new → HasSent next i old new a c
sent_next k i next old mid new a b c items is other before mails put = record {
  deeds = before.deeds ++ mails.deeds;
  such = turns_next k i next is before.deeds mails.deeds other before.such (items, mails.such);
  adds = adds_then a b c before.deeds mails.deeds before.adds mails.adds;
  carries = carries_both before.deeds mails.deeds before.carries mails.carries;
  posts = λ from to f t.
      put.each from to f t ∙ each from to f t (cases_eq from i) (cases_eq to next);
}
  where
    -- what is mailed grows by the items of the link
    grown : (to : ℕ) → mailed to (before.deeds ++ mails.deeds) ≡ mailed to before.deeds ++ cond (next == to) items []
    grown to = mailed_then 0 to before.deeds mails.deeds (mails_fresh (route i next) mails.deeds items mails.such) ∙ ap (λ more. mailed to before.deeds ++ more) (mailed_over 0 (route i next) mails.deeds items to mails.such)

    each : (from to : ℕ) → IsCentre from → IsCentre to → (from ≡ i) ⊎ (from ≢ i) → (to ≡ next) ⊎ (to ≢ next) → cond (from == i && to == next) (post_put (framed items) (post_at mid i next)) (post_at mid from to) ≡ cond (from == i && not (to == i)) (post_put (framed (mailed to (before.deeds ++ mails.deeds))) (post_at old from to)) (post_at old from to)
    each from to f t (inr away) two =
        ap (λ test. cond (test && to == next) (post_put (framed items) (post_at mid i next)) (post_at mid from to)) (ne_eqb from i away)
        ∙ (before.posts from to f t
        ∙ (ap (λ test. cond (test && not (to == i)) (post_put (framed (mailed to before.deeds)) (post_at old from to)) (post_at old from to)) (ne_eqb from i away)
        ∙ sym (ap (λ test. cond (test && not (to == i)) (post_put (framed (mailed to (before.deeds ++ mails.deeds))) (post_at old from to)) (post_at old from to)) (ne_eqb from i away))))
    each from to f t (inl one) (inl two) =
        let apart : to ≢ i = λ same. other (sym two ∙ same) in
        let put_now : framed (mailed to (before.deeds ++ mails.deeds)) ≡ framed (mailed to before.deeds) ++ framed items = ap framed (grown to ∙ ap (λ test. mailed to before.deeds ++ cond test items []) (eq-eqb next to (sym two))) ∙ filter-append is_deliverable (mailed to before.deeds) items in
        let was : post_at mid from to ≡ post_put (framed (mailed to before.deeds)) (post_at old from to) = before.posts from to f t ∙ (λ j. cond (eq-eqb from i one j && not (ne_eqb to i apart j)) (post_put (framed (mailed to before.deeds)) (post_at old from to)) (post_at old from to)) in
        (λ j. cond (eq-eqb from i one j && eq-eqb to next two j) (post_put (framed items) (post_at mid i next)) (post_at mid from to))
        ∙ ((λ j. post_put (framed items) (post_at mid (sym one j) (sym two j)))
        ∙ (ap (post_put (framed items)) was
        ∙ (put_both (framed (mailed to before.deeds)) (framed items) (post_at old from to)
        ∙ (ap (λ all. post_put all (post_at old from to)) (sym put_now)
        ∙ sym (λ j. cond (eq-eqb from i one j && not (ne_eqb to i apart j)) (post_put (framed (mailed to (before.deeds ++ mails.deeds))) (post_at old from to)) (post_at old from to))))))
    each from to f t (inl one) (inr two) =
        let same : framed (mailed to (before.deeds ++ mails.deeds)) ≡ framed (mailed to before.deeds) = ap framed (grown to ∙ (ap (λ test. mailed to before.deeds ++ cond test items []) (ne_eqb next to (λ same. two (sym same))) ∙ append-nil (mailed to before.deeds))) in
        (λ j. cond (eq-eqb from i one j && ne_eqb to next two j) (post_put (framed items) (post_at mid i next)) (post_at mid from to))
        ∙ (before.posts from to f t ∙ ap (λ all. cond (from == i && not (to == i)) (post_put all (post_at old from to)) (post_at old from to)) (sym same))

-- but not to the centre itself
pub sent_self : (k i next : ℕ) (old mid : List Post) (a b : Acting) → next ≡ k + 1 → next ≡ i → HasSent k i old mid a b → HasSent next i old mid a b
sent_self k i next old mid a b is self before = record {
  deeds = before.deeds;
  such = turns_self k i next is before.deeds self before.such;
  adds = before.adds;
  carries = before.carries;
  posts = before.posts;
}

-- ---- a receiver

module _ (due : Post → List (Arrival Sent)) (later : Post → Post) where
  -- over no links
  pub received_none : (i : ℕ) (posts : List Post) (a : Acting) → HasReceived due later 0 i posts posts a a
  received_none i posts a = record {
    deeds = [];
    such = no_turn;
    adds = adds_none a;
    posts = λ from to f t.
        let none : nat_le from 0 ≡ false = lt-leb from 0 (omega (arith, f)) in
        sym (ap (λ test. cond ((to == i && not (from == i)) && test) (later (post_at posts from to)) (post_at posts from to)) none ∙ never (to == i && not (from == i)) (later (post_at posts from to)) (post_at posts from to));
  }
    where
      never : (test : Bool) (x y : Post) → cond (test && false) x y ≡ y
      never true x y = refl
      never false x y = refl

  module _ (k i next : ℕ) (is : next ≡ k + 1) (old mid : List Post) (a b : Acting) (before : HasReceived due later k i old mid a b) where
    -- links from the centre itself do not count
    same_inward : (from to : ℕ) → (to ≢ i) ⊎ ((from ≡ i) ⊎ (from ≢ next)) → is_inward k i from to ≡ is_inward next i from to
    same_inward from to (inl away) = (λ j. (ne_eqb to i away j && not (from == i)) && nat_le from k) ∙ sym (λ j. (ne_eqb to i away j && not (from == i)) && nat_le from next)
    same_inward from to (inr (inl self)) =
        (λ j. (to == i && not (eq-eqb from i self j)) && nat_le from k) ∙ (none (to == i) (nat_le from k) (nat_le from next) ∙ sym (λ j. (to == i && not (eq-eqb from i self j)) && nat_le from next))
      where
        none : (test one two : Bool) → ((test && false) && one) ≡ ((test && false) && two)
        none true one two = refl
        none false one two = refl
    same_inward from to (inr (inr apart)) = ap (λ test. (to == i && not (from == i)) && test) (go (cases_le from k))
      where
        cases_le : (m n : ℕ) → (m ≤ n) ⊎ (n < m)
        cases_le m n = by (nat_le m n) refl
          where
            by : (test : Bool) → nat_le m n ≡ test → (m ≤ n) ⊎ (n < m)
            by true is_low = inl (leb-true m n is_low)
            by false is_high = inr (leb-false m n is_high)

        go : (from ≤ k) ⊎ (k < from) → nat_le from k ≡ nat_le from next
        go (inl low) = le-leb from k low ∙ sym (le-leb from next (omega (arith, low, is)))
        go (inr high) = lt-leb from k high ∙ sym (lt-leb from next (omega (arith, high, is, apart)))

    -- over the link from the next centre
    pub received_next : (c : Acting) (new : List Post) → next ≢ i → IsCentre i → IsCentre next → AddsSuch (Brings (route next i) (due (post_at mid next i))) b c → HasSet next i (later (post_at mid next i)) mid new → HasReceived due later next i old new a c
    received_next c new other g h brings put = record {
      deeds = before.deeds ++ brings.deeds;
      such = turns_next k i next is before.deeds brings.deeds other before.such (subst (λ post. Brings (route next i) (due post) brings.deeds) was brings.such);
      adds = adds_then a b c before.deeds brings.deeds before.adds brings.adds;
      posts = λ from to f t. put.each from to f t ∙ each from to f t (cases_eq from next) (cases_eq to i);
    }
      where
        was : post_at mid next i ≡ post_at old next i
        was = before.posts next i h g ∙ ((λ j. cond ((eq-eqb i i refl j && not (ne_eqb next i other j)) && lt-leb next k (omega (arith, is)) j) (later (post_at old next i)) (post_at old next i)))

        each : (from to : ℕ) → IsCentre from → IsCentre to → (from ≡ next) ⊎ (from ≢ next) → (to ≡ i) ⊎ (to ≢ i) → cond (from == next && to == i) (later (post_at mid next i)) (post_at mid from to) ≡ cond (is_inward next i from to) (later (post_at old from to)) (post_at old from to)
        each from to f t (inl one) (inl two) =
            let apart : from ≢ i = λ same. other (sym one ∙ same) in
            (λ j. cond (eq-eqb from next one j && eq-eqb to i two j) (later (post_at mid next i)) (post_at mid from to))
            ∙ (ap later was
            ∙ ((λ j. later (post_at old (sym one j) (sym two j)))
            ∙ sym (λ j. cond ((eq-eqb to i two j && not (ne_eqb from i apart j)) && le-leb from next (omega (arith, one)) j) (later (post_at old from to)) (post_at old from to))))
        each from to f t (inr one) two =
            (λ j. cond (ne_eqb from next one j && to == i) (later (post_at mid next i)) (post_at mid from to))
            ∙ (before.posts from to f t ∙ ap (λ test. cond test (later (post_at old from to)) (post_at old from to)) (same_inward from to (inr (inr one))))
        each from to f t (inl one) (inr two) =
            (λ j. cond (eq-eqb from next one j && ne_eqb to i two j) (later (post_at mid next i)) (post_at mid from to))
            ∙ (before.posts from to f t ∙ ap (λ test. cond test (later (post_at old from to)) (post_at old from to)) (same_inward from to (inl two)))

    -- but not from the centre itself
    pub received_self : next ≡ i → HasReceived due later next i old mid a b
    received_self self = record {
      deeds = before.deeds;
      such = turns_self k i next is before.deeds self before.such;
      adds = before.adds;
      posts = λ from to f t. before.posts from to f t ∙ ap (λ test. cond test (later (post_at old from to)) (post_at old from to)) (same_inward from to (own from (cases_eq from next)));
    }
      where
        own : (from : ℕ) {to : ℕ} → (from ≡ next) ⊎ (from ≢ next) → (to ≢ i) ⊎ ((from ≡ i) ⊎ (from ≢ next))
        own from (inl one) = inr (inl (one ∙ self))
        own from (inr one) = inr (inr one)

-- ---- a reporter

-- over no centres
pub reported_none : (i : ℕ) (a : Acting) → CarriesSuch (ReporterDeeds 0 i) a a
reported_none i a = record { deeds = []; such = no_turn; adds = adds_none a; carries = tt }

-- over one more
pub reported_next : (k i next : ℕ) (a b c : Acting) → next ≡ k + 1 → next ≢ i → CarriesSuch (ReporterDeeds k i) a b → CarriesSuch (λ deeds. (line : Option Line) × Tells (route i next) deeds line) b c → CarriesSuch (ReporterDeeds next i) a c
reported_next k i next a b c is other before tells = carries_such_then (ReporterDeeds k i) (λ deeds. (line : Option Line) × Tells (route i next) deeds line) (ReporterDeeds next i) a b c (λ ds es first later. turns_next k i next is ds es other first later) before tells

-- but not to the centre itself
pub reported_self : (k i next : ℕ) (a b : Acting) → next ≡ k + 1 → next ≡ i → CarriesSuch (ReporterDeeds k i) a b → CarriesSuch (ReporterDeeds next i) a b
reported_self k i next a b is self before = record { deeds = before.deeds; such = turns_self k i next is before.deeds self before.such; adds = before.adds; carries = before.carries }
