-- A sender's round over the links to the first centres, and over the next one.
use Rattle.std.proofs.Common.{◌≡◌, ◌≢◌, ◌≤◌, ◌<◌, ◌⊎◌, inl, inr, ℕ, ◌+◌, ◌-◌, ◌==◌, cond, List, [], ◌∷◌, ◌++◌, length, get_or, set, append_assoc, refl, sym, ap, ◌∙◌}
use Rattle.std.proofs.lemmas.Bool.{cases_eq, eq-eqb, ne_eqb}
use Rattle.std.proofs.lemmas.List.{append-nil}
use Rattle.std.proofs.lemmas.List.Elements.{filter-append}
use Rattle.dc_talk.specs.declared.sent.Sent.{Sent}
use Rattle.dc_talk.specs.Acting.{Acting}
use Rattle.link_frames.specs.Frames.{is_deliverable, framed}
use Rattle.mail_link.specs.Ends.{GiverView}
use Rattle.script_core.specs.Carrying.{Route, route, no_turn}
use Rattle.script_core.specs.Rounds.{Mails, mailed}
use Rattle.script_core.proofs.Provenance.{carries_both}
use Rattle.script_core.proofs.Turns.{turns_next, turns_self}
use Rattle.script_core.proofs.Mailing.{mailed_over, mailed_then, mails_fresh}
use Rattle.dc_worker.specs.Work.{CarriesSuch}
use Rattle.dc_worker.proofs.Work.{adds_none, adds_then}
use Rattle.dc_links.specs.Links.{IsMore, put_to}
use Rattle.dc_links.specs.Puts.{Posts, outgoing}
use Rattle.dc_links.specs.Rounds.{SendsOver, SendsTo, PutsPart}
use Rattle.dc_links.proofs.Places.{seen_at, seen_here, seen_else, places_apart}

-- a send without records puts nothing
pub posts_none : (r : Route) (a b : Acting) (put : List Sent) → CarriesSuch (λ deeds. Mails r deeds []) a b → Posts r 0 (outgoing a put) (outgoing b put)
posts_none r a b put mails = record { items = []; mails = mails; put = sym (append-nil put); count = refl }

-- ---- one link

-- what was put on it
put_more : (to : ℕ) (givers : List (GiverView Sent)) (giver new : GiverView Sent) (items : List Sent) → 1 ≤ to → to - 1 < length givers → giver ≡ get_or givers (to - 1) giver → new.put ≡ giver.put ++ items → put_to (set givers (to - 1) new) to ≡ put_to givers to ++ items
put_more to givers giver new items low lt is more =
    let put : GiverView Sent → List Sent = λ (giver : GiverView Sent). giver.put in
    seen_here put [] givers (to - 1) new lt ∙ (more ∙ ap (λ before. before ++ items) (sym (seen_at put [] givers (to - 1) giver lt is)))

-- on the others nothing was
put_rest : (to : ℕ) (givers : List (GiverView Sent)) (new : GiverView Sent) → 1 ≤ to → (j : ℕ) → 1 ≤ j → j ≢ to → put_to (set givers (to - 1) new) j ≡ put_to givers j
put_rest to givers new low j least other = seen_else (λ (giver : GiverView Sent). giver.put) [] givers (to - 1) (j - 1) new (places_apart to j low least other)

-- the records of a round
pub sends_to : (i to number : ℕ) (givers : List (GiverView Sent)) (giver new : GiverView Sent) (a b : Acting) → 1 ≤ to → to - 1 < length givers → giver ≡ get_or givers (to - 1) giver → Posts (route i to) number (outgoing a giver.put) (outgoing b new.put) → SendsTo i to givers (set givers (to - 1) new) a b
sends_to i to number givers giver new a b low lt is posts = record {
  items = posts.items;
  mails = posts.mails;
  put = put_more to givers giver new (framed posts.items) low lt is posts.put;
  rest = put_rest to givers new low;
}

-- some first ones of the records for one centre
pub puts_part : (to : ℕ) (givers : List (GiverView Sent)) (giver new : GiverView Sent) → 1 ≤ to → to - 1 < length givers → giver ≡ get_or givers (to - 1) giver → IsMore giver.put new.put → PutsPart to givers (set givers (to - 1) new)
puts_part to givers giver new low lt is more = record { more = (more.0, put_more to givers giver new more.0 low lt is more.1); rest = put_rest to givers new low }

-- ---- the first links

-- over no links
pub sent_none : (i : ℕ) (givers : List (GiverView Sent)) (a : Acting) → SendsOver 0 i givers givers a a
sent_none i givers a = record {
  deeds = [];
  such = no_turn;
  adds = adds_none a;
  carries = tt;
  put = λ to low. sym (append-nil (put_to givers to));
}

-- over one link more
pub sent_next : (k i next : ℕ) (old mid new : List (GiverView Sent)) (a b c : Acting) → next ≡ k + 1 → next ≢ i → SendsOver k i old mid a b → SendsTo i next mid new b c → SendsOver next i old new a c
sent_next k i next old mid new a b c is other before one = record {
  deeds = before.deeds ++ one.mails.deeds;
  such = turns_next k i next is before.deeds one.mails.deeds other before.such (one.items, one.mails.such);
  adds = adds_then a b c before.deeds one.mails.deeds before.adds one.mails.adds;
  carries = carries_both before.deeds one.mails.deeds before.carries one.mails.carries;
  put = λ to low. each to low (cases_eq to next);
}
  where
    all : ℕ → List Sent
    all to = framed (mailed to (before.deeds ++ one.mails.deeds))

    -- what is mailed grows by the items of the link
    grown : (to : ℕ) → mailed to (before.deeds ++ one.mails.deeds) ≡ mailed to before.deeds ++ cond (next == to) one.items []
    grown to = mailed_then 0 to before.deeds one.mails.deeds (mails_fresh (route i next) one.mails.deeds one.items one.mails.such) ∙ ap (λ more. mailed to before.deeds ++ more) (mailed_over 0 (route i next) one.mails.deeds one.items to one.mails.such)

    each : (to : ℕ) → 1 ≤ to → (to ≡ next) ⊎ (to ≢ next) → put_to new to ≡ put_to old to ++ all to
    each to low (inl this) =
        let now : all to ≡ framed (mailed to before.deeds) ++ framed one.items = ap framed (grown to ∙ ap (λ test. mailed to before.deeds ++ cond test one.items []) (eq-eqb next to (sym this))) ∙ filter-append is_deliverable (mailed to before.deeds) one.items in
        ap (put_to new) this
        ∙ (one.put
        ∙ (ap (λ j. put_to mid j ++ framed one.items) (sym this)
        ∙ (ap (λ put. put ++ framed one.items) (before.put to low)
        ∙ (append_assoc (put_to old to) (framed (mailed to before.deeds)) (framed one.items) ∙ ap (λ more. put_to old to ++ more) (sym now)))))
    each to low (inr else) =
        let now : all to ≡ framed (mailed to before.deeds) = ap framed (grown to ∙ (ap (λ test. mailed to before.deeds ++ cond test one.items []) (ne_eqb next to (λ same. else (sym same))) ∙ append-nil (mailed to before.deeds))) in
        one.rest to low else ∙ (before.put to low ∙ ap (λ more. put_to old to ++ more) (sym now))

-- but not to the centre itself
pub sent_self : (k i next : ℕ) (old mid : List (GiverView Sent)) (a b : Acting) → next ≡ k + 1 → next ≡ i → SendsOver k i old mid a b → SendsOver next i old mid a b
sent_self k i next old mid a b is self before = record {
  deeds = before.deeds;
  such = turns_self k i next is before.deeds self before.such;
  adds = before.adds;
  carries = before.carries;
  put = before.put;
}

-- ---- the records of one answer

-- one record more was put, where it has a frame
pub put_next : (old mid new items rest : List Sent) (item : Sent) → old ++ framed items ≡ mid ++ framed (item ∷ rest) → new ≡ mid ++ framed (item ∷ []) → old ++ framed items ≡ new ++ framed rest
put_next old mid new items rest item before is =
    before
    ∙ (ap (λ more. mid ++ more) (filter-append is_deliverable (item ∷ []) rest)
    ∙ (sym (append_assoc mid (framed (item ∷ [])) (framed rest)) ∙ ap (λ put. put ++ framed rest) (sym is)))

-- so more was put
pub more_next : (old mid new more : List Sent) → IsMore old mid → new ≡ mid ++ more → IsMore old new
more_next old mid new more before is = (before.0 ++ more, is ∙ (ap (λ put. put ++ more) before.1 ∙ append_assoc old before.0 more))
