-- What a sender puts on a link.
use Rattle.std.proofs.Common.{◌≡◌, ◌≢◌, ℕ, ◌==◌, inl, inr, ⊎_elim, Bool, true, false, cond, List, [], ◌∷◌, ◌++◌, Some, None, refl, sym, ap, ◌∙◌, subst, append_assoc}
use Rattle.std.proofs.lemmas.Bool.{eq-eqb, ne_eqb, cond_both}
use Rattle.std.proofs.lemmas.List.{append-nil}
use Rattle.list_core.specs.Members.{In}
use Rattle.list_core.proofs.Members.{In_either}
use Rattle.dc_talk.specs.declared.sent.Sent.{Sent}
use Rattle.dc_talk.specs.declared.ask.Ask.TheVariants.{Send, Report}
use Rattle.dc_talk.specs.declared.say.Say.{Say}
use Rattle.dc_talk.specs.declared.say.Say.TheVariants.{Records, Vector}
use Rattle.dc_talk.specs.declared.log.Fate.TheVariants.{Unheard}
use Rattle.dc_talk.specs.declared.log.Deed.{Deed}
use Rattle.dc_talk.specs.declared.log.Deed.TheVariants.{Asked}
use Rattle.script_core.specs.Carrying.{Route}
use Rattle.script_core.specs.Provenance.{WasSent, CarriesAll}
use Rattle.script_core.specs.Rounds.{records_in, AfterNeeded, Mails, mailed_from, mailed}

-- ---- a route

-- what the asks over a route carry
pub mails_carry : (r : Route) (deeds : List Deed) (items : List Sent) → Mails r deeds items → CarriesAll [] deeds
mails_carry r deeds items is = subst (CarriesAll []) (sym is.whole) (tt, after is.say is.later is.follows)
  where
    after : (say : Say) (later : List Deed) → AfterNeeded r say later items → CarriesAll (Asked r.to Report (Unheard is.say) ∷ []) later
    after (Vector vector) later follows = subst (CarriesAll (Asked r.to Report (Unheard is.say) ∷ [])) (sym follows.1) (tt, tt)
    after say later follows = subst (CarriesAll (Asked r.to Report (Unheard is.say) ∷ [])) (sym follows.0) tt

-- ---- deeds behind deeds

-- what deeds put on a link behind others does not hang on who reported last
pub record IsFresh (deeds : List Deed) : Type 0 where
  pub last : (last to : ℕ) → mailed_from last to deeds ≡ mailed to deeds

-- it is put behind what the others did
pub mailed_then : (last to : ℕ) (ds es : List Deed) → IsFresh es → mailed_from last to (ds ++ es) ≡ mailed_from last to ds ++ mailed to es
mailed_then last to [] es fresh = fresh.last last to
mailed_then last to (Asked i Report fate ∷ ds) es fresh = mailed_then i to ds es fresh
mailed_then last to (Asked i (Send after most) (Unheard say) ∷ ds) es fresh =
    let put : List Sent = cond (last == to) (records_in say) [] in
    ap (λ more. put ++ more) (mailed_then last to ds es fresh) ∙ sym (append_assoc put (mailed_from last to ds) (mailed to es))
mailed_then last to (deed ∷ ds) es fresh = mailed_then last to ds es fresh

-- what follows a report puts its items on the link to the centre that reported
mailed_after : (r : Route) (say : Say) (deeds : List Deed) (items : List Sent) (j : ℕ) → AfterNeeded r say deeds items → mailed_from r.to j deeds ≡ cond (r.to == j) items []
mailed_after r (Vector vector) deeds items j is = ap (mailed_from r.to j) is.1 ∙ (append-nil (cond (r.to == j) (records_in is.0) []) ∙ ap (λ items. cond (r.to == j) items []) (sym is.2))
mailed_after r say deeds items j is = ap (mailed_from r.to j) is.0 ∙ (sym (cond_both (r.to == j) [] [] (λ (none : List Sent). none ≡ []) (λ here. refl) (λ away. refl)) ∙ ap (λ items. cond (r.to == j) items []) (sym is.1))

-- so do the asks over a route, whoever reported before
pub mailed_over : (last : ℕ) (r : Route) (deeds : List Deed) (items : List Sent) (j : ℕ) → Mails r deeds items → mailed_from last j deeds ≡ cond (r.to == j) items []
mailed_over last r deeds items j is = ap (mailed_from last j) is.whole ∙ mailed_after r is.say is.later items j is.follows

pub mails_fresh : (r : Route) (deeds : List Deed) (items : List Sent) → Mails r deeds items → IsFresh deeds
mails_fresh r deeds items is = record { last = λ last to. mailed_over last r deeds items to is ∙ sym (mailed_over 0 r deeds items to is) }

pub mailed_route : (r : Route) (deeds : List Deed) (items : List Sent) → Mails r deeds items → mailed r.to deeds ≡ items
mailed_route r deeds items is = mailed_over 0 r deeds items r.to is ∙ ap (λ test. cond test items []) (eq-eqb r.to r.to refl)

pub mailed_other : (r : Route) (deeds : List Deed) (items : List Sent) (j : ℕ) → Mails r deeds items → j ≢ r.to → mailed j deeds ≡ []
mailed_other r deeds items j is other = mailed_over 0 r deeds items j is ∙ ap (λ test. cond test items []) (ne_eqb r.to j (λ same. other (sym same)))

pub mailed_more : (r : Route) (ds es : List Deed) (items : List Sent) (j : ℕ) → Mails r es items → mailed j (ds ++ es) ≡ mailed j ds ++ mailed j es
mailed_more r ds es items j is = mailed_then 0 j ds es (mails_fresh r es items is)

-- ---- where a record was had from

-- what was sent among the later deeds was sent among all
sent_later : (deed : Deed) (deeds : List Deed) (item : Sent) → WasSent deeds item → WasSent (deed ∷ deeds) item
sent_later deed deeds item sent = record { centre = sent.centre; ask = sent.ask; list = sent.list; answer = record { deed = sent.answer.deed; there = inr sent.answer.there; exchanged = sent.answer.exchanged }; among = sent.among }

-- a record of the answer to the first deed
sent_now : (i after most : ℕ) (say : Say) (deeds : List Deed) (item : Sent) → In item (records_in say) → WasSent (Asked i (Send after most) (Unheard say) ∷ deeds) item
sent_now i after most (Records list) deeds item among =
    let here : (i == i) ≡ true = eq-eqb i i refl in
    record {
      centre = i;
      ask = Send after most;
      list = list;
      answer = record { deed = Asked i (Send after most) (Unheard (Records list)); there = inl refl; exchanged = ap (λ test. cond test (Some (Send after most, Records list)) None) here };
      among = among;
    }
sent_now i after most say deeds item among = absurd among

mailed_from_sent : (last to : ℕ) (deeds : List Deed) (item : Sent) → In item (mailed_from last to deeds) → WasSent deeds item
mailed_from_sent last to [] item among = absurd among
mailed_from_sent last to (Asked i Report fate ∷ deeds) item among = sent_later (Asked i Report fate) deeds item (mailed_from_sent i to deeds item among)
mailed_from_sent last to (Asked i (Send after most) (Unheard say) ∷ deeds) item among =
    ⊎_elim (λ here. sent_now i after most say deeds item (put (last == to) here))
    (λ later. sent_later (Asked i (Send after most) (Unheard say)) deeds item (mailed_from_sent last to deeds item later))
    (In_either (cond (last == to) (records_in say) []) (mailed_from last to deeds) item among)
  where
    put : (test : Bool) → In item (cond test (records_in say) []) → In item (records_in say)
    put true here = here
    put false here = absurd here
mailed_from_sent last to (deed ∷ deeds) item among = sent_later deed deeds item (mailed_from_sent last to deeds item among)

pub mailed_sent : (to : ℕ) (deeds : List Deed) (item : Sent) → In item (mailed to deeds) → WasSent deeds item
mailed_sent to deeds item among = mailed_from_sent 0 to deeds item among
