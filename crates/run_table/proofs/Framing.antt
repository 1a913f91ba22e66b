-- What a sender of a history mails has frames.
use Rattle.std.proofs.Common.{◌≡◌, ◌≤◌, ◌<◌, ℕ, zero, suc, ◌+◌, ◌==◌, inl, inr, ⊎_elim, Bool, true, false, cond, List, [], ◌∷◌, map, length, Some, None, refl, sym, ap, ◌∙◌, subst, arith}
use Rattle.std.specs.Prelude.{slice_get}
use Rattle.std.specs.Option.{option_map}
use Rattle.std.proofs.lemmas.Bool.{eq-eqb, cases_lt}
use Rattle.std.proofs.lemmas.Option.{same_Some, slice_get-map, slice_get_past}
use Rattle.std.proofs.lemmas.List.FromFn.{length-map-range_with_len}
use Rattle.std.proofs.lemmas.List.{length-map}
use Rattle.list_core.specs.Members.{In}
use Rattle.list_core.proofs.Gets.{get_within, all_get}
use Rattle.list_core.proofs.Members.{In_either, filter_all, All-In}
use Rattle.list_core.proofs.Passing.{In_filter_map}
use Rattle.ids_core.specs.declared.limits.TheConstants.{MOST_RECORDS}
use Rattle.vv_core.specs.Vectors.{centres}
use Rattle.dc_talk.specs.declared.sent.Sent.{Sent}
use Rattle.dc_talk.specs.declared.ask.Ask.TheVariants.{Send, Report}
use Rattle.dc_talk.specs.declared.say.Say.{Say}
use Rattle.dc_talk.specs.declared.say.Say.TheVariants.{Records}
use Rattle.dc_talk.specs.declared.log.Fate.TheVariants.{Unheard}
use Rattle.dc_talk.specs.declared.log.Deed.{Deed}
use Rattle.dc_talk.specs.declared.log.Deed.TheVariants.{Asked}
use Rattle.dc_talk.specs.declared.settings.Settings.{Settings}
use Rattle.dc_talk.specs.Entries.{Entry}
use Rattle.dc_talk.specs.Logs.{entry_for, entry_made, entries_made}
use Rattle.dc_talk.specs.Answers.{History}
use Rattle.dc_talk.specs.Laws.{IsCentreHistory}
use Rattle.dc_door.specs.Centres.{CentreTrail}
use Rattle.dc_door.specs.KeptDoors.{entries_of, trail_at, settings_of}
use Rattle.link_frames.specs.Frames.{is_deliverable}
use Rattle.trail_frames.specs.Carried.{AreDeliverable}
use Rattle.trail_frames.proofs.Carrying.{sent_deliverable, answered_before}
use Rattle.script_core.specs.declared.script.Script.{Script}
use Rattle.script_core.specs.Rounds.{records_in, mailed_from, mailed}
use Rattle.script_core.specs.Scripts.{IsInRange}
use Rattle.run_book.specs.Setups.{setup_of, settings_among}
use Rattle.run_table.specs.Framing.{AreFramed}
use Rattle.run_table.specs.Tables.{AreHistories}
use Rattle.run_table.proofs.Numbered.{get_below}

-- ---- of deeds

-- the records of each answer to a send can be delivered
abbrev pub AreSentFit : List Deed → Type 0
AreSentFit deeds = (i after most : ℕ) (list : List Sent) → In (Asked i (Send after most) (Unheard (Records list))) deeds → AreDeliverable list

-- so can each record that the deeds mail
mailed_fit : (last to : ℕ) (deeds : List Deed) → AreSentFit deeds → (item : Sent) → In item (mailed_from last to deeds) → is_deliverable item ≡ true
mailed_fit last to [] fit item among = absurd among
mailed_fit last to (Asked i Report fate ∷ deeds) fit item among = mailed_fit i to deeds (λ j after most list there. fit j after most list (inr there)) item among
mailed_fit last to (Asked i (Send after most) (Unheard say) ∷ deeds) fit item among =
    ⊎_elim (λ here. now say refl (put (last == to) here))
    (λ later. mailed_fit last to deeds (λ j after most list there. fit j after most list (inr there)) item later)
    (In_either (cond (last == to) (records_in say) []) (mailed_from last to deeds) item among)
  where
    put : (test : Bool) → In item (cond test (records_in say) []) → In item (records_in say)
    put true here = here
    put false here = absurd here

    now : (it : Say) → it ≡ say → In item (records_in it) → is_deliverable item ≡ true
    now (Records list) is here = All-In (λ (sent : Sent). is_deliverable sent ≡ true) list item (fit i after most list (inl (ap (λ say. Asked i (Send after most) (Unheard say)) is))) here
    now it is here = absurd here
mailed_fit last to (deed ∷ deeds) fit item among = mailed_fit last to deeds (λ j after most list there. fit j after most list (inr there)) item among

-- so all has frames
pub mailed_framed : (deeds : List Deed) → AreSentFit deeds → AreFramed deeds
mailed_framed deeds fit to = filter_all is_deliverable (mailed to deeds) (mailed_fit 0 to deeds fit)

-- ---- of the trails of a script's centres

module _ (script : Script) (range : IsInRange script) (cs : List CentreTrail) (settings : settings_of cs ≡ map (settings_among script.n script.k (setup_of script)) (centres script.n)) (histories : AreHistories cs) where
  -- the centre at a place is one of the script's, with a history
  centre_history : (place : ℕ) (one : CentreTrail) → place < length cs → slice_get cs place ≡ Some one → IsCentreHistory one.settings one.entries
  centre_history place one lt there =
      let few : length cs ≡ script.n = sym (length-map cs (λ (centre : CentreTrail). centre.settings)) ∙ (ap length settings ∙ length-map-range_with_len (settings_among script.n script.k (setup_of script)) 1 script.n) in
      let mine : slice_get (settings_of cs) place ≡ Some one.settings = slice_get-map (λ (centre : CentreTrail). centre.settings) cs place ∙ ap (option_map (λ (centre : CentreTrail). centre.settings)) there in
      let due : slice_get (map (settings_among script.n script.k (setup_of script)) (centres script.n)) place ≡ Some (settings_among script.n script.k (setup_of script) (1 + place)) = get_below (settings_among script.n script.k (setup_of script)) script.n place (omega (arith, lt, few)) in
      let same : one.settings ≡ settings_among script.n script.k (setup_of script) (1 + place) = same_Some one.settings (settings_among script.n script.k (setup_of script) (1 + place)) (sym mine ∙ (ap (λ (list : List Settings). slice_get list place) settings ∙ due)) in
      let history : History one.settings one.entries = all_get (λ (centre : CentreTrail). History centre.settings centre.entries) cs place one histories there in
      record {
        centre = subst (λ (s : Settings). (1 ≤ s.me) × (s.me ≤ s.n)) (sym same) (omega arith, omega (arith, lt, few));
        few = subst (λ (s : Settings). s.limit ≤ MOST_RECORDS) (sym same) range.limit.1;
        history = history;
      }

  -- the records of an answer to a send in one of their trails can be delivered
  pub trail_fit : (i after most : ℕ) (entry : Entry) (list : List Sent) → In entry (trail_at cs i) → entry.ask ≡ Send after most → entry.say ≡ Records list → AreDeliverable list
  trail_fit zero after most entry list there asks says = absurd there
  trail_fit (suc place) after most entry list there asks says = ⊎_elim
      (λ (lt : place < length cs).
      let one = get_within cs place lt in
      let trail : In entry one.0.entries = subst (In entry) (ap entries_of one.1) there in
      answered_before AreDeliverable one.0.settings one.0.entries entry (Send after most) list (centre_history place one.0 lt one.1) trail asks says (λ before h is. sent_deliverable one.0.settings before h after most list is))
      (λ (past : length cs ≤ place). absurd (subst (In entry) (ap entries_of (slice_get_past cs place past)) there))
      (cases_lt place (length cs))

  -- so what deeds mail that an actor did has frames, where their entries stand in the trails
  pub deeds_framed : (actor : ℕ) (deeds : List Deed) → ((i : ℕ) (entry : Entry) → In entry (entries_made actor i deeds) → In entry (trail_at cs i)) → AreFramed deeds
  deeds_framed actor deeds there = mailed_framed deeds (λ i after most list among.
      let made : entry_made actor i (Asked i (Send after most) (Unheard (Records list))) ≡ Some (entry_for actor (Send after most, Records list)) = ap (λ test. option_map (entry_for actor) (cond test (Some (Send after most, Records list)) None)) (eq-eqb i i refl) in
      trail_fit i after most (entry_for actor (Send after most, Records list)) list (there i (entry_for actor (Send after most, Records list)) (In_filter_map (entry_made actor i) deeds (Asked i (Send after most) (Unheard (Records list))) (entry_for actor (Send after most, Records list)) among made)) refl refl)
