-- A centre with its journal in two files is asked what a trail has, group by group.
use Rattle.std.proofs.Common.{◌≡◌, ◌≤◌, ◌<◌, ◌*◌, ◌⊎◌, inl, inr, ⊎_elim, ℕ, Bool, true, false, List, [], ◌++◌, map, length, take, Result, Ok, Err, refl, sym, ◌∙◌, ap, subst, append_assoc, arith}
use Rattle.std.specs.Prelude.{IsTrue, ◌↔◌}
use Rattle.std.proofs.lemmas.Bool.{cases_lt}
use Rattle.std.proofs.lemmas.List.{append-nil}
use Rattle.journal_disk.specs.declared.disk.Disk.{Ghosts}
use Rattle.journal_disk.specs.declared.disk.Moment.{Moment}
use Rattle.journal_disk.specs.Disk.{Ran}
use Rattle.journal_pair.specs.declared.pair.Pair.{Pair}
use Rattle.journal_pair.specs.declared.pair.TheConstants.{FLOOR}
use Rattle.journal_pair.specs.Files.{RanBeside}
use Rattle.journal_pair.specs.Pairs as pair
use Rattle.dc_talk.specs.declared.ask.Ask.{Ask}
use Rattle.dc_talk.specs.declared.say.Say.{Say}
use Rattle.dc_talk.specs.declared.settings.Settings.{Settings}
use Rattle.dc_talk.specs.Entries.{Entry}
use Rattle.dc_talk.specs.Answers.{History}
use Rattle.dc_journal.specs.Answered.{said_in, answered, AreSame}
use Rattle.dc_centre.specs.Centre.{CentreView, StandsFor}
use Rattle.parts_frames.specs.Far.{HasFarRecord}
use Rattle.pair_centre.specs.declared.compacting.Compacted.{Compacted}
use Rattle.pair_centre.specs.declared.compacting.Compacted.TheVariants.{Done, Unfit}
use Rattle.pair_centre.specs.declared.pair_centre.PairCentre.{PairCentre}
use Rattle.pair_centre.specs.Items.{item_bytes}
use Rattle.pair_centre.specs.States.{IsStateOf}
use Rattle.pair_centre.specs.Open.{settings_of, live_disk, other_disk, live_size, checkpoint_size, is_shut, IsSame, IsPairOf}
use Rattle.trail_journal.specs.Files.{ask_in}
use Rattle.trail_journal.proofs.Groups.{history_take, group_same}
use Rattle.trail_pair.specs.Trails.{HasTrail, IsSmall}

module _ {D : Type 0} {disk : Ghosts D} (stands : D → List Moment → Type 0) where
  -- all of a group was asked where each of its asks has a reply
  pub group_asked : (old new : PairCentre D disk) (P : List ℕ → List ℕ → Type 0) (front group : List Entry) (asks : List Ask) (count : ℕ) (says : List Say) → asks ≡ map ask_in group → length group ≤ length says
      → (has : HasTrail stands old front) → History (settings_of old) (front ++ group)
      → (RanBeside (stands (live_disk new)) has.live has.other P (λ later. (says ≡ map said_in (answered (settings_of old) front (take count asks))) × ((more : List Entry) → AreSame more (answered (settings_of old) front (take count asks)) → IsPairOf new later has.other (front ++ more)))) × (stands (other_disk new) has.other)
      → HasTrail stands new (front ++ group)
  group_asked old new P front group asks count says asks_are enough has history ran =
      let went = ran.0 in
      record {
        live = went.later ++ has.live;
        other = has.other;
        live_stands = went.stands_for;
        other_stands = ran.1;
        is = went.ends.1 group (group_same (settings_of old) front group asks count says asks_are went.ends.0 enough history);
      }

  -- a checkpoint changes no trail
  kept_small : (old new : PairCentre D disk) (P : List ℕ → List ℕ → Type 0) (front : List Entry) (has : HasTrail stands old front)
      → (RanBeside (stands (live_disk new)) has.other has.live P (λ later. IsPairOf new later has.live front)) × (stands (other_disk new) has.live) → HasTrail stands new front
  kept_small old new P front has ran = record {
    live = ran.0.later ++ has.other;
    other = has.live;
    live_stands = ran.0.stands_for;
    other_stands = ran.1;
    is = ran.0.ends;
  }

  -- nor does a call that changed nothing
  kept_same : (old new : PairCentre D disk) (front : List Entry) → IsSame old new → HasTrail stands old front → HasTrail stands new front
  kept_same old new front same has = record {
    live = has.live;
    other = has.other;
    live_stands = subst (λ (p : Pair D disk). stands (pair.live_disk p) has.live) (sym same.1) has.live_stands;
    other_stands = subst (λ (p : Pair D disk). stands (pair.other_disk p) has.other) (sym same.1) has.other_stands;
    is = record {
      history = subst (λ (c : CentreView). History c.settings front) (sym same.0) has.is.history;
      centre = subst (λ (c : CentreView). StandsFor c front) (sym same.0) has.is.centre;
      checkpoint = has.is.checkpoint;
      behind = has.is.behind;
      state = subst (λ (c : CentreView). IsStateOf c.settings front has.is.checkpoint has.is.behind) (sym same.0) has.is.state;
      files = subst (λ (p : Pair D disk). pair.Has item_bytes p has.live has.other has.is.checkpoint has.is.behind) (sym same.1) has.is.files;
    };
  }

  -- so it is one where a checkpoint was to be made
  pub kept_by : (old new : PairCentre D disk) (P : List Entry → List ℕ → List ℕ → Type 0) (front : List Entry) (made : Compacted)
      → (made ≡ Done → (h k : List Moment) (trail : List Entry) → stands (live_disk old) h → stands (other_disk old) k → IsPairOf old h k trail → (RanBeside (stands (live_disk new)) k h (P trail) (λ later. IsPairOf new later h trail)) × (stands (other_disk new) h))
      → (made ≡ Unfit → IsSame old new) → HasTrail stands old front → HasTrail stands new front
  kept_by old new P front Done done unfit has = kept_small old new (P front) front has (done refl has.live has.other front has.live_stands has.other_stands has.is)
  kept_by old new P front Unfit done unfit has = kept_same old new front (unfit refl) has

  -- where no checkpoint is due the live file is small
  pub small_undue : (p : PairCentre D disk) (due : Bool) → IsTrue due ↔ ((FLOOR < live_size p) × (2 * checkpoint_size p < live_size p)) → due ≡ false → IsSmall p
  small_undue p due is none = ⊎_elim
      (λ long. ⊎_elim (λ more. absurd (not_true due (is.1 (long, more)) none)) (λ few. inr few) (cases_lt (2 * checkpoint_size p) (live_size p)))
      (λ short. inl short)
      (cases_lt FLOOR (live_size p))
    where
      not_true : (due : Bool) → IsTrue due → due ≡ false → ⊥
      not_true due is none = cc

  -- so it is with a new checkpoint, unless that was refused
  pub small_by : (old new : PairCentre D disk) (front : List Entry) (made : Compacted)
      → (made ≡ Done → (h k : List Moment) (trail : List Entry) → stands (live_disk old) h → stands (other_disk old) k → IsPairOf old h k trail → live_size new ≡ checkpoint_size new)
      → (made ≡ Unfit → (h k : List Moment) (trail : List Entry) → stands (live_disk old) h → stands (other_disk old) k → IsPairOf old h k trail → HasFarRecord (settings_of old) trail)
      → (made ≡ Unfit → IsSame old new) → HasTrail stands old front → IsSmall new ⊎ HasFarRecord (settings_of new) front
  small_by old new front Done done unfit same has =
      let alone : live_size new ≡ checkpoint_size new = done refl has.live has.other front has.live_stands has.other_stands has.is in
      inl (inr (omega (arith, alone)))
  small_by old new front Unfit done unfit same has = inr (subst (λ (c : CentreView). HasFarRecord c.settings front) (sym (same refl).0) (unfit refl has.live has.other front has.live_stands has.other_stands has.is))

  -- a centre was asked all of a trail but the rest
  pub record HasAsked (old new : PairCentre D disk) (trail rest : List Entry) : Type 0 where
    pub front : List Entry
    pub is : trail ≡ front ++ rest
    pub numbers : settings_of new ≡ settings_of old
    pub unshut : is_shut new ≡ false
    pub stood : (before : List Entry) → HasTrail stands old before → History (settings_of old) (before ++ trail) → HasTrail stands new (before ++ front)
    pub small : (before : List Entry) → HasTrail stands old before → History (settings_of old) (before ++ trail) → IsSmall new ⊎ HasFarRecord (settings_of new) (before ++ front)

  -- nothing was asked so far
  pub asked_none : (old new : PairCentre D disk) (trail : List Entry) → settings_of new ≡ settings_of old → is_shut new ≡ false
      → ((before : List Entry) → HasTrail stands old before → HasTrail stands new before) → ((before : List Entry) → HasTrail stands old before → IsSmall new ⊎ HasFarRecord (settings_of new) before) → HasAsked old new trail trail
  asked_none old new trail numbers unshut stood small = record {
    front = [];
    is = refl;
    numbers = numbers;
    unshut = unshut;
    stood = λ before has history. subst (λ (l : List Entry). HasTrail stands new l) (sym (append-nil before)) (stood before has);
    small = λ before has history. subst (λ (l : List Entry). IsSmall new ⊎ HasFarRecord (settings_of new) l) (sym (append-nil before)) (small before has);
  }

  -- the next group was asked
  pub asked_more : (old mid new : PairCentre D disk) (trail rest group behind : List Entry) → (asked : HasAsked old mid trail rest) → rest ≡ group ++ behind → settings_of new ≡ settings_of mid → is_shut new ≡ false
      → ((front : List Entry) → HasTrail stands mid front → History (settings_of mid) (front ++ group) → HasTrail stands new (front ++ group))
      → ((front : List Entry) → HasTrail stands mid front → History (settings_of mid) (front ++ group) → IsSmall new ⊎ HasFarRecord (settings_of new) (front ++ group))
      → HasAsked old new trail behind
  asked_more old mid new trail rest group behind asked split numbers unshut next small = record {
    front = asked.front ++ group;
    is = is;
    numbers = numbers ∙ asked.numbers;
    unshut = unshut;
    stood = λ before has history. subst (λ (l : List Entry). HasTrail stands new l) (append_assoc before asked.front group) (next (before ++ asked.front) (asked.stood before has history) (part before history));
    small = λ before has history. subst (λ (l : List Entry). IsSmall new ⊎ HasFarRecord (settings_of new) l) (append_assoc before asked.front group) (small (before ++ asked.front) (asked.stood before has history) (part before history));
  }
    where
      is : trail ≡ (asked.front ++ group) ++ behind
      is = asked.is ∙ ap (λ (l : List Entry). asked.front ++ l) split ∙ sym (append_assoc asked.front group behind)

      part : (before : List Entry) → History (settings_of old) (before ++ trail) → History (settings_of mid) ((before ++ asked.front) ++ group)
      part before history =
          let whole : before ++ trail ≡ ((before ++ asked.front) ++ group) ++ behind = ap (λ (l : List Entry). before ++ l) is ∙ sym (append_assoc before (asked.front ++ group) behind) ∙ ap (λ (l : List Entry). l ++ behind) (sym (append_assoc before asked.front group)) in
          subst (λ (s : Settings). History s ((before ++ asked.front) ++ group)) (sym asked.numbers) (history_take (settings_of old) ((before ++ asked.front) ++ group) behind (subst (λ l. History (settings_of old) l) whole history))

  -- where no rest is left all was asked
  whole_asked : (old new : PairCentre D disk) (trail rest : List Entry) → (asked : HasAsked old new trail rest) → rest ≡ [] → asked.front ≡ trail
  whole_asked old new trail rest asked none = sym (append-nil asked.front) ∙ ap (λ (l : List Entry). asked.front ++ l) (sym none) ∙ sym asked.is

  -- then it stands for it
  pub asked_all : (old new : PairCentre D disk) (trail rest : List Entry) → HasAsked old new trail rest → rest ≡ []
      → (front : List Entry) → HasTrail stands old front → History (settings_of old) (front ++ trail) → HasTrail stands new (front ++ trail)
  asked_all old new trail rest asked none front has history =
      subst (λ (l : List Entry). HasTrail stands new (front ++ l)) (whole_asked old new trail rest asked none) (asked.stood front has history)

  -- so the live file is small
  pub small_all : (old new : PairCentre D disk) (trail rest : List Entry) → HasAsked old new trail rest → rest ≡ []
      → (front : List Entry) → HasTrail stands old front → History (settings_of old) (front ++ trail) → IsSmall new ⊎ HasFarRecord (settings_of new) (front ++ trail)
  small_all old new trail rest asked none front has history = subst (λ (l : List Entry). IsSmall new ⊎ HasFarRecord (settings_of new) (front ++ l)) (whole_asked old new trail rest asked none) (asked.small front has history)
