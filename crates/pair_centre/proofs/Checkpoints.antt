-- A checkpoint takes the place of a centre's asks.
use Rattle.std.proofs.Common.{◌≡◌, ◌+◌, inl, inr, ℕ, List, [], ◌∷◌, ◌++◌, map, refl, sym, ◌∙◌, ap, subst, arith}
use Rattle.std.proofs.lemmas.List.{append-nil}
use Rattle.journal_disk.specs.declared.disk.Disk.{Ghosts}
use Rattle.journal_disk.specs.declared.disk.Moment.{Moment}
use Rattle.journal_disk.specs.Disk.{MayLeave, Ran}
use Rattle.journal_disk.proofs.Histories.{ran_none, ran_weaker}
use Rattle.journal_file.specs.Open.{end_of}
use Rattle.journal_pair.specs.Entries.{ArePair}
use Rattle.journal_pair.specs.declared.entry.Entry as pair
use Rattle.journal_pair.specs.Files.{PairOf, IsEitherPair, RanBeside, AreAt}
use Rattle.journal_pair.specs.declared.pair.Pair.{Pair}
use Rattle.journal_pair.specs.Pairs as pairs
use Rattle.journal_pair.proofs.States.{pair_left, live_long}
use Rattle.dc_talk.specs.declared.settings.Settings.{Settings}
use Rattle.dc_talk.specs.Answers.{History}
use Rattle.dc_talk.specs.Entries.{Entry}
use Rattle.dc_centre.specs.Centre.{CentreView, StandsFor}
use Rattle.pair_centre.specs.declared.item.PairItem.{PairItem}
use Rattle.pair_centre.specs.declared.pair_centre.PairCentre.{PairCentre}
use Rattle.pair_centre.specs.Items.{item_bytes}
use Rattle.pair_centre.specs.States.{IsCheckpointOf, IsStateOf, IsPairFileOf}
use Rattle.pair_centre.specs.Open.{centre_of, settings_of, IsPairOf}

-- a checkpoint alone
pub state_alone : (s : Settings) (trail : List Entry) (checkpoint : List PairItem) → IsCheckpointOf s trail checkpoint → IsStateOf s trail checkpoint []
state_alone s trail checkpoint starts = record {
  front = trail;
  rest = [];
  trail_is = sym (append-nil trail);
  starts = starts;
  items = [];
  goes_on = refl;
  asks = refl;
}

-- the two files in the other order
swapped : {T : Type 0} (checkpoint behind : List T) (xs ys : List (pair.Entry T)) → ArePair checkpoint behind xs ys → ArePair checkpoint behind ys xs
swapped checkpoint behind xs ys (mark, inl one) = (mark, inr one)
swapped checkpoint behind xs ys (mark, inr one) = (mark, inl one)

pub file_swapped : (s : Settings) (trail : List Entry) (x y : List ℕ) → IsPairFileOf s trail x y → IsPairFileOf s trail y x
file_swapped s trail x y (checkpoint, (behind, (state, (xs, (ys, (are, (one, two))))))) = (checkpoint, (behind, (state, (ys, (xs, (swapped checkpoint behind xs ys are, (two, one)))))))

-- with its checkpoint alone the live file is as long as that
pub small_alone : {D : Type 0} {disk : Ghosts D} (q : Pair D disk) (l h : List Moment) (checkpoint : List PairItem) → pairs.Has item_bytes q l h checkpoint [] → pairs.live_size q ≡ pairs.checkpoint_size q
small_alone q l h checkpoint files =
    let long : end_of q.live + 1 ≡ q.size + 0 = live_long item_bytes q.mark (end_of q.live) (end_of q.other) q.size l h checkpoint [] files in
    omega (arith, long)

module _ {D : Type 0} {disk : Ghosts D} (old new : PairCentre D disk) (h k : List Moment) (trail : List Entry) (is : IsPairOf old h k trail) where
  -- either checkpoint stands for the trail
  pub either_file : (checkpoint : List PairItem) → IsCheckpointOf (settings_of old) trail checkpoint → (y : List ℕ) → ((x : List ℕ) → MayLeave h x → IsEitherPair item_bytes is.checkpoint is.behind checkpoint [] x y) → (x : List ℕ) → MayLeave h x → IsPairFileOf (settings_of old) trail y x
  either_file checkpoint starts y either x left = file_swapped (settings_of old) trail x y (go (either x left))
    where
      go : IsEitherPair item_bytes is.checkpoint is.behind checkpoint [] x y → IsPairFileOf (settings_of old) trail x y
      go (inl files) = (is.checkpoint, (is.behind, (is.state, files)))
      go (inr files) = (checkpoint, ([], (state_alone (settings_of old) trail checkpoint starts, files)))

  -- the centre goes on with the new one
  pub compacted : (checkpoint : List PairItem) (l : List Moment) → new.centre ≡ old.centre → IsCheckpointOf (settings_of old) trail checkpoint → pairs.Has item_bytes new.pair l h checkpoint [] → IsPairOf new l h trail
  compacted checkpoint l same starts files = record {
    history = subst (λ (c : CentreView). History c.settings trail) (sym same) is.history;
    centre = subst (λ (c : CentreView). StandsFor c trail) (sym same) is.centre;
    checkpoint = checkpoint;
    behind = [];
    state = subst (λ (c : CentreView). IsStateOf c.settings trail checkpoint []) (sym same) (state_alone (settings_of old) trail checkpoint starts);
    files = files;
  }

  -- or with the old one
  pub uncompacted : (l : List Moment) → new.centre ≡ old.centre → pairs.Has item_bytes new.pair h l is.checkpoint is.behind → IsPairOf new h l trail
  uncompacted l same files = record {
    history = subst (λ (c : CentreView). History c.settings trail) (sym same) is.history;
    centre = subst (λ (c : CentreView). StandsFor c trail) (sym same) is.centre;
    checkpoint = is.checkpoint;
    behind = is.behind;
    state = subst (λ (c : CentreView). IsStateOf c.settings trail is.checkpoint is.behind) (sym same) is.state;
    files = files;
  }

  -- no call of a disk was made
  pub other_untouched : (stands : List Moment → Type 0) (Q : List Moment → Type 0) → stands k → Q k → RanBeside stands k h (IsPairFileOf (settings_of old) trail) Q
  other_untouched stands Q stood q = ran_none stands k (λ y. (x : List ℕ) → MayLeave h x → IsPairFileOf (settings_of old) trail y x) left Q stood q
    where
      left : (y : List ℕ) → MayLeave k y → (x : List ℕ) → MayLeave h x → IsPairFileOf (settings_of old) trail y x
      left y other x live =
          let p = old.pair in
          file_swapped (settings_of old) trail x y (is.checkpoint, (is.behind, (is.state, pair_left item_bytes p.mark p.live.end p.other.end p.size h k is.checkpoint is.behind is.files x y live other)))
