-- One ask is a list of one.
use Rattle.std.proofs.Common.{◌≡◌, ◌<◌, ◌⊎◌, inl, inr, ℕ, zero, suc, List, [], ◌∷◌, ◌++◌, map, take, length, refl, sym, ◌∙◌, ap, subst, arith}
use Rattle.std.proofs.lemmas.List.{append-nil}
use Rattle.journal_disk.specs.declared.disk.Disk.{Ghosts}
use Rattle.journal_disk.specs.declared.disk.Moment.{Moment}
use Rattle.journal_disk.specs.Disk.{MayLeave}
use Rattle.journal_disk.proofs.Histories.{ran_weaker}
use Rattle.journal_pair.specs.Files.{RanBeside}
use Rattle.machine_trail.specs.History.{entry}
use Rattle.dc_talk.specs.declared.ask.Ask.{Ask}
use Rattle.dc_talk.specs.declared.say.Say.{Say}
use Rattle.dc_talk.specs.declared.settings.Settings.{Settings}
use Rattle.dc_talk.specs.Answers.{answer}
use Rattle.dc_talk.specs.Entries.{Entry}
use Rattle.dc_journal.specs.Answered.{said_in, answered, of_any, AreSame}
use Rattle.pair_centre.specs.declared.pair_centre.PairCentre.{PairCentre}
use Rattle.pair_centre.specs.States.{IsPairFileOf, IsPairFileAround}
use Rattle.pair_centre.specs.Open.{IsPairOf}

abbrev none_asked : List Ask
none_asked = []

-- the first so many of none are none
none_taken : (count : ℕ) → take count none_asked ≡ none_asked
none_taken zero = refl
none_taken (suc n) = refl

-- of one they are none or this one
one_taken : (asks : List Ask) (ask : Ask) (count : ℕ) → asks ≡ ask ∷ [] → (take count asks ≡ []) ⊎ (take count asks ≡ ask ∷ [])
one_taken asks ask zero is = inl refl
one_taken asks ask (suc n) is = inr (ap (take (suc n)) is ∙ ap (λ (l : List Ask). ask ∷ l) (none_taken n))

module _ (s : Settings) (trail : List Entry) (ask : Ask) where
  -- files around those that were answered are around the ask
  around_one : (some : List Ask) → (some ≡ []) ⊎ (some ≡ ask ∷ []) → (x y : List ℕ) → IsPairFileAround s trail some x y → IsPairFileAround s trail (ask ∷ []) x y
  around_one some (inl none) x y (inl file) = inl file
  around_one some (inl none) x y (inr file) = inl (subst (λ l. IsPairFileOf s l x y) (ap (λ (l : List Ask). trail ++ answered s trail l) none ∙ append-nil trail) file)
  around_one some (inr one) x y around = subst (λ (l : List Ask). IsPairFileAround s trail l x y) one around

  pub ran_one : (stands : List Moment → Type 0) (h k : List Moment) (asks : List Ask) (count : ℕ) (Q S : List Moment → Type 0) → asks ≡ ask ∷ [] → ((l : List Moment) → Q l → S l)
      → RanBeside stands h k (IsPairFileAround s trail (take count asks)) Q → RanBeside stands h k (IsPairFileAround s trail (ask ∷ [])) S
  ran_one stands h k asks count Q S is ends ran =
      ran_weaker stands h (λ x. (y : List ℕ) → MayLeave k y → IsPairFileAround s trail (take count asks) x y) (λ x. (y : List ℕ) → MayLeave k y → IsPairFileAround s trail (ask ∷ []) x y) Q S
      (λ x around y left. around_one (take count asks) (one_taken asks ask count is) x y (around y left)) ends ran

  -- where there is a reply, it was answered
  all_taken : (some : List Ask) (says : List Say) → (some ≡ []) ⊎ (some ≡ ask ∷ []) → 0 < length says → says ≡ map said_in (answered s trail some) → some ≡ ask ∷ []
  all_taken some says (inl none) there is =
      let no : length says ≡ 0 = ap length (is ∙ ap (λ (l : List Ask). map said_in (answered s trail l)) none) in
      absurd (omega (arith, there, no))
  all_taken some says (inr one) there is = one

  -- and the centre stands for the trail with it
  pub answered_one : {D : Type 0} {disk : Ghosts D} (new : PairCentre D disk) (l k : List Moment) (asks : List Ask) (count : ℕ) (says : List Say) (say : Say) → asks ≡ ask ∷ [] → 0 < length says → ((y : Say) → says ≡ y ∷ [] → say ≡ y)
      → (says ≡ map said_in (answered s trail (take count asks))) × ((more : List Entry) → AreSame more (answered s trail (take count asks)) → IsPairOf new l k (trail ++ more))
      → (say ≡ answer s trail ask) × ((caller : ℕ) → IsPairOf new l k (trail ++ entry caller ask say ∷ []))
  answered_one new l k asks count says say is there only q =
      let all : take count asks ≡ ask ∷ [] = all_taken (take count asks) says (one_taken asks ask count is) there q.0 in
      let say_is : say ≡ answer s trail ask = only (answer s trail ask) (q.0 ∙ ap (λ (m : List Ask). map said_in (answered s trail m)) all) in
      (say_is, λ caller. q.1 (entry caller ask say ∷ []) (ap (λ (y : Say). (ask, y) ∷ []) say_is ∙ ap (λ (m : List Ask). map of_any (answered s trail m)) (sym all)))
