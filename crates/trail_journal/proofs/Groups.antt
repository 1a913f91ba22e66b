-- A centre with a journal is asked what a trail has, group by group.
use Rattle.std.proofs.Common.{◌≡◌, ◌<◌, ◌≤◌, inl, inr, ℕ, suc, true, false, List, [], ◌∷◌, ◌++◌, map, length, take, Result, Ok, Err, IfOk, refl, sym, ◌∙◌, ap, subst, append_assoc, arith}
use Rattle.std.proofs.lemmas.List.{append-nil, take_at, take_all, length-map, length-take}
use Rattle.list_core.proofs.Moments.{each_take}
use Rattle.machine_trail.specs.History.{entry}
use Rattle.journal_disk.specs.declared.disk.Disk.{Ghosts}
use Rattle.journal_disk.specs.declared.disk.Moment.{Moment}
use Rattle.journal_disk.specs.Disk.{is_sound, Ran, HasRisen}
use Rattle.journal_disk.proofs.Histories.{ran_none, ran_more, ran_weaker}
use Rattle.dc_talk.specs.declared.ask.Ask.{Ask}
use Rattle.dc_talk.specs.declared.say.Say.{Say}
use Rattle.dc_talk.specs.declared.settings.Settings.{Settings}
use Rattle.dc_talk.specs.Entries.{Entry}
use Rattle.dc_talk.specs.Answers.{History, IsAnswer, answer}
use Rattle.dc_journal.specs.declared.journal_centre.JournalCentre.{JournalCentre}
use Rattle.dc_journal.specs.Answered.{said_in, answered, AreSame}
use Rattle.dc_journal.specs.Open.{settings_of, disk_of, is_shut, IsJournalOf}
use Rattle.trail_journal.specs.Files.{ask_in}
use Rattle.trail_journal.proofs.Callers.{asked_same}

-- a count that rose is not 0
pub risen_some : (before now : ℕ) → HasRisen before now → 0 < now
risen_some before now (inl more) = omega (arith, more)
risen_some before now (inr most) = omega (arith, most)

-- the front of a history is one
pub history_take : (s : Settings) (front later : List Entry) → History s (front ++ later) → History s front
history_take s front later history = subst (λ l. History s l) (take_at front later (length front) refl) (each_take (λ before e. IsAnswer s before e.ask e.say) (front ++ later) (length front) history)

-- there is an entry for each ask
length-answered : (s : Settings) (trail : List Entry) (asks : List Ask) → length (answered s trail asks) ≡ length asks
length-answered s trail [] = refl
length-answered s trail (ask ∷ asks) = ap (λ (n : ℕ). suc n) (length-answered s (trail ++ entry 0 ask (answer s trail ask) ∷ []) asks)

-- where there are as many replies as asks, all were answered
all_answered : (s : Settings) (trail : List Entry) (asks : List Ask) (count : ℕ) (says : List Say) → says ≡ map said_in (answered s trail (take count asks)) → length asks ≤ length says → take count asks ≡ asks
all_answered s trail asks count says are enough =
    let many : length says ≡ length (take count asks) = ap length are ∙ length-map (answered s trail (take count asks)) said_in ∙ length-answered s trail (take count asks) in
    take_all count asks (omega (arith, many, enough, length-take count asks))

-- and the entries of a history are those of its asks
pub group_same : (s : Settings) (front group : List Entry) (asks : List Ask) (count : ℕ) (says : List Say) → asks ≡ map ask_in group → says ≡ map said_in (answered s front (take count asks)) → length group ≤ length says → History s (front ++ group) → AreSame group (answered s front (take count asks))
group_same s front group asks count says asks_are says_are enough history =
    let many : length asks ≡ length group = ap length asks_are ∙ length-map group ask_in in
    let all : take count asks ≡ map ask_in group = all_answered s front asks count says says_are (omega (arith, many, enough)) ∙ asks_are in
    subst (λ (l : List Ask). AreSame group (answered s front l)) (sym all) (asked_same s front group history)

module _ {D : Type 0} {disk : Ghosts D} (stands : D → List Moment → Type 0) where
  -- all of a group was asked where each of its asks has a reply
  pub group_asked : (old new : JournalCentre D disk) (h : List Moment) (P : List ℕ → Type 0) (front group : List Entry) (asks : List Ask) (count : ℕ) (says : List Say) → asks ≡ map ask_in group → length group ≤ length says → History (settings_of old) (front ++ group)
      → Ran (stands (disk_of new)) h P (λ later. (says ≡ map said_in (answered (settings_of old) front (take count asks))) × ((more : List Entry) → AreSame more (answered (settings_of old) front (take count asks)) → IsJournalOf new later (front ++ more)))
      → Ran (stands (disk_of new)) h (λ _. Unit {0}) (λ later. IsJournalOf new later (front ++ group))
  group_asked old new h P front group asks count says asks_are enough history ran =
      let s = settings_of old in
      ran_weaker (stands (disk_of new)) h P (λ _. Unit {0}) (λ later. (says ≡ map said_in (answered s front (take count asks))) × ((more : List Entry) → AreSame more (answered s front (take count asks)) → IsJournalOf new later (front ++ more))) (λ later. IsJournalOf new later (front ++ group)) (λ file f. tt)
      (λ l q. q.1 group (group_same s front group asks count says asks_are q.0 enough history)) ran

  -- a centre that was asked nothing was asked all of a trail but the rest
  pub record HasAsked (old new : JournalCentre D disk) (trail rest : List Entry) : Type 0 where
    pub front : List Entry
    pub is : trail ≡ front ++ rest
    pub numbers : settings_of new ≡ settings_of old
    pub unshut : is_shut new ≡ false
    pub stood : (h : List Moment) → stands (disk_of old) h → IsJournalOf old h [] → History (settings_of old) trail → Ran (stands (disk_of new)) h (λ _. Unit {0}) (λ later. IsJournalOf new later front)

  -- nothing was asked so far
  pub asked_none : (old : JournalCentre D disk) (trail : List Entry) → is_shut old ≡ false → HasAsked old old trail trail
  asked_none old trail unshut = record {
    front = [];
    is = refl;
    numbers = refl;
    unshut = unshut;
    stood = λ h stood is history. ran_none (stands (disk_of old)) h (λ _. Unit {0}) (λ c left. tt) (λ later. IsJournalOf old later []) stood is;
  }

  -- one group more
  pub asked_more : (old mid new : JournalCentre D disk) (trail rest group behind : List Entry) → HasAsked old mid trail rest → rest ≡ group ++ behind → settings_of new ≡ settings_of mid → is_shut new ≡ false
      → ((h : List Moment) (front : List Entry) → stands (disk_of mid) h → IsJournalOf mid h front → History (settings_of mid) (front ++ group) → Ran (stands (disk_of new)) h (λ _. Unit {0}) (λ later. IsJournalOf new later (front ++ group)))
      → HasAsked old new trail behind
  asked_more old mid new trail rest group behind asked split numbers unshut next = record {
    front = asked.front ++ group;
    is = is;
    numbers = numbers ∙ asked.numbers;
    unshut = unshut;
    stood = λ h stood of_none history.
        let part : History (settings_of mid) (asked.front ++ group) = subst (λ (s : Settings). History s (asked.front ++ group)) (sym asked.numbers) (history_take (settings_of old) (asked.front ++ group) behind (subst (λ l. History (settings_of old) l) is history)) in
        ran_more (stands (disk_of mid)) (stands (disk_of new)) h (λ _. Unit {0}) (λ later. IsJournalOf mid later asked.front) (λ later. IsJournalOf new later (asked.front ++ group)) (asked.stood h stood of_none history)
        (λ l now of_front. next l asked.front now of_front part);
  }
    where
      is : trail ≡ (asked.front ++ group) ++ behind
      is = asked.is ∙ ap (λ (l : List Entry). asked.front ++ l) split ∙ sym (append_assoc asked.front group behind)

  -- no rest is left
  pub asked_all : (old new : JournalCentre D disk) (trail rest : List Entry) → HasAsked old new trail rest → rest ≡ []
      → (h : List Moment) → stands (disk_of old) h → IsJournalOf old h [] → History (settings_of old) trail → Ran (stands (disk_of new)) h (λ _. Unit {0}) (λ later. IsJournalOf new later trail)
  asked_all old new trail rest asked none h stood of_none history =
      let whole : asked.front ≡ trail = sym (append-nil asked.front) ∙ ap (λ (l : List Entry). asked.front ++ l) (sym none) ∙ sym asked.is in
      subst (λ (l : List Entry). Ran (stands (disk_of new)) h (λ _. Unit {0}) (λ later. IsJournalOf new later l)) whole (asked.stood h stood of_none history)

  -- what a new centre stands for once it was asked all of a trail
  pub filled_new : {E : Type 0} (d : D) (s : Settings) (first : JournalCentre D disk) (trail : List Entry) (r : Result (JournalCentre D disk) E) → settings_of first ≡ s
      → ((h : List Moment) → stands d h → is_sound h ≡ true → Ran (stands (disk_of first)) h (λ _. Unit {0}) (λ later. IsJournalOf first later []))
      → IfOk r (λ j. (h : List Moment) → stands (disk_of first) h → IsJournalOf first h [] → History (settings_of first) trail → Ran (stands (disk_of j)) h (λ _. Unit {0}) (λ later. IsJournalOf j later trail))
      → IfOk r (λ j. (h : List Moment) → stands d h → is_sound h ≡ true → History s trail → Ran (stands (disk_of j)) h (λ _. Unit {0}) (λ later. IsJournalOf j later trail))
  filled_new d s first trail (Ok j) same made fills = λ h stood sound history.
      ran_more (stands (disk_of first)) (stands (disk_of j)) h (λ _. Unit {0}) (λ later. IsJournalOf first later []) (λ later. IsJournalOf j later trail) (made h stood sound)
      (λ l now none. fills l now none (subst (λ (g : Settings). History g trail) (sym same) history))
  filled_new d s first trail (Err e) same made fills = tt
