-- Centres with their trails, and passes that an actor makes alone among them.
use Rattle.std.specs.Prelude.{◌≡◌, ◌≢◌, ◌≤◌, ℕ, List, ◌++◌}
use Rattle.dc_talk.specs.declared.settings.Settings.{Settings}
use Rattle.dc_talk.specs.declared.log.Deed.{Deed}
use Rattle.dc_talk.specs.Entries.{Entry}
use Rattle.dc_talk.specs.Logs.{entries_made}
use Rattle.dc_talk.specs.Trails.{carried, told, horizon, stopped}
use Rattle.dc_talk.specs.Answers.{History}
use Rattle.script_core.specs.Carrying.{Passes}

-- so many centres, with the settings and the trail of each
pub record Centres : Type 0 where
  pub n : ℕ
  pub settings : ℕ → Settings
  pub trails : ℕ → List Entry

-- the settings of each are of its number among these centres
pub record AreNumbered (c : Centres) : Type 0 where
  pub n : (i : ℕ) → (c.settings i).n ≡ c.n
  pub me : (i : ℕ) → (c.settings i).me ≡ i

-- the trail of each is a history
abbrev pub AreHistories : Centres → Type 0
AreHistories c = (i : ℕ) → 1 ≤ i → i ≤ c.n → History (c.settings i) (c.trails i)

-- the centres behind deeds of an actor, while nobody else asks them
abbrev pub behind_deeds : Centres → ℕ → List Deed → Centres
behind_deeds c actor deeds = record c { trails = λ i. c.trails i ++ entries_made actor i deeds }

-- deeds that are a pass of an actor among the centres, while nobody else asks them
pub record PassesAmong (c : Centres) (actor : ℕ) (deeds : List Deed) : Type 0 where
  pub passes : Passes c.n deeds
  pub histories : AreHistories (behind_deeds c actor deeds)

-- after both trails a centre has applied the same records with the same hops, was told the same of the others, has pruned
-- as far, and is stopped or is not
pub record IsAlike (s : Settings) (x y : List Entry) : Type 0 where
  pub lists : carried s.n x ≡ carried s.n y
  pub rows : (j : ℕ) → j ≢ s.me → told s.n j x ≡ told s.n j y
  pub horizons : horizon s x ≡ horizon s y
  pub switch : stopped x ≡ stopped y
