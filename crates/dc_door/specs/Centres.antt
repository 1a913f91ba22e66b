-- Centres that are kept with their trails.
use Rattle.std.specs.Prelude.{ℕ, List, [], map}
use Rattle.machine_trail.specs.declared.machine.Kept.{Kept}
use Rattle.machine_trail.specs.History.{IsKept}
use Rattle.vv_core.specs.Vectors.{centres}
use Rattle.dc_talk.specs.declared.ask.Ask.{Ask}
use Rattle.dc_talk.specs.declared.say.Say.{Say}
use Rattle.dc_talk.specs.declared.settings.Settings.{Settings}
use Rattle.dc_talk.specs.Entries.{Entry}
use Rattle.dc_talk.specs.Answers.{IsAnswer}
use Rattle.dc_centre.specs.Centre.{CentreView, StandsFor}

-- a centre with its trail
abbrev pub KeptCentre : Type 0
KeptCentre = Kept CentreView Ask Say Settings

-- what is seen of it: its settings, and the entries of its trail
pub record CentreTrail : Type 0 where
  pub settings : Settings
  pub entries : List Entry

-- what is seen of a kept centre
abbrev pub seen_of : KeptCentre → CentreTrail
seen_of kept = record { settings = kept.machine.settings; entries = kept.trail.entries }

-- what is seen of several, in order
abbrev pub all_seen : List KeptCentre → List CentreTrail
all_seen kept = map seen_of kept

-- the centre stands for its trail, which is a history of the one-thread centre with its settings
abbrev pub IsKeptCentre : KeptCentre → Type 0
IsKeptCentre kept = IsKept IsAnswer StandsFor (λ (c : CentreView). c.settings) kept.machine kept.trail.entries

-- a new centre of that number, among n
abbrev pub new_centre : ℕ → ℕ → ℕ → ℕ → CentreTrail
new_centre n k limit me = record { settings = record { me = me; n = n; k = k; limit = limit }; entries = [] }

-- the n new centres in order
abbrev pub new_centres : ℕ → ℕ → ℕ → List CentreTrail
new_centres n k limit = map (new_centre n k limit) (centres n)
