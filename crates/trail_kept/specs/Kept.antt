-- The entries of a trail that may change a centre, and trails that leave a centre in one state.
use Rattle.std.specs.Prelude.{◌≡◌, ℕ, Bool, true, false, List, filter}
use Rattle.dc_talk.specs.declared.say.Say.{Say}
use Rattle.dc_talk.specs.declared.say.Say.TheVariants.{Stamped, Applied, Learned, Base, Stopped, Started}
use Rattle.dc_talk.specs.declared.settings.Settings.{Settings}
use Rattle.dc_talk.specs.Entries.{Entry}
use Rattle.dc_talk.specs.Trails.{carried, told, stopped, horizon}

-- the reply is one of the six that come with a change of a centre
abbrev pub is_kept : Say → Bool
is_kept (Stamped stamp) = true
is_kept (Applied fresh) = true
is_kept (Learned fresh) = true
is_kept (Base vector folded trimmed) = true
is_kept Stopped = true
is_kept Started = true
is_kept _ = false

-- the entries with such a reply
abbrev pub kept : List Entry → List Entry
kept trail = filter (λ entry. is_kept entry.say) trail

-- all that a centre holds is the same after either trail
pub record IsSameState (s : Settings) (a b : List Entry) : Type 0 where
  pub same_carried : carried s.n a ≡ carried s.n b
  pub same_told : (j : ℕ) → told s.n j a ≡ told s.n j b
  pub same_stopped : stopped a ≡ stopped b
  pub same_horizon : horizon s a ≡ horizon s b
