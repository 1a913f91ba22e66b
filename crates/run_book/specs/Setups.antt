-- How a run is set up, and how each of its centres is.
use Rattle.std.specs.Prelude.{ℕ}
use Rattle.dc_talk.specs.declared.settings.Settings.{Settings}
use Rattle.script_core.specs.declared.script.Script.{Script}
use Rattle.run_book.specs.declared.book.Book.{Book}

-- how many clients there are, how many transactions a centre stamps, and how many entries a client's
-- cache has
pub record Setup : Type 0 where
  pub clients : ℕ
  pub limit : ℕ
  pub capacity : ℕ

-- the setup that a script asks for
abbrev pub setup_of : Script → Setup
setup_of script = record { clients = script.clients; limit = script.limit; capacity = script.cache }

-- the settings of centre i among n, of which k have to know an update before it is stable
abbrev pub settings_among : ℕ → ℕ → Setup → ℕ → Settings
settings_among n k setup i = record { me = i; n = n; k = k; limit = setup.limit }

-- the settings of centre i of a book
abbrev pub centre_settings : Book → Setup → ℕ → Settings
centre_settings b setup i = settings_among b.n b.k setup i
