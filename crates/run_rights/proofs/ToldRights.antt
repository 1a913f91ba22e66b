-- The rights that a line tells are those over the basis and the open updates, at the line.
use Rattle.std.proofs.Common.{◌≡◌, ℕ, zero, suc, ◌+◌, ◌-◌, ◌≤◌, ◌<◌, ⊎_elim, ℤ, List, [], ◌∷◌, ◌++◌, length, Some, sym, ap, ◌∙◌, subst, arith}
use Rattle.std.specs.Prelude.{slice_get, ◌+ℤ◌}
use Rattle.std.proofs.lemmas.Bool.{cases_lt}
use Rattle.std.proofs.lemmas.Option.{none-some, same_Some, slice_get_within}
use Rattle.ids_core.specs.declared.object.ObjectId.{ObjectId}
use Rattle.obj_bounded.specs.CellNames.{gain_cells, loss_cells}
use Rattle.dc_talk.specs.declared.line.Line.{Line}
use Rattle.dc_talk.specs.declared.log.Deed.{Deed}
use Rattle.dc_talk.specs.declared.log.Deed.TheVariants.{Told}
use Rattle.dc_talk.specs.declared.log.Note.{Note}
use Rattle.dc_talk.specs.Clients.{draft_updates}
use Rattle.script_core.specs.declared.script.Script.{Script}
use Rattle.script_core.specs.declared.steps.Share.{Share}
use Rattle.script_core.specs.declared.steps.Step.TheVariants.{Client}
use Rattle.script_core.specs.Deeds.{counter_of_share}
use Rattle.script_core.specs.Steps.{holders_of}
use Rattle.run_book.specs.declared.book.Book.{Book}
use Rattle.run_book.specs.Setups.{setup_of}
use Rattle.run_book.specs.Parts.{notes_of, IsClient}
use Rattle.run_book.specs.Graphs.{basis_at, client_at, graph}
use Rattle.run_sections.specs.Orders.{deeds_of}
use Rattle.run_steps.specs.Logs.{AreStepDeeds}
use Rattle.run_steps.proofs.Places.{get_behind, get_front_of, get_deed, InStep, in_step}
use Rattle.graph_rights.specs.Rights.{rights_by, rights_in, rights_over}
use Rattle.run_rights.specs.Holders.{IsPlayOf, rights_seen, Tells}
use Rattle.run_rights.specs.Takings.{HasReadCells}
use Rattle.run_rights.proofs.FrontReads.{has_read}
use Rattle.run_rights.proofs.HolderCells.{cells_count, few_cells}
use Rattle.run_rights.proofs.PlainSteps.{TellsOwn, step_tells}
use Rattle.run_rights.proofs.RightsLines.{RightsTold, rights_told, told_by_none}
use Rattle.run_rights.proofs.RightsRead.{rights_read as rights_over_basis, rights_fit}
use Rattle.run_rights.proofs.ScriptSteps.{in_script, play_chain}
use Rattle.run_rights.proofs.ShareReads.{TellsRead, idle_none, idle_quiet, rights_read}

-- ---- in a step

-- where a line among the deeds tells rights, it is the one that tells them, behind all reads
record IsTheLine (share : Share) (client : ℕ) (deeds : List Deed) (t : TellsRead share client deeds) (k : ℕ) (told : RightsTold) : Type 0 where
  place : k ≡ length t.reads.front
  is : told ≡ record { client = client; counter = counter_of_share share; rights = rights_read share t.reads.value }

the_line : (share : Share) (client : ℕ) (deeds : List Deed) (t : TellsRead share client deeds) (k : ℕ) (line : Line) (told : RightsTold) → slice_get deeds k ≡ Some (Told line) → rights_told line ≡ Some told → IsTheLine share client deeds t k told
the_line share client deeds t k line told at is = ⊎_elim early (λ ge. late (k - length t.reads.front) (omega (arith, ge))) (cases_lt k (length t.reads.front))
  where
    all : slice_get (t.reads.front ++ Told t.said ∷ []) k ≡ Some (Told line)
    all = subst (λ l. slice_get l k ≡ Some (Told line)) (t.reads.whole ∙ ap (λ l. t.reads.front ++ l) t.last) at

    early : k < length t.reads.front → IsTheLine share client deeds t k told
    early lt = absurd (told_by_none t.reads.front k line told (idle_none t.reads.front t.reads.idle) (get_front_of t.reads.front (Told t.said ∷ []) k (Told line) lt all) is)

    late : (j : ℕ) → length t.reads.front + j ≡ k → IsTheLine share client deeds t k told
    late zero e =
        let here : slice_get (Told t.said ∷ []) zero ≡ Some (Told line) = sym (get_behind t.reads.front (Told t.said ∷ []) zero) ∙ (ap (slice_get (t.reads.front ++ Told t.said ∷ [])) e ∙ all) in
        let same : t.said ≡ line = let deed : Told t.said ≡ Told line = same_Some (Told t.said) (Told line) here in cc in
        record { place = omega (arith, e); is = same_Some told _ (sym is ∙ (ap rights_told (sym same) ∙ t.tells)) }
    late (suc j) e = absurd (none-some (Told line) (sym (get_behind t.reads.front (Told t.said ∷ []) (suc j)) ∙ (ap (slice_get (t.reads.front ++ Told t.said ∷ [])) e ∙ all)))

-- ---- in a book

module _ (script : Script) (b : Book) (plays : IsPlayOf script b) (a place : ℕ) (is_client : IsClient (setup_of script) a) where
  abbrev holders : ℕ
  holders = holders_of script.clients

  -- it tells the client's own rights, as it sees them there
  abbrev Here : RightsTold → Type 0
  Here told = (told.client + 1 ≡ a) × (told.rights ≡ rights_seen script b told.counter.name told.client a place)

  abbrev Mine : List Deed → Type 0
  Mine deeds = AreStepDeeds script (a - 1) deeds

  -- at a line of the client's own share
  own_line : (note : Note) (line : Line) (told : RightsTold) → slice_get (notes_of b a) place ≡ Some note → (s : InStep Mine (notes_of b a) place note) → slice_get (deeds_of s.mine) s.place ≡ Some (Told line) → rights_told line ≡ Some told → TellsOwn script.clients (a - 1) s.such.come (deeds_of s.mine) → Here told
  own_line note line told there s at is own = subst Here (sym the.is) (omega (arith, s.such.who, is_client.low), wrapped ∙ (over ∙ (λ i. seen (gain_cells share.name (mine i) (many i)) (loss_cells share.name (mine i) (many i)))))
    where
      share : Share
      share = own.share

      client : ℕ
      client = s.such.come.client.client

      t : TellsRead share client (deeds_of s.mine)
      t = own.tells

      value : ObjectId → ℤ
      value = t.reads.value

      gains : List ObjectId
      gains = gain_cells share.name share.holder share.holders

      losses : List ObjectId
      losses = loss_cells share.name share.holder share.holders

      the : IsTheLine share client (deeds_of s.mine) t s.place told
      the = the_line share client (deeds_of s.mine) t s.place line told at is

      read : HasReadCells b a place gains losses value
      read = has_read b a place note Mine s t.reads.front t.reads.later t.reads.whole the.place gains losses value (idle_quiet t.reads.front t.reads.idle) t.reads.reads

      within : place ≤ length (notes_of b a)
      within = let less = slice_get_within (notes_of b a) place note there in omega (arith, less)

      wrapped : rights_read share value ≡ rights_by gains losses value
      wrapped = rights_fit b (setup_of script) plays.fits gains losses (cells_count share.name share.holder share.holders) a place value is_client read (few_cells share.name share.holder share.holders own.is.holder)

      -- the rights there by cells
      seen : List ObjectId → List ObjectId → ℤ
      seen gains losses = rights_over gains losses (graph b (setup_of script)) (basis_at b (setup_of script) a place) +ℤ rights_in gains losses (draft_updates (client_at b (setup_of script) a place))

      over : rights_by gains losses value ≡ seen gains losses
      over = rights_over_basis b (setup_of script) plays.fits gains losses (cells_count share.name share.holder share.holders) a place value is_client within read

      mine : share.holder ≡ client
      mine = own.own.0 ∙ sym s.such.who

      many : share.holders ≡ holders
      many = own.own.1

  -- at each line that tells rights
  pub line_rights : (line : Line) (told : RightsTold) → Tells b a place line → rights_told line ≡ Some told → Here told
  line_rights line told tells is = go (in_step Mine (notes_of b a) place tells.note (play_chain script b a plays is_client) tells.there)
    where
      go : InStep Mine (notes_of b a) place tells.note → Here told
      go s =
          let sound = in_script script (Client (a - 1) s.such.does) plays.ranged s.such.theirs in
          let at : slice_get (deeds_of s.mine) s.place ≡ Some (Told line) = get_deed s.mine s.place tells.note s.there ∙ ap Some tells.deed_is in
          ⊎_elim
          (λ none. absurd (told_by_none (deeds_of s.mine) s.place line told none at is))
          (λ own. own_line tells.note line told tells.there s at is own)
          (step_tells script.n script.clients (a - 1) s.such.come (deeds_of s.mine) s.such.does sound.1 sound.2 s.such.such)
