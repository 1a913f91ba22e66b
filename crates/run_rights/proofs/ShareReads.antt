-- A step on a share of a bounded counter: it ends early, with reads, fetches and a line that tells no rights; or all cells
-- were read, and a line tells the rights by what was read, or an amount is added that is no more than these.
use Rattle.std.proofs.Common.{◌≡◌, ℕ, ◌⊎◌, inl, inr, ⊎_elim, ℤ, Bool, true, false, cond, List, [], ◌∷◌, ◌++◌, map, Option, Some, None, refl, sym, ap, ◌∙◌, subst, arith}
use Rattle.std.specs.Prelude.{All, pos, int_lt, ◌≤ℤ◌}
use Rattle.std.specs.Int.{w128, int_wrap}
use Rattle.std.proofs.lemmas.Int.{ints}
use Rattle.std.proofs.lemmas.List.Elements.{All-nil, All-cons, All-append, All-weaker}
use Rattle.list_core.specs.Members.{In}
use Rattle.list_core.proofs.Members.{In_left, In_right}
use Rattle.ids_core.specs.declared.object.ObjectId.{ObjectId}
use Rattle.obj_bounded.specs.CellNames.{gain_cells, loss_cells}
use Rattle.obj_bounded.specs.HolderRights.{rights_of}
use Rattle.dc_talk.specs.declared.calls.Change.TheVariants.{Inc}
use Rattle.dc_talk.specs.declared.calls.Call.TheVariants.{Change as ChangeCall}
use Rattle.dc_talk.specs.declared.log.Deed.{Deed}
use Rattle.dc_talk.specs.declared.log.Deed.TheVariants.{Told}
use Rattle.dc_talk.specs.declared.line.Line.{Line}
use Rattle.dc_talk.specs.declared.line.Line.TheVariants as line
use Rattle.dc_talk.specs.declared.line.StepWord.{StepWord}
use Rattle.dc_talk.specs.declared.line.StepWord.TheVariants as step
use Rattle.dc_talk.specs.Clients.{Client}
use Rattle.dc_talk.specs.Calls.{outcome_of}
use Rattle.script_core.specs.declared.steps.Share.{Share}
use Rattle.script_core.specs.Deeds.{AddsOwned, calls_on, cell_inc, cell_to, counter_of_share, line_on, Progress, rights_got, RightsDeeds, share_cells, TakingDeeds, TellsRights, told}
use Rattle.graph_rights.specs.Rights.{rights_by}
use Rattle.graph_rights.proofs.Sums.{rights_of_values}
use Rattle.run_steps.specs.Quiet.{IsQuiet}
use Rattle.run_rights.specs.Takings.{IsCellOf}
use Rattle.run_rights.specs.Steps.{AddsOnce, TakesRights}
use Rattle.run_rights.proofs.CellReads.{got, IsIdle, ReadsAll, cells_go, value_in, values_are}
use Rattle.run_rights.proofs.HolderCells.{apart_cells, gains_long}
use Rattle.run_rights.proofs.ObjectCalls.{on_each}
use Rattle.run_rights.proofs.RightsLines.{rights_told, TellsNone}

-- ---- what is quiet

-- lines are quiet
pub told_quiet : (l : Option Line) → All IsQuiet (told l)
told_quiet None = All-nil IsQuiet
told_quiet (Some l) = All-cons IsQuiet (Told l) [] tt (All-nil IsQuiet)

-- so is what is idle
pub idle_quiet : (deeds : List Deed) → All IsIdle deeds → All IsQuiet deeds
idle_quiet deeds idle = All-weaker IsIdle IsQuiet (λ deed is. is.0) deeds idle

-- and it tells no rights
pub idle_none : (deeds : List Deed) → All IsIdle deeds → All TellsNone deeds
idle_none deeds idle = All-weaker IsIdle TellsNone (λ deed is. is.1) deeds idle

-- behind quiet deeds it is the one change
abbrev pub adds_once : (s : Client) (word : StepWord) (share : Share) (o : ObjectId) (amount : ℕ) (front deeds : List Deed) → All IsQuiet front → deeds ≡ front ++ calls_on s (cell_inc word share o amount) → AddsOnce deeds
adds_once s word share o amount front deeds quiet whole = record {
  first = front;
  o = o;
  delta = pos amount;
  outcome = outcome_of s (ChangeCall o (Inc (pos amount)));
  last = told (line_on s.client (cell_inc word share o amount) (outcome_of s (ChangeCall o (Inc (pos amount)))));
  whole = whole;
  quiet = quiet;
  told = told_quiet (line_on s.client (cell_inc word share o amount) (outcome_of s (ChangeCall o (Inc (pos amount)))));
  paid = omega (arith, ints);
}

-- ---- a share

module _ (share : Share) where
  abbrev gains : List ObjectId
  gains = gain_cells share.name share.holder share.holders

  abbrev losses : List ObjectId
  losses = loss_cells share.name share.holder share.holders

  -- all cells of the share were read, each with its value, and then came other deeds
  pub record ReadsShare (deeds : List Deed) : Type 0 where
    pub front : List Deed
    pub later : List Deed
    pub value : ObjectId → ℤ
    pub whole : deeds ≡ front ++ later
    pub idle : All IsIdle front
    pub reads : (o : ObjectId) → IsCellOf gains losses o → In (got o (value o)) front

  -- the rights by what was read
  abbrev pub rights_read : (ObjectId → ℤ) → ℤ
  rights_read value = int_wrap w128 (rights_by gains losses value)

  -- and then a line tells a client's rights by what was read
  pub record TellsRead (client : ℕ) (deeds : List Deed) : Type 0 where
    pub reads : ReadsShare deeds
    pub said : Line
    pub last : reads.later ≡ Told said ∷ []
    pub tells : rights_told said ≡ Some (record { client = client; counter = counter_of_share share; rights = rights_read reads.value })

  -- or a change adds an amount to a cell, which is no more than the rights
  pub record AddsRead (word : StepWord) (to amount : ℕ) (deeds : List Deed) : Type 0 where
    pub reads : ReadsShare deeds
    pub s : Client
    pub last : reads.later ≡ calls_on s (cell_inc word share (cell_to share to) amount)
    pub enough : pos amount ≤ℤ rights_read reads.value

  module _ (word : StepWord) (Follows : List ℤ → Progress → List Deed → Type 0) (p : Progress) (deeds : List Deed) (all : ReadsAll word share Follows (share_cells share) [] p deeds) where
    abbrev value : ObjectId → ℤ
    value = value_in (share_cells share) all.more

    numbers : map value (share_cells share) ≡ all.more
    numbers = values_are (share_cells share) all.more (apart_cells share.name share.holder share.holders) all.long

    -- the reads of all cells
    abbrev reads_share : ReadsShare deeds
    reads_share = record {
      front = all.front;
      later = all.later;
      value = value;
      whole = all.whole;
      idle = all.idle;
      reads = λ o among. all.reads value numbers o (⊎_elim (In_left gains losses o) (In_right gains losses o) among);
    }

    -- the rights by the numbers are those by the values
    rights_are : rights_got share all.more ≡ rights_read value
    rights_are = ap (int_wrap w128)
        ((λ i. rights_of (sym (gains_long share.name share.holder share.holders) i) (sym numbers i))
        ∙ rights_of_values gains losses value)

  -- ---- a step that tells the rights

  -- its deeds are idle, or all cells are read and a line tells the rights
  pub rights_go : (p : Progress) (deeds : List Deed) → RightsDeeds p share deeds → All IsIdle deeds ⊎ TellsRead p.client.client deeds
  rights_go p deeds are = ⊎_elim (λ idle. inl idle) (λ all. inr (tells all)) (cells_go step.Rights share (TellsRights share) (share_cells share) [] p deeds are)
    where
      tells : ReadsAll step.Rights share (TellsRights share) (share_cells share) [] p deeds → TellsRead p.client.client deeds
      tells all = record {
        reads = reads_share step.Rights (TellsRights share) p deeds all;
        said = line.RightsValue all.last.client.client (counter_of_share share) (rights_got share all.more);
        last = all.follows;
        tells = λ i. Some (record { client = all.who i; counter = counter_of_share share; rights = rights_are step.Rights (TellsRights share) p deeds all i });
      }

  -- ---- a step that takes or gives

  module _ (word : StepWord) (to amount : ℕ) (p : Progress) (deeds : List Deed) where
    -- the holder has less
    shorts : (all : ReadsAll word share (AddsOwned word share to amount) (share_cells share) [] p deeds) → int_lt (rights_got share all.more) (pos amount) ≡ true → TellsRead p.client.client deeds
    shorts all less = record {
      reads = reads_share word (AddsOwned word share to amount) p deeds all;
      said = line.Short all.last.client.client word (counter_of_share share) (rights_got share all.more);
      last = all.follows ∙ ap (λ b. cond b (Told (line.Short all.last.client.client word (counter_of_share share) (rights_got share all.more)) ∷ []) (calls_on all.last.client (cell_inc word share (cell_to share to) amount))) less;
      tells = λ i. Some (record { client = all.who i; counter = counter_of_share share; rights = rights_are word (AddsOwned word share to amount) p deeds all i });
    }

    -- it has as much
    adds : (all : ReadsAll word share (AddsOwned word share to amount) (share_cells share) [] p deeds) → int_lt (rights_got share all.more) (pos amount) ≡ false → AddsRead word to amount deeds
    adds all most =
        let most_of : pos amount ≤ℤ rights_got share all.more = omega (arith, ints, most) in
        record {
          reads = reads_share word (AddsOwned word share to amount) p deeds all;
          s = all.last.client;
          last = all.follows ∙ ap (λ b. cond b (Told (line.Short all.last.client.client word (counter_of_share share) (rights_got share all.more)) ∷ []) (calls_on all.last.client (cell_inc word share (cell_to share to) amount))) most;
          enough = subst (λ z. pos amount ≤ℤ z) (rights_are word (AddsOwned word share to amount) p deeds all) most_of;
        }

    -- its deeds are idle, or all cells are read, and a line says that the rights are short or the amount is added
    pub taking_goes : TakingDeeds p word share to amount deeds → All IsIdle deeds ⊎ (TellsRead p.client.client deeds ⊎ AddsRead word to amount deeds)
    taking_goes are = ⊎_elim (λ idle. inl idle) (λ all. inr (go all (int_lt (rights_got share all.more) (pos amount)) refl)) (cells_go word share (AddsOwned word share to amount) (share_cells share) [] p deeds are)
      where
        go : (all : ReadsAll word share (AddsOwned word share to amount) (share_cells share) [] p deeds) → (b : Bool) → int_lt (rights_got share all.more) (pos amount) ≡ b → TellsRead p.client.client deeds ⊎ AddsRead word to amount deeds
        go all true less = inl (shorts all less)
        go all false most = inr (adds all most)

  -- ---- what these are to the cells

  -- where a line tells the rights, all is quiet
  pub tells_quiet : (client : ℕ) (deeds : List Deed) → TellsRead client deeds → All IsQuiet deeds
  tells_quiet client deeds t = subst (All IsQuiet) (sym (t.reads.whole ∙ ap (λ l. t.reads.front ++ l) t.last))
      (All-append IsQuiet t.reads.front (Told t.said ∷ []) (idle_quiet t.reads.front t.reads.idle) (told_quiet (Some t.said)))

  -- where an amount is added, no line tells them
  pub adds_none : (word : StepWord) (to amount : ℕ) (deeds : List Deed) → AddsRead word to amount deeds → All TellsNone deeds
  adds_none word to amount deeds a = subst (All TellsNone) (sym (a.reads.whole ∙ ap (λ l. a.reads.front ++ l) a.last))
      (All-append TellsNone a.reads.front (calls_on a.s (cell_inc word share (cell_to share to) amount)) (idle_none a.reads.front a.reads.idle) (on_each TellsNone (λ l plain. plain) (cell_inc word share (cell_to share to) amount) (λ outcome. tt) a.s))

  -- and it is the one change
  abbrev pub adds_read_once : (word : StepWord) (to amount : ℕ) (deeds : List Deed) → AddsRead word to amount deeds → AddsOnce deeds
  adds_read_once word to amount deeds a = adds_once a.s word share (cell_to share to) amount a.reads.front deeds (idle_quiet a.reads.front a.reads.idle) (a.reads.whole ∙ ap (λ l. a.reads.front ++ l) a.last)

  -- so it takes from the holder
  pub adds_takes : (client owner : ℕ) (word : StepWord) (to amount : ℕ) (deeds : List Deed) → client ≡ owner → AddsRead word to amount deeds → TakesRights client owner gains losses deeds
  adds_takes client owner word to amount deeds mine a = record {
    mine = mine;
    adds = adds_read_once word to amount deeds a;
    value = a.reads.value;
    reads = a.reads.reads;
    enough = a.enough;
  }

  -- a step that takes or gives is quiet, or takes from the holder
  pub takes_from : (client owner : ℕ) (word : StepWord) (to amount : ℕ) (p : Progress) (deeds : List Deed) → client ≡ owner → TakingDeeds p word share to amount deeds → All IsQuiet deeds ⊎ TakesRights client owner gains losses deeds
  takes_from client owner word to amount p deeds mine are =
      ⊎_elim
      (λ idle. inl (idle_quiet deeds idle))
      (λ read. ⊎_elim (λ t. inl (tells_quiet p.client.client deeds t)) (λ a. inr (adds_takes client owner word to amount deeds mine a)) read)
      (taking_goes word to amount p deeds are)
