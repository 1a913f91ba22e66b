-- Histories that go on with one entry.
use Rattle.std.proofs.Common.{◌≡◌, List, [], ◌∷◌, ◌++◌, sym, subst}
use Rattle.list_core.proofs.Moments.{each_more}
use Rattle.machine_trail.specs.declared.machine.Entry.{Entry}
use Rattle.machine_trail.specs.History.{IsHistory, IsKept}

module _ {A Y : Type 0} where
  -- a history goes on with an entry that has the machine's reply
  pub history_more : (reply : List (Entry A Y) → A → Y → Type 0) (log : List (Entry A Y)) (e : Entry A Y) → IsHistory reply log → reply log e.ask e.say → IsHistory reply (log ++ e ∷ [])
  history_more reply log e legal is = each_more (λ before e. reply before e.ask e.say) log e legal is

  -- a kept machine answers, and is kept with the entry
  pub kept_more : {M G : Type 0} (reply : G → List (Entry A Y) → A → Y → Type 0) (stands : M → List (Entry A Y) → Type 0) (settings : M → G) (old new : M) (log later : List (Entry A Y)) (e : Entry A Y) → IsKept reply stands settings old log → settings new ≡ settings old → reply (settings old) log e.ask e.say → stands new (log ++ e ∷ []) → later ≡ log ++ e ∷ [] → IsKept reply stands settings new later
  kept_more reply stands settings old new log later e kept same is stood all = record {
    stands_for = subst (stands new) (sym all) stood;
    history = subst (λ l. IsHistory (reply (settings new)) l) (sym all) (subst (λ g. IsHistory (reply g) (log ++ e ∷ [])) (sym same) (history_more (reply (settings old)) log e kept.history is));
  }
