-- What the answers to a prune and to later fetches tell.
use Rattle.std.proofs.Common.{◌≡◌, ℕ, suc, ◌<◌, List, take, sym, ap, ◌∙◌, subst, arith}
use Rattle.list_core.proofs.Moments.{take_one_more}
use Rattle.ids_core.specs.declared.object.ObjectId.{ObjectId}
use Rattle.vv_core.specs.Vectors.{Covers}
use Rattle.tx_core.specs.declared.state.State.{State}
use Rattle.dc_talk.specs.declared.ask.Ask.TheVariants.{Fetch, Prune}
use Rattle.dc_talk.specs.declared.say.Say.TheVariants.{Object, Base}
use Rattle.dc_talk.specs.declared.settings.Settings.{Settings}
use Rattle.dc_talk.specs.Entries.{Entry}
use Rattle.dc_talk.specs.Records.{vector}
use Rattle.dc_talk.specs.Objects.{state_at}
use Rattle.dc_talk.specs.Trails.{applied, Horizon, pruned, horizon_after, horizon}
use Rattle.dc_talk.specs.Answers.{answer, History}
use Rattle.dc_talk.proofs.Answers.{fitting}
use Rattle.dc_talk.proofs.ClientAnswers.{object_by}
use Rattle.dc_talk.proofs.Horizons.{horizon_more}
use Rattle.show_law.specs.Fronts.{through, IsPrunedAt, IsFetchedAt}
use Rattle.show_law.proofs.Staying.{stays_at}
use Rattle.show_law.proofs.Rising.{base_stable, stable_held}

-- equal answers have equal bases
same_base : (v w : List ℕ) (f g t u : ℕ) → Base v f t ≡ Base w g u → v ≡ w
same_base v w f g t u same = cc

-- a prune is answered with the base that it leaves
pub base_is : (s : Settings) (trail : List Entry) (p : ℕ) (base : List ℕ) → History s trail → IsPrunedAt trail p base → base ≡ (horizon s (through p trail)).base
base_is s trail p base history is =
    let said : Base base is.folded is.trimmed ≡ answer s (take p trail) Prune = sym is.says ∙ (history.holds p is.entry is.there ∙ ap (answer s (take p trail)) is.asks) in
    let mark : base ≡ h.mark = same_base _ _ _ _ _ _ (fitting s (take p trail) Prune (Base base is.folded is.trimmed) said (λ e. cc) (λ e. cc)).1 in
    mark ∙ sym (ap (λ (h : Horizon). h.base) after)
  where
    h : Horizon
    h = horizon s (take p trail)

    after : horizon s (through p trail) ≡ pruned s (take p trail) h
    after = ap (horizon s) (take_one_more trail p is.entry is.there) ∙ (horizon_more s (take p trail) is.entry ∙ (ap (λ ask. horizon_after s (take p trail) h ask is.entry.say) is.asks ∙ ap (horizon_after s (take p trail) h Prune) is.says))

-- a fetch behind it at that vector, at whatever distance, is answered with the state that the object had then
pub fetched_is : (s : Settings) (trail : List Entry) (p q : ℕ) (base : List ℕ) (object : ObjectId) (state : State) → History s trail → IsPrunedAt trail p base → p < q → IsFetchedAt trail q object base state → state ≡ state_at object (applied s.n (through p trail)) base
fetched_is s trail p q base object state history is lt fetched =
    let said : Object state ≡ answer s (take q trail) (Fetch object base) = sym fetched.says ∙ (history.holds q fetched.entry fetched.there ∙ ap (answer s (take q trail)) fetched.asks) in
    let held = subst (λ v. Covers (vector s.n (applied s.n (through p trail))) v) (sym (base_is s trail p base history is)) (stable_held s (through p trail) (horizon s (through p trail)).base (base_stable s (through p trail))) in
    (object_by s (take q trail) object base state said).is ∙ stays_at s trail history (suc p) q (omega (arith, lt)) base object held
