-- That what is carried again, once nothing was news, is carried as before.
use Rattle.std.proofs.Common.{◌≡◌, ◌≢◌, ◌≤◌, ℕ, ◌||◌, ◌&&◌, Bool, true, false, not, ◌==◌, length, take, List, [], ◌∷◌, ◌++◌, map, Option, Some, None, refl, sym, ap, ◌∙◌, subst, arith}
use Rattle.std.specs.Prelude.{MatchBool, All, slice_get, filter, flat_map}
use Rattle.std.specs.List.{list_any}
use Rattle.std.proofs.lemmas.Bool.{eqb-true, eq-eqb, and_parts, false≢true}
use Rattle.std.proofs.lemmas.List.{append-nil, append_assoc}
use Rattle.std.proofs.lemmas.List.Elements.{All-head, All-tail}
use Rattle.std.proofs.lemmas.List.Folds.{list_any-append}
use Rattle.std.proofs.Math.Seq.{take-append_seam}
use Rattle.list_core.specs.Members.{In}
use Rattle.list_core.proofs.Members.{In-All, In_from_filter, In_from_map, In_from_flat_map}
use Rattle.list_core.proofs.Ranges.{In_from_range}
use Rattle.list_core.proofs.Gets.{get_seam}
use Rattle.vv_core.specs.Vectors.{centres}
use Rattle.dc_talk.specs.declared.sent.Sent.{Sent}
use Rattle.dc_talk.specs.declared.ask.Ask.{Ask}
use Rattle.dc_talk.specs.declared.ask.Ask.TheVariants.{Deliver, Report, Learn}
use Rattle.dc_talk.specs.declared.say.Say.{Say}
use Rattle.dc_talk.specs.declared.say.Say.TheVariants.{Records, Vector}
use Rattle.dc_talk.specs.declared.log.Fate.TheVariants.{Unheard}
use Rattle.dc_talk.specs.declared.log.Deed.{Deed}
use Rattle.dc_talk.specs.declared.log.Deed.TheVariants.{Asked}
use Rattle.dc_talk.specs.declared.line.Line.{Line}
use Rattle.dc_talk.specs.declared.line.ShipEnd.{ShipEnd}
use Rattle.dc_talk.specs.Entries.{Entry}
use Rattle.dc_talk.specs.Logs.{entry_for, entries_made}
use Rattle.dc_talk.specs.Answers.{answer, History}
use Rattle.dc_talk.proofs.Doors.{made_one, made_other, made_then}
use Rattle.script_core.specs.Carrying.{Route, route, routes, Detour, detour, detours, is_there, delivery_end, Delivers, AfterSend, Sends, AfterReport, Supplies, own_need, origin_need, Ships, Relays, AfterTold, Tells, InTurn, no_turn, next_turn, Passes, is_news}
use Rattle.dc_worker.specs.Settled.{Centres, AreNumbered, behind_deeds, PassesAmong, IsAlike}
use Rattle.dc_worker.proofs.Alike.{alike_self, alike_then, IsCarried, alike_answer, alike_more}

-- ---- one run

-- how an actor's run goes on: these deeds are left of it, its last trails are given, and the trails so far leave each
-- centre as it was at first
pub record Runs (c last : Centres) (actor : ℕ) (rest : List Deed) : Type 0 where
  pub now : ℕ → List Entry
  pub whole : (i : ℕ) → last.trails i ≡ now i ++ entries_made actor i rest
  pub alike : (i : ℕ) → IsAlike (c.settings i) (now i) (c.trails i)

-- the last trails are histories of the same centres
pub record EndsWell (c last : Centres) : Type 0 where
  pub numbered : AreNumbered c
  pub histories : (i : ℕ) → 1 ≤ i → i ≤ c.n → History (c.settings i) (last.trails i)

-- the centre is one of these, and the ask is one that is carried to it
pub record MayAsk (c : Centres) (i : ℕ) (ask : Ask) : Type 0 where
  pub low : 1 ≤ i
  pub high : i ≤ c.n
  pub carried : IsCarried i ask

-- the deed of an ask
abbrev pub asked : ℕ → Ask → Say → Deed
asked i ask say = Asked i ask (Unheard say)

-- the entry of the next ask stands behind the trail so far
pub next_entry : (c last : Centres) (actor i : ℕ) (ask : Ask) (say : Say) (rest : List Deed) (run : Runs c last actor (asked i ask say ∷ rest)) → last.trails i ≡ run.now i ++ entry_for actor (ask, say) ∷ entries_made actor i rest
next_entry c last actor i ask say rest run =
    run.whole i ∙ ap (λ es. run.now i ++ es) (made_then actor i (asked i ask say ∷ []) rest ∙ ap (λ es. es ++ entries_made actor i rest) (made_one actor i i ask (Unheard say) say (eq-eqb i i refl) refl))

-- the next answer is the one after the trail so far
answer_now : (c last : Centres) (actor i : ℕ) (ask : Ask) (say : Say) (rest : List Deed) → EndsWell c last → MayAsk c i ask → (run : Runs c last actor (asked i ask say ∷ rest)) → say ≡ answer (c.settings i) (run.now i) ask
answer_now c last actor i ask say rest well may run =
    let whole = next_entry c last actor i ask say rest run in
    let here : slice_get (last.trails i) (length (run.now i)) ≡ Some (entry_for actor (ask, say)) = ap (λ es. slice_get es (length (run.now i))) whole ∙ get_seam (run.now i) (entry_for actor (ask, say)) (entries_made actor i rest) in
    let before : take (length (run.now i)) (last.trails i) ≡ run.now i = ap (take (length (run.now i))) whole ∙ take-append_seam (run.now i) (entry_for actor (ask, say) ∷ entries_made actor i rest) in
    (well.histories i may.low may.high).holds (length (run.now i)) (entry_for actor (ask, say)) here ∙ ap (λ es. answer (c.settings i) es ask) before

-- an ask of the centre with the number i is carried to the one with its settings
carried_by : (c : Centres) (i : ℕ) (ask : Ask) → AreNumbered c → IsCarried i ask → IsCarried (c.settings i).me ask
carried_by c i ask numbered is = subst (λ me. IsCarried me ask) (sym (numbered.me i)) is

-- the next answer is the one that the centre gave at first
pub answer_first : (c last : Centres) (actor i : ℕ) (ask : Ask) (say : Say) (rest : List Deed) → EndsWell c last → MayAsk c i ask → Runs c last actor (asked i ask say ∷ rest) → say ≡ answer (c.settings i) (c.trails i) ask
answer_first c last actor i ask say rest well may run =
    answer_now c last actor i ask say rest well may run
    ∙ alike_answer (c.settings i) (run.now i) (c.trails i) ask (run.alike i) (carried_by c i ask well.numbered may.carried)

-- where it is not news, the run goes on
pub goes_on : (c last : Centres) (actor i : ℕ) (ask : Ask) (say : Say) (rest : List Deed) → EndsWell c last → MayAsk c i ask → is_news (asked i ask say) ≡ false → Runs c last actor (asked i ask say ∷ rest) → Runs c last actor rest
goes_on c last actor i ask say rest well may quiet run = record {
  now = λ j. run.now j ++ entries_made actor j (asked i ask say ∷ []);
  whole = λ j. run.whole j ∙ (ap (λ es. run.now j ++ es) (made_then actor j (asked i ask say ∷ []) rest) ∙ sym (append_assoc (run.now j) (entries_made actor j (asked i ask say ∷ [])) (entries_made actor j rest)));
  alike = λ j. alike j (i == j) refl;
}
  where
    one : Entry
    one = entry_for actor (ask, say)

    more : IsAlike (c.settings i) (run.now i ++ one ∷ []) (run.now i)
    more = alike_more (c.settings i) (run.now i) one (carried_by c i ask well.numbered may.carried) (subst (λ me. is_news (asked me ask say) ≡ false) (sym (well.numbered.me i)) quiet) (answer_now c last actor i ask say rest well may run)

    alike : (j : ℕ) (test : Bool) → (i == j) ≡ test → IsAlike (c.settings j) (run.now j ++ entries_made actor j (asked i ask say ∷ [])) (c.trails j)
    alike j true here =
        subst (λ es. IsAlike (c.settings j) (run.now j ++ es) (c.trails j)) (sym (made_one actor i j ask (Unheard say) say here refl))
        (subst (λ k. IsAlike (c.settings k) (run.now k ++ one ∷ []) (c.trails k)) (eqb-true i j here)
        (alike_then (c.settings i) (run.now i ++ one ∷ []) (run.now i) (c.trails i) more (run.alike i)))
    alike j false other =
        subst (λ es. IsAlike (c.settings j) (run.now j ++ es) (c.trails j)) (sym (made_other actor i j ask (Unheard say) other))
        (subst (λ es. IsAlike (c.settings j) es (c.trails j)) (sym (append-nil (run.now j))) (run.alike j))

-- ---- two runs

-- two runs from centres that are alike, each with its last trails and its actor
pub record Both : Type 0 where
  pub first : Centres
  pub later : Centres
  pub one : ℕ
  pub two : ℕ

pub record BothWell (c : Centres) (b : Both) : Type 0 where
  pub first : EndsWell c b.first
  pub later : EndsWell c b.later

-- how both go on
pub record BothRun (c : Centres) (b : Both) (rest more : List Deed) : Type 0 where
  pub first : Runs c b.first b.one rest
  pub later : Runs c b.later b.two more

-- the later one does the same as the first, and then both go on
pub record Repeats (c : Centres) (b : Both) (ds es : List Deed) (rests : List Deed × List Deed) : Type 0 where
  pub same : es ≡ ds
  pub run : BothRun c b rests.0 rests.1

-- the parts of what is not news
pub or_false : (a b : Bool) → a || b ≡ false → (a ≡ false) × (b ≡ false)
or_false true b none = absurd (false≢true (sym none))
or_false false b none = (refl, none)

-- an ask, made in both
twice_ask : (c : Centres) (b : Both) (i : ℕ) (ask : Ask) (say again : Say) (rest more : List Deed) → BothWell c b → MayAsk c i ask → is_news (asked i ask say) ≡ false → BothRun c b (asked i ask say ∷ rest) (asked i ask again ∷ more) → (again ≡ say) × BothRun c b rest more
twice_ask c b i ask say again rest more well may quiet run =
    let same : again ≡ say = answer_first c b.later b.two i ask again more well.later may run.later ∙ sym (answer_first c b.first b.one i ask say rest well.first may run.first) in (
      same,
      record {
        first = goes_on c b.first b.one i ask say rest well.first may quiet run.first;
        later = goes_on c b.later b.two i ask again more well.later may (ap (λ said. is_news (asked i ask said)) same ∙ quiet) run.later;
      },
    )

-- ---- deliveries

twice_delivers : (c : Centres) (b : Both) (to : ℕ) (items : List Sent) (last : Option ShipEnd) (ds es : List Deed) (end again : Option ShipEnd) (rest more : List Deed) → BothWell c b → 1 ≤ to → to ≤ c.n → list_any is_news ds ≡ false → Delivers to items last ds end → Delivers to items last es again → BothRun c b (ds ++ rest) (es ++ more) → Repeats c b ds es (rest, more)
twice_delivers c b to [] last ds es end again rest more well low high quiet one two run =
    record { same = two.0 ∙ sym one.0; run = subst (λ left. BothRun c b (left ++ rest) more) one.0 (subst (λ left. BothRun c b (ds ++ rest) (left ++ more)) two.0 run) }
twice_delivers c b to (item ∷ items) last [] es end again rest more well low high quiet one two run = absurd one
twice_delivers c b to (item ∷ items) last (d ∷ ds) [] end again rest more well low high quiet one two run = absurd two
twice_delivers c b to (item ∷ items) last (d ∷ ds) (e ∷ es) end again rest more well low high quiet one two run =
    let news = or_false (is_news d) (list_any is_news ds) quiet in
    let front : BothRun c b (asked to (Deliver item.item item.hops) one.0 ∷ (ds ++ rest)) (asked to (Deliver item.item item.hops) two.0 ∷ (es ++ more)) = subst (λ deed. BothRun c b (deed ∷ (ds ++ rest)) (asked to (Deliver item.item item.hops) two.0 ∷ (es ++ more))) one.1 (subst (λ deed. BothRun c b (d ∷ (ds ++ rest)) (deed ∷ (es ++ more))) two.1 run) in
    let may : MayAsk c to (Deliver item.item item.hops) = record { low = low; high = high; carried = tt } in
    let step = twice_ask c b to (Deliver item.item item.hops) one.0 two.0 (ds ++ rest) (es ++ more) well may (ap is_news (sym one.1) ∙ news.0) front in
    let follows = subst (λ say. MatchBool (is_there say) (Delivers to items (delivery_end to item.item say) es again) ((es ≡ []) × (again ≡ delivery_end to item.item say))) step.0 two.2 in
    go (is_there one.0) one.2 follows news.1 step.1 (two.1 ∙ (ap (λ say. asked to (Deliver item.item item.hops) say) step.0 ∙ sym one.1))
    (λ first later. twice_delivers c b to items (delivery_end to item.item one.0) ds es end again rest more well low high news.1 first later step.1)
  where
    go : (test : Bool) → MatchBool test (Delivers to items (delivery_end to item.item one.0) ds end) ((ds ≡ []) × (end ≡ delivery_end to item.item one.0)) → MatchBool test (Delivers to items (delivery_end to item.item one.0) es again) ((es ≡ []) × (again ≡ delivery_end to item.item one.0)) → list_any is_news ds ≡ false → BothRun c b (ds ++ rest) (es ++ more) → e ≡ d → (Delivers to items (delivery_end to item.item one.0) ds end → Delivers to items (delivery_end to item.item one.0) es again → Repeats c b ds es (rest, more)) → Repeats c b (d ∷ ds) (e ∷ es) (rest, more)
    go true first later none left head on =
        let after = on first later in
        record { same = ap (λ deed. deed ∷ es) head ∙ ap (λ tail. d ∷ tail) after.same; run = after.run }
    go false first later none left head on = record {
      same = ap (λ deed. deed ∷ es) head ∙ ap (λ tail. d ∷ tail) (later.0 ∙ sym first.0);
      run = subst (λ tail. BothRun c b (tail ++ rest) more) first.0 (subst (λ tail. BothRun c b (ds ++ rest) (tail ++ more)) later.0 left);
    }

-- nothing is left of both
twice_nothing : (c : Centres) (b : Both) (ds es rest more : List Deed) → ds ≡ [] → es ≡ [] → BothRun c b (ds ++ rest) (es ++ more) → Repeats c b ds es (rest, more)
twice_nothing c b ds es rest more none nothing run = record {
  same = nothing ∙ sym none;
  run = subst (λ tail. BothRun c b (tail ++ rest) more) none (subst (λ tail. BothRun c b (ds ++ rest) (tail ++ more)) nothing run);
}

-- an ask that begins both, where what follows is repeated
twice_begun : (c : Centres) (b : Both) (i : ℕ) (ask : Ask) (say again : Say) (ds es front back rest more : List Deed) → ds ≡ asked i ask say ∷ front → es ≡ asked i ask again ∷ back → BothWell c b → MayAsk c i ask → list_any is_news ds ≡ false → BothRun c b (ds ++ rest) (es ++ more) → (again ≡ say → list_any is_news front ≡ false → BothRun c b (front ++ rest) (back ++ more) → Repeats c b front back (rest, more)) → Repeats c b ds es (rest, more)
twice_begun c b i ask say again ds es front back rest more is was well may quiet run on =
    let news = or_false (is_news (asked i ask say)) (list_any is_news front) (ap (list_any is_news) (sym is) ∙ quiet) in
    let begun : BothRun c b (asked i ask say ∷ (front ++ rest)) (asked i ask again ∷ (back ++ more)) = subst (λ all. BothRun c b (all ++ rest) (asked i ask again ∷ (back ++ more))) is (subst (λ all. BothRun c b (ds ++ rest) (all ++ more)) was run) in
    let step = twice_ask c b i ask say again (front ++ rest) (back ++ more) well may news.0 begun in
    let after = on step.0 news.1 step.1 in
    record { same = was ∙ (ap (λ said. asked i ask said ∷ back) step.0 ∙ (ap (λ tail. asked i ask say ∷ tail) after.same ∙ sym is)); run = after.run }

-- ---- a route

-- the ends of a route are two of these centres
pub record IsRoute (c : Centres) (r : Route) : Type 0 where
  pub from : (1 ≤ r.from) × (r.from ≤ c.n)
  pub to : (1 ≤ r.to) × (r.to ≤ c.n)
  pub apart : r.from ≢ r.to

twice_after_send : (c : Centres) (b : Both) (r : Route) (last : Option ShipEnd) (say : Say) (ds es : List Deed) (end again : Option ShipEnd) (rest more : List Deed) → BothWell c b → IsRoute c r → list_any is_news ds ≡ false → AfterSend r last say ds end → AfterSend r last say es again → BothRun c b (ds ++ rest) (es ++ more) → Repeats c b ds es (rest, more)
twice_after_send c b r last (Records list) ds es end again rest more well is quiet one two run = twice_delivers c b r.to list last ds es end again rest more well is.to.0 is.to.1 quiet one two run
twice_after_send c b r last say ds es end again rest more well is quiet one two run = twice_nothing c b ds es rest more one.0 two.0 run

twice_sends : (c : Centres) (b : Both) (r : Route) (last : Option ShipEnd) (ask : Ask) (ds es : List Deed) (end again : Option ShipEnd) (rest more : List Deed) → BothWell c b → IsRoute c r → IsCarried r.from ask → list_any is_news ds ≡ false → Sends r last ask ds end → Sends r last ask es again → BothRun c b (ds ++ rest) (es ++ more) → Repeats c b ds es (rest, more)
twice_sends c b r last ask ds es end again rest more well is carried quiet one two run =
    twice_begun c b r.from ask one.say two.say ds es one.later two.later rest more one.whole two.whole well (record { low = is.from.0; high = is.from.1; carried = carried }) quiet run
    (λ same none left. twice_after_send c b r last one.say one.later two.later end again rest more well is none one.follows (subst (λ say. AfterSend r last say two.later again) same two.follows) left)

-- what is needed of the centre that supplies may be carried to it, whatever the vector
abbrev IsCarriedNeed : Route → (List ℕ → Ask) → Type 0
IsCarriedNeed r need = (vector : List ℕ) → IsCarried r.from (need vector)

twice_after_report : (c : Centres) (b : Both) (r : Route) (need : List ℕ → Ask) (say : Say) (ds es : List Deed) (end again : Option ShipEnd) (rest more : List Deed) → BothWell c b → IsRoute c r → IsCarriedNeed r need → list_any is_news ds ≡ false → AfterReport r need say ds end → AfterReport r need say es again → BothRun c b (ds ++ rest) (es ++ more) → Repeats c b ds es (rest, more)
twice_after_report c b r need (Vector vector) ds es end again rest more well is carried quiet one two run = twice_sends c b r None (need vector) ds es end again rest more well is (carried vector) quiet one two run
twice_after_report c b r need say ds es end again rest more well is carried quiet one two run = twice_nothing c b ds es rest more one.0 two.0 run

twice_supplies : (c : Centres) (b : Both) (r : Route) (need : List ℕ → Ask) (ds es : List Deed) (end again : Option ShipEnd) (rest more : List Deed) → BothWell c b → IsRoute c r → IsCarriedNeed r need → list_any is_news ds ≡ false → Supplies r need ds end → Supplies r need es again → BothRun c b (ds ++ rest) (es ++ more) → Repeats c b ds es (rest, more)
twice_supplies c b r need ds es end again rest more well is carried quiet one two run =
    twice_begun c b r.to Report one.say two.say ds es one.later two.later rest more one.whole two.whole well (record { low = is.to.0; high = is.to.1; carried = tt }) quiet run
    (λ same none left. twice_after_report c b r need one.say one.later two.later end again rest more well is carried none one.follows (subst (λ say. AfterReport r need say two.later again) same two.follows) left)

twice_after_told : (c : Centres) (b : Both) (r : Route) (say : Say) (ds es : List Deed) (line again : Option Line) (rest more : List Deed) → BothWell c b → IsRoute c r → list_any is_news ds ≡ false → AfterTold r say ds line → AfterTold r say es again → BothRun c b (ds ++ rest) (es ++ more) → Repeats c b ds es (rest, more)
twice_after_told c b r (Vector vector) ds es line again rest more well is quiet one two run =
    twice_begun c b r.to (Learn r.from vector) one.0 two.0 ds es [] [] rest more one.1 two.1 well (record { low = is.to.0; high = is.to.1; carried = is.apart }) quiet run
    (λ same none left. record { same = refl; run = left })
twice_after_told c b r say ds es line again rest more well is quiet one two run = twice_nothing c b ds es rest more one.0 two.0 run

twice_tells : (c : Centres) (b : Both) (r : Route) (ds es : List Deed) (line again : Option Line) (rest more : List Deed) → BothWell c b → IsRoute c r → list_any is_news ds ≡ false → Tells r ds line → Tells r es again → BothRun c b (ds ++ rest) (es ++ more) → Repeats c b ds es (rest, more)
twice_tells c b r ds es line again rest more well is quiet one two run =
    twice_begun c b r.from Report one.say two.say ds es one.later two.later rest more one.whole two.whole well (record { low = is.from.0; high = is.from.1; carried = tt }) quiet run
    (λ same none left. twice_after_told c b r one.say one.later two.later line again rest more well is none one.follows (subst (λ say. AfterTold r say two.later again) same two.follows) left)

-- ---- turns

-- news of deeds in two parts
pub parts_quiet : (ds es : List Deed) → list_any is_news (ds ++ es) ≡ false → (list_any is_news ds ≡ false) × (list_any is_news es ≡ false)
parts_quiet ds es quiet = or_false (list_any is_news ds) (list_any is_news es) (sym (list_any-append is_news ds es) ∙ quiet)

-- what is repeated in each of two parts is repeated in both
twice_parts : (c : Centres) (b : Both) (ds front back es fore hind rest more : List Deed) → ds ≡ front ++ back → es ≡ fore ++ hind → list_any is_news ds ≡ false → BothRun c b (ds ++ rest) (es ++ more) → (list_any is_news front ≡ false → BothRun c b (front ++ (back ++ rest)) (fore ++ (hind ++ more)) → Repeats c b front fore (back ++ rest, hind ++ more)) → (list_any is_news back ≡ false → BothRun c b (back ++ rest) (hind ++ more) → Repeats c b back hind (rest, more)) → Repeats c b ds es (rest, more)
twice_parts c b ds front back es fore hind rest more is was quiet run first later =
    let news = parts_quiet front back (ap (list_any is_news) (sym is) ∙ quiet) in
    let one : ds ++ rest ≡ front ++ (back ++ rest) = ap (λ all. all ++ rest) is ∙ append_assoc front back rest in
    let two : es ++ more ≡ fore ++ (hind ++ more) = ap (λ all. all ++ more) was ∙ append_assoc fore hind more in
    let begun = first news.0 (subst (λ all. BothRun c b all (fore ++ (hind ++ more))) one (subst (BothRun c b (ds ++ rest)) two run)) in
    let ended = later news.1 begun.run in
    record { same = was ∙ (ap (λ all. all ++ hind) begun.same ∙ (ap (λ all. front ++ all) ended.same ∙ sym is)); run = ended.run }

-- over what is so deeds of this kind are repeated
abbrev pub Repeatable : {X : Type 0} → Centres → Both → (X → Type 0) → (X → List Deed → Type 0) → Type 0
Repeatable {X} c b Is Do = (x : X) (ds es rest more : List Deed) → Is x → list_any is_news ds ≡ false → Do x ds → Do x es → BothRun c b (ds ++ rest) (es ++ more) → Repeats c b ds es (rest, more)

pub twice_turns : {X : Type 0} (c : Centres) (b : Both) (Is : X → Type 0) (Do : X → List Deed → Type 0) → Repeatable c b Is Do → (xs : List X) (ds es rest more : List Deed) → All Is xs → list_any is_news ds ≡ false → InTurn Do xs ds → InTurn Do xs es → BothRun c b (ds ++ rest) (es ++ more) → Repeats c b ds es (rest, more)
twice_turns c b Is Do each [] ds es rest more all quiet no_turn no_turn run = record { same = refl; run = run }
twice_turns c b Is Do each (x ∷ xs) ds es rest more all quiet (next_turn front back is does turns) (next_turn fore hind was again others) run =
    twice_parts c b ds front back es fore hind rest more is was quiet run
    (λ none left. each x front fore (back ++ rest) (hind ++ more) (All-head Is x xs all) none does again left)
    (λ none left. twice_turns c b Is Do each xs back hind rest more (All-tail Is x xs all) none turns others left)

-- ---- passes

-- all routes are between these centres
pub routes_between : (c : Centres) → All (IsRoute c) (routes c.n)
routes_between c = In-All (IsRoute c) (routes c.n) each
  where
    each : (r : Route) → In r (routes c.n) → IsRoute c r
    each r is =
        let of = In_from_flat_map (λ i. map (route i) (filter (λ j. not (i == j)) (centres c.n))) (centres c.n) r is in
        let to = In_from_map (route of.0) (filter (λ j. not (of.0 == j)) (centres c.n)) r of.2 in
        let kept = In_from_filter (λ j. not (of.0 == j)) (centres c.n) to.0 to.1 in
        let from_range = In_from_range 1 c.n of.0 of.1 in
        let to_range = In_from_range 1 c.n to.0 kept.0 in
        subst (IsRoute c) (sym to.2) (record {
          from = (from_range.0, omega (arith, from_range.1));
          to = (to_range.0, omega (arith, to_range.1));
          apart = λ same. false≢true (ap not (sym (eq-eqb of.0 to.0 same)) ∙ kept.1);
        })

-- a detour is from one of these centres to another
abbrev pub IsDetour : Centres → Detour → Type 0
IsDetour c t = IsRoute c (route t.from t.to)

pub detours_between : (c : Centres) → All (IsDetour c) (detours c.n)
detours_between c = In-All (IsDetour c) (detours c.n) each
  where
    each : (t : Detour) → In t (detours c.n) → IsDetour c t
    each t is =
        let from = In_from_flat_map (λ i. flat_map (λ o. map (detour i o) (filter (λ j. not (i == j) && not (o == j)) (centres c.n))) (filter (λ o. not (i == o)) (centres c.n))) (centres c.n) t is in
        let over = In_from_flat_map (λ o. map (detour from.0 o) (filter (λ j. not (from.0 == j) && not (o == j)) (centres c.n))) (filter (λ o. not (from.0 == o)) (centres c.n)) t from.2 in
        let to = In_from_map (detour from.0 over.0) (filter (λ j. not (from.0 == j) && not (over.0 == j)) (centres c.n)) t over.2 in
        let kept = In_from_filter (λ j. not (from.0 == j) && not (over.0 == j)) (centres c.n) to.0 to.1 in
        let apart = and_parts (not (from.0 == to.0)) (not (over.0 == to.0)) kept.1 in
        let from_range = In_from_range 1 c.n from.0 from.1 in
        let to_range = In_from_range 1 c.n to.0 kept.0 in
        subst (IsDetour c) (sym to.2) (record {
          from = (from_range.0, omega (arith, from_range.1));
          to = (to_range.0, omega (arith, to_range.1));
          apart = λ same. false≢true (ap not (sym (eq-eqb from.0 to.0 same)) ∙ apart.0);
        })

-- so are deliveries over a route, and relays over a detour
pub twice_ships : (c : Centres) (b : Both) → BothWell c b → Repeatable c b (IsRoute c) (λ r deeds. (end : Option ShipEnd) × Ships r deeds end)
twice_ships c b well r ds es rest more is none does again left = twice_supplies c b r (own_need r) ds es does.0 again.0 rest more well is (λ vector. tt) none does.1 again.1 left

pub twice_relays : (c : Centres) (b : Both) → BothWell c b → Repeatable c b (IsDetour c) (λ t deeds. (end : Option ShipEnd) × Relays t deeds end)
twice_relays c b well t ds es rest more is none does again left = twice_supplies c b (route t.from t.to) (origin_need t) ds es does.0 again.0 rest more well is (λ vector. tt) none does.1 again.1 left

twice_passes : (c : Centres) (b : Both) (ds es rest more : List Deed) → BothWell c b → list_any is_news ds ≡ false → Passes c.n ds → Passes c.n es → BothRun c b (ds ++ rest) (es ++ more) → Repeats c b ds es (rest, more)
twice_passes c b ds es rest more well quiet one two run =
    twice_parts c b ds one.ships (one.relays ++ one.tells) es two.ships (two.relays ++ two.tells) rest more one.whole two.whole quiet run
    (λ none left. twice_turns c b (IsRoute c) (λ r deeds. (end : Option ShipEnd) × Ships r deeds end) (twice_ships c b well) (routes c.n) one.ships two.ships ((one.relays ++ one.tells) ++ rest) ((two.relays ++ two.tells) ++ more) (routes_between c) none one.shipped two.shipped left)
    (λ none left. twice_parts c b (one.relays ++ one.tells) one.relays one.tells (two.relays ++ two.tells) two.relays two.tells rest more refl refl none left
    (λ none left. twice_turns c b (IsDetour c) (λ t deeds. (end : Option ShipEnd) × Relays t deeds end) (twice_relays c b well) (detours c.n) one.relays two.relays (one.tells ++ rest) (two.tells ++ more) (detours_between c) none one.relayed two.relayed left)
    (λ none left. twice_turns c b (IsRoute c) (λ r deeds. (line : Option Line) × Tells r deeds line) tells (routes c.n) one.tells two.tells rest more (routes_between c) none one.told_all two.told_all left))
  where
    tells : Repeatable c b (IsRoute c) (λ r deeds. (line : Option Line) × Tells r deeds line)
    tells r ds es rest more is none does again left = twice_tells c b r ds es does.0 again.0 rest more well is none does.1 again.1 left

-- ---- a pass behind one without news

-- a run from the trails at first
pub run_begins : (c : Centres) (actor : ℕ) (ds : List Deed) → Runs c (behind_deeds c actor ds) actor (ds ++ [])
run_begins c actor ds = record { now = c.trails; whole = λ i. ap (λ all. c.trails i ++ entries_made actor i all) (sym (append-nil ds)); alike = λ i. alike_self (c.settings i) (c.trails i) }

-- a pass without news leaves each centre as it was
pub passed_alike : (c : Centres) (actor : ℕ) (ds : List Deed) → AreNumbered c → PassesAmong c actor ds → list_any is_news ds ≡ false → (i : ℕ) → IsAlike (c.settings i) (c.trails i ++ entries_made actor i ds) (c.trails i)
passed_alike c actor ds numbered pass quiet i =
    let well : EndsWell c (behind_deeds c actor ds) = record { numbered = numbered; histories = pass.histories } in
    let b : Both = record { first = behind_deeds c actor ds; later = behind_deeds c actor ds; one = actor; two = actor } in
    let run = run_begins c actor ds in
    let ends = twice_passes c b ds ds [] [] (record { first = well; later = well }) quiet pass.passes pass.passes (record { first = run; later = run }) in
    let last : c.trails i ++ entries_made actor i ds ≡ ends.run.first.now i = ends.run.first.whole i ∙ append-nil (ends.run.first.now i) in
    subst (λ trail. IsAlike (c.settings i) trail (c.trails i)) (sym last) (ends.run.first.alike i)

pub same_pass : (c : Centres) (actor again : ℕ) (first later : List Deed) → AreNumbered c → PassesAmong c actor first → list_any is_news first ≡ false → PassesAmong (behind_deeds c actor first) again later → later ≡ first
same_pass c actor again first later numbered pass quiet more =
    let middle = behind_deeds c actor first in
    let b : Both = record { first = middle; later = behind_deeds middle again later; one = actor; two = again } in
    let well : BothWell c b = record { first = record { numbered = numbered; histories = pass.histories }; later = record { numbered = numbered; histories = more.histories } } in
    let run : Runs c (behind_deeds middle again later) again (later ++ []) = record {
      now = middle.trails;
      whole = λ i. ap (λ all. middle.trails i ++ entries_made again i all) (sym (append-nil later));
      alike = passed_alike c actor first numbered pass quiet;
    } in
    (twice_passes c b first later [] [] well quiet pass.passes more.passes (record { first = run_begins c actor first; later = run })).same

pub quiet_pass : (c : Centres) (actor again : ℕ) (first later : List Deed) → AreNumbered c → PassesAmong c actor first → list_any is_news first ≡ false → PassesAmong (behind_deeds c actor first) again later → list_any is_news later ≡ false
quiet_pass c actor again first later numbered pass quiet more = ap (list_any is_news) (same_pass c actor again first later numbered pass quiet more) ∙ quiet
