use Rattle.std.proofs.Common.{◌≡◌, ◌<◌, ◌++◌, ◌∷◌, [], ℕ, List, sym, ap, ◌∙◌, subst, arith}
use Rattle.std.specs.Prelude.{All}
use Rattle.std.specs.Map.{values_of}
use Rattle.std.proofs.lemmas.List.{map-append}
use Rattle.vv_core.specs.declared.stamp.Stamp.{Stamp}
use Rattle.op_log.specs.declared.logged.Logged.{Logged}
use Rattle.op_log.specs.Logs.{LogView, has_dot}
use Rattle.op_log.specs.RestParts.{logged_part, with_part}
use Rattle.op_log.specs.Tables.{IsLog}
use Rattle.op_log.proofs.Keeping.{log_part, numbers_below}
use Rattle.op_log.proofs.Placed.{AreNoted}
use Rattle.op_log.proofs.log.Log.with.Goals as goal

pub keep-requires : goal.keep-requires
keep-requires c = subst (λ n. All (λ e. e.0 < n) c.self.inside.slots.entries) (sym (ap (λ (x : Logged). x.number) c.of_part.ensures)) (numbers_below _ _ _ _ _ c.self.invariant)

pub invariant_of-result : goal.invariant_of-result
invariant_of-result c =
    let part = c.args.part in
    let n = c.self.inside.appended in
    let es = c.self.inside.slots.entries in
    let new = ap (λ (l : LogView). has_dot part.tx.dot l.items) c.self.view_is ∙ c.requires.new in
    let is : c.keep.new.slots.entries ≡ es ++ (n, logged_part n part) ∷ [] = c.in_ok-keep.ensures.ok ∙ ap (λ (x : Logged). es ++ (x.number, x) ∷ []) c.of_part.ensures in
    let e = c.in_ok-note_all.ensures in
    let noted : AreNoted n part.stamps c.self.inside.places.keys c.note_all.new.places.keys = subst (λ (l : List Stamp). AreNoted n l c.self.inside.places.keys c.note_all.new.places.keys) c.as_slice.ensures (record { there = e.there; kept = e.kept; from = e.from }) in
    subst (λ (m : ℕ). IsLog m c.keep.new.slots.entries c.name.new.dots.entries c.put_tx.new.lists c.note_all.new.places.keys) (sym c.in-Some.ensures.1) (log_part n es _ _ _ _ _ c.self.inside.places.keys _ part c.self.invariant new c.requires.few c.name.ensures.fits (omega arith) is c.name.ensures.apart c.in_ok-name.ensures.there c.in_ok-put_tx.ensures.ok noted)

pub returns : goal.returns
returns c =
    let part = c.args.part in
    let n = c.self.inside.appended in
    let es = c.self.inside.slots.entries in
    let is : c.keep.new.slots.entries ≡ es ++ (n, logged_part n part) ∷ [] = c.in_ok-keep.ensures.ok ∙ ap (λ (x : Logged). es ++ (x.number, x) ∷ []) c.of_part.ensures in
    let items : values_of c.keep.new.slots.entries ≡ values_of es ++ logged_part n part ∷ [] = ap values_of is ∙ map-append (λ e. e.1) es ((n, logged_part n part) ∷ []) in
    let appended = c.in-Some.ensures.1 in
    (λ i. record { appended = appended i; items = items i }) ∙ ap (λ (l : LogView). with_part l part) c.self.view_is
