use Rattle.std.proofs.Common.{sym, ap, ◌∙◌}
use Rattle.std.specs.Prelude.{is_some, option_map, slice_get}
use Rattle.std.proofs.lemmas.Bool.{OnTrue_from}
use Rattle.list_core.proofs.Places.{brought_forward-absent}
use Rattle.dc_talk.specs.Clients.{is_entry}
use Rattle.client_cache.specs.Tables.{entries_of}
use Rattle.client_cache.proofs.Tables.{missed, there, hit, moved, moved_first}
use Rattle.client_cache.proofs.cache.promote.Goals as goal

pub returns-then-has-clause-entries : goal.returns-then-has-clause-entries
returns-then-has-clause-entries c =
    let h = there c.args.at.now _ (sym c.has.ensures ∙ c.if-has.true) in
    let is = hit c.args.object.now c.args.at.now c.args.table.now.entries h.0 h.1 h.2 in
    ap (λ t. entries_of t.entries) c.promote.ensures.entries ∙ sym (moved c.args.object.now c.args.at.now c.args.table.now.entries h.0 is)

pub returns-then-has-clause-there : goal.returns-then-has-clause-there
returns-then-has-clause-there c =
    let h = there c.args.at.now _ (sym c.has.ensures ∙ c.if-has.true) in
    let is = hit c.args.object.now c.args.at.now c.args.table.now.entries h.0 h.1 h.2 in
    c.promote.ensures.value ∙ ap is_some h.1 ∙ sym (ap (λ f. is_some (option_map (λ e. e.state) f)) is.first)

pub returns-then-has-clause-first : goal.returns-then-has-clause-first
returns-then-has-clause-first c =
    let h = there c.args.at.now _ (sym c.has.ensures ∙ c.if-has.true) in
    let is = hit c.args.object.now c.args.at.now c.args.table.now.entries h.0 h.1 h.2 in
    let before = ap (λ f. option_map (λ e. e.state) f) is.first in
    let after = ap (λ t. option_map (λ e. e.1.state) (slice_get t.entries 0)) c.promote.ensures.entries ∙ ap (λ f. option_map (λ e. e.1.state) f) (moved_first c.args.object.now c.args.at.now c.args.table.now.entries h.0 is) in
    OnTrue_from c.promote.result _ (λ _. before ∙ sym after)

pub returns-else-has-clause-entries : goal.returns-else-has-clause-entries
returns-else-has-clause-entries c =
    let none = missed c.args.object.now c.args.at.now c.args.table.now.entries c.len-size.ensures.valid.0 (sym c.has.ensures ∙ c.if-has.false) in
    sym (brought_forward-absent (is_entry c.args.object.now c.args.at.now) (entries_of c.args.table.now.entries) none)

pub returns-else-has-clause-there : goal.returns-else-has-clause-there
returns-else-has-clause-there c =
    let none = missed c.args.object.now c.args.at.now c.args.table.now.entries c.len-size.ensures.valid.0 (sym c.has.ensures ∙ c.if-has.false) in
    c.if-has.false ∙ sym (ap (λ f. is_some (option_map (λ e. e.state) f)) none)
