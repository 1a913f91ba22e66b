use Rattle.std.proofs.Common.{◌≡◌, ◌≤◌, ◌-◌, ◌++◌, ℕ, [], sym, ap, ◌∙◌, get_or, length, rules, arith}
use Rattle.std.specs.Global.{Vec}
use Rattle.std.proofs.lemmas.List.{get_or-map}
use Rattle.print_text.specs.Text.{told_text}
use Rattle.print_text.specs.Parts.{part}
use Rattle.print_text.proofs.Parts.{note_added}
use Rattle.print_text.proofs.text.add_note.Goals as goal

pub returns-in_ok-write_deed : goal.returns-in_ok-write_deed
returns-in_ok-write_deed c =
    let parts = c.args.parts.now.items in
    let at : ℕ = c.args.note.now.section - 1 in
    let high : c.args.note.now.section ≤ length parts = search rules in
    let place : c.index_mut-part.result.now ≡ get_or parts at c.index_mut-part.result.now = search rules in
    let old : part parts c.args.note.now.section ≡ c.index_mut-part.result.now.items =
    get_or-map (λ (text : Vec ℕ). text.items) parts at c.index_mut-part.result.now [] (omega (arith, c.if-section-ge1.true, high)) ∙ ap (λ (text : Vec ℕ). text.items) (sym place) in
    note_added parts c.args.note.now c.write_deed.new.text c.if-section-ge1.true high (c.in_ok-write_deed.ensures ∙ ap (λ lines. lines ++ told_text c.args.note.now.deed) (sym old))
