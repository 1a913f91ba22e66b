use Rattle.std.proofs.Common.{◌≡◌, Ok, Err, sym, ap, ◌∙◌}
use Rattle.script_reader.specs.declared.fault.ScriptFault.TheVariants.{Refused}
use Rattle.script_reader.specs.Scripts.{script_read}
use Rattle.load_maker.specs.MadeScripts.{script_made}
use Rattle.top_call.proofs.input.made.Goals as goal

pub returns-in-Ok-clause-script : goal.returns-in-Ok-clause-script
returns-in-Ok-clause-script c = ap script_read (sym c.in_ok-bytes.ensures) ∙ (ap script_read (sym c.deref.ensures.value) ∙ sym (c.in-Ok.ensures.exact (λ bad. cc)))

pub unreachable-requires : goal.unreachable-requires
unreachable-requires c =
    let refused : c.parse.result ≡ Err (Refused c.in-Err-Refused.field-0-0 c.in-Err-Refused.field-0-1) = c.in-Err-Refused.is ∙ ap (λ fault. Err fault) c.in-Err-Refused.field-0-is in
    let said : c.parse.result ≡ script_read c.deref.result.now = c.parse.ensures.exact (λ bad. cc) in
    let read : script_read c.deref.result.now ≡ Ok (script_made c.args.num) = ap script_read (c.deref.ensures.value ∙ c.in_ok-bytes.ensures) ∙ c.law_made_script.ensures.script c.args.num in
    let both : Ok (script_made c.args.num) ≡ Err (Refused c.in-Err-Refused.field-0-0 c.in-Err-Refused.field-0-1) = sym read ∙ sym said ∙ refused in
    cc
