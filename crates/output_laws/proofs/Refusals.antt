-- Bytes are refused at one line for one cause, and no bytes of a script are.
use Rattle.std.proofs.Common.{◌≡◌, ℕ, List, sym, ap, ◌∙◌}
use Rattle.std.specs.Prelude.{Some, Ok, Err}
use Rattle.command_line.specs.declared.form.Form.{Form}
use Rattle.script_reader.specs.declared.fault.ScriptFault.TheVariants.{Refused}
use Rattle.script_core.specs.declared.script.Script.{Script}
use Rattle.script_reader.specs.Scripts.{script_read}
use Rattle.top_call.specs.declared.engine.Fault.{Fault}
use Rattle.top_call.specs.Runs.{IsAsked, IsRead, IsRefusedFor, refusal_text}
use Rattle.top_call.proofs.Owing.{asked_said}

-- the line at fault, and the cause, are what the bytes say
pub fault_said : (bytes : List ℕ) (fault : Fault) → IsRefusedFor (Some bytes) fault → script_read bytes ≡ Err (Refused fault.line fault.cause)
fault_said bytes fault refused = ap script_read refused.input ∙ refused.refused

-- bytes that a form reads and that are a script are not refused
pub not_refused : (bytes : List ℕ) (form : Form) (script : Script) (fault : Fault) → IsRead form → IsAsked form (Some bytes) script → IsRefusedFor (Some bytes) fault → ⊥
not_refused bytes form script fault read asked refused = absurd (let both : Ok script ≡ Err (Refused fault.line fault.cause) = sym (asked_said form bytes script read asked) ∙ fault_said bytes fault refused in cc)

-- the same bytes are refused by the same line
pub one_refusal : (bytes : List ℕ) (one two : Fault) → IsRefusedFor (Some bytes) one → IsRefusedFor (Some bytes) two → refusal_text one.line one.cause ≡ refusal_text two.line two.cause
one_refusal bytes one two is too =
    let both : Err (Refused one.line one.cause) ≡ Err (Refused two.line two.cause) = sym (fault_said bytes one is) ∙ fault_said bytes two too in
    let line : one.line ≡ two.line = cc in
    let reason : one.cause ≡ two.cause = cc in
    λ i. refusal_text (line i) (reason i)
