use Rattle.std.proofs.Common.{◌≡◌, [], ◌∷◌, ◌++◌, sym, ◌∙◌}
use Rattle.journal_file.specs.Journal.{opened}
use Rattle.journal_pair.specs.Entries.{entry_bytes, generation}
use Rattle.journal_pair.proofs.Starting.{opened_long, begun_at, on_if_ok_both}
use Rattle.journal_pair.proofs.beginning.start.Goals as goal

pub returns-in-Ok-write_anew-clause-ok : goal.returns-in-Ok-write_anew-clause-ok
returns-in-Ok-write_anew-clause-ok g c = on_if_ok_both _ _ _ c.resume.result (λ live resumes ends. λ h one sound.
    let spelled = entry_bytes g.T.Item.spelled in
    let xs = generation c.args.mark [] [] in
    let out = c.deref.result.now in
    let is : out ≡ opened spelled xs ++ 0 ∷ [] = c.deref.ensures.value ∙ c.in-Ok.ensures in
    begun_at spelled xs out is (g.D.Disk.stands c.write_anew.new.disk) (g.D.Disk.stands live.disk) h _ live.end
    (opened_long spelled xs out is c.len.result (c.len.ensures ∙ sym c.deref.ensures.len)) ends (c.in-Ok-write_anew.ensures.moments h one sound) resumes) c.resume.ensures.ok c.resume.ensures.end
