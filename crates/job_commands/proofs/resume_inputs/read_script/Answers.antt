use Rattle.std.proofs.Common.{refl, inl}
use Rattle.job_commands.proofs.resume_inputs.read_script.Goals as goal

pub returns-in-Err-clause-judged : goal.returns-in-Err-clause-judged
returns-in-Err-clause-judged g c p q =
    rw c.script_status.ensures (inl (c.in-Err.error, c.in-Err.ensures.judged p q, refl))
