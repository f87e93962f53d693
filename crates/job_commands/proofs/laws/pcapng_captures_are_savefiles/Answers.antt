use Rattle.job_commands.proofs.Savefiles.{alike}
use Rattle.job_commands.proofs.laws.pcapng_captures_are_savefiles.Goals as goal

pub returns : goal.returns
returns c = λ name bytes packets shown other capture ng few size written_size has has_written.
    alike name bytes packets ng few shown other capture size written_size has has_written
