use Rattle.std.specs.Prelude.{IsTrue}
use Rattle.job_commands.proofs.RunChecked.{run_is_checked, run_is_checked_only}
use Rattle.job_commands.proofs.laws.what_run_leaves_is_accepted.Goals as goal

pub returns-clause-done : goal.returns-clause-done
returns-clause-done c = λ healthy names inputs old new later accepted ran fits stand.
    run_is_checked names inputs old new later accepted ran fits stand (IsTrue healthy)

pub returns-clause-only : goal.returns-clause-only
returns-clause-only c = λ healthy names inputs old new later accepted ran fits stand s.
    run_is_checked_only names inputs old new later accepted ran fits stand (IsTrue healthy) s
