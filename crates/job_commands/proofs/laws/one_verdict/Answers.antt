use Rattle.std.specs.Prelude.{IsTrue}
use Rattle.job_commands.proofs.Finds.{one_check}
use Rattle.job_commands.proofs.OneVerdict.{one_verdict}
use Rattle.job_commands.proofs.Plays.{one_play}
use Rattle.job_commands.proofs.laws.one_verdict.Goals as goal

pub returns-clause-run : goal.returns-clause-run
returns-clause-run c = λ healthy names s r shown. one_verdict (IsTrue healthy) names shown s r

pub returns-clause-play : goal.returns-clause-play
returns-clause-play c = λ healthy names s r shown. one_play (IsTrue healthy) names shown s r

pub returns-clause-check : goal.returns-clause-check
returns-clause-check c = λ healthy names s r shown. one_check (IsTrue healthy) names shown s r
