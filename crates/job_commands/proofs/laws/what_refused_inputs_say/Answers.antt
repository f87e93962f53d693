use Rattle.std.specs.Prelude.{IsTrue}
use Rattle.job_commands.proofs.ChainFaults.{chain_says}
use Rattle.job_commands.proofs.ChainFiles.{chain_one}
use Rattle.job_commands.proofs.LiveFiles.{live_one, live_says}
use Rattle.job_commands.proofs.ResumeFaults.{resume_says}
use Rattle.job_commands.proofs.ResumeFiles.{resume_one}
use Rattle.job_commands.proofs.laws.what_refused_inputs_say.Goals as goal

pub returns-clause-says : goal.returns-clause-says
returns-clause-says c = λ healthy names s shown. live_says (IsTrue healthy) names shown s

pub returns-clause-one : goal.returns-clause-one
returns-clause-one c = λ healthy names s r shown.
    live_one (IsTrue healthy) names shown (λ inputs other. ⊥) (λ inputs t u decides other h k. absurd h) s r

pub returns-clause-chain_says : goal.returns-clause-chain_says
returns-clause-chain_says c = λ healthy names s shown. chain_says (IsTrue healthy) names shown s

pub returns-clause-chain_one : goal.returns-clause-chain_one
returns-clause-chain_one c = λ healthy names s r shown.
    chain_one (IsTrue healthy) names shown (λ inputs other. ⊥) (λ inputs t u decides other h k. absurd h) s r

pub returns-clause-resume_says : goal.returns-clause-resume_says
returns-clause-resume_says c = λ healthy names s shown. resume_says (IsTrue healthy) names shown s

pub returns-clause-resume_one : goal.returns-clause-resume_one
returns-clause-resume_one c = λ healthy names s r shown.
    resume_one (IsTrue healthy) names shown (λ source events other. ⊥)
    (λ source events t u decides other h k. absurd h) s r
