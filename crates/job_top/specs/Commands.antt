-- What each command means.
use Rattle.std.specs.Prelude.{ℕ}
use Rattle.job_commands.specs.Making.{make_meaning}
use Rattle.job_commands.specs.Meanings.{CommandMeaning}
use Rattle.job_commands.specs.Schedules.{check_meaning, play_meaning}
use Rattle.job_commands.specs.Words.{Asked, Runs, Lives, Makes, Plays, Checks, Drills, Traces, Draws, Chains, Hands}
use Rattle.job_commands.specs.Words.{Resumes}
use Rattle.job_top.specs.Chain.{chain_meaning}
use Rattle.job_top.specs.Drill.{drill_meaning}
use Rattle.job_top.specs.Hand.{hand_meaning}
use Rattle.job_top.specs.Live.{live_meaning}
use Rattle.job_top.specs.Picture.{picture_meaning}
use Rattle.job_top.specs.Resume.{resume_meaning}
use Rattle.job_top.specs.Run.{run_meaning}
use Rattle.job_top.specs.Trace.{trace_meaning}

-- where the clock may answer these times, which `live` alone asks for
abbrev pub meaning_of : (ℕ → Type 0) → Asked → CommandMeaning
meaning_of may (Runs names) = run_meaning names
meaning_of may (Lives names) = live_meaning may names
meaning_of may (Makes names) = make_meaning names
meaning_of may (Plays names) = play_meaning names
meaning_of may (Checks names) = check_meaning names
meaning_of may (Drills names) = drill_meaning names
meaning_of may (Traces names) = trace_meaning names
meaning_of may (Draws names) = picture_meaning names
meaning_of may (Chains names) = chain_meaning names
meaning_of may (Hands names) = hand_meaning names
meaning_of may (Resumes names) = resume_meaning names
