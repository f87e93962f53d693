use Rattle.std.proofs.Common.{ap, arith, ◌∙◌, Some}
use Rattle.job_commands.specs.ChainWords.{chain_names}
use Rattle.job_commands.specs.HandWords.{hand_names, resume_names}
use Rattle.job_commands.specs.Words.{asked_of, check_names, drill_names, live_names, live_names_of, make_names}
use Rattle.job_commands.specs.Words.{picture_names, play_names, run_names, trace_names}
use Rattle.job_top.proofs.Lives.{not_lives}
use Rattle.job_top.proofs.top.serial.Goals as goal

pub unreachable-requires : goal.unreachable-requires
unreachable-requires g c =
    let words = c.args.words.now in
    not_lives (run_names words) (live_names words) (make_names words) (play_names words) (check_names words)
    (drill_names words) (trace_names words) (picture_names words) (chain_names words) (hand_names words)
    (resume_names words) (live_names_of c.in-Some-Live.field-0-0) c.requires.no_rounds
    (c.in-Some-Live.ensures ∙ ap (λ z. Some (asked_of z)) c.in-Some-Live.field-0-is)

-- no command has more than eight files

pub returns-in-Some-Run-clause-given : goal.returns-in-Some-Run-clause-given
returns-in-Some-Run-clause-given g c = omega (arith, c.run.ensures.given)

pub returns-in-Some-Make-clause-given : goal.returns-in-Some-Make-clause-given
returns-in-Some-Make-clause-given g c = omega (arith, c.make_capture.ensures.given)

pub returns-in-Some-Play-clause-given : goal.returns-in-Some-Play-clause-given
returns-in-Some-Play-clause-given g c = omega (arith, c.play_capture.ensures.given)

pub returns-in-Some-Check-clause-given : goal.returns-in-Some-Check-clause-given
returns-in-Some-Check-clause-given g c = omega (arith, c.check_released.ensures.given)

pub returns-in-Some-Drill-clause-given : goal.returns-in-Some-Drill-clause-given
returns-in-Some-Drill-clause-given g c = omega (arith, c.drill.ensures.given)

pub returns-in-Some-Trace-clause-given : goal.returns-in-Some-Trace-clause-given
returns-in-Some-Trace-clause-given g c = omega (arith, c.trace.ensures.given)

pub returns-in-Some-Picture-clause-given : goal.returns-in-Some-Picture-clause-given
returns-in-Some-Picture-clause-given g c = omega (arith, c.picture.ensures.given)

pub returns-in-Some-Chain-clause-given : goal.returns-in-Some-Chain-clause-given
returns-in-Some-Chain-clause-given g c = omega (arith, c.chain.ensures.given)

pub returns-in-Some-Hand-clause-given : goal.returns-in-Some-Hand-clause-given
returns-in-Some-Hand-clause-given g c = omega (arith, c.hand.ensures.given)

pub returns-in-Some-Resume-clause-given : goal.returns-in-Some-Resume-clause-given
returns-in-Some-Resume-clause-given g c = omega (arith, c.resume.ensures.given)
