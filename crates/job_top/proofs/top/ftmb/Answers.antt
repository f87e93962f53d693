use Rattle.std.proofs.Common.{arith}
use Rattle.job_commands.specs.Answers.{AnswersAs}
use Rattle.job_commands.specs.Meanings.{CommandMeaning}
use Rattle.job_commands.specs.Words.{live_names_of}
use Rattle.job_top.proofs.Lives.{lives_asked, mean_any}
use Rattle.job_top.proofs.top.ftmb.Goals as goal

-- words of `live`

pub live-requires-clause-apart : goal.live-requires-clause-apart
live-requires-clause-apart g c κs within = record {
  outputs = c.in-Some.ensures.released_apart;
  released = c.in-Some.ensures.script_apart;
  schedule = c.in-Some.ensures.schedule_apart;
}

pub returns-in-Some-clause-answers : goal.returns-in-Some-clause-answers
returns-in-Some-clause-answers g c =
    rw (lives_asked c.args.words.now (live_names_of c.in-Some.names) c.in-Some.ensures.names) c.live.ensures

pub returns-in-Some-clause-given : goal.returns-in-Some-clause-given
returns-in-Some-clause-given g c = omega (arith, c.live.ensures.given)

-- other words

pub serial-requires-clause-no_rounds : goal.serial-requires-clause-no_rounds
serial-requires-clause-no_rounds g c = c.in-None.ensures.names

pub returns-in-None-clause-answers : goal.returns-in-None-clause-answers
returns-in-None-clause-answers g c =
    mean_any (λ (command : CommandMeaning). AnswersAs g.W.World.honest g.W.World.shows g.W.World.ledger
    g.W.World.healthy command c.serial.result c.args.world.now c.serial.new.world) (g.C.Clock.may c.args.clock.now)
    c.args.words.now c.in-None.ensures.names c.serial.ensures.answers
