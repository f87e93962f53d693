use Rattle.std.proofs.Common.{ap, sym, subst}
use Rattle.job_top.specs.Answers.{Answers}
use Rattle.job_top.proofs.Answered.{answers_within}
use Rattle.job_top.proofs.racing.race_mirrored.Goals as goal

pub returns-clause-answers : goal.returns-clause-answers
returns-clause-answers g c =
    let told = c.ftmb-status.ensures in
    let there : Answers {W = g.row.W.Denot} g.W.World.honest g.W.World.shows g.W.World.ledger g.W.World.healthy
    (g.C.Clock.may c.args.clock.now) c.args.words.now c.ftmb-status.result c.args.world.world
    c.ftmb-status.new.world.world = record {
      bad_words = told.bad_words;
      nothing_asked = λ bad. ap (λ t. t.world) (told.nothing_asked bad);
      answers = answers_within (λ t. t.world) g.W.World.honest g.W.World.shows g.W.World.ledger g.W.World.healthy
          c.args.world c.ftmb-status.new.world (g.C.Clock.may c.args.clock.now) c.args.words.now c.ftmb-status.result
          told.answers;
      given = told.given;
    } in
    subst (λ (w : g.row.W.Denot). Answers {W = g.row.W.Denot} g.W.World.honest g.W.World.shows g.W.World.ledger
    g.W.World.healthy (g.C.Clock.may c.args.clock.now) c.args.words.now c.ftmb-status.result c.args.world.world w)
    (sym c.part.ensures.world) there
