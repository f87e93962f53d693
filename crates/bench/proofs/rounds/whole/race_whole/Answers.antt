use Rattle.std.proofs.Common.{length, ap, sym, ◌∙◌}
use Rattle.bench.proofs.Opening.{threads_of, opened_somewhere, generators_count}
use Rattle.bench.proofs.rounds.whole.race_whole.Goals as goal

pub race_often-requires-clause-of : goal.race_often-requires-clause-of
race_often-requires-clause-of g c κs within = (
  opened_somewhere g.P.Program.meaning c.args.program _ _ _ c.in_ok-system.ensures.program
      c.in_ok-system.ensures.stands,
  ap length c.in_ok-draws.ensures ∙ generators_count _ _ _
      ∙ sym (threads_of _ _ _ _ c.in_ok-system.ensures.stands),
)
