use Rattle.packet_headers.specs.Rewriting.{CanRewrite}
use Rattle.bench.proofs.headers.rewrite_often.Given as goal

abbrev pub invariant-loop-turn : goal.invariant-loop-turn
invariant-loop-turn l = CanRewrite l.frame l.flow
