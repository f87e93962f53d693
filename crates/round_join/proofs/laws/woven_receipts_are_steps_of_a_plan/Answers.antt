use Rattle.round_join.proofs.WovenLemmas.{after_steps, are_woven}
use Rattle.round_join.proofs.laws.woven_receipts_are_steps_of_a_plan.Goals as goal

pub returns : goal.returns
returns g c = record {
  woven = λ m inputs threads moves past rs order few played linked w.
      (after_steps order past, are_woven m inputs threads moves past rs order few played linked w);
}
