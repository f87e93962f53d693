use Rattle.box_program.specs.Count.{IsCounter}
use Rattle.test_logs.specs.Pinned.{pinned_meaning}
use Rattle.test_logs.specs.Scene.{HasMaster}
use Rattle.test_logs.proofs.snapshots.pass.Given as goal

abbrev pub invariant-loop : goal.invariant-loop
invariant-loop l = HasMaster pinned_meaning (λ _ n. IsCounter n) l.master
