use Rattle.std.proofs.Common.{◌≡◌, ◌≤◌, ℕ, length, Some}
use Rattle.input_logger.specs.Inputs.{inputs_of}
use Rattle.live_workers.specs.Working.{Given, GoesOn, HasCome, MayGoOn}
use Rattle.live_workers.proofs.working.run.Given as goal

-- so many moves were made, no more than may be, and the worker may go on
abbrev pub invariant-loop-made : goal.invariant-loop-made
invariant-loop-made g l = record {
  count : length l.working.moves ≡ l.made;
  goes : GoesOn {V = g.row.P-Value.Denot} l.fn.working l.working;
  come : (given : Given g.row.P-Value.Denot)
      → HasCome (g.P.Program.meaning l.around.program.now) g.J.Round.guide (inputs_of l.around.inputs.now)
      (g.C.Clock.may l.around.clock.now) given l.fn.working
      → HasCome (g.P.Program.meaning l.around.program.now) g.J.Round.guide (inputs_of l.around.inputs.now)
      (g.C.Clock.may l.around.clock.now) given l.working;
  may : MayGoOn {V = g.row.P-Value.Denot} (inputs_of l.around.inputs.now) l.most l.working;
  few : (n : ℕ) → l.limit ≡ Some n → l.made ≤ n;
}
