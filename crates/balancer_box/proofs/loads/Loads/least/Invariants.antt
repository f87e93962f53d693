use Rattle.std.proofs.Common.{◌≡◌, ◌≤◌, drop}
use Rattle.std.specs.Prelude.{slice_index}
use Rattle.balancer_box.specs.Loads.{least_from, least_loaded}
use Rattle.balancer_box.proofs.loads.Loads.least.Given as goal

-- the least so far is at most this far, and what is left leads on from it to the least of all
abbrev pub invariant-loop-backend : goal.invariant-loop-backend
invariant-loop-backend l = record {
  here : l.least ≤ l.backend;
  rest : least_loaded l.fn.self
      ≡ least_from l.least (slice_index l.fn.self l.least) l.backend (drop l.backend l.fn.self);
}
