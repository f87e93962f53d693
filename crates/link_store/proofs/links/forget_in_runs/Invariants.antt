use Rattle.link_store.specs.Links.{IsUpTo}
use Rattle.link_store.specs.Runs.{ForgetsIn}
use Rattle.link_store.proofs.AllLemmas.{IsFirst}
use Rattle.link_store.proofs.links.forget_in_runs.Given as goal

abbrev pub invariant-loop-i : goal.invariant-loop-i
invariant-loop-i l = IsFirst (ForgetsIn (IsUpTo l.last)) l.initial.runs.items l.runs.items l.i
