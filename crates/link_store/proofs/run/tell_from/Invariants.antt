use Rattle.link_store.specs.Rows.{forms_of}
use Rattle.link_store.proofs.ToldLemmas.{ToldSoFar}
use Rattle.link_store.proofs.run.tell_from.Given as goal

-- those before this one are kept as outputs
abbrev pub invariant-loop-i : goal.invariant-loop-i
invariant-loop-i l = ToldSoFar (forms_of l.initial.frames) (forms_of l.frames) l.i
