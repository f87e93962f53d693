use Rattle.std.proofs.Common.{ap, inr, inl, Ok}
use Rattle.held_steps.proofs.holding.note_held.Goals as goal

pub returns-in_ok-hold_made-in-Did-clause-notes : goal.returns-in_ok-hold_made-in-Did-clause-notes
returns-in_ok-hold_made-in-Did-clause-notes g c = inr (inl (record {
  e = c.in-Did.entry;
  did = c.in-Did.is;
  result_is = ap Ok c.entry_outcome-outcome.ensures;
  noted = c.note_move.new.core;
  notes = c.in_ok-note_move-in-Did.ensures.noted;
  holds = c.in_ok-hold_made-in-Did.ensures.ok;
}))
