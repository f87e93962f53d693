use Rattle.wire_frames.proofs.Whole.{no_fault, some_frame}
use Rattle.wire_frames.proofs.laws.the_tests_are_those_of_frames.Goals as goal

pub returns-clause-none : goal.returns-clause-none
returns-clause-none c = no_fault

pub returns-clause-frame : goal.returns-clause-frame
returns-clause-frame c = some_frame
