use Rattle.std.proofs.Common.{◌≡◌, ap, sym, rules, Err}
use Rattle.output_files.proofs.OnlyWriting.{OnlyWrites-files, WritesFiles-trans, WritesFiles-failed}
use Rattle.run_writes.specs.declared.opening.OutputFiles.{OutputFiles}
use Rattle.run_command.proofs.Going.{come_same, somewhere_same}
use Rattle.hand_command.specs.Errors.{hand_error_of}
use Rattle.hand_command.specs.Hand as hand
use Rattle.hand_command.proofs.HandEnds.{fault_made, hand_failed}
use Rattle.hand_command.proofs.hand.hand_over.Goals as goal

pub end_hand-requires-clause-somewhere : goal.end_hand-requires-clause-somewhere
end_hand-requires-clause-somewhere g c κs within =
    somewhere_same _ _ c.write_events.new.system
    (ap g.P.Program.meaning (sym c.in_ok-outputs.ensures.program)) c.in_ok-outputs.ensures.somewhere

pub returns-in_err-outputs-clause-cause : goal.returns-in_err-outputs-clause-cause
returns-in_err-outputs-clause-cause g c fault =
    let made : c.from_residual.result ≡ Err (hand_error_of c.in_err-outputs.field-0.0) = search rules in
    let was : c.write_events.result ≡ Err c.in_err-outputs.field-0.0 = search rules in
    c.write_events.ensures.cause (fault_made _ _ c.in_err-outputs.field-0.0 made was fault)

pub returns-in_err-outputs-clause-shows : goal.returns-in_err-outputs-clause-shows
returns-in_err-outputs-clause-shows g c p h s seal are unit at =
    let made : c.from_residual.result ≡ Err (hand_error_of c.in_err-outputs.field-0.0) = search rules in
    hand_failed seal OutputFiles _ c.in_err-outputs.field-0.0 _ s (hand.names_of c.args.files) c.args.events.now _ _ _ _
    made (c.in_err-outputs.ensures.shows p h s _ unit at)

pub returns-clause-writes_files : goal.returns-clause-writes_files
returns-clause-writes_files g c =
    WritesFiles-trans _ _ 2 0 _ _ _ c.in_ok-outputs.ensures.writes_files
    (OnlyWrites-files _ _ 0 _ _ c.end_hand.ensures.only_writes)

pub returns-clause-cause : goal.returns-clause-cause
returns-clause-cause g c fault =
    WritesFiles-failed _ _ 2 _ _ _ c.in_ok-outputs.ensures.writes_files (c.end_hand.ensures.cause fault)

pub returns-clause-shows : goal.returns-clause-shows
returns-clause-shows g c p h s seal are unit at =
    let h0 = c.end_hand.ensures.before p h in
    let names = hand.names_of c.args.files in
    c.end_hand.ensures.shows p h s seal are names c.args.events.now _ (c.in_ok-outputs.ensures.released p h0)
    (c.in_ok-outputs.ensures.schedule p h0)
    (come_same _ _ s _ names c.args.events.now _ _ _ _
    (ap g.P.Program.meaning (sym c.in_ok-outputs.ensures.program)) (c.in_ok-outputs.ensures.shows p h0 s _ unit at))

pub returns-clause-before : goal.returns-clause-before
returns-clause-before g c p h = c.in_ok-outputs.ensures.before p (c.end_hand.ensures.before p h)
