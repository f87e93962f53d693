use Rattle.std.proofs.Common.{◌≡◌, rules, Err}
use Rattle.output_files.proofs.OnlyWriting.{OnlyWrites-files, WritesFiles-trans, WritesFiles-failed}
use Rattle.run_writes.specs.Errors.{run_error_of}
use Rattle.run_writes.specs.Run.{names_of}
use Rattle.run_writes.proofs.OpeningSteps.{writable_still}
use Rattle.run_command.proofs.WholeRun.{fault_opened, not_opened, opens, same_error}
use Rattle.run_command.proofs.run.write_events.Goals as goal

pub returns-in_err-outputs-clause-cause : goal.returns-in_err-outputs-clause-cause
returns-in_err-outputs-clause-cause g c fault =
    let made : c.from_residual.result ≡ Err (run_error_of c.in_err-outputs.field-0.0) = search rules in
    let was : c.open_outputs.result ≡ Err c.in_err-outputs.field-0.0 = search rules in
    c.open_outputs.ensures.cause (fault_opened _ _ c.in_err-outputs.field-0.0 made was fault)

pub returns-in_err-perform_events-clause-cause : goal.returns-in_err-perform_events-clause-cause
returns-in_err-perform_events-clause-cause g c fault =
    let made : c.from_residual-in_err-perform_events.result ≡ Err c.in_err-perform_events.field-0.0 = search rules in
    WritesFiles-failed _ _ 2 _ _ _ c.in_ok-outputs.ensures.writes_files (c.perform_events.ensures.cause (search rules))

pub returns-in_err-perform_events-clause-writes_files : goal.returns-in_err-perform_events-clause-writes_files
returns-in_err-perform_events-clause-writes_files g c =
    WritesFiles-trans _ _ 2 0 _ _ _ c.in_ok-outputs.ensures.writes_files
    (OnlyWrites-files _ _ 0 _ _ c.in_err-perform_events.ensures.only_writes)

pub returns-clause-writable : goal.returns-clause-writable
returns-clause-writable g c = (
  writable_still _ _ _ c.in_ok-outputs.ensures.writable.0 c.in_ok-perform_events.ensures.only_writes.ledger,
  writable_still _ _ _ c.in_ok-outputs.ensures.writable.1 c.in_ok-perform_events.ensures.only_writes.ledger,
)

pub returns-clause-writes_files : goal.returns-clause-writes_files
returns-clause-writes_files g c =
    WritesFiles-trans _ _ 2 0 _ _ _ c.in_ok-outputs.ensures.writes_files
    (OnlyWrites-files _ _ 0 _ _ c.in_ok-perform_events.ensures.only_writes)

pub returns-in_err-outputs-clause-shows : goal.returns-in_err-outputs-clause-shows
returns-in_err-outputs-clause-shows g c p h s w unit at =
    let made : c.from_residual.result ≡ Err (run_error_of c.in_err-outputs.field-0.0) = search rules in
    not_opened _ c.in_err-outputs.field-0.0 _ s w _ _ _ _ _ _ _ made unit (c.in_err-outputs.ensures.shows p h)

pub returns-in_err-perform_events-clause-shows : goal.returns-in_err-perform_events-clause-shows
returns-in_err-perform_events-clause-shows g c p h s w unit at =
    let h0 = c.in_err-perform_events.ensures.before p h in
    let names = names_of c.args.files in
    let made : c.from_residual-in_err-perform_events.result ≡ Err c.in_err-perform_events.field-0.0 = search rules in
    let first =
    opens _ s w names c.args.system.now _ _ _ _ c.requires.none at unit (c.in_ok-outputs.ensures.shows p h0) in
    same_error _ c.in_err-perform_events.field-0.0 _ s _ names _ _ _ _ _ made
    (c.in_err-perform_events.ensures.shows p h s _ names _ (c.in_ok-outputs.ensures.released p h0) first)

pub returns-clause-shows : goal.returns-clause-shows
returns-clause-shows g c p h s w unit at =
    let h0 = c.in_ok-perform_events.ensures.before p h in
    let names = names_of c.args.files in
    let first =
    opens _ s w names c.args.system.now _ _ _ _ c.requires.none at unit (c.in_ok-outputs.ensures.shows p h0) in
    c.in_ok-perform_events.ensures.shows p h s _ names _ (c.in_ok-outputs.ensures.released p h0) first

pub returns-clause-released : goal.returns-clause-released
returns-clause-released g c p h =
    c.in_ok-perform_events.ensures.keeps p h _ _
    (c.in_ok-outputs.ensures.released p (c.in_ok-perform_events.ensures.before p h))

pub returns-clause-schedule : goal.returns-clause-schedule
returns-clause-schedule g c p h =
    c.in_ok-perform_events.ensures.keeps p h _ _
    (c.in_ok-outputs.ensures.schedule p (c.in_ok-perform_events.ensures.before p h))
