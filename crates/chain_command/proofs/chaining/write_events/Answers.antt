use Rattle.std.proofs.Common.{◌≡◌, rules, Err}
use Rattle.output_files.proofs.OnlyWriting.{OnlyWrites-files, WritesFiles-trans, WritesFiles-failed}
use Rattle.run_writes.specs.Errors.{run_error_of}
use Rattle.run_writes.proofs.OpeningSteps.{writable_still}
use Rattle.chain_command.specs.Outputs.{names_of}
use Rattle.chain_command.proofs.Steps.{fault_opened, still_open}
use Rattle.chain_command.proofs.WholeChain.{not_opened, opens, same_error}
use Rattle.chain_command.proofs.chaining.write_events.Goals as goal

pub returns-in_err-outputs-clause-cause : goal.returns-in_err-outputs-clause-cause
returns-in_err-outputs-clause-cause g c fault =
    let made : c.from_residual.result ≡ Err (run_error_of c.in_err-outputs.field-0.0) = search rules in
    let was : c.open_chain.result ≡ Err c.in_err-outputs.field-0.0 = search rules in
    c.open_chain.ensures.cause (fault_opened _ _ c.in_err-outputs.field-0.0 made was fault)

pub returns-in_err-perform_events-clause-cause : goal.returns-in_err-perform_events-clause-cause
returns-in_err-perform_events-clause-cause g c fault =
    let made : c.from_residual-in_err-perform_events.result ≡ Err c.in_err-perform_events.field-0.0 = search rules in
    WritesFiles-failed _ _ 4 _ _ _ c.in_ok-outputs.ensures.writes_files (c.perform_events.ensures.cause (search rules))

pub returns-in_err-perform_events-clause-writes_files : goal.returns-in_err-perform_events-clause-writes_files
returns-in_err-perform_events-clause-writes_files g c =
    WritesFiles-trans _ _ 4 0 _ _ _ c.in_ok-outputs.ensures.writes_files
    (OnlyWrites-files _ _ 0 _ _ c.in_err-perform_events.ensures.only_writes)

pub returns-clause-first : goal.returns-clause-first
returns-clause-first g c =
    writable_still _ _ _ c.in_ok-outputs.ensures.writable.2 c.in_ok-perform_events.ensures.only_writes.ledger

pub returns-clause-second : goal.returns-clause-second
returns-clause-second g c =
    writable_still _ _ _ c.in_ok-outputs.ensures.writable.3 c.in_ok-perform_events.ensures.only_writes.ledger

pub returns-clause-writes_files : goal.returns-clause-writes_files
returns-clause-writes_files g c =
    WritesFiles-trans _ _ 4 0 _ _ _ c.in_ok-outputs.ensures.writes_files
    (OnlyWrites-files _ _ 0 _ _ c.in_ok-perform_events.ensures.only_writes)

pub returns-in_err-outputs-clause-shows : goal.returns-in_err-outputs-clause-shows
returns-in_err-outputs-clause-shows g c p h s r unit at =
    let made : c.from_residual.result ≡ Err (run_error_of c.in_err-outputs.field-0.0) = search rules in
    not_opened _ c.in_err-outputs.field-0.0 g.P.Program.meaning g.Q.Program.meaning s r _ _ _ _ _ _ _ made unit
    (c.in_err-outputs.ensures.shows p h)

pub returns-in_err-perform_events-clause-shows : goal.returns-in_err-perform_events-clause-shows
returns-in_err-perform_events-clause-shows g c p h s r unit at =
    let h0 = c.in_err-perform_events.ensures.before p h in
    let names = names_of c.args.files in
    let made : c.from_residual-in_err-perform_events.result ≡ Err c.in_err-perform_events.field-0.0 = search rules in
    let first =
    opens g.P.Program.meaning g.Q.Program.meaning s r names c.args.chain.now _ _ _ _ c.requires.none at unit
    (c.in_ok-outputs.ensures.shows p h0) in
    same_error _ c.in_err-perform_events.field-0.0 g.P.Program.meaning g.Q.Program.meaning s r names _ _ _ _ _ made
    (c.in_err-perform_events.ensures.shows p h s r names _ (c.in_ok-outputs.ensures.open p h0) first)

pub returns-clause-shows : goal.returns-clause-shows
returns-clause-shows g c p h s r unit at =
    let h0 = c.in_ok-perform_events.ensures.before p h in
    let names = names_of c.args.files in
    let first =
    opens g.P.Program.meaning g.Q.Program.meaning s r names c.args.chain.now _ _ _ _ c.requires.none at unit
    (c.in_ok-outputs.ensures.shows p h0) in
    c.in_ok-perform_events.ensures.shows p h s r names _ (c.in_ok-outputs.ensures.open p h0) first

pub returns-clause-open : goal.returns-clause-open
returns-clause-open g c p h =
    still_open (names_of c.args.files) _ _ _ (c.in_ok-perform_events.ensures.keeps p h)
    (c.in_ok-outputs.ensures.open p (c.in_ok-perform_events.ensures.before p h))
