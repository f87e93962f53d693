use Rattle.std.proofs.Common.{◌≡◌, sym, ◌∙◌, rules, Err}
use Rattle.run_writes.specs.Errors.{run_error_of}
use Rattle.hand_command.specs.Errors.{hand_error_of}
use Rattle.hand_command.proofs.HandSteps.{lines_begun, unready_goes}
use Rattle.hand_command.proofs.HandEnds.{fault_handed, fault_lines}
use Rattle.hand_command.proofs.handing.end_hand.Goals as goal

pub returns-in-Ok-clause-cause : goal.returns-in-Ok-clause-cause
returns-in-Ok-clause-cause g c fault =
    c.hand_ready.ensures.cause (fault_handed c.hand_ready.result (sym c.handed.ensures ∙ fault))

pub returns-in-Ok-clause-shows : goal.returns-in-Ok-clause-shows
returns-in-Ok-clause-shows g c p h s seal are names events before released schedule come =
    rw c.handed.ensures (c.hand_ready.ensures.shows p h s seal are names events before released schedule come
    (c.in-Ok.ensures s come.world come.at.stands.parts))

pub returns-in_err-write_lines-in-Err-clause-cause : goal.returns-in_err-write_lines-in-Err-clause-cause
returns-in_err-write_lines-in-Err-clause-cause g c fault =
    let e = c.in_err-write_lines-in-Err.field-0.0 in
    let made : c.from_residual.result ≡ Err (hand_error_of (run_error_of e)) = search rules in
    let was : c.write_lines.result ≡ Err e = search rules in
    c.write_lines.ensures.cause (fault_lines _ _ e made was fault)

pub returns-in_err-write_lines-in-Err-clause-shows : goal.returns-in_err-write_lines-in-Err-clause-shows
returns-in_err-write_lines-in-Err-clause-shows g c p h s seal are names events before released schedule come =
    let e = c.in_err-write_lines-in-Err.field-0.0 in
    let made : c.from_residual.result ≡ Err (hand_error_of (run_error_of e)) = search rules in
    rw made (lines_begun seal (g.P.Program.meaning c.args.system.now.parts.program) s names events c.args.system.now
    c.args.lines.now before _ come e _ (c.in_err-write_lines-in-Err.ensures.shows p h before _ come.gathered))

pub returns-in_ok-write_lines-in-Err-clause-shows : goal.returns-in_ok-write_lines-in-Err-clause-shows
returns-in_ok-write_lines-in-Err-clause-shows g c p h s seal are names events before released schedule come =
    unready_goes seal (g.P.Program.meaning c.args.system.now.parts.program) s names events c.args.system.now
    c.args.lines.now before _ come c.in-Err.unready _ (c.in-Err.ensures s come.world come.at.stands.parts)
    (c.in_ok-write_lines-in-Err.ensures.shows p h before _ come.gathered)
