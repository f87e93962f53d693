use Rattle.std.proofs.Common.{◌≡◌, rules, Err}
use Rattle.run_writes.specs.declared.error.RunError.TheVariants as run
use Rattle.chain_command.proofs.Going.{performed_goes, somewhere_again, memory_out, on_ended}
use Rattle.chain_command.proofs.running.perform_event.Goals as goal

pub write_performed-requires-clause-short_middle : goal.write_performed-requires-clause-short_middle
write_performed-requires-clause-short_middle g c = (c.in_ok-performed.ensures.short c.requires.somewhere).0

pub write_performed-requires-clause-short_released : goal.write_performed-requires-clause-short_released
write_performed-requires-clause-short_released g c = (c.in_ok-performed.ensures.short c.requires.somewhere).1

pub returns-in_err-performed-clause-shows : goal.returns-in_err-performed-clause-shows
returns-in_err-performed-clause-shows g c p h s r names events before are come =
    let made : c.from_residual.result ≡ Err run.NoMemory = search rules in
    memory_out g.P.Program.meaning g.Q.Program.meaning s r names events c.args.chain.now c.args.lines.now before _ come
    _ c.args.event.now _ _ made

pub returns-clause-runs : goal.returns-clause-runs
returns-clause-runs g c = on_ended _ _ _ c.write_performed.ensures.ended c.in_ok-performed.ensures.goes_on

pub returns-clause-somewhere : goal.returns-clause-somewhere
returns-clause-somewhere g c =
    somewhere_again _ g.P.Program.meaning g.Q.Program.meaning c.args.event.now _ _ _ c.args.chain.now
    c.perform.new.chain c.write_performed.ensures.ended c.in_ok-performed.ensures.comes c.requires.somewhere

pub returns-clause-shows : goal.returns-clause-shows
returns-clause-shows g c p h s r names events before are come =
    performed_goes g.P.Program.meaning g.Q.Program.meaning s r names events c.args.chain.now c.args.lines.now before _
    come c.args.event.now _ _ _ _ c.perform.new.chain _ _ c.in_ok-performed.ensures.comes
    (c.write_performed.ensures.shows p h before _ names are come.gathered)
