use Rattle.run_command.proofs.Going.{performed_goes, somewhere_again, on_ended}
use Rattle.run_command.proofs.running.perform_event.Goals as goal

pub write_performed-requires-clause-short : goal.write_performed-requires-clause-short
write_performed-requires-clause-short g c =
    let here = c.requires.somewhere in
    c.perform-performed.ensures.short here.0 here.1 here.2 here.3

pub returns-clause-runs : goal.returns-clause-runs
returns-clause-runs g c = on_ended _ _ _ c.write_performed.ensures.ended c.perform-performed.ensures.goes_on

pub returns-clause-program : goal.returns-clause-program
returns-clause-program g c = on_ended _ _ _ c.write_performed.ensures.ended c.perform-performed.ensures.program

pub returns-clause-somewhere : goal.returns-clause-somewhere
returns-clause-somewhere g c =
    somewhere_again _ (g.P.Program.meaning c.args.system.now.parts.program) c.args.event.now _ _ c.args.system.now
    c.perform-performed.new.system c.write_performed.ensures.ended c.perform-performed.ensures.comes
    c.requires.somewhere

pub returns-clause-shows : goal.returns-clause-shows
returns-clause-shows g c p h s from names events before is come =
    performed_goes (g.P.Program.meaning c.args.system.now.parts.program) s from names events c.args.system.now
    c.args.lines.now before _ come c.args.event.now _ _ _ c.perform-performed.new.system _ _
    c.perform-performed.ensures.comes (c.write_performed.ensures.shows p h before _ names.released is come.gathered)
