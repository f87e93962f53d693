use Rattle.std.proofs.Common.{refl}
use Rattle.schedule_check.proofs.AsLong.{emitted_short}
use Rattle.schedule_check.proofs.emitting.emit.Goals as goal

pub returns-clause-as_long : goal.returns-clause-as_long
returns-clause-as_long g c = λ most few.
    emitted_short (g.P.Program.meaning c.args.program.now) (g.P.Program.fits c.args.program.now)
    (g.met.P.Program.lawful c.args.program.now) c.args.inputs.now most few c.args.schedule.now _ refl
    c.in_ok-played.played c.in_ok-packets.packets c.in_ok-played.ensures c.in_ok-packets.ensures
