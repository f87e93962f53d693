use Rattle.run_end.proofs.Endings.{leads_from, sends_from, ends_from}
use Rattle.run_end.proofs.ending.finish_run.Goals as goal

pub follow-requires-clause-led : goal.follow-requires-clause-led
follow-requires-clause-led g c = λ κs within. leads_from (g.P.Program.meaning c.args.program.now) c.args.inputs.now
    c.args.master c.args.schedule c.args.order.now c.args.numbers.now c.requires.end

pub send_all-requires-clause-sends : goal.send_all-requires-clause-sends
send_all-requires-clause-sends g c = λ κs within.
    sends_from (g.P.Program.meaning c.args.program.now) c.args.inputs.now c.args.master c.args.schedule c.args.order.now
    c.args.numbers.now c.follow.new.self.master c.follow.new.self.schedule c.requires.end c.in_ok-follow.ensures.plays

pub returns : goal.returns
returns g c =
    ends_from (g.P.Program.meaning c.args.program.now) c.args.inputs.now c.args.master c.args.schedule c.args.order.now
    c.args.numbers.now c.follow.new.self.master c.follow.new.self.schedule c.send_all.new.self.master
    c.send_all.new.self.schedule c.in_ok-follow.ensures.plays c.in_ok-send_all.ensures.plays
