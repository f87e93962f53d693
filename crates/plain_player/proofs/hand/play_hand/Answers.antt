use Rattle.std.proofs.Common.{rules, length, ap, refl, ◌∙◌}
use Rattle.plain_player.proofs.hand.play_hand.Goals as goal

pub returns-in_ok-sent-in-Emit-None-clause-as_long : goal.returns-in_ok-sent-in-Emit-None-clause-as_long
returns-in_ok-sent-in-Emit-None-clause-as_long g c =
    let packet = c.args.packet.now in
    let sent = c.in_ok-sent-in-Emit-None.ensures packet (search rules) refl in
    ap length sent ∙ (g.met.P.Program.lawful c.args.program.now).as_long packet c.args.local (search rules)
