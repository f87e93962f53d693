use Rattle.std.proofs.Common.{rules, refl, arith, sym}
use Rattle.std.proofs.lemmas.Grind.{common_steps}
use Rattle.plain_machine.specs.History.{value_after, thread_after}
use Rattle.plain_player.proofs.HandMoves.{hand_follows, hand_fails}
use Rattle.plain_player.proofs.player.Player.step.Goals as goal

pub returns-in_err-made-in-Some-clause-follows : goal.returns-in_err-made-in-Some-clause-follows
returns-in_err-made-in-Some-clause-follows g c inputs threads steps is given =
    let m = g.P.Program.meaning c.args.program.now in
    let stands = rw (← c.self.view_is) at is in
    hand_fails m inputs threads steps c.args.plain _ _ c.unwrap-packet.result.now c.in-Some.local _
    c.play_hand.new.values.items c.index-seat.result.now c.in_err-made-in-Some.field-0.0 _ stands (omega arith)
    (search rules) (search rules) (search rules) given
    (c.in_err-made-in-Some.ensures.plays (value_after m steps) (thread_after steps c.args.plain.thread).taken
    stands.values) (search rules)

pub returns-in_ok-made-in-Some-clause-follows : goal.returns-in_ok-made-in-Some-clause-follows
returns-in_ok-made-in-Some-clause-follows g c inputs threads steps is given =
    let m = g.P.Program.meaning c.args.program.now in
    let stands = rw (← c.self.view_is) at is in
    let follows = hand_follows m inputs threads steps c.args.plain _ c.unwrap-packet.result.now c.in-Some.local _
    c.in_ok-made-in-Some.made c.play_hand.new.values.items c.index-seat.result.now stands (omega arith) (search rules)
    (search rules) (search rules) (search rules) given
    (c.in_ok-made-in-Some.ensures.plays (value_after m steps) (thread_after steps c.args.plain.thread).taken
    stands.values) in
    search (rules, follows)
