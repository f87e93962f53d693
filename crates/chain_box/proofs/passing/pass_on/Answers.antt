use Rattle.std.proofs.Common.{sym, subst, take, arith}
use Rattle.system_parts.specs.Performing.{packets_in}
use Rattle.chain_box.specs.Chains.{PassesOn}
use Rattle.chain_box.proofs.PassingLemmas.{passes_next, passes_one, short_at, one_more}
use Rattle.chain_box.proofs.passing.pass_on.Goals as goal

pub append-requires-clause-short : goal.append-requires-clause-short
append-requires-clause-short g c κs within =
    short_at c.args.outputs.now c.loop-output.output-index c.output-item.result c.in_ok-copy_packet.field-0
    c.requires.short (omega arith) c.output-item.is c.in_ok-copy_packet.ensures

pub loop-output-preserved : goal.loop-output-preserved
loop-output-preserved g c =
    let m = g.Q.Program.meaning in
    let p = c.in_ok-copy_packet.field-0 in
    subst (λ l. PassesOn (m c.args.system.now.parts.program) l c.args.system.now c.append.new.self)
    (sym (one_more c.args.outputs.now c.loop-output.output-index c.output-item.result p (omega arith) c.output-item.is
    c.in_ok-copy_packet.ensures))
    (passes_next m (packets_in (take c.loop-output.output-index c.args.outputs.now)) p c.args.system.now
    c.loop-output.system c.append.new.self c.loop-output.invariant
    (passes_one (m c.loop-output.system.parts.program) p c.loop-output.system c.append.new.self
    c.loop-output.invariant.runs c.in_ok-append.ensures.ok c.in_ok-append.ensures.stands))
