use Rattle.std.proofs.Common.{take}
use Rattle.system_parts.specs.Performing.{packets_in}
use Rattle.chain_box.specs.Chains.{PassesOn}
use Rattle.chain_box.proofs.passing.pass_on.Given as goal

-- the packets of the outputs so far were put behind the capture
abbrev pub invariant-loop-output : goal.invariant-loop-output
invariant-loop-output g l =
    PassesOn (g.Q.Program.meaning l.fn.system.parts.program) (packets_in (take l.output-index l.outputs)) l.fn.system
    l.system
