use Rattle.std.proofs.Common.{subst, sym}
use Rattle.plain_text.specs.declared.packet.Packet.{Packet}
use Rattle.monitor_box.specs.Monitor.{monitor_meaning}
use Rattle.box_runs.specs.Outputs.{IsInput}
use Rattle.box_runs.specs.Unchanged.{PacketsLeaveUnchanged}
use Rattle.box_runs.proofs.MadeMoves.{sends_input}
use Rattle.box_runs.proofs.OnceEach.{sends_once}
use Rattle.box_runs.proofs.BoxMoves.{monitor_went, monitor_sends}
use Rattle.box_runs.proofs.laws.packets_leave_unchanged_once.Goals as goal

unchanged : PacketsLeaveUnchanged
unchanged tables threads inputs x earlier o h sent =
    let s = sends_input (monitor_meaning tables) threads inputs x earlier o h sent in
    subst (λ (p : Packet). IsInput inputs x.thread o.input p) (sym s.3) s.4

pub returns-clause-unchanged : goal.returns-clause-unchanged
returns-clause-unchanged c = unchanged

pub returns-clause-once : goal.returns-clause-once
returns-clause-once c = λ tables. sends_once (monitor_meaning tables) monitor_went (monitor_sends tables)
