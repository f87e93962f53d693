use Rattle.std.proofs.Common.{◌≡◌, ◌≤◌, arith}
use Rattle.entry_order.specs.Log.{entries}
use Rattle.plain_machine.specs.History.{log_of}
use Rattle.plain_machine.proofs.Histories.{history_log, earlier_log}
use Rattle.access_log.specs.Held.{lane}
use Rattle.master_core.proofs.Holdings.{covering_holds, covers_each, covering_keeps}
use Rattle.master_core.proofs.Moments.{moment_log, moment_entries, none_past_threads}
use Rattle.master_core.proofs.laws.covering_a_later_moment.Goals as goal

pub returns-clause-holds : goal.returns-clause-holds
returns-clause-holds g c = covering_holds

pub returns-clause-each_lane : goal.returns-clause-each_lane
returns-clause-each_lane g c = λ m inputs threads later held new counts h many same are covers.
    covers_each (log_of later) held new counts same
    (λ t past. none_past_threads m inputs threads later t h (omega arith)) are covers

pub returns-clause-rising : goal.returns-clause-rising
returns-clause-rising g c = λ log later earlier held t before holds.
    let covered : (lane held t).covered ≡ entries t (log_of earlier) = holds.covered t in
    let more : entries t (log_of earlier) ≤ entries t (log_of later) = moment_entries t later earlier before in
    omega arith

pub returns-clause-still_held : goal.returns-clause-still_held
returns-clause-still_held g c = λ m inputs threads steps later stored held new e h after holds covers.
    covering_keeps (log_of steps) stored (log_of later) held new e (history_log m inputs threads steps h)
    (moment_log m inputs threads steps later h after) (λ f here. earlier_log later steps f after here) holds covers
