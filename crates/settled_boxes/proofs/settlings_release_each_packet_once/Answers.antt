use Rattle.box_program.specs.Count.{count_meaning}
use Rattle.monitor_box.specs.Monitor.{monitor_meaning}
use Rattle.tagged_box.specs.Tagged.{tagged_meaning}
use Rattle.settled_boxes.specs.EachOnce.{IsNumbered, IsUnchanged, SentBehind}
use Rattle.settled_boxes.proofs.BoxMoves.{count_went, count_once, monitor_went, monitor_once}
use Rattle.settled_boxes.proofs.Releases.{script_releases}
use Rattle.settled_boxes.proofs.BehindTags.{tagged_count_once, tagged_monitor_once}
use Rattle.settled_boxes.proofs.CaptureCounts.{script_counts, script_counts_behind}
use Rattle.settled_boxes.proofs.settlings_release_each_packet_once.Goals as goal

pub returns-clause-count : goal.returns-clause-count
returns-clause-count c = script_releases count_meaning IsNumbered count_went count_once

pub returns-clause-monitor : goal.returns-clause-monitor
returns-clause-monitor c =
    λ tables. script_releases (monitor_meaning tables) IsUnchanged monitor_went (monitor_once tables)

pub returns-clause-counts : goal.returns-clause-counts
returns-clause-counts c = script_counts

pub returns-clause-tagged_count : goal.returns-clause-tagged_count
returns-clause-tagged_count c =
    λ s. script_releases (tagged_meaning s.tags count_meaning) (SentBehind s.tags IsNumbered) count_went
    (tagged_count_once s.tags) s

pub returns-clause-tagged_monitor : goal.returns-clause-tagged_monitor
returns-clause-tagged_monitor c =
    λ tables s. script_releases (tagged_meaning s.tags (monitor_meaning tables)) IsUnchanged monitor_went
    (tagged_monitor_once s.tags tables) s

pub returns-clause-tagged_counts : goal.returns-clause-tagged_counts
returns-clause-tagged_counts c = script_counts_behind
