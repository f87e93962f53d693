-- Where the counts of a table's flows stand.
use Rattle.monitor_box.specs.declared.table.Counts.{Counts}
use Rattle.monitor_box.specs.declared.table.Counts.TheVariants.{Indexed, Copied}
use Rattle.monitor_box.specs.Flows.{Flows}

-- the flows with their counts, in their order
abbrev pub held : Counts → Flows
held (Indexed counts) = counts.entries
held (Copied copied) = copied
