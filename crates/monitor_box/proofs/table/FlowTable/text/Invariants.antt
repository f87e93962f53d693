use Rattle.std.proofs.Common.{◌≡◌, ◌++◌, drop}
use Rattle.std.specs.String.{string_bytes}
use Rattle.monitor_box.specs.Shown.{further_text, flows_text}
use Rattle.monitor_box.proofs.table.FlowTable.text.Given as goal

-- the text so far, and that of the flows that are left, are the whole
abbrev pub invariant-loop-at : goal.invariant-loop-at
invariant-loop-at l = string_bytes l.text ++ further_text (drop l.at l.fn.self) ≡ flows_text l.fn.self
