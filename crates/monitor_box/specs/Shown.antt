-- The texts that show the totals and the tables of flows to an operator.
use Rattle.std.specs.Prelude.{ℕ, List, [], ◌∷◌, ◌++◌, codes, decimal}
use Rattle.flow_text.specs.Texts.{protocol_text, endpoint_text}
use Rattle.monitor_box.specs.declared.counts.Totals.{Totals}
use Rattle.monitor_box.specs.declared.counts.FlowKey.{FlowKey}
use Rattle.monitor_box.specs.declared.counts.FlowCount.{FlowCount}
use Rattle.monitor_box.specs.Flows.{Flows}

abbrev pub totals_text : Totals → List ℕ
totals_text t =
    codes "packets " ++ decimal t.packets ++ codes " bytes " ++ decimal t.bytes ++ codes " other " ++ decimal t.other

-- one flow with its counts
abbrev pub flow_text : FlowKey × FlowCount → List ℕ
flow_text (flow, count) =
    protocol_text flow.protocol ++ codes " " ++ endpoint_text flow.source flow.source_port ++ codes " "
    ++ endpoint_text flow.dest flow.dest_port ++ codes " packets " ++ decimal count.packets ++ codes " bytes "
    ++ decimal count.bytes

-- flows that stand behind others
abbrev pub further_text : Flows → List ℕ
further_text [] = []
further_text (e ∷ es) = codes "; " ++ flow_text e ++ further_text es

-- the flows in their order, or a dash where there is none
abbrev pub flows_text : Flows → List ℕ
flows_text [] = codes "-"
flows_text (e ∷ es) = flow_text e ++ further_text es
