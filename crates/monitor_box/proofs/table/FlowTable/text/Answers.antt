use Rattle.std.proofs.Common.{◌∙◌, ◌++◌, ◌+◌, drop, sym, ap}
use Rattle.std.specs.String.{string_bytes}
use Rattle.monitor_box.specs.Shown.{further_text}
use Rattle.monitor_box.proofs.RowLemmas.{text_more, none_dropped}
use Rattle.monitor_box.proofs.table.FlowTable.text.Goals as goal
use Rattle.monitor_box.proofs.table.FlowTable.text.Goals.{in-Some-get+in_ok-push_str-2+in_ok-text_of_flow-2+in_ok-push_str-3}
use Rattle.monitor_box.proofs.table.FlowTable.text.Goals.{in_default-get}

pub loop-at-preserved : goal.loop-at-preserved
loop-at-preserved c =
    let flows = c.args.self.now in
    let at = c.loop-at.at in
    elim c.match-get-2.branch [
      | in-Some-get+in_ok-push_str-2+in_ok-text_of_flow-2+in_ok-push_str-3 w ↦
          let between = string_bytes w.push_str-in-Some-get.new.self in
          let shown = w.as_str-in-Some-get-2.ensures ∙ w.in_ok-text_of_flow-2.ensures in
          ap (λ text. string_bytes text ++ further_text (drop (at + 1) flows)) w.text-is
          ∙ text_more (string_bytes c.loop-at.text) between (string_bytes w.push_str-in-Some-get-2.new.self) flows at
          (w.in-Some-get.flow, w.in-Some-get.count) (sym c.get-in-loop-at.ensures ∙ w.in-Some-get.is)
          w.in_ok-push_str-2.ensures.bytes (w.in_ok-push_str-3.ensures.bytes ∙ ap (λ more. between ++ more) shown)
          ∙ c.loop-at.invariant
      | in_default-get w ↦
          ap (λ text. string_bytes text ++ further_text (drop (at + 1) flows)) w.text-is
          ∙ ap (λ rows. string_bytes c.loop-at.text ++ further_text rows)
          (none_dropped flows at (sym c.get-in-loop-at.ensures ∙ w.in_default-get.is))
          ∙ c.loop-at.invariant
    ]
