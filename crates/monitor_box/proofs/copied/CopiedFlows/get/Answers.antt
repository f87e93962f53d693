use Rattle.std.proofs.Common.{◌≡◌, ◌∙◌, List, Option, Some, None, slice_get, length, refl, sym, subst, arith}
use Rattle.std.proofs.lemmas.Option.{slice_get_past, slice_get_read}
use Rattle.monitor_box.specs.declared.counts.FlowKey.{FlowKey}
use Rattle.monitor_box.specs.declared.counts.FlowCount.{FlowCount}
use Rattle.monitor_box.proofs.RowLemmas.{both_at, no_key, no_value}
use Rattle.monitor_box.proofs.copied.CopiedFlows.get.Goals as goal

pub returns-in_err-get : goal.returns-in_err-get
returns-in_err-get c =
    let found = c.in_err-get.ensures.lookup in
    let none = slice_get_past c.deref.result.now c.args.at (omega arith) in
    let past = subst (λ (rows : List FlowKey). slice_get rows c.args.at ≡ None) c.deref.ensures.value none in
    rw (← c.self.view_is)
    (c.from_residual.ensures ∙ sym (no_key c.self.inside.flows.items c.self.inside.counts.items c.args.at past))

pub returns-in_err-get-2 : goal.returns-in_err-get-2
returns-in_err-get-2 c =
    let found = c.in_err-get-2.ensures.lookup in
    let none = slice_get_past c.deref-2.result.now c.args.at (omega arith) in
    let past = subst (λ (rows : List FlowCount). slice_get rows c.args.at ≡ None) c.deref-2.ensures.value none in
    rw (← c.self.view_is)
    (c.from_residual-in_err-get-2.ensures
    ∙ sym (no_value c.self.inside.flows.items c.self.inside.counts.items c.args.at past))

pub returns : goal.returns
returns c =
    let flow = c.in_ok-get.field-0.now in
    let count = c.in_ok-get-2.field-0.now in
    let found = c.in_ok-get.ensures.lookup in
    let counted = c.in_ok-get-2.ensures.lookup in
    let key = slice_get_read c.deref.result.now (length c.deref.result.now) c.args.at flow refl
    (omega arith) found.1 in
    let value = slice_get_read c.deref-2.result.now (length c.deref-2.result.now) c.args.at count refl
    (omega arith) counted.1 in
    rw (← c.self.view_is)
    (sym (both_at c.self.inside.flows.items c.self.inside.counts.items c.args.at flow count
    (subst (λ (rows : List FlowKey). slice_get rows c.args.at ≡ Some flow) c.deref.ensures.value key)
    (subst (λ (rows : List FlowCount). slice_get rows c.args.at ≡ Some count) c.deref-2.ensures.value value)))
