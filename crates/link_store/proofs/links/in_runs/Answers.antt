use Rattle.std.proofs.Common.{sym, ◌∙◌, arith}
use Rattle.link_store.proofs.AllLemmas.{found_if, none_in_runs}
use Rattle.link_store.proofs.links.in_runs.Goals as goal

pub returns-then-is_some : goal.returns-then-is_some
returns-then-is_some c =
    let runs = c.args.runs.now in
    let len = runs.ok.0 in
    found_if runs.items c.loop-i.i c.args.at.now c.index.result.now c.get-frame.result
    (sym c.is_some.ensures ∙ c.if-is_some.true) (omega (arith, len, c.len-i-end.ensures, c.loop-i-test.true))
    c.loop-i.invariant c.index.ensures c.get-frame.ensures

pub returns : goal.returns
returns c =
    let runs = c.args.runs.now in
    let len = runs.ok.0 in
    sym (none_in_runs runs.items c.args.at.now
    (λ j d low. c.loop-i.invariant j d (omega (arith, len, c.len-i-end.ensures, c.loop-i-test.false))))
