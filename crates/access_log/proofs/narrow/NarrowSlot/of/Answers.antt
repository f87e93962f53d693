use Rattle.std.proofs.Common.{ap, sym, ◌∙◌, ◌≢◌, Some}
use Rattle.access_log.proofs.NarrowLemmas.{is_kept, unpacked_some}
use Rattle.access_log.proofs.narrow.NarrowSlot.of.Goals as goal

pub returns : goal.returns
returns g c =
    let e = c.args.entry.now in
    let kept = c.first_components.result in
    let numbered : e.number ≢ 0 = λ h. c.if-entry-eq0.false h in
    let zeros = c.is_zero_from.ensures.0 c.if-not-is_zero_from.false in
    let whole = is_kept g.row.N e.stamp kept c.first_components.ensures.all c.first_components.ensures.count
    c.first_components.ensures.each zeros in
    unpacked_some e.number e.thread e.what kept numbered
    ∙ ap (λ s. Some (record e { stamp = s })) (sym whole)
