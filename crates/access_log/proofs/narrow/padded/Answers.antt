use Rattle.std.proofs.Common.{arith, sym, ◌∙◌, ◌≤◌, length, ⊎_elim}
use Rattle.std.proofs.lemmas.Bool.{cases_lt}
use Rattle.std.proofs.lemmas.List.{get_or_past}
use Rattle.access_log.proofs.NarrowLemmas.{is_padded}
use Rattle.access_log.proofs.narrow.padded.Goals as goal

pub returns : goal.returns
returns c =
    let some = c.args.components.now in
    let kept = c.loop-i.invariant in
    let end : length some ≤ c.loop-i.i = omega (arith, c.loop-i-test.false) in
    c.new.ensures ∙ is_padded 16 c.loop-i.all some kept.all (λ k h.
    ⊎_elim (λ below. kept.copied k below)
    (λ past. kept.zeros k past ∙ sym (get_or_past some k 0 (omega arith))) (cases_lt k c.loop-i.i))
