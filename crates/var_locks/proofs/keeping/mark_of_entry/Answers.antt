use Rattle.std.proofs.Common.{◌≡◌, ◌%◌, ◌^◌, ◌∙◌, ap, sym, arith}
use Rattle.std.proofs.Math.Nat.{mod-eq_of_lt}
use Rattle.replay_guide.proofs.OrderLemmas.{weight_is_sum}
use Rattle.var_locks.proofs.keeping.mark_of_entry.Goals as goal

pub returns : goal.returns
returns c =
    let small = c.weight.ensures.small in
    let fits : c.weight.result % 2 ^ 64 ≡ c.weight.result = mod-eq_of_lt (omega arith) in
    sym fits
    ∙ ap (λ w. w % 2 ^ 64) (c.weight.ensures.summed ∙ sym (weight_is_sum c.args.entry.now c.weight.ensures.all))
