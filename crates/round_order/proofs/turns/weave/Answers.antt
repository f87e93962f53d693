use Rattle.std.proofs.Common.{◌∙◌, ap, sym, subst, List, ℕ, reverse}
use Rattle.std.proofs.lemmas.List.{reverse-reverse}
use Rattle.round_order.specs.Turns.{AreTurns, lengths}
use Rattle.round_order.proofs.TurnSteps.{turns_begin, turn_step, turns_end}
use Rattle.round_order.proofs.turns.weave.Goals as goal

pub loop-thread-init : goal.loop-thread-init
loop-thread-init c =
    rw c.new-turns.ensures.items (turns_begin c.args.marks.now c.in_ok-left.left.items c.in_ok-left.ensures)

pub loop-thread-preserved : goal.loop-thread-preserved
loop-thread-preserved c =
    rw c.in_ok-push.ensures.items (turn_step c.args.marks.now c.loop-thread.left.items c.loop-thread.turns.items
    c.in-Some.thread c.index_mut.result.now c.loop-thread.invariant (rw c.deref.ensures.value at c.in-Some.ensures)
    c.index_mut.ensures.value)

pub returns : goal.returns
returns c =
    subst (λ (l : List ℕ). AreTurns c.args.marks.now (lengths c.args.marks.now) l)
    (sym (ap (λ (l : List ℕ). reverse l) (c.from_vec.ensures ∙ c.reverse.ensures.items)
    ∙ reverse-reverse c.loop-thread.turns.items))
    (turns_end c.args.marks.now c.loop-thread.left.items c.loop-thread.turns.items c.loop-thread.invariant
    (rw c.deref.ensures.value at c.in_default.ensures))
