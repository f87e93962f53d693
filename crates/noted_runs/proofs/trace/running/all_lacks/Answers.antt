use Rattle.std.proofs.Common.{◌≡◌, ◌+◌, List, subst, sym, arith}
use Rattle.recovery_core.specs.declared.lacking.Lacks.{Lacks}
use Rattle.noted_runs.specs.TraceGoing.{HasLacks}
use Rattle.noted_runs.proofs.SeenLemmas.{lists_on, no_lists}
use Rattle.noted_runs.proofs.trace.running.all_lacks.Goals as goal

pub loop-thread-init : goal.loop-thread-init
loop-thread-init g c s w h =
    subst (λ (l : List (List Lacks)). HasLacks 0 w l) (sym c.new-lists.ensures.items) (no_lists w)

pub loop-thread-preserved : goal.loop-thread-preserved
loop-thread-preserved g c s w h =
    subst (λ (l : List (List Lacks)). HasLacks (c.loop-thread.thread + 1) w l) (sym c.in_ok-push.ensures.items)
    (lists_on w c.loop-thread.thread c.loop-thread.lists.items c.in_ok-list.list (c.loop-thread.invariant s w h)
    (c.in_ok-list.ensures s w h))

pub returns : goal.returns
returns g c s w h =
    let all : c.loop-thread.thread ≡ c.args.threads = omega arith in
    subst (λ n. HasLacks n w c.loop-thread.lists.items) all (c.loop-thread.invariant s w h)
