use Rattle.std.proofs.Common.{◌≡◌, ◌+◌, ◌∷◌, [], List, length, ap, sym, subst, arith, ◌∙◌, length-append}
use Rattle.recovery_core.specs.declared.lacking.Lacks.{Lacks}
use Rattle.noted_runs.proofs.SeenLemmas.{AreLacks, lacks_on, none_lacking}
use Rattle.noted_runs.proofs.trace.running.lacks_of_thread.Goals as goal

pub loop-number-init : goal.loop-number-init
loop-number-init g c = record {
  long = ap (λ (l : List Lacks). length l) c.new-list.ensures;
  lacks = λ s w h. subst (AreLacks w c.args.thread) (sym c.new-list.ensures) (none_lacking w c.args.thread);
}

pub loop-number-preserved : goal.loop-number-preserved
loop-number-preserved g c =
    let inv = c.loop-number.invariant in
    let ok = c.in_ok-push.ensures.ok in
    record {
      long = ap (λ (l : List Lacks). length l) ok
          ∙ (length-append c.loop-number.list (c.in_ok-lacks.lacks ∷ []) ∙ ap (λ n. n + 1) inv.long);
      lacks = λ s w h. subst (AreLacks w c.args.thread) (sym ok)
          (lacks_on w c.args.thread c.loop-number.list c.loop-number.number c.in_ok-lacks.lacks inv.long
          (inv.lacks s w h) (c.in_ok-lacks.ensures s w h));
    }

pub returns : goal.returns
returns g c s w h =
    let inv = c.loop-number.invariant in
    let ok = c.in_ok-push-2.ensures.ok in
    let sent : c.loop-number.number ≡ c.counts-sent.result.outputs = omega arith in
    record {
      long = ap (λ (l : List Lacks). length l) ok
          ∙ (length-append c.loop-number.list (c.in_ok-last.last ∷ [])
          ∙ ap (λ n. n + 1) (inv.long ∙ (sent ∙ (c.counts-sent.ensures s w h).2)));
      each = subst (AreLacks w c.args.thread) (sym ok)
          (lacks_on w c.args.thread c.loop-number.list c.counts-sent.result.outputs c.in_ok-last.last (inv.long ∙ sent)
          (inv.lacks s w h) (c.in_ok-last.ensures s w h));
    }
