use Rattle.std.proofs.Common.{◌≡◌, ◌≤◌, sym, ap, ◌∙◌, arith}
use Rattle.snapshot_steps.proofs.FromOutputReleases.{counted}
use Rattle.system_images.proofs.ReadyLemmas.{none_sent_there, seen_as}
use Rattle.system_images.proofs.ready.outputs_of.Goals as goal

pub returns-then-thread-threads : goal.returns-then-thread-threads
returns-then-thread-threads g c = λ s w st.
    sym (none_sent_there _ s w _ (seen_as _ s w c.core.view_is st) c.args.thread
    (omega (arith, c.if-thread-threads.true, c.threads.ensures.value)))

pub returns : goal.returns
returns g c = λ s w st.
    (counted _ s w _ (seen_as _ s w c.core.view_is st) c.args.thread c.counts.result
    (omega (arith, c.if-thread-threads.false, c.threads.ensures.value)) c.counts.ensures).1
