use Rattle.std.proofs.Common.{sym, refl, subst, ℕ}
use Rattle.event_replies.specs.declared.reply.Stop.TheVariants as stop
use Rattle.noted_runs.specs.TraceGoing.{HasSeen}
use Rattle.noted_runs.proofs.TracePerformed.{same_stop}
use Rattle.noted_runs.proofs.trace.running.run_events.Goals as goal

pub returns-in_ok-finished-in-Ok-clause-gone : goal.returns-in_ok-finished-in-Ok-clause-gone
returns-in_ok-finished-in-Ok-clause-gone g c s threads h =
    let gone = c.in-Ok.ensures.gone s h in
    record {
      world = gone.world;
      lines = gone.lines;
      performs = gone.performs;
      departs = gone.departs;
      sound = gone.stands.parts.sound;
      seen = subst (λ (n : ℕ). HasSeen n gone.world c.in-Ok.seen) (sym threads)
          (c.in-Ok.ensures.seen s gone.world gone.stands);
      finished = c.in_ok-finished-in-Ok.ensures s gone.world gone.stands.parts;
    }

pub returns-in-Err-clause-limit : goal.returns-in-Err-clause-limit
returns-in-Err-clause-limit g c limit e s h =
    c.in-Err.ensures.limit s h limit (same_stop _ c.in-Err.stop (stop.Limit limit) refl e)
