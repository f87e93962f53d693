use Rattle.std.proofs.Common.{◌≡◌, ◌<◌, arith, rules, length, take, Err}
use Rattle.output_files.proofs.Effects.{keeps_both}
use Rattle.output_files.proofs.OnlyWriting.{OnlyWrites-trans}
use Rattle.chain_command.proofs.Going.{goes_longer}
use Rattle.chain_command.proofs.Steps.{come_all, come_on, named_here, same_item, split_here, still_open}
use Rattle.chain_command.proofs.running.perform_events.Goals as goal

pub perform_event-requires-clause-which : goal.perform_event-requires-clause-which
perform_event-requires-clause-which g c κs within =
    let low : c.loop-event.event-index < length c.args.events.now = omega arith in
    named_here c.args.events.now c.loop-event.event-index _ c.requires.which low

pub loop-event-preserved : goal.loop-event-preserved
loop-event-preserved g c =
    let inv = c.loop-event.invariant in
    let low : c.loop-event.event-index < length c.args.events.now = omega arith in
    record {
      runs = c.in_ok-perform_event.ensures.runs;
      somewhere = c.in_ok-perform_event.ensures.somewhere;
      only_writes = OnlyWrites-trans _ _ _ _ _ inv.only_writes c.in_ok-perform_event.ensures.only_writes;
      shows = λ p h s r names before are come.
          let h0 = c.in_ok-perform_event.ensures.before p h in
          come_on g.P.Program.meaning g.Q.Program.meaning s r names c.args.events.now _ _ before _
          c.loop-event.event-index _ low (same_item c.args.events.now c.loop-event.event-index _ low)
          (c.in_ok-perform_event.ensures.shows p h s r names (take c.loop-event.event-index c.args.events.now) before
          (still_open names _ _ _ (inv.keeps p h0) are) (inv.shows p h0 s r names before are come));
      keeps = λ p h.
          keeps_both _ _ _ (inv.keeps p (c.in_ok-perform_event.ensures.before p h))
          (c.in_ok-perform_event.ensures.keeps p h);
      before = λ p h. inv.before p (c.in_ok-perform_event.ensures.before p h);
    }

pub returns-in_err-perform_event-clause-shows : goal.returns-in_err-perform_event-clause-shows
returns-in_err-perform_event-clause-shows g c p h s r names before are come =
    let inv = c.loop-event.invariant in
    let h0 = c.in_err-perform_event.ensures.before p h in
    let low : c.loop-event.event-index < length c.args.events.now = omega arith in
    let e : c.from_residual.result ≡ Err c.in_err-perform_event.field-0.0 = search rules in
    rw e (goes_longer c.in_err-perform_event.field-0.0 g.P.Program.meaning g.Q.Program.meaning s r names _ _
    c.args.events.now c.perform_event.new.chain _ c.perform_event.new.lines _ before _
    (split_here c.args.events.now c.loop-event.event-index _ low
    (same_item c.args.events.now c.loop-event.event-index _ low))
    (c.in_err-perform_event.ensures.shows p h s r names (take c.loop-event.event-index c.args.events.now) before
    (still_open names _ _ _ (inv.keeps p h0) are) (inv.shows p h0 s r names before are come)))

pub returns-in_err-perform_event-clause-keeps : goal.returns-in_err-perform_event-clause-keeps
returns-in_err-perform_event-clause-keeps g c p h =
    keeps_both _ _ _ (c.loop-event.invariant.keeps p (c.in_err-perform_event.ensures.before p h))
    (c.in_err-perform_event.ensures.keeps p h)

pub returns-clause-shows : goal.returns-clause-shows
returns-clause-shows g c p h s r names before are come =
    come_all g.P.Program.meaning g.Q.Program.meaning s r names c.args.events.now c.loop-event.chain c.loop-event.lines
    before _ c.loop-event.event-index (omega arith) (c.loop-event.invariant.shows p h s r names before are come)
