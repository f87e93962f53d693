use Rattle.std.proofs.Common.{◌≡◌, ◌<◌, ap, sym, ◌∙◌, arith, rules, length, take, Err}
use Rattle.output_files.proofs.Effects.{keeps_both}
use Rattle.output_files.proofs.OnlyWriting.{OnlyWrites-trans}
use Rattle.run_command.proofs.Going.{goes_longer, split_here, come_on, come_all, come_same, somewhere_same, same_item}
use Rattle.run_command.proofs.running.perform_events.Goals as goal

pub perform_event-requires-clause-somewhere : goal.perform_event-requires-clause-somewhere
perform_event-requires-clause-somewhere g c κs within =
    somewhere_same _ _ c.loop-event.system (ap g.P.Program.meaning (sym c.loop-event.invariant.program))
    c.loop-event.invariant.somewhere

pub loop-event-preserved : goal.loop-event-preserved
loop-event-preserved g c =
    let inv = c.loop-event.invariant in
    let low : c.loop-event.event-index < length c.args.events.now = omega arith in
    record {
      runs = c.in_ok-perform_event.ensures.runs;
      program = c.in_ok-perform_event.ensures.program ∙ inv.program;
      somewhere = somewhere_same _ _ c.perform_event.new.system (ap g.P.Program.meaning inv.program)
          c.in_ok-perform_event.ensures.somewhere;
      only_writes = OnlyWrites-trans _ _ _ _ _ inv.only_writes c.in_ok-perform_event.ensures.only_writes;
      shows = λ p h s from names before is come.
          let h0 = c.in_ok-perform_event.ensures.before p h in
          come_on _ _ s from names c.args.events.now c.loop-event.event-index _ _ _ before _
          (ap g.P.Program.meaning inv.program) low (same_item c.args.events.now c.loop-event.event-index _ low)
          (c.in_ok-perform_event.ensures.shows p h s from names (take c.loop-event.event-index c.args.events.now) before
          (inv.keeps p h0 _ _ is)
          (come_same _ _ s from names _ c.loop-event.system c.loop-event.lines before _
          (ap g.P.Program.meaning (sym inv.program)) (inv.shows p h0 s from names before is come)));
      keeps = λ p h.
          keeps_both _ _ _ (inv.keeps p (c.in_ok-perform_event.ensures.before p h))
          (c.in_ok-perform_event.ensures.keeps p h);
      before = λ p h. inv.before p (c.in_ok-perform_event.ensures.before p h);
    }

pub returns-in_err-perform_event-clause-shows : goal.returns-in_err-perform_event-clause-shows
returns-in_err-perform_event-clause-shows g c p h s from names before is come =
    let inv = c.loop-event.invariant in
    let h0 = c.in_err-perform_event.ensures.before p h in
    let low : c.loop-event.event-index < length c.args.events.now = omega arith in
    let e : c.from_residual.result ≡ Err c.in_err-perform_event.field-0.0 = search rules in
    rw e (goes_longer c.in_err-perform_event.field-0.0 _ _ s from names _ _ c.args.events.now
    c.perform_event.new.system _
    c.perform_event.new.lines _ before _
    (split_here c.args.events.now c.loop-event.event-index _ low
    (same_item c.args.events.now c.loop-event.event-index _ low))
    (c.in_err-perform_event.ensures.shows p h s from names (take c.loop-event.event-index c.args.events.now) before
    (inv.keeps p h0 _ _ is)
    (come_same _ _ s from names _ c.loop-event.system c.loop-event.lines before _ (ap g.P.Program.meaning
    (sym inv.program))
    (inv.shows p h0 s from names before is come))))

pub returns-in_err-perform_event-clause-keeps : goal.returns-in_err-perform_event-clause-keeps
returns-in_err-perform_event-clause-keeps g c p h =
    keeps_both _ _ _ (c.loop-event.invariant.keeps p (c.in_err-perform_event.ensures.before p h))
    (c.in_err-perform_event.ensures.keeps p h)

pub returns-clause-shows : goal.returns-clause-shows
returns-clause-shows g c p h s from names before is come =
    come_all _ s from names c.args.events.now c.loop-event.event-index c.loop-event.system c.loop-event.lines before _
    (omega arith) (c.loop-event.invariant.shows p h s from names before is come)
