use Rattle.std.proofs.Common.{◌≡◌, ap, sym, rules, Err}
use Rattle.output_files.proofs.OnlyWriting.{OnlyWrites-trans}
use Rattle.run_writes.proofs.OpeningSteps.{writable_still}
use Rattle.run_command.proofs.Going.{at_same}
use Rattle.hand_command.proofs.HandSteps.{from_there, image_goes, is_counted, stopped_behind}
use Rattle.hand_command.proofs.RestingWorlds.{RestingLaws}
use Rattle.hand_command.proofs.handing.hand_ready.Goals as goal

pub write_image-requires-clause-writable : goal.write_image-requires-clause-writable
write_image-requires-clause-writable g c κs within =
    writable_still _ _ _ c.requires.schedule c.in_ok-perform_events.ensures.only_writes.ledger

pub returns-in_err-perform_events-clause-shows : goal.returns-in_err-perform_events-clause-shows
returns-in_err-perform_events-clause-shows g c p h s seal are names events before released schedule come ready =
    let m = g.P.Program.meaning c.args.system.now.parts.program in
    let e : c.from_residual.result ≡ Err c.in_err-perform_events.field-0.0 = search rules in
    rw e (stopped_behind seal m s names events c.args.system.now c.args.lines.now before _ come
    c.perform_events.new.system c.perform_events.new.lines _ c.in_err-perform_events.field-0.0
    (c.in_err-perform_events.ensures.shows p h s _ names before released
    (from_there seal m s names events c.args.system.now c.args.lines.now before _ come)))

pub returns-clause-only_writes : goal.returns-clause-only_writes
returns-clause-only_writes g c =
    OnlyWrites-trans _ _ _ _ _ c.in_ok-perform_events.ensures.only_writes c.write_image.ensures.only_writes

pub returns-clause-shows : goal.returns-clause-shows
returns-clause-shows g c p h s seal are names events before released schedule come ready =
    let m = g.P.Program.meaning c.args.system.now.parts.program in
    let h0 = c.write_image.ensures.before p h in
    let laws : RestingLaws g.row.P-Value.Denot = record {
      script = c.ready_worlds_come_to_rest.ensures.script;
      rest = c.ready_worlds_come_to_rest.ensures.rest;
      performed = c.reached_worlds_are_counted.ensures.performed;
      goes_on = c.reached_worlds_are_counted.ensures.goes_on;
    } in
    let rest = c.in_ok-perform_events.ensures.shows p h0 s _ names before released
    (from_there seal m s names events c.args.system.now c.args.lines.now before _ come) in
    let at = at_same _ _ s rest.world c.perform_events.new.system
    (ap g.P.Program.meaning (sym c.in_ok-perform_events.ensures.program)) rest.at in
    let counted = is_counted seal m s names events c.args.system.now c.args.lines.now before _ come laws ready
    c.perform_events.new.system c.perform_events.new.lines _ rest in
    image_goes seal m s names events c.args.system.now c.args.lines.now before _ come laws ready
    c.perform_events.new.system c.perform_events.new.lines _ rest c.write_image.result _
    (c.write_image.ensures.shows p h s seal are rest.world names _ before
    (c.in_ok-perform_events.ensures.keeps p h0 _ _ schedule) at.stands.parts counted.draws rest.gathered)
