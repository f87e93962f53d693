use Rattle.std.proofs.Common.{◌≡◌, ap, sym, ◌∙◌, refl, rules, Err}
use Rattle.output_files.proofs.Effects.{begun_none}
use Rattle.run_writes.specs.Run.{names_of, setting_of}
use Rattle.run_writes.proofs.RunWrites.{nothing_begun}
use Rattle.run_command.proofs.Going.{at_same, somewhere_same}
use Rattle.run_command.proofs.WholeRun.{runs_begun}
use Rattle.hand_command.specs.Errors.{not_resumed}
use Rattle.hand_command.specs.Hand.{IsHandedOver}
use Rattle.hand_command.proofs.Resuming.{fault_gone_on, no_fault, refused_no_limit, refused_no_write, resumed_at}
use Rattle.hand_command.proofs.Resuming.{resumed_limit, resumed_same, resumed_whole, same_fault}
use Rattle.hand_command.proofs.resume.run_resume.Goals as goal

pub run_from-requires-clause-somewhere : goal.run_from-requires-clause-somewhere
run_from-requires-clause-somewhere g c κs within =
    let is = c.in_ok-system.ensures in
    let s = setting_of (g.P.Program.meaning c.args.program) c.args.run in
    let handed : IsHandedOver s is.some.0 c.args.image.now = record {
      sound = is.some.1;
      rest = is.some.2;
      image_is =
          is.some.3;
    } in
    somewhere_same _ _ c.in_ok-system.system (ap g.P.Program.meaning (sym is.program)) (
      s,
      is.some.0,
      resumed_at _ s is.some.0 c.in_ok-system.system c.args.image.now handed
          (is.stands is.some.0 is.some.1 is.some.2 is.some.3) is.fresh is.handed,
      c.requires.inputs.short,
    )

pub returns-in_err-system-clause-cause : goal.returns-in_err-system-clause-cause
returns-in_err-system-clause-cause g c fault =
    let e = c.in_err-system.field-0.0 in
    let made : c.from_residual.result ≡ Err (not_resumed e) = search rules in
    absurd (refused_no_write e (sym made ∙ fault))

pub returns-in_err-system-clause-fault : goal.returns-in_err-system-clause-fault
returns-in_err-system-clause-fault g c fault is =
    let e = c.in_err-system.field-0.0 in
    let made : c.from_residual.result ≡ Err (not_resumed e) = search rules in
    let same = same_fault e fault (sym made ∙ is) in
    c.in_err-system.ensures.faults fault (rw same refl)

pub returns-in_err-system-clause-limit : goal.returns-in_err-system-clause-limit
returns-in_err-system-clause-limit g c p h w handed limit is =
    let e = c.in_err-system.field-0.0 in
    let made : c.from_residual.result ≡ Err (not_resumed e) = search rules in
    absurd (refused_no_limit e limit (sym made ∙ is))

pub returns-in_err-system-clause-in_order : goal.returns-in_err-system-clause-in_order
returns-in_err-system-clause-in_order g c p h w handed = nothing_begun _ w _ _ _ _ (begun_none _ _)

pub returns-clause-cause : goal.returns-clause-cause
returns-clause-cause g c fault =
    c.run_from.ensures.cause (fault_gone_on c.run_from.result (sym c.gone_on.ensures ∙ fault))

pub returns-clause-fault : goal.returns-clause-fault
returns-clause-fault g c fault is = absurd (no_fault c.run_from.result fault (sym c.gone_on.ensures ∙ is))

pub returns-clause-nothing : goal.returns-clause-nothing
returns-clause-nothing g c p fault is = absurd (no_fault c.run_from.result fault (sym c.gone_on.ensures ∙ is))

pub returns-clause-whole : goal.returns-clause-whole
returns-clause-whole g c p h w handed =
    let s = setting_of (g.P.Program.meaning c.args.program) c.args.run in
    let is = c.in_ok-system.ensures in
    let at = at_same _ _ s w c.in_ok-system.system (ap g.P.Program.meaning (sym is.program))
    (resumed_at _ s w c.in_ok-system.system c.args.image.now handed (is.stands w handed.sound handed.rest
    handed.image_is) is.fresh is.handed) in
    rw c.gone_on.ensures (resumed_whole s w (names_of c.args.files) c.args.run.events _ _ c.requires.apart
    c.run_from.result
    (resumed_same _ s w _ _ c.args.run.events _ _ c.as_slice-events.ensures
    (c.run_from.ensures.shows p h s w refl at)))

pub returns-clause-limit : goal.returns-clause-limit
returns-clause-limit g c p h w handed limit e =
    let s = setting_of (g.P.Program.meaning c.args.program) c.args.run in
    let is = c.in_ok-system.ensures in
    let at = at_same _ _ s w c.in_ok-system.system (ap g.P.Program.meaning (sym is.program))
    (resumed_at _ s w c.in_ok-system.system c.args.image.now handed (is.stands w handed.sound handed.rest
    handed.image_is) is.fresh is.handed) in
    resumed_limit s w (names_of c.args.files) c.args.run.events _ _ c.requires.apart c.run_from.result limit
    (resumed_same _ s w _ _ c.args.run.events _ _ c.as_slice-events.ensures (c.run_from.ensures.shows p h s w refl at))
    (sym c.gone_on.ensures ∙ e)

pub returns-clause-in_order : goal.returns-clause-in_order
returns-clause-in_order g c p h w handed =
    let s = setting_of (g.P.Program.meaning c.args.program) c.args.run in
    let is = c.in_ok-system.ensures in
    let at = at_same _ _ s w c.in_ok-system.system (ap g.P.Program.meaning (sym is.program))
    (resumed_at _ s w c.in_ok-system.system c.args.image.now handed (is.stands w handed.sound handed.rest
    handed.image_is) is.fresh is.handed) in
    runs_begun s _ (names_of c.args.files) c.args.run.events _ _ c.run_from.result
    (resumed_same _ s w _ _ c.args.run.events _ _ c.as_slice-events.ensures (c.run_from.ensures.shows p h s w refl at))
