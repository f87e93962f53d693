use Rattle.std.proofs.Common.{List, ap, sym, subst, refl}
use Rattle.plain_text.specs.declared.packet.Packet.{Packet}
use Rattle.handover_seal.specs.Seals.{AreSeals}
use Rattle.output_files.proofs.Effects.{begun_none}
use Rattle.run_writes.specs.Run.{setting_of}
use Rattle.run_command.proofs.Going.{at_same, somewhere_same}
use Rattle.run_command.proofs.WholeRun.{opens_at}
use Rattle.hand_command.specs.Hand.{names_of}
use Rattle.hand_command.proofs.HandEnds.{hand_begun, hand_limit, hand_nothing, hand_same, hand_unready, hand_whole}
use Rattle.hand_command.proofs.hand.run_hand.Goals as goal

pub hand_over-ended-requires-clause-somewhere : goal.hand_over-ended-requires-clause-somewhere
hand_over-ended-requires-clause-somewhere g c κs within =
    somewhere_same _ _ c.in_ok-system.system (ap g.P.Program.meaning (sym c.in_ok-system.ensures.program)) (
      _,
      _,
      opens_at _ _ c.in_ok-system.system c.in_ok-system.ensures.stands c.in_ok-system.ensures.none,
      c.requires.inputs.short,
    )

pub returns-in_err-system-clause-in_order : goal.returns-in_err-system-clause-in_order
returns-in_err-system-clause-in_order g c p h = hand_nothing _ _ _ _ _ _ (begun_none _ _)

pub returns-clause-whole : goal.returns-clause-whole
returns-clause-whole g c p h =
    let s = setting_of (g.P.Program.meaning c.args.program) c.args.run in
    let are = subst (λ (ps : List Packet). AreSeals c.args.seal c.args.run.unit ps c.in_ok-seals.seals) c.as_slice.ensures
    c.in_ok-seals.ensures in
    let at = at_same _ _ s _ c.in_ok-system.system (ap g.P.Program.meaning (sym c.in_ok-system.ensures.program))
    (opens_at _ s c.in_ok-system.system c.in_ok-system.ensures.stands c.in_ok-system.ensures.none) in
    hand_whole c.args.seal s (names_of c.args.files) c.args.run.events _ _ c.requires.apart c.hand_over-ended.result
    (hand_same c.args.seal _ s _ _ c.args.run.events _ _ c.as_slice-events.ensures
    (c.hand_over-ended.ensures.shows p h s c.args.seal are refl at))

pub returns-clause-unready : goal.returns-clause-unready
returns-clause-unready g c p h unready is =
    let s = setting_of (g.P.Program.meaning c.args.program) c.args.run in
    let are = subst (λ (ps : List Packet). AreSeals c.args.seal c.args.run.unit ps c.in_ok-seals.seals) c.as_slice.ensures
    c.in_ok-seals.ensures in
    let at = at_same _ _ s _ c.in_ok-system.system (ap g.P.Program.meaning (sym c.in_ok-system.ensures.program))
    (opens_at _ s c.in_ok-system.system c.in_ok-system.ensures.stands c.in_ok-system.ensures.none) in
    hand_unready c.args.seal s (names_of c.args.files) c.args.run.events _ _ c.requires.apart c.hand_over-ended.result
    unready
    (hand_same c.args.seal _ s _ _ c.args.run.events _ _ c.as_slice-events.ensures
    (c.hand_over-ended.ensures.shows p h s c.args.seal are refl at)) is

pub returns-clause-limit : goal.returns-clause-limit
returns-clause-limit g c p h limit is =
    let s = setting_of (g.P.Program.meaning c.args.program) c.args.run in
    let are = subst (λ (ps : List Packet). AreSeals c.args.seal c.args.run.unit ps c.in_ok-seals.seals) c.as_slice.ensures
    c.in_ok-seals.ensures in
    let at = at_same _ _ s _ c.in_ok-system.system (ap g.P.Program.meaning (sym c.in_ok-system.ensures.program))
    (opens_at _ s c.in_ok-system.system c.in_ok-system.ensures.stands c.in_ok-system.ensures.none) in
    hand_limit c.args.seal s (names_of c.args.files) c.args.run.events _ _ c.requires.apart c.hand_over-ended.result
    limit
    (hand_same c.args.seal _ s _ _ c.args.run.events _ _ c.as_slice-events.ensures
    (c.hand_over-ended.ensures.shows p h s c.args.seal are refl at)) is

pub returns-clause-in_order : goal.returns-clause-in_order
returns-clause-in_order g c p h =
    let s = setting_of (g.P.Program.meaning c.args.program) c.args.run in
    let are = subst (λ (ps : List Packet). AreSeals c.args.seal c.args.run.unit ps c.in_ok-seals.seals) c.as_slice.ensures
    c.in_ok-seals.ensures in
    let at = at_same _ _ s _ c.in_ok-system.system (ap g.P.Program.meaning (sym c.in_ok-system.ensures.program))
    (opens_at _ s c.in_ok-system.system c.in_ok-system.ensures.stands c.in_ok-system.ensures.none) in
    hand_begun c.args.seal s (names_of c.args.files) c.args.run.events _ _ c.hand_over-ended.result
    (hand_same c.args.seal _ s _ _ c.args.run.events _ _ c.as_slice-events.ensures
    (c.hand_over-ended.ensures.shows p h s c.args.seal are refl at))

pub returns-in_err-seals-clause-in_order : goal.returns-in_err-seals-clause-in_order
returns-in_err-seals-clause-in_order g c p h = hand_nothing _ _ _ _ _ _ (begun_none _ _)
