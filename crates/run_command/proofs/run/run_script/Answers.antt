use Rattle.std.proofs.Common.{ap, sym, refl}
use Rattle.output_files.proofs.Effects.{begun_none}
use Rattle.run_writes.specs.Run.{setting_of, names_of}
use Rattle.run_writes.proofs.RunWrites.{nothing_begun}
use Rattle.run_command.proofs.Going.{at_same, runs_same, somewhere_same}
use Rattle.run_command.proofs.WholeRun.{opens_at, runs_begun, runs_limit, runs_whole}
use Rattle.run_command.proofs.run.run_script.Goals as goal

pub run_from-requires-clause-somewhere : goal.run_from-requires-clause-somewhere
run_from-requires-clause-somewhere g c κs within =
    somewhere_same _ _ c.in_ok-system.system (ap g.P.Program.meaning (sym c.in_ok-system.ensures.program)) (
      _,
      _,
      opens_at _ _ c.in_ok-system.system c.in_ok-system.ensures.stands c.in_ok-system.ensures.none,
      c.requires.inputs.short,
    )

pub returns-in_err-system-clause-in_order : goal.returns-in_err-system-clause-in_order
returns-in_err-system-clause-in_order g c p h = nothing_begun _ _ _ _ _ _ (begun_none _ _)

pub returns-clause-whole : goal.returns-clause-whole
returns-clause-whole g c p h =
    let s = setting_of (g.P.Program.meaning c.args.program) c.args.run in
    let at = at_same _ _ s _ c.in_ok-system.system (ap g.P.Program.meaning (sym c.in_ok-system.ensures.program))
    (opens_at _ s c.in_ok-system.system c.in_ok-system.ensures.stands c.in_ok-system.ensures.none) in
    runs_whole s (names_of c.args.files) c.args.run.events c.requires.apart _ _ c.run_from.result
    (runs_same _ s _ _ _ c.args.run.events _ _ c.as_slice.ensures (c.run_from.ensures.shows p h s _ refl at))

pub returns-clause-limit : goal.returns-clause-limit
returns-clause-limit g c p h limit is =
    let s = setting_of (g.P.Program.meaning c.args.program) c.args.run in
    let at = at_same _ _ s _ c.in_ok-system.system (ap g.P.Program.meaning (sym c.in_ok-system.ensures.program))
    (opens_at _ s c.in_ok-system.system c.in_ok-system.ensures.stands c.in_ok-system.ensures.none) in
    runs_limit s (names_of c.args.files) c.args.run.events c.requires.apart _ _ c.run_from.result limit
    (runs_same _ s _ _ _ c.args.run.events _ _ c.as_slice.ensures (c.run_from.ensures.shows p h s _ refl at)) is

pub returns-clause-in_order : goal.returns-clause-in_order
returns-clause-in_order g c p h =
    let s = setting_of (g.P.Program.meaning c.args.program) c.args.run in
    let at = at_same _ _ s _ c.in_ok-system.system (ap g.P.Program.meaning (sym c.in_ok-system.ensures.program))
    (opens_at _ s c.in_ok-system.system c.in_ok-system.ensures.stands c.in_ok-system.ensures.none) in
    runs_begun s _ (names_of c.args.files) c.args.run.events _ _ c.run_from.result
    (runs_same _ s _ _ _ c.args.run.events _ _ c.as_slice.ensures (c.run_from.ensures.shows p h s _ refl at))
