use Rattle.std.proofs.Common.{◌≡◌, ℕ, ◌+◌, ◌∙◌, ap, sym, subst, refl, length, zero, suc, List, Result}
use Rattle.std.specs.Prelude.{⊤}
use Rattle.world_io.specs.World.{Shown}
use Rattle.recovery_world.specs.World.{Setting}
use Rattle.output_files.proofs.Effects.{begun_none}
use Rattle.run_writes.specs.declared.error.RunError.{RunError}
use Rattle.run_command.proofs.Going.{at_same, somewhere_same}
use Rattle.run_command.proofs.WholeRun.{opens_at}
use Rattle.plan_script.specs.declared.plan.PlanLine.{PlanLine}
use Rattle.live_workers.specs.Draws.{generators_of}
use Rattle.live_writes.specs.Outputs.{LiveOutputs, names_of, setting_of}
use Rattle.live_command.specs.Plans.{RunsPlan}
use Rattle.live_command.proofs.RunsTold.{opens_in_order, runs_in_order, runs_to_limit, runs_whole}
use Rattle.live_command.proofs.running.run_plan.Goals as goal

-- there is one generator for each thread
as_many : (seed t n : ℕ) → length (generators_of seed t n) ≡ n
as_many seed t zero = refl
as_many seed t (suc n) = ap (λ (k : ℕ). suc k) (as_many seed (t + 1) n)

-- the lines of the plan are the same
plan_same : {V : Type 0} (r : Result ⊤ RunError) (s : Setting V) (may : ℕ → Type 0) (plan other : List PlanLine)
    (names : LiveOutputs) (old new : Shown) → plan ≡ other → RunsPlan r s may plan names old new
    → RunsPlan r s may other names old new
plan_same {V} r s may plan other names old new same h =
    subst (λ (l : List PlanLine). RunsPlan r s may l names old new) same h

pub returns-in_err-draws-clause-in_order : goal.returns-in_err-draws-clause-in_order
returns-in_err-draws-clause-in_order g c p honest =
    opens_in_order (setting_of (g.P.Program.meaning c.args.program) c.args.run) c.args.run.plan (names_of c.args.files)
    _ _ (begun_none _ _)

pub returns-in_err-system-clause-in_order : goal.returns-in_err-system-clause-in_order
returns-in_err-system-clause-in_order g c p honest =
    opens_in_order (setting_of (g.P.Program.meaning c.args.program) c.args.run) c.args.run.plan (names_of c.args.files)
    _ _ (begun_none _ _)

pub returns-in-Err-clause-in_order : goal.returns-in-Err-clause-in_order
returns-in-Err-clause-in_order g c p honest =
    opens_in_order (setting_of (g.P.Program.meaning c.args.program) c.args.run) c.args.run.plan (names_of c.args.files)
    _ _ (c.in-Err.ensures.shows p honest)

pub run_standing-requires-clause-somewhere : goal.run_standing-requires-clause-somewhere
run_standing-requires-clause-somewhere g c κs within =
    somewhere_same _ _ c.in_ok-system.system (ap g.P.Program.meaning (sym c.in_ok-system.ensures.program)) (
      _,
      _,
      opens_at _ _ c.in_ok-system.system c.in_ok-system.ensures.stands c.in_ok-system.ensures.none,
      c.requires.inputs.short,
    )

pub run_standing-requires-clause-draws : goal.run_standing-requires-clause-draws
run_standing-requires-clause-draws g c κs within =
    ap length c.in_ok-draws.ensures
    ∙ as_many c.args.run.seed 0 c.args.run.threads
    ∙ sym (ap (λ z. z.threads) c.in_ok-system.ensures.stands.parts.inputs.inputs)

pub returns-clause-whole : goal.returns-clause-whole
returns-clause-whole g c p honest =
    let earlier = c.run_standing.ensures.before p honest in
    let s = setting_of (g.P.Program.meaning c.args.program) c.args.run in
    let names = names_of c.args.files in
    let may = g.C.Clock.may c.args.clock.now in
    let at = at_same _ _ s _ c.in_ok-system.system (ap g.P.Program.meaning (sym c.in_ok-system.ensures.program))
    (opens_at _ s c.in_ok-system.system c.in_ok-system.ensures.stands c.in_ok-system.ensures.none) in
    let ran = c.run_standing.ensures.told p honest s names _ c.in_ok-draws.ensures c.requires.apart
    (c.in-Ok.ensures.open p earlier)
    at c.requires.inputs.few_threads (c.in-Ok.ensures.shows p earlier) in
    runs_whole s names c.requires.apart _ _ may c.args.run.plan c.run_standing.result
    (plan_same c.run_standing.result s may _ c.args.run.plan names _ _ c.as_slice.ensures ran)

pub returns-clause-limit : goal.returns-clause-limit
returns-clause-limit g c p honest limit is =
    let earlier = c.run_standing.ensures.before p honest in
    let s = setting_of (g.P.Program.meaning c.args.program) c.args.run in
    let names = names_of c.args.files in
    let may = g.C.Clock.may c.args.clock.now in
    let at = at_same _ _ s _ c.in_ok-system.system (ap g.P.Program.meaning (sym c.in_ok-system.ensures.program))
    (opens_at _ s c.in_ok-system.system c.in_ok-system.ensures.stands c.in_ok-system.ensures.none) in
    let ran = c.run_standing.ensures.told p honest s names _ c.in_ok-draws.ensures c.requires.apart
    (c.in-Ok.ensures.open p earlier)
    at c.requires.inputs.few_threads (c.in-Ok.ensures.shows p earlier) in
    runs_to_limit s names c.requires.apart _ _ may c.args.run.plan c.run_standing.result limit
    (plan_same c.run_standing.result s may _ c.args.run.plan names _ _ c.as_slice.ensures ran) is

pub returns-clause-in_order : goal.returns-clause-in_order
returns-clause-in_order g c p honest =
    let earlier = c.run_standing.ensures.before p honest in
    let s = setting_of (g.P.Program.meaning c.args.program) c.args.run in
    let names = names_of c.args.files in
    let may = g.C.Clock.may c.args.clock.now in
    let at = at_same _ _ s _ c.in_ok-system.system (ap g.P.Program.meaning (sym c.in_ok-system.ensures.program))
    (opens_at _ s c.in_ok-system.system c.in_ok-system.ensures.stands c.in_ok-system.ensures.none) in
    let ran = c.run_standing.ensures.told p honest s names _ c.in_ok-draws.ensures c.requires.apart
    (c.in-Ok.ensures.open p earlier)
    at c.requires.inputs.few_threads (c.in-Ok.ensures.shows p earlier) in
    runs_in_order s names c.requires.apart _ _ may c.args.run.plan c.run_standing.result
    (plan_same c.run_standing.result s may _ c.args.run.plan names _ _ c.as_slice.ensures ran)
