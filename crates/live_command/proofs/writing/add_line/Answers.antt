use Rattle.std.proofs.Common.{◌≡◌, ◌∷◌, [], Err, rules, subst, sym}
use Rattle.run_writes.specs.Errors.{run_error_of}
use Rattle.live_writes.specs.Script.{Scripted}
use Rattle.live_writes.specs.Told.{HasTold}
use Rattle.live_command.proofs.WritingSteps.{add_failed, begun_more, line_added, paused_now, still_begun}
use Rattle.live_command.proofs.writing.add_line.Goals as goal

pub returns-in_err-flush-in-Err-Limit-clause-told : goal.returns-in_err-flush-in-Err-Limit-clause-told
returns-in_err-flush-in-Err-Limit-clause-told g c p honest s names events w before apart is h =
    let made : c.from_residual.result ≡ Err (run_error_of c.in_err-flush-in-Err-Limit.field-0.0) = search rules in
    let same = c.in-Err-Limit.ensures.same c.in-Err-Limit.limit (search rules) in
    let now = g.W.World.shows p c.args.world.now in
    let here : HasTold s names events events w c.args.lines.now c.add.new.self before now =
    subst (λ (x : Scripted). HasTold s names events events w c.args.lines.now x before now) (sym same) h in
    add_failed _ c.in_err-flush-in-Err-Limit.field-0.0 s names events c.args.event.now w _ _ before _ made
    (begun_more s names events (c.args.event.now ∷ []) before _
    (c.in_err-flush-in-Err-Limit.ensures.told p honest s names events events w before apart is here))

pub returns-in_ok-flush-in-Err-Limit-clause-told : goal.returns-in_ok-flush-in-Err-Limit-clause-told
returns-in_ok-flush-in-Err-Limit-clause-told g c p honest s names events w before apart is h =
    let limit = c.in-Err-Limit.limit in
    let same = c.in-Err-Limit.ensures.same limit (search rules) in
    let now = g.W.World.shows p c.args.world.now in
    let here : HasTold s names events events w c.args.lines.now c.add.new.self before now =
    subst (λ (x : Scripted). HasTold s names events events w c.args.lines.now x before now) (sym same) h in
    paused_now s names events w _ c.args.script.now _ before _
    (c.in_ok-flush-in-Err-Limit.ensures.told p honest s names events events w before apart is here) h.counted
    c.in_ok-flush-in-Err-Limit.ensures.no_lines c.in_ok-flush-in-Err-Limit.ensures.no_text c.args.event.now limit
    (c.in-Err-Limit.ensures.limit limit (search rules))

pub returns-in-Ok-clause-told : goal.returns-in-Ok-clause-told
returns-in-Ok-clause-told g c p honest s names events w before apart is h =
    line_added s names events w _ c.args.script.now before _ h c.args.event.now c.add.new.self c.in-Ok.ensures.fits
    c.in-Ok.ensures.added

pub returns-in-Err-NoMemory-clause-told : goal.returns-in-Err-NoMemory-clause-told
returns-in-Err-NoMemory-clause-told g c p honest s names events w before apart is h =
    begun_more s names events (c.args.event.now ∷ []) before _
    (still_begun s names apart events events w _ c.args.script.now before _ h)
