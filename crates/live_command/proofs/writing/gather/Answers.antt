use Rattle.std.proofs.Common.{◌≡◌, ◌∷◌, ◌++◌, [], rules, subst, sym, List, ℕ}
use Rattle.live_writes.specs.Told.{HasTold}
use Rattle.live_command.proofs.WritingSteps.{quiet_told}
use Rattle.live_command.proofs.writing.gather.Goals as goal

pub returns-clause-told : goal.returns-clause-told
returns-clause-told g c p honest s names events ev w next before apart is h quiet =
    let longer : c.extend.new.self ≡ c.args.lines.now ++ c.args.line.now = search rules in
    subst (λ (l : List ℕ). HasTold s names (events ++ ev ∷ []) (events ++ ev ∷ []) next l c.args.script.now before
    (g.W.World.shows p c.args.world.now))
    (sym longer) (quiet_told s names events w _ c.args.script.now before _ ev h c.args.line.now next quiet)

pub returns-then-len-gt-GATHERED-clause-told : goal.returns-then-len-gt-GATHERED-clause-told
returns-then-len-gt-GATHERED-clause-told g c p honest s names events ev w next before apart is h quiet =
    let longer : c.extend.new.self ≡ c.args.lines.now ++ c.args.line.now = search rules in
    let all = events ++ ev ∷ [] in
    c.flush.ensures.told p honest s names all all next before apart is
    (subst (λ (l : List ℕ). HasTold s names all all next l c.args.script.now before
    (g.W.World.shows p c.args.world.now)) (sym longer)
    (quiet_told s names events w _ c.args.script.now before _ ev h c.args.line.now next quiet))
