use Rattle.std.proofs.Common.{◌≡◌, ◌∙◌, List, ℕ, ap, subst, sym}
use Rattle.plain_text.specs.declared.limit.TheConstants.{MOST_FILE_BYTES}
use Rattle.input_files.proofs.Fronts.{front_judged, some_taken}
use Rattle.input_files.proofs.texts.read_front_of.Goals as goal

pub returns-clause-judged : goal.returns-clause-judged
returns-clause-judged g c = λ p h.
    let taken = some_taken _ c.read_front.result MOST_FILE_BYTES _ _ c.read_front.ensures.reads in
    let last = c.world-1.given.1 (sym c.of-source.ensures.same_reference ∙ sym taken.1.0) in
    let here = subst (λ w. g.W.World.honest p w) last h in
    let read = (taken.1.1.1.honest_read p here).0 in
    let opened = c.in-Ok.ensures.shows p (subst (λ w. g.W.World.honest p w) c.of-source.ensures.world read) in
    let left = ap (λ w. (g.W.World.shows p w).left c.of-source.result.file) c.of-source.ensures.world
    ∙ ap (λ (file : ℕ). (g.W.World.shows p c.open_file.new.self).left file) c.of-source.ensures.file in
    front_judged _ (g.W.World.healthy c.args.world.now) c.args.name.now (g.W.World.shows p c.args.world.now)
    c.read_front.result _ _ _ _ _ c.read_front.ensures.reads (c.read_front.ensures.ends p here) left opened.left
    (λ failed healthy.
    let kept =
    subst (λ w. g.W.World.healthy w) (sym c.of-source.ensures.world) (c.in-Ok.ensures.stays_healthy healthy) in
    (c.read_front.ensures.cause failed).not_healthy kept)
