use Rattle.std.proofs.Common.{◌∙◌, List, ℕ, ap, subst, sym}
use Rattle.pcapng_io.specs.Captured.{SaysAny}
use Rattle.input_files.proofs.Records.{capture_judged}
use Rattle.input_files.proofs.capture_file.read_capture_file.Goals as goal

pub returns-clause-judged : goal.returns-clause-judged
returns-clause-judged g c = λ p h.
    let taken = c.read_buffered.ensures.reads in
    let last = c.world-1.given.1 (sym c.of-source.ensures.same_reference ∙ sym taken.1.0) in
    let here = subst (λ w. g.W.World.honest p w) last h in
    let read = (taken.1.1.1.honest_read p here).0 in
    let opened = c.in-Ok.ensures.shows p (subst (λ w. g.W.World.honest p w) c.of-source.ensures.world read) in
    let left = ap (λ w. (g.W.World.shows p w).left c.of-source.result.file) c.of-source.ensures.world
    ∙ ap (λ (file : ℕ). (g.W.World.shows p c.open_file.new.self).left file) c.of-source.ensures.file in
    let says =
    subst (λ (bytes : List ℕ). SaysAny bytes c.read_buffered.result) left (c.read_buffered.ensures.shows p here) in
    capture_judged (g.W.World.healthy c.args.world.now) c.args.name.now (g.W.World.shows p c.args.world.now)
    c.accepted.result
    (λ read.
    ((g.W.World.shows p c.open_file.new.self).left c.in-Ok.file, opened.left, c.accepted.ensures.says _ says read))
    (λ healthy failed.
    let kept =
    subst (λ w. g.W.World.healthy w) (sym c.of-source.ensures.world) (c.in-Ok.ensures.stays_healthy healthy) in
    (c.read_buffered.ensures.cause (c.accepted.ensures.failed failed)).not_healthy kept)
