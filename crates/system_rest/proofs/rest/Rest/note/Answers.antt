use Rattle.std.proofs.Common.{subst}
use Rattle.kept_moves.specs.Keeping.{shown}
use Rattle.thread_steps.specs.Stepping.{Notes}
use Rattle.system_rest.proofs.Noting.{notes_all, passes_all}
use Rattle.system_rest.proofs.rest.Rest.note.Goals as goal

pub returns-clause-on : goal.returns-clause-on
returns-clause-on g c =
    let whole = subst (λ q. Notes c.args.thread c.args.answer (shown c.in_ok-form.form) q c.note_kept.result
    c.note_kept.new.core) c.self.view_is c.note_kept.ensures in
    let n = subst (λ r. Notes c.args.thread c.args.answer r c.args.self.now c.note_kept.result c.note_kept.new.core)
    c.in_ok-form.ensures.shown whole in
    notes_all (g.P.Program.meaning c.args.self.now.program) c.args.thread c.args.answer c.args.kept c.args.self.now
    c.note_kept.new.core c.note_kept.result n

pub returns-clause-limit : goal.returns-clause-limit
returns-clause-limit g c limit is =
    let whole = subst (λ q. Notes c.args.thread c.args.answer (shown c.in_ok-form.form) q c.note_kept.result
    c.note_kept.new.core) c.self.view_is c.note_kept.ensures in
    let n = subst (λ r. Notes c.args.thread c.args.answer r c.args.self.now c.note_kept.result c.note_kept.new.core)
    c.in_ok-form.ensures.shown whole in
    passes_all (g.P.Program.meaning c.args.self.now.program) c.args.thread c.args.answer c.args.kept c.args.self.now
    c.note_kept.new.core c.note_kept.result limit n is
