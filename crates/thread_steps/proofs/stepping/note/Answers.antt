use Rattle.std.proofs.Common.{sym, subst}
use Rattle.thread_steps.specs.Stepping.{NotesMove}
use Rattle.thread_steps.proofs.NoteLemmas.{notes_output}
use Rattle.thread_steps.proofs.stepping.note.Goals as goal

pub returns-in_ok-send_output-in-Emitted : goal.returns-in_ok-send_output-in-Emitted
returns-in_ok-send_output-in-Emitted g c =
    let moved = subst (λ q. NotesMove c.args.thread c.args.answer c.len.result c.args.core.now q)
    (sym c.core-in-Emitted.view_is) c.in_ok-note_move-in-Emitted.ensures.noted in
    notes_output c.args.thread c.args.answer c.args.stepped c.in-Emitted.output c.len.result c.args.core.now _
    c.send_output.new.self c.in-Emitted.is c.len.ensures moved
    (c.in_ok-send_output-in-Emitted.ensures.there, c.in_ok-send_output-in-Emitted.ensures.ok)
