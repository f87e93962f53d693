-- Where an event ended, the system is at the world of it.
use Rattle.std.proofs.Common.{List, [], ◌∷◌, Result, Ok, Err}
use Rattle.std.specs.Prelude.{OnOk}
use Rattle.std.specs.Result.{IsOk}
use Rattle.access_log.specs.declared.entry.Output.{Output}
use Rattle.plain_machine.specs.Program.{Meaning}
use Rattle.recovery_world.specs.declared.event.Event.{Event}
use Rattle.event_replies.specs.declared.reply.Reply.{Reply as SystemReply}
use Rattle.event_replies.specs.declared.reply.Stop.{Stop}
use Rattle.run_command.specs.FromRecoveryCore.{Systemed}
use Rattle.run_command.specs.Running.{ComesTo}
use Rattle.live_command.specs.Going.{MovesBy}
use Rattle.live_command.proofs.TellingSteps.{does_one}

pub moves_again : {A E P V : Type 0} (r : Result A E) (m : Meaning V) (ev : Event) (reply : Result SystemReply Stop)
    (outputs : List Output) (y new : Systemed P V) → OnOk r (IsOk reply) → ComesTo m ev reply outputs y new
    → OnOk r (MovesBy m (ev ∷ []) y new)
moves_again (Ok x) m ev (Ok reply) outputs y new ended comes = λ s w at.
    let came = comes s w at in
    (came.0, does_one s w came.0 ev reply.outcome came.1 came.2, came.5)
moves_again (Ok x) m ev (Err e) outputs y new ended comes = absurd (cc)
moves_again (Err e) m ev reply outputs y new ended comes = tt
