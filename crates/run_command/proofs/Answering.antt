-- What an event left is written, by what it came to.
use Rattle.std.proofs.Common.{◌≡◌, ℕ, List, [], ◌++◌, refl, sym, append-nil, subst, Result, Ok, Err}
use Rattle.std.specs.Prelude.{⊤, All, OnOk}
use Rattle.plain_text.specs.declared.limit.Limit.{Limit}
use Rattle.access_log.specs.declared.entry.Output.{Output}
use Rattle.world_io.specs.World.{Shown}
use Rattle.recovery_world.specs.declared.event.Event.{Event}
use Rattle.recovery_world.specs.World.{Sent}
use Rattle.recovery_world.specs.Files.{reply_line, sent_names}
use Rattle.event_replies.specs.declared.reply.Reply.{Reply as SystemReply}
use Rattle.event_replies.specs.declared.reply.Stop.{Stop}
use Rattle.event_replies.specs.declared.reply.Stop.TheVariants as stop
use Rattle.output_files.specs.declared.error.OutputError.{OutputError}
use Rattle.output_files.specs.Writes.{Write, HasBegun, HasGathered}
use Rattle.output_files.specs.Written.{Writes, WritesGathered}
use Rattle.output_files.proofs.Effects.{gathered_begun}
use Rattle.run_writes.specs.declared.error.RunError.{RunError}
use Rattle.run_writes.specs.declared.error.RunError.TheVariants as run
use Rattle.run_writes.specs.Errors.{run_result_of, stopped_result}
use Rattle.run_writes.specs.Replies.{packets_in}
use Rattle.run_writes.specs.Run.{FitsRecord, release_writes, reply_writes}
use Rattle.run_command.specs.Running.{WritesPerformed}

module _ (came : Result SystemReply Stop) (ev : Event) (outputs own : List Output) (writes : List Write)
    (name more : List ℕ) (a b : Shown) (same : outputs ≡ own) where
  pub answer_written : (reply : SystemReply) (r : Result ⊤ RunError) (files : Result ⊤ OutputError) → came ≡ Ok reply
      → r ≡ run_result_of files → OnOk files (All FitsRecord (packets_in outputs))
      → ((freed : List Sent) → reply.released ≡ sent_names freed
      → WritesGathered files
      (writes ++ reply_writes name (record { released = packets_in outputs; line = reply_line ev reply.outcome freed }))
      more a b) → WritesPerformed r came ev (packets_in own) writes name more a b
  answer_written reply r files is made fit written =
      subst (λ (l : List Output). WritesPerformed r came ev (packets_in l) writes name more a b) same
      (subst (λ (x : Result SystemReply Stop). WritesPerformed r x ev (packets_in outputs) writes name more a b)
      (sym is) (λ freed names. (files, made, fit, written freed names)))

  pub stop_written : (limit : Limit) (r : Result ⊤ RunError) (files : Result ⊤ OutputError)
      → came ≡ Err (stop.Limit limit) → r ≡ stopped_result files limit
      → Writes files (writes ++ release_writes name (packets_in outputs)) a b
      → WritesPerformed r came ev (packets_in own) writes name more a b
  stop_written limit r files is made written =
      subst (λ (l : List Output). WritesPerformed r came ev (packets_in l) writes name more a b) same
      (subst (λ (x : Result SystemReply Stop). WritesPerformed r x ev (packets_in outputs) writes name more a b)
      (sym is) (files, made, written))

-- memory ran out before anything was written
pub nothing_written : (came : Result SystemReply Stop) (ev : Event) (own : List Output) (writes : List Write)
    (name lines more : List ℕ) (a b : Shown) → came ≡ Err stop.NoMemory → HasGathered writes lines a b
    → WritesPerformed (Err run.NoMemory) came ev (packets_in own) writes name more a b
nothing_written came ev own writes name lines more a b is gathered =
    subst
    (λ (x : Result SystemReply Stop). WritesPerformed (Err run.NoMemory) x ev (packets_in own) writes name more a b)
    (sym is) (
      refl,
      subst (λ (ws : List Write). HasBegun ws a b) (append-nil writes) (gathered_begun writes [] lines a b gathered),
    )
