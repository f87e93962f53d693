use Rattle.std.proofs.Common.{◌≡◌, ◌++◌, [], append-nil, sym, rules, Err, refl}
use Rattle.run_writes.specs.declared.error.RunError.TheVariants as run
use Rattle.live_command.proofs.EventsGone.{fails_same}
use Rattle.live_command.proofs.LinesGone.{lived_begun}
use Rattle.live_command.proofs.settling.arrive_all.Goals as goal

pub returns-in_err-frames-clause-told : goal.returns-in_err-frames-clause-told
returns-in_err-frames-clause-told g c p honest s names events w before apart is lived =
    let e : c.from_residual.result ≡ Err run.NoMemory = search rules in
    rw e (
      [],
      (_, refl),
      fails_same run.NoMemory s names events (events ++ []) before _ (sym (append-nil events))
          (lived_begun _ s names events w c.args.system.now c.args.lines.now c.args.script.now before _ lived),
    )
