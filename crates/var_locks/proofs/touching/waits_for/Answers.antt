use Rattle.std.proofs.Common.{ℕ, sym, subst, Option}
use Rattle.std.specs.Prelude.{IfSome, IfNone}
use Rattle.replay_guide.specs.Turns.{WaitsFor}
use Rattle.var_locks.specs.Notes.{LetsPass}
use Rattle.var_locks.proofs.Turning.{entry_waits, none_waits}
use Rattle.var_locks.proofs.touching.waits_for.Goals as goal

pub returns : goal.returns
returns c =
    let g = c.args.guide.now in
    let a = c.args.access in record {
      waits = subst (λ (o : Option (ℕ × ℕ)).
          IfSome o (λ e. WaitsFor g a.thread c.args.number a.var a.read c.args.places c.args.readers.now e.0 e.1))
          (sym c.entry_of.ensures)
          (entry_waits g a.thread c.args.number a.var a.read c.args.places c.args.readers.now c.turn.result
          c.turn.ensures.wait);
      goes = subst (λ (o : Option (ℕ × ℕ)).
          IfNone o (LetsPass g a.thread c.args.number a.var a.read c.args.places c.args.readers.now))
          (sym c.entry_of.ensures)
          (none_waits g a.thread c.args.number a.var a.read c.args.places c.args.readers.now c.turn.result
          c.turn.ensures.follow c.turn.ensures.free);
    }
