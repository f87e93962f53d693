use Rattle.std.proofs.Common.{◌+◌, sym, ap, subst, List, Option}
use Rattle.std.specs.Prelude.{option_copied}
use Rattle.plain_text.specs.declared.packet.Packet.{Packet}
use Rattle.access_log.specs.Held.{Lane}
use Rattle.var_locks.specs.Seats.{Seated}
use Rattle.var_locks.specs.Plain.{Steps, IsFree}
use Rattle.var_locks.proofs.vars.Vars.make_own.Goals as goal

pub returns-in_default : goal.returns-in_default
returns-in_default g c = record {
  steps = subst (λ (i : Option Packet). Steps (g.P.Program.meaning c.args.program.now) g.J.Round.guide c.args.seat.now
      c.args.answer i c.take.new.seat c.take.result) (sym (ap option_copied c.in-Some-input.is))
      (c.take.ensures.steps c.args.answer);
}

pub returns-in-Clock : goal.returns-in-Clock
returns-in-Clock g c = record {
  steps = c.hear.ensures.steps c.args.answer (subst (λ (l : List Lane).
      IsFree l c.args.seat.now.thread (c.args.seat.now.part.counts.entries + 1) c.told_to-told.result c.args.answer)
      c.requires.guide
      (subst (λ (s : Seated g.row.P-Value.Denot).
      IsFree c.args.guide.now s.thread (s.part.counts.entries + 1) c.told_to-told.result c.args.answer) c.seat.view_is
      c.told_to-told.ensures.free));
}

pub returns-in-Draw : goal.returns-in-Draw
returns-in-Draw g c = record {
  steps = c.hear-in-Draw.ensures.steps c.args.answer (subst (λ (l : List Lane). IsFree l c.args.seat.now.thread
      (c.args.seat.now.part.counts.entries + 1) c.told_to-told-in-Draw.result c.args.answer) c.requires.guide
      (subst (λ (s : Seated g.row.P-Value.Denot).
      IsFree c.args.guide.now s.thread (s.part.counts.entries + 1) c.told_to-told-in-Draw.result c.args.answer)
      c.seat.view_is c.told_to-told-in-Draw.ensures.free));
}

pub returns-in-Emit : goal.returns-in-Emit
returns-in-Emit g c = record {
  steps = subst (λ (i : Option Packet). Steps (g.P.Program.meaning c.args.program.now) g.J.Round.guide c.args.seat.now
      c.args.answer i c.emit.new.seat c.emit.result) (sym (ap option_copied c.unwrap.ensures))
      (c.emit.ensures.steps c.args.answer);
}

pub returns-in-End : goal.returns-in-End
returns-in-End g c = record {
  steps = c.finish.ensures.steps c.args.answer;
}
