use Rattle.std.proofs.Common.{◌≡◌, ◌<◌, ◌∙◌, ap, sym, subst, length, ℕ, Option}
use Rattle.std.specs.Option.{unwrap_or}
use Rattle.entry_order.specs.declared.what.What.{What}
use Rattle.entry_order.specs.Log.{Entry}
use Rattle.recovery_world.specs.Files.{answer_of_entry}
use Rattle.run_end.specs.Playing.{LeadsTo}
use Rattle.run_end.proofs.NextMoves.{fall_next}
use Rattle.run_end.proofs.Rooms.{moves_left}
use Rattle.run_end.proofs.Ways.{LeadsOrMade}
use Rattle.run_end.proofs.Loops.{one_stands, one_on, to_starts, to_low, to_goes, to_over}
use Rattle.run_end.proofs.run.Run.play_to.Goals as goal

-- what is told is the entry's recorded value
told : (what : What) (answer : ℕ) (found : Option ℕ) (e : Entry) → answer ≡ unwrap_or found 0
    → found ≡ answer_of_entry what → what ≡ e.what → answer ≡ unwrap_or (answer_of_entry e.what) 0
told what answer found e is there same = is ∙ (ap (λ (o : Option ℕ). unwrap_or o 0) (there ∙ ap answer_of_entry same))

pub moves-init : goal.moves-init
moves-init g c = record {
  fits = c.requires.fits;
  leads = to_starts (g.P.Program.meaning c.args.program.now) c.args.inputs.now c.args.entry.now c.args.self.now.master
      c.args.self.now.schedule;
}

pub play_next-requires-clause-next : goal.play_next-requires-clause-next
play_next-requires-clause-next g c = λ κs within.
    one_stands (g.P.Program.meaning c.args.program.now) c.args.inputs.now c.entry.inside.thread
    c.unwrap_or-answer.result (LeadsTo (g.P.Program.meaning c.args.program.now) c.args.inputs.now c.args.entry.now)
    (LeadsOrMade (g.P.Program.meaning c.args.program.now) c.args.inputs.now c.args.entry.now) c.args.self.now.master
    c.moves.self.master c.args.self.now.schedule c.moves.self.schedule c.moves.invariant.leads
    (to_goes (g.P.Program.meaning c.args.program.now) c.args.inputs.now c.args.entry.now c.entry.inside.thread
    c.entry.inside.number c.unwrap_or-answer.result (ap (λ (e : Entry). e.thread) c.entry.view_is)
    (ap (λ (e : Entry). e.number) c.entry.view_is)
    (told c.entry.inside.what c.unwrap_or-answer.result c.answer_of.result c.args.entry.now c.unwrap_or-answer.ensures
    c.answer_of.ensures (ap (λ (e : Entry). e.what) c.entry.view_is)) c.moves.self.master c.moves.self.schedule
    c.counts.result c.counts.ensures c.moves-test.true) c.requires.led

pub moves-smaller : goal.moves-smaller
moves-smaller g c =
    subst (λ (u : ℕ). moves_left c.play_next.new.self.master u < moves_left c.moves.self.master u)
    (ap (λ (e : Entry). e.thread) c.entry.view_is)
    (fall_next (g.P.Program.meaning c.args.program.now) (g.P.Program.fits c.args.program.now)
    (g.met.P.Program.lawful c.args.program.now) c.args.inputs.now c.entry.inside.thread c.unwrap_or-answer.result
    c.moves.self.master c.play_next.new.self.master c.moves.self.schedule c.play_next.new.self.schedule c.requires.few
    (one_stands (g.P.Program.meaning c.args.program.now) c.args.inputs.now c.entry.inside.thread
    c.unwrap_or-answer.result (LeadsTo (g.P.Program.meaning c.args.program.now) c.args.inputs.now c.args.entry.now)
    (LeadsOrMade (g.P.Program.meaning c.args.program.now) c.args.inputs.now c.args.entry.now) c.args.self.now.master
    c.moves.self.master c.args.self.now.schedule c.moves.self.schedule c.moves.invariant.leads
    (to_goes (g.P.Program.meaning c.args.program.now) c.args.inputs.now c.args.entry.now c.entry.inside.thread
    c.entry.inside.number c.unwrap_or-answer.result (ap (λ (e : Entry). e.thread) c.entry.view_is)
    (ap (λ (e : Entry). e.number) c.entry.view_is)
    (told c.entry.inside.what c.unwrap_or-answer.result c.answer_of.result c.args.entry.now c.unwrap_or-answer.ensures
    c.answer_of.ensures (ap (λ (e : Entry). e.what) c.entry.view_is)) c.moves.self.master c.moves.self.schedule
    c.counts.result c.counts.ensures c.moves-test.true) c.requires.led) c.in_ok-play_next.ensures.plays)

pub moves-preserved : goal.moves-preserved
moves-preserved g c = record {
  fits = c.play_next.ensures.fits;
  leads =
      one_on (g.P.Program.meaning c.args.program.now) c.args.inputs.now c.entry.inside.thread c.unwrap_or-answer.result
      (LeadsTo (g.P.Program.meaning c.args.program.now) c.args.inputs.now c.args.entry.now)
      (LeadsOrMade (g.P.Program.meaning c.args.program.now) c.args.inputs.now c.args.entry.now) c.args.self.now.master
      c.moves.self.master c.args.self.now.schedule c.moves.self.schedule c.moves.invariant.leads
      (to_goes (g.P.Program.meaning c.args.program.now) c.args.inputs.now c.args.entry.now c.entry.inside.thread
      c.entry.inside.number c.unwrap_or-answer.result (ap (λ (e : Entry). e.thread) c.entry.view_is)
      (ap (λ (e : Entry). e.number) c.entry.view_is)
      (told c.entry.inside.what c.unwrap_or-answer.result c.answer_of.result c.args.entry.now c.unwrap_or-answer.ensures
      c.answer_of.ensures (ap (λ (e : Entry). e.what) c.entry.view_is)) c.moves.self.master c.moves.self.schedule
      c.counts.result c.counts.ensures c.moves-test.true) c.play_next.new.self.master c.play_next.new.self.schedule
      c.in_ok-play_next.ensures.plays;
}

pub returns-clause-plays : goal.returns-clause-plays
returns-clause-plays g c =
    to_over (g.P.Program.meaning c.args.program.now) c.args.inputs.now c.args.entry.now c.entry.inside.thread
    c.entry.inside.number c.unwrap_or-answer.result (ap (λ (e : Entry). e.thread) c.entry.view_is)
    (ap (λ (e : Entry). e.number) c.entry.view_is)
    (told c.entry.inside.what c.unwrap_or-answer.result c.answer_of.result c.args.entry.now c.unwrap_or-answer.ensures
    c.answer_of.ensures (ap (λ (e : Entry). e.what) c.entry.view_is)) c.moves.self.master c.moves.self.schedule
    c.counts.result c.counts.ensures c.moves-test.false c.args.self.now.master c.args.self.now.schedule
    c.moves.invariant.leads

pub counts-requires-after_bounds : goal.counts-requires-after_bounds
counts-requires-after_bounds g c = λ κs within.
    subst (λ (u : ℕ). u < length c.moves.self.master.threads) (sym (ap (λ (e : Entry). e.thread) c.entry.view_is))
    (to_low (g.P.Program.meaning c.args.program.now) c.args.inputs.now c.args.entry.now c.args.self.now.master
    c.moves.self.master c.args.self.now.schedule c.moves.self.schedule c.moves.invariant.leads c.requires.led)
