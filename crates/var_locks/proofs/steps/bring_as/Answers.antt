use Rattle.std.proofs.Common.{rules, ℕ, List, [], sym, subst}
use base.Stored.{Gv}
use mathlib.Core.Option.{none}
use Rattle.master_core.specs.declared.parts.VarPart.{VarPart}
use Rattle.atomic_table.specs.Table.{Allows, step}
use Rattle.var_locks.specs.declared.view.Note.{Note}
use Rattle.var_locks.specs.Codes.{note_code}
use Rattle.var_locks.specs.Words.{var_word}
use Rattle.var_locks.specs.Views.{note_on}
use Rattle.var_locks.specs.Plays.{Brings}
use Rattle.var_locks.specs.Told.{IsTold, IsToldOf}
use Rattle.var_locks.proofs.Stepping.{bring_allows}
use Rattle.var_locks.proofs.Seeing.{on_seen}
use Rattle.var_locks.proofs.Naming.{allows_of}
use Rattle.var_locks.proofs.steps.bring_as.Goals as goal

pub store-requires : goal.store-requires
store-requires g c =
    let q = c.args.program.now in
    let of = c.requires.of in
    let x = c.requires.next.0 in
    let y = c.requires.next.1 in
    let found = c.requires.next.2 in
    let place = c.requires.next.3 in
    let e = c.requires.next.4 in
    let holds = c.requires.next.5 in
    let may = c.requires.next.6 in
    let n : Note g.row.P-Value.Denot =
    note_on c.args.made.before.now c.args.made.after.now c.args.made.trace.now c.args.token.now.me.0 in
    let slots : ℕ = c.args.shared.now.table_id.slots in
    let w = c.args.token.now.me.0 in
    let seen =
    on_seen (g.P.Program.meaning q) x.thread c.args.var n found y place e c.args.token.now.me.0.seen may.on in (
      search rules,
      search rules,
      subst (λ (i : ℕ). Allows
          (IsToldOf g.P.Program.meaning g.P.Program.fits g.row.P.coded g.row.P-Value.coded g.J.Round.program
          g.J.Round.opening g.J.Round.guide) slots c.args.token.now.id c.args.token.now.me i (λ _. c.args.word)
          (λ _. Brings (note_code g.row.P-Value.coded) g.N.News.note (step slots i c.args.word 0 none)
          c.args.token.now.me c.args.word)) (sym c.var_word.ensures)
          (allows_of g.P.Program.meaning g.P.Program.fits g.row.P.coded g.row.P-Value.coded g.J.Round.program
          g.J.Round.opening g.J.Round.guide q of.master of.is of.opens slots c.args.token.now.id c.args.token.now.me
          (var_word c.args.var) (λ _. c.args.word)
          (λ _. Brings (note_code g.row.P-Value.coded) g.N.News.note
          (step slots (var_word c.args.var) c.args.word 0 none) c.args.token.now.me c.args.word)
          (subst (λ (z : Gv). Allows (IsTold (g.P.Program.meaning q) (g.P.Program.fits q) g.J.Round.guide of.master)
          slots c.args.token.now.id c.args.token.now.me (var_word c.args.var) (λ _. c.args.word)
          (λ _. Brings (note_code g.row.P-Value.coded) z (step slots (var_word c.args.var) c.args.word 0 none)
          c.args.token.now.me c.args.word)) c.requires.code
          (subst (λ (l : List (ℕ × VarPart g.row.P-Value.Denot)).
          Allows (IsTold (g.P.Program.meaning q) (g.P.Program.fits q) g.J.Round.guide of.master) slots
          c.args.token.now.id (c.args.token.now.me.0, l) (var_word c.args.var) (λ _. c.args.word)
          (λ _. Brings (note_code g.row.P-Value.coded) ((note_code g.row.P-Value.coded).code n)
          (step slots (var_word c.args.var) c.args.word 0 none) (c.args.token.now.me.0, l) c.args.word)) (sym holds)
          (bring_allows (g.P.Program.meaning q) (g.P.Program.fits q) g.J.Round.guide of.master c.args.token.now.id
          c.args.token.now.me.0 x may.next.alone may.next.going n may.next.before may.next.guided may.next.room
          c.args.var c.requires.var_in found y place e may.hand may.on may.fit seen.0 seen.1 g.row.P-Value.coded []
          slots c.args.word may.word_is)))),
    )
