use Rattle.std.proofs.Common.{rules, ℕ, subst}
use base.Stored.{Gv}
use mathlib.Core.Option.{none}
use Rattle.std.specs.Prelude.{option_copied}
use Rattle.atomic_table.specs.Table.{Allows, step}
use Rattle.var_locks.specs.declared.view.Note.{Note}
use Rattle.var_locks.specs.Codes.{note_code}
use Rattle.var_locks.specs.Notes.{own_note}
use Rattle.var_locks.specs.Plays.{Notes}
use Rattle.var_locks.specs.Told.{IsTold}
use Rattle.var_locks.proofs.Stepping.{note_allows}
use Rattle.var_locks.proofs.Seeing.{own_unseen}
use Rattle.var_locks.proofs.Naming.{allows_of}
use Rattle.var_locks.proofs.Apart.{words_in}
use Rattle.var_locks.proofs.steps.note_as.Goals as goal

pub load-requires : goal.load-requires
load-requires g c =
    let q = c.args.program.now in
    let of = c.requires.of in
    let x = c.requires.next.0 in
    let may = c.requires.next.1 in
    let n : Note g.row.P-Value.Denot =
    own_note c.args.made.before.now c.args.made.after.now c.args.made.trace.now (option_copied c.args.packet) in
    let slots : ℕ = c.args.shared.now.table_id.slots in (
      search rules,
      search rules,
      allows_of g.P.Program.meaning g.P.Program.fits g.row.P.coded g.row.P-Value.coded g.J.Round.program
          g.J.Round.opening g.J.Round.guide q of.master of.is of.opens slots c.args.token.now.id c.args.token.now.me
          c.args.word (λ k. k)
          (Notes (note_code g.row.P-Value.coded) g.N.News.note (step slots c.args.word 0 0 none) c.args.token.now.me)
          (subst (λ (z : Gv). Allows (IsTold (g.P.Program.meaning q) (g.P.Program.fits q) g.J.Round.guide of.master)
          slots c.args.token.now.id c.args.token.now.me c.args.word (λ k. k)
          (Notes (note_code g.row.P-Value.coded) z (step slots c.args.word 0 0 none) c.args.token.now.me))
          c.requires.code
          (note_allows (g.P.Program.meaning q) (g.P.Program.fits q) g.J.Round.guide of.master c.args.token.now.id
          c.args.token.now.me.0 x may.next.alone may.next.going n may.next.before may.next.guided may.next.room may.own
          may.empty (own_unseen (g.P.Program.meaning q) x.thread n c.args.token.now.me.0.seen may.own)
          g.row.P-Value.coded c.args.token.now.me.1 slots c.args.word
          (words_in (g.P.Program.meaning q).vars of.master.threads g.J.Round.threads of.threads
          c.args.shared.now.table_id.words of.words_are c.args.word c.requires.word_in))),
    )
