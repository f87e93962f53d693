use Rattle.std.proofs.Common.{rules, ◌≢◌, ℕ, ◌<◌, List, length, sym, ap, ◌∙◌, subst, nat_eq, true≢false}
use mathlib.Core.Option.{none}
use Rattle.master_core.specs.declared.parts.ThreadPart.{ThreadPart}
use Rattle.atomic_table.specs.Table.{Allows, step}
use Rattle.var_locks.specs.declared.view.MissedEntry.{MissedEntry}
use Rattle.var_locks.specs.declared.view.View.{View}
use Rattle.var_locks.specs.Words.{thread_word}
use Rattle.var_locks.specs.Plays.{Misses}
use Rattle.var_locks.specs.Told.{IsTold, WasGoingOf}
use Rattle.var_locks.proofs.Missing.{miss_allows}
use Rattle.var_locks.proofs.Naming.{allows_of, going_of}
use Rattle.var_locks.proofs.steps.misses_as.Goals as goal

pub load-requires : goal.load-requires
load-requires g c =
    let q = c.args.program.now in
    let of = c.requires.of in
    let h = c.requires.waits in
    let may = h.5 in
    let slots : ℕ = c.args.shared.now.table_id.slots in
    let known : View g.row.P-Value.Denot → ℕ → Type 0 = WasGoingOf g.P.Program.meaning g.P.Program.fits g.row.P.coded
    g.row.P-Value.coded g.J.Round.program g.J.Round.opening g.J.Round.guide in (
      search rules,
      search rules,
      subst (λ (i : ℕ). Allows (Rattle.var_locks.specs.Told.IsToldOf g.P.Program.meaning g.P.Program.fits g.row.P.coded
          g.row.P-Value.coded g.J.Round.program g.J.Round.opening g.J.Round.guide) slots c.args.token.now.id
          c.args.token.now.me i (λ z. z) (Misses known g.N.Named.entry (step slots i 0 0 none) c.args.token.now.me))
          (sym c.requires.word_is)
          (allows_of g.P.Program.meaning g.P.Program.fits g.row.P.coded g.row.P-Value.coded g.J.Round.program
          g.J.Round.opening g.J.Round.guide q of.master of.is of.opens slots c.args.token.now.id c.args.token.now.me
          (thread_word (g.P.Program.meaning q).vars c.args.missed.thread) (λ z. z)
          (Misses known g.N.Named.entry (step slots (thread_word (g.P.Program.meaning q).vars c.args.missed.thread) 0 0 none)
          c.args.token.now.me)
          (subst (λ (f : MissedEntry).
          Allows (IsTold (g.P.Program.meaning q) (g.P.Program.fits q) g.J.Round.guide of.master) slots
          c.args.token.now.id c.args.token.now.me (thread_word (g.P.Program.meaning q).vars c.args.missed.thread)
          (λ z. z)
          (Misses known f (step slots (thread_word (g.P.Program.meaning q).vars c.args.missed.thread) 0 0 none)
          c.args.token.now.me)) c.requires.named
          (miss_allows (g.P.Program.meaning q) (g.P.Program.fits q) g.J.Round.guide of.master c.args.token.now.id
          c.args.token.now.me.0 c.args.missed h.0 h.4 may.hand may.places_are h.1 h.2 h.3
          (subst (λ (l : List ThreadPart). c.args.missed.thread < length l) (sym of.threads) c.requires.thread_in)
          may.waits known
          (going_of g.P.Program.meaning g.P.Program.fits g.row.P.coded g.row.P-Value.coded g.J.Round.program
          g.J.Round.opening g.J.Round.guide q of.master of.is of.opens c.args.token.now.me.0 c.args.missed.thread)
          c.args.token.now.me.1 slots))),
    )

pub returns-clause-at_work : goal.returns-clause-at_work
returns-clause-at_work g c is =
    let other : c.load.result ≢ 1 = λ one. true≢false (sym (ap (λ (n : ℕ). nat_eq n 1) one) ∙ is) in
    subst (λ (e : MissedEntry). WasGoingOf g.P.Program.meaning g.P.Program.fits g.row.P.coded g.row.P-Value.coded
    g.J.Round.program g.J.Round.opening g.J.Round.guide c.args.token.now.me.0 e.thread) (sym c.requires.named)
    (c.load.ensures.2.1 other).1
