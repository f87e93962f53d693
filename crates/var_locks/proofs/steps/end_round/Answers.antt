use Rattle.std.proofs.Common.{rules, ℕ, sym, subst}
use mathlib.Core.Option.{none}
use Rattle.atomic_table.specs.Table.{Allows, step}
use Rattle.var_locks.specs.Words.{thread_word}
use Rattle.var_locks.specs.Plays.{Ends}
use Rattle.var_locks.specs.Told.{IsToldOf}
use Rattle.var_locks.proofs.Stepping.{end_allows}
use Rattle.var_locks.proofs.Naming.{allows_of}
use Rattle.var_locks.proofs.steps.end_round.Goals as goal

pub store-requires : goal.store-requires
store-requires g c =
    let q = c.args.program.now in
    let of = c.requires.of in
    let h = c.requires.idle in
    let x = h.0 in
    let slots : ℕ = c.args.shared.now.table_id.slots in (
      search rules,
      search rules,
      subst (λ (i : ℕ). Allows
          (IsToldOf g.P.Program.meaning g.P.Program.fits g.row.P.coded g.row.P-Value.coded g.J.Round.program
          g.J.Round.opening g.J.Round.guide) slots c.args.token.now.id c.args.token.now.me i (λ _. 1)
          (λ _. Ends (step slots i 1 0 none) c.args.token.now.me 1)) (sym h.2)
          (allows_of g.P.Program.meaning g.P.Program.fits g.row.P.coded g.row.P-Value.coded g.J.Round.program
          g.J.Round.opening g.J.Round.guide q of.master of.is of.opens slots c.args.token.now.id c.args.token.now.me
          (thread_word (g.P.Program.meaning q).vars x.thread) (λ _. 1)
          (λ _. Ends (step slots (thread_word (g.P.Program.meaning q).vars x.thread) 1 0 none) c.args.token.now.me 1)
          (end_allows (g.P.Program.meaning q) (g.P.Program.fits q) g.J.Round.guide of.master c.args.token.now.id
          c.args.token.now.me.0 x h.1.alone h.1.empty c.args.token.now.me.1 slots)),
    )
