use Rattle.std.proofs.Common.{rules, ℕ, List, [], sym, subst}
use mathlib.Core.Option.{none}
use Rattle.master_core.specs.declared.parts.VarPart.{VarPart}
use Rattle.atomic_table.specs.Table.{Allows, step}
use Rattle.var_locks.specs.Words.{var_word}
use Rattle.var_locks.specs.Plays.{Gives}
use Rattle.var_locks.specs.Told.{IsTold, IsToldOf}
use Rattle.var_locks.proofs.Stepping.{give_allows}
use Rattle.var_locks.proofs.Naming.{allows_of}
use Rattle.var_locks.proofs.steps.give_back.Goals as goal

pub store-requires : goal.store-requires
store-requires g c =
    let q = c.args.program.now in
    let of = c.requires.of in
    let h = c.requires.found in
    let slots : ℕ = c.args.shared.now.table_id.slots in (
      search rules,
      search rules,
      subst (λ (i : ℕ). Allows
          (IsToldOf g.P.Program.meaning g.P.Program.fits g.row.P.coded g.row.P-Value.coded g.J.Round.program
          g.J.Round.opening g.J.Round.guide) slots c.args.token.now.id c.args.token.now.me i (λ _. c.args.word)
          (λ _. Gives (step slots i c.args.word 0 none) c.args.token.now.me c.args.word)) (sym c.var_word.ensures)
          (allows_of g.P.Program.meaning g.P.Program.fits g.row.P.coded g.row.P-Value.coded g.J.Round.program
          g.J.Round.opening g.J.Round.guide q of.master of.is of.opens slots c.args.token.now.id c.args.token.now.me
          (var_word c.args.var) (λ _. c.args.word)
          (λ _. Gives (step slots (var_word c.args.var) c.args.word 0 none) c.args.token.now.me c.args.word)
          (subst (λ (l : List (ℕ × VarPart g.row.P-Value.Denot)).
          Allows (IsTold (g.P.Program.meaning q) (g.P.Program.fits q) g.J.Round.guide of.master) slots
          c.args.token.now.id (c.args.token.now.me.0, l) (var_word c.args.var) (λ _. c.args.word)
          (λ _. Gives (step slots (var_word c.args.var) c.args.word 0 none) (c.args.token.now.me.0, l) c.args.word))
          (sym h.2)
          (give_allows (g.P.Program.meaning q) (g.P.Program.fits q) g.J.Round.guide of.master c.args.token.now.id
          c.args.var c.requires.var_in c.args.token.now.me.0 h.0 h.1 [] slots c.args.word h.3))),
    )
