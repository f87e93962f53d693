use Rattle.std.proofs.Common.{rules, ◌≡◌, ℕ, eqb, ◌+◌, ◌∷◌, refl, sym, ap, ◌∙◌, subst}
use Rattle.master_core.specs.declared.parts.VarPart.{VarPart}
use mathlib.Core.Option.{none}
use prog.Atomic.{either}
use Rattle.atomic_table.specs.Table.{Me, Allows, step}
use Rattle.var_locks.specs.declared.view.View.{View}
use Rattle.var_locks.specs.Words.{var_word}
use Rattle.var_locks.specs.Views.{with_hand}
use Rattle.var_locks.specs.Told.{IsToldOf}
use Rattle.var_locks.specs.Plays.{Takes, Finds}
use Rattle.var_locks.proofs.Stepping.{take_allows, one_share}
use Rattle.var_locks.proofs.Apart.{same_var}
use Rattle.var_locks.proofs.Naming.{allows_of, fits_of}
use Rattle.var_locks.proofs.steps.try_take.Goals as goal

pub compare_exchange-found-requires : goal.compare_exchange-found-requires
compare_exchange-found-requires g c =
    let q = c.args.program.now in
    let of = c.requires.of in
    let idle = c.requires.idle in
    let me : Me (VarPart g.row.P-Value.Denot) (View g.row.P-Value.Denot) = c.args.token.now.me in (
      search rules,
      search rules,
      subst (λ (i : ℕ). Allows
          (IsToldOf g.P.Program.meaning g.P.Program.fits g.row.P.coded g.row.P-Value.coded g.J.Round.program
          g.J.Round.opening g.J.Round.guide) c.args.shared.now.table_id.slots c.args.token.now.id
          c.args.token.now.me i (λ n. either (eqb n c.peek-word.result) (c.peek-word.result + 1) n)
          (Takes g.P.Program.fits g.row.P.coded g.J.Round.program
          (step c.args.shared.now.table_id.slots i c.peek-word.result (c.peek-word.result + 1) none)
          c.args.token.now.me)) (sym c.var_word-index.ensures)
          (allows_of g.P.Program.meaning g.P.Program.fits g.row.P.coded g.row.P-Value.coded g.J.Round.program
          g.J.Round.opening g.J.Round.guide q of.master of.is of.opens c.args.shared.now.table_id.slots
          c.args.token.now.id c.args.token.now.me (var_word c.args.var)
          (λ n. either (eqb n c.peek-word.result) (c.peek-word.result + 1) n)
          (Takes g.P.Program.fits g.row.P.coded g.J.Round.program
          (step c.args.shared.now.table_id.slots (var_word c.args.var) c.peek-word.result (c.peek-word.result + 1) none)
          c.args.token.now.me)
          (take_allows (g.P.Program.meaning q) (g.P.Program.fits q) g.J.Round.guide of.master c.args.token.now.id
          c.args.var c.requires.var_in c.args.token.now.me.0 idle.1.empty idle.0
          (one_share c.args.token.now.me.0.shares idle.0 idle.1.alone) g.P.Program.fits g.row.P.coded
          g.J.Round.program (λ r code z fit. fits_of g.P.Program.meaning g.P.Program.fits g.row.P.coded
          g.row.P-Value.coded g.J.Round.program g.J.Round.opening g.J.Round.guide q of.master of.is of.opens c.args.var
          z fit r code) c.args.token.now.me.1 c.args.shared.now.table_id.slots c.peek-word.result
          (c.peek-word.result + 1) c.if-word-eq0.true refl)),
    )

pub returns-then-found-word-clause-taken : goal.returns-then-found-word-clause-taken
returns-then-found-word-clause-taken g c =
    let k = c.compare_exchange-found.ensures.2.0 c.if-found-word.true in
    let same : k.0 ≡ c.args.var = sym (same_var c.args.var k.0 (sym c.var_word-index.ensures ∙ k.2)) in (
      k.1,
      subst (λ (n : ℕ). Finds g.P.Program.fits g.row.P.coded g.J.Round.program c.args.token.now.me.0 c.args.var n k.1)
          c.if-found-word.true (subst (λ (v : ℕ).
          Finds g.P.Program.fits g.row.P.coded g.J.Round.program c.args.token.now.me.0 v
          c.compare_exchange-found.result k.1) same k.3),
      k.4 ∙ ap (λ (v : ℕ).
          let r : Me (VarPart g.row.P-Value.Denot) (View g.row.P-Value.Denot) =
          (with_hand c.args.token.now.me.0 v k.1, (v, k.1) ∷ c.args.token.now.me.1) in
          r) same,
    )
