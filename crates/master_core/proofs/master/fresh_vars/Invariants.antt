use Rattle.std.proofs.Common.{◌≡◌, ◌<◌, ℕ, length}
use Rattle.std.specs.Prelude.{slice_index_or}
use Rattle.master_core.specs.declared.parts.VarPart.{VarPart}
use Rattle.master_core.specs.Effects.{fresh_var}
use Rattle.master_core.proofs.master.fresh_vars.Given as goal

-- the first variables have their fresh values
abbrev pub invariant-loop-var : goal.invariant-loop-var
invariant-loop-var g l = record {
  count : length l.vars.items ≡ l.var;
  each : (v : ℕ) (d : VarPart _) → v < l.var
      → slice_index_or l.vars.items v d ≡ fresh_var (g.P.Program.meaning l.program) v;
}
