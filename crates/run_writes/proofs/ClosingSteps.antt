-- The end of a run is written: the schedule, and then the last line.
use Rattle.std.proofs.Common.{ℕ, List, [], ◌∷◌, ◌++◌, append_assoc, subst, Result}
use Rattle.world_io.specs.World.{Shown}
use Rattle.output_files.specs.declared.error.OutputError.{OutputError}
use Rattle.output_files.specs.Writes.{Write, Appends, Reports, HasWritten, HasBegun}
use Rattle.output_files.specs.Written.{Writes}
use Rattle.output_files.proofs.Effects.{begun_before, begun_behind, then_writes, written_more}

module _ (writes : List Write) (name schedule last : List ℕ) (a c d : Shown) (written : HasWritten writes a c) where
  pub schedule_begun : HasBegun (Appends name schedule ∷ []) c d
      → HasBegun (writes ++ (Appends name schedule ∷ Reports last ∷ [])) a d
  schedule_begun begun =
      begun_behind writes (Appends name schedule ∷ Reports last ∷ []) a c d written
      (begun_before (Appends name schedule ∷ []) (Reports last ∷ []) c d begun)

  pub closed : {A : Type 0} (r : Result A OutputError) (e : Shown) → HasWritten (Appends name schedule ∷ []) c d
      → Writes r (Reports last ∷ []) d e → Writes r (writes ++ (Appends name schedule ∷ Reports last ∷ [])) a e
  closed r e schedule_written last_written =
      subst (λ (ws : List Write). Writes r ws a e)
      (append_assoc writes (Appends name schedule ∷ []) (Reports last ∷ []))
      (then_writes r (writes ++ Appends name schedule ∷ []) (Reports last ∷ []) a d e
      (written_more writes (Appends name schedule ∷ []) a c d written schedule_written) last_written)
