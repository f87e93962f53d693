-- What an event leaves is written: its records, and then its line.
use Rattle.std.proofs.Common.{◌≡◌, ℕ, List, [], ◌∷◌, ◌++◌, sym, append_assoc, subst}
use Rattle.world_io.specs.World.{Shown}
use Rattle.output_files.specs.Writes.{Write, Appends, Reports, HasWritten, HasBegun, HasGathered}
use Rattle.output_files.proofs.Effects.{begun_before, gathered_begun, line_gathered, none_gathered}

module _ (writes : List Write) (name records line : List ℕ) (a : Shown) where
  all_same : (writes ++ Appends name records ∷ []) ++ Reports line ∷ []
      ≡ writes ++ (Appends name records ∷ Reports line ∷ [])
  all_same = append_assoc writes (Appends name records ∷ []) (Reports line ∷ [])

  pub reply_begun : (b : Shown) → HasBegun (writes ++ Appends name records ∷ []) a b
      → HasBegun (writes ++ (Appends name records ∷ Reports line ∷ [])) a b
  reply_begun b h =
      subst (λ (ws : List Write). HasBegun ws a b) all_same
      (begun_before (writes ++ Appends name records ∷ []) (Reports line ∷ []) a b h)

  pub reply_lines_begun : (lines : List ℕ) (b : Shown) → HasGathered (writes ++ Appends name records ∷ []) lines a b
      → HasBegun (writes ++ (Appends name records ∷ Reports line ∷ [])) a b
  reply_lines_begun lines b h =
      subst (λ (ws : List Write). HasBegun ws a b) all_same
      (gathered_begun (writes ++ Appends name records ∷ []) (Reports line ∷ []) lines a b h)

  pub reply_gathered : (lines more : List ℕ) (b : Shown) → more ≡ lines ++ line
      → HasGathered (writes ++ Appends name records ∷ []) lines a b
      → HasGathered (writes ++ (Appends name records ∷ Reports line ∷ [])) more a b
  reply_gathered lines more b more_is h =
      subst (λ (l : List ℕ). HasGathered (writes ++ (Appends name records ∷ Reports line ∷ [])) l a b) (sym more_is)
      (subst (λ (ws : List Write). HasGathered ws (lines ++ line) a b) all_same
      (line_gathered (writes ++ Appends name records ∷ []) lines line a b h))

-- no line is gathered after they were written
pub lines_gone : (writes : List Write) (lines : List ℕ) (a b : Shown) → lines ≡ [] → HasWritten writes a b
    → HasGathered writes lines a b
lines_gone writes lines a b none h =
    subst (λ (l : List ℕ). HasGathered writes l a b) (sym none) (none_gathered writes a b h)
