-- What was written to the report is a prefix of the text that is printed.
use Rattle.std.proofs.Common.{◌≡◌, ℕ, List, [], ◌∷◌, ◌++◌, ap, sym, refl, ◌∙◌, subst, inl, inr, append-nil}
use Rattle.world_io.specs.World.{Shown}
use Rattle.output_files.specs.Writes.{report_file, Write, Creates, Appends, Reports, HasWritten, HasBegun, IsCut}
use Rattle.job_commands.specs.declared.status.Status.{Status}
use Rattle.job_commands.specs.declared.status.Status.TheVariants.{Done}
use Rattle.command_words.specs.Printing.{Prints}

pub prints_whole : (text : List ℕ) (status : Status) (old new : Shown) → HasWritten (Reports text ∷ []) old new
    → Prints text status old new
prints_whole text status old new written = record {
  part = text;
  more = [];
  prefix = sym (append-nil text);
  whole = λ done. refl;
  printed = written.report ∙ ap (λ (l : List ℕ). old.sent report_file ++ l) (append-nil text);
  names = written.names;
}

pub prints_prefix : (text : List ℕ) (status : Status) (old new : Shown) → ¬ (status ≡ Done)
    → HasBegun (Reports text ∷ []) old new → Prints text status old new
prints_prefix text status old new fails begun = go begun.done begun.cut begun.written
  where
    go : (done : List Write) → IsCut done (Reports text ∷ []) → HasWritten done old new → Prints text status old new
    go [] cut written = record {
      part = [];
      more = text;
      prefix = refl;
      whole = λ done. absurd (fails done);
      printed = written.report;
      names = written.names;
    }
    go (first ∷ write ∷ more) (inl (same, cut)) written = absurd cut
    go (first ∷ []) (inl (same, cut)) written =
        prints_whole text status old new (subst (λ (w : Write). HasWritten (w ∷ []) old new) same written)
    go (Creates name ∷ more) (inr (part, none)) written = absurd part
    go (Appends name bytes ∷ more) (inr (part, none)) written = absurd part
    go (Reports bytes ∷ more) (inr (part, none)) written =
        let is : HasWritten (Reports bytes ∷ []) old new =
        subst (λ (l : List Write). HasWritten (Reports bytes ∷ l) old new) none written in
        record {
          part = bytes;
          more = part.0;
          prefix = part.1;
          whole = λ done. absurd (fails done);
          printed = is.report ∙ ap (λ (l : List ℕ). old.sent report_file ++ l) (append-nil bytes);
          names = is.names;
        }
