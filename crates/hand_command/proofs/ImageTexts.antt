-- The image of a system is written.
use Rattle.std.proofs.Common.{◌≡◌, ℕ, List, [], ◌∷◌, ◌++◌, refl, ap, ◌∙◌, append-nil, subst, inl, inr, length}
use Rattle.std.proofs.Common.{Option, Result, Ok, Err}
use Rattle.std.specs.Prelude.{⊤}
use Rattle.plain_text.specs.declared.limit.Limit.{Limit}
use Rattle.world_io.specs.World.{Shown}
use Rattle.recovery_world.specs.World.{Setting, World as SystemWorld}
use Rattle.recovery_world.specs.Files.{done_line}
use Rattle.handover.specs.declared.image.Image.{Image}
use Rattle.handover.specs.Images.{FitsImage}
use Rattle.handover_world.specs.Images.{IsImageOf}
use Rattle.output_files.specs.declared.error.OutputError.{OutputError}
use Rattle.output_files.specs.declared.error.OutputError.TheVariants as output
use Rattle.output_files.specs.Writes.{Write, Appends, Reports, HasBegun, HasGathered, HasWritten}
use Rattle.output_files.specs.Written.{Writes}
use Rattle.output_files.proofs.Effects.{gathered_begun}
use Rattle.run_writes.specs.declared.error.RunError.TheVariants as run
use Rattle.run_writes.specs.Errors.{run_error_of, run_result_of}
use Rattle.run_writes.specs.Run.{OutputNames, counts_line}
use Rattle.hand_command.specs.Hand.{FitsFile, PassesFile, handed_text, image_writes}
use Rattle.hand_command.specs.Handing.{WritesImage}
use Rattle.hand_command.proofs.Resuming.{names_long}

module _ {V : Type 0} (seal : Option (List ℕ)) (s : Setting V) (w : SystemWorld V) (names : OutputNames)
    (writes : List Write) (a : Shown) where
  -- there is no image, or no text of it
  pub no_image : (lines : List ℕ) (b : Shown) → HasGathered writes lines a b
      → WritesImage (Err run.NoMemory) seal s w names writes a b
  no_image lines b gathered =
      inl (subst (λ (ws : List Write). HasBegun ws a b) (append-nil writes)
      (gathered_begun writes [] lines a b gathered))

  -- the text passes a limit of files, and the lines that are gathered were not written
  pub lines_failed : (e : OutputError) (d : Shown) → HasBegun writes a d
      → WritesImage (Err (run_error_of e)) seal s w names writes a d
  lines_failed output.WriteFault d begun = inl begun
  lines_failed output.NoMemory d begun = inl begun

  -- or they were
  pub too_long : (image : Image) (text : List ℕ) (limit : Limit) (d : Shown) → IsImageOf s w image → FitsImage image
      → text ≡ handed_text seal s image → PassesFile limit text image → HasWritten writes a d
      → WritesImage (Err (run.Limit limit)) seal s w names writes a d
  too_long image text limit d is fits text_is passes written =
      (image, is, fits, subst (λ (l : List ℕ). PassesFile limit l image) text_is passes, written)

  counts : (image : Image) → IsImageOf s w image
      → counts_line image.fed image.epoch (length image.released) ≡ done_line w
  counts image is =
      let long : length image.released ≡ length w.released =
      ap (λ (l : List (ℕ × ℕ)). length l) is.released ∙ names_long w.released in
      rw (is.fed, is.epoch, long) refl

  pub image_written : (r : Result ⊤ OutputError) (image : Image) (text line : List ℕ) (d : Shown)
      → IsImageOf s w image → FitsImage image → text ≡ handed_text seal s image → FitsFile text image
      → line ≡ counts_line image.fed image.epoch (length image.released)
      → Writes r (writes ++ (Appends names.schedule text ∷ Reports line ∷ [])) a d
      → WritesImage (run_result_of r) seal s w names writes a d
  image_written r image text line d is fits text_is fits_text line_is h = go r here
    where
      here : Writes r (writes ++ image_writes names (handed_text seal s image) (done_line w)) a d
      here =
          subst (λ (l : List ℕ). Writes r (writes ++ image_writes names (handed_text seal s image) l) a d)
          (line_is ∙ counts image is)
          (subst (λ (l : List ℕ). Writes r (writes ++ (Appends names.schedule l ∷ Reports line ∷ [])) a d) text_is h)

      fits_file : FitsFile (handed_text seal s image) image
      fits_file = subst (λ (l : List ℕ). FitsFile l image) text_is fits_text

      go : (r : Result ⊤ OutputError)
          → Writes r (writes ++ image_writes names (handed_text seal s image) (done_line w)) a d
          → WritesImage (run_result_of r) seal s w names writes a d
      go (Ok done) h = (image, is, fits, fits_file, h)
      go (Err output.WriteFault) h = inr (image, is, fits, fits_file, h)
      go (Err output.NoMemory) h = inr (image, is, fits, fits_file, h)
