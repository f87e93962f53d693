-- The first fault of a text of a handover: a line that leaves the grammar, or what makes its image faulty, at the line
-- that says it.
use Rattle.std.specs.Prelude.{◌≡◌, ◌⊎◌, ◌≤◌, ◌<◌, ℕ, ◌+◌, List, length, slice_get, Some}
use Rattle.plain_text.specs.declared.fault.LineCause.{LineCause}
use Rattle.plain_text.specs.Lines.{counted_lines}
use Rattle.recovery_world.specs.World.{Setting}
use Rattle.handover.specs.declared.image.Image.{Image}
use Rattle.handover.specs.Images.{IsImage, FirstFault}
use Rattle.handover_world.specs.declared.fault.ResumeError.{ResumeError}
use Rattle.handover_world.specs.declared.fault.ResumeError.TheVariants as error
use Rattle.handover_world.specs.Faults.{IsFault}
use Rattle.hand_faults.specs.declared.fault.HandCause.TheVariants.{Line, Count, Move, Released}
use Rattle.hand_faults.specs.declared.fault.HandFault.{HandFault}

-- The line at this place, from 0, of those that count has this number. The heading has place 0 and the counts place 1;
-- the rows of ended epochs follow, then the released outputs, then the moves.
abbrev pub IsLineAt : List ℕ → ℕ → ℕ → Type 0
IsLineAt text place number = (bytes : List ℕ) × (slice_get (counted_lines text) place ≡ Some (number, bytes))

-- The line of this row, of so many; row 0 is the counts. A row that is missing has the line behind the last.
abbrev pub IsRowLine : List ℕ → ℕ → ℕ → ℕ → Type 0
IsRowLine text rows row number =
    ((row ≤ rows) × IsLineAt text (row + 1) number)
    ⊎ ((rows < row) × (last : ℕ) × IsLineAt text row last × (number ≡ last + 1))

-- the fault of an image is at this line of its text
abbrev pub IsRefusedAt : List ℕ → Image → ResumeError → HandFault → Type 0
IsRefusedAt text image (error.Count row) fault =
    IsRowLine text (length image.ended) row fault.line × (fault.cause ≡ Count)
IsRefusedAt text image (error.Move play) fault =
    IsLineAt text (1 + length image.ended + length image.released + play.number) fault.line
    × (fault.cause ≡ Move play.cause)
IsRefusedAt text image (error.Released place) fault =
    IsLineAt text (1 + length image.ended + place) fault.line × (fault.cause ≡ Released)
IsRefusedAt text image error.NoMemory fault = ⊥

-- the text is that of an image, whose first fault is at this line
abbrev pub IsImageFault : {V : Type 0} → Setting V → List ℕ → HandFault → Type 0
IsImageFault s text fault =
    (image : Image) × IsImage text image × (error : ResumeError) × IsFault s image error
    × IsRefusedAt text image error fault

-- the first fault of a text
abbrev pub IsHandFault : {V : Type 0} → Setting V → List ℕ → HandFault → Type 0
IsHandFault s text fault =
    ((cause : LineCause) × (fault.cause ≡ Line cause) × FirstFault text fault.line cause) ⊎ IsImageFault s text fault
