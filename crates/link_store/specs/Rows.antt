-- Frames that follow one another, whatever room each has for a stamp.
use Rattle.std.specs.Prelude.{◌≡◌, ℕ, List, slice_index_or, slice_set}
use Rattle.link_store.specs.declared.kept.Form.{Form}
use Rattle.link_store.specs.declared.row.FrameRow.{FrameRow}
use Rattle.link_store.specs.declared.row.FrameRow.TheVariants as row
use Rattle.link_store.specs.declared.row.SeenFrame.{SeenFrame}
use Rattle.link_store.specs.declared.row.SeenFrame.TheVariants as seen
use Rattle.link_store.specs.Kept.{IsTold, Tells}

-- how each of them is kept
abbrev pub forms_of : FrameRow → List Form
forms_of (row.Narrow frames) = frames.items
forms_of (row.Whole frames) = frames.items

-- how a frame is kept that is looked at where it stands
abbrev pub form_of : SeenFrame → Form
form_of (seen.Narrow frame) = frame.now
form_of (seen.Whole frame) = frame.now

-- the i-th of them is kept as an output now, as the one that it told
pub record TellsOne (i : ℕ) (before after : List Form) : Type 0 where
  pub form : Form
  pub put : after ≡ slice_set before i form
  pub told : IsTold form
  pub same : (epoch : ℕ) → Tells epoch (slice_index_or before i form) form
