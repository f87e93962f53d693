-- What may be written is in range, where its numbers are of their types.
use Rattle.std.proofs.Common.{◌≡◌, ℕ, ◌^◌, ◌<◌, List, length, slice_index}
use Rattle.access_log.specs.FromEntryOrder.{What}
use Rattle.access_log.specs.FromEntryOrder.{Access, Read, Clock, Draw}
use Rattle.wire_frames.specs.declared.version.Version.TheVariants.{Two}
use Rattle.wire_frames.specs.Layout.{IsSent, IsDone}
use Rattle.wire_frames.specs.Parts.{FitsWord}
use Rattle.wire_frames.specs.Writing.{CanSend, CanTell}

pub is_sent : (epoch threads thread number : ℕ) (stamp : List ℕ) → CanSend epoch threads thread number stamp
    → epoch < 2 ^ 32 → number < 2 ^ 64 → length stamp ≡ 16 → ((u : ℕ) → slice_index stamp u < 2 ^ 64)
    → IsSent epoch threads thread number stamp
is_sent epoch threads thread number stamp can epoch_to number_to all fit = record {
  epoch_from = can.epoch_from;
  epoch_to = epoch_to;
  threads_from = can.threads_from;
  threads_to = can.threads_to;
  of_these = can.of_these;
  number_from = can.number_from;
  number_to = number_to;
  components = record { all = all; fit = fit; none = can.none };
}

pub is_done : (w : What) → CanTell w → FitsWord w → IsDone Two w
is_done (Access var place) can fits = (can.0, can.1, fits)
is_done (Read var after) can fits = (can, fits)
is_done (Clock value) can fits = fits
is_done (Draw value) can fits = fits
