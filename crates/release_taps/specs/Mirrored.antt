-- The file that is mirrored, and taps that see what is sent to it.
use Rattle.std.specs.Prelude.{◌≡◌, ℕ, ◌==◌, Bool, true, false, List, [], Option, Some, None}
use Rattle.std.specs.Prelude.{Result, Ok, Err, if◌then◌else◌}
use Rattle.world_io.specs.declared.world.OpenFault.{OpenFault}
use Rattle.world_io.specs.World.{Start, Shown, Ledger}
use Rattle.release_taps.specs.declared.seat.Seat.{Seat}
use Rattle.release_taps.specs.Seats.{AllMirror}

-- what was sent to the mirrored file, where there is one
abbrev pub sent_to : Option ℕ → Shown → List ℕ
sent_to None shown = []
sent_to (Some mirrored) shown = shown.sent mirrored

-- of bytes that are sent to this file, those that go to the mirrored one: all or none
abbrev pub mirrored_part : Option ℕ → ℕ → List ℕ → List ℕ
mirrored_part None file bytes = []
mirrored_part (Some mirrored) file bytes = if mirrored == file then bytes else []

-- The mirrored file after a creation under some name: the first file that was created under the one.
abbrev pub after_create : Option ℕ → Bool → Result ℕ OpenFault → Option ℕ
after_create (Some mirrored) named created = Some mirrored
after_create None true (Ok file) = Some file
after_create None true (Err fault) = None
after_create None false created = None

-- The mirrored file has the name; where there is none, no created file has it.
pub record IsFileOf (name : List ℕ) (mirrored : Option ℕ) (ledger : Ledger) (shown : Shown) : Type 0 where
  pub own : (file : ℕ) → mirrored ≡ Some file → shown.name_of file ≡ name
  pub none : mirrored ≡ None → (file : ℕ) → ledger.created file ≡ true → ¬ (shown.name_of file ≡ name)

-- The mirrored file was created, by its name; and the taps mirror what was sent to it, by each beginning of which all
-- answers of the world are honest.
pub record IsMirroring {W T : Type 0} (honest : Start → W → Type 0) (shows : Start → W → Shown) (ledger : W → Ledger)
    (tells : T → Type 0) (seen : T → List ℕ) (faults lacks : T → ℕ)
    (name : List ℕ) (mirrored : Option ℕ) (world : W) (seats : List (Seat T)) : Type 0 where
  pub created : (file : ℕ) → mirrored ≡ Some file → (ledger world).created file ≡ true
  pub named : (p : Start) → honest p world → IsFileOf name mirrored (ledger world) (shows p world)
  pub mirrors : (p : Start) → honest p world
      → AllMirror tells seen faults lacks (sent_to mirrored (shows p world)) seats
