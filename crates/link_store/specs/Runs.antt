-- The frames on the links as a few runs, each of frames whose numbers follow one another.
use Rattle.std.specs.Prelude.{◌≡◌, ℕ, ◌+◌, ◌^◌, ◌<◌, ◌≤◌, Bool, false, List, [], ◌∷◌, ◌++◌, None, length}
use Rattle.std.specs.Prelude.{slice_index_or}
use Rattle.plain_text.specs.declared.kind.Kind.TheVariants.{Log}
use Rattle.link_store.specs.declared.address.Address.{Address}
use Rattle.link_store.specs.declared.kept.Form.{Form}
use Rattle.link_store.specs.Kept.{bytes_of, AreTold}
use Rattle.link_store.specs.Links.{address, frame_at, Forgets, TurnsEpoch}

-- the address this many numbers on
abbrev pub later : Address → ℕ → Address
later a i = address a.epoch a.kind a.thread (a.number + i)

-- the frames, the first of them at this address
abbrev pub in_turn : Address → List Form → List (Address × List ℕ)
in_turn first [] = []
in_turn first (frame ∷ rest) = (first, bytes_of first.epoch frame) ∷ in_turn (later first 1) rest

-- frames whose numbers follow one another, and the address of the first
pub record Run : Type 0 where
  pub first : Address
  pub frames : List Form

-- its numbers fit, and of its frames the first are kept as outputs, this number of them
pub record IsRun (run : Run) (n : ℕ) : Type 0 where
  pub fits : run.first.number + length run.frames ≤ 2 ^ 64
  pub told : AreTold n run.frames

abbrev pub frames_of : Run → List (Address × List ℕ)
frames_of run = in_turn run.first run.frames

-- the frames of the runs
abbrev pub all_of : List Run → List (Address × List ℕ)
all_of [] = []
all_of (run ∷ runs) = frames_of run ++ all_of runs

-- the address is that of a frame of the run, or of its next one
pub record Takes (run : Run) (a : Address) : Type 0 where
  pub place : ℕ
  pub within : place ≤ length run.frames
  pub is : a ≡ later run.first place

-- the i-th run is the first one that takes the address
pub record IsFirstTaker (runs : List Run) (a : Address) (i : ℕ) : Type 0 where
  pub in_range : i < length runs
  pub takes : (d : Run) → Takes (slice_index_or runs i d) a
  pub before : (j : ℕ) (d : Run) → j < i → Takes (slice_index_or runs j d) a → ⊥

abbrev pub NoneTakes : List Run → Address → Type 0
NoneTakes runs a = (j : ℕ) (d : Run) → j < length runs → Takes (slice_index_or runs j d) a → ⊥

-- each of the new runs stands so to the old one
pub record IsEach (R : Run → Run → Type 0) (old new : List Run) : Type 0 where
  pub as_many : length new ≡ length old
  pub each : (j : ℕ) (d : Run) → j < length old → R (slice_index_or old j d) (slice_index_or new j d)

-- the frames of each new run are those of the old one without those at the addresses with this property
abbrev pub ForgetsIn : (Address → Type 0) → Run → Run → Type 0
ForgetsIn P old new = Forgets P (frames_of old) (frames_of new)

-- or those of its outputs in the next epoch
abbrev pub TurnsIn : ℕ → Run → Run → Type 0
TurnsIn epoch old new = TurnsEpoch epoch (frames_of old) (frames_of new)

-- unless one was sent as its bytes, no frame is that of an entry
abbrev pub HaveNoEntry : Bool → List (Address × List ℕ) → Type 0
HaveNoEntry spelled links = spelled ≡ false → (a : Address) → a.kind ≡ Log → frame_at links a ≡ None
