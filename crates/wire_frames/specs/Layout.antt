-- Frames as bytes: the table of the fields of each kind and version, in order, with the bytes that each takes.
use Rattle.std.specs.Prelude.{◌≡◌, ℕ, ◌+◌, ◌*◌, ◌^◌, ◌<◌, ◌≤◌, ◌==◌, not, if◌then◌else◌, List, [], ◌∷◌, ◌++◌, length}
use Rattle.std.specs.Prelude.{take, map, filter, slice_index}
use Rattle.std.specs.List.{flat_map}
use Rattle.byteorder.specs.Endian.{big_bytes}
use Rattle.plain_text.specs.declared.limit.TheConstants.{MOST_CAPTURED}
use Rattle.plain_text.specs.declared.packet.Packet.{Packet}
use Rattle.access_log.specs.FromEntryOrder.{What}
use Rattle.access_log.specs.FromEntryOrder.{Access, Read, Clock, Draw}
use Rattle.access_log.specs.declared.entry.StampedEntry.{StampedEntry}
use Rattle.access_log.specs.declared.entry.Output.{Output}
use Rattle.plain_text.specs.declared.kind.Kind.{Kind}
use Rattle.plain_text.specs.declared.kind.Kind.TheVariants.{Log, Out}
use Rattle.wire_frames.specs.declared.version.Version.{Version}
use Rattle.wire_frames.specs.declared.version.Version.TheVariants.{One, Two}
use Rattle.wire_frames.specs.declared.frame.Frame.{Frame}
use Rattle.wire_frames.specs.declared.frame.Frame.TheVariants as frame

-- a number in a frame, and how many bytes it has there
pub record Field : Type 0 where
  pub width : ℕ
  pub value : ℕ

abbrev pub field : ℕ → ℕ → Field
field width value = record { width = width; value = value }

-- the bytes of fields: each number with its high byte first
abbrev pub spelled : List Field → List ℕ
spelled fields = flat_map (λ (f : Field). big_bytes f.width f.value) fields

abbrev pub kind_code : Kind → ℕ
kind_code Log = 1
kind_code Out = 2

abbrev pub version_code : Version → ℕ
version_code One = 1
version_code Two = 2

-- what an entry did, as three numbers: its code, the variable or the value that was told, and the place
abbrev pub code_of : What → ℕ
code_of (Access var place) = 1
code_of (Clock value) = 2
code_of (Draw value) = 3
code_of (Read var after) = 4

abbrev pub subject_of : What → ℕ
subject_of (Access var place) = var
subject_of (Clock value) = value
subject_of (Draw value) = value
subject_of (Read var after) = var

-- the number of the place field: the place of a touch, how many touches were before a read, or 0
abbrev pub place_field : What → ℕ
place_field (Access var place) = place
place_field (Clock value) = 0
place_field (Draw value) = 0
place_field (Read var after) = after

-- The first 28 bytes. The length is that of the whole frame; the code of an output is 0, and its subject is its input.
abbrev pub head : Kind → Version → ℕ → ℕ → ℕ → ℕ → ℕ → ℕ → List Field
head kind version length epoch thread code number subject =
    field 1 (kind_code kind)
    ∷ field 1 (version_code version)
    ∷ field 4 length
    ∷ field 4 epoch
    ∷ field 1 thread
    ∷ field 1 code
    ∷ field 8 number
    ∷ field 8 subject
    ∷ []

-- the number in which the bit of value 2^u is set exactly where component u is not 0
abbrev pub mask_of : List ℕ → ℕ
mask_of [] = 0
mask_of (c ∷ cs) = (if c == 0 then 0 else 1) + 2 * mask_of cs

abbrev pub nonzero : List ℕ → List ℕ
nonzero components = filter (λ c. not (c == 0)) components

abbrev pub component_fields : List ℕ → List Field
component_fields components = map (field 8) components

-- the number of threads, and the components: in version 1 that of each thread, in version 2 those that are not 0,
-- behind the mask
abbrev pub stamp_fields : Version → ℕ → List ℕ → List Field
stamp_fields One threads stamp = field 1 threads ∷ component_fields (take threads stamp)
stamp_fields Two threads stamp = field 1 threads ∷ field 2 (mask_of stamp) ∷ component_fields (nonzero stamp)

abbrev pub packet_fields : Packet → List Field
packet_fields p = field 4 p.seconds ∷ field 4 p.fraction ∷ field 4 p.original ∷ field 4 (length p.bytes) ∷ []

abbrev pub entry_fields : Version → ℕ → ℕ → ℕ → StampedEntry → List Field
entry_fields version length epoch threads e =
    head Log version length epoch e.thread (code_of e.what) e.number (subject_of e.what)
    ++ field 8 (place_field e.what)
    ∷ stamp_fields version threads e.stamp

abbrev pub output_fields : Version → ℕ → ℕ → ℕ → Output → List Field
output_fields version length epoch threads o =
    head Out version length epoch o.thread 0 o.number o.input
    ++ stamp_fields version threads o.stamp
    ++ packet_fields o.packet

-- the bytes of a frame of this version, where it says that it has this length; an output ends with its captured bytes
abbrev pub bytes_of : Version → ℕ → Frame → List ℕ
bytes_of version length (frame.Entry epoch threads e) = spelled (entry_fields version length epoch threads e)
bytes_of version length (frame.Output epoch threads o) =
    spelled (output_fields version length epoch threads o) ++ o.packet.bytes

-- Which values may stand in a frame

-- a component of a thread that is not there is 0
pub record AreComponents (threads : ℕ) (stamp : List ℕ) : Type 0 where
  pub all : length stamp ≡ 16
  pub fit : (u : ℕ) → slice_index stamp u < 2 ^ 64
  pub none : (u : ℕ) → threads ≤ u → slice_index stamp u ≡ 0

-- the epoch, the thread and the number that a frame may carry, with its sender's number of threads and the stamp
pub record IsSent (epoch threads thread number : ℕ) (stamp : List ℕ) : Type 0 where
  pub epoch_from : 1 ≤ epoch
  pub epoch_to : epoch < 2 ^ 32
  pub threads_from : 1 ≤ threads
  pub threads_to : threads ≤ 16
  pub of_these : thread < threads
  pub number_from : 1 ≤ number
  pub number_to : number < 2 ^ 64
  pub components : AreComponents threads stamp

-- version 1 has no reads
abbrev pub IsDone : Version → What → Type 0
IsDone version (Access var place) = (var < 256) × (1 ≤ place) × (place < 2 ^ 64)
IsDone version (Clock value) = value < 2 ^ 64
IsDone version (Draw value) = value < 2 ^ 64
IsDone One (Read var after) = ⊥
IsDone Two (Read var after) = (var < 256) × (after < 2 ^ 64)

-- the numbers of the packet fit their fields, and its bytes are no more than a capture holds
pub record IsCaptured (p : Packet) : Type 0 where
  pub seconds : p.seconds < 2 ^ 32
  pub fraction : p.fraction < 2 ^ 32
  pub original : p.original < 2 ^ 32
  pub captured : length p.bytes ≤ MOST_CAPTURED

abbrev pub IsOfRange : Version → Frame → Type 0
IsOfRange version (frame.Entry epoch threads e) = IsSent epoch threads e.thread e.number e.stamp × IsDone version e.what
IsOfRange version (frame.Output epoch threads o) =
    IsSent epoch threads o.thread o.number o.stamp × (1 ≤ o.input) × (o.input < 2 ^ 64) × IsCaptured o.packet

-- The bytes are a frame with this value

pub record IsFrame (bytes : List ℕ) (f : Frame) : Type 0 where
  pub version : Version
  pub parts : bytes ≡ bytes_of version (length bytes) f
  pub range : IsOfRange version f

-- a frame with this value and this length, and then anything
pub record BeginsWith (bytes : List ℕ) (f : Frame) (size : ℕ) : Type 0 where
  pub first : List ℕ
  pub rest : List ℕ
  pub parts : bytes ≡ first ++ rest
  pub sized : length first ≡ size
  pub is : IsFrame first f

-- the one form that is written

abbrev pub written_length : Frame → ℕ
written_length (frame.Entry epoch threads e) = 39 + 8 * length (nonzero e.stamp)
written_length (frame.Output epoch threads o) = 47 + 8 * length (nonzero o.stamp) + length o.packet.bytes

abbrev pub written : Frame → List ℕ
written f = bytes_of Two (written_length f) f
