-- What the bytes of a frame say, by the places of the fields. A byte past the end reads as 0.
use Rattle.std.specs.Prelude.{ℕ, zero, suc, ◌+◌, ◌-◌, ◌*◌, ◌/◌, ◌%◌, ◌^◌, ◌==◌, ◌&&◌, Bool, nat_lt, if◌then◌else◌, List}
use Rattle.std.specs.Prelude.{[], ◌∷◌, take, drop, Option, Some, None}
use Rattle.byteorder.specs.Endian.{big_number}
use Rattle.plain_text.specs.declared.packet.Packet.{Packet}
use Rattle.access_log.specs.FromEntryOrder.{What}
use Rattle.access_log.specs.FromEntryOrder.{Access, Read, Clock, Draw}
use Rattle.plain_text.specs.declared.kind.Kind.{Kind}
use Rattle.plain_text.specs.declared.kind.Kind.TheVariants.{Log, Out}
use Rattle.wire_frames.specs.declared.version.Version.{Version}
use Rattle.wire_frames.specs.declared.version.Version.TheVariants.{One, Two}
use Rattle.wire_frames.specs.declared.frame.Frame.{Frame}
use Rattle.wire_frames.specs.declared.frame.Frame.TheVariants as frame

-- the number in this number of bytes from this place on
abbrev pub number_at : ℕ → ℕ → List ℕ → ℕ
number_at width place bytes = big_number width (drop place bytes)

abbrev pub kind_at : List ℕ → Kind
kind_at bytes = if number_at 1 0 bytes == 1 then Log else Out

abbrev pub version_at : List ℕ → Version
version_at bytes = if number_at 1 1 bytes == 1 then One else Two

abbrev pub length_at : List ℕ → ℕ
length_at bytes = number_at 4 2 bytes

abbrev pub epoch_at : List ℕ → ℕ
epoch_at bytes = number_at 4 6 bytes

abbrev pub thread_at : List ℕ → ℕ
thread_at bytes = number_at 1 10 bytes

abbrev pub code_at : List ℕ → ℕ
code_at bytes = number_at 1 11 bytes

-- the number of the entry or of the output
abbrev pub count_at : List ℕ → ℕ
count_at bytes = number_at 8 12 bytes

abbrev pub subject_at : List ℕ → ℕ
subject_at bytes = number_at 8 20 bytes

-- of an entry
abbrev pub place_at : List ℕ → ℕ
place_at bytes = number_at 8 28 bytes

-- Of the stamp

abbrev pub threads_place : Kind → ℕ
threads_place Log = 36
threads_place Out = 28

abbrev pub components_place : Kind → Version → ℕ
components_place kind One = threads_place kind + 1
components_place kind Two = threads_place kind + 3

abbrev pub threads_at : Kind → List ℕ → ℕ
threads_at kind bytes = number_at 1 (threads_place kind) bytes

-- whose components there are: bit u is set where there is one of thread u
abbrev pub mask_at : Kind → Version → List ℕ → ℕ
mask_at kind One bytes = 2 ^ threads_at kind bytes - 1
mask_at kind Two bytes = number_at 2 (threads_place kind + 1) bytes

abbrev pub is_odd : ℕ → Bool
is_odd n = n % 2 == 1

-- how many of the lowest n bits of a mask are set
unfoldable pub bits_set : ℕ → ℕ → ℕ
bits_set zero mask = 0
bits_set (suc n) mask = mask % 2 + bits_set n (mask / 2)

abbrev pub component_at : Bool → List ℕ → ℕ
component_at there bytes = if there then number_at 8 0 bytes else 0

-- the first n components, where those that the mask names stand one after the other
unfoldable pub components : ℕ → ℕ → List ℕ → List ℕ
components zero mask bytes = []
components (suc n) mask bytes = component_at (is_odd mask) bytes ∷ components n (mask / 2) (drop (8 * (mask % 2)) bytes)

abbrev pub bits_at : Kind → Version → List ℕ → ℕ
bits_at kind version bytes = bits_set 16 (mask_at kind version bytes)

abbrev pub stamp_at : Kind → Version → List ℕ → List ℕ
stamp_at kind version bytes = components 16 (mask_at kind version bytes) (drop (components_place kind version) bytes)

-- where the stamp ends
abbrev pub stamp_end : Kind → Version → List ℕ → ℕ
stamp_end kind version bytes = components_place kind version + 8 * bits_at kind version bytes

-- Of what was done, or sent

-- what an entry with these three numbers did, if they are those of something
abbrev pub read_at : Version → ℕ → ℕ → Option What
read_at One var after = None
read_at Two var after = if nat_lt var 256 then Some (Read var after) else None

abbrev pub what_from : Version → ℕ → ℕ → ℕ → Option What
what_from version code subject place =
    if code == 1 then if nat_lt subject 256 && nat_lt 0 place then Some (Access subject place) else None
    else if code == 2 then if place == 0 then Some (Clock subject) else None
    else if code == 3 then if place == 0 then Some (Draw subject) else None
    else if code == 4 then read_at version subject place
    else None

abbrev pub what_at : Version → List ℕ → Option What
what_at version bytes = what_from version (code_at bytes) (subject_at bytes) (place_at bytes)

-- how many bytes an output captured
abbrev pub captured_at : Version → List ℕ → ℕ
captured_at version bytes = number_at 4 (stamp_end Out version bytes + 12) bytes

-- a packet whose fields begin at this place
abbrev pub packet_from : ℕ → List ℕ → Packet
packet_from place bytes = record {
  seconds = number_at 4 place bytes;
  fraction = number_at 4 (place + 4) bytes;
  original = number_at 4 (place + 8) bytes;
  bytes = take (number_at 4 (place + 12) bytes) (drop (place + 16) bytes);
}

abbrev pub packet_at : Version → List ℕ → Packet
packet_at version bytes = packet_from (stamp_end Out version bytes) bytes

-- the frame of an entry that did this, and of an output
abbrev pub entry_at : Version → List ℕ → What → Frame
entry_at version bytes what = frame.Entry (epoch_at bytes) (threads_at Log bytes) (record {
  thread = thread_at bytes;
  number = count_at bytes;
  what = what;
  stamp = stamp_at Log version bytes;
})

abbrev pub output_at : Version → List ℕ → Frame
output_at version bytes = frame.Output (epoch_at bytes) (threads_at Out bytes) (record {
  thread = thread_at bytes;
  number = count_at bytes;
  input = subject_at bytes;
  stamp = stamp_at Out version bytes;
  packet = packet_at version bytes;
})
