-- A tap that prints lines: what it shows of itself, and what each answer says.
use Rattle.std.specs.Prelude.{◌≡◌, ◌⊎◌, ◌<◌, ℕ, List, [], ◌∷◌, ◌++◌, decimal, length, take}
use Rattle.world_io.specs.World.{Start, Ledger, Shown as WorldShown}
use Rattle.plain_text.specs.declared.packet.Packet.{Packet}
use Rattle.release_taps.specs.declared.tap.Shown.{Shown}
use Rattle.release_taps.specs.declared.tap.Shown.TheVariants.{Took, Failed, NoMemory}
use Rattle.world_io.specs.Calls.{counted}

-- the world on whose report it prints, and its counts
pub record Printing (W : Type 0) : Type 0 where
  pub world : W
  pub faults : ℕ
  pub lacks : ℕ

-- the seconds, the fraction and the number of captured bytes, between spaces, and a line feed
abbrev pub line_of : Packet → List ℕ
line_of p = decimal p.seconds ++ 32 ∷ (decimal p.fraction ++ 32 ∷ (decimal (length p.bytes) ++ 10 ∷ []))

-- the lines of packets, in order
abbrev pub lines_of : List Packet → List ℕ
lines_of [] = []
lines_of (p ∷ packets) = line_of p ++ lines_of packets

-- this is a first part of these bytes, or all of them
abbrev pub IsFirstPart : List ℕ → List ℕ → Type 0
IsFirstPart bytes part = (k : ℕ) × (part ≡ take k bytes)

-- these bytes were sent to the report, by each beginning of which the answers of the world are honest
abbrev pub HasPrinted : {W : Type 0} → (Start → W → Type 0) → (Start → W → WorldShown) → List ℕ → W → Type 0
HasPrinted honest shows bytes world = (p : Start) → honest p world → (shows p world).sent 0 ≡ bytes

-- likewise a first part of them
abbrev pub HasBegunToPrint : {W : Type 0} → (Start → W → Type 0) → (Start → W → WorldShown) → List ℕ → W → Type 0
HasBegunToPrint honest shows bytes world =
    (p : Start) → honest p world → IsFirstPart bytes ((shows p world).sent 0)

-- the lines of these packets, and nothing else, stand on the report of the tap, which counted no fault
abbrev pub SawLines : {W : Type 0} → (Start → W → Type 0) → (Start → W → WorldShown) → List Packet → Printing W → Type 0
SawLines honest shows packets tap = (tap.faults ≡ 0) × HasPrinted honest shows (lines_of packets) tap.world

-- a first part of the lines; and where the tap counted a fault, its world counted one of writing
abbrev pub MissedLine : {W : Type 0} → (Start → W → Type 0) → (Start → W → WorldShown) → (W → Ledger) → List Packet
    → Printing W → Type 0
MissedLine honest shows ledger packets tap =
    ((tap.faults ≡ 0) ⊎ (0 < (ledger tap.world).write_faults))
    × HasBegunToPrint honest shows (lines_of packets) tap.world

-- the counts after an answer
abbrev pub Counts : {W : Type 0} → Shown → Printing W → Printing W → Type 0
Counts Took old new = (new.faults ≡ old.faults) × (new.lacks ≡ old.lacks)
Counts Failed old new = (new.faults ≡ counted old.faults) × (new.lacks ≡ old.lacks)
Counts NoMemory old new = (new.faults ≡ old.faults) × (new.lacks ≡ counted old.lacks)
