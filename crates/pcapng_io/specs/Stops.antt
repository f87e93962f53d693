-- What reading one block answers and takes.
use Rattle.std.specs.Prelude.{◌≡◌, ℕ, ◌+◌, ◌<◌, ◌≤◌, ◌&&◌, Bool, true, false, List, [], ◌∷◌, ◌++◌, length, Some, None}
use Rattle.std.specs.Prelude.{Result, Ok, Err}
use Rattle.pcapng_io.specs.declared.block.Block.{Block}
use Rattle.plain_text.specs.declared.limit.Limit.TheVariants.{File, Packets, Events, Moves, OutputBytes}
use Rattle.pcapng_io.specs.declared.fault.NgCause.TheVariants.{ShortBlock, BadLength, BadMagic, BadVersion, BadLinkType}
use Rattle.pcapng_io.specs.declared.fault.NgCause.TheVariants.{BadOption, NoInterface, BadPacket, BadTime}
use Rattle.pcapng_io.specs.declared.place.Place.{Place}
use Rattle.pcapng_io.specs.declared.place.Stop.{Stop}
use Rattle.pcapng_io.specs.declared.place.Stop.TheVariants as stop
use Rattle.pcapng_io.specs.Blocks.{block_bytes, kind_of, gives_packet}
use Rattle.pcapng_io.specs.Frames.{framed, IsFramed}
use Rattle.pcapng_io.specs.Limits.{limit_here}

-- the type of a section header, where it was read before
abbrev pub held_type : Bool → List ℕ
held_type true = 0x0a ∷ 0x0d ∷ 0x0d ∷ 0x0a ∷ []
held_type false = []

-- what is said of the bytes where no block is read
abbrev pub StopsHere : Place → List ℕ → Stop → Type 0
StopsHere p bytes stop.End = bytes ≡ []
StopsHere p bytes (stop.Refused cause) =
    (0 < length bytes) × (framed p.order bytes ≡ Err cause) × (limit_here p.order p.full p.room bytes ≡ None)
StopsHere p bytes (stop.TooLarge limit) = limit_here p.order p.full p.room bytes ≡ Some limit
StopsHere p bytes stop.ReadFault = Unit {0}
StopsHere p bytes stop.NoMemory = Unit {0}

-- a block is framed, and within the limits
pub record StandsHere (p : Place) (b : Block) : Type 0 where
  pub framed : IsFramed p.order b
  pub room : length (block_bytes b) ≤ p.room
  pub few : p.full && gives_packet (kind_of b.number) ≡ false

-- the bytes that an answer takes behind these, from a source, which has such a relation
abbrev pub TakesBlock : {S : Type 0} → (S → List ℕ → S → Type 0) → List ℕ → Result Block Stop → S → S → Type 0
TakesBlock reads before (Ok b) old new = (taken : List ℕ) × reads old taken new × (before ++ taken ≡ block_bytes b)
TakesBlock reads before (Err why) old new = (taken : List ℕ) × reads old taken new

-- Behind the 12 bytes of a head: whether what a block needs by its total length is there, and within the room.
abbrev pub PassesRest : ℕ → ℕ → List ℕ → Stop → Type 0
PassesRest room total left stop.End = ⊥
PassesRest room total left (stop.Refused ShortBlock) = (12 + length left < total) × (12 + length left ≤ room)
PassesRest room total left (stop.Refused BadLength) = (total ≤ 12 + length left) × (total ≤ room)
PassesRest room total left (stop.Refused BadMagic) = ⊥
PassesRest room total left (stop.Refused BadVersion) = ⊥
PassesRest room total left (stop.Refused BadLinkType) = ⊥
PassesRest room total left (stop.Refused BadOption) = ⊥
PassesRest room total left (stop.Refused NoInterface) = ⊥
PassesRest room total left (stop.Refused BadPacket) = ⊥
PassesRest room total left (stop.Refused BadTime) = ⊥
PassesRest room total left (stop.TooLarge File) = (room < 12 + length left) × (room < total)
PassesRest room total left (stop.TooLarge Packets) = ⊥
PassesRest room total left (stop.TooLarge Events) = ⊥
PassesRest room total left (stop.TooLarge Moves) = ⊥
PassesRest room total left (stop.TooLarge OutputBytes) = ⊥
PassesRest room total left stop.ReadFault = Unit {0}
PassesRest room total left stop.NoMemory = Unit {0}
