-- pcapng captures as bytes: blocks in turn, by cases on their types.
use Rattle.std.specs.Prelude.{◌≡◌, ℕ, ◌<◌, ◌&&◌, ◌==◌, nat_lt, not, Bool, true, List, [], ◌∷◌, ◌++◌, length, Option}
use Rattle.std.specs.Prelude.{Some, None, Result, Ok, Err, option_to_list}
use Rattle.std.specs.List.{flat_map}
use Rattle.plain_text.specs.declared.packet.Packet.{Packet}
use Rattle.pcap_io.specs.declared.order.Order.{Order}
use Rattle.pcap_io.specs.declared.order.Order.TheVariants.{Little}
use Rattle.pcap_io.specs.Capture.{number}
use Rattle.pcapng_io.specs.declared.block.Block.{Block}
use Rattle.pcapng_io.specs.declared.fault.NgCause.{NgCause}
use Rattle.pcapng_io.specs.declared.fault.NgFault.{NgFault}
use Rattle.pcapng_io.specs.declared.interface.Interface.{Interface}
use Rattle.pcapng_io.specs.Blocks.{block_bytes, kind_of}
use Rattle.pcapng_io.specs.Contents.{Content, content}
use Rattle.pcapng_io.specs.Frames.{framed, IsFramed}

-- a section: its byte order, and the interfaces that were described in it
pub record Section : Type 0 where
  pub order : Order
  pub interfaces : List Interface

-- before the first section header, which has a byte order of its own
abbrev pub no_section : Section
no_section = record { order = Little; interfaces = [] }

-- the content of a block in a section
abbrev pub content_in : Section → Block → Result Content NgCause
content_in s b = content b.order s.interfaces (kind_of b.number) b.body

-- a block that stands in a section leads to the next one, and gives at most one packet
pub record Follows (s : Section) (b : Block) (packet : Option Packet) (t : Section) : Type 0 where
  pub framed : IsFramed s.order b
  pub content : content_in s b ≡ Ok (record { interfaces = t.interfaces; packet = packet })
  pub order : t.order ≡ b.order

-- blocks in turn lead from one section to another, and give these packets
abbrev pub Lead : Section → List Block → List Packet → Section → Type 0
Lead s [] ps t = (ps ≡ []) × (t ≡ s)
Lead s (b ∷ bs) ps t =
    (packet : Option Packet) × (u : Section) × (others : List Packet) × Follows s b packet u × Lead u bs others t
    × (ps ≡ option_to_list packet ++ others)

-- these bytes are whole blocks that lead from one section to another, and give these packets
pub record Passes (s : Section) (bytes : List ℕ) (ps : List Packet) (t : Section) : Type 0 where
  pub blocks : List Block
  pub parts : bytes ≡ flat_map block_bytes blocks
  pub lead : Lead s blocks ps t

-- the bytes begin with the type of a section header, which reads alike in both byte orders
abbrev pub begins_ng : List ℕ → Bool
begins_ng bytes = not (nat_lt (length bytes) 4) && (number Little 4 bytes == 0x0a0d0d0a)

-- the bytes are a pcapng capture of these packets
pub record IsNg (bytes : List ℕ) (ps : List Packet) : Type 0 where
  pub begins : begins_ng bytes ≡ true
  pub last : Section
  pub passes : Passes no_section bytes ps last

-- the first cause why no block of the section begins here
abbrev pub content_fault : Result Content NgCause → Option NgCause
content_fault (Ok c) = None
content_fault (Err cause) = Some cause

abbrev pub framed_fault : Section → Result Block NgCause → Option NgCause
framed_fault s (Ok b) = content_fault (content_in s b)
framed_fault s (Err cause) = Some cause

abbrev pub block_fault : Section → List ℕ → Option NgCause
block_fault s bytes = framed_fault s (framed s.order bytes)

-- whole blocks that give these packets, and the rest, which begins in this section
pub record Reaches (bytes : List ℕ) (ps : List Packet) (s : Section) (passed rest : List ℕ) : Type 0 where
  pub begins : begins_ng bytes ≡ true
  pub passes : Passes no_section passed ps s
  pub parts : bytes ≡ passed ++ rest

-- this is the first place where the bytes are no pcapng capture: whole blocks, and then at least one byte of a faulty
-- one
pub record IsNgFault (bytes : List ℕ) (fault : NgFault) : Type 0 where
  pub before : List Packet
  pub section : Section
  pub passed : List ℕ
  pub rest : List ℕ
  pub reaches : Reaches bytes before section passed rest
  pub some : 0 < length rest
  pub faulty : block_fault section rest ≡ Some fault.cause
  pub place : fault.offset ≡ length passed
