-- The block that bytes begin with, or why there is none.
use Rattle.std.specs.Prelude.{◌≡◌, ℕ, ◌+◌, ◌-◌, ◌^◌, ◌<◌, ◌==◌, ◌||◌, not, nat_lt, if◌then◌else◌, Bool, false, List}
use Rattle.std.specs.Prelude.{length, take, drop, Option, Some, None, Result, Ok, Err}
use Rattle.plain_text.specs.Octets.{AreBytes}
use Rattle.pcap_io.specs.declared.order.Order.{Order}
use Rattle.pcap_io.specs.Capture.{number}
use Rattle.pcapng_io.specs.declared.block.Block.{Block}
use Rattle.pcapng_io.specs.declared.fault.NgCause.{NgCause}
use Rattle.pcapng_io.specs.declared.fault.NgCause.TheVariants.{ShortBlock, BadLength, BadMagic}
use Rattle.pcapng_io.specs.Blocks.{kind_of, is_bad_total, order_of}

-- the total length in a block's head
abbrev pub total_at : Order → List ℕ → ℕ
total_at o bytes = number o 4 (drop 4 bytes)

-- the total length is none that the kind can have, or another at the block's end
abbrev pub has_bad_length : Order → ℕ → List ℕ → Bool
has_bad_length o n bytes =
    is_bad_total (kind_of n) (total_at o bytes)
    || not (number o 4 (drop (total_at o bytes - 4) bytes) == total_at o bytes)

abbrev pub framed_in : Option Order → ℕ → List ℕ → Result Block NgCause
framed_in None n bytes = Err BadMagic
framed_in (Some o) n bytes =
    if nat_lt (length bytes) (total_at o bytes) then Err ShortBlock
    else if has_bad_length o n bytes then Err BadLength
    else Ok (record { order = o; number = n; body = take (total_at o bytes - 12) (drop 8 bytes) })

-- The block that these bytes of a section begin with, or the first cause why there is none. The byte-order magic of a
-- section header is read first, wherever 12 bytes are there.
abbrev pub framed : Order → List ℕ → Result Block NgCause
framed o bytes =
    if nat_lt (length bytes) 12 then Err ShortBlock
    else framed_in (order_of o (kind_of (number o 4 bytes)) (drop 8 bytes)) (number o 4 bytes) bytes

-- what a block can be in a section of this order
pub record IsFramed (o : Order) (b : Block) : Type 0 where
  pub number : b.number < 2 ^ 32
  pub total : is_bad_total (kind_of b.number) (12 + length b.body) ≡ false
  pub octets : AreBytes b.body
  pub order : order_of o (kind_of b.number) b.body ≡ Some b.order
