-- Blocks of pcapng files, by draft-ietf-opsawg-pcapng, "PCAP Now Generic (pcapng) Capture File Format", section 3.1.
use Rattle.std.specs.Prelude.{ℕ, ◌+◌, ◌%◌, ◌==◌, ◌||◌, not, nat_lt, if◌then◌else◌, Bool, true, false, List, ◌++◌}
use Rattle.std.specs.Prelude.{length, Option, Some, None}
use Rattle.pcap_io.specs.declared.order.Order.{Order}
use Rattle.pcap_io.specs.declared.order.Order.TheVariants.{Little, Big}
use Rattle.pcap_io.specs.Capture.{spelled, number}
use Rattle.pcapng_io.specs.declared.block.TheConstants.{MOST_BLOCK}
use Rattle.pcapng_io.specs.declared.block.Block.{Block}
use Rattle.pcapng_io.specs.declared.block.BlockKind.{BlockKind}
use Rattle.pcapng_io.specs.declared.block.BlockKind.TheVariants.{Section, Interface, Simple, Enhanced, Other}

-- a block's bytes: its type, its total length, its body, and the total length again
abbrev pub block_bytes : Block → List ℕ
block_bytes b =
    spelled b.order 4 b.number
    ++ (spelled b.order 4 (12 + length b.body) ++ (b.body ++ spelled b.order 4 (12 + length b.body)))

abbrev pub kind_of : ℕ → BlockKind
kind_of n =
    if n == 0x0a0d0d0a then Section
    else if n == 1 then Interface
    else if n == 3 then Simple
    else if n == 6 then Enhanced
    else Other

-- the least total length of a block
abbrev pub least_total : BlockKind → ℕ
least_total Section = 28
least_total Interface = 20
least_total Simple = 16
least_total Enhanced = 32
least_total Other = 12

abbrev pub is_bad_total : BlockKind → ℕ → Bool
is_bad_total kind total = not (total % 4 == 0) || (nat_lt total (least_total kind) || nat_lt MOST_BLOCK total)

abbrev pub gives_packet : BlockKind → Bool
gives_packet Section = false
gives_packet Interface = false
gives_packet Simple = true
gives_packet Enhanced = true
gives_packet Other = false

-- the byte order that a section header's byte-order magic tells, if it is one
abbrev pub order_in : List ℕ → Option Order
order_in body =
    if number Little 4 body == 0x1a2b3c4d then Some Little
    else if number Big 4 body == 0x1a2b3c4d then Some Big
    else None

-- the byte order of a block in a section of this order: a section header has its own
abbrev pub order_of : Order → BlockKind → List ℕ → Option Order
order_of o Section body = order_in body
order_of o Interface body = Some o
order_of o Simple body = Some o
order_of o Enhanced body = Some o
order_of o Other body = Some o
