-- What follows a record's header.
use Rattle.std.specs.Prelude.{◌≡◌, ℕ, List, ◌++◌}
use Rattle.pcap_io.specs.declared.order.Order.{Order}
use Rattle.pcap_io.specs.declared.next.Next.{Next}
use Rattle.pcap_io.specs.declared.next.Next.TheVariants as next
use Rattle.pcap_io.specs.Capture.{record_of}

-- the bytes that an answer takes after this header
abbrev pub TakesBody : {S : Type 0} → (S → List ℕ → S → Type 0) → Order → List ℕ → Next → S → S → Type 0
TakesBody reads o head (next.Packet p) old new =
    (taken : List ℕ) × reads old taken new × (record_of o p ≡ head ++ taken)
TakesBody reads o head next.End old new = ⊥
TakesBody reads o head (next.Refused fault) old new = (taken : List ℕ) × reads old taken new
TakesBody reads o head (next.TooLarge limit) old new = (taken : List ℕ) × reads old taken new
TakesBody reads o head next.ReadFault old new = (taken : List ℕ) × reads old taken new
TakesBody reads o head next.NoMemory old new = (taken : List ℕ) × reads old taken new
TakesBody reads o head next.Over old new = ⊥
