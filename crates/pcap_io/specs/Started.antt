-- What reading a file header answers and takes.
use Rattle.std.specs.Prelude.{◌≡◌, ℕ, false, List, length, Some, None}
use Rattle.pcap_io.specs.declared.started.Started.{Started}
use Rattle.pcap_io.specs.declared.started.Started.TheVariants as started
use Rattle.pcap_io.specs.Capture.{header_of}
use Rattle.pcap_io.specs.Faults.{header_fault}

-- what the answer says of the bytes left
abbrev pub Starts : List ℕ → Started → Type 0
Starts left (started.Reader r) = header_fault left ≡ None
Starts left (started.Refused fault) = header_fault left ≡ Some fault
Starts left started.ReadFault = Unit {0}
Starts left started.NoMemory = Unit {0}

-- the bytes that an answer takes from a source, which has such a relation
abbrev pub TakesHeader : {S : Type 0} → (S → List ℕ → S → Type 0) → Started → S → S → Type 0
TakesHeader reads (started.Reader r) old new =
    (unused : List ℕ) × (length unused ≡ 12) × reads old (header_of r.order r.unit unused) new
TakesHeader reads (started.Refused fault) old new = (taken : List ℕ) × reads old taken new
TakesHeader reads started.ReadFault old new = (taken : List ℕ) × reads old taken new
TakesHeader reads started.NoMemory old new = (taken : List ℕ) × reads old taken new

-- a reader stands behind the header, and has given nothing
abbrev pub IsFresh : Started → Type 0
IsFresh (started.Reader r) = (r.offset ≡ 24) × (r.count ≡ 0) × (r.over ≡ false)
IsFresh (started.Refused fault) = Unit {0}
IsFresh started.ReadFault = Unit {0}
IsFresh started.NoMemory = Unit {0}
