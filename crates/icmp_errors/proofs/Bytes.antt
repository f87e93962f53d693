-- Which bytes a rewriting leaves, and what is read at those that it writes.
use Rattle.std.proofs.Common.{◌≡◌, ◌⊎◌, ℕ, ◌+◌, ◌*◌, ◌/◌, ◌%◌, ◌<◌, ◌≤◌, Bool, true, false, List, [], ◌∷◌, length, get_or}
use Rattle.std.proofs.Common.{if◌then◌else◌, inl, inr, ◌∙◌, arith, refl}
use Rattle.packet_headers.specs.Fields.{word_at, long_at}
use Rattle.packet_headers.proofs.Residues.{other_side}
use Rattle.icmp_errors.specs.declared.error.IcmpError.{IcmpError}
use Rattle.icmp_errors.specs.ErrorRewriting.{exchanged_word, exchanged_long, icmp_checksum, quoted_checksum}
use Rattle.icmp_errors.specs.ErrorRewriting.{transport_checksum, has_transport_checksum, with_transport_checksum}
use Rattle.icmp_errors.specs.ErrorRewriting.{with_quoted_address, rewritten_error, IsOutside}
use Rattle.icmp_errors.specs.ErrorRewriting.{rewritten_fields, transport_sum, header_sum}
use Rattle.icmp_errors.proofs.Exchanges.{length-exchanged, Beside, byte_beside, exchanged_there}

-- ---- steps

abbrev pub BesideLong : ℕ → ℕ → Type 0
BesideLong k place = (k < place) ⊎ (place + 4 ≤ k)

pub long_leaves : (frame : List ℕ) (checksum place number k : ℕ) → Beside k checksum → BesideLong k place
    → get_or (exchanged_long frame checksum place number) k 0 ≡ get_or frame k 0
long_leaves frame checksum place number k beside_checksum beside_place =
    byte_beside (exchanged_word frame checksum place (number / 65536)) checksum (place + 2) (number % 65536) k
    beside_checksum (other_side beside_place (λ h. omega arith) (λ h. omega arith))
    ∙ byte_beside frame checksum place (number / 65536) k beside_checksum
    (other_side beside_place (λ h. h) (λ h. omega arith))

pub transport_leaves : (frame : List ℕ) (error : IcmpError) (old_address address port_place port k : ℕ)
    → Beside k (icmp_checksum error) → (has_transport_checksum error ≡ true → Beside k (transport_checksum error))
    → get_or (with_transport_checksum frame error old_address address port_place port) k 0 ≡ get_or frame k 0
transport_leaves frame error old_address address port_place port k beside beside_field =
    by (has_transport_checksum error) refl
  where
    by : (has : Bool) → has_transport_checksum error ≡ has
        → get_or (if has then exchanged_word frame (icmp_checksum error) (transport_checksum error)
        (transport_sum frame error old_address address port_place port) else frame) k 0 ≡ get_or frame k 0
    by true is = byte_beside frame (icmp_checksum error) (transport_checksum error)
        (transport_sum frame error old_address address port_place port) k beside (beside_field is)
    by false is = refl

address_leaves : (frame : List ℕ) (error : IcmpError) (place old_address address k : ℕ)
    → Beside k (icmp_checksum error) → Beside k (quoted_checksum error) → BesideLong k place
    → get_or (with_quoted_address frame error place old_address address) k 0 ≡ get_or frame k 0
address_leaves frame error place old_address address k beside beside_header beside_place =
    let new = header_sum frame error old_address address in
    long_leaves (exchanged_word frame (icmp_checksum error) (quoted_checksum error) new) (icmp_checksum error) place
    address k beside beside_place
    ∙ byte_beside frame (icmp_checksum error) (quoted_checksum error) new k beside beside_header

-- ---- all of them

-- a byte beside all that is written behind the error's own header
pub record BesideMessage (error : IcmpError) (quoted_place port_place k : ℕ) : Type 0 where
  pub icmp : Beside k (icmp_checksum error)
  pub header : Beside k (quoted_checksum error)
  pub address : BesideLong k quoted_place
  pub port : Beside k port_place
  pub transport : has_transport_checksum error ≡ true → Beside k (transport_checksum error)

pub message_leaves : (frame : List ℕ) (error : IcmpError) (quoted_place port_place old_address address port k : ℕ)
    → BesideMessage error quoted_place port_place k
    → get_or (with_quoted_address (exchanged_word
    (with_transport_checksum frame error old_address address port_place port) (icmp_checksum error) port_place port)
    error quoted_place old_address address) k 0
    ≡ get_or frame k 0
message_leaves frame error quoted_place port_place old_address address port k beside =
    let transport = with_transport_checksum frame error old_address address port_place port in
    address_leaves (exchanged_word transport (icmp_checksum error) port_place port) error quoted_place old_address
    address k beside.icmp beside.header beside.address
    ∙ byte_beside transport (icmp_checksum error) port_place port k beside.icmp beside.port
    ∙ transport_leaves frame error old_address address port_place port k beside.icmp beside.transport

beside_transport : (error : IcmpError) (k : ℕ) (has : Bool)
    → IsOutside k (if has then (transport_checksum error, 2) ∷ [] else []) → has ≡ true
    → Beside k (transport_checksum error)
beside_transport error k true outside is = outside.0
beside_transport error k false outside is = absurd (cc)

pub byte_kept : (frame : List ℕ) (error : IcmpError) (outer_place quoted_place port_place address port k : ℕ)
    → IsOutside k (rewritten_fields error outer_place quoted_place port_place)
    → get_or (rewritten_error frame error outer_place quoted_place port_place address port) k 0 ≡ get_or frame k 0
byte_kept frame error outer_place quoted_place port_place address port k outside =
    message_leaves (exchanged_long frame 24 outer_place address) error quoted_place port_place
    (long_at frame quoted_place) address port k
    (record {
      icmp = outside.1.1.0;
      header = outside.1.1.1.0;
      address = outside.1.1.1.1.0;
      port = outside.1.1.1.1.1.0;
      transport = beside_transport error k (has_transport_checksum error) outside.1.1.1.1.1.1;
    })
    ∙ long_leaves frame 24 outer_place address k outside.0 outside.1.0

-- ---- what is read

pub word_same : (new old : List ℕ) (place : ℕ) → get_or new place 0 ≡ get_or old place 0
    → get_or new (place + 1) 0 ≡ get_or old (place + 1) 0 → word_at new place ≡ word_at old place
word_same new old place high low = omega arith

pub long_same : (new old : List ℕ) (place : ℕ) → ((k : ℕ) → place ≤ k → k < place + 4 → get_or new k 0 ≡ get_or old k 0)
    → long_at new place ≡ long_at old place
long_same new old place same =
    let a = same place (omega arith) (omega arith) in
    let b = same (place + 1) (omega arith) (omega arith) in
    let c = same (place + 2) (omega arith) (omega arith) in
    let d = same (place + 2 + 1) (omega arith) (omega arith) in
    omega arith

pub long_there : (frame : List ℕ) (checksum place number : ℕ) → checksum + 2 ≤ place → place + 3 < length frame
    → long_at (exchanged_long frame checksum place number) place ≡ number
long_there frame checksum place number before inside =
    let a = exchanged_word frame checksum place (number / 65536) in
    let b = exchanged_word a checksum (place + 2) (number % 65536) in
    let high_byte = byte_beside a checksum (place + 2) (number % 65536) place (inr before) (inl (omega arith)) in
    let low_byte =
    byte_beside a checksum (place + 2) (number % 65536) (place + 1) (inr (omega arith)) (inl (omega arith)) in
    let same = word_same b a place high_byte low_byte in
    let high = exchanged_there frame checksum place (number / 65536) (omega arith) in
    let long : length a ≡ length frame = length-exchanged frame checksum place (number / 65536) in
    let low = exchanged_there a checksum (place + 2) (number % 65536) (omega arith) in
    joined (word_at b place) (word_at a place) (word_at b (place + 2)) number same high low
  where
    joined : (h h' l number : ℕ) → h ≡ h' → h' ≡ number / 65536 → l ≡ number % 65536 → 65536 * h + l ≡ number
    joined h h' l number p q r = omega arith

-- the quoted address and the quoted port, and the address in the error's own header
pub address_there : (frame : List ℕ) (error : IcmpError) (place old_address address : ℕ)
    → error.icmp_at + 8 + 12 ≤ place → place + 3 < length frame
    → long_at (with_quoted_address frame error place old_address address) place ≡ address
address_there frame error place old_address address behind inside =
    let new = header_sum frame error old_address address in
    let half = exchanged_word frame (icmp_checksum error) (quoted_checksum error) new in
    let same : length half ≡ length frame =
    length-exchanged frame (icmp_checksum error) (quoted_checksum error) new in
    long_there half (icmp_checksum error) place address (omega arith) (omega arith)

pub port_there : (frame : List ℕ) (error : IcmpError) (place port_place old_address address port : ℕ)
    → error.icmp_at + 8 + 12 ≤ place → place + 4 ≤ port_place → port_place + 1 < length frame
    → word_at (with_quoted_address (exchanged_word frame (icmp_checksum error) port_place port) error place old_address
    address) port_place ≡ port
port_there frame error place port_place old_address address port behind before inside =
    let f = exchanged_word frame (icmp_checksum error) port_place port in
    let high = address_leaves f error place old_address address port_place (inr (omega arith)) (inr (omega arith))
    (inr (omega arith)) in
    let low = address_leaves f error place old_address address (port_place + 1) (inr (omega arith)) (inr (omega arith))
    (inr (omega arith)) in
    word_same (with_quoted_address f error place old_address address) f port_place high low
    ∙ exchanged_there frame (icmp_checksum error) port_place port inside
