-- What a rewriting leaves: the bytes in front of each place that it writes to.
use Rattle.std.proofs.Common.{◌≡◌, ℕ, ◌+◌, ◌/◌, ◌%◌, ◌≤◌, Bool, true, false, if◌then◌else◌, List, set, take, ◌∙◌, arith}
use Rattle.std.proofs.Common.{refl}
use Rattle.std.proofs.lemmas.List.{take-set-le}
use Rattle.packet_headers.specs.declared.flow.Flow.{Flow}
use Rattle.packet_headers.specs.Fields.{word_at, long_at, put_word, put_long, header_checksum}
use Rattle.packet_headers.specs.View.{is_tcp}
use Rattle.packet_headers.specs.Rewriting.{rewritten, checksum_place, adjusted_checksum}
use Rattle.inet_checksum.specs.OnesComplement.{adjusted_16, adjusted_32}
use Rattle.icmp_errors.specs.declared.error.IcmpError.{IcmpError}
use Rattle.icmp_errors.specs.ErrorRewriting.{exchanged_word, exchanged_long, icmp_checksum, quoted_checksum}
use Rattle.icmp_errors.specs.ErrorRewriting.{transport_checksum, has_transport_checksum, with_transport_checksum}
use Rattle.icmp_errors.specs.ErrorRewriting.{transport_sum, header_sum, with_quoted_address, rewritten_error}

word_leaves : (n : ℕ) (frame : List ℕ) (place word : ℕ) → n ≤ place
    → take n (put_word frame place word) ≡ take n frame
word_leaves n frame place word behind =
    take-set-le n (set frame place (word / 256)) (place + 1) (word % 256) (omega arith)
    ∙ take-set-le n frame place (word / 256) behind

long_leaves : (n : ℕ) (frame : List ℕ) (place number : ℕ) → n ≤ place
    → take n (put_long frame place number) ≡ take n frame
long_leaves n frame place number behind =
    word_leaves n (put_word frame place (number / 65536)) (place + 2) (number % 65536) (omega arith)
    ∙ word_leaves n frame place (number / 65536) behind

-- ---- flows

pub rewriting_leaves : (n : ℕ) (frame : List ℕ) (flow : Flow) (address_place port_place address port : ℕ) → n ≤ 24
    → n ≤ flow.transport_at → n ≤ address_place → n ≤ port_place
    → take n (rewritten frame flow address_place port_place address port) ≡ take n frame
rewriting_leaves n frame flow address_place port_place address port header transport at_address at_port =
    let old_address = long_at frame address_place in
    let sum = adjusted_32 (header_checksum frame) old_address address in
    let other = adjusted_checksum flow.protocol (word_at frame (checksum_place flow)) old_address address
    (word_at frame port_place) port in
    let first = put_word frame 24 sum in
    let second = put_word first (checksum_place flow) other in
    word_leaves n (put_long second address_place address) port_place port at_port
    ∙ long_leaves n second address_place address at_address
    ∙ word_leaves n first (checksum_place flow) other (omega arith)
    ∙ word_leaves n frame 24 sum header

-- ---- errors

exchange_leaves : (n : ℕ) (frame : List ℕ) (checksum place word : ℕ) → n ≤ checksum → n ≤ place
    → take n (exchanged_word frame checksum place word) ≡ take n frame
exchange_leaves n frame checksum place word at_checksum at_place =
    let sum = adjusted_16 (word_at frame checksum) (word_at frame place) word in
    word_leaves n (put_word frame checksum sum) place word at_place ∙ word_leaves n frame checksum sum at_checksum

long_exchange_leaves : (n : ℕ) (frame : List ℕ) (checksum place number : ℕ) → n ≤ checksum → n ≤ place
    → take n (exchanged_long frame checksum place number) ≡ take n frame
long_exchange_leaves n frame checksum place number at_checksum at_place =
    exchange_leaves n (exchanged_word frame checksum place (number / 65536)) checksum (place + 2) (number % 65536)
    at_checksum (omega arith)
    ∙ exchange_leaves n frame checksum place (number / 65536) at_checksum at_place

transport_leaves : (n : ℕ) (frame : List ℕ) (error : IcmpError) (old_address address port_place port : ℕ)
    → n ≤ error.icmp_at → n ≤ error.transport_at
    → take n (with_transport_checksum frame error old_address address port_place port) ≡ take n frame
transport_leaves n frame error old_address address port_place port icmp transport =
    by (has_transport_checksum error)
  where
    by : (has : Bool)
        → take n (if has then exchanged_word frame (icmp_checksum error) (transport_checksum error)
        (transport_sum frame error old_address address port_place port) else frame) ≡ take n frame
    by true = exchange_leaves n frame (icmp_checksum error) (transport_checksum error)
        (transport_sum frame error old_address address port_place port) (omega arith) (omega arith)
    by false = refl

address_leaves : (n : ℕ) (frame : List ℕ) (error : IcmpError) (place old_address address : ℕ) → n ≤ error.icmp_at
    → n ≤ place → take n (with_quoted_address frame error place old_address address) ≡ take n frame
address_leaves n frame error place old_address address icmp at_place =
    let sum = header_sum frame error old_address address in
    long_exchange_leaves n (exchanged_word frame (icmp_checksum error) (quoted_checksum error) sum)
    (icmp_checksum error) place address (omega arith) at_place
    ∙ exchange_leaves n frame (icmp_checksum error) (quoted_checksum error) sum (omega arith) (omega arith)

pub error_rewriting_leaves : (n : ℕ) (frame : List ℕ) (error : IcmpError)
    (outer_place quoted_place port_place address port : ℕ) → n ≤ 24 → n ≤ error.icmp_at → n ≤ error.transport_at
    → n ≤ outer_place → n ≤ quoted_place → n ≤ port_place
    → take n (rewritten_error frame error outer_place quoted_place port_place address port) ≡ take n frame
error_rewriting_leaves n frame error outer_place quoted_place port_place address port header icmp transport at_outer
    at_quoted at_port =
    let old_address = long_at frame quoted_place in
    let outer = exchanged_long frame 24 outer_place address in
    let inner = with_transport_checksum outer error old_address address port_place port in
    address_leaves n (exchanged_word inner (icmp_checksum error) port_place port) error quoted_place old_address address
    icmp at_quoted
    ∙ exchange_leaves n inner (icmp_checksum error) port_place port (omega arith) at_port
    ∙ transport_leaves n outer error old_address address port_place port icmp transport
    ∙ long_exchange_leaves n frame 24 outer_place address header at_outer
