-- The steps of a rewriting, put together.
use Rattle.std.proofs.Common.{◌≡◌, ℕ, ◌+◌, ◌/◌, ◌%◌, List, ◌∙◌, ap}
use Rattle.packet_headers.specs.Fields.{long_at}
use Rattle.icmp_errors.specs.declared.error.IcmpError.{IcmpError}
use Rattle.icmp_errors.specs.ErrorRewriting.{exchanged_word, exchanged_long, icmp_checksum, with_transport_checksum}
use Rattle.icmp_errors.specs.ErrorRewriting.{with_quoted_address, rewritten_error}

pub long_composed : (frame half new : List ℕ) (checksum place number : ℕ)
    → half ≡ exchanged_word frame checksum place (number / 65536)
    → new ≡ exchanged_word half checksum (place + 2) (number % 65536) → new ≡ exchanged_long frame checksum place number
long_composed frame half new checksum place number half_is new_is =
    new_is ∙ ap (λ (f : List ℕ). exchanged_word f checksum (place + 2) (number % 65536)) half_is

pub composed : (frame f2 f3 f4 new : List ℕ) (error : IcmpError)
    (outer_place quoted_place port_place old_address address port : ℕ) → old_address ≡ long_at frame quoted_place
    → f2 ≡ exchanged_long frame 24 outer_place address
    → f3 ≡ with_transport_checksum f2 error old_address address port_place port
    → f4 ≡ exchanged_word f3 (icmp_checksum error) port_place port
    → new ≡ with_quoted_address f4 error quoted_place old_address address
    → new ≡ rewritten_error frame error outer_place quoted_place port_place address port
composed frame f2 f3 f4 new error outer_place quoted_place port_place old_address address port old_is is_2 is_3 is_4
    is_new =
    is_new
    ∙ ap (λ (f : List ℕ). with_quoted_address f error quoted_place old_address address) is_4
    ∙ ap (λ (f : List ℕ). with_quoted_address (exchanged_word f (icmp_checksum error) port_place port) error quoted_place
    old_address address) is_3
    ∙ ap (λ (f : List ℕ). with_quoted_address (exchanged_word
    (with_transport_checksum f error old_address address port_place port) (icmp_checksum error) port_place port) error
    quoted_place old_address address) is_2
    ∙ ap (λ (old : ℕ). with_quoted_address (exchanged_word
    (with_transport_checksum (exchanged_long frame 24 outer_place address) error old address port_place port)
    (icmp_checksum error) port_place port) error quoted_place old address) old_is
