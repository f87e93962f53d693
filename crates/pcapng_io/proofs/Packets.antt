-- The packet of an enhanced packet's block.
use Rattle.std.proofs.Common.{◌≡◌, ℕ, false, List, drop, take, Some, refl, sym, ap, ◌∙◌}
use Rattle.std.specs.Prelude.{Ok}
use Rattle.pcap_io.specs.declared.order.Order.{Order}
use Rattle.pcap_io.specs.Capture.{number}
use Rattle.pcapng_io.specs.declared.interface.Interface.{Interface}
use Rattle.pcapng_io.specs.Contents.{passes_body, enhanced_time, enhanced_on}
use Rattle.pcapng_io.specs.Times.{seconds_of, nanos_of}

pub enhanced_is : (o : Order) (i : Interface) (body out : List ℕ) (captured seconds fraction original : ℕ)
    → captured ≡ number o 4 (drop 12 body) → passes_body captured 20 body ≡ false
    → seconds_of i (enhanced_time o body) ≡ Some seconds → fraction ≡ nanos_of i (enhanced_time o body)
    → original ≡ number o 4 (drop 16 body) → out ≡ take captured (drop 20 body)
    → enhanced_on o body (Some i)
    ≡ Ok (record { seconds = seconds; fraction = fraction; original = original; bytes = out })
enhanced_is o i body out captured seconds fraction original captured_is within seconds_is fraction_is
    original_is out_is =
    let inside : passes_body (number o 4 (drop 12 body)) 20 body ≡ false =
    ap (λ n. passes_body n 20 body) (sym captured_is) ∙ within in
    rw (inside, seconds_is, out_is, captured_is, fraction_is, original_is) refl
