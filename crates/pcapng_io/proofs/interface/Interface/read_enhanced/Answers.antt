use Rattle.std.proofs.Common.{◌≡◌, drop, sym, ap, ◌∙◌, take, arith}
use Rattle.std.proofs.lemmas.List.{take_rest}
use Rattle.pcap_io.specs.Capture.{number}
use Rattle.pcapng_io.specs.Times.{seconds_of, nanos_of}
use Rattle.pcapng_io.specs.Contents.{enhanced_time}
use Rattle.pcapng_io.proofs.Packets.{enhanced_is}
use Rattle.pcapng_io.proofs.interface.Interface.read_enhanced.Goals as goal

pub returns : goal.returns
returns c =
    let time : c.read_time-time.result ≡ enhanced_time c.args.order c.args.body.now = c.read_time-time.ensures in
    enhanced_is c.args.order c.args.self c.args.body.now c.in_ok-bytes.bytes c.read_u32-captured.result
    c.in-Some.seconds c.nanos.result c.read_u32.result
    (c.read_u32-captured.ensures ∙ ap (number c.args.order 4) (take_rest c.args.body.now 12))
    (cc (c.passes_body.ensures, c.if-passes_body.false))
    (ap (seconds_of c.args.self) (sym time) ∙ (sym c.seconds.ensures ∙ c.in-Some.is))
    (c.nanos.ensures ∙ ap (nanos_of c.args.self) time)
    (c.read_u32.ensures ∙ ap (number c.args.order 4) (take_rest c.args.body.now 16))
    (c.in_ok-bytes.ensures ∙ ap (λ n. take n (drop 20 c.args.body.now)) (omega arith))
