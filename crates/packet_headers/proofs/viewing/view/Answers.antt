use Rattle.std.proofs.Common.{sym, ◌∙◌}
use Rattle.std.proofs.lemmas.Result.{err_from_is_err_and}
use Rattle.packet_headers.specs.Fields.{header_end}
use Rattle.packet_headers.specs.View.{header_failures, packet_failures, flow_of}
use Rattle.packet_headers.proofs.FirstFailure.{can_rewrite, first_failure_err, first_failure-append}
use Rattle.packet_headers.proofs.viewing.view.Goals as goal

pub returns-in_err-check_packet-clause-value : goal.returns-in_err-check_packet-clause-value
returns-in_err-check_packet-clause-value c =
    let frame = c.args.frame.now in
    let exit =
    err_from_is_err_and c.from_residual-in_err-check_packet.result c.from_residual-in_err-check_packet.ensures.1 in
    let passes = sym c.find_transport.ensures ∙ c.in_ok-transport_at.was in
    let fails = sym c.check_packet.ensures ∙ c.in_err-check_packet.was in
    rw (exit.1, exit.2) (sym (first_failure-append (header_failures frame) (packet_failures frame c.args.original)
    (header_end frame) _ (flow_of frame) passes
    ∙ first_failure_err (packet_failures frame c.args.original) tt (flow_of frame) _ fails))

pub returns-clause-rewritable : goal.returns-clause-rewritable
returns-clause-rewritable c =
    let header = sym c.find_transport.ensures ∙ c.in_ok-transport_at.was in
    let packet = sym c.check_packet.ensures ∙ c.in_ok-check_packet.was in
    can_rewrite c.args.frame.now c.args.original c.read_flow.result (header_end c.args.frame.now) _ tt _ header packet
    c.read_flow.ensures
