use Rattle.std.proofs.Common.{◌∙◌, sym, ap}
use Rattle.icmp_errors.specs.ErrorView.{is_other_protocol}
use Rattle.icmp_errors.proofs.Known.{has_header}
use Rattle.icmp_errors.proofs.viewing.is_other_protocol.Goals as goal

pub returns-clause-long_enough : goal.returns-clause-long_enough
returns-clause-long_enough c = λ h.
    has_header c.args.frame.now c.args.original
    (ap is_other_protocol (sym c.view.ensures.value) ∙ sym c.says_other.ensures ∙ h)
