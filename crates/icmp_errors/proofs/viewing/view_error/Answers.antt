use Rattle.icmp_errors.proofs.Known.{rewritable}
use Rattle.icmp_errors.proofs.viewing.view_error.Goals as goal

pub returns-clause-rewritable : goal.returns-clause-rewritable
returns-clause-rewritable c =
    rewritable c.find_error.result c.args.frame.now c.args.original c.find_error.ensures
