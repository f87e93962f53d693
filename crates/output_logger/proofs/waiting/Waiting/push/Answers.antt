use Rattle.std.proofs.Common.{sym, ◌∙◌}
use Rattle.output_logger.proofs.ArrivalLemmas.{ok_of, some_of, insert_last}
use Rattle.output_logger.proofs.waiting.Waiting.push.Goals as goal

pub returns-clause-arrives : goal.returns-clause-arrives
returns-clause-arrives c =
    let a = c.in_ok-arrival.arrival in
    let good = sym c.is_err-else-is_err.ensures.value ∙ c.if-is_err-2.false in
    let last = c.in_ok-arrival.ensures.last in
    record {
      last = λ b p h. last b (some_of _ p h);
      small = c.in_ok-arrival.ensures.small;
      added =
          ok_of c.insert.result good c.insert.ensures.entries
          ∙ insert_last c.args.self.now.outputs.entries a c.args.output last;
      found = (ok_of c.insert.result good c.insert.ensures.updates).0;
      sorted = c.insert.ensures.ordered;
    }
