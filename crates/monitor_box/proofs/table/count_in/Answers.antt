use Rattle.std.proofs.Common.{◌∙◌, refl}
use Rattle.monitor_box.proofs.TableLemmas.{counted_by}
use Rattle.monitor_box.proofs.table.count_in.Goals as goal

pub returns-clause-ok : goal.returns-clause-ok
returns-clause-ok c =
    let known = c.copied-known.ensures ∙ c.get.ensures.value in
    rw (
      c.in_ok-insert.ensures.entries,
      c.with_packet.ensures,
      c.unwrap_or-earlier.ensures,
      known,
      c.new.ensures,
    ) (counted_by _ (λ a b. refl) c.args.flow c.args.length _)
