use Rattle.std.proofs.Common.{◌≤◌, length, sym, subst}
use Rattle.box_conf.specs.declared.names.Named.{Named}
use Rattle.box_conf.proofs.NamedBackends.{some_named}
use Rattle.box_conf.proofs.conf.read_both.Goals as goal

pub make_conf-requires : goal.make_conf-requires
make_conf-requires c = record {
  in_range = c.in-Ok.ensures.in_range;
  whole = c.in-Ok.ensures.whole;
  some = λ is.
      subst (λ (names : Named). 1 ≤ length names.backends) (sym c.in-Ok-names.ensures.names)
      (some_named c.args.text.now c.in-Ok.set.kind c.in-Ok.set.settings c.in-Ok.ensures.value is);
  few = c.in-Ok-names.ensures.few;
}
