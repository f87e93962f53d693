use Rattle.std.proofs.Common.{◌+◌, ◌<◌, length, sym, ap, ◌∙◌, subst}
use Rattle.plain_text.specs.declared.limit.TheConstants.{MOST_PACKETS}
use Rattle.recovery_core.proofs.AppendedLemmas.{stands_for_some, is_behind, is_same, stands_behind}
use Rattle.recovery_core.proofs.system.System.append.Goals as goal

pub append-requires-clause-room : goal.append-requires-clause-room
append-requires-clause-room g c κs within =
    subst (λ q. length q.parts.inputs.packets + length q.parts.left < MOST_PACKETS) (sym c.self.view_is) c.requires.room

pub invariant_of-self : goal.invariant_of-self
invariant_of-self g c = λ runs.
    stands_for_some g.P.Program.meaning c.args.packet c.append.result c.self.inside.core c.append.new.core
    c.append.ensures.ok c.append.ensures.stands c.append.ensures.err (c.self.invariant runs)

pub returns-clause-ok : goal.returns-clause-ok
returns-clause-ok g c = is_behind c.args.packet c.append.result c.append.new.core c.self.view_is c.append.ensures.ok

pub returns-clause-stands : goal.returns-clause-stands
returns-clause-stands g c =
    stands_behind g.P.Program.meaning c.args.packet c.append.result c.append.new.core c.self.view_is
    c.append.ensures.ok c.append.ensures.stands

pub returns-clause-err : goal.returns-clause-err
returns-clause-err g c = is_same c.append.result c.append.new.core c.self.view_is c.append.ensures.err
