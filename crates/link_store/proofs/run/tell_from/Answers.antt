use Rattle.std.proofs.Common.{arith}
use Rattle.link_store.specs.Rows.{forms_of}
use Rattle.link_store.proofs.ToldLemmas.{told_first, told_one, told_all}
use Rattle.link_store.proofs.run.tell_from.Goals as goal

pub loop-i-init : goal.loop-i-init
loop-i-init c = told_first c.args.from (forms_of c.args.frames.now) c.requires

pub loop-i-preserved : goal.loop-i-preserved
loop-i-preserved c =
    let inv = c.loop-i.invariant in
    let many = inv.as_many in
    told_one (forms_of c.args.frames.now) (forms_of c.loop-i.frames) (forms_of c.tell.new.self) c.loop-i.i inv
    (omega (arith, many, c.len-i-end.ensures, c.loop-i-test.true)) c.in_ok-tell.ensures.tells

pub returns-clause-ok : goal.returns-clause-ok
returns-clause-ok c =
    let inv = c.loop-i.invariant in
    let many = inv.as_many in
    told_all (forms_of c.args.frames.now) (forms_of c.loop-i.frames) c.loop-i.i
    (omega (arith, many, c.len-i-end.ensures, c.loop-i-test.false)) inv
