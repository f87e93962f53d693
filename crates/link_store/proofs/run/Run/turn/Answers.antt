use Rattle.std.proofs.Common.{arith}
use Rattle.link_store.specs.Rows.{forms_of}
use Rattle.link_store.proofs.ToldLemmas.{turns_away, turns_run}
use Rattle.link_store.proofs.run.Run.turn.Goals as goal

pub returns-then-not-is_output_of : goal.returns-then-not-is_output_of
returns-then-not-is_output_of c =
    let s = c.self.inside in
    rw (← c.self.view_is, c.truncate.ensures) (turns_away (forms_of s.frames) s.first s.first c.args.epoch
    (λ of. absurd (let is = c.is_output_of.ensures.1 of in let no = c.if-not-is_output_of.true in cc)))

pub invariant_of-self-2 : goal.invariant_of-self-2
invariant_of-self-2 c =
    let fits = c.self.invariant.fits in
    let many = c.in_ok-tell_from.ensures.as_many in
    let each = c.in_ok-tell_from.ensures.ok 0 in
    record { fits = omega (arith, fits, many); told = λ i d low long. each.told i d long long }

pub returns : goal.returns
returns c =
    let s = c.self.inside in
    let of = c.is_output_of.ensures.0 c.if-not-is_output_of.false in
    rw (← c.self.view_is) (turns_run (forms_of s.frames) (forms_of c.tell_from.new.frames) s.first c.args.epoch c.requires of.0
    of.1 c.in_ok-tell_from.ensures.ok)
