use Rattle.std.proofs.Common.{◌≡◌, ◌+◌, ◌<◌, ◌∙◌, length, length-drop, arith}
use Rattle.std.proofs.lemmas.Bool.Decides.{nat_tests}
use Rattle.link_store.specs.Rows.{forms_of}
use Rattle.link_store.proofs.RunLemmas.{none_beside, none_up_to, drops_first, below_min, is_min}
use Rattle.link_store.proofs.ToldLemmas.{told_drop}
use Rattle.link_store.proofs.run.Run.forget.Goals as goal

pub returns-then-not-is_beside : goal.returns-then-not-is_beside
returns-then-not-is_beside c =
    let s = c.self.inside in
    rw (← c.self.view_is) (none_beside (forms_of s.frames) s.first c.args.last.now
    (λ beside. absurd (let is = c.is_beside.ensures.1 beside in let no = c.if-not-is_beside.true in cc)))

pub loop-self-preserved : goal.loop-self-preserved
loop-self-preserved c =
    let s = c.loop-self.self-inside in
    let inv = c.loop-self.invariant in
    let some = c.len.ensures in
    let test = c.loop-self-test.true in
    let cut = length-drop 1 (forms_of s.frames) in
    let next = c.saturating_add-self-inside.result in
    let most = below_min (s.first.number + 1) _ next c.saturating_add-self-inside.ensures in
    let follows : 1 < length (forms_of s.frames) → next ≡ s.first.number + 1 =
    λ more. is_min (s.first.number + 1) _ next c.saturating_add-self-inside.ensures (omega (arith, inv.fits)) in
    rw c.pop_front.ensures.rest (record {
      beside = record { epoch = inv.beside.epoch; kind = inv.beside.kind; thread = inv.beside.thread };
      fits = omega (arith, inv.fits, some, test);
      told = rw c.saturating_sub-self-inside.ensures (told_drop s.told (forms_of s.frames) inv.told);
      others = λ a apart.
          drops_first (forms_of s.frames) s.first c.args.last.now next inv.beside (omega arith) follows a apart
          ∙ inv.others a apart;
    })

pub returns-then-self-last : goal.returns-then-self-last
returns-then-self-last c =
    let s = c.loop-self.self-inside in
    let inv = c.loop-self.invariant in
    rw (← c.self.view_is) (record {
      forgotten =
          λ a up. none_up_to (forms_of s.frames) s.first c.args.last.now a (λ some. omega (arith, c.if-self-last.true)) up;
      others = inv.others;
    })

pub returns : goal.returns
returns c =
    let s = c.loop-self.self-inside in
    let inv = c.loop-self.invariant in
    rw (← c.self.view_is) (record {
      forgotten = λ a up. none_up_to (forms_of s.frames) s.first c.args.last.now a
          (λ some. absurd (let none = c.loop-self-test.false in let len = c.len.ensures in grind (arith, nat_tests)))
          up;
      others = inv.others;
    })
