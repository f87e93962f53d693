use Rattle.std.proofs.Common.{List, sym, subst, arith, length, ◌-◌, ◌<◌, ◌≤◌}
use Rattle.std.proofs.lemmas.Result.{on_ok_weaker}
use Rattle.link_store.specs.Rows.{forms_of}
use Rattle.link_store.specs.declared.kept.Form.{Form}
use Rattle.link_store.specs.Kept.{bytes_of}
use Rattle.link_store.specs.Links.{Sends}
use Rattle.link_store.specs.Runs.{Run, Takes, in_turn}
use Rattle.link_store.proofs.RunLemmas.{puts_set, puts_next}
use Rattle.link_store.proofs.run.Run.put.Goals as goal

pub returns-then-place-len-clause-ok : goal.returns-then-place-len-clause-ok
returns-then-place-len-clause-ok c =
    let s = c.self.inside in
    let at = c.args.at.now in
    let takes = subst (λ (r : Run). Takes r at) (sym c.self.view_is) c.requires in
    let low : at.number - s.first.number < length (forms_of s.frames) =
    omega (arith, c.if-place-len.true, c.len.ensures) in
    let After : List Form → Type 0 =
    λ l. Sends (in_turn s.first (forms_of s.frames)) (in_turn s.first l) at (bytes_of at.epoch c.args.frame) in
    rw (← c.self.view_is)
    (on_ok_weaker c.set.result
    (λ is. subst After (sym is) (puts_set s.first (forms_of s.frames) at c.args.frame takes low)) c.set.ensures.ok)

pub returns-else-place-len-clause-ok : goal.returns-else-place-len-clause-ok
returns-else-place-len-clause-ok c =
    let s = c.self.inside in
    let takes = subst (λ (r : Run). Takes r c.args.at.now) (sym c.self.view_is) c.requires in
    let high : length (forms_of s.frames) ≤ c.args.at.now.number - s.first.number =
    omega (arith, c.if-place-len.false, c.len.ensures) in
    let After : List Form → Type 0 =
    λ l. Sends (in_turn s.first (forms_of s.frames)) (in_turn s.first l) c.args.at.now
    (bytes_of c.args.at.now.epoch c.args.frame) in
    rw (← c.self.view_is)
    (on_ok_weaker c.push.result
    (λ is. subst After (sym is) (puts_next s.first (forms_of s.frames) c.args.at.now c.args.frame takes high))
    c.push.ensures.ok)
