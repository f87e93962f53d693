use Rattle.std.proofs.Common.{◌≡◌, ℕ, ◌+◌, ◌-◌, ap, ◌∙◌, arith}
use Rattle.entry_order.specs.declared.what.What.TheVariants.{Access}
use Rattle.replay_guide.proofs.IndexLemmas.{adds_touch, adds_read, lasts_more, lasts_touch, lasts_read}
use Rattle.replay_guide.proofs.index.Index.add.Goals as goal

pub returns-in_ok-insert-in-Access : goal.returns-in_ok-insert-in-Access
returns-in_ok-insert-in-Access c =
    let above = c.if-place-gt0.true in
    let place : c.in-Access.place ≡ c.in-Access.place - 1 + 1 = omega arith in
    adds_touch _ _ _ c.in-Access.var (c.in-Access.place - 1) c.args.entry.now
    (c.in-Access.is ∙ ap (λ (s : ℕ). Access c.in-Access.var s) place) c.in_ok-insert-in-Access.ensures.updates.0

pub returns-in_ok-insert-in-Read : goal.returns-in_ok-insert-in-Read
returns-in_ok-insert-in-Read c =
    adds_read _ _ _ c.in-Read.var c.in-Read.after c.args.entry.now c.in-Read.is c.in_ok-insert-in-Read.ensures.updates.0

pub invariant_of-self : goal.invariant_of-self
invariant_of-self c =
    let s = c.args.self.now in
    record { lasts_are = lasts_more s.lasts.entries _ _ _ s.lasts_are c.note_place.ensures.more }

pub invariant_of-self-then-place-gt0 : goal.invariant_of-self-then-place-gt0
invariant_of-self-then-place-gt0 c =
    let s = c.args.self.now in
    record {
      lasts_are = lasts_touch c.insert.result s.lasts.entries _ s.touches.entries c.insert.new.self.entries _
          c.in-Access.var (c.in-Access.place - 1) _ s.lasts_are c.in_ok-note_place-in-Access.ensures.noted
          c.note_place.ensures.more c.insert.ensures.updates (λ u. u.0) c.insert.ensures.err;
    }

pub invariant_of-self-in-Break-branch-3 : goal.invariant_of-self-in-Break-branch-3
invariant_of-self-in-Break-branch-3 c =
    let s = c.args.self.now in
    record { lasts_are = lasts_more s.lasts.entries _ _ _ s.lasts_are c.note_place-in-Read.ensures.more }

pub invariant_of-self-in-Read : goal.invariant_of-self-in-Read
invariant_of-self-in-Read c =
    let s = c.args.self.now in
    record {
      lasts_are = lasts_read c.insert-in-Read.result s.lasts.entries _ _ s.reads.keys c.insert-in-Read.new.self.keys
          c.in-Read.var c.in-Read.after _ _ s.lasts_are c.in_ok-note_place-in-Read.ensures.noted
          c.note_place-in-Read.ensures.more c.insert-in-Read.ensures.updates (λ u. u.0) c.insert-in-Read.ensures.err;
    }
