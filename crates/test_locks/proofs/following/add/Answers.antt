use Rattle.std.proofs.Common.{◌≡◌, ◌≢◌, Ok, Result, sym, subst}
use Rattle.plain_text.specs.declared.memory.NoMemory.{NoMemory}
use Rattle.access_log.specs.declared.entry.Added.{Added}
use Rattle.access_log.specs.declared.entry.Added.TheVariants as added
use Rattle.access_log.specs.Held.{lane}
use Rattle.access_log.specs.Lanes.{PutsEntry}
use Rattle.test_locks.proofs.Follow.{added_followed}
use Rattle.test_locks.proofs.following.add.Goals as goal

pub returns : goal.returns
returns c =
    let e = c.args.entry.now in
    added_followed c.args.held.now c.add.new.self c.args.last.now c.note.new.last e c.in_ok-add.field-0
    c.requires.followed c.requires.next c.requires.later c.note.ensures
    (λ x is. subst (λ (y : Result Added NoMemory).
    y ≡ Ok added.New → PutsEntry (lane c.args.held.now e.thread) (lane c.add.new.self e.thread) e.number e) (sym is)
    c.in_ok-add.ensures.new)
    (λ x is. subst (λ (y : Result Added NoMemory). y ≢ Ok added.New → c.add.new.self ≡ c.args.held.now) (sym is)
    c.in_ok-add.ensures.same) c.in_ok-add.ensures.others c.in_ok-add.ensures.threads
