use Rattle.std.proofs.Common.{ℕ, sym, ◌∙◌}
use Rattle.job_top.proofs.Answered.{creates_nothing, honest_before, read_rose, stays_orderly, write_failed}
use Rattle.command_line.proofs.NoCommand.{asks_nothing, if_none, prints_nothing}
use Rattle.command_line.proofs.answering.perform.Goals as goal

-- the words ask for a text

pub returns-in-Some-clause-answers : goal.returns-in-Some-clause-answers
returns-in-Some-clause-answers g c =
    if_none c.args.words.now _ (asks_nothing c.args.words.now (λ none.
    let some = c.in-Some.is in
    let never = c.in-Ok.ensures.text ∙ none in
    cc))

-- or for a command

pub returns-in-None-clause-prints : goal.returns-in-None-clause-prints
returns-in-None-clause-prints g c p q =
    prints_nothing c.args.words.now c.serial.result (g.W.World.shows p c.args.world.now)
    (g.W.World.shows p c.serial.new.world) (sym c.in-Ok.ensures.text ∙ c.in-None.is)

pub returns-in-None-clause-creates_nothing : goal.returns-in-None-clause-creates_nothing
returns-in-None-clause-creates_nothing g c e =
    creates_nothing g.W.World.honest g.W.World.shows g.W.World.ledger g.W.World.healthy (λ (t : ℕ). ⊥)
    c.args.words.now c.serial.result c.args.world.now c.serial.new.world
    (record {
      bad_words = c.serial.ensures.bad_words;
      nothing_asked = c.serial.ensures.nothing_asked;
      answers = c.serial.ensures.answers;
      given = c.serial.ensures.given;
    }) e

pub returns-in-None-clause-orderly : goal.returns-in-None-clause-orderly
returns-in-None-clause-orderly g c =
    stays_orderly g.W.World.honest g.W.World.shows g.W.World.ledger g.W.World.healthy (λ (t : ℕ). ⊥)
    c.args.words.now c.serial.result c.args.world.now c.serial.new.world
    (record {
      bad_words = c.serial.ensures.bad_words;
      nothing_asked = c.serial.ensures.nothing_asked;
      answers = c.serial.ensures.answers;
      given = c.serial.ensures.given;
    })

pub returns-in-None-clause-read_fault : goal.returns-in-None-clause-read_fault
returns-in-None-clause-read_fault g c e =
    read_rose g.W.World.honest g.W.World.shows g.W.World.ledger g.W.World.healthy (λ (t : ℕ). ⊥)
    c.args.words.now c.serial.result c.args.world.now c.serial.new.world
    (record {
      bad_words = c.serial.ensures.bad_words;
      nothing_asked = c.serial.ensures.nothing_asked;
      answers = c.serial.ensures.answers;
      given = c.serial.ensures.given;
    }) e

pub returns-in-None-clause-write_fault : goal.returns-in-None-clause-write_fault
returns-in-None-clause-write_fault g c e =
    write_failed g.W.World.honest g.W.World.shows g.W.World.ledger g.W.World.healthy (λ (t : ℕ). ⊥)
    c.args.words.now c.serial.result c.args.world.now c.serial.new.world
    (record {
      bad_words = c.serial.ensures.bad_words;
      nothing_asked = c.serial.ensures.nothing_asked;
      answers = c.serial.ensures.answers;
      given = c.serial.ensures.given;
    }) e

pub returns-in-None-clause-before : goal.returns-in-None-clause-before
returns-in-None-clause-before g c p q =
    honest_before g.W.World.honest g.W.World.shows g.W.World.ledger g.W.World.healthy (λ (t : ℕ). ⊥)
    c.args.words.now c.serial.result c.args.world.now c.serial.new.world
    (record {
      bad_words = c.serial.ensures.bad_words;
      nothing_asked = c.serial.ensures.nothing_asked;
      answers = c.serial.ensures.answers;
      given = c.serial.ensures.given;
    }) p q
