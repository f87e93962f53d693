use Rattle.std.proofs.Common.{inl}
use Rattle.command_line.proofs.LiveWords.{runs-any, text_no_live, text_no_rounds}
use Rattle.command_line.proofs.Runs.{is_asked, rose_some, runs-text, text_no_taps}
use Rattle.command_line.proofs.choosing.run_words.Goals as goal

pub returns-clause-runs : goal.returns-clause-runs
returns-clause-runs g c =
    runs-any _ _ _ _ (g.C.Clock.may c.args.clock.now) _ c.run_serial.result.refused c.args.words.now
    c.run_serial.result.status c.args.world c.run_serial.result.world (g.V.World.ledger c.run_serial.result.out)
    (c.asks_for_rounds.ensures.no_rounds c.if-asks_for_rounds.false) c.run_serial.ensures.runs

-- words that ask for a text

pub returns-then-asks_text-clause-runs : goal.returns-then-asks_text-clause-runs
returns-then-asks_text-clause-runs g c =
    let text = is_asked c.asks_text.result _ c.if-asks_text.true c.asks_text.ensures.1 in
    runs-any _ _ _ _ (g.C.Clock.may c.args.clock.now) _ c.run_alone.result.refused c.args.words.now
    c.run_alone.result.status c.args.world c.run_alone.result.world (g.V.World.ledger c.run_alone.result.out)
    (text_no_rounds c.args.words.now text)
    (runs-text _ _ _ _ _ _ _ _ c.run_alone.result.status c.args.world c.run_alone.result.world _ text
    c.run_alone.ensures.performs)

pub returns-then-asks_text-clause-prints : goal.returns-then-asks_text-clause-prints
returns-then-asks_text-clause-prints g c asks =
    absurd (is_asked c.asks_text.result _ c.if-asks_text.true c.asks_text.ensures.1 asks.no_text)

pub returns-then-asks_text-clause-mirrors : goal.returns-then-asks_text-clause-mirrors
returns-then-asks_text-clause-mirrors g c pairs asks =
    let text = is_asked c.asks_text.result _ c.if-asks_text.true c.asks_text.ensures.1 in
    absurd (text_no_taps c.args.words.now text pairs asks)

pub returns-then-asks_text-clause-bad_taps : goal.returns-then-asks_text-clause-bad_taps
returns-then-asks_text-clause-bad_taps g c tap none no_text =
    absurd (is_asked c.asks_text.result _ c.if-asks_text.true c.asks_text.ensures.1 no_text)

pub returns-then-asks_text-clause-orderly : goal.returns-then-asks_text-clause-orderly
returns-then-asks_text-clause-orderly g c = c.run_alone.ensures.orderly c.requires.new_world

pub returns-then-asks_text-clause-read_fault : goal.returns-then-asks_text-clause-read_fault
returns-then-asks_text-clause-read_fault g c fault =
    rose_some _ _ (c.run_alone.ensures.performs.read_fault fault)

pub returns-then-asks_text-clause-write_fault : goal.returns-then-asks_text-clause-write_fault
returns-then-asks_text-clause-write_fault g c fault =
    inl (rose_some _ _ (c.run_alone.ensures.performs.write_fault fault))

pub run_alone-requires-clause-no_rounds : goal.run_alone-requires-clause-no_rounds
run_alone-requires-clause-no_rounds g c =
    text_no_live c.args.words.now (is_asked c.asks_text.result _ c.if-asks_text.true c.asks_text.ensures.1)
