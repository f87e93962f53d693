use Rattle.std.proofs.Common.{◌≡◌, ◌⊎◌, ℕ, refl, subst}
use Rattle.release_taps.proofs.Counting.{one_count}
use Rattle.command_line.specs.Running.{IsNotBegun, TapsMirror}
use Rattle.world_real.specs.Real.{real_ledger}
use Rattle.world_told.specs.Sent.{name_of, sent_to}
use Rattle.command_line.proofs.Runs.{plain-read_fault, plain-write_fault, plain_taps, plain_watch, runs-bad, runs-plain}
use Rattle.command_line.proofs.Runs.{runs-tapped, tapped-read_fault, tapped-write_fault, tapped_watch}
use Rattle.command_line.proofs.running.run_serial.Goals as goal

pub returns-in-Bad-clause-runs : goal.returns-in-Bad-clause-runs
returns-in-Bad-clause-runs g c =
    runs-bad _ _ _ _ _ _ _ _ _ c.args.world c.args.world _ refl c.in-Bad.ensures.0 c.in-Bad.ensures.1
    c.requires.no_text

pub returns-in-Plain-clause-runs : goal.returns-in-Plain-clause-runs
returns-in-Plain-clause-runs g c =
    let ran = c.run_plain.ensures in
    runs-plain _ _ _ _ _ _ _ _ c.run_plain.result.status c.args.world c.run_plain.result.world _ ran.performs
    ran.watches c.requires.no_text c.in-Plain.ensures

pub returns-in-Taps-clause-runs : goal.returns-in-Taps-clause-runs
returns-in-Taps-clause-runs g c =
    runs-tapped _ _ _ _ _ _ _ _ c.run_tapped.result.status c.args.world c.run_tapped.result.world _
    c.in-Taps.pairs c.in-Taps.ensures.0 c.run_tapped.ensures.answers

pub returns-in-Plain-clause-read_fault : goal.returns-in-Plain-clause-read_fault
returns-in-Plain-clause-read_fault g c =
    let ran = c.run_plain.ensures in
    plain-read_fault _ _ _ _ _ (λ w. (real_ledger w).write_faults) c.run_plain.result.refused c.args.words.now
    c.run_plain.result.status c.args.world c.run_plain.result.world (g.V.World.ledger c.run_plain.result.out)
    ran.performs ran.watches

pub returns-in-Taps-clause-read_fault : goal.returns-in-Taps-clause-read_fault
returns-in-Taps-clause-read_fault g c =
    tapped-read_fault _ _ _ _ _ _ _ c.args.words.now c.run_tapped.result.status c.args.world c.run_tapped.result.world
    (g.V.World.ledger c.run_tapped.result.out) c.in-Taps.pairs c.in-Taps.ensures.0 c.run_tapped.ensures.answers

pub returns-in-Plain-clause-write_fault : goal.returns-in-Plain-clause-write_fault
returns-in-Plain-clause-write_fault g c =
    let ran = c.run_plain.ensures in
    plain-write_fault _ _ _ _ _ _ c.run_plain.result.refused c.args.words.now c.run_plain.result.status c.args.world
    c.run_plain.result.world (g.V.World.ledger c.run_plain.result.out) ran.performs ran.watches

pub returns-in-Taps-clause-write_fault : goal.returns-in-Taps-clause-write_fault
returns-in-Taps-clause-write_fault g c =
    tapped-write_fault _ _ _ _ _ _ _ c.args.words.now c.run_tapped.result.status c.args.world c.run_tapped.result.world
    (g.V.World.ledger c.run_tapped.result.out) c.in-Taps.pairs c.in-Taps.ensures.0 c.run_tapped.ensures.answers

pub returns-in-Plain-clause-orderly : goal.returns-in-Plain-clause-orderly
returns-in-Plain-clause-orderly g c = c.run_plain.ensures.orderly c.requires.new_world

pub returns-in-Taps-clause-orderly : goal.returns-in-Taps-clause-orderly
returns-in-Taps-clause-orderly g c = c.run_tapped.ensures.orderly c.requires.new_world

pub returns-in-Bad-clause-prints : goal.returns-in-Bad-clause-prints
returns-in-Bad-clause-prints g c asks = absurd (asks.no_tap c.in-Bad.ensures.0)

pub returns-in-Plain-clause-prints : goal.returns-in-Plain-clause-prints
returns-in-Plain-clause-prints g c asks = c.run_plain.ensures.prints asks.watch

pub returns-in-Plain-clause-prints_nothing : goal.returns-in-Plain-clause-prints_nothing
returns-in-Plain-clause-prints_nothing g c asks =
    c.run_plain.ensures.prints_nothing (plain_watch c.args.words.now c.requires.no_text c.in-Plain.ensures asks)

pub returns-in-Taps-clause-prints : goal.returns-in-Taps-clause-prints
returns-in-Taps-clause-prints g c asks =
    absurd (tapped_watch c.args.words.now c.in-Taps.pairs c.in-Taps.ensures.0 asks)

pub returns-in-Bad-clause-mirrors : goal.returns-in-Bad-clause-mirrors
returns-in-Bad-clause-mirrors g c pairs asks = absurd (c.in-Bad.ensures.1 pairs asks)

pub returns-in-Plain-clause-mirrors : goal.returns-in-Plain-clause-mirrors
returns-in-Plain-clause-mirrors g c pairs asks = absurd (plain_taps c.args.words.now c.in-Plain.ensures pairs asks)

pub returns-in-Taps-clause-mirrors : goal.returns-in-Taps-clause-mirrors
returns-in-Taps-clause-mirrors g c pairs asks =
    subst (λ (n : ℕ). IsNotBegun (λ w. (real_ledger w).write_faults) c.run_tapped.result.refused
    c.run_tapped.result.status c.args.world c.run_tapped.result.world
    ⊎ TapsMirror g.W.World.honest g.W.World.shows g.W.World.ledger
    (λ t. (t.faults ≡ 0) × (t.lacks ≡ 0)) (λ t. sent_to t.file t.world.calls) (λ t. t.faults) (λ t. t.lacks)
    (λ t. name_of t.file t.world.calls) c.args.words.now n c.run_tapped.result.world
    c.run_tapped.result.taps.items)
    (one_count c.args.words.now c.in-Taps.pairs pairs c.in-Taps.ensures.0 asks) c.run_tapped.ensures.mirrors

pub returns-in-Plain-clause-bad_taps : goal.returns-in-Plain-clause-bad_taps
returns-in-Plain-clause-bad_taps g c begins none = absurd (c.in-Plain.ensures begins)

pub returns-in-Taps-clause-bad_taps : goal.returns-in-Taps-clause-bad_taps
returns-in-Taps-clause-bad_taps g c begins none = absurd (none c.in-Taps.pairs c.in-Taps.ensures.0)

pub returns-in-Taps-clause-no_command : goal.returns-in-Taps-clause-no_command
returns-in-Taps-clause-no_command g c no_tap asked text watch =
    absurd (plain_taps c.args.words.now no_tap c.in-Taps.pairs c.in-Taps.ensures.0)

pub run_tapped-requires-clause-asks : goal.run_tapped-requires-clause-asks
run_tapped-requires-clause-asks g c = c.in-Taps.ensures.0

pub run_plain-requires-clause-no_rounds : goal.run_plain-requires-clause-no_rounds
run_plain-requires-clause-no_rounds g c = c.requires.no_rounds.plain c.in-Plain.ensures

pub run_tapped-requires-clause-no_rounds : goal.run_tapped-requires-clause-no_rounds
run_tapped-requires-clause-no_rounds g c =
    c.requires.no_rounds.tapped c.in-Taps.pairs c.in-Taps.ensures.0
