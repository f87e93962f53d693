use Rattle.std.proofs.Common.{◌≡◌, ◌⊎◌, ℕ, inl, refl, subst}
use Rattle.release_taps.proofs.Counting.{one_count}
use Rattle.job_top.proofs.Answered.{read_rose, stays_orderly, write_failed}
use Rattle.command_line.specs.Running.{IsNotBegun, TapsMirror}
use Rattle.world_real.specs.Real.{real_ledger}
use Rattle.world_told.specs.Sent.{name_of, sent_to}
use Rattle.command_line.proofs.LiveWords.{never_watch, raced}
use Rattle.command_line.proofs.Runs.{plain_taps, rose_some, runs-bad, runs-plain}
use Rattle.command_line.proofs.Runs.{runs-tapped, tapped-read_fault, tapped-write_fault, tapped_watch}
use Rattle.command_line.proofs.racing.run_racing.Goals as goal

pub returns-in-Bad-clause-runs : goal.returns-in-Bad-clause-runs
returns-in-Bad-clause-runs g c =
    runs-bad _ _ _ _ _ _ _ _ _ c.args.world c.args.world _ refl c.in-Bad.ensures.0 c.in-Bad.ensures.1
    c.requires.no_text

pub returns-in-Taps-clause-runs : goal.returns-in-Taps-clause-runs
returns-in-Taps-clause-runs g c =
    runs-tapped _ _ _ _ _ _ _ _ c.race_with_taps.result.status c.args.world c.race_with_taps.result.world _
    c.in-Taps.pairs c.in-Taps.ensures.0 c.race_with_taps.ensures.answers

pub returns-in-Taps-clause-read_fault : goal.returns-in-Taps-clause-read_fault
returns-in-Taps-clause-read_fault g c =
    tapped-read_fault _ _ _ _ _ _ _ c.args.words.now c.race_with_taps.result.status c.args.world
    c.race_with_taps.result.world (g.V.World.ledger c.race_with_taps.result.out) c.in-Taps.pairs c.in-Taps.ensures.0
    c.race_with_taps.ensures.answers

pub returns-in-Taps-clause-write_fault : goal.returns-in-Taps-clause-write_fault
returns-in-Taps-clause-write_fault g c =
    tapped-write_fault _ _ _ _ _ _ _ c.args.words.now c.race_with_taps.result.status c.args.world
    c.race_with_taps.result.world (g.V.World.ledger c.race_with_taps.result.out) c.in-Taps.pairs c.in-Taps.ensures.0
    c.race_with_taps.ensures.answers

pub returns-in-Bad-clause-prints : goal.returns-in-Bad-clause-prints
returns-in-Bad-clause-prints g c asks = absurd (asks.no_tap c.in-Bad.ensures.0)

pub returns-in-Taps-clause-prints : goal.returns-in-Taps-clause-prints
returns-in-Taps-clause-prints g c asks =
    absurd (tapped_watch c.args.words.now c.in-Taps.pairs c.in-Taps.ensures.0 asks)

pub returns-in-Bad-clause-mirrors : goal.returns-in-Bad-clause-mirrors
returns-in-Bad-clause-mirrors g c pairs asks = absurd (c.in-Bad.ensures.1 pairs asks)

pub returns-in-Taps-clause-mirrors : goal.returns-in-Taps-clause-mirrors
returns-in-Taps-clause-mirrors g c pairs asks =
    subst (λ (n : ℕ). IsNotBegun (λ w. (real_ledger w).write_faults) c.race_with_taps.result.refused
    c.race_with_taps.result.status c.args.world c.race_with_taps.result.world
    ⊎ TapsMirror g.W.World.honest g.W.World.shows g.W.World.ledger
    (λ t. (t.faults ≡ 0) × (t.lacks ≡ 0)) (λ t. sent_to t.file t.world.calls) (λ t. t.faults) (λ t. t.lacks)
    (λ t. name_of t.file t.world.calls) c.args.words.now n c.race_with_taps.result.world
    c.race_with_taps.result.taps.items)
    (one_count c.args.words.now c.in-Taps.pairs pairs c.in-Taps.ensures.0 asks) c.race_with_taps.ensures.mirrors

pub returns-in-Taps-clause-bad_taps : goal.returns-in-Taps-clause-bad_taps
returns-in-Taps-clause-bad_taps g c begins none = absurd (none c.in-Taps.pairs c.in-Taps.ensures.0)

pub returns-in-Taps-clause-no_command : goal.returns-in-Taps-clause-no_command
returns-in-Taps-clause-no_command g c no_tap asked text watch =
    absurd (plain_taps c.args.words.now no_tap c.in-Taps.pairs c.in-Taps.ensures.0)

pub race_with_taps-requires-clause-asks : goal.race_with_taps-requires-clause-asks
race_with_taps-requires-clause-asks g c κs within = c.in-Taps.ensures.0

-- words of `live`

pub returns-in-Plain-clause-runs : goal.returns-in-Plain-clause-runs
returns-in-Plain-clause-runs g c =
    runs-plain _ _ _ _ _ _ _ _ c.ftmb-status.result c.args.world c.ftmb-status.new.world _
    (λ plain. raced _ _ _ _ _ c.args.words.now c.ftmb-status.result c.args.world c.ftmb-status.new.world
    c.requires.no_text (record {
      bad_words = c.ftmb-status.ensures.bad_words;
      nothing_asked = c.ftmb-status.ensures.nothing_asked;
      answers = c.ftmb-status.ensures.answers;
      given = c.ftmb-status.ensures.given;
    }))
    (λ watch. absurd (never_watch c.args.words.now (c.requires.rounds c.in-Plain.ensures) watch)) c.requires.no_text
    c.in-Plain.ensures

pub returns-in-Plain-clause-read_fault : goal.returns-in-Plain-clause-read_fault
returns-in-Plain-clause-read_fault g c fault =
    rose_some _ _ (read_rose g.W.World.honest g.W.World.shows g.W.World.ledger g.W.World.healthy (g.C.Clock.may c.args.clock.now)
    c.args.words.now c.ftmb-status.result c.args.world c.ftmb-status.new.world
    (record {
      bad_words = c.ftmb-status.ensures.bad_words;
      nothing_asked = c.ftmb-status.ensures.nothing_asked;
      answers = c.ftmb-status.ensures.answers;
      given = c.ftmb-status.ensures.given;
    }) fault)

pub returns-in-Plain-clause-write_fault : goal.returns-in-Plain-clause-write_fault
returns-in-Plain-clause-write_fault g c fault =
    inl (rose_some _ _
    (write_failed g.W.World.honest g.W.World.shows g.W.World.ledger g.W.World.healthy (g.C.Clock.may c.args.clock.now)
    c.args.words.now c.ftmb-status.result c.args.world c.ftmb-status.new.world
    (record {
      bad_words = c.ftmb-status.ensures.bad_words;
      nothing_asked = c.ftmb-status.ensures.nothing_asked;
      answers = c.ftmb-status.ensures.answers;
      given = c.ftmb-status.ensures.given;
    }) fault).rose)

pub returns-in-Plain-clause-prints : goal.returns-in-Plain-clause-prints
returns-in-Plain-clause-prints g c asks =
    absurd (never_watch c.args.words.now (c.requires.rounds c.in-Plain.ensures) asks.watch)

pub returns-in-Plain-clause-mirrors : goal.returns-in-Plain-clause-mirrors
returns-in-Plain-clause-mirrors g c pairs asks = absurd (plain_taps c.args.words.now c.in-Plain.ensures pairs asks)

pub returns-in-Plain-clause-bad_taps : goal.returns-in-Plain-clause-bad_taps
returns-in-Plain-clause-bad_taps g c begins none = absurd (c.in-Plain.ensures begins)

pub returns-in-Plain-clause-no_command : goal.returns-in-Plain-clause-no_command
returns-in-Plain-clause-no_command g c no_tap none text watch = c.ftmb-status.ensures.bad_words.1 none

pub returns-in-Plain-clause-orderly : goal.returns-in-Plain-clause-orderly
returns-in-Plain-clause-orderly g c =
    stays_orderly g.W.World.honest g.W.World.shows g.W.World.ledger g.W.World.healthy (g.C.Clock.may c.args.clock.now)
    c.args.words.now c.ftmb-status.result c.args.world c.ftmb-status.new.world
    (record {
      bad_words = c.ftmb-status.ensures.bad_words;
      nothing_asked = c.ftmb-status.ensures.nothing_asked;
      answers = c.ftmb-status.ensures.answers;
      given = c.ftmb-status.ensures.given;
    }) c.requires.new_world

pub returns-in-Taps-clause-orderly : goal.returns-in-Taps-clause-orderly
returns-in-Taps-clause-orderly g c = c.race_with_taps.ensures.orderly c.requires.new_world
