use Rattle.std.proofs.Common.{[], inr, refl, subst, sym}
use Rattle.std.specs.Prelude.{IfSome}
use Rattle.packet_taps.specs.declared.printing.Printed.{Printed}
use Rattle.packet_taps.specs.Lines.{HasPrinted}
use Rattle.packet_taps.specs.Printing.{JudgesPrinted}
use Rattle.packet_taps.specs.Watching.{JudgesWatched}
use Rattle.packet_taps.specs.Words.{watch_names, watched_by}
use Rattle.packet_taps.proofs.Ended.{judged_names, nothing_judged_names}
use Rattle.packet_taps.proofs.PrintedWindow.{fault_counted, has_one_line, nothing_prints, prints_lines}
use Rattle.packet_taps.proofs.printing.print_watched.Goals as goal

pub returns-in-Err-clause-judged : goal.returns-in-Err-clause-judged
returns-in-Err-clause-judged g c = λ p h.
    nothing_judged_names (g.W.World.healthy c.args.world.now) (g.W.World.shows p c.args.world.now)
    (watch_names c.args.words.now)

pub returns-in-Err-clause-prints : goal.returns-in-Err-clause-prints
returns-in-Err-clause-prints g c =
    nothing_prints g.V.World.honest g.V.World.shows g.V.World.ledger (watch_names c.args.words.now)
    (λ it packets answered. (p : _) → g.W.World.honest p c.args.world.now
    → JudgesWatched (g.W.World.healthy c.args.world.now) it.capture packets answered
    (g.W.World.shows p c.args.world.now)) c.in-Err.out
    (subst (λ w. HasPrinted g.V.World.honest g.V.World.shows [] w) (sym c.in-Err.ensures.err) c.requires.fresh)
    (λ it p h. record { told = inr refl; missing = λ ok e. cc })

pub only_tap-only-requires : goal.only_tap-only-requires
only_tap-only-requires g c =
    has_one_line g.V.World.honest g.V.World.shows g.V.World.ledger (watch_names c.args.words.now)
    (watched_by c.in-Some.names) c.in-Some.ensures
    (λ it packets answered.
    (p : _) → g.W.World.honest p c.watch-watched.new.world
    → JudgesWatched (g.W.World.healthy c.args.world.now) it.capture packets answered
    (g.W.World.shows p c.args.world.now)) c.watch-watched.result c.args.out c.in-Ok.deck c.watch-watched.new.deck
    c.in-Ok.ensures.ok c.watch-watched.ensures.shown

pub returns-clause-judged : goal.returns-clause-judged
returns-clause-judged g c = λ p h.
    subst (λ (answer : Printed). IfSome (watch_names c.args.words.now)
    (λ names. JudgesPrinted (g.W.World.healthy c.args.world.now) names.capture answer
    (g.W.World.shows p c.args.world.now))) (sym c.ended.ensures.ended)
    (judged_names _ _ _ _ (g.W.World.healthy c.args.world.now) (λ q. g.W.World.honest q c.watch-watched.new.world)
    (λ q. g.W.World.shows q c.args.world.now) c.watch-watched.result c.only_tap-only.result.lost _ _
    (watch_names c.args.words.now) c.watch-watched.ensures.shown p h)

pub returns-clause-prints : goal.returns-clause-prints
returns-clause-prints g c =
    prints_lines g.V.World.honest g.V.World.shows g.V.World.ledger (watch_names c.args.words.now)
    (watched_by c.in-Some.names) c.in-Some.ensures
    (λ it packets answered.
    (p : _) → g.W.World.honest p c.watch-watched.new.world
    → JudgesWatched (g.W.World.healthy c.args.world.now) it.capture packets answered
    (g.W.World.shows p c.args.world.now)) c.watch-watched.result c.args.out c.in-Ok.deck c.watch-watched.new.deck
    c.in-Ok.ensures.ok c.watch-watched.ensures.shown c.ended.result c.only_tap-only.result c.into_world.result
    c.ended.ensures.ended c.into_world.ensures c.requires.fresh c.only_tap-only.ensures

pub returns-clause-write_fault : goal.returns-clause-write_fault
returns-clause-write_fault g c =
    fault_counted g.V.World.honest g.V.World.shows g.V.World.ledger (watch_names c.args.words.now)
    (watched_by c.in-Some.names) c.in-Some.ensures
    (λ it packets answered.
    (p : _) → g.W.World.honest p c.watch-watched.new.world
    → JudgesWatched (g.W.World.healthy c.args.world.now) it.capture packets answered
    (g.W.World.shows p c.args.world.now)) c.watch-watched.result c.args.out c.in-Ok.deck c.watch-watched.new.deck
    c.in-Ok.ensures.ok c.watch-watched.ensures.shown c.ended.result c.only_tap-only.result c.into_world.result
    c.ended.ensures.ended c.into_world.ensures c.requires.fresh c.only_tap-only.ensures
