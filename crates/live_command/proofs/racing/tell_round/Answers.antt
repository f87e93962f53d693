use Rattle.std.proofs.Common.{Err, List, Ok, subst, sym}
use Rattle.std.specs.Prelude.{⊤}
use Rattle.live_workers.specs.FromRoundJoin.{PerformsNoted}
use Rattle.live_workers.specs.FromRoundJoin.{Noted}
use Rattle.live_command.proofs.RoundsTold.{race_same}
use Rattle.live_command.proofs.racing.tell_round.Goals as goal

pub returns-in-Ok-clause-told : goal.returns-in-Ok-clause-told
returns-in-Ok-clause-told g c p honest s names events w there before apart opened h performs at few =
    let same = c.as_slice-steps.ensures.value in
    race_same {A = ⊤} (Ok tt) _ s names there events _ c.as_slice-steps.result.now _ c.as_slice-arriving.result.now
    c.tell_race.new.system c.tell_race.new.lines c.tell_race.new.script before
    (g.W.World.shows p c.tell_race.new.world) same
    c.as_slice-arriving.ensures.value
    (c.in-Ok.ensures.told p honest s names events w there before apart opened h
    (subst (λ (l : List Noted). PerformsNoted s w l there) (sym same) performs) at few)

pub returns-clause-told : goal.returns-clause-told
returns-clause-told g c p honest s names events w there before apart opened h performs at few =
    let same = c.as_slice-steps.ensures.value in
    race_same {A = ⊤} (Err c.in-Err.error) (g.P.Program.meaning c.args.done.system.parts.program) s names there events _
    c.as_slice-steps.result.now _ c.as_slice-arriving.result.now c.tell_race.new.system c.tell_race.new.lines
    c.tell_race.new.script before (g.W.World.shows p c.tell_race.new.world) same c.as_slice-arriving.ensures.value
    (c.in-Err.ensures.told p honest s names events w there before apart opened h
    (subst (λ (l : List Noted). PerformsNoted s w l there) (sym same) performs) at few)
