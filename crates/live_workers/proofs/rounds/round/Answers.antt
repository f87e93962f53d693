use Rattle.std.proofs.Common.{◌≡◌, ◌≤◌, ℕ, List, length, drop, sym, ap, ◌∙◌, subst}
use Rattle.access_log.specs.declared.entry.Output.{Output}
use Rattle.access_log.specs.Held.{Lane}
use Rattle.master_core.specs.MasterStanding.{Stands}
use Rattle.recovery_world.specs.World.{Sent, World}
use Rattle.recovery_world.specs.Files.{packets_of}
use Rattle.system_parts.specs.Parts.{Parts}
use Rattle.system_parts.specs.Performing.{packets_in}
use Rattle.system_parts.specs.Resting.{RestsFor}
use Rattle.system_parts.specs.SystemStanding.{StandsFor}
use Rattle.recovery_core.specs.Partings.{PartsStandForSome}
use Rattle.frame_intake.specs.Orders.{orders_of}
use Rattle.live_workers.specs.Rounds.{IsRoundTo, StopsRound}
use Rattle.live_workers.proofs.rounds.round.Goals as goal

pub go_round-requires-clause-some : goal.go_round-requires-clause-some
go_round-requires-clause-some g c κs within =
    subst (λ q. PartsStandForSome (g.P.Program.meaning q) c.in_ok-master.field-0.rest c.in_ok-master.field-0.master)
    (sym c.in_ok-master.ensures.program) c.in_ok-master.ensures.some

pub rejoin-requires-clause-some : goal.rejoin-requires-clause-some
rejoin-requires-clause-some g c κs within =
    let k =
    subst (λ q. PartsStandForSome (g.P.Program.meaning q) c.in_ok-master.field-0.rest c.in_ok-master.field-0.master)
    (sym c.in_ok-master.ensures.program) c.in_ok-master.ensures.some in
    let r = c.in-Ok.ensures.on k.0 k.1 k.2 k.3 in
    subst (λ q. PartsStandForSome (g.P.Program.meaning q) c.go_round.new.rest c.in-Ok.over.master)
    (sym c.in-Ok.ensures.program) (k.0, r.0, r.2, r.3)

pub returns-in-Ok-clause-on : goal.returns-in-Ok-clause-on
returns-in-Ok-clause-on g c = λ s w st.
    let both = c.in_ok-master.ensures.rest s w st.parts in
    let rests = subst (λ q. RestsFor (g.P.Program.meaning q) s w c.in_ok-master.field-0.rest)
    (sym c.in_ok-master.ensures.program) both.0 in
    let r = c.in-Ok.ensures.on s w rests both.1 in
    let stands = c.rejoin.ensures.stands s r.0
    (subst (λ q. RestsFor (g.P.Program.meaning q) s r.0 c.go_round.new.rest) (sym c.in-Ok.ensures.program) r.2) r.3 in
    let released : r.0.released ≡ w.released =
    ap (λ (z : World g.row.P-Value.Denot). z.released) r.1.world.world in (
      r.0,
      subst (λ (l : List Lane). IsRoundTo s w (orders_of c.args.orders.now) (g.C.Clock.may c.args.clock.now) l
          c.args.draws c.in-Ok.over.steps.items c.in-Ok.over.arriving.items c.in-Ok.over.draws r.0)
          (ap (λ (y : Parts g.row.P.Denot g.row.P-Value.Denot). y.guide) c.in_ok-master.ensures.same) r.1,
      record {
        parts = subst (λ q. StandsFor (g.P.Program.meaning q) s r.0 c.rejoin.result.parts)
            (c.in-Ok.ensures.program ∙ c.in_ok-master.ensures.program) stands;
        released = c.rejoin.ensures.released r.0
            (subst (λ (n : ℕ). n ≤ length r.0.released) (sym c.in_ok-master.ensures.handed)
            (subst (λ (l : List Sent). c.args.system.handed ≤ length l) (sym released) st.released.handed))
            (ap (λ (l : List Output). packets_in l) c.in_ok-master.ensures.fresh ∙ st.released.fresh
            ∙ ap (λ (n : ℕ). packets_of (drop n w.released)) (sym c.in_ok-master.ensures.handed)
            ∙ ap (λ (l : List Sent). packets_of (drop c.in_ok-master.field-0.kept.handed l)) (sym released))
            stands.released;
      },
    )

pub returns-in-Err-clause-stops : goal.returns-in-Err-clause-stops
returns-in-Err-clause-stops g c = λ s w st.
    let both = c.in_ok-master.ensures.rest s w st.parts in
    c.in-Err.ensures.stops s w
    (subst (λ q. RestsFor (g.P.Program.meaning q) s w c.in_ok-master.field-0.rest)
    (sym c.in_ok-master.ensures.program) both.0) both.1
