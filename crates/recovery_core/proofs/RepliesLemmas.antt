-- What a single event comes to, and what several come to, is what any event comes to.
use Rattle.std.proofs.Common.{◌≡◌, List, [], refl, sym, subst, Some}
use Rattle.plain_text.specs.declared.limit.Limit.{Limit}
use Rattle.access_log.specs.declared.entry.Output.{Output}
use Rattle.plain_machine.specs.Program.{Meaning}
use Rattle.recovery_world.specs.declared.event.Event.{Event}
use Rattle.recovery_world.specs.declared.event.Outcome.{Outcome}
use Rattle.recovery_world.specs.World.{Setting, World}
use Rattle.recovery_world.specs.Many.{Single, Several, SingleStops, SeveralStops}
use Rattle.event_replies.specs.declared.reply.Reply.{Reply}
use Rattle.system_parts.specs.Parts.{Parts}
use Rattle.system_parts.specs.SystemStanding.{StandsFor, StandsForSome}
use Rattle.system_parts.specs.Performing.{MovesOn, StopsAt, Releasing, Replies, WouldPass, IsStopped}
use Rattle.recovery_core.specs.Systems.{RepliesAny}
use Rattle.several_events.specs.declared.progress.Progress.{Progress}
use Rattle.several_events.specs.Progressing.{IsBegun, Comes, SumsUp}
use Rattle.several_events.proofs.FromSingleEvents.{only}

pub replies_any : {P V : Type 0} (m : Meaning V) (ev : Event) (reply : Reply) (before out : List Output)
    (old new : Parts P V)
    → MovesOn m (Releasing before out (Replies ev reply)) old new
    → MovesOn m (Releasing before out (RepliesAny ev reply)) old new
replies_any {P} {V} m ev reply before out old new moves = (
  moves.0,
  λ s w st.
      let r = moves.1 s w st in
      let a = r.1.0 in
      (r.0, ((a.0, Single ev reply.outcome a.0 r.0 a.1, a.2), r.1.1), r.2),
)

-- what several events come to
pub several_any : {P V : Type 0} (m : Meaning V) (ev : Event) (at : Progress) (to : Outcome) (reply : Reply)
    (before out : List Output) (old new : Parts P V)
    → IsBegun m old ev at → reply ≡ only to → MovesOn m (Releasing before out (SumsUp at to)) old new
    → MovesOn m (Releasing before out (RepliesAny ev reply)) old new
several_any {P} {V} m ev at to reply before out old new begun is moves =
    subst (λ (r : Reply). MovesOn m (Releasing before out (RepliesAny ev r)) old new) (sym is) (
      moves.0,
      λ s w st.
          let r = moves.1 s w st in
          let b = begun s w st in
          (r.0, (([], Several ev b.0 to r.0 b.1 (r.1.0.0 b.0 b.2) r.1.0.1, refl), r.1.1), r.2),
    )

-- or where they stop
pub several_stop : {P V : Type 0} (m : Meaning V) (ev : Event) (at : Progress) (limit : Limit)
    (before out : List Output) (old new : Parts P V)
    → IsBegun m old ev at → StopsAt m (Releasing before out (Comes at (Some limit))) old new
    → StopsAt m (Releasing before out (IsStopped ev limit)) old new
several_stop {P} {V} m ev at limit before out old new begun stops = λ s w st.
    let r = stops s w st in
    let b = begun s w st in
    (r.0, (SeveralStops ev b.0 limit r.0 b.1 (r.1.0 b.0 b.2), r.1.1), r.2)

pub stops_any : {P V : Type 0} (m : Meaning V) (ev : Event) (limit : Limit) (before out : List Output)
    (old new : Parts P V)
    → StopsAt m (Releasing before out (WouldPass ev limit)) old new
    → StopsAt m (Releasing before out (IsStopped ev limit)) old new
stops_any {P} {V} m ev limit before out old new stops =
    λ s w st.
    let r = stops s w st in
    let there = subst (λ (x : World V). IsStopped ev limit s w x) (sym r.1.0.1) (SingleStops ev limit r.1.0.0) in
    (r.0, (there, r.1.1), r.2)

-- It stands for some world afterwards, with the meaning of its program.
pub moves_some : {P V : Type 0} (mean : P → Meaning V) (R : Setting V → World V → World V → Type 0)
    (old new : Parts P V)
    → MovesOn (mean old.program) R old new → StandsForSome (mean old.program) old → StandsForSome (mean new.program) new
moves_some {P} {V} mean R old new moves some =
    let r = moves.1 some.0 some.1 some.2 in
    (some.0, r.0, subst (λ (p : P). StandsFor (mean p) some.0 r.0 new) (sym moves.0) r.2)
