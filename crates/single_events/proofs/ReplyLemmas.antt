-- What an event that releases nothing comes to, as the reply of a single event.
use Rattle.std.proofs.Common.{◌≡◌, List, [], refl, sym, ap, subst}
use Rattle.plain_text.specs.declared.limit.Limit.{Limit}
use Rattle.access_log.specs.declared.entry.Output.{Output}
use Rattle.plain_machine.specs.Program.{Meaning}
use Rattle.recovery_world.specs.declared.event.Event.{Event}
use Rattle.recovery_world.specs.declared.event.Outcome.{Outcome}
use Rattle.recovery_world.specs.World.{Setting, World}
use Rattle.event_replies.specs.declared.reply.Reply.{Reply}
use Rattle.system_parts.specs.Parts.{Parts}
use Rattle.system_parts.specs.SystemStanding.{StandsFor}
use Rattle.system_parts.specs.Performing.{MovesOn, StopsAt, Releasing, ComesTo, Replies, WouldPass}
use Rattle.snapshot_steps.proofs.FromOutputReleases.{IsQuiet, quiet_on}
use Rattle.snapshot_steps.proofs.FromOutputReleases.{releases_none}

-- a reply that releases nothing
abbrev pub only : Outcome → Reply
only to = record { outcome = to; released = [] }

-- what releases nothing, as the reply of a single event
pub comes_to : {P V : Type 0} (m : Meaning V) (ev : Event) (to : Outcome) (reply : Reply) (out : List Output)
    (old new : Parts P V)
    → IsQuiet ev → reply ≡ only to → MovesOn m (ComesTo ev to) old new
    → MovesOn m (Releasing out out (Replies ev reply)) old new
comes_to {P} {V} m ev to reply out old new quiet is moves =
    subst (λ (r : Reply). MovesOn m (Releasing out out (Replies ev r)) old new) (sym is) (
      moves.0,
      λ s w st.
          let r = moves.1 s w st in
          (r.0, (([], r.1, refl), releases_none out w r.0 (quiet_on s w ev to [] r.0 quiet r.1.0)), r.2),
    )

pub looks_to : {P V : Type 0} (m : Meaning V) (ev : Event) (to : Outcome) (reply : Reply) (out : List Output)
    (y : Parts P V)
    → IsQuiet ev → reply ≡ only to → ((s : Setting V) (w : World V) → StandsFor m s w y → ComesTo ev to s w w)
    → MovesOn m (Releasing out out (Replies ev reply)) y y
looks_to {P} {V} m ev to reply out y quiet is on =
    comes_to m ev to reply out y y quiet is (refl, λ s w st. (w, on s w st, st))

-- a limit would be passed
pub passes_none : {P V : Type 0} (m : Meaning V) (ev : Event) (limit : Limit) (out : List Output) (old new : Parts P V)
    → StopsAt m (WouldPass ev limit) old new → StopsAt m (Releasing out out (WouldPass ev limit)) old new
passes_none {P} {V} m ev limit out old new stops =
    λ s w st.
    let r = stops s w st in (r.0, (r.1, releases_none out w r.0 (ap (λ (x : World V). x.released) r.1.1)), r.2)
