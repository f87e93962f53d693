-- A script in two parts, and what it leaves.
use Rattle.std.proofs.Common.{ℕ, List, [], ◌∷◌, ◌++◌, append_assoc, append-nil, refl, sym, ◌∙◌, ap, subst}
use Rattle.plain_text.specs.declared.limit.Limit.{Limit}
use Rattle.plain_machine.specs.History.{Step}
use Rattle.recovery_world.specs.declared.event.Event.{Event}
use Rattle.recovery_world.specs.World.{Setting, Sent, World, opening}
use Rattle.recovery_world.specs.Finish.{IsFinish}
use Rattle.recovery_world.specs.Many.{Stops}
use Rattle.recovery_world.specs.Files.{Performs, Rests, Goes, reply_line, done_line, packets_of, moves_made, Leaves}
use Rattle.recovery_world.specs.Files.{LeavesAt}
use Rattle.recovery_world.specs.Limits.{IsWithin}
use Rattle.recovery_laws.proofs.ReleasedOutputs.{Grows, any_grows}
use Rattle.recovery_laws.proofs.Scripts.{any_within}

pub performs_both : {V : Type 0} (s : Setting V) (v w new : World V) (first second : List Event) (early late : List ℕ)
    → Performs s v first early w → Performs s w second late new
    → Performs s v (first ++ second) (early ++ late) new
performs_both s v w new first second early late (Rests same) then = then
performs_both s v w new first second early late (Goes {mid = next} {events = later} {lines = said} ev to freed on go)
    then =
    subst (λ (l : List ℕ). Performs s v (ev ∷ later ++ second) l new)
    (sym (append_assoc (reply_line ev to freed) said late))
    (Goes ev to freed on (performs_both s next w new later second said late go then))

-- what was released stays, in its order
pub performs_grow : {V : Type 0} (s : Setting V) (w new : World V) (events : List Event) (lines : List ℕ)
    → Performs s w events lines new → Grows w new
performs_grow s w new events lines (Rests same) = ([], sym (append-nil w.released))
performs_grow {V} s w new events lines (Goes {mid = mid} {events = later} {lines = said} ev to freed on go) =
    let a = any_grows s w ev to freed mid on in
    let b = performs_grow s mid new later said go in
    (a.0 ++ b.0, b.1 ∙ (ap (λ (l : List Sent). l ++ b.0) a.1 ∙ append_assoc w.released a.0 b.0))

-- what is performed stays within the limits
performs_within : {V : Type 0} (s : Setting V) (w new : World V) (events : List Event) (lines : List ℕ) → IsWithin w
    → Performs s w events lines new → IsWithin new
performs_within s w new events lines low (Rests same) = low
performs_within s w new events lines low (Goes {mid = mid} {events = later} {lines = said} ev to freed on go) =
    performs_within s mid new later said (any_within s w ev to freed mid low on) go

pub performed_within : {V : Type 0} (s : Setting V) (w : World V) (events : List Event) (lines : List ℕ)
    → Performs s (opening V) events lines w → IsWithin w
performed_within {V} s w events lines p = performs_within s (opening V) w events lines refl p

pub leaves_both : {V : Type 0} (s : Setting V) (w new : World V) (first second : List Event) (early late : List ℕ)
    (steps : List (Step V)) → Performs s (opening V) first early w → Performs s w second late new
    → IsFinish s new steps
    → Leaves s (first ++ second) ((early ++ late) ++ done_line new) (packets_of new.released) (moves_made steps)
leaves_both {V} s w new first second early late steps a b f = record {
  world = new;
  lines = early ++ late;
  performs = performs_both s (opening V) w new first second early late a b;
  report_is = refl;
  released_is = refl;
  steps = steps;
  finish = f;
  schedule_is = refl;
}

pub leaves_both_at : {V : Type 0} (s : Setting V) (w there world : World V) (first before after : List Event)
    (event : Event) (early late : List ℕ) (limit : Limit) → Performs s (opening V) first early w
    → Performs s w before late there → Stops s there event limit world
    → LeavesAt s (first ++ (before ++ event ∷ after)) limit (early ++ late) (packets_of world.released)
leaves_both_at {V} s w there world first before after event early late limit a b stops = record {
  before = first ++ before;
  event = event;
  after = after;
  events_are = sym (append_assoc first before (event ∷ after));
  there = there;
  performs = performs_both s (opening V) w there first before early late a b;
  world = world;
  stops = stops;
  released_is = refl;
}
