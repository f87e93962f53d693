-- Events are performed one by one.
use Rattle.std.proofs.Common.{◌≡◌, ℕ, ◌+◌, ◌<◌, ◌≤◌, List, [], ◌∷◌, ◌++◌, length, take, refl, sym, ap, ◌∙◌}
use Rattle.std.proofs.Common.{append_assoc, subst, Result, Ok, Err, add-one, get_or}
use Rattle.std.specs.Prelude.{IfOk}
use Rattle.plain_text.specs.declared.limit.Limit.{Limit}
use Rattle.plain_machine.specs.Program.{Meaning}
use Rattle.recovery_world.specs.declared.event.Event.{Event}
use Rattle.recovery_world.specs.World.{Setting, opening}
use Rattle.recovery_world.specs.Files.{reply_line}
use Rattle.event_replies.specs.declared.reply.Reply.{Reply as SystemReply}
use Rattle.event_replies.specs.declared.reply.Stop.{Stop}
use Rattle.recovery_core.specs.Systems.{RepliesAny, SystemMoves, SystemStops, Systemed}
use Rattle.system_parts.specs.Performing.{IsStopped}
use Rattle.run_writes.specs.Replies.{Opens, Goes, newly_released}
use Rattle.drill_report.specs.Report.{Replays, given_to_follow, Opens as NoneYet, Goes as Then}
use Rattle.noted_runs.specs.Drilling.{HasPerformed, IsHalted, IsNew}
use Rattle.noted_runs.proofs.DrillPlaces.{take_all, take_here}

pub performed_next : {P V : Type 0} (m : Meaning V) (s : Setting V) (events : List Event) (ev : Event)
    (reply : SystemReply) (n total : ℕ) (old new : Systemed P V) → HasPerformed m s events n old
    → SystemMoves m (RepliesAny ev reply) old new → total ≡ n + given_to_follow reply.outcome
    → HasPerformed m s (events ++ ev ∷ []) total new
performed_next m s events ev reply n total old new h moves sum =
    let went = moves.2 s h.world h.stands in
    record {
      replies = h.replies
          ++ (record { released = newly_released h.world went.0; line = reply_line ev reply.outcome went.1.0 }) ∷ [];
      world = went.0;
      answers = Goes ev reply.outcome went.1.0 h.answers went.1.1;
      replays = subst (λ (k : ℕ). Replays s (events ++ ev ∷ []) k went.0) (sym sum)
          (Then ev reply.outcome went.1.0 h.replays went.1.1);
      stands = went.2;
      handed = moves.1 ∙ h.handed;
    }

pub halted_next : {P V : Type 0} (m : Meaning V) (s : Setting V) (events : List Event) (ev : Event) (limit : Limit)
    (n : ℕ) (old new : Systemed P V) → HasPerformed m s events n old
    → SystemStops m (IsStopped ev limit) old new → IsHalted s (events ++ ev ∷ []) limit new
halted_next m s events ev limit n old new h stops =
    let there = stops.1 s h.world h.stands in
    record {
      before = events;
      event = ev;
      after = [];
      events_are = refl;
      replies = h.replies;
      there = h.world;
      answers = h.answers;
      world = there.0;
      stops = there.1;
      released = there.2;
      handed = stops.0 ∙ h.handed;
    }

pub halted_longer : {P V : Type 0} (s : Setting V) (events rest all : List Event) (limit : Limit) (y : Systemed P V)
    → all ≡ events ++ rest → IsHalted s events limit y → IsHalted s all limit y
halted_longer s events rest all limit y same h = record {
  before = h.before;
  event = h.event;
  after = h.after ++ rest;
  events_are = same ∙ (ap (λ l. l ++ rest) h.events_are ∙ append_assoc h.before (h.event ∷ h.after) rest);
  replies = h.replies;
  there = h.there;
  answers = h.answers;
  world = h.world;
  stops = h.stops;
  released = h.released;
  handed = h.handed;
}

-- before the first event
pub none_performed : {P V : Type 0} (m : Meaning V) (s : Setting V) (y : Systemed P V) → IsNew m s y
    → HasPerformed m s [] 0 y
none_performed {P} {V} m s y new = record {
  replies = [];
  world = opening V;
  answers = Opens;
  replays = NoneYet;
  stands = new.stands;
  handed = new.handed;
}

-- the meaning of the same program, and the same events
pub performed_same : {P V : Type 0} (m k : Meaning V) (s : Setting V) (events other : List Event) (n : ℕ)
    (y : Systemed P V) → m ≡ k → events ≡ other → HasPerformed m s events n y → HasPerformed k s other n y
performed_same {P} {V} m k s events other n y same all h =
    subst (λ (l : List Event). HasPerformed k s l n y) all
    (subst (λ (x : Meaning V). HasPerformed x s events n y) same h)

abbrev failed : {A : Type 0} → Stop → Result A Stop
failed e = Err e

-- an event was performed, and what it kept was added
pub next_performed : {P V : Type 0} (m : Meaning V) (s : Setting V) (events : List Event) (ev : Event)
    (reply : SystemReply) (n kept : ℕ) (r : Result ℕ Stop) (old new : Systemed P V)
    → SystemMoves m (RepliesAny ev reply) old new → kept ≡ given_to_follow reply.outcome
    → IfOk r (λ sum. sum ≡ n + kept) → HasPerformed m s events n old
    → IfOk r (λ k. HasPerformed m s (events ++ ev ∷ []) k new)
next_performed m s events ev reply n kept (Ok total) old new moves is sum h =
    performed_next m s events ev reply n total old new h moves (sum ∙ ap (λ k. n + k) is)
next_performed m s events ev reply n kept (Err e) old new moves is sum h = tt

-- it has come one event further
pub performed_on : {P V : Type 0} (m k : Meaning V) (s : Setting V) (events : List Event) (i : ℕ) (x : Event) (n : ℕ)
    (y : Systemed P V) → m ≡ k → i < length events → x ≡ get_or events i x
    → HasPerformed m s (take i events ++ x ∷ []) n y → HasPerformed k s (take (i + 1) events) n y
performed_on {P} {V} m k s events i x n y same low is h =
    rw add-one (performed_same m k s (take i events ++ x ∷ []) _ n y same (sym (take_here events i x low is)) h)

pub performed_all : {P V : Type 0} (m : Meaning V) (s : Setting V) (events : List Event) (i n : ℕ)
    (y : Systemed P V) → length events ≤ i → HasPerformed m s (take i events) n y → HasPerformed m s events n y
performed_all {P} {V} m s events i n y low h =
    subst (λ (l : List Event). HasPerformed m s l n y) (take_all events i low) h

-- a stop is the same whatever would have been answered
pub same_stop : {A B : Type 0} (r : Result A Stop) (x y : Stop) → r ≡ Err x → r ≡ Err y → failed {A = B} x ≡ failed y
same_stop r x y one two = let same : x ≡ y = cc in ap failed same
