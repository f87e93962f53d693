-- Two systems in a chain: what the first releases is the capture of the second, in order of release. Their worlds, and
-- what each event makes of them.
use Rattle.std.specs.Prelude.{◌≡◌, ℕ, ◌⊎◌, List, [], ◌∷◌, ◌++◌, cond, nat_eq, codes, decimal}
use Rattle.plain_text.specs.declared.limit.Limit.{Limit}
use Rattle.plain_text.specs.declared.packet.Packet.{Packet}
use Rattle.plain_machine.specs.declared.plain_move.PlainMove.{PlainMove}
use Rattle.plain_machine.specs.History.{Step}
use Rattle.recovery_world.specs.declared.event.Event.{Event}
use Rattle.recovery_world.specs.declared.event.Outcome.{Outcome}
use Rattle.recovery_world.specs.World.{Setting, Sent, World, opening}
use Rattle.recovery_world.specs.Many.{OnAny, Stops}
use Rattle.recovery_world.specs.Finish.{IsFinish}
use Rattle.recovery_world.specs.Files.{reply_line, done_line, packets_of, moves_made}
use Rattle.chain_world.specs.declared.chain_event.ChainEvent.{ChainEvent}

-- an event is one of the first system or of the second
abbrev pub NamesSystem : ChainEvent → Type 0
NamesSystem ev = (ev.which ≡ 1) ⊎ (ev.which ≡ 2)

-- the worlds of both systems
pub record Chained (V U : Type 0) : Type 0 where
  pub first : World V
  pub second : World U

-- the worlds before the first event
abbrev pub chain_opening : (V U : Type 0) → Chained V U
chain_opening V U = record { first = opening V; second = opening U }

-- the setting of the second system: its capture is what the first has released, in order of release, and nothing else
abbrev pub behind : {V U : Type 0} → Setting U → World V → Setting U
behind r w = record r { packets = packets_of w.released }

-- The event is one of the first system, or of the second, and leaves the other as it is.
abbrev pub OnChain : {V U : Type 0} → Setting V → Setting U → Chained V U → ChainEvent → Outcome → List Sent
    → Chained V U → Type 0
OnChain s r c ev to freed new =
    ((ev.which ≡ 1) × OnAny s c.first ev.event to freed new.first × (new.second ≡ c.second))
    ⊎ ((ev.which ≡ 2) × OnAny (behind r c.first) c.second ev.event to freed new.second × (new.first ≡ c.first))

-- It stops before a move that would pass a limit of its system.
abbrev pub StopsChain : {V U : Type 0} → Setting V → Setting U → Chained V U → ChainEvent → Limit → Chained V U
    → Type 0
StopsChain s r c ev limit new =
    ((ev.which ≡ 1) × Stops s c.first ev.event limit new.first × (new.second ≡ c.second))
    ⊎ ((ev.which ≡ 2) × Stops (behind r c.first) c.second ev.event limit new.second × (new.first ≡ c.first))

-- the number of the system, and its reply
abbrev pub chain_line : ChainEvent → Outcome → List Sent → List ℕ
chain_line ev to freed = decimal ev.which ++ codes " " ++ reply_line ev.event to freed

-- The events, in order, write these lines and lead to these worlds.
pub data PerformsChain {V U : Type 0} (s : Setting V) (r : Setting U) : Chained V U → List ChainEvent → List ℕ
    → Chained V U → Type 0 where
  ChainRests : (c : Chained V U) → PerformsChain s r c [] [] c
  ChainGoes : {c mid new : Chained V U} {events : List ChainEvent} {lines : List ℕ} (ev : ChainEvent) (to : Outcome)
      (freed : List Sent) → OnChain s r c ev to freed mid → PerformsChain s r mid events lines new
      → PerformsChain s r c (ev ∷ events) (chain_line ev to freed ++ lines) new

-- the last two lines of a report
abbrev pub chain_done : {V U : Type 0} → Chained V U → List ℕ
chain_done c = codes "1 " ++ done_line c.first ++ codes "2 " ++ done_line c.second

-- the events of the system of this number
abbrev pub events_of : ℕ → List ChainEvent → List Event
events_of n [] = []
events_of n (ev ∷ events) = cond (nat_eq ev.which n) (ev.event ∷ events_of n events) (events_of n events)

-- What the events of a chain leave: the report, what the first system released, what the second did, and the schedule
-- of each.
pub record LeavesChain {V U : Type 0} (s : Setting V) (r : Setting U) (events : List ChainEvent) (report : List ℕ)
    (middle released : List Packet) (first_moves second_moves : List PlainMove) : Type 0 where
  pub worlds : Chained V U
  pub lines : List ℕ
  pub performs : PerformsChain s r (chain_opening V U) events lines worlds
  pub report_is : report ≡ lines ++ chain_done worlds
  pub middle_is : middle ≡ packets_of worlds.first.released
  pub released_is : released ≡ packets_of worlds.second.released
  pub first_steps : List (Step V)
  pub first_finish : IsFinish s worlds.first first_steps
  pub first_moves_are : first_moves ≡ moves_made first_steps
  pub second_steps : List (Step U)
  pub second_finish : IsFinish (behind r worlds.first) worlds.second second_steps
  pub second_moves_are : second_moves ≡ moves_made second_steps

-- What they leave where one of them stops before a move that would pass a limit: the lines of the events before it, and
-- what both systems released until then. There are no schedules.
pub record LeavesChainAt {V U : Type 0} (s : Setting V) (r : Setting U) (events : List ChainEvent) (limit : Limit)
    (report : List ℕ) (middle released : List Packet) : Type 0 where
  pub before : List ChainEvent
  pub event : ChainEvent
  pub after : List ChainEvent
  pub events_are : events ≡ before ++ event ∷ after
  pub there : Chained V U
  pub performs : PerformsChain s r (chain_opening V U) before report there
  pub worlds : Chained V U
  pub stops : StopsChain s r there event limit worlds
  pub middle_is : middle ≡ packets_of worlds.first.released
  pub released_is : released ≡ packets_of worlds.second.released
