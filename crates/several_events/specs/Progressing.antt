-- How far an event of several is, in memory, and which phase of the definitions that is.
use Rattle.std.specs.Prelude.{◌≡◌, ℕ, zero, suc, ◌+◌, ◌-◌, ◌*◌, ◌<◌, ◌||◌, nat_lt, not, if◌then◌else◌, Bool, true}
use Rattle.std.specs.Prelude.{false, List, [], ◌∷◌, ◌++◌, length, Option, Some, None}
use Rattle.plain_text.specs.declared.kind.Kind.{Kind}
use Rattle.plain_text.specs.declared.kind.Kind.TheVariants as kind
use Rattle.plain_text.specs.declared.limit.Limit.{Limit}
use Rattle.plain_text.specs.declared.limit.TheConstants.{MOST_MOVES}
use Rattle.entry_order.specs.Log.{entries}
use Rattle.plain_machine.specs.Program.{Meaning}
use Rattle.plain_machine.specs.History.{Step, log_of, sent_of, outputs}
use Rattle.random_words.specs.Words.{generator_after}
use Rattle.recovery_world.specs.declared.event.Event.{Event}
use Rattle.recovery_world.specs.declared.event.Event.TheVariants as event
use Rattle.recovery_world.specs.declared.event.Outcome.{Outcome}
use Rattle.recovery_world.specs.World.{Setting, Sent, World}
use Rattle.recovery_world.specs.Limits.{OnWithin}
use Rattle.recovery_world.specs.Strategies.{Choice, Follows}
use Rattle.recovery_world.specs.Many.{Message, numbered, of_threads, Phase, Wakes, Steps, Arrives, Chooses, rests}
use Rattle.recovery_world.specs.Many.{goes_on, begins, summary_of, arrival_of}
use Rattle.early_arrivals.specs.Early.{IsMoving}
use Rattle.system_parts.specs.Parts.{Parts}
use Rattle.system_parts.specs.SystemStanding.{StandsFor}
use Rattle.several_events.specs.declared.progress.Progress.{Progress}
use Rattle.several_events.specs.declared.progress.Progress.TheVariants as progress
use Rattle.single_events.specs.Single.{IsSingle}

-- Messages that are still to arrive

-- how many entries or outputs the thread has in the past
abbrev pub count_in : {V : Type 0} → Kind → List (Step V) → ℕ → ℕ
count_in kind.Log past t = entries t (log_of past)
count_in kind.Out past t = outputs t (sent_of past)

-- those of this many threads, from thread t on, of which the first ones arrived
abbrev pub of_rest : Kind → (ℕ → ℕ) → ℕ → ℕ → ℕ → List Message
of_rest k count t arrived zero = []
of_rest k count t arrived (suc many) = numbered k t (arrived + 1) (count t - arrived) ++ of_threads k count (t + 1) many

-- behind the entries come the outputs
abbrev pub messages_from : {V : Type 0} → Setting V → World V → Kind → ℕ → ℕ → List Message
messages_from s w kind.Log t arrived =
    of_rest kind.Log (count_in kind.Log w.past) t arrived (s.threads - t)
    ++ of_threads kind.Out (count_in kind.Out w.past) 0 s.threads
messages_from s w kind.Out t arrived = of_rest kind.Out (count_in kind.Out w.past) t arrived (s.threads - t)

-- The phase

-- the phase of the definitions that this is
abbrev pub IsInPhase : {V : Type 0} → Setting V → World V → Progress → Phase → Type 0
IsInPhase s w progress.Wakes q = q ≡ Wakes
IsInPhase s w (progress.Steps left t moved) q = (q ≡ Steps left t moved) × (w.up ≡ true)
IsInPhase s w (progress.Arrives k t arrived) q = q ≡ Arrives (messages_from s w k t arrived)
IsInPhase s w (progress.Chooses words left) q =
    (seed k : ℕ) × (q ≡ Chooses seed k (k + left)) × (words ≡ generator_after seed (2 * k))

-- it is the turn of a thread that there is
abbrev pub IsTurn : ℕ → Progress → Type 0
IsTurn n progress.Wakes = Unit {0}
IsTurn n (progress.Steps left t moved) = t < n
IsTurn n (progress.Arrives k t arrived) = Unit {0}
IsTurn n (progress.Chooses words left) = Unit {0}

abbrev pub after_turn : ℕ → ℕ → ℕ → Bool → Outcome → Progress
after_turn n left t moved to =
    if rests to
    then (if nat_lt (t + 1) n || not moved then progress.Steps left (t + 1) moved else progress.Steps left 0 false)
    else progress.Steps left t true

-- how it goes on behind an event with this outcome
abbrev pub after_of : ℕ → Progress → Event → Outcome → Progress
after_of n (progress.Steps left t moved) (event.Step u given) to = after_turn n left t moved to
after_of n at ev to = at

-- How much is still to be done, a number that falls with each event

-- by messages of a kind, of each thread no more than there may be moves; and by those of both kinds
abbrev pub to_arrive_of : ℕ → ℕ → ℕ → ℕ
to_arrive_of n t arrived = (MOST_MOVES + 2) * (n - t) + (MOST_MOVES + 1 - arrived)

abbrev pub to_arrive : ℕ → Kind → ℕ → ℕ → ℕ
to_arrive n kind.Log t arrived = (MOST_MOVES + 2) * (n + 1) + to_arrive_of n t arrived
to_arrive n kind.Out t arrived = to_arrive_of n t arrived

-- by packets and moves, behind each of which there are at most 2 rounds of 16 threads without a move, and then by
-- messages
abbrev pub to_move : ℕ → ℕ → ℕ → ℕ
to_move n left moves = 64 * (left + (MOST_MOVES + 1 - moves)) + (MOST_MOVES + 2) * (2 * n + 2)

abbrev pub to_do : ℕ → ℕ → ℕ → Progress → ℕ
to_do n packets moves progress.Wakes = to_move n packets moves + 63
to_do n packets moves (progress.Steps left t moved) = to_move n left moves + (if moved then 32 else 0) + (n - t)
to_do n packets moves (progress.Arrives k t arrived) = to_arrive n k t arrived
to_do n packets moves (progress.Chooses words left) = left

-- Choices

-- Nothing more is done.
abbrev pub IsOver : {P V : Type 0} → Meaning V → Parts P V → Progress → Type 0
IsOver {P} {V} m y at =
    (s : Setting V) (w : World V) (q : Phase) → StandsFor m s w y → IsInPhase s w at q → goes_on s q w ≡ None

-- which events come from where: a step and a packet while threads take turns, and the message that arrives next
abbrev pub IsOfTurns : Event → Progress → Type 0
IsOfTurns ev progress.Wakes = ⊥
IsOfTurns ev (progress.Steps left t moved) = IsMoving ev
IsOfTurns ev (progress.Arrives k t n) = ev ≡ arrival_of k t n
IsOfTurns ev (progress.Chooses words left) = ⊥

abbrev pub IsOfEntries : Event → Progress → Type 0
IsOfEntries ev progress.Wakes = ⊥
IsOfEntries ev (progress.Steps left t moved) = ⊥
IsOfEntries ev (progress.Arrives k t n) = ev ≡ arrival_of k t n
IsOfEntries ev (progress.Chooses words left) = ⊥

abbrev pub Leads : Progress → Event → Progress → Type 0
Leads progress.Wakes ev further = Unit {0}
Leads (progress.Steps left t moved) ev further = IsOfTurns ev further
Leads (progress.Arrives kind.Log t arrived) ev further = IsOfEntries ev further
Leads (progress.Arrives kind.Out t arrived) ev further = Unit {0}
Leads (progress.Chooses words left) ev further = Unit {0}

-- The strategy chooses this event, behind which it goes on from there, and less is to be done.
pub record IsNext {P V : Type 0} (m : Meaning V) (y : Parts P V) (at : Progress) (ev : Event)
    (further : Progress) : Type 0 where
  pub chosen : (s : Setting V) (w : World V) (q : Phase) → StandsFor m s w y → IsInPhase s w at q
      → (c : Choice Phase) × (goes_on s q w ≡ Some c) × (c.event ≡ ev)
      × ((to : Outcome) (freed : List Sent) (new : World V) → OnWithin s w ev to freed new
      → IsInPhase s new (after_of y.inputs.threads further ev to) (c.leads_to to))
  pub falls : (s : Setting V) (w : World V) (q : Phase) → StandsFor m s w y → IsInPhase s w at q
      → (to : Outcome) (freed : List Sent) (new : World V) → OnWithin s w ev to freed new
      → (packets : ℕ) → to_do y.inputs.threads packets new.moves (after_of y.inputs.threads further ev to)
      < to_do y.inputs.threads (length y.left) w.moves at
  pub turn : IsTurn y.inputs.threads further
  pub leads : Leads at ev further
  pub single : IsSingle y.up ev

-- The message of this kind that comes next, and what is to come behind it.
pub record IsOfKind {V : Type 0} (s : Setting V) (w : World V) (k : Kind) (t arrived : ℕ) (next : ℕ × ℕ) : Type 0 where
  pub messages : of_rest k (count_in k w.past) t arrived (s.threads - t)
      ≡ record { kind = k; thread = next.0; number = next.1 }
      ∷ of_rest k (count_in k w.past) next.0 next.1 (s.threads - next.0)
  pub less : to_arrive_of s.threads next.0 next.1 < to_arrive_of s.threads t arrived

-- The message that comes next, and what is to come behind it.
pub record IsMessage {V : Type 0} (s : Setting V) (w : World V) (k : Kind) (t arrived : ℕ)
    (next : Kind × ℕ × ℕ) : Type 0 where
  pub messages : messages_from s w k t arrived
      ≡ record { kind = next.0; thread = next.1; number = next.2 } ∷ messages_from s w next.0 next.1 next.2
  pub less : to_arrive s.threads next.0 next.1 next.2 < to_arrive s.threads k t arrived

-- none comes
abbrev pub NoMessage : {V : Type 0} → Setting V → World V → Kind → ℕ → ℕ → Type 0
NoMessage s w k t arrived = messages_from s w k t arrived ≡ []

-- Events of several

-- An event of several begins so.
abbrev pub IsBegun : {P V : Type 0} → Meaning V → Parts P V → Event → Progress → Type 0
IsBegun {P} {V} m y ev at =
    (s : Setting V) (w : World V) → StandsFor m s w y → (q : Phase) × (begins s w ev ≡ Some q) × IsInPhase s w at q

-- it is so far, in some world that the parts stand for
abbrev pub StandsAt : {P V : Type 0} → Meaning V → Parts P V → Progress → Type 0
StandsAt {P} {V} m y at = (s : Setting V) × (w : World V) × StandsFor m s w y × (q : Phase) × IsInPhase s w at q

-- the strategy goes on from there
abbrev pub Reaches : {V : Type 0} → Progress → Progress → Setting V → World V → World V → Type 0
Reaches {V} at further s w next = (q : Phase) → IsInPhase s w at q → (p : Phase) × IsInPhase s next further p
    × ((end : Option Limit) (new : World V) → Follows s (goes_on s) p next end new → Follows s (goes_on s) q w end new)

-- the strategy came to its end, or to this limit
abbrev pub Comes : {V : Type 0} → Progress → Option Limit → Setting V → World V → World V → Type 0
Comes {V} at end s w next = (q : Phase) → IsInPhase s w at q → Follows s (goes_on s) q w end next

-- it came to its end, with this summary
abbrev pub SumsUp : {V : Type 0} → Progress → Outcome → Setting V → World V → World V → Type 0
SumsUp at to s w next = Comes at None s w next × (to ≡ summary_of w next)
