-- What a move on no variable answers.
use Rattle.std.specs.Prelude.{◌≡◌, ℕ, ◌⊎◌, List, Option, Some, None}
use Rattle.plain_text.specs.declared.packet.Packet.{Packet}
use Rattle.access_log.specs.Held.{Lane, lane, entry_at}
use Rattle.access_log.specs.declared.entry.StampedEntry.{StampedEntry}
use Rattle.replay_guide.specs.Following.{recorded}
use Rattle.access_log.specs.declared.entry.Output.{Output}
use Rattle.plain_machine.specs.declared.local.Local.{Local}
use Rattle.plain_machine.specs.declared.local.Move.TheVariants as move
use Rattle.entry_order.specs.declared.what.What.{What}
use Rattle.entry_order.specs.declared.what.What.TheVariants as what
use Rattle.plain_machine.specs.Program.{Meaning}
use Rattle.master_core.specs.declared.parts.ThreadPart.{ThreadPart}
use Rattle.master_core.specs.declared.step.Trace.TheVariants as trace
use Rattle.master_core.specs.declared.step.Stepped.{Stepped}
use Rattle.master_core.specs.declared.step.Stepped.TheVariants as stepped
use Rattle.master_core.specs.Effects.{next_output}
use Rattle.var_locks.specs.Notes.{answer_in}
use Rattle.var_locks.specs.Seats.{Seated, HasMade}

-- the output is the thread's next one, made of the packet in hand, which was passed
abbrev pub IsSent : {V : Type 0} → Meaning V → ℕ → ThreadPart → Option Packet → Output → Type 0
IsSent m t part input o =
    (packet : Packet) × (place : Local) × (input ≡ Some packet) × (part.hand ≡ Some place)
    × (o ≡ next_output t part packet (m.out packet place))

-- where no answer is recorded, the thread was told this one
abbrev pub IsOwnAnswer : List Lane → ℕ → ℕ → StampedEntry → Type 0
IsOwnAnswer guide t answer e =
    recorded (entry_at (lane guide t) e.number) ≡ None → answer_in (trace.Did e) ≡ Some answer

-- the entry of a clock or a draw, for which the thread asks here, has this answer
abbrev pub IsAsked : {V : Type 0} → Meaning V → Local → What → ℕ → Type 0
IsAsked m place w told =
    ((m.next place ≡ move.Clock) × (w ≡ what.Clock told)) ⊎ ((m.next place ≡ move.Draw) × (w ≡ what.Draw told))

-- where no answer is recorded of this entry, the thread is told this one
abbrev pub IsFree : List Lane → ℕ → ℕ → ℕ → ℕ → Type 0
IsFree guide t number told answer = recorded (entry_at (lane guide t) number) ≡ None → told ≡ answer

-- What a move comes to
abbrev pub Steps : {V : Type 0} → Meaning V → List Lane → Seated V → ℕ → Option Packet → Seated V → Stepped → Type 0
Steps m guide old answer input new (stepped.Took k) = HasMade m guide old (trace.Took k) input new
Steps m guide old answer input new (stepped.Did e) =
    HasMade m guide old (trace.Did e) input new × IsOwnAnswer guide old.thread answer e
Steps m guide old answer input new (stepped.Emitted o) =
    HasMade m guide old (trace.Emitted o.number) input new × IsSent m old.thread old.part input o
Steps m guide old answer input new (stepped.Ended k) = HasMade m guide old (trace.Ended k) input new
Steps m guide old answer input new stepped.Idle = (new ≡ old) × (old.part.hand ≡ None) × (input ≡ None)
Steps m guide old answer input new (stepped.NotTurn u n) = ⊥
Steps m guide old answer input new stepped.NoMemory = new ≡ old
