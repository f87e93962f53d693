-- How a master plays on: where it is, and the ways on from there.
use Rattle.std.specs.Prelude.{◌≡◌, ◌⊎◌, ℕ, ◌<◌, List, [], ◌∷◌, slice_index, Option, Some, None}
use Rattle.input_logger.specs.Inputs.{Fed, inputs_of}
use Rattle.entry_order.specs.Log.{Entry, IsIn}
use Rattle.plain_machine.specs.declared.plain_move.PlainMove.{PlainMove}
use Rattle.plain_machine.specs.Program.{Meaning}
use Rattle.plain_machine.specs.History.{Act, Step, log_of, IsHistory}
use Rattle.plain_machine.specs.Continue.{IsLed}
use Rattle.master_core.specs.Mastered.{Mastered}
use Rattle.master_core.specs.MasterStanding.{Stands}
use Rattle.master_core.specs.declared.step.Stepped.{Stepped}
use Rattle.master_core.specs.declared.step.Stepped.TheVariants as stepped
use Rattle.recovery_world.specs.World.{Sent}
use Rattle.recovery_world.specs.Files.{answer_of_entry, answer_of, moves_made}
use Rattle.recovery_world.specs.Finish.{greatest, GoesOn, AllGoOn}

-- The master is where the machine is after these steps, and the schedule has their moves.
pub record IsMasterAfter {V : Type 0} (m : Meaning V) (threads : ℕ) (steps : List (Step V)) (p : Mastered V)
    (schedule : List PlainMove) : Type 0 where
  pub stands : Stands m threads steps p
  pub schedule_is : schedule ≡ moves_made steps

-- The master is where some way begins: one of a machine with this number of threads, from the steps until now to more
-- steps.
abbrev pub StandsBefore : {V : Type 0} → (ℕ → List (Step V) → List (Step V) → Type 0) → Meaning V → Mastered V
    → List PlainMove → Type 0
StandsBefore {V} Leads m p schedule =
    (threads : ℕ) × (now : List (Step V)) × (steps : List (Step V)) × Leads threads now steps
    × IsMasterAfter m threads now p schedule

-- Wherever such a way begins where the master was, it ends where the master is.
abbrev pub PlaysOn : {V : Type 0} → (ℕ → List (Step V) → List (Step V) → Type 0) → Meaning V → Mastered V
    → List PlainMove → Mastered V → List PlainMove → Type 0
PlaysOn {V} Leads m old moves new schedule =
    (threads : ℕ) (now steps : List (Step V)) → Leads threads now steps → IsMasterAfter m threads now old moves
    → IsMasterAfter m threads steps new schedule

-- what a move is told, where it is told something, is this
abbrev pub IsTold : {V : Type 0} → Act V → ℕ → Type 0
IsTold act answer = (told : ℕ) → answer_of act ≡ Some told → told ≡ answer

-- one move of the thread, which is told this where it is told something
abbrev pub MakesNext : {V : Type 0} → Meaning V → Fed → ℕ → ℕ → ℕ → List (Step V) → List (Step V) → Type 0
MakesNext {V} m fed t answer threads now steps =
    (x : Step V) × (steps ≡ x ∷ now) × IsHistory m (inputs_of fed) threads steps × (x.thread ≡ t) × IsTold x.act answer

-- the moves of the entry's thread that lead to it, and then the entry; none where it was made before
abbrev pub LeadsTo : {V : Type 0} → Meaning V → Fed → Entry → ℕ → List (Step V) → List (Step V) → Type 0
LeadsTo m fed e threads now steps =
    IsHistory m (inputs_of fed) threads steps × ((IsIn e (log_of now) × (steps ≡ now)) ⊎ IsLed now (e ∷ []) steps)

-- the same for each of these entries, one after another
abbrev pub LeadsBy : {V : Type 0} → Meaning V → Fed → List Entry → ℕ → List (Step V) → List (Step V) → Type 0
LeadsBy m fed [] threads now steps = IsHistory m (inputs_of fed) threads steps × (steps ≡ now)
LeadsBy {V} m fed (e ∷ later) threads now steps =
    (mid : List (Step V)) × LeadsTo m fed e threads now mid × LeadsBy m fed later threads mid steps

-- the moves of the thread, not logged, until it has sent out this number of packets
abbrev pub SendsUpTo : {V : Type 0} → Meaning V → Fed → ℕ → ℕ → ℕ → List (Step V) → List (Step V) → Type 0
SendsUpTo m fed t many threads now steps =
    (t < threads) × IsHistory m (inputs_of fed) threads steps × GoesOn t many now steps

-- for each thread there is its greatest released output
abbrev pub AreGreatest : List Sent → ℕ → List ℕ → Type 0
AreGreatest released threads numbers = (t : ℕ) → t < threads → slice_index numbers t ≡ greatest t released

-- the same for each thread, one after another, up to its greatest released output
abbrev pub SendsAll : {V : Type 0} → Meaning V → Fed → List ℕ → ℕ → List (Step V) → List (Step V) → Type 0
SendsAll m fed numbers threads now steps =
    (threads ≡ fed.threads) × IsHistory m (inputs_of fed) threads steps
    × (released : List Sent) × AreGreatest released threads numbers × AllGoOn released threads now steps

-- A master's answer: it made a move, which was told this, or memory ran out.
abbrev pub told_by : Stepped → Option ℕ
told_by (stepped.Took k) = None
told_by (stepped.Did e) = answer_of_entry e.what
told_by (stepped.Emitted o) = None
told_by (stepped.Ended k) = None
told_by stepped.Idle = None
told_by (stepped.NotTurn u n) = None
told_by stepped.NoMemory = None

-- it found a packet, and had its turn
abbrev pub IsBusy : Stepped → Type 0
IsBusy (stepped.Took k) = Unit {0}
IsBusy (stepped.Did e) = Unit {0}
IsBusy (stepped.Emitted o) = Unit {0}
IsBusy (stepped.Ended k) = Unit {0}
IsBusy stepped.Idle = ⊥
IsBusy (stepped.NotTurn u n) = ⊥
IsBusy stepped.NoMemory = Unit {0}
