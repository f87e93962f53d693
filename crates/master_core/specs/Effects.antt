-- What each kind of move does to the parts of a master: to the thread that makes it, and to the variable that it is of.
use Rattle.std.specs.Prelude.{◌≡◌, ◌⊎◌, ℕ, ◌+◌, List, max, replicate, length, ◌<◌, slice_index, slice_index_or}
use Rattle.std.specs.Prelude.{slice_set, Some, None}
use Rattle.plain_text.specs.declared.packet.Packet.{Packet}
use Rattle.entry_order.specs.declared.what.What.{What}
use Rattle.entry_order.specs.declared.what.What.TheVariants.{Access, Read, Clock, Draw}
use Rattle.entry_order.specs.Stamps.{bumped}
use Rattle.access_log.specs.declared.entry.StampedEntry.{StampedEntry}
use Rattle.access_log.specs.declared.entry.Output.{Output}
use Rattle.access_log.specs.declared.entry.Turn.{Turn}
use Rattle.access_log.specs.declared.entry.Turn.TheVariants as turn
use Rattle.plain_machine.specs.declared.local.Local.{Local}
use Rattle.plain_machine.specs.declared.local.Move.{Move}
use Rattle.plain_machine.specs.declared.local.Move.TheVariants as move
use Rattle.plain_machine.specs.Program.{Meaning}
use Rattle.master_core.specs.declared.parts.VarPart.{VarPart}
use Rattle.master_core.specs.declared.parts.ThreadPart.{ThreadPart}
use Rattle.thread_clock.specs.Clock.{IsJoin}
use Rattle.master_core.specs.declared.step.Stepped.{Stepped}
use Rattle.master_core.specs.declared.step.Stepped.TheVariants as stepped
use Rattle.master_core.specs.Mastered.{Mastered}
use Rattle.master_core.specs.Stepping.{plain_entry}

-- a variable that was never touched or read
abbrev pub fresh_var : {V : Type 0} → Meaning V → ℕ → VarPart V
fresh_var m v = record { value = m.fresh v; places = 0; stamp = replicate 16 0; readers = replicate 16 0 }

-- a part for each variable, with its fresh value, and touched by none
pub record HasFresh {V : Type 0} (m : Meaning V) (vars : List (VarPart V)) : Type 0 where
  pub count : length vars ≡ m.vars
  pub each : (v : ℕ) (d : VarPart V) → v < m.vars → slice_index_or vars v d ≡ fresh_var m v

-- the thread with its next input in hand
abbrev pub after_take : ThreadPart → Local → ThreadPart
after_take part place =
    record { counts = record part.counts { taken = part.counts.taken + 1 }; hand = Some place; stamp = part.stamp }

-- the thread after an entry with this stamp
abbrev pub after_entry : ThreadPart → Local → List ℕ → ThreadPart
after_entry part place stamp =
    record { counts = record part.counts { entries = part.counts.entries + 1 }; hand = Some place; stamp = stamp }

abbrev pub after_emit : ThreadPart → Local → ThreadPart
after_emit part place =
    record { counts = record part.counts { outputs = part.counts.outputs + 1 }; hand = Some place; stamp = part.stamp }

abbrev pub after_end : ThreadPart → ThreadPart
after_end part = record { counts = part.counts; hand = None; stamp = part.stamp }

-- the thread's next entry
abbrev pub next_entry : ℕ → ThreadPart → What → List ℕ → StampedEntry
next_entry t part what stamp = record { thread = t; number = part.counts.entries + 1; what = what; stamp = stamp }

-- the thread's next output, made of the packet in hand
abbrev pub next_output : ℕ → ThreadPart → Packet → List ℕ → Output
next_output t part packet bytes = record {
  thread = t;
  number = part.counts.outputs + 1;
  input = part.counts.taken;
  stamp = part.stamp;
  packet = record packet { bytes = bytes };
}

-- the stamp of the entry is this join, with its own number in the place of its thread
abbrev pub HasStamp : StampedEntry → (ℕ → ℕ) → Type 0
HasStamp e join = (u : ℕ) → slice_index e.stamp u ≡ bumped (plain_entry e) join u

-- the joins of the stamps of what stands before a touch, and before a read
abbrev pub before_touch : {V : Type 0} → ThreadPart → VarPart V → ℕ → ℕ
before_touch part x u = max (max (slice_index part.stamp u) (slice_index x.stamp u)) (slice_index x.readers u)

abbrev pub before_read : {V : Type 0} → ThreadPart → VarPart V → ℕ → ℕ
before_read part x u = max (slice_index part.stamp u) (slice_index x.stamp u)

-- A logged move of thread t, which has this part: its entry is the thread's next one, its stamp is that of the join
-- before it, and the thread goes on at this place in the program.
pub record LogsEntry (t : ℕ) (what : What) (join : ℕ → ℕ) (next : Local) (part : ThreadPart) (e : StampedEntry)
    (left : ThreadPart) : Type 0 where
  pub entry : e ≡ next_entry t part what e.stamp
  pub stamp : HasStamp e join
  pub thread : left ≡ after_entry part next e.stamp

-- the variable after a touch with this stamp, and after a read that joins the others
abbrev pub after_touch : {V : Type 0} → Meaning V → ℕ → Local → VarPart V → List ℕ → VarPart V
after_touch m v place x stamp =
    record { value = (m.touch v x.value place).0; places = x.places + 1; stamp = stamp; readers = replicate 16 0 }

abbrev pub after_read : {V : Type 0} → VarPart V → List ℕ → VarPart V
after_read x readers = record { value = x.value; places = x.places; stamp = x.stamp; readers = readers }

-- What a touch of variable v, from this place in the program, does to the parts of its thread and of the variable.
pub record TouchesParts {V : Type 0} (m : Meaning V) (t v : ℕ) (place : Local) (part : ThreadPart) (x : VarPart V)
    (e : StampedEntry) (left : ThreadPart) (y : VarPart V) : Type 0 where
  pub logs : LogsEntry t (Access v (x.places + 1)) (before_touch part x) (m.touch v x.value place).1 part e left
  pub variable : y ≡ after_touch m v place x e.stamp

-- What a read does to them.
pub record ReadsParts {V : Type 0} (m : Meaning V) (t v : ℕ) (place : Local) (part : ThreadPart) (x : VarPart V)
    (e : StampedEntry) (left : ThreadPart) (y : VarPart V) : Type 0 where
  pub logs : LogsEntry t (Read v x.places) (before_read part x) (m.look v x.value place) part e left
  pub variable : y ≡ after_read x y.readers
  pub joined : IsJoin x.readers e.stamp y.readers

-- What being told an answer, as the entry says, does to the part of its thread.
abbrev pub HearsPart : {V : Type 0} → Meaning V → ℕ → What → ℕ → Local → ThreadPart → StampedEntry → ThreadPart → Type 0
HearsPart m t what answer place part e left =
    LogsEntry t what (λ u. slice_index part.stamp u) (m.told answer place) part e left

-- the master with this part of thread t, and with this one of variable v too
abbrev pub with_thread : {V : Type 0} → Mastered V → ℕ → ThreadPart → Mastered V
with_thread p t part = record { vars = p.vars; threads = slice_set p.threads t part }

abbrev pub with_parts : {V : Type 0} → Mastered V → ℕ → ThreadPart → ℕ → VarPart V → Mastered V
with_parts p t part v x = record { vars = slice_set p.vars v x; threads = slice_set p.threads t part }

-- Thread t of a master, which has this part, touched variable v, which has that one.
pub record Touched {V : Type 0} (m : Meaning V) (t v : ℕ) (place : Local) (part : ThreadPart) (x : VarPart V)
    (p : Mastered V) (e : StampedEntry) (q : Mastered V) : Type 0 where
  pub left : ThreadPart
  pub y : VarPart V
  pub does : TouchesParts m t v place part x e left y
  pub master : q ≡ with_parts p t left v y

-- it read it
pub record Looked {V : Type 0} (m : Meaning V) (t v : ℕ) (place : Local) (part : ThreadPart) (x : VarPart V)
    (p : Mastered V) (e : StampedEntry) (q : Mastered V) : Type 0 where
  pub left : ThreadPart
  pub y : VarPart V
  pub does : ReadsParts m t v place part x e left y
  pub master : q ≡ with_parts p t left v y

-- it was told an answer
pub record Heard {V : Type 0} (m : Meaning V) (t : ℕ) (what : What) (answer : ℕ) (place : Local) (part : ThreadPart)
    (p : Mastered V) (e : StampedEntry) (q : Mastered V) : Type 0 where
  pub left : ThreadPart
  pub does : HearsPart m t what answer place part e left
  pub master : q ≡ with_thread p t left

-- What a call that makes one kind of move answers

abbrev pub DoneTake : {V : Type 0} → Meaning V → ℕ → Packet → ThreadPart → Mastered V → Stepped → Mastered V → Type 0
DoneTake m t packet part p r q =
    (r ≡ stepped.Took (part.counts.taken + 1)) × (q ≡ with_thread p t (after_take part (m.begin packet)))

abbrev pub DoneTouch : {V : Type 0} → Meaning V → ℕ → ℕ → Local → ThreadPart → VarPart V → Mastered V → Stepped
    → Mastered V → Type 0
DoneTouch m t v place part x p r q =
    ((e : StampedEntry) × (r ≡ stepped.Did e) × Touched m t v place part x p e q) ⊎ ((r ≡ stepped.NoMemory) × (q ≡ p))

abbrev pub DoneLook : {V : Type 0} → Meaning V → ℕ → ℕ → Local → ThreadPart → VarPart V → Mastered V → Stepped
    → Mastered V → Type 0
DoneLook m t v place part x p r q =
    ((e : StampedEntry) × (r ≡ stepped.Did e) × Looked m t v place part x p e q) ⊎ ((r ≡ stepped.NoMemory) × (q ≡ p))

abbrev pub DoneHear : {V : Type 0} → Meaning V → ℕ → What → ℕ → Local → ThreadPart → Mastered V → Stepped
    → Mastered V → Type 0
DoneHear m t what answer place part p r q =
    ((e : StampedEntry) × (r ≡ stepped.Did e) × Heard m t what answer place part p e q)
    ⊎ ((r ≡ stepped.NoMemory) × (q ≡ p))

abbrev pub DoneEmit : {V : Type 0} → Meaning V → ℕ → Packet → Local → ThreadPart → Mastered V → Stepped
    → Mastered V → Type 0
DoneEmit m t packet place part p r q =
    ((r ≡ stepped.Emitted (next_output t part packet (m.out packet place)))
    × (q ≡ with_thread p t (after_emit part (m.emitted place))))
    ⊎ ((r ≡ stepped.NoMemory) × (q ≡ p))

abbrev pub DoneEnd : {V : Type 0} → ℕ → ThreadPart → Mastered V → Stepped → Mastered V → Type 0
DoneEnd t part p r q = (r ≡ stepped.Ended part.counts.taken) × (q ≡ with_thread p t (after_end part))

-- The answer to a move that wants a variable, where its turn is this one: that it is not its turn, or else what it did.
abbrev pub InTurn : {V : Type 0} → Turn → Mastered V → Stepped → Mastered V → Type 0 → Type 0
InTurn turn.Follow p r q Done = Done
InTurn turn.Free p r q Done = Done
InTurn (turn.Wait u n) p r q Done = (r ≡ stepped.NotTurn u n) × (q ≡ p)

-- What the next move answers, with the packet in hand at this place. Some variable stands for those outside the list.
abbrev pub Played : {V : Type 0} → Meaning V → ℕ → Turn → ℕ → Packet → Local → ThreadPart → VarPart V → Mastered V
    → Stepped → Mastered V → Move → Type 0
Played m t now answer packet place part x p r q (move.Access v) =
    InTurn now p r q (DoneTouch m t v place part (slice_index_or p.vars v x) p r q)
Played m t now answer packet place part x p r q (move.Read v) =
    InTurn now p r q (DoneLook m t v place part (slice_index_or p.vars v x) p r q)
Played m t now answer packet place part x p r q move.Clock = DoneHear m t (Clock answer) answer place part p r q
Played m t now answer packet place part x p r q move.Draw = DoneHear m t (Draw answer) answer place part p r q
Played m t now answer packet place part x p r q move.Emit = DoneEmit m t packet place part p r q
Played m t now answer packet place part x p r q move.End = DoneEnd t part p r q

-- What the program's next move from this place answers.
abbrev pub HasPlayed : {V : Type 0} → Meaning V → ℕ → Turn → ℕ → Packet → Local → ThreadPart → Mastered V → Stepped
    → Mastered V → Type 0
HasPlayed {V} m t now answer packet place part p r q =
    (x : VarPart V) → Played m t now answer packet place part x p r q (m.next place)
