-- The notes of a run: one behind each event, of what the event came to and of the world behind it.
use Rattle.std.specs.Prelude.{ℕ, ◌-◌, nat_le, if◌then◌else◌, List, [], ◌∷◌, ◌++◌, drop, length, take}
use Rattle.plain_machine.specs.History.{Step}
use Rattle.recovery_world.specs.declared.event.Event.{Event}
use Rattle.recovery_world.specs.declared.event.Outcome.{Outcome}
use Rattle.recovery_world.specs.declared.event.Outcome.TheVariants as outcome
use Rattle.recovery_world.specs.World.{Setting, Sent, World as SystemWorld, opening}
use Rattle.recovery_world.specs.Many.{OnAny}
use Rattle.recovery_world.specs.Files.{reply_line}
use Rattle.made_moves.specs.declared.made.Made.{Made}
use Rattle.made_moves.specs.Made.{made_in}
use Rattle.run_drawing.specs.declared.note.Note.{Note}

-- how many moves an event made that came to this
abbrev pub moves_by : Outcome → ℕ
moves_by (outcome.Take k) = 1
moves_by (outcome.Touched n v p) = 1
moves_by (outcome.Looked n v p) = 1
moves_by (outcome.ClockTold n a) = 1
moves_by (outcome.Drawn n a) = 1
moves_by (outcome.Emitted j) = 1
moves_by (outcome.Ended k) = 1
moves_by (outcome.Summary m r e) = m
moves_by _ = 0

-- the master's moves are those that it had made before the event, and then these
abbrev pub kept_behind : {V : Type 0} → Outcome → SystemWorld V → ℕ
kept_behind to new = length new.past - moves_by to

-- what the new ones did; it is noted where a master's moves are few enough to be drawn
abbrev pub made_behind : {V : Type 0} → Outcome → SystemWorld V → List Made
made_behind to new = if nat_le (length new.past) 400 then drop (kept_behind to new) (made_in new.past) else []

-- who made the moves of a history, the oldest first
abbrev pub movers_in : {V : Type 0} → List (Step V) → List ℕ
movers_in [] = []
movers_in (x ∷ earlier) = movers_in earlier ++ x.thread ∷ []

-- and who made the new ones, however many there are
abbrev pub movers_behind : {V : Type 0} → Outcome → SystemWorld V → List ℕ
movers_behind to new = drop (kept_behind to new) (movers_in new.past)

abbrev pub note_of : {V : Type 0} → Event → Outcome → List Sent → SystemWorld V → Note
note_of ev to freed new = record {
  event = ev;
  outcome = to;
  line = reply_line ev to freed;
  kept = kept_behind to new;
  made = made_behind to new;
  movers = movers_behind to new;
  moves = length new.past;
  fed = new.fed;
  released = length new.released;
  waiting = length new.waiting;
  up = new.up;
  epoch = new.epoch;
}

-- The events, performed in order from the opening, leave these notes, one each, and lead to this world.
pub data Noted {V : Type 0} (s : Setting V) : List Event → List Note → SystemWorld V → Type 0 where
  Opens : Noted s [] [] (opening V)
  Goes : {events : List Event} {notes : List Note} {w new : SystemWorld V} (ev : Event) (to : Outcome)
      (freed : List Sent) → Noted s events notes w → OnAny s w ev to freed new
      → Noted s (events ++ ev ∷ []) (notes ++ note_of ev to freed new ∷ []) new

-- What the notes say that the present master did: behind each event, those of its moves that are kept, and then the new
-- ones. A crash and the recovery behind it keep the moves up to the stored snapshot.
abbrev pub moves_noted : List Made → List Note → List Made
moves_noted before [] = before
moves_noted before (n ∷ later) = moves_noted (take n.kept before ++ n.made) later

-- and who made its moves
abbrev pub movers_noted : List ℕ → List Note → List ℕ
movers_noted before [] = before
movers_noted before (n ∷ later) = movers_noted (take n.kept before ++ n.movers) later
