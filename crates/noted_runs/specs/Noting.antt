-- A system that performs the events of a picture, and what is noted of it.
use Rattle.std.specs.Prelude.{◌≡◌, ℕ, nat_le, if◌then◌else◌, List, [], ◌∷◌, ◌++◌, drop, length}
use Rattle.plain_text.specs.declared.limit.Limit.{Limit}
use Rattle.input_logger.specs.Inputs.{Fed}
use Rattle.plain_machine.specs.declared.plain_move.PlainMove.{PlainMove}
use Rattle.plain_machine.specs.Program.{Meaning}
use Rattle.recovery_world.specs.declared.event.Event.{Event}
use Rattle.recovery_world.specs.World.{Setting, World as SystemWorld, opening}
use Rattle.recovery_world.specs.Many.{Stops}
use Rattle.recovery_world.specs.Files.{Performs}
use Rattle.recovery_core.specs.Systems.{SystemStands, Systemed}
use Rattle.made_moves.specs.declared.made.Made.{Made}
use Rattle.made_moves.specs.Made.{made_in}
use Rattle.run_drawing.specs.declared.note.Note.{Note}
use Rattle.run_drawing.specs.Noted.{Noted}

-- the setting is one of a box that means this, on all of these inputs
pub record AreInputs {V : Type 0} (m : Meaning V) (inputs : Fed) (s : Setting V) : Type 0 where
  pub meaning : s.meaning ≡ m
  pub inputs_are : inputs ≡ record { threads = s.threads; tags = s.tags; packets = s.packets }

-- what the moves of a world's master did behind the first of them; nothing where there are too many to be drawn
abbrev pub made_at : {V : Type 0} → ℕ → SystemWorld V → List Made
made_at kept w = if nat_le (length w.past) 400 then drop kept (made_in w.past) else []

-- the threads of moves
abbrev pub threads_of : List PlainMove → List ℕ
threads_of [] = []
threads_of (p ∷ moves) = p.thread ∷ threads_of moves

-- The events were performed from the opening and noted, and the system stands for their world.
pub record HasNoted {P V : Type 0} (m : Meaning V) (s : Setting V) (events : List Event) (notes : List Note)
    (y : Systemed P V) : Type 0 where
  pub world : SystemWorld V
  pub noted : Noted s events notes world
  pub stands : SystemStands m s world y

-- An event stopped at this limit.
pub record IsHalted {V : Type 0} (s : Setting V) (events : List Event) (limit : Limit) : Type 0 where
  pub before : List Event
  pub event : Event
  pub after : List Event
  pub events_are : events ≡ before ++ event ∷ after
  pub lines : List ℕ
  pub there : SystemWorld V
  pub performs : Performs s (opening V) before lines there
  pub world : SystemWorld V
  pub stops : Stops s there event limit world
