-- What a step of a script needs to be a move of the world, and the world after it.
use Rattle.std.specs.Prelude.{◌≡◌, ℕ, ◌+◌, ◌<◌, ◌∷◌, Option, Ok}
use Rattle.plain_machine.specs.History.{Step, log_of, thread_after, plain_move}
use Rattle.recovery_world.specs.World.{Setting, World, inputs_fed}
use Rattle.recovery_world.specs.Turns.{HandHasTurn}
use Rattle.recovery_world.specs.Events.{TellsHand, bytes_sent}

-- Thread t makes this step next, told the answer that the script gives: so no random word of the world is used.
pub record CanMake {V : Type 0} (s : Setting V) (w : World V) (t : ℕ) (answer : Option ℕ) (step : Step V) : Type 0 where
  pub low : t < s.threads
  pub turn : HandHasTurn s.meaning w.followed (log_of w.past) t (thread_after w.past t).hand
  pub tells : TellsHand s w t answer answer w.drawn (thread_after w.past t).hand
  pub moves :
      plain_move s.meaning (inputs_fed s w.fed) s.threads w.past (record { thread = t; answer = answer })
      ≡ Ok (step ∷ w.past)

-- the world after the step
abbrev pub after_made : {V : Type 0} → World V → Step V → World V
after_made w step = record w { past = step ∷ w.past; moves = w.moves + 1; bytes = w.bytes + bytes_sent step.act }
