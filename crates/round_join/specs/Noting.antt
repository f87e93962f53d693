-- The moves of a round, noted one after another; the newest stands first.
use Rattle.std.specs.Prelude.{◌≡◌, ℕ, List, [], ◌∷◌, ◌++◌}
use Rattle.plain_machine.specs.History.{Step}
use Rattle.recovery_world.specs.World.{Setting, World}
use Rattle.recovery_world.specs.declared.event.Event.{Event}
use Rattle.recovery_world.specs.declared.event.Event.TheVariants as event
use Rattle.master_core.specs.Stepping.{Shows}
use Rattle.recovery_laws.specs.Making.{CanMake, after_made}
use Rattle.thread_steps.specs.Stepping.{CanSend}
use Rattle.round_join.specs.declared.noting.Made.{Made}

abbrev pub CanSendAll : ℕ → ℕ → List Made → Type 0
CanSendAll epoch threads [] = Unit {0}
CanSendAll epoch threads (m ∷ earlier) = CanSend epoch threads m.stepped × CanSendAll epoch threads earlier

-- the events that they are
abbrev pub events_made : List Made → List Event
events_made [] = []
events_made (m ∷ earlier) = events_made earlier ++ event.Step m.thread m.answer ∷ []

-- the step is made in this world, and the move shows it
pub record IsMadeAt {V : Type 0} (s : Setting V) (w : World V) (m : Made) (step : Step V) : Type 0 where
  pub can : CanMake s w m.thread m.answer step
  pub shows : Shows w.past m.stepped step

-- each is made in the world after the earlier ones, and the last leads to this world
abbrev pub Pending : {V : Type 0} → Setting V → World V → List Made → World V → Type 0
Pending s w [] new = new ≡ w
Pending {V} s w (m ∷ earlier) new =
    (mid : World V) × (step : Step V) × IsMadeAt s mid m step × (new ≡ after_made mid step) × Pending s w earlier mid
