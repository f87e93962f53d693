-- The orders for a round, of at most 16 threads, as they stand in memory.
use Rattle.std.specs.Prelude.{◌≡◌, ◌⊎◌, ℕ, ◌<◌, List, [], ◌∷◌, Option, Some, None, slice_index_or}
use Rattle.recovery_world.specs.Many.{Message}
use Rattle.plan_script.specs.Orders.{Orders, AreLeft, first_ones}
use Rattle.plan_script.specs.Rounds.{of_thread}

-- What is seen of them: by thread how many moves it makes at most, and how many of its frames are taken; and the frames
-- that are lost, newest first.
pub record InMemory : Type 0 where
  pub most_moves : List (Option ℕ)
  pub most_frames : List (Option ℕ)
  pub lost_frames : List Message

-- the orders that they are
abbrev pub orders_of : InMemory → Orders
orders_of o = record {
  moves = λ t. slice_index_or o.most_moves t None;
  frames = λ t. slice_index_or o.most_frames t None;
  lost = o.lost_frames;
}

-- one more frame of a thread is taken, of which so many came before
abbrev pub TakesOneMore : Option ℕ → ℕ → Type 0
TakesOneMore None before = Unit {0}
TakesOneMore (Some most) before = before < most

-- Of the frames that were sent these arrive: of each thread the first ones, as many as it is ordered, but those lost.
abbrev pub Arrive : Orders → List Message → List Message → Type 0
Arrive orders sent arriving =
    (t : ℕ) → AreLeft orders.lost (first_ones (orders.frames t) (of_thread t sent)) (of_thread t arriving)

-- Some of the frames, in their order.
abbrev pub AreSome : List Message → List Message → Type 0
AreSome [] some = some ≡ []
AreSome (f ∷ frames) some =
    AreSome frames some ⊎ ((rest : List Message) × (some ≡ f ∷ rest) × AreSome frames rest)
