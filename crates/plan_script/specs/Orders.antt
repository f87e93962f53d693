-- The orders of a plan, which hold for the next round.
use Rattle.std.specs.Prelude.{◌≡◌, ◌⊎◌, ℕ, List, [], ◌∷◌, Option, Some, None, cond, nat_eq, take}
use Rattle.recovery_world.specs.Many.{Message}
use Rattle.plan_script.specs.declared.plan.PlanLine.{PlanLine}
use Rattle.plan_script.specs.declared.plan.PlanLine.TheVariants as line

-- of each thread how many moves it makes at most, and how many of its frames are taken; and the frames that are lost
pub record Orders : Type 0 where
  pub moves : ℕ → Option ℕ
  pub frames : ℕ → Option ℕ
  pub lost : List Message

abbrev pub no_orders : Orders
no_orders = record { moves = λ t. None; frames = λ t. None; lost = [] }

-- the last order for a thread holds
abbrev pub but : ℕ → ℕ → (ℕ → Option ℕ) → ℕ → Option ℕ
but t n of u = cond (nat_eq u t) (Some n) (of u)

-- the orders behind a line: a round has used them up, whether threads raced in it or not
abbrev pub orders_after : PlanLine → Orders → Orders
orders_after (line.Feed n) o = o
orders_after (line.Limit t n) o = record o { moves = but t n o.moves }
orders_after (line.Take t n) o = record o { frames = but t n o.frames }
orders_after (line.Lose k t n) o = record o { lost = (record { kind = k; thread = t; number = n }) ∷ o.lost }
orders_after line.Round o = no_orders
orders_after line.Snap o = o
orders_after line.Store o = o
orders_after line.Crash o = o
orders_after line.Recover o = o
orders_after (line.Show v) o = o
orders_after line.Settle o = no_orders

-- the first ones, as many as an order says
abbrev pub first_ones : {A : Type 0} → Option ℕ → List A → List A
first_ones None xs = xs
first_ones (Some n) xs = take n xs

abbrev pub IsLost : Message → List Message → Type 0
IsLost f [] = ⊥
IsLost f (x ∷ lost) = (x ≡ f) ⊎ IsLost f lost

-- those that are not lost, in order
abbrev pub AreLeft : List Message → List Message → List Message → Type 0
AreLeft lost [] left = left ≡ []
AreLeft lost (f ∷ frames) left =
    (IsLost f lost × AreLeft lost frames left)
    ⊎ ((IsLost f lost → ⊥) × (rest : List Message) × (left ≡ f ∷ rest) × AreLeft lost frames rest)
