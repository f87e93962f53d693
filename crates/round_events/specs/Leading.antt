-- The receipts of a round as events, one after another.
use Rattle.std.specs.Prelude.{ℕ, ◌+◌, ◌≤◌, List, [], ◌∷◌, length}
use Rattle.access_log.specs.Held.{Lane}
use Rattle.recovery_world.specs.World.{Setting, World, inputs_fed}
use Rattle.recovery_world.specs.Events.{bytes_sent}
use Rattle.recovery_laws.specs.Sound.{Sound}
use Rattle.replay_guide.specs.Worlds.{Guides}
use Rattle.plain_machine.specs.History.{log_of}
use Rattle.round_order.specs.Receipts.{Receipt, Receipts, after}
use Rattle.round_order.specs.Linked.{IsLinked}
use Rattle.round_order.specs.Woven.{IsOrder}
use Rattle.round_events.specs.Guided.{KeepsTo}
use Rattle.recovery_laws.specs.Making.{CanMake}

-- each receipt keeps to what is followed
abbrev pub AllKeep : {V : Type 0} → List Lane → List (Receipt V) → Type 0
AllKeep guide [] = Unit {0}
AllKeep guide (r ∷ earlier) = KeepsTo guide r.stamp r.step.act × AllKeep guide earlier

-- how many bytes were sent out
abbrev pub bytes_in : {V : Type 0} → List (Receipt V) → ℕ
bytes_in [] = 0
bytes_in (r ∷ earlier) = bytes_in earlier + bytes_sent r.step.act

-- the world after them
abbrev pub world_after : {V : Type 0} → World V → List (Receipt V) → World V
world_after w order =
    record w { past = after order w.past; moves = w.moves + length order; bytes = w.bytes + bytes_in order }

-- The receipts, newest first, are what the events of their threads with their answers make, one after another.
abbrev pub AreMade : {V : Type 0} → Setting V → World V → List (Receipt V) → Type 0
AreMade s w [] = Unit {0}
AreMade s w (r ∷ earlier) =
    CanMake s (world_after w earlier) r.step.thread r.answer r.step
    × Sound s (world_after w earlier)
    × AreMade s w earlier

-- In a sound world, linked receipts that keep to what is followed are, in each order in which the logged ones rise in
-- weight, what their events make; and the world after them is sound.
abbrev pub ReceiptsAreEvents : Type 0 → Type 0
ReceiptsAreEvents X =
    (s : Setting X) (w : World X) (guide : List Lane) (rs : Receipts X) (order : List (Receipt X)) → s.threads ≤ 16
    → Sound s w → Guides w.followed (log_of w.past) guide → IsLinked s.meaning (inputs_fed s w.fed) s.threads w.past rs
    → IsOrder rs order → AllKeep guide order → AreMade s w order × Sound s (world_after w order)
