-- The events that words choose, from lists of counts.
use Rattle.std.specs.Prelude.{ℕ, ◌-◌, List, length, slice_index, max}
use Rattle.recovery_world.specs.declared.event.Event.{Event}
use Rattle.recovery_world.specs.Many.{auto_event}

-- the event that two words choose, where the lists have the numbers of entries and of outputs of each thread
abbrev pub chosen_event : ℕ → ℕ → List ℕ → List ℕ → Event
chosen_event a b entries outputs =
    auto_event (length entries) (λ t. slice_index entries t) (λ t. slice_index outputs t) a b

-- the number this far before the last of those up to a count, and at least 1
abbrev pub number_before : ℕ → ℕ → ℕ
number_before count back = max 1 (count - back)
