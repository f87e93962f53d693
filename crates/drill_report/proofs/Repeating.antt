-- One round more.
use Rattle.std.proofs.Common.{◌≡◌, ℕ, zero, suc, ◌+◌, List, ◌++◌, sym, ap, ◌∙◌, append-nil, append_assoc, add-one}
use Rattle.recovery_world.specs.declared.event.Event.{Event}
use Rattle.drill_report.specs.Events.{repeated}

pub repeated_more : (n : ℕ) (events : List Event) → repeated (suc n) events ≡ repeated n events ++ events
repeated_more zero events = append-nil events
repeated_more (suc n) events =
    ap (λ l. events ++ l) (repeated_more n events) ∙ sym (append_assoc events (repeated n events) events)

pub repeated_next : (n : ℕ) (events : List Event) → repeated (n + 1) events ≡ repeated n events ++ events
repeated_next n events = rw add-one (repeated_more n events)
