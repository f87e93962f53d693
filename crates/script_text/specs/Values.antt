-- The event that the values of a line make.
use Rattle.std.specs.Prelude.{ℕ, List, slice_index, Some, None}
use Rattle.recovery_world.specs.declared.event.Event.{Event}
use Rattle.recovery_world.specs.declared.event.Event.TheVariants as event
use Rattle.line_tables.specs.Parts.{kind_from}
use Rattle.script_text.specs.declared.form.Form.{Form}
use Rattle.script_text.specs.declared.form.Form.TheVariants as form

-- the event of a line of this form with these values
abbrev pub event_from : Form → List ℕ → Event
event_from form.Feed values = event.Feed (slice_index values 0)
event_from form.Time values = event.Time (slice_index values 0)
event_from form.Step values = event.Step (slice_index values 0) None
event_from form.Answered values = event.Step (slice_index values 0) (Some (slice_index values 2))
event_from form.Log values = event.Log (slice_index values 0) (slice_index values 1)
event_from form.Out values = event.Out (slice_index values 0) (slice_index values 1)
event_from form.Late values =
    event.Late (slice_index values 0) (kind_from (slice_index values 1)) (slice_index values 2) (slice_index values 3)
event_from form.Cut values =
    event.Cut (kind_from (slice_index values 0)) (slice_index values 1) (slice_index values 2) (slice_index values 3)
event_from form.Snap values = event.Snap
event_from form.Store values = event.Store
event_from form.Crash values = event.Crash
event_from form.Recover values = event.Recover
event_from form.Show values = event.Show (slice_index values 0)
event_from form.Settle values = event.Settle
event_from form.Flow values = event.Flow (slice_index values 0)
event_from form.Auto values = event.Auto (slice_index values 0) (slice_index values 1)
