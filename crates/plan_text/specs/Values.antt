-- What the values of a line make, and which values make it.
use Rattle.std.specs.Prelude.{ℕ, List, [], ◌∷◌, slice_index}
use Rattle.line_tables.specs.Parts.{kind_from, kind_value}
use Rattle.plan_script.specs.declared.plan.PlanLine.{PlanLine}
use Rattle.plan_script.specs.declared.plan.PlanLine.TheVariants as line
use Rattle.plan_text.specs.declared.form.Form.{Form}
use Rattle.plan_text.specs.declared.form.Form.TheVariants as form

-- what a line of this form says with these values
abbrev pub line_from : Form → List ℕ → PlanLine
line_from form.Feed values = line.Feed (slice_index values 0)
line_from form.Limit values = line.Limit (slice_index values 0) (slice_index values 1)
line_from form.Take values = line.Take (slice_index values 0) (slice_index values 1)
line_from form.Lose values =
    line.Lose (kind_from (slice_index values 0)) (slice_index values 1) (slice_index values 2)
line_from form.Round values = line.Round
line_from form.Snap values = line.Snap
line_from form.Store values = line.Store
line_from form.Crash values = line.Crash
line_from form.Recover values = line.Recover
line_from form.Show values = line.Show (slice_index values 0)
line_from form.Settle values = line.Settle

-- the form of the line that says this
abbrev pub form_of : PlanLine → Form
form_of (line.Feed n) = form.Feed
form_of (line.Limit t n) = form.Limit
form_of (line.Take t n) = form.Take
form_of (line.Lose k t n) = form.Lose
form_of line.Round = form.Round
form_of line.Snap = form.Snap
form_of line.Store = form.Store
form_of line.Crash = form.Crash
form_of line.Recover = form.Recover
form_of (line.Show v) = form.Show
form_of line.Settle = form.Settle

-- the values at the places of that line
abbrev pub values_of : PlanLine → List ℕ
values_of (line.Feed n) = n ∷ []
values_of (line.Limit t n) = t ∷ n ∷ []
values_of (line.Take t n) = t ∷ n ∷ []
values_of (line.Lose k t n) = kind_value k ∷ t ∷ n ∷ []
values_of line.Round = []
values_of line.Snap = []
values_of line.Store = []
values_of line.Crash = []
values_of line.Recover = []
values_of (line.Show v) = v ∷ []
values_of line.Settle = []
