-- What the values of a line make, and which values make it.
use Rattle.std.specs.Prelude.{ℕ, ◌^◌, ◌&&◌, Bool, true, List, [], ◌∷◌, slice_index, nat_lt, Option, Some, None}
use Rattle.handover.specs.declared.form.Form.{Form}
use Rattle.handover.specs.declared.form.Form.TheVariants as form
use Rattle.handover.specs.declared.line.ImageLine.{ImageLine}
use Rattle.handover.specs.declared.line.ImageLine.TheVariants as line

-- a number of 32 bits
abbrev pub is_narrow : ℕ → Bool
is_narrow n = nat_lt n (2 ^ 32)

-- the values of a line of this form that have 32 bits have no more
abbrev pub are_narrow : Form → List ℕ → Bool
are_narrow form.Heading values = true
are_narrow form.State values = is_narrow (slice_index values 3)
are_narrow form.Ended values = is_narrow (slice_index values 0) && is_narrow (slice_index values 1)
are_narrow form.Released values = is_narrow (slice_index values 0)
are_narrow form.Move values = is_narrow (slice_index values 0)
are_narrow form.Told values = is_narrow (slice_index values 0)

-- what a line of this form says with these values
abbrev pub line_from : Form → List ℕ → ImageLine
line_from form.Heading values = line.Heading
line_from form.State values =
    line.State (slice_index values 0) (slice_index values 1) (slice_index values 2) (slice_index values 3)
    (slice_index values 4) (slice_index values 5)
line_from form.Ended values =
    line.Ended (record {
      epoch = slice_index values 0;
      thread = slice_index values 1;
      entries = slice_index values 2;
      outputs = slice_index values 3;
    })
line_from form.Released values = line.Released (slice_index values 0) (slice_index values 1)
line_from form.Move values = line.Move (record { thread = slice_index values 0; answer = None })
line_from form.Told values =
    line.Move (record { thread = slice_index values 0; answer = Some (slice_index values 2) })

abbrev pub move_form_of : Option ℕ → Form
move_form_of None = form.Move
move_form_of (Some answer) = form.Told

-- the form of the line that says this
abbrev pub form_of : ImageLine → Form
form_of line.Heading = form.Heading
form_of (line.State fed clock draws epoch moves bytes) = form.State
form_of (line.Ended ended) = form.Ended
form_of (line.Released thread number) = form.Released
form_of (line.Move plain) = move_form_of plain.answer

abbrev pub move_values : ℕ → Option ℕ → List ℕ
move_values thread None = thread ∷ []
move_values thread (Some answer) = thread ∷ 0 ∷ answer ∷ []

-- the values at the places of that line; a fixed word has the value 0
abbrev pub values_of : ImageLine → List ℕ
values_of line.Heading = 0 ∷ []
values_of (line.State fed clock draws epoch moves bytes) = fed ∷ clock ∷ draws ∷ epoch ∷ moves ∷ bytes ∷ []
values_of (line.Ended ended) = ended.epoch ∷ ended.thread ∷ ended.entries ∷ ended.outputs ∷ []
values_of (line.Released thread number) = thread ∷ number ∷ []
values_of (line.Move plain) = move_values plain.thread plain.answer
