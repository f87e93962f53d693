-- The lines of scripts, as a table: the first word of each form of line, and what stands at the places after it.
use Rattle.std.specs.Prelude.{ℕ, Bool, true, false, List, [], ◌∷◌, codes}
use Rattle.line_tables.specs.declared.part.Part.{Part}
use Rattle.line_tables.specs.declared.part.Part.TheVariants.{Number, Equals, Kind}
use Rattle.script_text.specs.declared.form.Form.{Form}
use Rattle.script_text.specs.declared.form.Form.TheVariants.{Feed, Time, Step, Answered, Log, Out, Late, Cut, Snap}
use Rattle.script_text.specs.declared.form.Form.TheVariants.{Store, Crash, Recover, Show, Settle, Flow, Auto}

abbrev pub word_of : Form → List ℕ
word_of Feed = codes "feed"
word_of Time = codes "time"
word_of Step = codes "step"
word_of Answered = codes "step"
word_of Log = codes "log"
word_of Out = codes "out"
word_of Late = codes "late"
word_of Cut = codes "cut"
word_of Snap = codes "snap"
word_of Store = codes "store"
word_of Crash = codes "crash"
word_of Recover = codes "recover"
word_of Show = codes "show"
word_of Settle = codes "settle"
word_of Flow = codes "flow"
word_of Auto = codes "auto"

abbrev pub parts_of : Form → List Part
parts_of Feed = Number ∷ []
parts_of Time = Number ∷ []
parts_of Step = Number ∷ []
parts_of Answered = Number ∷ Equals ∷ Number ∷ []
parts_of Log = Number ∷ Number ∷ []
parts_of Out = Number ∷ Number ∷ []
parts_of Late = Number ∷ Kind ∷ Number ∷ Number ∷ []
parts_of Cut = Kind ∷ Number ∷ Number ∷ Number ∷ []
parts_of Snap = []
parts_of Store = []
parts_of Crash = []
parts_of Recover = []
parts_of Show = Number ∷ []
parts_of Settle = []
parts_of Flow = Number ∷ []
parts_of Auto = Number ∷ Number ∷ []

-- The forms that a line may have. A line `step` with a third word gives an answer, and one without does not; so the
-- forms are those of lines with a third word, or of lines without.

abbrev pub short_forms : List Form
short_forms =
    Step ∷ Feed ∷ Time ∷ Log ∷ Out ∷ Late ∷ Cut ∷ Snap ∷ Store ∷ Crash ∷ Recover ∷ Show ∷ Settle ∷ Flow ∷ Auto ∷ []

abbrev pub forms : Bool → List Form
forms false = short_forms
forms true = Answered ∷ short_forms
