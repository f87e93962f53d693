-- The lines of plans, as a table: the first word of each form of line, and what stands at the places after it.
use Rattle.std.specs.Prelude.{ℕ, List, [], ◌∷◌, codes}
use Rattle.line_tables.specs.declared.part.Part.{Part}
use Rattle.line_tables.specs.declared.part.Part.TheVariants.{Number, Kind}
use Rattle.plan_text.specs.declared.form.Form.{Form}
use Rattle.plan_text.specs.declared.form.Form.TheVariants.{Feed, Limit, Take, Lose, Round, Snap, Store, Crash, Recover}
use Rattle.plan_text.specs.declared.form.Form.TheVariants.{Settle, Show}

abbrev pub word_of : Form → List ℕ
word_of Feed = codes "feed"
word_of Limit = codes "limit"
word_of Take = codes "take"
word_of Lose = codes "lose"
word_of Round = codes "round"
word_of Snap = codes "snap"
word_of Store = codes "store"
word_of Crash = codes "crash"
word_of Recover = codes "recover"
word_of Show = codes "show"
word_of Settle = codes "settle"

abbrev pub parts_of : Form → List Part
parts_of Feed = Number ∷ []
parts_of Limit = Number ∷ Number ∷ []
parts_of Take = Number ∷ Number ∷ []
parts_of Lose = Kind ∷ Number ∷ Number ∷ []
parts_of Round = []
parts_of Snap = []
parts_of Store = []
parts_of Crash = []
parts_of Recover = []
parts_of Show = Number ∷ []
parts_of Settle = []

abbrev pub forms : List Form
forms = Feed ∷ Limit ∷ Take ∷ Lose ∷ Round ∷ Snap ∷ Store ∷ Crash ∷ Recover ∷ Show ∷ Settle ∷ []
