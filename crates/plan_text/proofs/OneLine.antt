-- The table of plans: forms with values are lines, and each line says one thing or has a fault.
use Rattle.std.proofs.Common.{◌≡◌, ℕ, ◌≤◌, arith, List, [], ◌∷◌, length, take, refl, sym, ap, ◌∙◌}
use Rattle.std.specs.Prelude.{find, unwrap_or}
use Rattle.std.specs.Str.{bytes_eq}
use Rattle.plain_text.specs.declared.kind.Kind.{Kind}
use Rattle.plain_text.specs.Grammar.{Row}
use Rattle.plain_text.specs.LineFiles.{IsDecisive}
use Rattle.line_tables.specs.Parts.{AreValues}
use Rattle.line_tables.specs.Tables.{IsTable, row_of}
use Rattle.line_tables.proofs.OneLine.{is_decisive}
use Rattle.line_tables.proofs.ReadBack.{kind_made}
use Rattle.plan_script.specs.declared.plan.PlanLine.{PlanLine}
use Rattle.plan_script.specs.declared.plan.PlanLine.TheVariants as line
use Rattle.plan_text.specs.declared.form.Form.{Form}
use Rattle.plan_text.specs.declared.form.Form.TheVariants.{Feed, Limit, Take, Lose, Round, Snap, Store, Crash, Recover}
use Rattle.plan_text.specs.declared.form.Form.TheVariants.{Settle, Show}
use Rattle.plan_text.specs.Table.{forms, parts_of, word_of}
use Rattle.plan_text.specs.Values.{form_of, line_from, values_of}
use Rattle.plan_text.specs.Plans.{plan_form, plan_table}

few : (form : Form) → length (parts_of form) ≤ 4
few Feed = omega arith
few Limit = omega arith
few Take = omega arith
few Lose = omega arith
few Round = omega arith
few Snap = omega arith
few Store = omega arith
few Crash = omega arith
few Recover = omega arith
few Show = omega arith
few Settle = omega arith

-- The values that make a line

abbrev Makes : Form → List ℕ → Type 0
Makes form values = (form_of (line_from form values) ≡ form) × (values_of (line_from form values) ≡ values)

makes : (form : Form) (values : List ℕ) → AreValues (parts_of form) values → Makes form values
makes Feed [] f = absurd f
makes Feed (a ∷ []) f = (refl, refl)
makes Feed (a ∷ b ∷ values) f = absurd f.1
makes Limit [] f = absurd f
makes Limit (a ∷ []) f = absurd f.1
makes Limit (a ∷ b ∷ []) f = (refl, refl)
makes Limit (a ∷ b ∷ c ∷ values) f = absurd f.1.1
makes Take [] f = absurd f
makes Take (a ∷ []) f = absurd f.1
makes Take (a ∷ b ∷ []) f = (refl, refl)
makes Take (a ∷ b ∷ c ∷ values) f = absurd f.1.1
makes Lose [] f = absurd f
makes Lose (a ∷ []) f = absurd f.1
makes Lose (a ∷ b ∷ []) f = absurd f.1.1
makes Lose (a ∷ b ∷ c ∷ []) f = (refl, ap (λ (n : ℕ). n ∷ b ∷ c ∷ []) f.0)
makes Lose (a ∷ b ∷ c ∷ d ∷ values) f = absurd f.1.1.1
makes Round [] f = (refl, refl)
makes Round (a ∷ values) f = absurd f
makes Snap [] f = (refl, refl)
makes Snap (a ∷ values) f = absurd f
makes Store [] f = (refl, refl)
makes Store (a ∷ values) f = absurd f
makes Crash [] f = (refl, refl)
makes Crash (a ∷ values) f = absurd f
makes Recover [] f = (refl, refl)
makes Recover (a ∷ values) f = absurd f
makes Show [] f = absurd f
makes Show (a ∷ []) f = (refl, refl)
makes Show (a ∷ b ∷ values) f = absurd f.1
makes Settle [] f = (refl, refl)
makes Settle (a ∷ values) f = absurd f

-- the values behind those of the form are not looked at
front_alone : (form : Form) (a b c d : ℕ)
    → line_from form (take (length (parts_of form)) (a ∷ b ∷ c ∷ d ∷ [])) ≡ line_from form (a ∷ b ∷ c ∷ d ∷ [])
front_alone Feed a b c d = refl
front_alone Limit a b c d = refl
front_alone Take a b c d = refl
front_alone Lose a b c d = refl
front_alone Round a b c d = refl
front_alone Snap a b c d = refl
front_alone Store a b c d = refl
front_alone Crash a b c d = refl
front_alone Recover a b c d = refl
front_alone Show a b c d = refl
front_alone Settle a b c d = refl

-- Forms by their rows, and lines by their forms and values

-- no two forms have one word
abbrev form_of_row : Row → Form
form_of_row row = unwrap_or (find (λ form. bytes_eq row.word (word_of form)) forms) Feed

row_back : (form : Form) → form_of_row (row_of plan_table form) ≡ form
row_back Feed = refl
row_back Limit = refl
row_back Take = refl
row_back Lose = refl
row_back Round = refl
row_back Snap = refl
row_back Store = refl
row_back Crash = refl
row_back Recover = refl
row_back Show = refl
row_back Settle = refl

rows_apart : (a b : Form) → row_of plan_table a ≡ row_of plan_table b → a ≡ b
rows_apart a b e = sym (row_back a) ∙ ap form_of_row e ∙ row_back b

line_back : (ln : PlanLine) → line_from (form_of ln) (values_of ln) ≡ ln
line_back (line.Feed n) = refl
line_back (line.Limit t n) = refl
line_back (line.Take t n) = refl
line_back (line.Lose k t n) = ap (λ (x : Kind). line.Lose x t n) (kind_made k)
line_back line.Round = refl
line_back line.Snap = refl
line_back line.Store = refl
line_back line.Crash = refl
line_back line.Recover = refl
line_back (line.Show v) = refl
line_back line.Settle = refl

-- The laws

pub lines_are_a_table : IsTable plan_table
lines_are_a_table = record {
  few = few;
  form_back = λ form values are. (makes form values are).0;
  values_back = λ form values are. (makes form values are).1;
  thing_back = line_back;
  front_alone = front_alone;
  rows_apart = rows_apart;
}

-- each line says one thing or has a fault
pub lines_are_decisive : IsDecisive plan_form
lines_are_decisive = is_decisive plan_table lines_are_a_table (λ ln. 1)
