-- The table of scripts: forms with values are events, and each line says one event or has a fault.
use Rattle.std.proofs.Common.{◌≡◌, ℕ, ◌≤◌, arith, List, [], ◌∷◌, length, take, refl, sym, ap, ◌∙◌}
use Rattle.std.proofs.Common.{Some, None, true}
use Rattle.std.specs.Prelude.{find, nat_eq, ◌&&◌, unwrap_or}
use Rattle.std.specs.Str.{bytes_eq}
use Rattle.plain_text.specs.Grammar.{Row}
use Rattle.plain_text.specs.LineFiles.{IsDecisive}
use Rattle.recovery_world.specs.declared.event.Event.{Event}
use Rattle.recovery_world.specs.declared.event.Event.TheVariants as event
use Rattle.plain_text.specs.declared.kind.Kind.{Kind as EventKind}
use Rattle.line_tables.specs.Parts.{AreValues}
use Rattle.line_tables.specs.Tables.{IsTable, row_of}
use Rattle.line_tables.proofs.OneLine.{is_decisive}
use Rattle.line_tables.proofs.ReadBack.{kind_made}
use Rattle.script_text.specs.declared.form.Form.{Form}
use Rattle.script_text.specs.declared.form.Form.TheVariants.{Feed, Time, Step, Answered, Log, Out, Late, Cut, Snap}
use Rattle.script_text.specs.declared.form.Form.TheVariants.{Store, Crash, Recover, Show, Settle, Flow, Auto}
use Rattle.script_text.specs.Table.{forms, parts_of, word_of}
use Rattle.script_text.specs.Values.{event_from}
use Rattle.script_text.specs.Scripts.{form_of, values_of, script_form, script_table, weight}

few : (form : Form) → length (parts_of form) ≤ 4
few Feed = omega arith
few Time = omega arith
few Step = omega arith
few Answered = omega arith
few Log = omega arith
few Out = omega arith
few Late = omega arith
few Cut = omega arith
few Snap = omega arith
few Store = omega arith
few Crash = omega arith
few Recover = omega arith
few Show = omega arith
few Settle = omega arith
few Flow = omega arith
few Auto = omega arith

-- The values that make an event

abbrev Makes : Form → List ℕ → Type 0
Makes form values = (form_of (event_from form values) ≡ form) × (values_of (event_from form values) ≡ values)

makes : (form : Form) (values : List ℕ) → AreValues (parts_of form) values → Makes form values
makes Feed [] f = absurd f
makes Feed (a ∷ []) f = (refl, refl)
makes Feed (a ∷ b ∷ values) f = absurd f.1
makes Time [] f = absurd f
makes Time (a ∷ []) f = (refl, refl)
makes Time (a ∷ b ∷ values) f = absurd f.1
makes Step [] f = absurd f
makes Step (a ∷ []) f = (refl, refl)
makes Step (a ∷ b ∷ values) f = absurd f.1
makes Answered [] f = absurd f
makes Answered (a ∷ []) f = absurd f.1
makes Answered (a ∷ b ∷ []) f = absurd f.1.1
makes Answered (a ∷ b ∷ c ∷ []) f = (refl, ap (λ (n : ℕ). a ∷ n ∷ c ∷ []) (sym f.1.0))
makes Answered (a ∷ b ∷ c ∷ d ∷ values) f = absurd f.1.1.1
makes Log [] f = absurd f
makes Log (a ∷ []) f = absurd f.1
makes Log (a ∷ b ∷ []) f = (refl, refl)
makes Log (a ∷ b ∷ c ∷ values) f = absurd f.1.1
makes Out [] f = absurd f
makes Out (a ∷ []) f = absurd f.1
makes Out (a ∷ b ∷ []) f = (refl, refl)
makes Out (a ∷ b ∷ c ∷ values) f = absurd f.1.1
makes Late [] f = absurd f
makes Late (a ∷ []) f = absurd f.1
makes Late (a ∷ b ∷ []) f = absurd f.1.1
makes Late (a ∷ b ∷ c ∷ []) f = absurd f.1.1.1
makes Late (a ∷ b ∷ c ∷ d ∷ []) f = (refl, ap (λ (n : ℕ). a ∷ n ∷ c ∷ d ∷ []) f.1.0)
makes Late (a ∷ b ∷ c ∷ d ∷ e ∷ values) f = absurd f.1.1.1.1
makes Cut [] f = absurd f
makes Cut (a ∷ []) f = absurd f.1
makes Cut (a ∷ b ∷ []) f = absurd f.1.1
makes Cut (a ∷ b ∷ c ∷ []) f = absurd f.1.1.1
makes Cut (a ∷ b ∷ c ∷ d ∷ []) f = (refl, ap (λ (n : ℕ). n ∷ b ∷ c ∷ d ∷ []) f.0)
makes Cut (a ∷ b ∷ c ∷ d ∷ e ∷ values) f = absurd f.1.1.1.1
makes Snap [] f = (refl, refl)
makes Snap (a ∷ values) f = absurd f
makes Store [] f = (refl, refl)
makes Store (a ∷ values) f = absurd f
makes Crash [] f = (refl, refl)
makes Crash (a ∷ values) f = absurd f
makes Recover [] f = (refl, refl)
makes Recover (a ∷ values) f = absurd f
makes Show [] f = absurd f
makes Show (a ∷ []) f = (refl, refl)
makes Show (a ∷ b ∷ values) f = absurd f.1
makes Settle [] f = (refl, refl)
makes Settle (a ∷ values) f = absurd f
makes Flow [] f = absurd f
makes Flow (a ∷ []) f = (refl, refl)
makes Flow (a ∷ b ∷ values) f = absurd f.1
makes Auto [] f = absurd f
makes Auto (a ∷ []) f = absurd f.1
makes Auto (a ∷ b ∷ []) f = (refl, refl)
makes Auto (a ∷ b ∷ c ∷ values) f = absurd f.1.1

-- the values behind those of the form are not looked at
front_alone : (form : Form) (a b c d : ℕ)
    → event_from form (take (length (parts_of form)) (a ∷ b ∷ c ∷ d ∷ [])) ≡ event_from form (a ∷ b ∷ c ∷ d ∷ [])
front_alone Feed a b c d = refl
front_alone Time a b c d = refl
front_alone Step a b c d = refl
front_alone Answered a b c d = refl
front_alone Log a b c d = refl
front_alone Out a b c d = refl
front_alone Late a b c d = refl
front_alone Cut a b c d = refl
front_alone Snap a b c d = refl
front_alone Store a b c d = refl
front_alone Crash a b c d = refl
front_alone Recover a b c d = refl
front_alone Show a b c d = refl
front_alone Settle a b c d = refl
front_alone Flow a b c d = refl
front_alone Auto a b c d = refl

-- Forms by their rows, and events by their forms and values

-- the form of a row
abbrev form_of_row : Row → Form
form_of_row row = unwrap_or (find
    (λ form. bytes_eq row.word (word_of form) && nat_eq (length row.places) (length (parts_of form))) (forms true)) Feed

row_back : (form : Form) → form_of_row (row_of script_table form) ≡ form
row_back Feed = refl
row_back Time = refl
row_back Step = refl
row_back Answered = refl
row_back Log = refl
row_back Out = refl
row_back Late = refl
row_back Cut = refl
row_back Snap = refl
row_back Store = refl
row_back Crash = refl
row_back Recover = refl
row_back Show = refl
row_back Settle = refl
row_back Flow = refl
row_back Auto = refl

rows_apart : (a b : Form) → row_of script_table a ≡ row_of script_table b → a ≡ b
rows_apart a b e = sym (row_back a) ∙ ap form_of_row e ∙ row_back b

event_back : (ev : Event) → event_from (form_of ev) (values_of ev) ≡ ev
event_back (event.Feed n) = refl
event_back (event.Time n) = refl
event_back (event.Step t None) = refl
event_back (event.Step t (Some answer)) = refl
event_back (event.Log t n) = refl
event_back (event.Out t j) = refl
event_back (event.Late e k t n) = ap (λ (x : EventKind). event.Late e x t n) (kind_made k)
event_back (event.Cut k t n len) = ap (λ (x : EventKind). event.Cut x t n len) (kind_made k)
event_back event.Snap = refl
event_back event.Store = refl
event_back event.Crash = refl
event_back event.Recover = refl
event_back (event.Show v) = refl
event_back event.Settle = refl
event_back (event.Flow n) = refl
event_back (event.Auto seed n) = refl

-- The laws

pub events_are_a_table : IsTable script_table
events_are_a_table = record {
  few = few;
  form_back = λ form values are. (makes form values are).0;
  values_back = λ form values are. (makes form values are).1;
  thing_back = event_back;
  front_alone = front_alone;
  rows_apart = rows_apart;
}

-- each line says one event or has a fault
pub events_are_decisive : IsDecisive script_form
events_are_decisive = is_decisive script_table events_are_a_table weight
