-- What was written is read back: a text of the lines of a plan is this plan.
use Rattle.std.proofs.Common.{◌≡◌, ℕ, suc, List, ◌∷◌, length, refl, Some, true}
use Rattle.std.specs.Prelude.{codes, nat_lt}
use Rattle.plain_text.specs.Lines.{words_count}
use Rattle.plain_text.specs.declared.kind.Kind.TheVariants as kind
use Rattle.plain_text.proofs.WrittenFiles as files
use Rattle.plain_text.proofs.WrittenWords.{spaced, IsWord, above_test}
use Rattle.line_tables.specs.Parts.{AreNumbers}
use Rattle.line_tables.specs.Tables.{form_named}
use Rattle.line_tables.proofs.ReadBack.{AreSpelled, IsWritten, kind_small, line_words, spells}
use Rattle.plan_script.specs.declared.plan.PlanLine.{PlanLine}
use Rattle.plan_script.specs.declared.plan.PlanLine.TheVariants as line
use Rattle.plan_text.specs.declared.form.Form.{Form}
use Rattle.plan_text.specs.declared.form.Form.TheVariants.{Feed, Limit, Take, Lose, Round, Snap, Store, Crash, Recover}
use Rattle.plan_text.specs.declared.form.Form.TheVariants.{Settle, Show}
use Rattle.plan_text.specs.Table.{parts_of, word_of}
use Rattle.plan_text.specs.Values.{form_of, values_of}
use Rattle.plan_text.specs.Plans.{IsPlan, FitsWords, FitWords, plan_form, plan_table, plan_text, plan_words}
use Rattle.plan_text.proofs.OneLine.{lines_are_a_table}

-- The values of a line can be written

line_spelled : (ln : PlanLine) → AreNumbers (values_of ln) → AreSpelled (parts_of (form_of ln)) (values_of ln)
line_spelled (line.Feed n) f = f
line_spelled (line.Limit t n) f = f
line_spelled (line.Take t n) f = f
line_spelled (line.Lose k t n) f = (kind_small k, f.1)
line_spelled line.Round f = f
line_spelled line.Snap f = f
line_spelled line.Store f = f
line_spelled line.Crash f = f
line_spelled line.Recover f = f
line_spelled (line.Show v) f = f
line_spelled line.Settle f = f

-- The first words of the forms

form_word : (form : Form) → IsWord (word_of form)
form_word Feed = (refl, above_test 32 (codes "feed") refl)
form_word Limit = (refl, above_test 32 (codes "limit") refl)
form_word Take = (refl, above_test 32 (codes "take") refl)
form_word Lose = (refl, above_test 32 (codes "lose") refl)
form_word Round = (refl, above_test 32 (codes "round") refl)
form_word Snap = (refl, above_test 32 (codes "snap") refl)
form_word Store = (refl, above_test 32 (codes "store") refl)
form_word Crash = (refl, above_test 32 (codes "crash") refl)
form_word Recover = (refl, above_test 32 (codes "recover") refl)
form_word Show = (refl, above_test 32 (codes "show") refl)
form_word Settle = (refl, above_test 32 (codes "settle") refl)

form_named_back : (form : Form)
    → form_named plan_table (nat_lt 2 (suc (length (parts_of form)))) (word_of form) ≡ Some form
form_named_back Feed = refl
form_named_back Limit = refl
form_named_back Take = refl
form_named_back Lose = refl
form_named_back Round = refl
form_named_back Snap = refl
form_named_back Store = refl
form_named_back Crash = refl
form_named_back Recover = refl
form_named_back Show = refl
form_named_back Settle = refl

form_counts : (form : Form) (words : List (List ℕ)) → words_count (word_of form ∷ words) ≡ true
form_counts Feed words = refl
form_counts Limit words = refl
form_counts Take words = refl
form_counts Lose words = refl
form_counts Round words = refl
form_counts Snap words = refl
form_counts Store words = refl
form_counts Crash words = refl
form_counts Recover words = refl
form_counts Show words = refl
form_counts Settle words = refl

-- The words of a line are what is written

written_words : (ln : PlanLine) → plan_words ln ≡ spaced (line_words plan_table ln)
written_words (line.Feed n) = refl
written_words (line.Limit t n) = refl
written_words (line.Take t n) = refl
written_words (line.Lose kind.Log t n) = refl
written_words (line.Lose kind.Out t n) = refl
written_words line.Round = refl
written_words line.Snap = refl
written_words line.Store = refl
written_words line.Crash = refl
written_words line.Recover = refl
written_words (line.Show v) = refl
written_words line.Settle = refl

lines_are_written : IsWritten plan_table plan_words
lines_are_written = record {
  form_word = form_word;
  counts = form_counts;
  named = form_named_back;
  spelled = line_spelled;
  written = written_words;
}

line_spells : (ln : PlanLine) → FitsWords ln → files.IsSpelled plan_form (plan_words ln) ln
line_spells ln fits = spells plan_table lines_are_a_table plan_words lines_are_written (λ (x : PlanLine). 1) ln fits

pub read_back : (lines : List PlanLine) → FitWords lines → IsPlan (plan_text lines) lines
read_back lines fit = files.read_back plan_form plan_words FitsWords line_spells lines fit
