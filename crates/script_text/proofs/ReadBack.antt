-- What was written is read back: a text of the lines of events is their script.
use Rattle.std.proofs.Common.{◌≡◌, ℕ, suc, List, [], ◌∷◌, ◌++◌, length, refl, ap, Some, None, true, append_assoc}
use Rattle.std.specs.Prelude.{codes, decimal, nat_lt}
use Rattle.std.proofs.lemmas.List.{append-nil}
use Rattle.plain_text.specs.Lines.{words_count}
use Rattle.plain_text.proofs.WrittenFiles as files
use Rattle.plain_text.proofs.WrittenWords.{spaced, IsWord, above_test}
use Rattle.recovery_world.specs.declared.event.Event.{Event}
use Rattle.recovery_world.specs.declared.event.Event.TheVariants as event
use Rattle.plain_text.specs.declared.kind.Kind.TheVariants as kind
use Rattle.recovery_world.specs.Files.{event_words}
use Rattle.line_tables.specs.Parts.{AreNumbers}
use Rattle.line_tables.specs.Tables.{form_named}
use Rattle.line_tables.proofs.ReadBack.{AreSpelled, IsWritten, kind_small, line_words, spells}
use Rattle.script_text.specs.declared.form.Form.{Form}
use Rattle.script_text.specs.declared.form.Form.TheVariants.{Feed, Time, Step, Answered, Log, Out, Late, Cut, Snap}
use Rattle.script_text.specs.declared.form.Form.TheVariants.{Store, Crash, Recover, Show, Settle, Flow, Auto}
use Rattle.script_text.specs.Table.{parts_of, word_of}
use Rattle.script_text.specs.Scripts.{form_of, values_of, IsScript, FitsWords, FitWords, script_form, script_table}
use Rattle.script_text.specs.Scripts.{script_text, weight}
use Rattle.script_text.proofs.OneLine.{events_are_a_table}

-- The values of an event can be written

event_spelled : (ev : Event) → AreNumbers (values_of ev) → AreSpelled (parts_of (form_of ev)) (values_of ev)
event_spelled (event.Feed n) f = f
event_spelled (event.Time n) f = f
event_spelled (event.Step t None) f = f
event_spelled (event.Step t (Some answer)) f = (f.0, (refl, f.1.1))
event_spelled (event.Log t n) f = f
event_spelled (event.Out t j) f = f
event_spelled (event.Late e k t n) f = (f.0, (kind_small k, f.1.1))
event_spelled (event.Cut k t n len) f = (kind_small k, f.1)
event_spelled event.Snap f = f
event_spelled event.Store f = f
event_spelled event.Crash f = f
event_spelled event.Recover f = f
event_spelled (event.Show v) f = f
event_spelled event.Settle f = f
event_spelled (event.Flow n) f = f
event_spelled (event.Auto seed n) f = f

-- The first words of the forms

form_word : (form : Form) → IsWord (word_of form)
form_word Feed = (refl, above_test 32 (codes "feed") refl)
form_word Time = (refl, above_test 32 (codes "time") refl)
form_word Step = (refl, above_test 32 (codes "step") refl)
form_word Answered = (refl, above_test 32 (codes "step") refl)
form_word Log = (refl, above_test 32 (codes "log") refl)
form_word Out = (refl, above_test 32 (codes "out") refl)
form_word Late = (refl, above_test 32 (codes "late") refl)
form_word Cut = (refl, above_test 32 (codes "cut") refl)
form_word Snap = (refl, above_test 32 (codes "snap") refl)
form_word Store = (refl, above_test 32 (codes "store") refl)
form_word Crash = (refl, above_test 32 (codes "crash") refl)
form_word Recover = (refl, above_test 32 (codes "recover") refl)
form_word Show = (refl, above_test 32 (codes "show") refl)
form_word Settle = (refl, above_test 32 (codes "settle") refl)
form_word Flow = (refl, above_test 32 (codes "flow") refl)
form_word Auto = (refl, above_test 32 (codes "auto") refl)

form_named_back : (form : Form)
    → form_named script_table (nat_lt 2 (suc (length (parts_of form)))) (word_of form) ≡ Some form
form_named_back Feed = refl
form_named_back Time = refl
form_named_back Step = refl
form_named_back Answered = refl
form_named_back Log = refl
form_named_back Out = refl
form_named_back Late = refl
form_named_back Cut = refl
form_named_back Snap = refl
form_named_back Store = refl
form_named_back Crash = refl
form_named_back Recover = refl
form_named_back Show = refl
form_named_back Settle = refl
form_named_back Flow = refl
form_named_back Auto = refl

form_counts : (form : Form) (words : List (List ℕ)) → words_count (word_of form ∷ words) ≡ true
form_counts Feed words = refl
form_counts Time words = refl
form_counts Step words = refl
form_counts Answered words = refl
form_counts Log words = refl
form_counts Out words = refl
form_counts Late words = refl
form_counts Cut words = refl
form_counts Snap words = refl
form_counts Store words = refl
form_counts Crash words = refl
form_counts Recover words = refl
form_counts Show words = refl
form_counts Settle words = refl
form_counts Flow words = refl
form_counts Auto words = refl

-- The words of an event are what is written

written_words : (ev : Event) → event_words ev ≡ spaced (line_words script_table ev)
written_words (event.Feed n) = refl
written_words (event.Time n) = refl
written_words (event.Step t None) = ap (λ (l : List ℕ). codes "step " ++ l) (append-nil (decimal t))
written_words (event.Step t (Some answer)) = refl
written_words (event.Log t n) = refl
written_words (event.Out t j) = refl
written_words (event.Late e kind.Log t n) = ap (λ (l : List ℕ). codes "late " ++ l)
    (append_assoc (decimal e) (32 ∷ []) (codes "log " ++ (decimal t ++ 32 ∷ decimal n)))
written_words (event.Late e kind.Out t n) = ap (λ (l : List ℕ). codes "late " ++ l)
    (append_assoc (decimal e) (32 ∷ []) (codes "out " ++ (decimal t ++ 32 ∷ decimal n)))
written_words (event.Cut kind.Log t n len) =
    ap (λ (l : List ℕ). codes "cut log " ++ l) (append_assoc (decimal t) (32 ∷ decimal n) (32 ∷ decimal len))
written_words (event.Cut kind.Out t n len) =
    ap (λ (l : List ℕ). codes "cut out " ++ l) (append_assoc (decimal t) (32 ∷ decimal n) (32 ∷ decimal len))
written_words event.Snap = refl
written_words event.Store = refl
written_words event.Crash = refl
written_words event.Recover = refl
written_words (event.Show v) = refl
written_words event.Settle = refl
written_words (event.Flow n) = refl
written_words (event.Auto seed n) = refl

events_are_written : IsWritten script_table event_words
events_are_written = record {
  form_word = form_word;
  counts = form_counts;
  named = form_named_back;
  spelled = event_spelled;
  written = written_words;
}

event_spells : (ev : Event) → FitsWords ev → files.IsSpelled script_form (event_words ev) ev
event_spells ev fits = spells script_table events_are_a_table event_words events_are_written weight ev fits

pub read_back : (events : List Event) → FitWords events → IsScript (script_text events) events
read_back events fit = files.read_back script_form event_words FitsWords event_spells events fit
