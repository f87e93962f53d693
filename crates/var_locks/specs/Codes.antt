-- Codes of the plain data by which a round and its steps are named: a code is one value of one type for all programs.
use Rattle.std.specs.Prelude.{◌≡◌, ◌⊎◌, ℕ, List, Option}
use mathlib.Core.Path.{refl}
use mathlib.Core.Logic.{inl, inr}
use Rattle.std.specs.Coded.{Coded, coded_ℕ, coded_list, coded×, coded⊎, coded_option, code_by}
use Rattle.plain_text.specs.declared.packet.Packet.{Packet}
use Rattle.entry_order.specs.declared.what.What.{What}
use Rattle.entry_order.specs.declared.what.What.TheVariants as what
use Rattle.access_log.specs.declared.entry.StampedEntry.{StampedEntry}
use Rattle.master_core.specs.declared.step.Trace.{Trace}
use Rattle.master_core.specs.declared.step.Trace.TheVariants as trace
use Rattle.var_locks.specs.declared.view.Note.{Note}
use base.Stored.{Gv}
use Rattle.plain_machine.specs.declared.local.Local.{Local}
use Rattle.master_core.specs.declared.parts.Counts.{Counts}
use Rattle.master_core.specs.declared.parts.VarPart.{VarPart}
use Rattle.master_core.specs.declared.parts.ThreadPart.{ThreadPart}
use Rattle.master_core.specs.Mastered.{Mastered}

-- a code that stands for nothing
abbrev pub nothing : Gv
nothing = coded_ℕ.code 0

abbrev pub var_code : {V : Type 0} → Coded V → Coded (VarPart V)
var_code {V} c =
    code_by (V × (ℕ × (List ℕ × List ℕ))) (coded× c (coded× coded_ℕ (coded× (coded_list coded_ℕ) (coded_list coded_ℕ))))
    (λ x. (x.value, (x.places, (x.stamp, x.readers))))
    (λ t. record { value = t.0; places = t.1.0; stamp = t.1.1.0; readers = t.1.1.1 }) (λ x. refl)

abbrev pub local_code : Coded Local
local_code = code_by (ℕ × List ℕ) (coded× coded_ℕ (coded_list coded_ℕ)) (λ l. (l.at, l.regs))
    (λ t. record { at = t.0; regs = t.1 }) (λ l. refl)

abbrev pub counts_code : Coded Counts
counts_code = code_by (ℕ × (ℕ × ℕ)) (coded× coded_ℕ (coded× coded_ℕ coded_ℕ)) (λ c. (c.taken, (c.entries, c.outputs)))
    (λ t. record { taken = t.0; entries = t.1.0; outputs = t.1.1 }) (λ c. refl)

abbrev pub thread_code : Coded ThreadPart
thread_code = code_by (Counts × (Option Local × List ℕ))
    (coded× counts_code (coded× (coded_option local_code) (coded_list coded_ℕ))) (λ x. (x.counts, (x.hand, x.stamp)))
    (λ t. record { counts = t.0; hand = t.1.0; stamp = t.1.1 }) (λ x. refl)

abbrev pub master_code : {V : Type 0} → Coded V → Coded (Mastered V)
master_code {V} c =
    code_by (List (VarPart V) × List ThreadPart) (coded× (coded_list (var_code c)) (coded_list thread_code))
    (λ p. (p.vars, p.threads)) (λ t. record { vars = t.0; threads = t.1 }) (λ p. refl)

abbrev pub packet_code : Coded Packet
packet_code = code_by (ℕ × (ℕ × (ℕ × List ℕ))) (coded× coded_ℕ (coded× coded_ℕ (coded× coded_ℕ (coded_list coded_ℕ))))
    (λ x. (x.seconds, (x.fraction, (x.original, x.bytes))))
    (λ t. record { seconds = t.0; fraction = t.1.0; original = t.1.1.0; bytes = t.1.1.1 }) (λ x. refl)

abbrev what_parts : What → (ℕ × ℕ) ⊎ ((ℕ × ℕ) ⊎ (ℕ ⊎ ℕ))
what_parts (what.Access v s) = inl (v, s)
what_parts (what.Read v s) = inr (inl (v, s))
what_parts (what.Clock a) = inr (inr (inl a))
what_parts (what.Draw a) = inr (inr (inr a))

abbrev what_of : (ℕ × ℕ) ⊎ ((ℕ × ℕ) ⊎ (ℕ ⊎ ℕ)) → What
what_of (inl t) = what.Access t.0 t.1
what_of (inr (inl t)) = what.Read t.0 t.1
what_of (inr (inr (inl a))) = what.Clock a
what_of (inr (inr (inr a))) = what.Draw a

pub what_back : (x : What) → what_of (what_parts x) ≡ x
what_back (what.Access v s) = refl
what_back (what.Read v s) = refl
what_back (what.Clock a) = refl
what_back (what.Draw a) = refl

abbrev pub what_code : Coded What
what_code = code_by ((ℕ × ℕ) ⊎ ((ℕ × ℕ) ⊎ (ℕ ⊎ ℕ)))
    (coded⊎ (coded× coded_ℕ coded_ℕ) (coded⊎ (coded× coded_ℕ coded_ℕ) (coded⊎ coded_ℕ coded_ℕ))) what_parts
    what_of what_back

abbrev pub entry_code : Coded StampedEntry
entry_code =
    code_by (ℕ × (ℕ × (What × List ℕ))) (coded× coded_ℕ (coded× coded_ℕ (coded× what_code (coded_list coded_ℕ))))
    (λ x. (x.thread, (x.number, (x.what, x.stamp))))
    (λ t. record { thread = t.0; number = t.1.0; what = t.1.1.0; stamp = t.1.1.1 }) (λ x. refl)

abbrev trace_parts : Trace → ℕ ⊎ (StampedEntry ⊎ (ℕ ⊎ ℕ))
trace_parts (trace.Took k) = inl k
trace_parts (trace.Did e) = inr (inl e)
trace_parts (trace.Emitted k) = inr (inr (inl k))
trace_parts (trace.Ended k) = inr (inr (inr k))

abbrev trace_of : ℕ ⊎ (StampedEntry ⊎ (ℕ ⊎ ℕ)) → Trace
trace_of (inl k) = trace.Took k
trace_of (inr (inl e)) = trace.Did e
trace_of (inr (inr (inl k))) = trace.Emitted k
trace_of (inr (inr (inr k))) = trace.Ended k

pub trace_back : (x : Trace) → trace_of (trace_parts x) ≡ x
trace_back (trace.Took k) = refl
trace_back (trace.Did e) = refl
trace_back (trace.Emitted k) = refl
trace_back (trace.Ended k) = refl

abbrev pub trace_code : Coded Trace
trace_code = code_by (ℕ ⊎ (StampedEntry ⊎ (ℕ ⊎ ℕ))) (coded⊎ coded_ℕ (coded⊎ entry_code (coded⊎ coded_ℕ coded_ℕ)))
    trace_parts trace_of trace_back

abbrev pub note_code : {V : Type 0} → Coded V → Coded (Note V)
note_code {V} c = code_by (ThreadPart × (ThreadPart × (Trace × (Option Packet × Option (VarPart V)))))
    (coded× thread_code
    (coded× thread_code (coded× trace_code (coded× (coded_option packet_code) (coded_option (var_code c))))))
    (λ n. (n.before, (n.after, (n.trace, (n.packet, n.found)))))
    (λ t. record { before = t.0; after = t.1.0; trace = t.1.1.0; packet = t.1.1.1.0; found = t.1.1.1.1 }) (λ n. refl)
