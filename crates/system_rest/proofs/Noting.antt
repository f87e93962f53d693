-- What is noted in the rest of a system, by what was noted of the parts.
use Rattle.std.proofs.Common.{◌≡◌, ℕ, length, ap, subst, Option, Ok, Err}
use Rattle.std.specs.Prelude.{IfOk, OnOk}
use Rattle.plain_text.specs.declared.limit.Limit.{Limit}
use Rattle.plain_machine.specs.Program.{Meaning}
use Rattle.plain_machine.specs.History.{Step}
use Rattle.master_core.specs.declared.step.Stepped.{Stepped}
use Rattle.master_core.specs.declared.step.Stepped.TheVariants as stepped
use Rattle.recovery_world.specs.declared.event.Outcome.{Outcome}
use Rattle.recovery_world.specs.declared.event.Outcome.TheVariants as outcome
use Rattle.recovery_world.specs.World.{Setting, World}
use Rattle.recovery_world.specs.Events.{entry_outcome}
use Rattle.event_replies.specs.declared.reply.Stop.TheVariants as stop
use Rattle.link_store.specs.Sending.{Sending}
use Rattle.thread_steps.specs.FromSystemParts.{Parts}
use Rattle.thread_steps.specs.Stepping.{AddsEntry, AddsOutput, NotesAs, Notes, NotesFor, PassesFor}
use Rattle.thread_steps.proofs.NotedMoves.{Answer, notes_for, passes_for}

pub notes_all : {P V : Type 0} (m : Meaning V) (t : ℕ) (answer : Option ℕ) (r : Stepped) (old after : Parts P V)
    (res : Answer) → Notes t answer r old res after
    → IfOk res (λ (to : Outcome).
    (s : Setting V) (w : World V) (step : Step V) → NotesFor m s w t answer r step to old after)
notes_all m t answer r old after (Ok to) n = notes_for m t answer r old after to n
notes_all m t answer r old after (Err e) n = tt

pub passes_all : {P V : Type 0} (m : Meaning V) (t : ℕ) (answer : Option ℕ) (r : Stepped) (old after : Parts P V)
    (res : Answer) (limit : Limit) → Notes t answer r old res after → res ≡ Err (stop.Limit limit) → (s : Setting V)
    (w : World V) (step : Step V) → PassesFor m s w t answer r step limit old
passes_all m t answer r old after res limit n is =
    passes_for m t answer r old after limit (subst (λ (a : Answer). Notes t answer r old a after) is n)

-- What is noted keeps the program, the epoch of the links, and the number of threads.

abbrev Keeps : {P V : Type 0} → Parts P V → Parts P V → Type 0
Keeps old new = (new.program ≡ old.program) × (new.sent.epoch ≡ old.sent.epoch) × (new.sent.threads ≡ old.sent.threads)

sends_keep : {P V : Type 0} (t : ℕ) (answer : Option ℕ) (bytes : ℕ) (to other : Outcome)
    (Adds : Sending → Sending → Type 0) (old new : Parts P V)
    → ((a b : Sending) → Adds a b → (b.epoch ≡ a.epoch) × (b.threads ≡ a.threads))
    → NotesAs t answer bytes to Adds old (Ok other) new → Keeps old new
sends_keep {P} {V} t answer bytes to other Adds old new keep n =
    let k = keep old.sent new.sent n.1.sends in (ap (λ (z : Parts P V). z.program) n.1.new_is, k.0, k.1)

links_same : (a b : Sending) → b ≡ a → (b.epoch ≡ a.epoch) × (b.threads ≡ a.threads)
links_same a b e = (ap (λ (z : Sending). z.epoch) e, ap (λ (z : Sending). z.threads) e)

none_kept : {P V : Type 0} (old new : Parts P V) → new ≡ old → Keeps old new
none_kept {P} {V} old new e = (
  ap (λ (z : Parts P V). z.program) e,
  ap (λ (z : Parts P V). z.sent.epoch) e,
  ap (λ (z : Parts P V). z.sent.threads) e,
)

note_keeps : {P V : Type 0} (t : ℕ) (answer : Option ℕ) (r : Stepped) (old new : Parts P V) (to : Outcome)
    → Notes t answer r old (Ok to) new → Keeps old new
note_keeps t answer (stepped.Took k) old new to n =
    sends_keep t answer 0 (outcome.Take k) to (λ (a b : Sending). b ≡ a) old new links_same n
note_keeps t answer (stepped.Did e) old new to n =
    sends_keep t answer 0 (entry_outcome e.number e.what) to (AddsEntry e) old new (λ a b k. (k.1.epoch, k.1.threads)) n
note_keeps t answer (stepped.Emitted o) old new to n =
    sends_keep t answer (length o.packet.bytes) (outcome.Emitted o.number) to (AddsOutput o) old new
    (λ a b k. (k.1.epoch, k.1.threads)) n
note_keeps t answer (stepped.Ended k) old new to n =
    sends_keep t answer 0 (outcome.Ended k) to (λ (a b : Sending). b ≡ a) old new links_same n
note_keeps t answer stepped.Idle old new to n = none_kept old new n.1
note_keeps t answer (stepped.NotTurn u k) old new to n = none_kept old new n.1
note_keeps t answer stepped.NoMemory old new to n =
    absurd (let k : Answer = Ok to in let e : k ≡ Err stop.NoMemory = n in cc)

pub all_kept : {P V : Type 0} (t : ℕ) (answer : Option ℕ) (r : Stepped) (old new : Parts P V) (res : Answer)
    → Notes t answer r old res new → OnOk res (Keeps old new)
all_kept t answer r old new (Ok to) n = note_keeps t answer r old new to n
all_kept t answer r old new (Err e) n = tt
