-- What a thread does with its own part is its next move, by its note.
use Rattle.std.proofs.Common.{◌≡◌, ℕ, ◌+◌, inl, inr, sym, ap, ◌∙◌, subst, Option, Some, None}
use Rattle.plain_text.specs.declared.packet.Packet.{Packet}
use Rattle.entry_order.specs.declared.what.What.{What}
use Rattle.access_log.specs.declared.entry.StampedEntry.{StampedEntry}
use Rattle.access_log.specs.Held.{Lane, lane, entry_at}
use Rattle.plain_machine.specs.declared.local.Local.{Local}
use Rattle.plain_machine.specs.Program.{Meaning}
use Rattle.master_core.specs.declared.parts.ThreadPart.{ThreadPart}
use Rattle.master_core.specs.declared.step.Trace.TheVariants as trace
use Rattle.master_core.specs.Effects.{HearsPart}
use Rattle.replay_guide.specs.Following.{recorded}
use Rattle.std.specs.Prelude.{List}
use Rattle.var_locks.specs.Notes.{IsOwn, IsOwnEntry, IsGuided, IsGuidedEntry, IsRecorded, own_note, answer_in, told_by}
use Rattle.var_locks.specs.Plain.{IsAsked, IsFree}

module _ {V : Type 0} (m : Meaning V) (t : ℕ) (before after : ThreadPart) (packet : Option Packet) (e : StampedEntry)
    (place : Local) (w : What) (told : ℕ) (hand : before.hand ≡ Some place)
    (hears : HearsPart m t w told place before e after) where
  what_is : e.what ≡ w
  what_is = ap (λ (f : StampedEntry). f.what) hears.entry

  pub hearing_own : IsAsked m place w told → IsOwn {V = V} m t (own_note before after (trace.Did e) packet)
  hearing_own (inl (next, is)) = subst
      (λ (z : What). IsOwnEntry {V = V} m t (own_note before after (trace.Did e) packet) e z) (sym (what_is ∙ is)) (
        place,
        next,
        record { hand = hand; hears = subst (λ (z : What). HearsPart m t z told place before e after) is hears },
      )
  hearing_own (inr (next, is)) = subst
      (λ (z : What). IsOwnEntry {V = V} m t (own_note before after (trace.Did e) packet) e z) (sym (what_is ∙ is)) (
        place,
        next,
        record { hand = hand; hears = subst (λ (z : What). HearsPart m t z told place before e after) is hears },
      )

  number_is : e.number ≡ before.counts.entries + 1
  number_is = ap (λ (f : StampedEntry). f.number) hears.entry

  pub hearing_guided : (guide : List Lane) → IsAsked m place w told
      → IsRecorded guide t (before.counts.entries + 1) told
      → IsGuided {V = V} guide t (own_note before after (trace.Did e) packet)
  hearing_guided guide (inl (next, is)) followed =
      subst (λ (z : What). IsGuidedEntry {V = V} guide t (own_note before after (trace.Did e) packet) e.number z)
      (sym (what_is ∙ is))
      (λ a known. followed a (ap (λ (k : ℕ). recorded (entry_at (lane guide t) k)) (sym number_is) ∙ known))
  hearing_guided guide (inr (next, is)) followed =
      subst (λ (z : What). IsGuidedEntry {V = V} guide t (own_note before after (trace.Did e) packet) e.number z)
      (sym (what_is ∙ is))
      (λ a known. followed a (ap (λ (k : ℕ). recorded (entry_at (lane guide t) k)) (sym number_is) ∙ known))

  pub hearing_answer : (guide : List Lane) (answer : ℕ) → IsAsked m place w told
      → IsFree guide t (before.counts.entries + 1) told answer → recorded (entry_at (lane guide t) e.number) ≡ None
      → answer_in (trace.Did e) ≡ Some answer
  hearing_answer guide answer (inl (next, is)) free none =
      ap told_by (what_is ∙ is)
      ∙ ap (λ (a : ℕ). Some a) (free (ap (λ (k : ℕ). recorded (entry_at (lane guide t) k)) (sym number_is) ∙ none))
  hearing_answer guide answer (inr (next, is)) free none =
      ap told_by (what_is ∙ is)
      ∙ ap (λ (a : ℕ). Some a) (free (ap (λ (k : ℕ). recorded (entry_at (lane guide t) k)) (sym number_is) ∙ none))
