-- What is read of a system: the value of a variable, and the counts of a thread.
use Rattle.std.proofs.Common.{◌≡◌, ℕ, suc, ◌<◌, List, [], ◌∷◌, length, slice_index_or, refl, sym, ap, ◌∙◌, subst, inr}
use Rattle.std.proofs.Common.{None, true}
use Rattle.std.specs.Prelude.{HoldsAt}
use Rattle.entry_order.specs.Log.{entries}
use Rattle.recovery_world.specs.FromInputLogger.{Fed}
use Rattle.plain_machine.specs.Program.{Meaning}
use Rattle.plain_machine.specs.History.{log_of, sent_of, outputs, thread_after, value_after}
use Rattle.snapshot_store.specs.FromMasterCore.{Counts}
use Rattle.snapshot_store.specs.FromMasterCore.{ThreadPart}
use Rattle.snapshot_store.specs.FromMasterCore.{VarPart}
use Rattle.recovery_world.specs.declared.event.Event.TheVariants as event
use Rattle.recovery_world.specs.declared.event.Outcome.TheVariants as outcome
use Rattle.recovery_world.specs.World.{Setting, Sent, World}
use Rattle.recovery_world.specs.Files.{sent_names}
use Rattle.system_parts.specs.Parts.{Parts}
use Rattle.system_parts.specs.SystemStanding.{StandsFor}
use Rattle.system_parts.specs.Performing.{ComesTo}

-- a variable's part with this value
abbrev pub part_with : {V : Type 0} → V → VarPart V
part_with value = record { value = value; places = 0; stamp = []; readers = [] }

-- The variable has the value that the past left.
pub shown_moves : {P V : Type 0} (m : Meaning V) (v : ℕ) (value : V) (text : List ℕ) (d : VarPart V) {y old : Parts P V}
    → y ≡ old → v < m.vars → value ≡ (slice_index_or y.master.vars v d).value → y.up ≡ true → text ≡ m.shown v value
    → (s : Setting V) (w : World V) → StandsFor m s w old → ComesTo (event.Show v) (outcome.Shown text) s w w
shown_moves {P} {V} m v value text d {y} {old} is low value_is up text_is s w st = (
  (
    inr (inr (
      few,
      sym st.master.up ∙ sym (ap (λ (q : Parts P V). q.up) is) ∙ up,
      ap (λ (l : List ℕ). outcome.Shown l) shown,
    )),
    refl,
    refl,
  ),
  st.within,
)
  where
    few : v < s.meaning.vars
    few = subst (λ (n : Meaning V). v < n.vars) (sym st.inputs.meaning) low

    left : value ≡ value_after s.meaning w.past v
    left =
        value_is
        ∙ ap (λ (q : Parts P V). (slice_index_or q.master.vars v d).value) is
        ∙ (st.master.stands.var v d few).value

    shown : text ≡ s.meaning.shown v (value_after s.meaning w.past v)
    shown =
        text_is
        ∙ ap (λ (n : Meaning V). n.shown v value) (sym st.inputs.meaning)
        ∙ ap (λ (x : V). s.meaning.shown v x) left

-- The thread's counts are those of the past.
pub counts_stand : {P V : Type 0} (m : Meaning V) (t : ℕ) (counts : Counts) {y old : Parts P V} → y ≡ old
    → t < old.inputs.threads → HoldsAt (λ (part : ThreadPart). counts ≡ part.counts) y.master.threads t
    → (s : Setting V) (w : World V) → StandsFor m s w old
    → (counts.taken ≡ (thread_after w.past t).taken)
    × (counts.entries ≡ entries t (log_of w.past))
    × (counts.outputs ≡ outputs t (sent_of w.past))
counts_stand {P} {V} m t counts {y} {old} is low at s w st = (
  ap (λ (c : Counts). c.taken) here ∙ (st.master.stands.thread t none few).taken,
  ap (λ (c : Counts). c.entries) here ∙ (st.master.stands.thread t none few).logged,
  ap (λ (c : Counts). c.outputs) here ∙ (st.master.stands.thread t none few).outputs,
)
  where
    none : ThreadPart
    none = record { counts = counts; hand = None; stamp = [] }

    few : t < s.threads
    few = subst (λ (f : Fed). t < f.threads) st.inputs.inputs low

    here : counts ≡ (slice_index_or old.master.threads t none).counts
    here = at none ∙ ap (λ (q : Parts P V). (slice_index_or q.master.threads t none).counts) is

-- As many outputs were noted as were released.

pub names_length : (sent : List Sent) → length (sent_names sent) ≡ length sent
names_length [] = refl
names_length (o ∷ sent) = ap suc (names_length sent)

pub released_count : {P V : Type 0} (m : Meaning V) (s : Setting V) (w : World V) (y : Parts P V) → StandsFor m s w y
    → length y.released ≡ length w.released
released_count m s w y st = ap length st.released ∙ names_length w.released
