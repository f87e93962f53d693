-- What an event answers in a world, and the parts that stand for the world after it.
use Rattle.std.proofs.Common.{◌≡◌, ℕ, ◌<◌, List, [], refl, sym, ap, ◌∙◌, subst, None, arith}
use Rattle.std.specs.Prelude.{HoldsAt}
use Rattle.entry_order.specs.Log.{entries}
use Rattle.access_log.specs.declared.entry.Output.{Output}
use Rattle.input_logger.specs.Inputs.{Fed}
use Rattle.plain_machine.specs.Program.{Meaning}
use Rattle.plain_machine.specs.History.{log_of, sent_of, outputs}
use Rattle.system_parts.specs.FromMasterCore.{Counts}
use Rattle.system_parts.specs.FromMasterCore.{ThreadPart}
use Rattle.recovery_world.specs.declared.event.Event.{Event}
use Rattle.recovery_world.specs.declared.event.Outcome.{Outcome}
use Rattle.recovery_world.specs.World.{Setting, World}
use Rattle.recovery_world.specs.Events.{On}
use Rattle.system_parts.specs.FromEventReplies.{Reply}
use Rattle.system_parts.specs.Parts.{Parts}
use Rattle.system_parts.specs.SystemStanding.{StandsFor, StandsForSome}
use Rattle.system_parts.specs.Performing.{MovesOn, Releasing, Replies}
use Rattle.output_releases.proofs.ReleasedLists.{releases_none}

-- The event answers so in the world, what it releases is put behind the outputs of a list, and these parts stand for
-- the world after it.
abbrev pub AnswersTo : {P V : Type 0} → Meaning V → Setting V → World V → Event → Reply → List Output → List Output
    → Parts P V → Type 0
AnswersTo {P} {V} m s w ev reply old new after =
    (next : World V) × Releasing old new (Replies ev reply) s w next × StandsFor m s next after

module _ {P V : Type 0} (m : Meaning V) (s : Setting V) (w : World V) (y : Parts P V) (st : StandsFor m s w y) where
  pub in_setting : (t : ℕ) → t < y.inputs.threads → t < s.threads
  in_setting t low =
      let same : y.inputs.threads ≡ s.threads = ap (λ (f : Fed). f.threads) st.inputs.inputs in omega (arith, low, same)

  -- an event that changes nothing
  pub stays : (ev : Event) (to : Outcome) (reply : Reply) (out : List Output)
      → reply ≡ record { outcome = to; released = [] } → On s w ev to [] w → AnswersTo m s w ev reply out out y
  stays ev to reply out is on =
      let event = subst (λ (q : Outcome). On s w ev q [] w) (sym (ap (λ (r : Reply). r.outcome) is)) on in
      (w, (([], (event, st.within), ap (λ (r : Reply). r.released) is), releases_none out w w refl), st)

  -- the counts of a thread are those of the past
  pub counted : (t : ℕ) (r : Counts) → t < y.inputs.threads
      → HoldsAt (λ (part : ThreadPart). r ≡ part.counts) y.master.threads t
      → (r.entries ≡ entries t (log_of w.past)) × (r.outputs ≡ outputs t (sent_of w.past))
  counted t r low at =
      let d : ThreadPart = record { counts = r; hand = None; stamp = [] } in
      let part = st.master.stands.thread t d (in_setting t low) in
      (ap (λ (k : Counts). k.entries) (at d) ∙ part.logged, ap (λ (k : Counts). k.outputs) (at d) ∙ part.outputs)

-- From the parts of a system as its code has them to those before and after a call.

pub came : {P V : Type 0} (m : Meaning V) (view now known new : Parts P V) (ev : Event) (reply : Reply)
    (before out : List Output)
    → view ≡ now → known ≡ new → known.program ≡ view.program
    → ((s : Setting V) (w : World V) → StandsFor m s w view → AnswersTo m s w ev reply before out known)
    → MovesOn m (Releasing before out (Replies ev reply)) now new
came {P} {V} m view now known new ev reply before out same is program on = (
  sym (ap (λ (q : Parts P V). q.program) is) ∙ program ∙ ap (λ (q : Parts P V). q.program) same,
  λ s w st.
      subst (λ (q : Parts P V). AnswersTo m s w ev reply before out q) is
      (on s w (subst (λ (q : Parts P V). StandsFor m s w q) (sym same) st)),
)

-- the same, where nothing was put behind the list
pub came_none : {P V : Type 0} (m : Meaning V) (view now known new : Parts P V) (ev : Event) (reply : Reply)
    (before out : List Output)
    → out ≡ before → view ≡ now → known ≡ new → known.program ≡ view.program
    → ((s : Setting V) (w : World V) → StandsFor m s w view → AnswersTo m s w ev reply before before known)
    → MovesOn m (Releasing before out (Replies ev reply)) now new
came_none m view now known new ev reply before out none same is program on =
    subst (λ (l : List Output). MovesOn m (Releasing before l (Replies ev reply)) now new) (sym none)
    (came m view now known new ev reply before before same is program on)

-- a system stands for the same worlds as its parts as its code has them
pub at_view : {P V : Type 0} (m : Meaning V) (view now : Parts P V) → view ≡ now → StandsForSome m now
    → StandsForSome m view
at_view {P} {V} m view now same st = subst (λ (q : Parts P V). StandsForSome m q) (sym same) st
