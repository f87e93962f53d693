-- What became of each packet of the capture: it was released, made of itself, or counted as dropped, for its cause.
use Rattle.std.specs.Prelude.{◌≡◌, ◌⊎◌, ℕ, ◌+◌, ◌<◌, List, ◌∷◌, Some, slice_get}
use Rattle.plain_text.specs.declared.packet.Packet.{Packet}
use Rattle.plain_machine.specs.History.{Step}
use Rattle.plain_machine.specs.Agree.{IsEarlier}
use Rattle.tagged_frames.specs.Tags.{behind_tag}
use Rattle.tagged_box.specs.Tags.{steps_behind}
use Rattle.recovery_world.specs.World.{Setting, Sent, World, all_inputs}
use Rattle.recovery_world.specs.Events.{IsAmong}
use Rattle.settled_boxes.specs.EachOnce.{times_sent}
use Rattle.box_worlds.specs.Outcomes.{drops_by, drops_with}
use Rattle.box_worlds.specs.Releases.{IsMadeOfInput}

-- Input k + 1 of thread t was released exactly once, and never counted as dropped. What went out is made of it as
-- SentAs says.
pub record WasReleased {V : Type 0} (s : Setting V) (w : World V) (steps : List (Step V))
    (SentAs : ℕ → List (Step V) → List ℕ → Packet → Type 0) (t k : ℕ) : Type 0 where
  pub once : times_sent t (k + 1) w.released ≡ 1
  pub uncounted : drops_with t (k + 1) steps ≡ 0
  pub output : Sent
  pub among : IsAmong output w.released
  pub thread : output.emission.thread ≡ t
  pub number : output.emission.input ≡ k + 1
  pub made : IsMadeOfInput s w output SentAs steps

-- The packet p, input k + 1 of thread t, was counted as dropped exactly once, and never released. It has a cause for
-- some reason, in what it met. Packet and steps are seen behind tags, where these are looked through.
pub record WasCounted {V : Type 0} (s : Setting V) (w : World V) (steps : List (Step V))
    (Caused : ℕ → List (Step V) → Packet → ℕ → Type 0) (t k : ℕ) (p : Packet) : Type 0 where
  pub once : drops_with t (k + 1) steps ≡ 1
  pub unreleased : times_sent t (k + 1) w.released ≡ 0
  pub earlier : List (Step V)
  pub step : Step V
  pub moment : IsEarlier (step ∷ earlier) steps
  pub thread : step.thread ≡ t
  pub number : step.after.taken ≡ k + 1
  pub counts : drops_by step.act ≡ 1
  pub reason : ℕ
  pub caused : Caused t (steps_behind s.tags earlier) (behind_tag s.tags p) reason

abbrev pub EachHasOneOutcome : {V : Type 0} → Setting V → World V → List (Step V)
    → (ℕ → List (Step V) → List ℕ → Packet → Type 0) → (ℕ → List (Step V) → Packet → ℕ → Type 0) → Type 0
EachHasOneOutcome s w steps SentAs Caused =
    (t k : ℕ) (p : Packet) → t < s.threads → slice_get (all_inputs s t) k ≡ Some p
    → WasReleased s w steps SentAs t k ⊎ WasCounted s w steps Caused t k p
