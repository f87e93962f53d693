-- What became of a packet, by what the run in which the world ends did with it, and by what the world has.
use Rattle.std.specs.Prelude.{◌≡◌, ℕ, zero, suc, ◌+◌, ◌&&◌, nat_eq, nat_le, if◌then◌else◌, List, [], ◌∷◌}
use Rattle.entry_order.specs.Log.{Entry}
use Rattle.entry_order.specs.Closed.{IsFirstMissing}
use Rattle.plain_machine.specs.History.{log_of}
use Rattle.recovery_world.specs.World.{Sent as SentOutput, World}
use Rattle.recovery_world.specs.Events.{IsOutputOf, MayGo}
use Rattle.recovery_world.specs.Files.{sent_names}
use Rattle.noted_runs.specs.declared.trace.rows.Became.{Became}
use Rattle.noted_runs.specs.declared.trace.rows.Became.TheVariants.{Untaken, InHand, Sent, Ended}
use Rattle.noted_runs.specs.declared.trace.rows.Fate.{Fate}
use Rattle.noted_runs.specs.declared.trace.rows.Fate.TheVariants as fate

-- Of an output

-- The place, from 1, at which a thread and a number stand first among these, behind so many others; 0 where they don't.
abbrev pub place_behind : ℕ → ℕ → ℕ → List (ℕ × ℕ) → ℕ
place_behind before t j [] = 0
place_behind before t j (name ∷ names) =
    if nat_eq name.0 t && nat_eq name.1 j then before + 1 else place_behind (before + 1) t j names

-- the place of output j of thread t in the order of release
abbrev pub place_in : {V : Type 0} → World V → ℕ → ℕ → ℕ
place_in w t j = place_behind 0 t j (sent_names w.released)

-- Output j of thread t was not released.
pub data Unreleased {V : Type 0} (w : World V) (t j : ℕ) : Fate → Type 0 where
  -- the master sent it out, and this entry is the first one that is missing for it
  Waits : (o : SentOutput) (e : Entry) → IsOutputOf w t j o
      → IsFirstMissing (log_of w.past) (log_of w.stored) w.held o.emission.thread o.after e
      → Unreleased w t j (fate.Waiting e.thread e.number)
  -- it sent it out, and nothing is missing for it
  MayArrive : (o : SentOutput) → IsOutputOf w t j o → MayGo w o → Unreleased w t j fate.UnderWay
  -- it has not sent it out yet
  NotSent : ((o : SentOutput) → IsOutputOf w t j o → ⊥) → Unreleased w t j fate.InHand

abbrev pub by_place : {V : Type 0} → World V → ℕ → ℕ → ℕ → Fate → Type 0
by_place w t j zero x = Unreleased w t j x
by_place w t j (suc n) x = x ≡ fate.Released (suc n)

-- Of a packet of thread t

-- the fate of a packet that was ended, by the number in the register of reasons: reasons have the numbers 1 to 10
abbrev pub dropped_for : ℕ → Fate
dropped_for reason = if nat_le 1 reason && nat_le reason 10 then fate.Dropped (48 + reason) else fate.NoOutput

abbrev pub IsFate : {V : Type 0} → World V → ℕ → Became → Fate → Type 0
IsFate w t Untaken x = x ≡ fate.NotTaken
IsFate w t InHand x = x ≡ fate.InHand
IsFate w t (Sent j) x = by_place w t j (place_in w t j) x
IsFate w t (Ended reason) x = x ≡ dropped_for reason
