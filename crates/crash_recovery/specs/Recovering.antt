-- What a recovery makes of the world and of the links, and how many entries it keeps and drops.
use Rattle.std.specs.Prelude.{◌≡◌, ◌≢◌, ℕ, ◌+◌, ◌≤◌, ◌<◌, ◌⊎◌, None, length, take, HoldsAt}
use Rattle.entry_order.specs.Log.{IsIn}
use Rattle.entry_order.specs.Stamps.{IsCount}
use Rattle.access_log.specs.declared.held.Kept.{Kept}
use Rattle.access_log.specs.declared.entry.Output.{Output}
use Rattle.link_store.specs.declared.address.Address.{Address}
use Rattle.link_store.specs.Links.{frame_at, IsOutputOf}
use Rattle.master_core.specs.Mastered.{Mastered}
use Rattle.plain_machine.specs.History.{log_of}
use Rattle.recovery_world.specs.World.{Setting, World}
use Rattle.recovery_world.specs.Events.{Recovers, Wakes}
use Rattle.link_store.specs.Sending.{Sending, lengths_of, output_address, HasOutputFrame}

-- The new master follows this number of entries that are not stored, and this number of held ones were dropped.
pub record RecoversTo {V : Type 0} (kept : Kept) (s : Setting V) (w next : World V) : Type 0 where
  pub recovers : Recovers w next
  pub keeps : IsCount (λ e. IsIn e (log_of w.stored) → ⊥) next.held kept.kept
  pub drops : length w.held ≡ length next.held + kept.dropped

-- the world itself where its master is up, or the one after a recovery
abbrev pub WakesUp : {V : Type 0} → Setting V → World V → World V → Type 0
WakesUp s w next = Wakes w next

-- this master made so many outputs of the thread, where it is one of the first
abbrev pub HasMade : {V : Type 0} → Mastered V → ℕ → ℕ → ℕ → Type 0
HasMade master count t n = t < count → HoldsAt (λ part. n ≤ part.counts.outputs) master.threads t

-- The next epoch begins. Of each of the first threads, only what this master made counts as sent; of the others all
-- that was sent. The outputs on the links that count stay there, as frames of this epoch, and nothing else does.
pub record TurnsLinks {V : Type 0} (master : Mastered V) (count : ℕ) (old new : Sending) : Type 0 where
  pub stay : (o : Output) → HasOutputFrame old o → HasMade master count o.thread o.number → HasOutputFrame new o
  pub only : (a : Address) → (frame_at new.frames a ≡ None)
      ⊎ (IsOutputOf new.epoch a
      × HasMade master count a.thread a.number
      × (frame_at old.frames (output_address old a.thread a.number) ≢ None))
  pub entries : (t : ℕ) → t < count
      → HoldsAt (λ part. lengths_of new.entries t ≡ take part.counts.entries (lengths_of old.entries t))
      master.threads t
  pub outputs : (t : ℕ) → t < count
      → HoldsAt (λ part. lengths_of new.outputs t ≡ take part.counts.outputs (lengths_of old.outputs t))
      master.threads t
  pub others : (t : ℕ) → count ≤ t
      → (lengths_of new.entries t ≡ lengths_of old.entries t) × (lengths_of new.outputs t ≡ lengths_of old.outputs t)
  pub epoch : new.epoch ≡ old.epoch + 1
  pub threads : new.threads ≡ old.threads
