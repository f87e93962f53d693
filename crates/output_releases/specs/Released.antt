-- What is noted of outputs as they are released, and which frames are forgotten then.
use Rattle.std.specs.Prelude.{◌≡◌, ℕ, ◌≤◌, ◌<◌, ◌⊎◌, List, ◌++◌, map, None}
use Rattle.plain_text.specs.declared.kind.Kind.TheVariants as kind
use Rattle.access_log.specs.declared.entry.Output.{Output}
use Rattle.dup_filter.specs.Numbers.{Numbers, numbers}
use Rattle.link_store.specs.declared.address.Address.{Address}
use Rattle.link_store.specs.Links.{frame_at}
use Rattle.link_store.specs.Sending.{Sending, output_address}
use Rattle.system_parts.specs.Parts.{Parts}

-- the thread and number of each output
abbrev pub names_of : List Output → List (ℕ × ℕ)
names_of outputs = map (λ (o : Output). (o.thread, o.number)) outputs

-- These outputs are noted and listed.
pub record NotesReleased {P V : Type 0} (outputs : List Output) (list : List (ℕ × ℕ))
    (old new : Parts P V) : Type 0 where
  pub list_is : list ≡ names_of outputs
  pub new_is : new ≡ record old { released = old.released ++ list }

-- Frames of outputs up to the number up to which all of the thread were released may be forgotten, and no others.
pub record ForgetsReleased (old new : Sending) (released : List Numbers) : Type 0 where
  pub each : (a : Address)
      → (frame_at new.frames a ≡ frame_at old.frames a)
      ⊎ ((frame_at new.frames a ≡ None) × (a.epoch ≡ old.epoch) × (a.kind ≡ kind.Out)
      × (a.number ≤ (numbers released a.thread).floor))
  pub entries : new.entries ≡ old.entries
  pub outputs : new.outputs ≡ old.outputs
  pub epoch : new.epoch ≡ old.epoch
  pub threads : new.threads ≡ old.threads

-- None of them is on the links.
abbrev pub AreForgotten : Sending → List Numbers → ℕ → Type 0
AreForgotten sent released threads =
    (t n : ℕ) → t < threads → n ≤ (numbers released t).floor → frame_at sent.frames (output_address sent t n) ≡ None
