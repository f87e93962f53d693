-- The frames on the links, each at its address, and what a call does to them.
use Rattle.std.specs.Prelude.{◌≡◌, ◌≢◌, ℕ, ◌+◌, ◌≤◌, ◌<◌, List, Option, Some, None}
use Rattle.std.specs.Map.{lookup}
use Rattle.std.specs.BTreeMap.{is_at}
use Rattle.link_store.specs.declared.address.Address.{Address}
use Rattle.plain_text.specs.declared.kind.Kind.{Kind}
use Rattle.plain_text.specs.declared.kind.Kind.TheVariants.{Out}
use Rattle.wire_frames.specs.FromAccessLog.{Output}
use Rattle.wire_frames.specs.declared.frame.Frame.TheVariants as frame_of
use Rattle.wire_frames.specs.Layout.{IsFrame}
use Rattle.link_store.specs.contracts.address.AddressOrd.TheImpl as address_order

-- the address of these four
abbrev pub address : ℕ → Kind → ℕ → ℕ → Address
address epoch kind thread number = record { epoch = epoch; kind = kind; thread = thread; number = number }

-- the frame at this address, if there is one
abbrev pub frame_at : List (Address × List ℕ) → Address → Option (List ℕ)
frame_at links a = lookup (is_at ((address_order.ghosts).cmp a)) links

-- the new links have this frame at the address, and at each other one what the old ones have
pub record Sends (old new : List (Address × List ℕ)) (at : Address) (frame : List ℕ) : Type 0 where
  pub sent : frame_at new at ≡ Some frame
  pub others : (a : Address) → a ≢ at → frame_at new a ≡ frame_at old a

-- the new links have no frame at the addresses with this property, and at each other one what the old ones have
pub record Forgets (P : Address → Type 0) (old new : List (Address × List ℕ)) : Type 0 where
  pub forgotten : (a : Address) → P a → frame_at new a ≡ None
  pub others : (a : Address) → (P a → ⊥) → frame_at new a ≡ frame_at old a

-- the address is of the same epoch, kind and thread, and its number is not above
pub record IsUpTo (last a : Address) : Type 0 where
  pub epoch : a.epoch ≡ last.epoch
  pub kind : a.kind ≡ last.kind
  pub thread : a.thread ≡ last.thread
  pub number : a.number ≤ last.number

-- so it is, and its number is above
pub record IsPast (last a : Address) : Type 0 where
  pub epoch : a.epoch ≡ last.epoch
  pub kind : a.kind ≡ last.kind
  pub thread : a.thread ≡ last.thread
  pub number : last.number < a.number

-- the address is that of an output of this epoch
abbrev pub IsOutputOf : ℕ → Address → Type 0
IsOutputOf epoch a = (a.epoch ≡ epoch) × (a.kind ≡ Out)

-- Where there was a frame in this epoch, there is one in the next: that of the same output.
abbrev pub GoesOn : ℕ → Option (List ℕ) → Option (List ℕ) → Type 0
GoesOn epoch None None = Unit {0}
GoesOn epoch None (Some new) = ⊥
GoesOn epoch (Some old) None = ⊥
GoesOn epoch (Some old) (Some new) =
    (threads : ℕ) (o : Output) → IsFrame old (frame_of.Output epoch threads o)
    → IsFrame new (frame_of.Output (epoch + 1) threads o)

-- The outputs of this epoch stand as those of the next one, and nothing else is there.
pub record TurnsEpoch (epoch : ℕ) (old new : List (Address × List ℕ)) : Type 0 where
  pub outputs : (t n : ℕ)
      → GoesOn epoch (frame_at old (address epoch Out t n)) (frame_at new (address (epoch + 1) Out t n))
  pub others : (a : Address) → (IsOutputOf (epoch + 1) a → ⊥) → frame_at new a ≡ None
