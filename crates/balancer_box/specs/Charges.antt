-- The charge of each backend: the connections that name it and have not ended, and the packets in hand that have added
-- to its load and neither connected nor lowered it again, or that have removed or ended a connection of it and not
-- lowered the load yet. After
-- each move of each run, whatever the threads and their order, this is its load. Sums are modulo 2^64.
use Rattle.std.specs.Prelude.{◌≡◌, ℕ, ◌+◌, ◌%◌, ◌^◌, ◌<◌, ◌==◌, List, length, slice_index, Option, Some, None}
use Rattle.std.specs.Prelude.{[], ◌∷◌, if◌then◌else◌}
use Rattle.plain_text.specs.declared.packet.Packet.{Packet}
use Rattle.entry_order.specs.Stamps.{sum_below}
use Rattle.plain_machine.specs.Machine.{Hand, Thread}
use Rattle.plain_machine.specs.History.{Step, thread_after, value_after, IsHistory}
use Rattle.nat_tables.specs.declared.slot.Slot.{Slot}
use Rattle.nat_tables.specs.Ports.{one_if}
use Rattle.nat_tables.specs.Forwards.{Forwards}
use Rattle.balancer_box.specs.declared.place.Place.{Place}
use Rattle.balancer_box.specs.declared.place.Place.TheVariants.{LowersIdle, Connects, LowersSpare, LowersVain}
use Rattle.balancer_box.specs.declared.place.Noted.{Noted}
use Rattle.balancer_box.specs.declared.value.BalancerValue.{BalancerValue}
use Rattle.balancer_box.specs.declared.value.BalancerValue.TheVariants.{Dropped, Loaded, Connected}
use Rattle.balancer_box.specs.Connections.{has_ended}
use Rattle.balancer_box.specs.Places.{place_numbered}
use Rattle.balancer_box.specs.Settings.{Settings, AreSettings}
use Rattle.balancer_box.specs.Balancer.{noted_by, balancer_meaning}

-- Of a value: the load of the backend, and how many connections name it that have not ended

abbrev pub load_in : ℕ → BalancerValue → ℕ
load_in backend (Dropped d) = 0
load_in backend (Loaded loads) = slice_index loads backend
load_in backend (Connected es) = 0

abbrev pub of_backend : ℕ → Slot → ℕ
of_backend backend slot = if has_ended slot.phase then 0 else one_if (slot.port == backend)

abbrev pub counted : ℕ → Forwards → ℕ
counted backend [] = 0
counted backend (e ∷ es) = of_backend backend e.1 + counted backend es

abbrev pub connections_of : ℕ → BalancerValue → ℕ
connections_of backend (Dropped d) = 0
connections_of backend (Loaded loads) = 0
connections_of backend (Connected es) = counted backend es

-- Of a packet in hand: 1 where the backend's load is to be lowered for it, or was raised for it before it connects its
-- client, and as often as it is to be lowered

abbrev pub owed : ℕ → Place → Noted → ℕ
owed backend LowersIdle n = one_if (n.spare == backend)
owed backend Connects n = one_if (n.backend == backend)
owed backend LowersSpare n = one_if (n.spare == backend)
owed backend LowersVain n = one_if (n.spare == backend) + one_if (n.backend == backend)
owed backend _ n = 0

abbrev pub in_hand : Settings → (Place → Noted → ℕ) → Option Hand → ℕ
in_hand s number None = 0
in_hand s number (Some h) = number (place_numbered h.place.at) (noted_by s h.place)

-- Over all variables, and over all packets in hand

abbrev pub in_values : Settings → (BalancerValue → ℕ) → (ℕ → BalancerValue) → ℕ
in_values s number value = sum_below (2 + s.shards) (λ v. number (value v))

abbrev pub in_hands : Settings → (Place → Noted → ℕ) → ℕ → (ℕ → Thread) → ℕ
in_hands s number threads thread = sum_below threads (λ t. in_hand s number (thread t).hand)

abbrev pub charge : Settings → ℕ → ℕ → (ℕ → BalancerValue) → (ℕ → Thread) → ℕ
charge s threads backend value thread =
    in_values s (connections_of backend) value + in_hands s (owed backend) threads thread

abbrev pub IsCharged : Settings → ℕ → ℕ → (ℕ → BalancerValue) → (ℕ → Thread) → Type 0
IsCharged s threads backend value thread = load_in backend (value 1) ≡ charge s threads backend value thread % 2 ^ 64

abbrev pub LoadsAreCharges : Type 0
LoadsAreCharges =
    (s : Settings) (threads : ℕ) (inputs : ℕ → List Packet) (steps : List (Step BalancerValue))
    → AreSettings s → IsHistory (balancer_meaning s) inputs threads steps
    → (backend : ℕ) → backend < length s.backends
    → IsCharged s threads backend (value_after (balancer_meaning s) steps) (thread_after steps)
