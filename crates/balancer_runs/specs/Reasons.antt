-- Which register of a packet in hand has the reason for which it was counted as dropped: a trace reads it there.
use Rattle.std.specs.Prelude.{◌≡◌, ℕ, ◌+◌, ◌-◌, ◌%◌, ◌^◌, List, ◌∷◌, Some, slice_index, slice_index_or, slice_set}
use Rattle.plain_text.specs.declared.packet.Packet.{Packet}
use Rattle.entry_order.specs.Log.{Entry}
use Rattle.entry_order.specs.declared.what.What.TheVariants.{Access}
use Rattle.plain_machine.specs.declared.local.Move.TheVariants.{End}
use Rattle.plain_machine.specs.Machine.{Hand}
use Rattle.plain_machine.specs.History.{Did, Step, thread_after, value_after, IsHistory}
use Rattle.balancer_box.specs.declared.value.BalancerValue.{BalancerValue}
use Rattle.balancer_box.specs.Settings.{Settings, AreSettings}
use Rattle.balancer_box.specs.Balancer.{balancer_meaning}
use Rattle.balancer_box.specs.Places.{reason_register}
use Rattle.balancer_runs.specs.Packets.{drop_counts}

abbrev pub reason_in : Hand → ℕ
reason_in h = slice_index_or h.place.regs reason_register 0

-- Each touch of variable 0 counts one drop more, for the reason that stands in this register afterwards, and the packet
-- in hand comes to its end with it.
abbrev pub ReasonsStand : Type 0
ReasonsStand =
    (s : Settings) (threads : ℕ) (inputs : ℕ → List Packet) (x : Step BalancerValue)
    (earlier : List (Step BalancerValue)) (entry : Entry) (place : ℕ) (left : BalancerValue)
    → AreSettings s → IsHistory (balancer_meaning s) inputs threads (x ∷ earlier)
    → x.act ≡ Did entry (Some left) → entry.what ≡ Access 0 place
    → (h : Hand) × ((thread_after (x ∷ earlier) x.thread).hand ≡ Some h)
    × (let old = drop_counts (value_after (balancer_meaning s) earlier 0) in
    drop_counts left ≡ slice_set old (reason_in h - 1) ((slice_index old (reason_in h - 1) + 1) % 2 ^ 64))
    × ((balancer_meaning s).next h.place ≡ End)
