-- Which register of a packet in hand has the reason for which it was counted as dropped: a trace reads it there.
use Rattle.std.specs.Prelude.{◌≡◌, ℕ, List, ◌∷◌, Option, Some, slice_index_or}
use Rattle.plain_text.specs.declared.packet.Packet.{Packet}
use Rattle.entry_order.specs.Log.{Entry}
use Rattle.entry_order.specs.declared.what.What.TheVariants.{Access}
use Rattle.plain_machine.specs.declared.local.Move.TheVariants.{End}
use Rattle.plain_machine.specs.Machine.{Hand}
use Rattle.plain_machine.specs.History.{Did, Step, thread_after, value_after, IsHistory}
use Rattle.flow_boxes.specs.declared.drops.Drops.{Drops}
use Rattle.nat_box.specs.declared.value.NatValue.{NatValue}
use Rattle.nat_box.specs.declared.value.NatValue.TheVariants.{Dropped}
use Rattle.nat_box.specs.Settings.{Settings, AreSettings}
use Rattle.nat_box.specs.Nat.{nat_meaning}
use Rattle.nat_box.specs.Places.{reason_register}
use Rattle.nat_runs.specs.Causes.{one_more}

abbrev pub reason_in : Hand → ℕ
reason_in h = slice_index_or h.place.regs reason_register 0

-- Each touch of variable 0 counts one drop more, for the reason that stands in this register afterwards, and the packet
-- in hand comes to its end with it.
abbrev pub ReasonsStand : Type 0
ReasonsStand =
    (s : Settings) (threads : ℕ) (inputs : ℕ → List Packet) (x : Step NatValue) (earlier : List (Step NatValue))
    (entry : Entry) (left : Option NatValue) (place : ℕ) → AreSettings s
    → IsHistory (nat_meaning s) inputs threads (x ∷ earlier) → x.act ≡ Did entry left → entry.what ≡ Access 0 place
    → (h : Hand) × (d : Drops) × ((thread_after (x ∷ earlier) x.thread).hand ≡ Some h)
    × (value_after (nat_meaning s) earlier 0 ≡ Dropped d)
    × (value_after (nat_meaning s) (x ∷ earlier) 0 ≡ Dropped (one_more (reason_in h) d))
    × ((nat_meaning s).next h.place ≡ End)
