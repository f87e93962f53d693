-- The receipts of moves that are made with the part of one thread and, where a move is of a variable, the part of that
-- variable: what they leave of both parts is what a master leaves of them.
use Rattle.std.specs.Prelude.{◌≡◌, ℕ, ◌+◌, ◌<◌, ◌≤◌, List, [], Some, None, max, slice_get, slice_index}
use Rattle.plain_text.specs.declared.packet.Packet.{Packet}
use Rattle.entry_order.specs.declared.what.What.{What}
use Rattle.entry_order.specs.declared.what.What.TheVariants.{Access as Touched, Read as Looked, Clock as Told}
use Rattle.entry_order.specs.declared.what.What.TheVariants.{Draw as Drawn}
use Rattle.plain_machine.specs.declared.local.Local.{Local}
use Rattle.plain_machine.specs.declared.local.Move.TheVariants.{Access, Read, Clock, Draw, Emit, End}
use Rattle.plain_machine.specs.Program.{Meaning}
use Rattle.plain_machine.specs.Machine.{Thread, holding}
use Rattle.plain_machine.specs.History.{Act, Took, Did, Emitted, Ended, Step, thread_after}
use Rattle.master_core.specs.declared.parts.VarPart.{VarPart}
use Rattle.master_core.specs.declared.parts.ThreadPart.{ThreadPart}
use Rattle.master_core.specs.Mastered.{in_hand_count}
use Rattle.master_core.specs.Stepping.{plain_entry, emission_of_output}
use Rattle.master_core.specs.Effects.{after_take, after_entry, after_emit, after_end, next_entry, next_output, HasStamp}
use Rattle.master_core.specs.Effects.{before_touch, before_read, after_touch, after_read}
use Rattle.round_order.specs.Receipts.{Receipt, Receipts, after}
use Rattle.round_order.specs.Home.{IsSeat}
use Rattle.round_order.specs.Growth.{IsNextOf, IsPrivate, Touches, Reads, part_after}

abbrev unlogged : {V : Type 0} → Meaning V → ℕ → Act V → Thread → Receipt V
unlogged m t act th = record {
  step = record { thread = t; act = act; after = th };
  answer = None;
  found = m.fresh 0;
  place = 0;
  stamp = [];
}

abbrev pub take_receipt : {V : Type 0} → Meaning V → ℕ → ThreadPart → Packet → Receipt V
take_receipt m t part packet =
    unlogged m t (Took (part.counts.taken + 1)) (holding (part.counts.taken + 1) packet (m.begin packet))

abbrev pub emit_receipt : {V : Type 0} → Meaning V → ℕ → ThreadPart → Packet → Local → Receipt V
emit_receipt m t part packet place =
    unlogged m t (Emitted (emission_of_output (next_output t part packet (m.out packet place))))
    (holding part.counts.taken packet (m.emitted place))

abbrev pub end_receipt : {V : Type 0} → Meaning V → ℕ → ThreadPart → Receipt V
end_receipt m t part = unlogged m t (Ended part.counts.taken) (record { taken = part.counts.taken; hand = None })

-- of an answer that was told
abbrev pub hear_receipt : {V : Type 0} → Meaning V → ℕ → ThreadPart → Packet → Local → What → ℕ → List ℕ → Receipt V
hear_receipt m t part packet place what answer stamp = record {
  step = record {
    thread = t;
    act = Did (plain_entry (next_entry t part what stamp)) None;
    after = holding part.counts.taken packet (m.told answer place);
  };
  answer = Some answer;
  found = m.fresh 0;
  place = 0;
  stamp = stamp;
}

abbrev pub touch_receipt : {V : Type 0} → Meaning V → ℕ → ThreadPart → Packet → Local → ℕ → VarPart V → List ℕ
    → Receipt V
touch_receipt m t part packet place v x stamp = record {
  step = record {
    thread = t;
    act = Did (plain_entry (next_entry t part (Touched v (x.places + 1)) stamp)) (Some (m.touch v x.value place).0);
    after = holding part.counts.taken packet (m.touch v x.value place).1;
  };
  answer = None;
  found = x.value;
  place = x.places;
  stamp = stamp;
}

abbrev pub read_receipt : {V : Type 0} → Meaning V → ℕ → ThreadPart → Packet → Local → ℕ → VarPart V → List ℕ
    → Receipt V
read_receipt m t part packet place v x stamp = record {
  step = record {
    thread = t;
    act = Did (plain_entry (next_entry t part (Looked v x.places) stamp)) None;
    after = holding part.counts.taken packet (m.look v x.value place);
  };
  answer = None;
  found = x.value;
  place = x.places;
  stamp = stamp;
}

-- A thread of the round has this part, and made the moves that the part says.
pub record HasPart {V : Type 0} (threads : ℕ) (past : List (Step V)) (rs : Receipts V) (t : ℕ)
    (part : ThreadPart) : Type 0 where
  pub below : t < threads
  pub seat : IsSeat past rs t part
  pub held : in_hand_count part.hand ≤ part.counts.taken

-- its packet in hand is at this place
abbrev pub HasHand : {V : Type 0} → List (Step V) → Receipts V → ℕ → Packet → Local → Type 0
HasHand past rs t packet place =
    (thread_after (after (rs t) past) t).hand ≡ Some (record { packet = packet; place = place })

-- The receipt is of the thread's next move, which leaves it this part.
abbrev pub Leaves : {V : Type 0} → Meaning V → (ℕ → List Packet) → ℕ → List (Step V) → Receipts V → ThreadPart
    → Receipt V → ThreadPart → Type 0
Leaves m inputs threads past rs part r left = IsNextOf m inputs threads past rs part r × (part_after part r ≡ left)

abbrev pub Takes : Type 0 → Type 0
Takes X =
    (m : Meaning X) (inputs : ℕ → List Packet) (threads : ℕ) (past : List (Step X)) (rs : Receipts X) (t : ℕ)
    (part : ThreadPart) (packet : Packet) → HasPart threads past rs t part
    → (thread_after (after (rs t) past) t).hand ≡ None → slice_get (inputs t) part.counts.taken ≡ Some packet
    → Leaves m inputs threads past rs part (take_receipt m t part packet) (after_take part (m.begin packet))
    × IsPrivate part (take_receipt m t part packet)

abbrev pub Emits : Type 0 → Type 0
Emits X =
    (m : Meaning X) (inputs : ℕ → List Packet) (threads : ℕ) (past : List (Step X)) (rs : Receipts X) (t : ℕ)
    (part : ThreadPart) (packet : Packet) (place : Local) → HasPart threads past rs t part
    → HasHand past rs t packet place → m.next place ≡ Emit
    → Leaves m inputs threads past rs part (emit_receipt m t part packet place) (after_emit part (m.emitted place))
    × IsPrivate part (emit_receipt m t part packet place)

abbrev pub EndsPacket : Type 0 → Type 0
EndsPacket X =
    (m : Meaning X) (inputs : ℕ → List Packet) (threads : ℕ) (past : List (Step X)) (rs : Receipts X) (t : ℕ)
    (part : ThreadPart) (packet : Packet) (place : Local) → HasPart threads past rs t part
    → HasHand past rs t packet place → m.next place ≡ End
    → Leaves m inputs threads past rs part (end_receipt m t part) (after_end part)
    × IsPrivate part (end_receipt m t part)

abbrev pub HearsTime : Type 0 → Type 0
HearsTime X =
    (m : Meaning X) (inputs : ℕ → List Packet) (threads : ℕ) (past : List (Step X)) (rs : Receipts X) (t : ℕ)
    (part : ThreadPart) (packet : Packet) (place : Local) (a : ℕ) (stamp : List ℕ) → HasPart threads past rs t part
    → HasHand past rs t packet place → m.next place ≡ Clock
    → HasStamp (next_entry t part (Told a) stamp) (λ u. slice_index part.stamp u)
    → Leaves m inputs threads past rs part (hear_receipt m t part packet place (Told a) a stamp)
    (after_entry part (m.told a place) stamp)
    × IsPrivate part (hear_receipt m t part packet place (Told a) a stamp)

abbrev pub HearsWord : Type 0 → Type 0
HearsWord X =
    (m : Meaning X) (inputs : ℕ → List Packet) (threads : ℕ) (past : List (Step X)) (rs : Receipts X) (t : ℕ)
    (part : ThreadPart) (packet : Packet) (place : Local) (a : ℕ) (stamp : List ℕ) → HasPart threads past rs t part
    → HasHand past rs t packet place → m.next place ≡ Draw
    → HasStamp (next_entry t part (Drawn a) stamp) (λ u. slice_index part.stamp u)
    → Leaves m inputs threads past rs part (hear_receipt m t part packet place (Drawn a) a stamp)
    (after_entry part (m.told a place) stamp)
    × IsPrivate part (hear_receipt m t part packet place (Drawn a) a stamp)

abbrev pub TouchesHome : Type 0 → Type 0
TouchesHome X =
    (m : Meaning X) (inputs : ℕ → List Packet) (threads : ℕ) (past : List (Step X)) (rs : Receipts X) (t : ℕ)
    (part : ThreadPart) (packet : Packet) (place : Local) (v : ℕ) (x : VarPart X) (stamp : List ℕ)
    → HasPart threads past rs t part → HasHand past rs t packet place → m.next place ≡ Access v
    → HasStamp (next_entry t part (Touched v (x.places + 1)) stamp) (before_touch part x)
    → Leaves m inputs threads past rs part (touch_receipt m t part packet place v x stamp)
    (after_entry part (m.touch v x.value place).1 stamp)
    × Touches v part x (after_touch m v place x stamp) (touch_receipt m t part packet place v x stamp)

abbrev pub ReadsHome : Type 0 → Type 0
ReadsHome X =
    (m : Meaning X) (inputs : ℕ → List Packet) (threads : ℕ) (past : List (Step X)) (rs : Receipts X) (t : ℕ)
    (part : ThreadPart) (packet : Packet) (place : Local) (v : ℕ) (x : VarPart X) (stamp readers : List ℕ)
    → HasPart threads past rs t part → HasHand past rs t packet place → m.next place ≡ Read v
    → HasStamp (next_entry t part (Looked v x.places) stamp) (before_read part x)
    → ((u : ℕ) → slice_index readers u ≡ max (slice_index x.readers u) (slice_index stamp u))
    → Leaves m inputs threads past rs part (read_receipt m t part packet place v x stamp)
    (after_entry part (m.look v x.value place) stamp)
    × Reads v part x (after_read x readers) (read_receipt m t part packet place v x stamp)
