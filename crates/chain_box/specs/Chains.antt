-- Two recovering systems in a chain: what they have in memory, which worlds they stand for, and what performing an
-- event of one of them makes of both.
use Rattle.std.specs.Prelude.{◌≡◌, Bool, All, List, false}
use Rattle.plain_text.specs.declared.limit.Limit.{Limit}
use Rattle.plain_text.specs.declared.packet.Packet.{Packet}
use Rattle.plain_text.specs.Packets.{IsShort}
use Rattle.plain_machine.specs.Program.{Meaning}
use Rattle.recovery_world.specs.World.{Setting, Sent, World}
use Rattle.recovery_world.specs.Files.{sent_names}
use Rattle.event_replies.specs.declared.reply.Reply.{Reply}
use Rattle.longer_captures.specs.Longer.{with_more}
use Rattle.chain_world.specs.declared.chain_event.ChainEvent.{ChainEvent}
use Rattle.chain_world.specs.Chain.{Chained, behind, OnChain, StopsChain}
use Rattle.recovery_core.specs.Systems.{Systemed, HasReleased, SystemStands}

-- both systems, and whether an event did not end
pub record TwoSystems (P V Q U : Type 0) : Type 0 where
  pub first : Systemed P V
  pub second : Systemed Q U
  pub stopped : Bool

abbrev pub both : {P V Q U : Type 0} → Systemed P V → Systemed Q U → TwoSystems P V Q U
both first second = record { first = first; second = second; stopped = false }

-- The systems stand for the worlds of a chain: the capture of the second is what the first has released.
pub record ChainStands {P V Q U : Type 0} (m : Meaning V) (n : Meaning U) (s : Setting V) (r : Setting U)
    (c : Chained V U) (first : Systemed P V) (second : Systemed Q U) : Type 0 where
  pub at_first : SystemStands m s c.first first
  pub at_second : SystemStands n (behind r c.first) c.second second

-- They can go on: they stand for some worlds, on packets that a record can have.
pub record IsGoing {P V Q U : Type 0} (m : Meaning V) (n : Meaning U) (first : Systemed P V) (second : Systemed Q U)
    : Type 0 where
  pub first_runs : first.stopped ≡ false
  pub second_runs : second.stopped ≡ false
  pub first_setting : Setting V
  pub second_setting : Setting U
  pub worlds : Chained V U
  pub stands : ChainStands m n first_setting second_setting worlds first second
  pub short : All IsShort first_setting.packets

-- The worlds moved so, from any that the systems stood for, and they stand for them now. Nothing was handed over.
abbrev pub MovesBoth : {P V Q U : Type 0} → Meaning V → Meaning U
    → (Setting V → Setting U → Chained V U → Chained V U → Type 0) → TwoSystems P V Q U → TwoSystems P V Q U → Type 0
MovesBoth {P} {V} {Q} {U} m n R old new =
    (new.first.parts.program ≡ old.first.parts.program)
    × (new.second.parts.program ≡ old.second.parts.program)
    × (new.first.handed ≡ old.first.handed)
    × (new.second.handed ≡ old.second.handed)
    × ((s : Setting V) (r : Setting U) (c : Chained V U) → ChainStands m n s r c old.first old.second
    → (next : Chained V U) × R s r c next × ChainStands m n s r next new.first new.second)

-- The worlds stopped so, and what they released before is there.
abbrev pub HaltsBoth : {P V Q U : Type 0} → Meaning V → Meaning U
    → (Setting V → Setting U → Chained V U → Chained V U → Type 0) → TwoSystems P V Q U → TwoSystems P V Q U → Type 0
HaltsBoth {P} {V} {Q} {U} m n R old new =
    (new.first.handed ≡ old.first.handed)
    × (new.second.handed ≡ old.second.handed)
    × ((s : Setting V) (r : Setting U) (c : Chained V U) → ChainStands m n s r c old.first old.second
    → (next : Chained V U) × R s r c next × HasReleased next.first new.first × HasReleased next.second new.second)

-- an event of one of the systems, with this reply
abbrev pub RepliesInChain : {V U : Type 0} → ChainEvent → Reply → Setting V → Setting U → Chained V U → Chained V U
    → Type 0
RepliesInChain ev reply s r c next =
    (freed : List Sent) × OnChain s r c ev reply.outcome freed next × (reply.released ≡ sent_names freed)

-- it stops at this limit
abbrev pub StopsInChain : {V U : Type 0} → ChainEvent → Limit → Setting V → Setting U → Chained V U → Chained V U
    → Type 0
StopsInChain ev limit s r c next = StopsChain s r c ev limit next

-- Packets were put behind those of the capture of a system, and all else stays.
pub record PassesOn {Q U : Type 0} (n : Meaning U) (packets : List Packet) (old new : Systemed Q U) : Type 0 where
  pub stands : (r : Setting U) (w : World U) → SystemStands n r w old → SystemStands n (with_more r packets) w new
  pub program : new.parts.program ≡ old.parts.program
  pub runs : new.stopped ≡ false
  pub handed : new.handed ≡ old.handed
  pub fresh : new.fresh ≡ old.fresh
