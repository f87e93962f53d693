-- The woven round: all receipts of a round in one list, NEWEST FIRST, which no thread ever had. Its order is the one in
-- which a run is finished after a crash: by weight, then thread, each logged move after the unlogged moves of its
-- thread that lead to it.
use Rattle.std.specs.Prelude.{◌≡◌, ℕ, ◌<◌, ◌≤◌, ◌⊎◌, List, [], ◌∷◌, ◌++◌, Ok, slice_index}
use Rattle.plain_text.specs.declared.packet.Packet.{Packet}
use Rattle.entry_order.specs.Log.{Entry, IsIn}
use Rattle.entry_order.specs.Stamps.{IsStamp}
use Rattle.plain_machine.specs.declared.plain_move.PlainMove.{PlainMove}
use Rattle.plain_machine.specs.Program.{Meaning}
use Rattle.plain_machine.specs.History.{Step, log_of, play}
use Rattle.plain_machine.specs.Continue.{IsLed}
use Rattle.plain_machine.specs.Line as line
use Rattle.round_order.specs.Receipts.{Receipt, Receipts, Among, own, after, moves_in, entries_in, IsLogged, IsUnlogged}
use Rattle.round_order.specs.Receipts.{weight}
use Rattle.round_order.specs.Linked.{IsLinked}

-- the logged receipts stand so that none is heavier than a newer one
abbrev pub IsRising : {V : Type 0} → List (Receipt V) → Type 0
IsRising [] = Unit {0}
IsRising {V} (r ∷ earlier) =
    ((e d : Entry) (x : Receipt V) → IsLogged r e → Among x earlier → IsLogged x d → weight x ≤ weight r)
    × IsRising earlier

-- One order of all receipts of a round: those of each thread keep theirs, and the logged ones rise in weight.
pub record IsOrder {V : Type 0} (rs : Receipts V) (order : List (Receipt V)) : Type 0 where
  pub each : (t : ℕ) → own t order ≡ rs t
  pub rising : IsRising order

-- x goes before r: it has less weight, or the same and a lesser thread
abbrev pub GoesBefore : {V : Type 0} → Receipt V → Receipt V → Type 0
GoesBefore x r = (weight x < weight r) ⊎ ((weight x ≡ weight r) × (x.step.thread < r.step.thread))

-- the logged receipts stand by weight, then thread
abbrev pub IsByWeight : {V : Type 0} → List (Receipt V) → Type 0
IsByWeight [] = Unit {0}
IsByWeight {V} (r ∷ earlier) =
    ((e d : Entry) (x : Receipt V) → IsLogged r e → Among x earlier → IsLogged x d → GoesBefore x r)
    × IsByWeight earlier

-- each unlogged receipt stands right before one of its thread
abbrev pub LeadsTo : {V : Type 0} → Receipt V → List (Receipt V) → Type 0
LeadsTo r [] = Unit {0}
LeadsTo r (x ∷ earlier) =
    (((e : Entry) × IsLogged x e) ⊎ (IsUnlogged x × (x.step.thread ≡ r.step.thread))) × LeadsTo x earlier

-- and so all lead up to a logged one, which is the newest
abbrev pub IsLedUp : {V : Type 0} → List (Receipt V) → Type 0
IsLedUp [] = Unit {0}
IsLedUp (r ∷ earlier) = ((e : Entry) × IsLogged r e) × LeadsTo r earlier

-- none is logged, and they stand thread by thread
abbrev pub IsByThread : {V : Type 0} → List (Receipt V) → Type 0
IsByThread [] = Unit {0}
IsByThread {V} (r ∷ earlier) =
    IsUnlogged r × ((x : Receipt V) → Among x earlier → x.step.thread ≤ r.step.thread) × IsByThread earlier

-- The woven list: the logged receipts by weight, then thread, each after its thread's unlogged ones that lead to it,
-- and then, thread by thread, the unlogged ones that are left.
pub record IsWoven {V : Type 0} (rs : Receipts V) (order : List (Receipt V)) : Type 0 where
  pub each : (t : ℕ) → own t order ≡ rs t
  pub by_weight : IsByWeight order
  pub left : List (Receipt V)
  pub led : List (Receipt V)
  pub parts : order ≡ left ++ led
  pub leads : IsLedUp led
  pub rest : IsByThread left

-- A legal list of moves goes on with the moves of the order, and is legal: its history is that of the receipts, and
-- each logged move has in its log the stamp of its receipt.
pub record GoesOn {V : Type 0} (m : Meaning V) (inputs : ℕ → List Packet) (threads : ℕ) (moves : List PlainMove)
    (past : List (Step V)) (order : List (Receipt V)) : Type 0 where
  pub legal : play m inputs threads (moves ++ moves_in order) ≡ Ok (after order past)
  pub entries_are : log_of (after order past) ≡ entries_in order ++ log_of past
  pub stamps : (r : Receipt V) (e : Entry) → Among r order → IsLogged r e
      → IsIn e (log_of (after order past)) × IsStamp (log_of (after order past)) e (λ u. slice_index r.stamp u)

-- Receipts that are linked from a history weave into a legal continuation of it, in each such order.
abbrev pub Weaving : Type 0 → Type 0
Weaving X =
    (m : Meaning X) (inputs : ℕ → List Packet) (threads : ℕ) (moves : List PlainMove) (past : List (Step X))
    (rs : Receipts X) (order : List (Receipt X)) → threads ≤ 16 → play m inputs threads moves ≡ Ok past
    → IsLinked m inputs threads past rs → IsOrder rs order → GoesOn m inputs threads moves past order

-- The history of a woven list is put in order as the line of a run that is finished: up to its last entry, it is led on
-- by its entries, which stand by their weights in its log, then by their threads.
pub record IsLine {V : Type 0} (past : List (Step V)) (order : List (Receipt V)) (led : List (Receipt V)) : Type 0 where
  pub entries_are : entries_in led ≡ entries_in order
  pub log_is : log_of (after led past) ≡ log_of (after order past)
  pub in_order : line.IsByWeight (log_of (after led past)) (entries_in order)
  pub led_on : IsLed past (entries_in order) (after led past)

abbrev pub WovenLine : Type 0 → Type 0
WovenLine X =
    (m : Meaning X) (inputs : ℕ → List Packet) (threads : ℕ) (moves : List PlainMove) (past : List (Step X))
    (rs : Receipts X) (order : List (Receipt X)) → threads ≤ 16 → play m inputs threads moves ≡ Ok past
    → IsLinked m inputs threads past rs → (w : IsWoven rs order) → IsLine past order w.led

-- Linked receipts have a woven list.
abbrev pub WovenThere : Type 0 → Type 0
WovenThere X = (m : Meaning X) (inputs : ℕ → List Packet) (threads : ℕ) (past : List (Step X)) (rs : Receipts X)
    → threads ≤ 16 → IsLinked m inputs threads past rs → (order : List (Receipt X)) × IsWoven rs order
