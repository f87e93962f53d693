-- Where the packets of a run are: sent out, counted as dropped, or in hand.
use Rattle.std.specs.Prelude.{◌≡◌, ℕ, ◌+◌, ◌%◌, ◌^◌, ◌<◌, ◌==◌, cond, nat_eq, if◌then◌else◌, List, []}
use Rattle.std.specs.Prelude.{◌∷◌, sum, Option, Some, None}
use Rattle.plain_text.specs.declared.packet.Packet.{Packet}
use Rattle.entry_order.specs.Log.{touches}
use Rattle.entry_order.specs.Stamps.{sum_below}
use Rattle.plain_machine.specs.Machine.{Hand}
use Rattle.plain_machine.specs.History.{Act, Took, Did, Emitted, Ended, Step, thread_after, value_after, IsHistory}
use Rattle.nat_tables.specs.Ports.{one_if}
use Rattle.balancer_box.specs.declared.value.BalancerValue.{BalancerValue}
use Rattle.balancer_box.specs.declared.value.BalancerValue.TheVariants.{Dropped, Loaded, Connected}
use Rattle.balancer_box.specs.Settings.{Settings, AreSettings}
use Rattle.balancer_box.specs.Balancer.{balancer_meaning}

-- how many packets a run took, and how many it sent out

abbrev pub taken_by : Act BalancerValue → ℕ
taken_by (Took k) = 1
taken_by (Did entry left) = 0
taken_by (Emitted o) = 0
taken_by (Ended k) = 0

abbrev pub packets_taken : List (Step BalancerValue) → ℕ
packets_taken [] = 0
packets_taken (x ∷ earlier) = taken_by x.act + packets_taken earlier

abbrev pub sent_by : Act BalancerValue → ℕ
sent_by (Took k) = 0
sent_by (Did entry left) = 0
sent_by (Emitted o) = 1
sent_by (Ended k) = 0

abbrev pub packets_sent : List (Step BalancerValue) → ℕ
packets_sent [] = 0
packets_sent (x ∷ earlier) = sent_by x.act + packets_sent earlier

-- the counts of drops by reason, of which variable 0 has the value

abbrev pub drop_counts : BalancerValue → List ℕ
drop_counts (Dropped d) = d.counts
drop_counts (Loaded loads) = []
drop_counts (Connected es) = []

abbrev pub packets_dropped : Settings → List (Step BalancerValue) → ℕ
packets_dropped s steps = sum (drop_counts (value_after (balancer_meaning s) steps 0))

-- How often the packet that the thread took last went out or was counted as dropped, which is a touch of variable 0

abbrev pub outcomes_by : Act BalancerValue → ℕ → ℕ
outcomes_by (Took k) n = 0
outcomes_by (Did entry left) n = if touches 0 entry.what then n + 1 else n
outcomes_by (Emitted o) n = n + 1
outcomes_by (Ended k) n = n

abbrev pub outcomes : ℕ → List (Step BalancerValue) → ℕ
outcomes t [] = 0
outcomes t (x ∷ earlier) = cond (nat_eq x.thread t) (outcomes_by x.act (outcomes t earlier)) (outcomes t earlier)

-- the packets in hand that neither went out nor were counted yet
abbrev pub waits : Option Hand → ℕ → ℕ
waits None n = 0
waits (Some h) n = one_if (n == 0)

abbrev pub packets_waiting : ℕ → List (Step BalancerValue) → ℕ
packets_waiting threads steps = sum_below threads (λ t. waits (thread_after steps t).hand (outcomes t steps))

-- Each packet that a run took went out, was counted as dropped, or is in hand. Counts are modulo 2^64.
abbrev pub NoPacketVanishes : Type 0
NoPacketVanishes =
    (s : Settings) (threads : ℕ) (inputs : ℕ → List Packet) (steps : List (Step BalancerValue))
    → AreSettings s → IsHistory (balancer_meaning s) inputs threads steps
    → packets_taken steps % 2 ^ 64
    ≡ (packets_sent steps + packets_dropped s steps + packets_waiting threads steps) % 2 ^ 64

-- so where no packet is in hand, each went out or was counted as dropped
abbrev pub NoPacketVanishesAtRest : Type 0
NoPacketVanishesAtRest =
    (s : Settings) (threads : ℕ) (inputs : ℕ → List Packet) (steps : List (Step BalancerValue))
    → AreSettings s → IsHistory (balancer_meaning s) inputs threads steps
    → ((t : ℕ) → t < threads → (thread_after steps t).hand ≡ None)
    → packets_taken steps % 2 ^ 64 ≡ (packets_sent steps + packets_dropped s steps) % 2 ^ 64

-- and of each packet: when the work on it ends, it went out once or was counted once as dropped
abbrev pub EachHasOneOutcome : Type 0
EachHasOneOutcome =
    (s : Settings) (threads : ℕ) (inputs : ℕ → List Packet) (x : Step BalancerValue)
    (earlier : List (Step BalancerValue)) (k : ℕ) → AreSettings s
    → IsHistory (balancer_meaning s) inputs threads (x ∷ earlier) → x.act ≡ Ended k
    → outcomes x.thread earlier ≡ 1
