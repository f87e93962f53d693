-- In a settled world the packets that were taken are those of the capture, and those that were released are what the
-- run sent out.
use Rattle.std.proofs.Common.{◌≡◌, ◌≢◌, ℕ, ◌+◌, ◌≤◌, true, List, [], ◌∷◌, length, refl, sym, ap}
use Rattle.std.proofs.Common.{◌∙◌, arith, Option}
use Rattle.plain_text.specs.declared.packet.Packet.{Packet}
use Rattle.entry_order.specs.Stamps.{sum_below}
use Rattle.entry_order.proofs.Weights.{sum_below_same}
use Rattle.plain_machine.specs.Program.{Meaning}
use Rattle.plain_machine.specs.Machine.{Hand, Thread, Effect, Takes, Touches, Looks, HearsClock, HearsDraw, Sends, Ends}
use Rattle.plain_machine.specs.Machine.{Moves, held_move}
use Rattle.plain_machine.specs.History.{Act, Took, Did, Emitted, Ended, Step, sent_more, sent_of, act_of, log_of}
use Rattle.plain_machine.specs.History.{thread_after, value_after, IsHistory}
use Rattle.plain_machine.proofs.Histories.{not_eq, is_eq}
use Rattle.monitor_box.specs.Arrivals.{shares}
use Rattle.monitor_box.proofs.ChangedSums.{one_changes, sum_of_none}
use Rattle.recovery_world.specs.World.{Setting, Sent, World, all_inputs}
use Rattle.recovery_laws.specs.Settled.{IsSettled}
use Rattle.settled_boxes.proofs.SteeredSums.{steered_sum}
use Rattle.box_worlds.proofs.ThreadMoves.{IsBetween, by_move}
use Rattle.box_worlds.proofs.SameOutputs.{how_many, as_many}
use Rattle.box_worlds.proofs.SentSteps.{sent_on, sents, sends_among, among_sends, sent_once}

abbrev pub takes_by : {V : Type 0} → Act V → ℕ
takes_by (Took k) = 1
takes_by (Did entry left) = 0
takes_by (Emitted o) = 0
takes_by (Ended k) = 0

-- how many packets all threads took
abbrev pub takes : {V : Type 0} → List (Step V) → ℕ
takes [] = 0
takes (x ∷ earlier) = takes_by x.act + takes earlier

abbrev takes_of : {V : Type 0} → Effect V → ℕ
takes_of Takes = 1
takes_of (Touches v left) = 0
takes_of (Looks v) = 0
takes_of (HearsClock a) = 0
takes_of (HearsDraw a) = 0
takes_of (Sends p) = 0
takes_of Ends = 0

act_takes : {V : Type 0} (t taken : ℕ) (A : List (Step V)) (d : Effect V) → takes_by (act_of t A taken d) ≡ takes_of d
act_takes t taken A Takes = refl
act_takes t taken A (Touches v left) = refl
act_takes t taken A (Looks v) = refl
act_takes t taken A (HearsClock a) = refl
act_takes t taken A (HearsDraw a) = refl
act_takes t taken A (Sends p) = refl
act_takes t taken A Ends = refl

between_takes : {V : Type 0} (d : Effect V) (n : ℕ) → IsBetween d → n ≡ takes_of d + n
between_takes Takes n between = absurd between
between_takes (Touches v left) n between = omega arith
between_takes (Looks v) n between = omega arith
between_takes (HearsClock a) n between = omega arith
between_takes (HearsDraw a) n between = omega arith
between_takes (Sends p) n between = omega arith
between_takes Ends n between = absurd between

-- a move takes one more, or none
taken_on : {V : Type 0} (m : Meaning V) (packets : List Packet) (value : ℕ → V) (taken : ℕ) (a : Option ℕ)
    (hand : Option Hand) (after : Thread) (d : Effect V) → held_move m packets value taken a hand ≡ Moves after d
    → after.taken ≡ takes_of d + taken
taken_on m packets value taken = by_move m packets value taken (λ hand after d. after.taken ≡ takes_of d + taken)
    (λ p. omega arith) (λ h place d between. between_takes d taken between) (λ h. omega arith)

pub taken_more : {V : Type 0} (m : Meaning V) (inputs : ℕ → List Packet) (threads : ℕ) (x : Step V)
    (earlier : List (Step V)) → IsHistory m inputs threads (x ∷ earlier)
    → x.after.taken ≡ takes_by x.act + (thread_after earlier x.thread).taken
taken_more {V} m inputs threads x earlier h =
    taken_on m (inputs x.thread) (value_after m earlier) (thread_after earlier x.thread).taken h.0.1
    (thread_after earlier x.thread).hand x.after h.0.2 h.0.3
    ∙ ap (λ (n : ℕ). n + (thread_after earlier x.thread).taken)
    (sym (ap (λ (a : Act V). takes_by a) h.0.4 ∙ act_takes x.thread x.after.taken earlier h.0.2))

sum_taken : {V : Type 0} (m : Meaning V) (inputs : ℕ → List Packet) (threads : ℕ) (steps : List (Step V))
    → IsHistory m inputs threads steps → sum_below threads (λ t. (thread_after steps t).taken) ≡ takes steps
sum_taken m inputs threads [] h = sum_of_none threads _ (λ t low. refl)
sum_taken {V} m inputs threads (x ∷ earlier) h =
    let one = one_changes threads x.thread (λ t. (thread_after (x ∷ earlier) t).taken)
    (λ t. (thread_after earlier t).taken) h.0.0
    (λ t other. ap (λ (y : Thread). y.taken) (stays t (λ e. other (sym e)))) in
    let old = sum_taken m inputs threads earlier h.1 in
    let own : (thread_after (x ∷ earlier) x.thread).taken ≡ x.after.taken =
    ap (λ (y : Thread). y.taken) moved in
    let more = taken_more m inputs threads x earlier h in omega (arith, one, old, own, more)
  where
    moved : thread_after (x ∷ earlier) x.thread ≡ x.after
    moved = rw (is_eq x.thread x.thread refl) refl

    stays : (t : ℕ) → x.thread ≢ t → thread_after (x ∷ earlier) t ≡ thread_after earlier t
    stays t other = rw (not_eq x.thread t other) refl

as_length : (packets : List Packet) → length packets ≡ shares (λ p. 1) packets
as_length [] = refl
as_length (p ∷ packets) = let k = as_length packets in omega arith

-- The run took all packets of the capture.
pub all_taken : {V : Type 0} (s : Setting V) (w : World V) (steps : List (Step V)) → 1 ≤ s.threads
    → IsHistory s.meaning (all_inputs s) s.threads steps → IsSettled s w steps → takes steps ≡ length s.packets
all_taken s w steps some legal settled =
    sym (sum_taken s.meaning (all_inputs s) s.threads steps legal)
    ∙ (sum_below_same s.threads (λ t. (thread_after steps t).taken) (λ t. shares (λ p. 1) (all_inputs s t))
    (λ t low. settled.taken t low ∙ as_length (all_inputs s t))
    ∙ (steered_sum (λ p. 1) s.tags s.threads s.packets some ∙ sym (as_length s.packets)))

-- What was released is as much as it sent out.

all_counted : (xs : List Sent) → how_many (λ o. true) xs ≡ length xs
all_counted [] = refl
all_counted (x ∷ xs) = let k = all_counted xs in omega arith

sents_length : {V : Type 0} (steps : List (Step V)) → length (sents steps) ≡ length (sent_of steps)
sents_length [] = refl
sents_length {V} (x ∷ earlier) = by x.act (sents_length earlier)
  where
    by : (a : Act V) → length (sents earlier) ≡ length (sent_of earlier)
        → length (sent_on a (log_of earlier) (sents earlier)) ≡ length (sent_more a (sent_of earlier))
    by (Took k) old = old
    by (Did e left) old = old
    by (Emitted o) old = omega arith
    by (Ended k) old = old

pub released_sent : {V : Type 0} (s : Setting V) (w : World V) (steps : List (Step V))
    → IsHistory s.meaning (all_inputs s) s.threads steps → IsSettled s w steps
    → length w.released ≡ length (sent_of steps)
released_sent s w steps legal settled =
    sym (all_counted w.released)
    ∙ (as_many (λ o. true) w.released (sents steps) settled.once
    (λ t j. (sent_once s.meaning (all_inputs s) s.threads steps legal t j).0)
    (λ o i. sends_among steps o (settled.only o i)) (λ o i. settled.released o (among_sends steps o i))
    ∙ (all_counted (sents steps) ∙ sents_length steps))
