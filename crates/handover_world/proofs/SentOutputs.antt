-- An output of a past: whether it was sent, and that none other has its name.
use Rattle.std.proofs.Common.{◌≡◌, ℕ, ◌≢◌, List, [], ◌∷◌, refl, ap, inl, inr, ◌⊎◌}
use Rattle.plain_text.specs.declared.packet.Packet.{Packet}
use Rattle.entry_order.specs.Log.{entries}
use Rattle.entry_order.proofs.Order.{is_or}
use Rattle.entry_order.proofs.ClosedParts.{Or}
use Rattle.entry_order.proofs.Missing.{output_in}
use Rattle.plain_machine.specs.declared.emission.Emission.{Emission}
use Rattle.plain_machine.specs.Program.{Meaning}
use Rattle.plain_machine.specs.History.{Act, Took, Did, Emitted, Ended, Step, log_of, IsHistory}
use Rattle.plain_machine.specs.Agree.{SendsAfter}
use Rattle.plain_machine.proofs.Agreement.{histories_agree}

-- Of two sendings with one name there is one.
pub sends_one : {V : Type 0} (m : Meaning V) (inputs : ℕ → List Packet) (threads : ℕ) (steps : List (Step V))
    (o p : Emission) (n k : ℕ) → IsHistory m inputs threads steps → SendsAfter steps o n → SendsAfter steps p k
    → o.thread ≡ p.thread → o.number ≡ p.number → (o ≡ p) × (n ≡ k)
sends_one m inputs threads steps o p n k h a b t j =
    (histories_agree m inputs threads steps steps (log_of steps) h h (λ e f he hf next. he) (λ e i. i) (λ e i. i)).1
    o p n k a b t j (λ e before. output_in (log_of steps) o.thread n e before)

-- Whether an output was sent

numbers_or : (xs ys : List ℕ) → Or (xs ≡ ys)
numbers_or [] [] = inl refl
numbers_or [] (y ∷ ys) = inr (λ e. cc)
numbers_or (x ∷ xs) [] = inr (λ e. cc)
numbers_or (x ∷ xs) (y ∷ ys) = go (is_or x y) (numbers_or xs ys)
  where
    go : (x ≡ y) ⊎ (x ≢ y) → Or (xs ≡ ys) → Or (x ∷ xs ≡ y ∷ ys)
    go (inl a) (inl b) = inl (cc)
    go (inr a) b = inr (λ e. let k : x ≡ y = cc in a k)
    go (inl a) (inr b) = inr (λ e. let k : xs ≡ ys = cc in b k)

same_packet : {seconds seconds' fraction fraction' original original' : ℕ} {bytes bytes' : List ℕ} → seconds ≡ seconds'
    → fraction ≡ fraction' → original ≡ original' → bytes ≡ bytes'
    → ◌≡◌ {A = Packet} (record { seconds = seconds; fraction = fraction; original = original; bytes = bytes })
    (record { seconds = seconds'; fraction = fraction'; original = original'; bytes = bytes' })
same_packet a b c d = cc

packet_or : (p q : Packet) → Or (p ≡ q)
packet_or p q =
    go (is_or p.seconds q.seconds) (is_or p.fraction q.fraction) (is_or p.original q.original)
    (numbers_or p.bytes q.bytes)
  where
    go : (p.seconds ≡ q.seconds) ⊎ (p.seconds ≢ q.seconds) → (p.fraction ≡ q.fraction) ⊎ (p.fraction ≢ q.fraction)
        → (p.original ≡ q.original) ⊎ (p.original ≢ q.original) → Or (p.bytes ≡ q.bytes) → Or (p ≡ q)
    go (inl a) (inl b) (inl c) (inl d) = inl (same_packet a b c d)
    go (inr a) b c d = inr (λ e. a (ap (λ (z : Packet). z.seconds) e))
    go (inl a) (inr b) c d = inr (λ e. b (ap (λ (z : Packet). z.fraction) e))
    go (inl a) (inl b) (inr c) d = inr (λ e. c (ap (λ (z : Packet). z.original) e))
    go (inl a) (inl b) (inl c) (inr d) = inr (λ e. d (ap (λ (z : Packet). z.bytes) e))

same_emission : {thread thread' number number' input input' : ℕ} {packet packet' : Packet} → thread ≡ thread'
    → number ≡ number' → input ≡ input' → packet ≡ packet'
    → ◌≡◌ {A = Emission} (record { thread = thread; number = number; input = input; packet = packet })
    (record { thread = thread'; number = number'; input = input'; packet = packet' })
same_emission a b c d = cc

emission_or : (o p : Emission) → Or (o ≡ p)
emission_or o p =
    go (is_or o.thread p.thread) (is_or o.number p.number) (is_or o.input p.input) (packet_or o.packet p.packet)
  where
    go : (o.thread ≡ p.thread) ⊎ (o.thread ≢ p.thread) → (o.number ≡ p.number) ⊎ (o.number ≢ p.number)
        → (o.input ≡ p.input) ⊎ (o.input ≢ p.input) → Or (o.packet ≡ p.packet) → Or (o ≡ p)
    go (inl a) (inl b) (inl c) (inl d) = inl (same_emission a b c d)
    go (inr a) b c d = inr (λ e. a (ap (λ (z : Emission). z.thread) e))
    go (inl a) (inr b) c d = inr (λ e. b (ap (λ (z : Emission). z.number) e))
    go (inl a) (inl b) (inr c) d = inr (λ e. c (ap (λ (z : Emission). z.input) e))
    go (inl a) (inl b) (inl c) (inr d) = inr (λ e. d (ap (λ (z : Emission). z.packet) e))

act_or : {V : Type 0} (a : Act V) (o : Emission) → Or (a ≡ Emitted o)
act_or (Took k) o = inr (λ e. cc)
act_or (Did f left) o = inr (λ e. cc)
act_or {V} (Emitted p) o = go (emission_or p o)
  where
    go : Or (p ≡ o) → Or (let a : Act V = Emitted p in a ≡ Emitted o)
    go (inl e) = inl (ap (λ (z : Emission). let a : Act V = Emitted z in a) e)
    go (inr n) = inr (λ e. let k : p ≡ o = cc in n k)
act_or (Ended k) o = inr (λ e. cc)

pub sends_or : {V : Type 0} (steps : List (Step V)) (o : Emission) (n : ℕ) → Or (SendsAfter steps o n)
sends_or [] o n = inr (λ h. h)
sends_or {V} (x ∷ earlier) o n =
    go (act_or x.act o) (is_or (entries o.thread (log_of earlier)) n) (sends_or earlier o n)
  where
    go : Or (x.act ≡ Emitted o)
        → (entries o.thread (log_of earlier) ≡ n) ⊎ (entries o.thread (log_of earlier) ≢ n)
        → Or (SendsAfter earlier o n) → Or (SendsAfter (x ∷ earlier) o n)
    go a b (inl k) = inl (inr k)
    go (inl a) (inl b) (inr k) = inl (inl (a, b))
    go (inr a) b (inr k) = inr out
      where
        out : ((x.act ≡ Emitted o) × (entries o.thread (log_of earlier) ≡ n)) ⊎ SendsAfter earlier o n → ⊥
        out (inl e) = a e.0
        out (inr e) = k e
    go (inl a) (inr b) (inr k) = inr out
      where
        out : ((x.act ≡ Emitted o) × (entries o.thread (log_of earlier) ≡ n)) ⊎ SendsAfter earlier o n → ⊥
        out (inl e) = b e.1
        out (inr e) = k e
