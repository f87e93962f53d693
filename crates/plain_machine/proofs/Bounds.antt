-- What the laws of a program give: the values of its variables fit, and each packet is done after at most 64 moves.
use Rattle.std.proofs.Common.{◌≡◌, ℕ, ◌+◌, ◌*◌, ◌≤◌, ◌<◌, ◌≢◌, List, [], ◌∷◌, refl, sym, subst, inl, inr, ◌⊎◌, arith}
use Rattle.std.proofs.Common.{zero, suc, length, Option, Some, None}
use Rattle.std.specs.Prelude.{slice_get}
use Rattle.plain_text.specs.declared.packet.Packet.{Packet}
use Rattle.entry_order.specs.Stamps.{sum_below}
use Rattle.entry_order.proofs.Order.{is_or}
use Rattle.entry_order.proofs.Weights.{sum_below_more}
use Rattle.plain_machine.specs.declared.local.Move.{Move}
use Rattle.plain_machine.specs.declared.local.Move.TheVariants.{Access, Read, Clock, Draw, Emit, End}
use Rattle.plain_machine.specs.Program.{Meaning, IsLawful}
use Rattle.plain_machine.specs.Machine.{Hand, Thread, Effect, Takes, Touches, Looks, HearsClock, HearsDraw, Sends, Ends}
use Rattle.plain_machine.specs.Machine.{Moves, holding, take_move, hand_move, held_move, thread_move}
use Rattle.plain_machine.specs.History.{Step, act_of, left_by, moves_of, thread_after, value_after, IsHistory}
use Rattle.plain_machine.proofs.Histories.{is_eq, not_eq, moves_step}

-- The moves that a thread made, and those that it may still make with its packet, are at most 64 for each input it
-- took.
abbrev pub IsWithinBudget : {V : Type 0} → Meaning V → Option Hand → ℕ → ℕ → Type 0
IsWithinBudget m None moves taken = moves ≤ 64 * taken
IsWithinBudget m (Some h) moves taken = moves + m.rank h.place + 1 ≤ 64 * taken

module _ {X : Type 0} (m : Meaning X) (fits : ℕ → X → Type 0) (lawful : IsLawful m fits) where
  -- a move with a packet in hand lowers what is left
  hand_spends : (value : ℕ → X) (taken n : ℕ) (h : Hand) (a : Option ℕ) (w : Move) (after : Thread) (d : Effect X)
      → ((v : ℕ) → v < m.vars → fits v (value v)) → m.next h.place ≡ w → IsWithinBudget m (Some h) n taken
      → hand_move m value taken h a w ≡ Moves after d → IsWithinBudget m after.hand (n + 1) after.taken
  hand_spends value taken n h None (Access v) after d fit w low e =
      let q : holding taken h.packet (m.touch v (value v) h.place).1 ≡ after = cc in
      let falls : m.rank (m.touch v (value v) h.place).1 < m.rank h.place =
      lawful.touch_falls v (value v) h.place w (fit v (lawful.touches_var h.place v w)) in
      subst (λ (th : Thread). IsWithinBudget m th.hand (n + 1) th.taken) q (omega arith)
  hand_spends value taken n h (Some a) (Access v) after d fit w low e = absurd (cc)
  hand_spends value taken n h None (Read v) after d fit w low e =
      let q : holding taken h.packet (m.look v (value v) h.place) ≡ after = cc in
      let falls : m.rank (m.look v (value v) h.place) < m.rank h.place =
      lawful.look_falls v (value v) h.place w (fit v (lawful.reads_var h.place v w)) in
      subst (λ (th : Thread). IsWithinBudget m th.hand (n + 1) th.taken) q (omega arith)
  hand_spends value taken n h (Some a) (Read v) after d fit w low e = absurd (cc)
  hand_spends value taken n h None Clock after d fit w low e = absurd (cc)
  hand_spends value taken n h (Some a) Clock after d fit w low e =
      let q : holding taken h.packet (m.told a h.place) ≡ after = cc in
      let falls : m.rank (m.told a h.place) < m.rank h.place = lawful.clock_falls a h.place w in
      subst (λ (th : Thread). IsWithinBudget m th.hand (n + 1) th.taken) q (omega arith)
  hand_spends value taken n h None Draw after d fit w low e = absurd (cc)
  hand_spends value taken n h (Some a) Draw after d fit w low e =
      let q : holding taken h.packet (m.told a h.place) ≡ after = cc in
      let falls : m.rank (m.told a h.place) < m.rank h.place = lawful.draw_falls a h.place w in
      subst (λ (th : Thread). IsWithinBudget m th.hand (n + 1) th.taken) q (omega arith)
  hand_spends value taken n h None Emit after d fit w low e =
      let q : holding taken h.packet (m.emitted h.place) ≡ after = cc in
      let falls : m.rank (m.emitted h.place) < m.rank h.place = lawful.emit_falls h.place w in
      subst (λ (th : Thread). IsWithinBudget m th.hand (n + 1) th.taken) q (omega arith)
  hand_spends value taken n h (Some a) Emit after d fit w low e = absurd (cc)
  hand_spends value taken n h None End after d fit w low e =
      let q : record { taken = taken; hand = None } ≡ after = cc in
      subst (λ (th : Thread). IsWithinBudget m th.hand (n + 1) th.taken) q
      (let k : n + 1 ≤ 64 * taken = omega arith in k)
  hand_spends value taken n h (Some a) End after d fit w low e = absurd (cc)

  -- and a packet taken is one of 64 moves at most
  held_spends : (packets : List Packet) (value : ℕ → X) (taken n : ℕ) (a : Option ℕ) (hand : Option Hand)
      (after : Thread) (d : Effect X) → ((v : ℕ) → v < m.vars → fits v (value v)) → IsWithinBudget m hand n taken
      → held_move m packets value taken a hand ≡ Moves after d → IsWithinBudget m after.hand (n + 1) after.taken
  held_spends packets value taken n a (Some h) after d fit low e =
      hand_spends value taken n h a (m.next h.place) after d fit refl low e
  held_spends packets value taken n a None after d fit low e = go a (slice_get packets taken) e
    where
      go : (a : Option ℕ) (i : Option Packet) → take_move m taken a i ≡ Moves after d
          → IsWithinBudget m after.hand (n + 1) after.taken
      go (Some a) i e = absurd (cc)
      go None None e = absurd (cc)
      go None (Some p) e =
          let q : holding (taken + 1) p (m.begin p) ≡ after = cc in
          let begins : m.rank (m.begin p) ≤ 62 = lawful.begins p in
          subst (λ (th : Thread). IsWithinBudget m th.hand (n + 1) th.taken) q
          (let k : n + 1 + m.rank (m.begin p) + 1 ≤ 64 * (taken + 1) = omega arith in k)

  -- a touch leaves a value that fits
  hand_fits : (value : ℕ → X) (taken : ℕ) (h : Hand) (a : Option ℕ) (w : Move) (after : Thread) (v : ℕ) (left : X)
      → ((v : ℕ) → v < m.vars → fits v (value v)) → m.next h.place ≡ w
      → hand_move m value taken h a w ≡ Moves after (Touches v left) → fits v left
  hand_fits value taken h None (Access u) after v left fit w e =
      let q : Touches u (m.touch u (value u) h.place).0 ≡ Touches v left = cc in
      let var : u ≡ v = cc in
      let val : (m.touch u (value u) h.place).0 ≡ left = cc in
      subst (λ (n : ℕ). fits n left) var (subst (λ (x : X). fits u x) val
      (lawful.touch_fits u (value u) h.place w (fit u (lawful.touches_var h.place u w))))
  hand_fits value taken h (Some a) (Access u) after v left fit w e = absurd (cc)
  hand_fits value taken h None (Read u) after v left fit w e = absurd (cc)
  hand_fits value taken h (Some a) (Read u) after v left fit w e = absurd (cc)
  hand_fits value taken h None Clock after v left fit w e = absurd (cc)
  hand_fits value taken h (Some a) Clock after v left fit w e = absurd (cc)
  hand_fits value taken h None Draw after v left fit w e = absurd (cc)
  hand_fits value taken h (Some a) Draw after v left fit w e = absurd (cc)
  hand_fits value taken h None Emit after v left fit w e = absurd (cc)
  hand_fits value taken h (Some a) Emit after v left fit w e = absurd (cc)
  hand_fits value taken h None End after v left fit w e = absurd (cc)
  hand_fits value taken h (Some a) End after v left fit w e = absurd (cc)

  held_fits : (packets : List Packet) (value : ℕ → X) (taken : ℕ) (a : Option ℕ) (hand : Option Hand) (after : Thread)
      (v : ℕ) (left : X) → ((v : ℕ) → v < m.vars → fits v (value v))
      → held_move m packets value taken a hand ≡ Moves after (Touches v left) → fits v left
  held_fits packets value taken a (Some h) after v left fit e =
      hand_fits value taken h a (m.next h.place) after v left fit refl e
  held_fits packets value taken a None after v left fit e = go a (slice_get packets taken) e
    where
      go : (a : Option ℕ) (i : Option Packet) → take_move m taken a i ≡ Moves after (Touches v left) → fits v left
      go (Some a) i e = absurd (cc)
      go None None e = absurd (cc)
      go None (Some p) e = absurd (cc)

  -- the value of each variable fits after a step
  step_fits : (t taken : ℕ) (earlier : List (Step X)) (d : Effect X)
      → ((v : ℕ) (left : X) → d ≡ Touches v left → fits v left) → (v : ℕ) (x : X) → fits v x
      → fits v (left_by v (act_of t earlier taken d) x)
  step_fits t taken earlier Takes new v x fit = fit
  step_fits t taken earlier (Touches u left) new v x fit = go (is_or u v)
    where
      go : (u ≡ v) ⊎ (u ≢ v) → fits v (left_by v (act_of t earlier taken (Touches u left)) x)
      go (inl h) = rw (is_eq u v h) (subst (λ (n : ℕ). fits n left) h (new u left refl))
      go (inr h) = rw (not_eq u v h) fit
  step_fits t taken earlier (Looks u) new v x fit = fit
  step_fits t taken earlier (HearsClock a) new v x fit = fit
  step_fits t taken earlier (HearsDraw a) new v x fit = fit
  step_fits t taken earlier (Sends p) new v x fit = fit
  step_fits t taken earlier Ends new v x fit = fit

  -- The value of each variable fits after a history of a lawful program.
  pub values_fit : (inputs : ℕ → List Packet) (threads : ℕ) (steps : List (Step X)) → IsHistory m inputs threads steps
      → (v : ℕ) → v < m.vars → fits v (value_after m steps v)
  values_fit inputs threads [] h v low = lawful.fresh_fits v low
  values_fit inputs threads (x ∷ earlier) h v low =
      let old : (v : ℕ) → v < m.vars → fits v (value_after m earlier v) = values_fit inputs threads earlier h.1 in
      rw h.0.4 (step_fits x.thread x.after.taken earlier h.0.2
      (λ u left same. held_fits (inputs x.thread) (value_after m earlier) (thread_after earlier x.thread).taken h.0.1
      (thread_after earlier x.thread).hand x.after u left old
      (subst (λ (d : Effect X).
      thread_move m (inputs x.thread) (value_after m earlier) (thread_after earlier x.thread) h.0.1 ≡ Moves x.after d)
      same h.0.3)) v (value_after m earlier v) (old v low))

  thread_spent : (inputs : ℕ → List Packet) (threads : ℕ) (steps : List (Step X)) → IsHistory m inputs threads steps
      → (t : ℕ) → IsWithinBudget m (thread_after steps t).hand (moves_of t steps) (thread_after steps t).taken
  thread_spent inputs threads [] h t = omega arith
  thread_spent inputs threads (x ∷ earlier) h t = go (moves_step t x earlier)
      (thread_spent inputs threads earlier h.1 t) (thread_spent inputs threads earlier h.1 x.thread)
    where
      go : ((x.thread ≢ t) × (moves_of t (x ∷ earlier) ≡ moves_of t earlier))
          ⊎ ((x.thread ≡ t) × (moves_of t (x ∷ earlier) ≡ moves_of t earlier + 1))
          → IsWithinBudget m (thread_after earlier t).hand (moves_of t earlier) (thread_after earlier t).taken
          → IsWithinBudget m (thread_after earlier x.thread).hand (moves_of x.thread earlier)
          (thread_after earlier x.thread).taken
          → IsWithinBudget m (thread_after (x ∷ earlier) t).hand (moves_of t (x ∷ earlier))
          (thread_after (x ∷ earlier) t).taken
      go (inl k) old mine = rw (not_eq x.thread t k.0) old
      go (inr k) old mine =
          let new : IsWithinBudget m x.after.hand (moves_of x.thread earlier + 1) x.after.taken = held_spends
          (inputs x.thread) (value_after m earlier) (thread_after earlier x.thread).taken (moves_of x.thread earlier)
          h.0.1 (thread_after earlier x.thread).hand x.after h.0.2 (values_fit inputs threads earlier h.1) mine h.0.3 in
          rw (is_eq x.thread t k.0)
          (subst (λ (u : ℕ). IsWithinBudget m x.after.hand (moves_of u earlier + 1) x.after.taken) k.0 new)

  -- A thread has made at most 64 moves for each input that it took.
  pub few_moves : (inputs : ℕ → List Packet) (threads : ℕ) (steps : List (Step X)) → IsHistory m inputs threads steps
      → (t : ℕ) → moves_of t steps ≤ 64 * (thread_after steps t).taken
  few_moves inputs threads steps h t = go (thread_after steps t).hand (thread_spent inputs threads steps h t)
    where
      go : (hand : Option Hand) → IsWithinBudget m hand (moves_of t steps) (thread_after steps t).taken
          → moves_of t steps ≤ 64 * (thread_after steps t).taken
      go None low = low
      go (Some h) low = omega arith

-- the sum of 64 times the terms
sum_below_scaled : (n : ℕ) (f g : ℕ → ℕ) → ((u : ℕ) → f u ≤ 64 * g u) → sum_below n f ≤ 64 * sum_below n g
sum_below_scaled zero f g h = omega arith
sum_below_scaled (suc n) f g h =
    let a : sum_below n f ≤ 64 * sum_below n g = sum_below_scaled n f g h in
    let b : f n ≤ 64 * g n = h n in omega arith

sum_below_zero : (n : ℕ) → sum_below n (λ u. 0) ≡ 0
sum_below_zero zero = refl
sum_below_zero (suc n) = let a : sum_below n (λ u. 0) ≡ 0 = sum_below_zero n in omega arith

-- each move is one of a thread
pub moves_sum : {V : Type 0} (m : Meaning V) (inputs : ℕ → List Packet) (threads : ℕ) (steps : List (Step V))
    → IsHistory m inputs threads steps → sum_below threads (λ t. moves_of t steps) ≡ length steps
moves_sum m inputs threads [] h = sum_below_zero threads
moves_sum m inputs threads (x ∷ earlier) h =
    let old : sum_below threads (λ t. moves_of t earlier) ≡ length earlier = moves_sum m inputs threads earlier h.1 in
    let one : sum_below threads (λ t. moves_of t (x ∷ earlier)) ≡ sum_below threads (λ t. moves_of t earlier) + 1 =
    sum_below_more threads x.thread (λ t. moves_of t (x ∷ earlier)) (λ t. moves_of t earlier) h.0.0
    (rw (is_eq x.thread x.thread refl) refl) (λ u ne. rw (not_eq x.thread u (λ e. ne (sym e))) refl) in
    omega arith

-- A history of a lawful program has at most 64 moves for each input taken.
pub few_moves_in_all : {V : Type 0} (m : Meaning V) (fits : ℕ → V → Type 0) → IsLawful m fits
    → (inputs : ℕ → List Packet) (threads : ℕ) (steps : List (Step V)) → IsHistory m inputs threads steps
    → length steps ≤ 64 * sum_below threads (λ t. (thread_after steps t).taken)
few_moves_in_all m fits lawful inputs threads steps h =
    let a : sum_below threads (λ t. moves_of t steps) ≡ length steps = moves_sum m inputs threads steps h in
    let b : sum_below threads (λ t. moves_of t steps) ≤ 64 * sum_below threads (λ t. (thread_after steps t).taken) =
    sum_below_scaled threads (λ t. moves_of t steps) (λ t. (thread_after steps t).taken)
    (few_moves m fits lawful inputs threads steps h) in
    omega arith
