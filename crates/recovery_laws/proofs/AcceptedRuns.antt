-- What a run leaves is accepted: its schedule plays, and each released packet has an emission of its own.
use Rattle.std.proofs.Common.{◌≡◌, ℕ, ◌+◌, ◌≤◌, Bool, true, false, cond, List, [], ◌∷◌, ◌++◌, length, refl, sym, ap}
use Rattle.std.proofs.Common.{◌∙◌, subst, inl, inr, ◌⊎◌, arith, Option, Some, None, Result, Ok}
use Rattle.std.specs.Prelude.{nat_eq, ◌&&◌, reverse, slice_get}
use Rattle.std.proofs.lemmas.List.{length-append}
use Rattle.std.proofs.lemmas.Bool.Decides.{nat_tests}
use Rattle.std.proofs.lemmas.Grind.{reverse_onto}
use Rattle.plain_text.specs.declared.packet.Packet.{Packet}
use Rattle.plain_text.specs.declared.packet.Unit.{Unit as FractionUnit}
use Rattle.plain_machine.specs.declared.local.Move.{Move}
use Rattle.plain_machine.specs.declared.local.Move.TheVariants.{Access, Read, Clock, Draw, Emit, End}
use Rattle.plain_machine.specs.declared.emission.Emission.{Emission}
use Rattle.plain_machine.specs.declared.plain_move.PlainMove.{PlainMove}
use Rattle.plain_machine.specs.declared.plain_move.PlayFault.{PlayFault}
use Rattle.plain_machine.specs.Program.{Meaning}
use Rattle.plain_machine.specs.Machine.{Hand, Thread, Effect, Takes, Touches, Looks, HearsClock, HearsDraw, Sends, Ends}
use Rattle.plain_machine.specs.Machine.{Moves, sent_packet, take_move, hand_move, held_move}
use Rattle.plain_machine.specs.History.{Act, Took, Did, Emitted, Ended, Step, sent_more, sent_of, emissions, act_of}
use Rattle.plain_machine.specs.History.{thread_after, value_after, and_move, play, IsStep, IsHistory}
use Rattle.plain_machine.specs.Agree.{SendsAfter}
use Rattle.plain_machine.proofs.PlayedLists.{step_is_move, play_append}
use Rattle.recovery_world.specs.World.{Sent}
use Rattle.recovery_world.specs.Events.{IsAmong}
use Rattle.recovery_world.specs.Files.{answer_of, moves_made, packets_of}
use Rattle.recovery_world.specs.Matching.{IsSame, IsPacketCount, IsEmissionCount, IsMatched}
use Rattle.recovery_laws.specs.Sound.{times}

-- The schedule plays

-- an effect tells the answer of its move
abbrev effect_answer : {V : Type 0} → Effect V → Option ℕ
effect_answer Takes = None
effect_answer (Touches v left) = None
effect_answer (Looks v) = None
effect_answer (HearsClock a) = Some a
effect_answer (HearsDraw a) = Some a
effect_answer (Sends packet) = None
effect_answer Ends = None

pub act_answer : {V : Type 0} (t taken : ℕ) (A : List (Step V)) (d : Effect V)
    → answer_of (act_of t A taken d) ≡ effect_answer d
act_answer t taken A Takes = refl
act_answer t taken A (Touches v left) = refl
act_answer t taken A (Looks v) = refl
act_answer t taken A (HearsClock a) = refl
act_answer t taken A (HearsDraw a) = refl
act_answer t taken A (Sends packet) = refl
act_answer t taken A Ends = refl

of_effect : {V : Type 0} (d e : Effect V) (a : Option ℕ) → d ≡ e → effect_answer d ≡ a → a ≡ effect_answer e
of_effect {V} d e a same is = sym is ∙ ap (λ (x : Effect V). effect_answer x) same

hand_answer : {V : Type 0} (m : Meaning V) (value : ℕ → V) (taken : ℕ) (h : Hand) (a : Option ℕ) (w : Move)
    (after : Thread) (d : Effect V) → hand_move m value taken h a w ≡ Moves after d → a ≡ effect_answer d
hand_answer m value taken h None (Access v) after d e =
    of_effect (Touches v (m.touch v (value v) h.place).0) d None (cc) refl
hand_answer m value taken h None (Read v) after d e = of_effect (Looks v) d None (cc) refl
hand_answer m value taken h (Some a) Clock after d e = of_effect (HearsClock a) d (Some a) (cc) refl
hand_answer m value taken h (Some a) Draw after d e = of_effect (HearsDraw a) d (Some a) (cc) refl
hand_answer m value taken h None Emit after d e = of_effect (Sends (sent_packet m h)) d None (cc) refl
hand_answer m value taken h None End after d e = of_effect Ends d None (cc) refl
hand_answer m value taken h (Some a) (Access v) after d e = absurd (cc)
hand_answer m value taken h (Some a) (Read v) after d e = absurd (cc)
hand_answer m value taken h (Some a) Emit after d e = absurd (cc)
hand_answer m value taken h (Some a) End after d e = absurd (cc)
hand_answer m value taken h None Clock after d e = absurd (cc)
hand_answer m value taken h None Draw after d e = absurd (cc)

pub held_answer : {V : Type 0} (m : Meaning V) (packets : List Packet) (value : ℕ → V) (taken : ℕ) (a : Option ℕ)
    (hand : Option Hand) (after : Thread) (d : Effect V) → held_move m packets value taken a hand ≡ Moves after d
    → a ≡ effect_answer d
held_answer m packets value taken a (Some h) after d e = hand_answer m value taken h a (m.next h.place) after d e
held_answer {V} m packets value taken a None after d e = go a (slice_get packets taken) e
  where
    go : (a : Option ℕ) (i : Option Packet) → take_move m taken a i ≡ Moves after d → a ≡ effect_answer d
    go (Some a) i e = absurd (cc)
    go None None e = absurd (cc)
    go None (Some p) e = of_effect Takes d None (cc) refl

step_answer : {V : Type 0} (m : Meaning V) (inputs : ℕ → List Packet) (threads : ℕ) (A : List (Step V)) (x : Step V)
    → (h : IsStep m inputs threads A x) → h.1 ≡ answer_of x.act
step_answer {V} m inputs threads A x h =
    let th = thread_after A x.thread in
    held_answer m (inputs x.thread) (value_after m A) th.taken h.1 th.hand x.after h.2 h.3
    ∙ (sym (act_answer x.thread x.after.taken A h.2) ∙ ap (λ (a : Act V). answer_of a) (sym h.4))

-- each step is one move
pub made_length : {V : Type 0} (steps : List (Step V)) → length (moves_made steps) ≡ length steps
made_length [] = refl
made_length (x ∷ earlier) =
    let rest = made_length earlier in
    let more = length-append (moves_made earlier) ((record { thread = x.thread; answer = answer_of x.act }) ∷ []) in
    omega (arith, rest, more)

-- The moves of a history are a legal list, whose history it is.
pub moves_play : {V : Type 0} (m : Meaning V) (inputs : ℕ → List Packet) (threads : ℕ) (steps : List (Step V))
    → IsHistory m inputs threads steps → play m inputs threads (moves_made steps) ≡ Ok steps
moves_play m inputs threads [] h = refl
moves_play {V} m inputs threads (x ∷ steps) h =
    play_append m inputs threads (Ok []) (moves_made steps) (move ∷ [])
    ∙ (ap (λ (r : Result (List (Step V)) PlayFault). and_move m inputs threads r move)
    (moves_play m inputs threads steps h.1)
    ∙ one)
  where
    move : PlainMove
    move = record { thread = x.thread; answer = answer_of x.act }

    told : PlainMove
    told = record { thread = x.thread; answer = h.0.1 }

    same : told ≡ move
    same = ap (λ (a : Option ℕ). let r : PlainMove = record { thread = x.thread; answer = a } in r)
        (step_answer m inputs threads steps x h.0)

    one : and_move m inputs threads (Ok steps) move ≡ Ok (x ∷ steps)
    one = subst (λ (q : PlainMove). and_move m inputs threads (Ok steps) q ≡ Ok (x ∷ steps)) same
        (rw (step_is_move m inputs threads steps x h.0) refl)

-- Each released packet has an emission of its own

abbrev IsSent : Emission → List Emission → Type 0
IsSent o [] = ⊥
IsSent o (x ∷ xs) = (x ≡ o) ⊎ IsSent o xs

sent_right : (o : Emission) (xs ys : List Emission) → IsSent o ys → IsSent o (xs ++ ys)
sent_right o [] ys h = h
sent_right o (x ∷ xs) ys h = inr (sent_right o xs ys h)

sent_left : (o : Emission) (xs ys : List Emission) → IsSent o xs → IsSent o (xs ++ ys)
sent_left o [] ys h = absurd h
sent_left o (x ∷ xs) ys (inl h) = inl h
sent_left o (x ∷ xs) ys (inr h) = inr (sent_left o xs ys h)

sent_reversed : (o : Emission) (xs : List Emission) → IsSent o xs → IsSent o (reverse xs)
sent_reversed o [] h = absurd h
sent_reversed o (x ∷ xs) (inl h) =
    subst (λ (l : List Emission). IsSent o l) (sym (reverse_onto xs x [])) (sent_right o (reverse xs) (x ∷ []) (inl h))
sent_reversed o (x ∷ xs) (inr h) = subst (λ (l : List Emission). IsSent o l) (sym (reverse_onto xs x []))
    (sent_left o (reverse xs) (x ∷ []) (sent_reversed o xs h))

sent_in : {V : Type 0} (steps : List (Step V)) (o : Emission) (n : ℕ) → SendsAfter steps o n → IsSent o (sent_of steps)
sent_in [] o n h = absurd h
sent_in {V} (x ∷ steps) o n (inl h) = subst (λ (a : Act V). IsSent o (sent_more a (sent_of steps))) (sym h.0) (inl refl)
sent_in {V} (x ∷ steps) o n (inr h) = go x.act (sent_in steps o n h)
  where
    go : (a : Act V) → IsSent o (sent_of steps) → IsSent o (sent_more a (sent_of steps))
    go (Took k) i = i
    go (Did e left) i = i
    go (Emitted p) i = inr i
    go (Ended k) i = i

-- one occurrence is taken out of a list
abbrev IsWithout : Emission → List Emission → List Emission → Type 0
IsWithout o [] less = ⊥
IsWithout o (x ∷ xs) less = ((x ≡ o) × (less ≡ xs)) ⊎ ((rest : List Emission) × (less ≡ x ∷ rest) × IsWithout o xs rest)

without_there : (o : Emission) (xs : List Emission) → IsSent o xs → (less : List Emission) × IsWithout o xs less
without_there o [] h = absurd h
without_there o (x ∷ xs) (inl h) = (xs, inl (h, refl))
without_there o (x ∷ xs) (inr h) = let r = without_there o xs h in (x ∷ r.0, inr (r.0, refl, r.1))

still_there : (o p : Emission) (xs less : List Emission) → IsWithout o xs less → IsSent p xs → (o ≡ p → ⊥)
    → IsSent p less
still_there o p [] less w h ne = absurd h
still_there o p (x ∷ xs) less (inl (same, is)) (inl h) ne = absurd (ne (sym same ∙ h))
still_there o p (x ∷ xs) less (inl (same, is)) (inr h) ne = subst (λ (l : List Emission). IsSent p l) (sym is) h
still_there o p (x ∷ xs) less (inr (rest, is, w)) (inl h) ne =
    subst (λ (l : List Emission). IsSent p l) (sym is) (inl h)
still_there o p (x ∷ xs) less (inr (rest, is, w)) (inr h) ne =
    subst (λ (l : List Emission). IsSent p l) (sym is) (inr (still_there o p xs rest w h ne))

-- how many fewer there are then
abbrev Fewer : FractionUnit → Packet → FractionUnit → Emission → List Emission → ℕ → Type 0
Fewer u p v o less n =
    (IsSame u p v o.packet × (k : ℕ) × (n ≡ k + 1) × IsEmissionCount u p v less k)
    ⊎ ((IsSame u p v o.packet → ⊥) × IsEmissionCount u p v less n)

fewer : (u : FractionUnit) (p : Packet) (v : FractionUnit) (o : Emission) (xs less : List Emission) (n : ℕ)
    → IsWithout o xs less → IsEmissionCount u p v xs n → Fewer u p v o less n
fewer u p v o [] less n w c = absurd w
fewer u p v o (x ∷ xs) less n (inl (same, is)) c =
    subst (λ (l : List Emission). Fewer u p v o l n) (sym is) (subst (λ (y : Emission). Fewer u p v y xs n) same c)
fewer u p v o (x ∷ xs) less n (inr (rest, is, w)) (inl (s, k, q, c)) =
    subst (λ (l : List Emission). Fewer u p v o l n) (sym is) (go (fewer u p v o xs rest k w c))
  where
    go : Fewer u p v o rest k → Fewer u p v o (x ∷ rest) n
    go (inl (t, j, r, d)) = inl (t, k, q, inl (s, j, r, d))
    go (inr (t, d)) = inr (t, inl (s, k, q, d))
fewer u p v o (x ∷ xs) less n (inr (rest, is, w)) (inr (s, c)) =
    subst (λ (l : List Emission). Fewer u p v o l n) (sym is) (go (fewer u p v o xs rest n w c))
  where
    go : Fewer u p v o rest n → Fewer u p v o (x ∷ rest) n
    go (inl (t, j, r, d)) = inl (t, j, r, inr (s, d))
    go (inr (t, d)) = inr (t, inr (s, d))

-- what is in a list is counted there
pub among_times : (o : Sent) (xs : List Sent) → IsAmong o xs → 1 ≤ times o.emission.thread o.emission.number xs
among_times o [] h = absurd h
among_times o (x ∷ xs) (inl same) =
    let t : x.emission.thread ≡ o.emission.thread = ap (λ (y : Sent). y.emission.thread) same in
    let j : x.emission.number ≡ o.emission.number = ap (λ (y : Sent). y.emission.number) same in
    let a : nat_eq x.emission.thread o.emission.thread ≡ true = grind (arith, nat_tests) in
    let b : nat_eq x.emission.number o.emission.number ≡ true = grind (arith, nat_tests) in
    rw a (rw b (omega arith))
among_times o (x ∷ xs) (inr h) =
    go (nat_eq x.emission.thread o.emission.thread && nat_eq x.emission.number o.emission.number) (among_times o xs h)
  where
    go : (b : Bool) → 1 ≤ times o.emission.thread o.emission.number xs
        → 1 ≤ cond b (times o.emission.thread o.emission.number xs + 1) (times o.emission.thread o.emission.number xs)
    go true k = omega arith
    go false k = k

first_times : (o : Sent) (xs : List Sent)
    → times o.emission.thread o.emission.number (o ∷ xs) ≡ times o.emission.thread o.emission.number xs + 1
first_times o xs =
    let a : nat_eq o.emission.thread o.emission.thread ≡ true = grind (arith, nat_tests) in
    let b : nat_eq o.emission.number o.emission.number ≡ true = grind (arith, nat_tests) in
    rw a (rw b refl)

later_times : (t j : ℕ) (o : Sent) (xs : List Sent) → times t j xs ≤ times t j (o ∷ xs)
later_times t j o xs = go (nat_eq o.emission.thread t && nat_eq o.emission.number j)
  where
    go : (b : Bool) → times t j xs ≤ cond b (times t j xs + 1) (times t j xs)
    go true = omega arith
    go false = omega arith

-- Outputs that differ, and are all among the emissions, are matched by them.
pub matched : (u : FractionUnit) (released : List Sent) (ys : List Emission) → ((t j : ℕ) → times t j released ≤ 1)
    → ((o : Sent) → IsAmong o released → IsSent o.emission ys) → IsMatched u (packets_of released) u ys
matched u [] ys once all p k n a b = omega (arith, a)
matched u (o ∷ released) ys once all p k n a b = go a (without_there o.emission ys (all o (inl refl)))
    (λ less all2 k2 n2 a2 b2. matched u released less later all2 p k2 n2 a2 b2)
  where
    later : (t j : ℕ) → times t j released ≤ 1
    later t j = let x = later_times t j o released in let y = once t j in omega (arith, x, y)

    differs : (x : Sent) → IsAmong x released → o.emission ≡ x.emission → ⊥
    differs x i same =
        let c = among_times x released i in
        let y = once o.emission.thread o.emission.number in
        let z = first_times o released in
        let q : times x.emission.thread x.emission.number released
        ≡ times o.emission.thread o.emission.number released =
        ap (λ (e : Emission). times e.thread e.number released) (sym same) in
        omega (arith, c, y, z, q)

    go : IsPacketCount u p (packets_of (o ∷ released)) k → (less : List Emission) × IsWithout o.emission ys less
        → ((less : List Emission) → ((x : Sent) → IsAmong x released → IsSent x.emission less) → (k2 n2 : ℕ)
        → IsPacketCount u p (packets_of released) k2 → IsEmissionCount u p u less n2 → k2 ≤ n2) → k ≤ n
    go a (less, w) rest = fin a (fewer u p u o.emission ys less n w b)
      where
        all2 : (x : Sent) → IsAmong x released → IsSent x.emission less
        all2 x i = still_there o.emission x.emission ys less w (all x (inr i)) (differs x i)

        fin : IsPacketCount u p (packets_of (o ∷ released)) k → Fewer u p u o.emission less n → k ≤ n
        fin (inl (s, i, q, c)) (inl (t, j, r, d)) = let z = rest less all2 i j c d in omega (arith, z, q, r)
        fin (inl (s, i, q, c)) (inr (t, d)) = absurd (t s)
        fin (inr (s, c)) (inl (t, j, r, d)) = absurd (s t)
        fin (inr (s, c)) (inr (t, d)) = rest less all2 k n c d

pub sent_emissions : {V : Type 0} (steps : List (Step V)) (o : Emission) (n : ℕ) → SendsAfter steps o n
    → IsSent o (emissions steps)
sent_emissions steps o n h = sent_reversed o (sent_of steps) (sent_in steps o n h)
