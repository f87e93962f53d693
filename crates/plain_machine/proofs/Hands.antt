-- The packet in hand is the last input that its thread took, and a thread takes no more than there are.
use Rattle.std.proofs.Common.{◌≡◌, ℕ, zero, suc, ◌+◌, ◌≤◌, ◌≢◌, List, [], ◌∷◌, length, refl, sym, ap, ◌∙◌, subst, inl}
use Rattle.std.proofs.Common.{inr, ◌⊎◌, arith, Option, Some, None}
use Rattle.std.specs.Prelude.{slice_get}
use Rattle.std.proofs.lemmas.Option.{slice_get_within}
use Rattle.plain_machine.specs.FromPlainText.{Packet}
use Rattle.entry_order.proofs.Order.{is_or}
use Rattle.plain_machine.specs.declared.local.Local.{Local}
use Rattle.plain_machine.specs.declared.local.Move.{Move}
use Rattle.plain_machine.specs.declared.local.Move.TheVariants.{Access, Read, Clock, Draw, Emit, End}
use Rattle.plain_machine.specs.Program.{Meaning}
use Rattle.plain_machine.specs.Machine.{Hand, Thread, Effect, Sends, Moves, holding, sent_packet, take_move, hand_move}
use Rattle.plain_machine.specs.Machine.{held_move}
use Rattle.plain_machine.specs.History.{Step, thread_after, value_after, IsHistory}
use Rattle.plain_machine.proofs.Histories.{is_eq, not_eq}
use Rattle.plain_machine.specs.Line.{LastTaken}

-- a move with a packet in hand keeps it, or ends it
hand_keeps : {V : Type 0} (m : Meaning V) (value : ℕ → V) (taken : ℕ) (h : Hand) (a : Option ℕ) (w : Move)
    (after : Thread) (d : Effect V) → hand_move m value taken h a w ≡ Moves after d
    → (after.hand ≡ None) ⊎ ((place : Local) × (after ≡ holding taken h.packet place))
hand_keeps m value taken h None (Access v) after d e = inr ((m.touch v (value v) h.place).1, cc)
hand_keeps m value taken h None (Read v) after d e = inr (m.look v (value v) h.place, cc)
hand_keeps m value taken h (Some a) Clock after d e = inr (m.told a h.place, cc)
hand_keeps m value taken h (Some a) Draw after d e = inr (m.told a h.place, cc)
hand_keeps m value taken h None Emit after d e = inr (m.emitted h.place, cc)
hand_keeps m value taken h None End after d e =
    let q : record { taken = taken; hand = None } ≡ after = cc in inl (ap (λ (t : Thread). t.hand) (sym q))
hand_keeps m value taken h (Some a) (Access v) after d e = absurd (cc)
hand_keeps m value taken h (Some a) (Read v) after d e = absurd (cc)
hand_keeps m value taken h (Some a) Emit after d e = absurd (cc)
hand_keeps m value taken h (Some a) End after d e = absurd (cc)
hand_keeps m value taken h None Clock after d e = absurd (cc)
hand_keeps m value taken h None Draw after d e = absurd (cc)

pub hand_input : {V : Type 0} (m : Meaning V) (inputs : ℕ → List Packet) (threads : ℕ) (steps : List (Step V))
    → IsHistory m inputs threads steps → (t : ℕ) (h : Hand) → (thread_after steps t).hand ≡ Some h
    → LastTaken (inputs t) (thread_after steps t) h
hand_input m inputs threads [] hist t h e = absurd (cc)
hand_input {V} m inputs threads (x ∷ steps) hist t h e =
    go (is_or x.thread t) (hand_input m inputs threads steps hist.1 t)
  where
    mine : (th : Thread) → x.thread ≡ t → th ≡ thread_after steps t
        → ((g : Hand) → (thread_after steps t).hand ≡ Some g → LastTaken (inputs t) (thread_after steps t) g)
        → x.after.hand ≡ Some h
        → held_move m (inputs t) (value_after m steps) (thread_after steps t).taken hist.0.1 (thread_after steps t).hand
        ≡ Moves x.after hist.0.2 → LastTaken (inputs t) x.after h
    mine th same is older hand moved = by (thread_after steps t).hand refl moved
      where
        take : (i : Option Packet) (a : Option ℕ) → slice_get (inputs t) (thread_after steps t).taken ≡ i
            → take_move m (thread_after steps t).taken a i ≡ Moves x.after hist.0.2 → LastTaken (inputs t) x.after h
        take i (Some a) at e = absurd (cc)
        take None None at e = absurd (cc)
        take (Some p) None at e =
            let q : holding ((thread_after steps t).taken + 1) p (m.begin p) ≡ x.after = cc in
            let r : Some (record { packet = p; place = m.begin p }) ≡ Some h = ap (λ (z : Thread). z.hand) q ∙ hand in
            let k : record { packet = p; place = m.begin p } ≡ h = cc in (
              (thread_after steps t).taken,
              ap (λ (z : Thread). z.taken) (sym q),
              at ∙ ap (λ (z : Hand). Some z.packet) k,
            )

        kept : (g : Hand) → (thread_after steps t).hand ≡ Some g
            → (x.after.hand ≡ None)
            ⊎ ((place : Local) × (x.after ≡ holding (thread_after steps t).taken g.packet place))
            → LastTaken (inputs t) x.after h
        kept g at (inl none) = absurd (cc)
        kept g at (inr (place, q)) =
            let r : Some (record { packet = g.packet; place = place }) ≡ Some h =
            ap (λ (z : Thread). z.hand) (sym q) ∙ hand in
            let k : record { packet = g.packet; place = place } ≡ h = cc in
            let l = older g at in
            (l.0, ap (λ (z : Thread). z.taken) q ∙ l.1, l.2 ∙ ap (λ (z : Hand). Some z.packet) k)

        by : (o : Option Hand) → (thread_after steps t).hand ≡ o
            → held_move m (inputs t) (value_after m steps) (thread_after steps t).taken hist.0.1 o
            ≡ Moves x.after hist.0.2 → LastTaken (inputs t) x.after h
        by None at e = take (slice_get (inputs t) (thread_after steps t).taken) hist.0.1 refl e
        by (Some g) at e = kept g at (hand_keeps m (value_after m steps) (thread_after steps t).taken g hist.0.1
            (m.next g.place) x.after hist.0.2 e)

    go : (x.thread ≡ t) ⊎ (x.thread ≢ t)
        → ((g : Hand) → (thread_after steps t).hand ≡ Some g → LastTaken (inputs t) (thread_after steps t) g)
        → LastTaken (inputs t) (thread_after (x ∷ steps) t) h
    go (inl same) older =
        let k = is_eq x.thread t same in
        rw k (mine (thread_after steps t) same refl older (rw k at e) (subst (λ (u : ℕ).
        held_move m (inputs u) (value_after m steps) (thread_after steps u).taken hist.0.1 (thread_after steps u).hand
        ≡ Moves x.after hist.0.2) same hist.0.3))
    go (inr other) older = let k = not_eq x.thread t other in rw k (older h (rw k at e))

-- Only a take changes how many were taken.
hand_taken : {V : Type 0} (m : Meaning V) (value : ℕ → V) (taken : ℕ) (h : Hand) (a : Option ℕ) (w : Move)
    (after : Thread) (d : Effect V) → hand_move m value taken h a w ≡ Moves after d → after.taken ≡ taken
hand_taken m value taken h None (Access v) after d e =
    let q : holding taken h.packet (m.touch v (value v) h.place).1 ≡ after = cc in ap (λ (t : Thread). t.taken) (sym q)
hand_taken m value taken h None (Read v) after d e =
    let q : holding taken h.packet (m.look v (value v) h.place) ≡ after = cc in ap (λ (t : Thread). t.taken) (sym q)
hand_taken m value taken h (Some a) Clock after d e =
    let q : holding taken h.packet (m.told a h.place) ≡ after = cc in ap (λ (t : Thread). t.taken) (sym q)
hand_taken m value taken h (Some a) Draw after d e =
    let q : holding taken h.packet (m.told a h.place) ≡ after = cc in ap (λ (t : Thread). t.taken) (sym q)
hand_taken m value taken h None Emit after d e =
    let q : holding taken h.packet (m.emitted h.place) ≡ after = cc in ap (λ (t : Thread). t.taken) (sym q)
hand_taken m value taken h None End after d e =
    let q : record { taken = taken; hand = None } ≡ after = cc in ap (λ (t : Thread). t.taken) (sym q)
hand_taken m value taken h (Some a) (Access v) after d e = absurd (cc)
hand_taken m value taken h (Some a) (Read v) after d e = absurd (cc)
hand_taken m value taken h (Some a) Emit after d e = absurd (cc)
hand_taken m value taken h (Some a) End after d e = absurd (cc)
hand_taken m value taken h None Clock after d e = absurd (cc)
hand_taken m value taken h None Draw after d e = absurd (cc)

held_within : {V : Type 0} (m : Meaning V) (packets : List Packet) (value : ℕ → V) (taken : ℕ) (a : Option ℕ)
    (hand : Option Hand) (after : Thread) (d : Effect V) → taken ≤ length packets
    → held_move m packets value taken a hand ≡ Moves after d → after.taken ≤ length packets
held_within m packets value taken a (Some h) after d low e =
    let q = hand_taken m value taken h a (m.next h.place) after d e in omega (arith, low, q)
held_within {V} m packets value taken a None after d low e = go a (slice_get packets taken) refl e
  where
    go : (a : Option ℕ) (i : Option Packet) → slice_get packets taken ≡ i → take_move m taken a i ≡ Moves after d
        → after.taken ≤ length packets
    go (Some a) i at e = absurd (cc)
    go None None at e = absurd (cc)
    go None (Some p) at e =
        let q : holding (taken + 1) p (m.begin p) ≡ after = cc in
        let n : after.taken ≡ taken + 1 = ap (λ (t : Thread). t.taken) (sym q) in
        let k = slice_get_within packets taken p at in omega (arith, n, k)

pub taken_within : {V : Type 0} (m : Meaning V) (inputs : ℕ → List Packet) (threads : ℕ) (steps : List (Step V))
    → IsHistory m inputs threads steps → (t : ℕ) → (thread_after steps t).taken ≤ length (inputs t)
taken_within m inputs threads [] hist t = omega arith
taken_within {V} m inputs threads (x ∷ steps) hist t =
    go (is_or x.thread t) (λ u. taken_within m inputs threads steps hist.1 u)
  where
    go : (x.thread ≡ t) ⊎ (x.thread ≢ t) → ((u : ℕ) → (thread_after steps u).taken ≤ length (inputs u))
        → (thread_after (x ∷ steps) t).taken ≤ length (inputs t)
    go (inl same) older =
        let k = is_eq x.thread t same in
        rw k (subst (λ (u : ℕ). x.after.taken ≤ length (inputs u)) same
        (held_within m (inputs x.thread) (value_after m steps) (thread_after steps x.thread).taken hist.0.1
        (thread_after steps x.thread).hand x.after hist.0.2 (older x.thread) hist.0.3))
    go (inr other) older = let k = not_eq x.thread t other in rw k (older t)

-- where no input is left, all were taken
pub all_taken : (xs : List Packet) (k : ℕ) → slice_get xs k ≡ None → length xs ≤ k
all_taken [] k e = omega arith
all_taken (x ∷ xs) zero e = absurd (cc)
all_taken (x ∷ xs) (suc k) e = let r = all_taken xs k e in omega (arith, r)

-- a move that sends out is that of a packet in hand
hand_sends : {V : Type 0} (m : Meaning V) (value : ℕ → V) (taken : ℕ) (h : Hand) (a : Option ℕ) (w : Move)
    (after : Thread) (p : Packet) → hand_move m value taken h a w ≡ Moves after (Sends p)
    → (w ≡ Emit) × (p ≡ sent_packet m h)
hand_sends m value taken h None (Access v) after p e = absurd (cc)
hand_sends m value taken h None (Read v) after p e = absurd (cc)
hand_sends m value taken h (Some a) Clock after p e = absurd (cc)
hand_sends m value taken h (Some a) Draw after p e = absurd (cc)
hand_sends m value taken h None Emit after p e = let r : sent_packet m h ≡ p = cc in (refl, sym r)
hand_sends m value taken h None End after p e = absurd (cc)
hand_sends m value taken h (Some a) (Access v) after p e = absurd (cc)
hand_sends m value taken h (Some a) (Read v) after p e = absurd (cc)
hand_sends m value taken h (Some a) Emit after p e = absurd (cc)
hand_sends m value taken h (Some a) End after p e = absurd (cc)
hand_sends m value taken h None Clock after p e = absurd (cc)
hand_sends m value taken h None Draw after p e = absurd (cc)

pub held_sends : {V : Type 0} (m : Meaning V) (packets : List Packet) (value : ℕ → V) (taken : ℕ) (a : Option ℕ)
    (hand : Option Hand) (after : Thread) (p : Packet) → held_move m packets value taken a hand ≡ Moves after (Sends p)
    → (h : Hand) × (hand ≡ Some h) × (m.next h.place ≡ Emit) × (p ≡ sent_packet m h)
held_sends m packets value taken a (Some h) after p e =
    let r = hand_sends m value taken h a (m.next h.place) after p e in (h, refl, r.0, r.1)
held_sends {V} m packets value taken a None after p e = absurd (none a (slice_get packets taken) e)
  where
    none : (a : Option ℕ) (i : Option Packet) → take_move m taken a i ≡ Moves after (Sends p) → ⊥
    none (Some a) i e = cc
    none None None e = cc
    none None (Some q) e = cc
