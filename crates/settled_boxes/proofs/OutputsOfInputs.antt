-- Of a program that sends each packet out once, between its take and its end, output j of a thread is made of its input
-- j.
use Rattle.std.proofs.Common.{◌≡◌, ◌≢◌, ℕ, ◌+◌, List, [], ◌∷◌, refl, sym, ap, ◌∙◌, subst, ◌⊎◌, inl, inr, arith, Option}
use Rattle.std.proofs.Common.{Some, None}
use Rattle.std.specs.Prelude.{slice_get}
use Rattle.plain_text.specs.declared.packet.Packet.{Packet}
use Rattle.entry_order.proofs.Order.{is_or}
use Rattle.plain_machine.specs.declared.emission.Emission.{Emission}
use Rattle.plain_machine.specs.declared.local.Local.{Local}
use Rattle.plain_machine.specs.declared.local.Move.{Move}
use Rattle.plain_machine.specs.declared.local.Move.TheVariants.{Access, Read, Clock, Draw, Emit, End}
use Rattle.plain_machine.specs.Program.{Meaning}
use Rattle.plain_machine.specs.Machine.{Hand, Thread, Effect, Takes, Touches, Looks, HearsClock, HearsDraw, Sends, Ends}
use Rattle.plain_machine.specs.Machine.{Moves, holding, sent_packet, take_move, hand_move, held_move}
use Rattle.plain_machine.specs.History.{Emitted, Step, sent_more, sent_of, outputs, act_of, emission_of, thread_after}
use Rattle.plain_machine.specs.History.{value_after, IsHistory}
use Rattle.plain_machine.specs.Agree.{SendsAfter}
use Rattle.plain_machine.proofs.Histories.{is_eq, not_eq, earlier_history}
use Rattle.plain_machine.proofs.Agreement.{sends_at}
use Rattle.plain_machine.proofs.Hands.{hand_input}

-- A program that is told nothing and reads nothing, and sends each packet out once. Went says where the packet went
-- out.
pub record SendsOnce {V : Type 0} (m : Meaning V) (SentAs : Packet → Packet → Type 0)
    (Went : Local → Type 0) : Type 0 where
  pub begins : (p : Packet) → Went (m.begin p) → ⊥
  pub reads : (l : Local) (v : ℕ) → m.next l ≡ Read v → ⊥
  pub asks_no_time : (l : Local) → m.next l ≡ Clock → ⊥
  pub asks_no_word : (l : Local) → m.next l ≡ Draw → ⊥
  pub before_touch : (l : Local) (v : ℕ) → m.next l ≡ Access v → Went l → ⊥
  pub after_touch : (l : Local) (v : ℕ) (x : V) → m.next l ≡ Access v → Went (m.touch v x l).1 → ⊥
  pub before_emission : (l : Local) → m.next l ≡ Emit → Went l → ⊥
  pub after_emission : (l : Local) → m.next l ≡ Emit → Went (m.emitted l)
  pub ends : (l : Local) → m.next l ≡ End → Went l
  pub packet : (h : Hand) → m.next h.place ≡ Emit → SentAs h.packet (sent_packet m h)

-- how many packets a thread sent out after an effect
abbrev outputs_by : {V : Type 0} → Effect V → ℕ → ℕ
outputs_by Takes n = n
outputs_by (Touches v left) n = n
outputs_by (Looks v) n = n
outputs_by (HearsClock a) n = n
outputs_by (HearsDraw a) n = n
outputs_by (Sends p) n = n + 1
outputs_by Ends n = n

own_outputs : {V : Type 0} (t taken : ℕ) (A : List (Step V)) (d : Effect V)
    → outputs t (sent_more (act_of t A taken d) (sent_of A)) ≡ outputs_by d (outputs t (sent_of A))
own_outputs t taken A Takes = refl
own_outputs t taken A (Touches v left) = refl
own_outputs t taken A (Looks v) = refl
own_outputs t taken A (HearsClock a) = refl
own_outputs t taken A (HearsDraw a) = refl
own_outputs t taken A (Sends p) = rw (is_eq t t refl) refl
own_outputs t taken A Ends = refl

other_outputs : {V : Type 0} (t u taken : ℕ) (A : List (Step V)) (d : Effect V) → t ≢ u
    → outputs u (sent_more (act_of t A taken d) (sent_of A)) ≡ outputs u (sent_of A)
other_outputs t u taken A Takes other = refl
other_outputs t u taken A (Touches v left) other = refl
other_outputs t u taken A (Looks v) other = refl
other_outputs t u taken A (HearsClock a) other = refl
other_outputs t u taken A (HearsDraw a) other = refl
other_outputs t u taken A (Sends p) other = rw (not_eq t u other) refl
other_outputs t u taken A Ends other = refl

-- an emission is that of a packet sent out
sends_packet : {V : Type 0} (t taken : ℕ) (A : List (Step V)) (d : Effect V) (o : Emission)
    → act_of t A taken d ≡ Emitted o → (p : Packet) × (d ≡ Sends p) × (emission_of t (sent_of A) taken p ≡ o)
sends_packet t taken A Takes o e = absurd (cc)
sends_packet t taken A (Touches v left) o e = absurd (cc)
sends_packet t taken A (Looks v) o e = absurd (cc)
sends_packet t taken A (HearsClock a) o e = absurd (cc)
sends_packet t taken A (HearsDraw a) o e = absurd (cc)
sends_packet t taken A (Sends p) o e = (p, refl, cc)
sends_packet t taken A Ends o e = absurd (cc)

-- with a packet in hand it is that one which is sent out, where that is next
hand_sends : {V : Type 0} (m : Meaning V) (value : ℕ → V) (taken : ℕ) (h : Hand) (a : Option ℕ) (w : Move)
    (after : Thread) (p : Packet) → hand_move m value taken h a w ≡ Moves after (Sends p)
    → (w ≡ Emit) × (p ≡ sent_packet m h) × (after.taken ≡ taken)
hand_sends m value taken h None (Access v) after p e = absurd (cc)
hand_sends m value taken h None (Read v) after p e = absurd (cc)
hand_sends m value taken h (Some a) Clock after p e = absurd (cc)
hand_sends m value taken h (Some a) Draw after p e = absurd (cc)
hand_sends m value taken h None Emit after p e =
    let q : holding taken h.packet (m.emitted h.place) ≡ after = cc in
    let r : sent_packet m h ≡ p = cc in (refl, sym r, ap (λ (t : Thread). t.taken) (sym q))
hand_sends m value taken h None End after p e = absurd (cc)
hand_sends m value taken h (Some a) (Access v) after p e = absurd (cc)
hand_sends m value taken h (Some a) (Read v) after p e = absurd (cc)
hand_sends m value taken h (Some a) Emit after p e = absurd (cc)
hand_sends m value taken h (Some a) End after p e = absurd (cc)
hand_sends m value taken h None Clock after p e = absurd (cc)
hand_sends m value taken h None Draw after p e = absurd (cc)

held_sends : {V : Type 0} (m : Meaning V) (packets : List Packet) (value : ℕ → V) (taken : ℕ) (a : Option ℕ)
    (hand : Option Hand) (after : Thread) (p : Packet) → held_move m packets value taken a hand ≡ Moves after (Sends p)
    → (h : Hand) × (hand ≡ Some h) × (m.next h.place ≡ Emit) × (p ≡ sent_packet m h) × (after.taken ≡ taken)
held_sends m packets value taken a (Some h) after p e =
    let r = hand_sends m value taken h a (m.next h.place) after p e in (h, refl, r.0, r.1, r.2)
held_sends {V} m packets value taken a None after p e = absurd (none a (slice_get packets taken) e)
  where
    none : (a : Option ℕ) (i : Option Packet) → take_move m taken a i ≡ Moves after (Sends p) → ⊥
    none (Some a) i e = cc
    none None None e = cc
    none None (Some q) e = cc

-- Where a thread stands that has sent out n packets: as many as it took, but for the one in hand until it went out.
abbrev StandsAt : (Local → Type 0) → Option Hand → ℕ → ℕ → Type 0
StandsAt Went None taken n = n ≡ taken
StandsAt Went (Some h) taken n = ((Went h.place → ⊥) × (n + 1 ≡ taken)) ⊎ (Went h.place × (n ≡ taken))

module _ {V : Type 0} (m : Meaning V) (SentAs : Packet → Packet → Type 0) (Went : Local → Type 0)
    (one : SendsOnce m SentAs Went) where
  -- a move leads to this thread by this effect
  to_there : (th after : Thread) (u d : Effect V) (n : ℕ) → th ≡ after → u ≡ d
      → StandsAt Went th.hand th.taken (outputs_by u n) → StandsAt Went after.hand after.taken (outputs_by d n)
  to_there th after u d n q r h = subst (λ (x : Effect V). StandsAt Went after.hand after.taken (outputs_by x n)) r
      (subst (λ (x : Thread). StandsAt Went x.hand x.taken (outputs_by u n)) q h)

  touch_stands : (taken n : ℕ) (l : Local) (v : ℕ) (x : V) (p : Packet) → m.next l ≡ Access v
      → ((Went l → ⊥) × (n + 1 ≡ taken)) ⊎ (Went l × (n ≡ taken))
      → StandsAt Went (Some (record { packet = p; place = (m.touch v x l).1 })) taken n
  touch_stands taken n l v x p w (inl k) = inl (one.after_touch l v x w, k.1)
  touch_stands taken n l v x p w (inr k) = absurd (one.before_touch l v w k.0)

  emission_stands : (taken n : ℕ) (l : Local) (p : Packet) → m.next l ≡ Emit
      → ((Went l → ⊥) × (n + 1 ≡ taken)) ⊎ (Went l × (n ≡ taken))
      → StandsAt Went (Some (record { packet = p; place = m.emitted l })) taken (n + 1)
  emission_stands taken n l p w (inl k) = inr (one.after_emission l w, k.1)
  emission_stands taken n l p w (inr k) = absurd (one.before_emission l w k.0)

  end_stands : (taken n : ℕ) (l : Local) → m.next l ≡ End → ((Went l → ⊥) × (n + 1 ≡ taken)) ⊎ (Went l × (n ≡ taken))
      → n ≡ taken
  end_stands taken n l w (inl k) = absurd (k.0 (one.ends l w))
  end_stands taken n l w (inr k) = k.1

  hand_stands : (value : ℕ → V) (taken n : ℕ) (h : Hand) (a : Option ℕ) (w : Move) (after : Thread) (d : Effect V)
      → m.next h.place ≡ w → hand_move m value taken h a w ≡ Moves after d → StandsAt Went (Some h) taken n
      → StandsAt Went after.hand after.taken (outputs_by d n)
  hand_stands value taken n h None (Access v) after d w e old =
      to_there (holding taken h.packet (m.touch v (value v) h.place).1) after
      (Touches v (m.touch v (value v) h.place).0) d n (cc) (cc)
      (touch_stands taken n h.place v (value v) h.packet w old)
  hand_stands value taken n h None Emit after d w e old =
      to_there (holding taken h.packet (m.emitted h.place)) after (Sends (sent_packet m h)) d n (cc) (cc)
      (emission_stands taken n h.place h.packet w old)
  hand_stands value taken n h None End after d w e old =
      to_there (record { taken = taken; hand = None }) after Ends d n (cc) (cc) (end_stands taken n h.place w old)
  hand_stands value taken n h a (Read v) after d w e old = absurd (one.reads h.place v w)
  hand_stands value taken n h a Clock after d w e old = absurd (one.asks_no_time h.place w)
  hand_stands value taken n h a Draw after d w e old = absurd (one.asks_no_word h.place w)
  hand_stands value taken n h (Some a) (Access v) after d w e old = absurd (cc)
  hand_stands value taken n h (Some a) Emit after d w e old = absurd (cc)
  hand_stands value taken n h (Some a) End after d w e old = absurd (cc)

  take_stands : (taken n : ℕ) (a : Option ℕ) (i : Option Packet) (after : Thread) (d : Effect V)
      → take_move m taken a i ≡ Moves after d → n ≡ taken → StandsAt Went after.hand after.taken (outputs_by d n)
  take_stands taken n (Some a) i after d e old = absurd (cc)
  take_stands taken n None None after d e old = absurd (cc)
  take_stands taken n None (Some p) after d e old =
      to_there (holding (taken + 1) p (m.begin p)) after Takes d n (cc) (cc) (inl (one.begins p, omega arith))

  held_stands : (packets : List Packet) (value : ℕ → V) (taken n : ℕ) (a : Option ℕ) (hand : Option Hand)
      (after : Thread) (d : Effect V) → held_move m packets value taken a hand ≡ Moves after d
      → StandsAt Went hand taken n → StandsAt Went after.hand after.taken (outputs_by d n)
  held_stands packets value taken n a None after d e old = take_stands taken n a (slice_get packets taken) after d e old
  held_stands packets value taken n a (Some h) after d e old =
      hand_stands value taken n h a (m.next h.place) after d refl e old

  -- so after each move of each run
  pub run_stands : (inputs : ℕ → List Packet) (threads : ℕ) (steps : List (Step V)) → IsHistory m inputs threads steps
      → (t : ℕ) → StandsAt Went (thread_after steps t).hand (thread_after steps t).taken (outputs t (sent_of steps))
  run_stands inputs threads [] h t = refl
  run_stands inputs threads (x ∷ earlier) h t = go (is_or x.thread t) (λ u. run_stands inputs threads earlier h.1 u)
    where
      moved : ((u : ℕ)
          → StandsAt Went (thread_after earlier u).hand (thread_after earlier u).taken (outputs u (sent_of earlier)))
          → StandsAt Went x.after.hand x.after.taken (outputs x.thread (sent_more x.act (sent_of earlier)))
      moved old =
          let n : outputs x.thread (sent_more x.act (sent_of earlier))
          ≡ outputs_by h.0.2 (outputs x.thread (sent_of earlier)) =
          rw h.0.4 (own_outputs x.thread x.after.taken earlier h.0.2) in
          rw n (held_stands (inputs x.thread) (value_after m earlier) (thread_after earlier x.thread).taken
          (outputs x.thread (sent_of earlier)) h.0.1 (thread_after earlier x.thread).hand x.after h.0.2 h.0.3
          (old x.thread))

      go : (x.thread ≡ t) ⊎ (x.thread ≢ t)
          → ((u : ℕ)
          → StandsAt Went (thread_after earlier u).hand (thread_after earlier u).taken (outputs u (sent_of earlier)))
          → StandsAt Went (thread_after (x ∷ earlier) t).hand (thread_after (x ∷ earlier) t).taken
          (outputs t (sent_more x.act (sent_of earlier)))
      go (inl same) old = rw (is_eq x.thread t same)
          (subst (λ (u : ℕ). StandsAt Went x.after.hand x.after.taken (outputs u (sent_more x.act (sent_of earlier))))
          same (moved old))
      go (inr other) old =
          let n : outputs t (sent_more x.act (sent_of earlier)) ≡ outputs t (sent_of earlier) =
          rw h.0.4 (other_outputs x.thread t x.after.taken earlier h.0.2 other) in
          rw (not_eq x.thread t other) (rw n (old t))

  -- where no packet is in hand, a thread sent out as many as it took
  pub rest_outputs : (inputs : ℕ → List Packet) (threads : ℕ) (steps : List (Step V)) → IsHistory m inputs threads steps
      → (t : ℕ) → (thread_after steps t).hand ≡ None → outputs t (sent_of steps) ≡ (thread_after steps t).taken
  rest_outputs inputs threads steps h t none =
      subst (λ (x : Option Hand). StandsAt Went x (thread_after steps t).taken (outputs t (sent_of steps))) none
      (run_stands inputs threads steps h t)

  -- an output is made of the input of its number
  pub made_of_input : (inputs : ℕ → List Packet) (threads : ℕ) (steps : List (Step V)) (o : Emission) (n : ℕ)
      → IsHistory m inputs threads steps → SendsAfter steps o n
      → (k : ℕ) × (p : Packet) × (o.number ≡ k + 1) × (o.input ≡ k + 1) × (slice_get (inputs o.thread) k ≡ Some p)
      × SentAs p o.packet
  made_of_input inputs threads steps o n hist sends =
      let r = sends_at steps o n sends in
      let made = earlier_history m inputs threads (r.0 ∷ r.1) steps r.2 hist in
      let d = sends_packet r.0.thread r.0.after.taken r.1 made.0.2 o (sym made.0.4 ∙ r.3) in
      of_step r.0 r.1 made d.0 d.1 d.2
    where
      of_step : (x : Step V) (earlier : List (Step V)) (made : IsHistory m inputs threads (x ∷ earlier)) (p : Packet)
          → made.0.2 ≡ Sends p → emission_of x.thread (sent_of earlier) x.after.taken p ≡ o
          → (k : ℕ) × (p : Packet) × (o.number ≡ k + 1) × (o.input ≡ k + 1) × (slice_get (inputs o.thread) k ≡ Some p)
          × SentAs p o.packet
      of_step x earlier made p is same =
          let moved = subst (λ (d : Effect V).
          held_move m (inputs x.thread) (value_after m earlier) (thread_after earlier x.thread).taken made.0.1
          (thread_after earlier x.thread).hand
          ≡ Moves x.after d) is made.0.3 in
          let s = held_sends m (inputs x.thread) (value_after m earlier) (thread_after earlier x.thread).taken made.0.1
          (thread_after earlier x.thread).hand x.after p moved in
          let last = hand_input m inputs threads earlier made.1 x.thread s.0 s.1 in
          let stood :
          StandsAt Went (Some s.0) (thread_after earlier x.thread).taken (outputs x.thread (sent_of earlier)) =
          subst (λ (y : Option Hand).
          StandsAt Went y (thread_after earlier x.thread).taken (outputs x.thread (sent_of earlier))) s.1
          (run_stands inputs threads earlier made.1 x.thread) in
          let number =
          next_number (outputs x.thread (sent_of earlier)) (thread_after earlier x.thread).taken s.0 s.2 stood in
          subst (λ (e : Emission).
          (k : ℕ) × (p : Packet) × (e.number ≡ k + 1) × (e.input ≡ k + 1) × (slice_get (inputs e.thread) k ≡ Some p)
          × SentAs p e.packet) same (
            last.0,
            s.0.packet,
            number ∙ last.1,
            s.4 ∙ last.1,
            last.2,
            subst (λ (q : Packet). SentAs s.0.packet q) (sym s.3) (one.packet s.0 s.2),
          )
        where
          next_number : (n taken : ℕ) (h : Hand) → m.next h.place ≡ Emit → StandsAt Went (Some h) taken n
              → n + 1 ≡ taken
          next_number n taken h w (inl k) = k.1
          next_number n taken h w (inr k) = absurd (one.before_emission h.place w k.0)
