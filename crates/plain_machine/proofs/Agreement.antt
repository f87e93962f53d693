-- Two histories that keep one closed set of entries agree on it.
use Rattle.std.proofs.Common.{◌≡◌, ℕ, ◌+◌, ◌-◌, ◌≤◌, ◌<◌, ◌≢◌, List, [], ◌∷◌, refl, sym, ap, ◌∙◌, subst, inl, inr, ◌⊎◌}
use Rattle.std.proofs.Common.{arith, Option, Some}
use Rattle.std.proofs.lemmas.Bool.{cases_lt}
use Rattle.plain_text.specs.declared.packet.Packet.{Packet}
use Rattle.entry_order.specs.declared.what.What.TheVariants.{Access, Read}
use Rattle.entry_order.specs.Log.{Entry, entries, places, IsLog, IsIn, IsNext, IsClosed, Keeps, PrecedesOutput}
use Rattle.entry_order.proofs.Order.{is_or, number_within, place_within, newest, same_number, same_place, closed_thread}
use Rattle.entry_order.proofs.Order.{entry_there, thread_chain}
use Rattle.plain_machine.specs.declared.emission.Emission.{Emission}
use Rattle.plain_machine.specs.Program.{Meaning}
use Rattle.plain_machine.specs.History.{Act, Did, Emitted, Step, log_more, log_of, sent_of, outputs, moves_of}
use Rattle.plain_machine.specs.History.{value_after, IsStep, IsHistory}
use Rattle.plain_machine.specs.Machine.{Thread}
use Rattle.plain_machine.specs.Agree.{IsEarlier, Makes, SendsAfter, AgreeOnEntries, AgreeOnEmissions}
use Rattle.plain_machine.proofs.Histories.{history_log, earlier_refl, earlier_tail, earlier_trans, earlier_history}
use Rattle.plain_machine.proofs.Histories.{earlier_log, log_grow, Leaves, earlier_leaves, leaves_in, leaves_at, is_eq}
use Rattle.plain_machine.proofs.Histories.{moves_step, find_move, did_entry, did_place, did_read, did_emission}
use Rattle.plain_machine.proofs.Histories.{earlier_outputs}
use Rattle.plain_machine.proofs.Seats.{SameSeat, SameLogged, same_step, seat_next, seat_other, seat_sym, seat_trans}
use Rattle.plain_machine.proofs.Values.{IsValue, is_value}

-- the values that the touches of a history in the set leave are those of the other
abbrev pub SameValues : {X : Type 0} → List Entry → List (Step X) → List (Step X) → Type 0
SameValues {X} set A B = (e : Entry) (lx ly : Option X) → IsIn e set → Leaves A e lx → Leaves B e ly → lx ≡ ly

-- all entries of the thread are in the set
abbrev pub AllIn : {X : Type 0} → List Entry → ℕ → List (Step X) → Type 0
AllIn set t A = (e : Entry) → IsIn e (log_of A) → e.thread ≡ t → IsIn e set

-- an entry that the act makes is in the set
abbrev pub MakesIn : {X : Type 0} → List Entry → Act X → Type 0
MakesIn {X} set a = (e : Entry) (left : Option X) → a ≡ Did e left → IsIn e set

module _ {X : Type 0} (m : Meaning X) (inputs : ℕ → List Packet) (threads : ℕ) (set : List Entry) (A B : List (Step X))
    (hA : IsHistory m inputs threads A) (hB : IsHistory m inputs threads B) (closed : IsClosed (log_of A) set)
    (inA : (e : Entry) → IsIn e set → IsIn e (log_of A)) (inB : (e : Entry) → IsIn e set → IsIn e (log_of B)) where
  logA : IsLog (log_of A)
  logA = history_log m inputs threads A hA

  logB : IsLog (log_of B)
  logB = history_log m inputs threads B hB

  -- before two touches of the set that are one, the variable has one value
  value_same : (A1 B1 : List (Step X)) (e : Entry) (v s : ℕ) → IsEarlier A1 A → IsEarlier B1 B → SameValues set A1 B
      → IsIn e set → ((g : Entry) → g.what ≡ Access v (places v (log_of A1)) → IsNext g e)
      → places v (log_of A1) ≡ places v (log_of B1) → value_after m A1 v ≡ value_after m B1 v
  value_same A1 B1 e v s endA endB same inset next pab =
      go (is_value m inputs threads v A1 (earlier_history m inputs threads A1 A endA hA))
      (is_value m inputs threads v B1 (earlier_history m inputs threads B1 B endB hB))
    where
      go : IsValue m v A1 → IsValue m v B1 → value_after m A1 v ≡ value_after m B1 v
      go (inl a) (inl b) = a.1 ∙ sym b.1
      go (inl a) (inr b) =
          let k : (1 ≤ places v (log_of B1)) × (places v (log_of B1) ≤ places v (log_of B1)) = place_within (log_of B1)
          b.0 v (places v (log_of B1)) (history_log m inputs threads B1 (earlier_history m inputs threads B1 B endB hB))
          (leaves_in B1 b.0 _ b.1) b.2 in
          absurd (omega (arith, a.0, pab))
      go (inr a) (inl b) =
          let k : (1 ≤ places v (log_of A1)) × (places v (log_of A1) ≤ places v (log_of A1)) = place_within (log_of A1)
          a.0 v (places v (log_of A1)) (history_log m inputs threads A1 (earlier_history m inputs threads A1 A endA hA))
          (leaves_in A1 a.0 _ a.1) a.2 in
          absurd (omega (arith, b.0, pab))
      go (inr a) (inr b) =
          let g : IsIn a.0 set =
          closed a.0 e (earlier_log A1 A a.0 endA (leaves_in A1 a.0 _ a.1)) inset (next a.0 a.2) in
          let n : places v (log_of B1) ≡ places v (log_of A1) = sym pab in
          let k : a.0 ≡ b.0 = same_place (log_of B) a.0 b.0 v (places v (log_of A1)) logB (inB a.0 g)
          (earlier_log B1 B b.0 endB (leaves_in B1 b.0 _ b.1)) a.2 (b.2 ∙ ap (λ (i : ℕ). Access v i) n) in
          let l : Leaves B a.0 (Some (value_after m B1 v)) =
          subst (λ (f : Entry). Leaves B f (Some (value_after m B1 v))) (sym k) (earlier_leaves B1 B b.0 _ endB b.1) in
          let e2 : Some (value_after m A1 v) ≡ Some (value_after m B1 v) = same a.0 _ _ g a.1 l in
          cc

  -- two steps of one thread from one seat are one, where the entry of one of them is in the set
  step_agrees : (x y : Step X) (A1 B1 : List (Step X)) → IsEarlier (x ∷ A1) A → IsEarlier (y ∷ B1) B
      → x.thread ≡ y.thread → SameSeat x.thread A1 B1 → SameValues set A1 B
      → MakesIn set x.act ⊎ MakesIn set y.act → x ≡ y
  step_agrees x y A1 B1 endA endB t seat same makes = same_step m inputs threads A1 B1 x y hx.0 hy.0 t seat logged
    where
      hx : IsHistory m inputs threads (x ∷ A1)
      hx = earlier_history m inputs threads (x ∷ A1) A endA hA

      hy : IsHistory m inputs threads (y ∷ B1)
      hy = earlier_history m inputs threads (y ∷ B1) B endB hB

      logged : SameLogged m A1 B1 x.act y.act
      logged e f lx ly ax ay = (one (pick makes), λ v s w. by_what v s w)
        where
          ex : (e.thread ≡ x.thread) × (e.number ≡ entries x.thread (log_of A1) + 1)
          ex = did_entry x.thread x.after.taken A1 hx.0.2 e lx (sym hx.0.4 ∙ ax)

          ey : (f.thread ≡ y.thread) × (f.number ≡ entries y.thread (log_of B1) + 1)
          ey = did_entry y.thread y.after.taken B1 hy.0.2 f ly (sym hy.0.4 ∙ ay)

          threads_same : e.thread ≡ f.thread
          threads_same = ex.0 ∙ (t ∙ sym ey.0)

          numbers_same : e.number ≡ f.number
          numbers_same =
              ex.1 ∙ (ap (λ (n : ℕ). n + 1) (seat.entries ∙ ap (λ (n : ℕ). entries n (log_of B1)) t) ∙ sym ey.1)

          eA : IsIn e (log_of A)
          eA = earlier_log (x ∷ A1) A e endA (leaves_in (x ∷ A1) e lx (inl ax))

          fB : IsIn f (log_of B)
          fB = earlier_log (y ∷ B1) B f endB (leaves_in (y ∷ B1) f ly (inl ay))

          pick : MakesIn set x.act ⊎ MakesIn set y.act → IsIn e set ⊎ IsIn f set
          pick (inl k) = inl (k e lx ax)
          pick (inr k) = inr (k f ly ay)

          one : IsIn e set ⊎ IsIn f set → e ≡ f
          one (inl k) = same_number (log_of B) e f logB (inB e k) fB threads_same numbers_same
          one (inr k) = same_number (log_of A) e f logA eA (inA f k) threads_same numbers_same

          either : IsIn e set ⊎ IsIn f set → IsIn e set
          either (inl k) = k
          either (inr k) = subst (λ (g : Entry). IsIn g set) (sym (one (inr k))) k

          by_what : (v s : ℕ) → (e.what ≡ Access v s) ⊎ (e.what ≡ Read v s) → value_after m A1 v ≡ value_after m B1 v
          by_what v s (inl w) =
              let pa : s ≡ places v (log_of A1) + 1 =
              did_place x.thread x.after.taken A1 hx.0.2 e lx v s (sym hx.0.4 ∙ ax) w in
              let pb : s ≡ places v (log_of B1) + 1 = did_place y.thread y.after.taken B1 hy.0.2 f ly v s
              (sym hy.0.4 ∙ ay) (ap (λ (g : Entry). g.what) (sym (one (pick makes))) ∙ w) in
              value_same A1 B1 e v s (earlier_tail x A1 A endA) (earlier_tail y B1 B endB) same (either (pick makes))
              (λ g gw. inr (inl (v, places v (log_of A1), gw, w ∙ ap (λ (n : ℕ). Access v n) pa))) (omega arith)
          by_what v s (inr w) =
              let pa : s ≡ places v (log_of A1) =
              did_read x.thread x.after.taken A1 hx.0.2 e lx v s (sym hx.0.4 ∙ ax) w in
              let pb : s ≡ places v (log_of B1) = did_read y.thread y.after.taken B1 hy.0.2 f ly v s (sym hy.0.4 ∙ ay)
              (ap (λ (g : Entry). g.what) (sym (one (pick makes))) ∙ w) in
              value_same A1 B1 e v s (earlier_tail x A1 A endA) (earlier_tail y B1 B endB) same (either (pick makes))
              (λ g gw. inr (inr (inl (v, places v (log_of A1), gw, w ∙ ap (λ (n : ℕ). Read v n) pa)))) (omega arith)

  pub record Agreed (A1 : List (Step X)) : Type 0 where
    pub seats : (A0 B0 : List (Step X)) (t : ℕ) → IsEarlier A0 A1 → IsEarlier B0 B → moves_of t A0 ≡ moves_of t B0
        → AllIn set t A0 → SameSeat t A0 B0
    pub values : SameValues set A1 B

  -- x and y are one, or x stands before y in B, or y before x in A
  abbrev Meet : Step X → Step X → List (Step X) → List (Step X) → Type 0
  Meet x y A1 B1 =
      ((x ≡ y) × (moves_of x.thread A1 ≡ moves_of x.thread B1))
      ⊎ (((z : Step X) × (B2 : List (Step X)) × IsEarlier (z ∷ B2) B1 × (x ≡ z))
      ⊎ ((z : Step X) × (A2 : List (Step X)) × IsEarlier (z ∷ A2) A1 × (z ≡ y)))

  all_in_end : (t : ℕ) (A2 A1 : List (Step X)) → IsEarlier A2 A1 → AllIn set t A1 → AllIn set t A2
  all_in_end t A2 A1 end all e here th = all e (earlier_log A2 A1 e end here) th

  values_end : (A2 A1 : List (Step X)) → IsEarlier A2 A1 → SameValues set A1 B → SameValues set A2 B
  values_end A2 A1 end same e lx ly inset a b = same e lx ly inset (earlier_leaves A2 A1 e lx end a) b

  meet : (x y : Step X) (A1 B1 : List (Step X)) → IsEarlier (x ∷ A1) A → IsEarlier (y ∷ B1) B → x.thread ≡ y.thread
      → Agreed A1 → AllIn set x.thread A1 → MakesIn set x.act → MakesIn set y.act → Meet x y A1 B1
  meet x y A1 B1 endA endB t agreed all mx my =
      go (is_or (moves_of x.thread A1) (moves_of x.thread B1)) (cases_lt (moves_of x.thread A1) (moves_of x.thread B1))
    where
      go : (moves_of x.thread A1 ≡ moves_of x.thread B1) ⊎ (moves_of x.thread A1 ≢ moves_of x.thread B1)
          → (moves_of x.thread A1 < moves_of x.thread B1) ⊎ (moves_of x.thread B1 ≤ moves_of x.thread A1)
          → Meet x y A1 B1
      go (inl k) o = inl (
        step_agrees x y A1 B1 endA endB t
            (agreed.seats A1 B1 x.thread (earlier_refl A1) (earlier_tail y B1 B endB) k all) agreed.values (inl mx),
        k,
      )
      go (inr k) (inl o) =
          let r = find_move x.thread (moves_of x.thread A1) B1 o in
          let e : IsEarlier (r.0 ∷ r.1) B = earlier_trans (r.0 ∷ r.1) B1 B r.2 (earlier_tail y B1 B endB) in
          inr (inl (
            r.0,
            r.1,
            r.2,
            step_agrees x r.0 A1 r.1 endA e (sym r.3)
                (agreed.seats A1 r.1 x.thread (earlier_refl A1) (earlier_tail r.0 r.1 B e) (sym r.4) all)
                agreed.values (inl mx),
          ))
      go (inr k) (inr o) =
          let r = find_move x.thread (moves_of x.thread B1) A1 (omega (arith, k)) in
          let e : IsEarlier (r.0 ∷ r.1) A = earlier_trans (r.0 ∷ r.1) A1 A r.2 (earlier_tail x A1 A endA) in
          let e1 : IsEarlier r.1 A1 = earlier_tail r.0 r.1 A1 r.2 in
          let seat : SameSeat x.thread r.1 B1 =
          agreed.seats r.1 B1 x.thread e1 (earlier_tail y B1 B endB) r.4 (all_in_end x.thread r.1 A1 e1 all) in
          inr (inr (
            r.0,
            r.1,
            r.2,
            step_agrees r.0 y r.1 B1 e endB (r.3 ∙ t) (subst (λ (n : ℕ). SameSeat n r.1 B1) (sym r.3) seat)
                (values_end r.1 A1 e1 agreed.values) (inr my),
          ))

  -- the step that makes an entry of the set is one step
  same_entry : (x y : Step X) (A1 B1 : List (Step X)) (e : Entry) (lx ly : Option X) → IsEarlier (x ∷ A1) A
      → IsEarlier (y ∷ B1) B → Agreed A1 → IsIn e set → x.act ≡ Did e lx → y.act ≡ Did e ly → x ≡ y
  same_entry x y A1 B1 e lx ly endA endB agreed inset ax ay =
      go (meet x y A1 B1 endA endB (sym ex.0 ∙ ey.0) agreed all makes_x makes_y)
    where
      hx : IsHistory m inputs threads (x ∷ A1)
      hx = earlier_history m inputs threads (x ∷ A1) A endA hA

      hy : IsHistory m inputs threads (y ∷ B1)
      hy = earlier_history m inputs threads (y ∷ B1) B endB hB

      ex : (e.thread ≡ x.thread) × (e.number ≡ entries x.thread (log_of A1) + 1)
      ex = did_entry x.thread x.after.taken A1 hx.0.2 e lx (sym hx.0.4 ∙ ax)

      ey : (e.thread ≡ y.thread) × (e.number ≡ entries y.thread (log_of B1) + 1)
      ey = did_entry y.thread y.after.taken B1 hy.0.2 e ly (sym hy.0.4 ∙ ay)

      all : AllIn set x.thread A1
      all g here th =
          let n : (1 ≤ g.number) × (g.number ≤ entries g.thread (log_of A1)) =
          number_within (log_of A1) g (history_log m inputs threads A1 hx.1) here in
          let n2 : entries g.thread (log_of A1) ≡ entries x.thread (log_of A1) =
          ap (λ (u : ℕ). entries u (log_of A1)) th in
          closed_thread (log_of A) set g e logA closed (earlier_log A1 A g (earlier_tail x A1 A endA) here)
          (inA e inset) inset (th ∙ sym ex.0) (omega (arith, ex.1))

      makes_x : MakesIn set x.act
      makes_x f left af =
          let k : Did e lx ≡ Did f left = sym ax ∙ af in let j : e ≡ f = cc in subst (λ (g : Entry). IsIn g set) j inset

      makes_y : MakesIn set y.act
      makes_y f left af =
          let k : Did e ly ≡ Did f left = sym ay ∙ af in let j : e ≡ f = cc in subst (λ (g : Entry). IsIn g set) j inset

      go : Meet x y A1 B1 → x ≡ y
      go (inl r) = r.0
      go (inr (inl r)) =
          let l : IsLog (e ∷ log_of B1) =
          subst (λ (a : Act X). IsLog (log_more a (log_of B1))) ay (history_log m inputs threads (y ∷ B1) hy) in
          absurd (newest (log_of B1) e l (earlier_log (r.0 ∷ r.1) B1 e r.2
          (leaves_in (r.0 ∷ r.1) e lx (inl (sym (ap (λ (z : Step X). z.act) r.3) ∙ ax)))))
      go (inr (inr r)) =
          let l : IsLog (e ∷ log_of A1) =
          subst (λ (a : Act X). IsLog (log_more a (log_of A1))) ax (history_log m inputs threads (x ∷ A1) hx) in
          absurd (newest (log_of A1) e l
          (earlier_log (r.0 ∷ r.1) A1 e r.2 (leaves_in (r.0 ∷ r.1) e ly (inl (ap (λ (z : Step X). z.act) r.3 ∙ ay)))))

  values_more : (x : Step X) (A1 : List (Step X)) → IsEarlier (x ∷ A1) A → Agreed A1 → SameValues set (x ∷ A1) B
  values_more x A1 endA agreed e lx ly inset (inr a) b = agreed.values e lx ly inset a b
  values_more x A1 endA agreed e lx ly inset (inl a) b =
      let r = leaves_at B e ly b in
      let k : x ≡ r.0 = same_entry x r.0 A1 r.1 e lx ly endA r.2 agreed inset a r.3 in
      let j : Did e lx ≡ Did e ly = sym a ∙ (ap (λ (z : Step X). z.act) k ∙ r.3) in cc

  all_in_tail : (t : ℕ) (x : Step X) (A1 : List (Step X)) → AllIn set t (x ∷ A1) → AllIn set t A1
  all_in_tail t x A1 all e here th = all e (log_grow e x.act (log_of A1) here) th

  end_step : (C0 : List (Step X)) (y : Step X) (B1 : List (Step X)) → IsHistory m inputs threads C0
      → IsEarlier (y ∷ B1) C0 → IsStep m inputs threads B1 y
  end_step C0 y B1 h end = (earlier_history m inputs threads (y ∷ B1) C0 end h).0

  -- the new history, whose newest step is of the thread, against each end of the other
  seat_mine : (x : Step X) (A1 : List (Step X)) (t : ℕ) → IsEarlier (x ∷ A1) A → Agreed A1 → x.thread ≡ t
      → moves_of t (x ∷ A1) ≡ moves_of t A1 + 1 → AllIn set t (x ∷ A1) → (B0 : List (Step X)) → IsEarlier B0 B
      → moves_of t (x ∷ A1) ≡ moves_of t B0 → SameSeat t (x ∷ A1) B0
  seat_mine x A1 t endA agreed mine more all [] endB n = absurd (omega arith)
  seat_mine x A1 t endA agreed mine more all (y ∷ B1) endB n =
      go (moves_step t y B1) (seat_mine x A1 t endA agreed mine more all B1 (earlier_tail y B1 B endB))
    where
      makes : MakesIn set x.act
      makes e left h = all e (leaves_in (x ∷ A1) e left (inl h)) ((did_entry x.thread x.after.taken A1
          (end_step A x A1 hA endA).2 e left (sym (end_step A x A1 hA endA).4 ∙ h)).0
          ∙ mine)

      go : ((y.thread ≢ t) × (moves_of t (y ∷ B1) ≡ moves_of t B1))
          ⊎ ((y.thread ≡ t) × (moves_of t (y ∷ B1) ≡ moves_of t B1 + 1))
          → (moves_of t (x ∷ A1) ≡ moves_of t B1 → SameSeat t (x ∷ A1) B1) → SameSeat t (x ∷ A1) (y ∷ B1)
      go (inl k) rest = seat_trans t (x ∷ A1) B1 (y ∷ B1) (rest (n ∙ k.1))
          (seat_sym t (y ∷ B1) B1 (seat_other m inputs threads t y B1 (end_step B y B1 hB endB) k.0))
      go (inr k) rest =
          let seat : SameSeat t A1 B1 = agreed.seats A1 B1 t (earlier_refl A1) (earlier_tail y B1 B endB)
          (omega (arith, k.1)) (all_in_tail t x A1 all) in
          seat_next t A1 B1 x y
          (step_agrees x y A1 B1 endA endB (mine ∙ sym k.0) (subst (λ (u : ℕ). SameSeat u A1 B1) (sym mine) seat)
          agreed.values (inl makes)) seat

  -- the new history against each end of the other
  seat_more : (x : Step X) (A1 : List (Step X)) → IsEarlier (x ∷ A1) A → Agreed A1 → (B0 : List (Step X)) (t : ℕ)
      → IsEarlier B0 B → moves_of t (x ∷ A1) ≡ moves_of t B0 → AllIn set t (x ∷ A1) → SameSeat t (x ∷ A1) B0
  seat_more x A1 endA agreed B0 t endB n all = go (moves_step t x A1)
    where
      go : ((x.thread ≢ t) × (moves_of t (x ∷ A1) ≡ moves_of t A1))
          ⊎ ((x.thread ≡ t) × (moves_of t (x ∷ A1) ≡ moves_of t A1 + 1)) → SameSeat t (x ∷ A1) B0
      go (inl k) = seat_trans t (x ∷ A1) A1 B0 (seat_other m inputs threads t x A1 (end_step A x A1 hA endA) k.0)
          (agreed.seats A1 B0 t (earlier_refl A1) endB (sym k.1 ∙ n) (all_in_tail t x A1 all))
      go (inr k) = seat_mine x A1 t endA agreed k.0 k.1 all B0 endB n

  seats_more : (x : Step X) (A1 : List (Step X)) → IsEarlier (x ∷ A1) A → Agreed A1 → (A0 B0 : List (Step X)) (t : ℕ)
      → IsEarlier A0 (x ∷ A1) → IsEarlier B0 B → moves_of t A0 ≡ moves_of t B0 → AllIn set t A0 → SameSeat t A0 B0
  seats_more x A1 endA agreed A0 B0 t (inr end) endB n all = agreed.seats A0 B0 t end endB n all
  seats_more x A1 endA agreed A0 B0 t (inl end) endB n all =
      subst (λ (l : List (Step X)). SameSeat t l B0) (sym end)
      (seat_more x A1 endA agreed B0 t endB (subst (λ (l : List (Step X)). moves_of t l ≡ moves_of t B0) end n)
      (subst (λ (l : List (Step X)). AllIn set t l) end all))

  seat_start : (t : ℕ) (B0 : List (Step X)) → IsEarlier B0 B → 0 ≡ moves_of t B0 → SameSeat t [] B0
  seat_start t [] endB n = record { thread = refl; entries = refl; outputs = refl }
  seat_start t (y ∷ B1) endB n = go (moves_step t y B1) (seat_start t B1 (earlier_tail y B1 B endB))
    where
      go : ((y.thread ≢ t) × (moves_of t (y ∷ B1) ≡ moves_of t B1))
          ⊎ ((y.thread ≡ t) × (moves_of t (y ∷ B1) ≡ moves_of t B1 + 1)) → (0 ≡ moves_of t B1 → SameSeat t [] B1)
          → SameSeat t [] (y ∷ B1)
      go (inl k) rest = seat_trans t [] B1 (y ∷ B1) (rest (n ∙ k.1))
          (seat_sym t (y ∷ B1) B1 (seat_other m inputs threads t y B1 (end_step B y B1 hB endB) k.0))
      go (inr k) rest = absurd (omega (arith, k.1))

  pub agreed_all : (A1 : List (Step X)) → IsEarlier A1 A → Agreed A1
  agreed_all [] end = record {
    seats = λ A0 B0 t endA endB n all. subst (λ (l : List (Step X)). SameSeat t l B0) (sym endA)
        (seat_start t B0 endB (subst (λ (l : List (Step X)). moves_of t l ≡ moves_of t B0) endA n));
    values = λ e lx ly inset a b. absurd a;
  }
  agreed_all (x ∷ A1) end =
      let older : Agreed A1 = agreed_all A1 (earlier_tail x A1 A end) in
      record { seats = seats_more x A1 end older; values = values_more x A1 end older }

  -- the steps that make one entry of the set are one
  pub entries_agree : (x y : Step X) (A1 B1 : List (Step X)) (e : Entry) (lx ly : Option X) → IsEarlier (x ∷ A1) A
      → IsEarlier (y ∷ B1) B → IsIn e set → x.act ≡ Did e lx → y.act ≡ Did e ly → x ≡ y
  entries_agree x y A1 B1 e lx ly endA endB inset ax ay =
      same_entry x y A1 B1 e lx ly endA endB (agreed_all A1 (earlier_tail x A1 A endA)) inset ax ay

  -- the steps that send one output, whose predecessors are in the set, are one
  pub outputs_agree : (x y : Step X) (A1 B1 : List (Step X)) (o p : Emission) → IsEarlier (x ∷ A1) A
      → IsEarlier (y ∷ B1) B → x.act ≡ Emitted o → y.act ≡ Emitted p → o.thread ≡ p.thread → o.number ≡ p.number
      → AllIn set x.thread A1 → (x ≡ y) × SameSeat x.thread A1 B1
  outputs_agree x y A1 B1 o p endA endB ax ay t n all =
      go (meet x y A1 B1 endA endB (sym ox.0 ∙ (t ∙ oy.0)) agreed all (λ e l h. absurd (cc)) (λ e l h. absurd (cc)))
    where
      agreed : Agreed A1
      agreed = agreed_all A1 (earlier_tail x A1 A endA)

      hx : IsStep m inputs threads A1 x
      hx = end_step A x A1 hA endA

      hy : IsStep m inputs threads B1 y
      hy = end_step B y B1 hB endB

      ox : (o.thread ≡ x.thread) × (o.number ≡ outputs x.thread (sent_of A1) + 1)
      ox = did_emission x.thread x.after.taken A1 hx.2 o (sym hx.4 ∙ ax)

      oy : (p.thread ≡ y.thread) × (p.number ≡ outputs y.thread (sent_of B1) + 1)
      oy = did_emission y.thread y.after.taken B1 hy.2 p (sym hy.4 ∙ ay)

      -- an output of an end is below the count
      below : (z : Step X) (C2 C1 : List (Step X)) (q : Emission) → IsHistory m inputs threads C1
          → IsEarlier (z ∷ C2) C1 → z.act ≡ Emitted q → q.number ≤ outputs q.thread (sent_of C1)
      below z C2 C1 q h end az =
          let hz : IsStep m inputs threads C2 z = end_step C1 z C2 h end in
          let k : (q.thread ≡ z.thread) × (q.number ≡ outputs z.thread (sent_of C2) + 1) =
          did_emission z.thread z.after.taken C2 hz.2 q (sym hz.4 ∙ az) in
          let more : outputs q.thread (sent_of (z ∷ C2)) ≡ outputs q.thread (sent_of C2) + 1 =
          rw az (rw (is_eq q.thread q.thread refl) refl) in
          let low : outputs q.thread (sent_of (z ∷ C2)) ≤ outputs q.thread (sent_of C1) =
          earlier_outputs q.thread (z ∷ C2) C1 end in
          let same : outputs q.thread (sent_of C2) ≡ outputs z.thread (sent_of C2) =
          ap (λ (u : ℕ). outputs u (sent_of C2)) k.0 in
          omega (arith, k.1)

      go : Meet x y A1 B1 → (x ≡ y) × SameSeat x.thread A1 B1
      go (inl r) = (r.0, agreed.seats A1 B1 x.thread (earlier_refl A1) (earlier_tail y B1 B endB) r.1 all)
      go (inr (inl r)) =
          let k : o.number ≤ outputs o.thread (sent_of B1) = below r.0 r.1 B1 o
          (earlier_history m inputs threads (y ∷ B1) B endB hB).1 r.2 (sym (ap (λ (z : Step X). z.act) r.3) ∙ ax) in
          let same : outputs o.thread (sent_of B1) ≡ outputs y.thread (sent_of B1) =
          ap (λ (u : ℕ). outputs u (sent_of B1)) (t ∙ oy.0) in
          absurd (omega (arith, oy.1, n))
      go (inr (inr r)) =
          let k : p.number ≤ outputs p.thread (sent_of A1) = below r.0 r.1 A1 p
          (earlier_history m inputs threads (x ∷ A1) A endA hA).1 r.2 (ap (λ (z : Step X). z.act) r.3 ∙ ay) in
          let same : outputs p.thread (sent_of A1) ≡ outputs x.thread (sent_of A1) =
          ap (λ (u : ℕ). outputs u (sent_of A1)) (sym t ∙ ox.0) in
          absurd (omega (arith, ox.1, n))

  -- where the predecessors of an output are in the set, so are all entries of its thread so far
  pub all_from_output : (t n : ℕ) (A1 : List (Step X)) → IsEarlier A1 A → entries t (log_of A1) ≡ n
      → ((e : Entry) → PrecedesOutput (log_of A) t n e → IsIn e set) → AllIn set t A1
  all_from_output t n A1 end count given e here th = go (is_or e.number n)
    where
      log1 : IsLog (log_of A1)
      log1 = history_log m inputs threads A1 (earlier_history m inputs threads A1 A end hA)

      within : (1 ≤ e.number) × (e.number ≤ entries e.thread (log_of A1))
      within = number_within (log_of A1) e log1 here

      same : entries e.thread (log_of A1) ≡ entries t (log_of A1)
      same = ap (λ (u : ℕ). entries u (log_of A1)) th

      there : IsIn e (log_of A)
      there = earlier_log A1 A e end here

      go : (e.number ≡ n) ⊎ (e.number ≢ n) → IsIn e set
      go (inl k) = given e (e, there, th, k, inl refl)
      go (inr k) =
          let last = entry_there (log_of A1) t n log1 (omega (arith, within, same, count)) (omega (arith, count)) in
          let lastA : IsIn last.0 (log_of A) = earlier_log A1 A last.0 end last.1 in
          given e (
            last.0,
            lastA,
            last.2,
            last.3,
            inr (thread_chain (log_of A) (last.0.number - e.number - 1) e last.0 logA there lastA (th ∙ sym last.2)
                (omega (arith, within, same, k, last.3, count))),
          )

-- the step that made an entry, with where it left its thread
makes_at : {X : Type 0} (xs : List (Step X)) (e : Entry) (left : Option X) (after : Thread) → Makes xs e left after
    → (x : Step X) × (earlier : List (Step X)) × IsEarlier (x ∷ earlier) xs × (x.act ≡ Did e left) × (x.after ≡ after)
makes_at [] e left after h = absurd h
makes_at (x ∷ xs) e left after (inl h) = (x, xs, inl refl, h.0, h.1)
makes_at (x ∷ xs) e left after (inr h) = let r = makes_at xs e left after h in (r.0, r.1, inr r.2, r.3, r.4)

-- the step that sent a packet out
pub sends_at : {X : Type 0} (xs : List (Step X)) (o : Emission) (n : ℕ) → SendsAfter xs o n
    → (x : Step X) × (earlier : List (Step X)) × IsEarlier (x ∷ earlier) xs × (x.act ≡ Emitted o)
    × (entries o.thread (log_of earlier) ≡ n)
sends_at [] o n h = absurd h
sends_at (x ∷ xs) o n (inl h) = (x, xs, inl refl, h.0, h.1)
sends_at (x ∷ xs) o n (inr h) = let r = sends_at xs o n h in (r.0, r.1, inr r.2, r.3, r.4)

-- Two histories on the same inputs that keep one closed set of entries agree on it.
pub histories_agree : {X : Type 0} (m : Meaning X) (inputs : ℕ → List Packet) (threads : ℕ) (A B : List (Step X))
    (set : List Entry) → IsHistory m inputs threads A → IsHistory m inputs threads B → IsClosed (log_of A) set
    → Keeps (log_of A) set → Keeps (log_of B) set → AgreeOnEntries set A B × AgreeOnEmissions set A B
histories_agree {X} m inputs threads A B set hA hB closed inA inB = (on_entries, on_emissions)
  where
    on_entries : AgreeOnEntries set A B
    on_entries e a b here there inset ma mb =
        let r = makes_at A e a here ma in
        let q = makes_at B e b there mb in
        let k : r.0 ≡ q.0 =
        entries_agree m inputs threads set A B hA hB closed inA inB r.0 q.0 r.1 q.1 e a b r.2 q.2 inset r.3 q.3 in
        let acts : Did e a ≡ Did e b = sym r.3 ∙ (ap (λ (z : Step X). z.act) k ∙ q.3) in
        (cc, sym r.4 ∙ (ap (λ (z : Step X). z.after) k ∙ q.4))

    on_emissions : AgreeOnEmissions set A B
    on_emissions o p n k so sp t number given =
        let r = sends_at A o n so in
        let q = sends_at B p k sp in
        let h = earlier_history m inputs threads (r.0 ∷ r.1) A r.2 hA in
        let ot : o.thread ≡ r.0.thread = (did_emission r.0.thread r.0.after.taken r.1 h.0.2 o (sym h.0.4 ∙ r.3)).0 in
        let all : AllIn set o.thread r.1 = all_from_output m inputs threads set A B hA hB closed inA inB o.thread n r.1
        (earlier_tail r.0 r.1 A r.2) r.4 given in
        let same = outputs_agree m inputs threads set A B hA hB closed inA inB r.0 q.0 r.1 q.1 o p r.2 q.2 r.3 q.3 t
        number (subst (λ (u : ℕ). AllIn set u r.1) ot all) in
        let acts : Emitted o ≡ Emitted p = sym r.3 ∙ (ap (λ (z : Step X). z.act) same.0 ∙ q.3) in
        let counts : entries o.thread (log_of r.1) ≡ entries o.thread (log_of q.1) =
        subst (λ (u : ℕ). entries u (log_of r.1) ≡ entries u (log_of q.1)) (sym ot) same.1.entries in
        (cc, sym r.4 ∙ (counts ∙ (ap (λ (u : ℕ). entries u (log_of q.1)) t ∙ q.4)))
