-- The place of a thread in two histories, and a step made from there in both.
use Rattle.std.proofs.Common.{◌≡◌, ℕ, ◌+◌, ◌≢◌, List, ◌∷◌, refl, sym, ap, ◌∙◌, subst, inl, inr, ◌⊎◌, Option, Some, None}
use Rattle.std.proofs.Common.{cond}
use Rattle.std.specs.Prelude.{nat_eq}
use Rattle.plain_text.specs.declared.packet.Packet.{Packet}
use Rattle.entry_order.specs.declared.what.What.TheVariants.{Access, Read, Clock, Draw}
use Rattle.entry_order.specs.Log.{Entry, entries, places}
use Rattle.plain_machine.specs.Program.{Meaning}
use Rattle.plain_machine.specs.Machine.{Thread, Effect, Takes, Touches, Looks, HearsClock, HearsDraw, Sends, Ends}
use Rattle.plain_machine.specs.Machine.{Moves, thread_move}
use Rattle.plain_machine.specs.declared.emission.Emission.{Emission}
use Rattle.plain_machine.specs.History.{Act, Took, Did, Emitted, Ended, Step, log_more, log_of, sent_more, sent_of}
use Rattle.plain_machine.specs.History.{outputs, entry_of, act_of, thread_after, value_after, IsStep}
use Rattle.plain_machine.proofs.Histories.{not_eq}
use Rattle.plain_machine.proofs.MoveLemmas.{Alike, held_same}

-- The state of a thread, its counts of entries and of packets sent out are the same after two histories.
pub record SameSeat {V : Type 0} (t : ℕ) (A B : List (Step V)) : Type 0 where
  pub thread : thread_after A t ≡ thread_after B t
  pub entries : entries t (log_of A) ≡ entries t (log_of B)
  pub outputs : outputs t (sent_of A) ≡ outputs t (sent_of B)

-- One effect from one seat is one act, where it makes one entry.
act_same : {V : Type 0} (t taken : ℕ) (A B : List (Step V)) (d : Effect V) → SameSeat t A B
    → ((e f : Entry) (lx ly : Option V) → act_of t A taken d ≡ Did e lx → act_of t B taken d ≡ Did f ly → e ≡ f)
    → act_of t A taken d ≡ act_of t B taken d
act_same t taken A B Takes same s = refl
act_same t taken A B (Touches v left) same s = ap (λ (e : Entry). Did e (Some left)) (s _ _ _ _ refl refl)
act_same t taken A B (Looks v) same s = ap (λ (e : Entry). Did e None) (s _ _ _ _ refl refl)
act_same t taken A B (HearsClock a) same s = ap (λ (e : Entry). Did e None) (s _ _ _ _ refl refl)
act_same t taken A B (HearsDraw a) same s = ap (λ (e : Entry). Did e None) (s _ _ _ _ refl refl)
act_same t taken A B (Sends packet) same s =
    ap (λ (n : ℕ). Emitted (record { thread = t; number = n + 1; input = taken; packet = packet })) same.outputs
act_same t taken A B Ends same s = refl

-- What two logged steps must have in common: the entry, and where it is on a variable, the value before it.
abbrev pub SameLogged : {V : Type 0} → Meaning V → List (Step V) → List (Step V) → Act V → Act V → Type 0
SameLogged {V} m A B x y =
    (e f : Entry) (lx ly : Option V) → x ≡ Did e lx → y ≡ Did f ly
    → (e ≡ f) × ((v s : ℕ) → (e.what ≡ Access v s) ⊎ (e.what ≡ Read v s) → value_after m A v ≡ value_after m B v)

-- So their effects are alike.
alike : {V : Type 0} (m : Meaning V) (t taken late : ℕ) (A B : List (Step V)) (dx dy : Effect V)
    → SameLogged m A B (act_of t A taken dx) (act_of t B late dy) → Alike (value_after m A) (value_after m B) dx dy
alike {V} m t taken late A B dx dy s = record {
  clock = λ p q ex ey.
      let a : act_of t A taken dx ≡ Did (entry_of t (log_of A) (Clock p)) None = rw ex refl in
      let b : act_of t B late dy ≡ Did (entry_of t (log_of B) (Clock q)) None = rw ey refl in
      let k : Clock p ≡ Clock q = ap (λ (e : Entry). e.what) (s _ _ _ _ a b).0 in cc;
  draw = λ p q ex ey.
      let a : act_of t A taken dx ≡ Did (entry_of t (log_of A) (Draw p)) None = rw ex refl in
      let b : act_of t B late dy ≡ Did (entry_of t (log_of B) (Draw q)) None = rw ey refl in
      let k : Draw p ≡ Draw q = ap (λ (e : Entry). e.what) (s _ _ _ _ a b).0 in cc;
  touch = λ v x z ex ey.
      let a : act_of t A taken dx ≡ Did (entry_of t (log_of A) (Access v (places v (log_of A) + 1))) (Some x) =
      rw ex refl in
      let b : act_of t B late dy ≡ Did (entry_of t (log_of B) (Access v (places v (log_of B) + 1))) (Some z) =
      rw ey refl in
      (s _ _ _ _ a b).1 v _ (inl refl);
  look = λ v ex ey.
      let a : act_of t A taken dx ≡ Did (entry_of t (log_of A) (Read v (places v (log_of A)))) None = rw ex refl in
      let b : act_of t B late dy ≡ Did (entry_of t (log_of B) (Read v (places v (log_of B)))) None = rw ey refl in
      (s _ _ _ _ a b).1 v _ (inr refl);
}

abbrev make : {V : Type 0} → ℕ → Act V → Thread → Step V
make t act after = record { thread = t; act = act; after = after }

-- Two legal steps of one thread from one seat, with one entry where they are logged, are one.
pub same_step : {V : Type 0} (m : Meaning V) (inputs : ℕ → List Packet) (threads : ℕ) (A B : List (Step V))
    (x y : Step V) → IsStep m inputs threads A x → IsStep m inputs threads B y → x.thread ≡ y.thread
    → SameSeat x.thread A B → SameLogged m A B x.act y.act → x ≡ y
same_step {V} m inputs threads A B x y hx hy t seat s = join x.thread y.thread t hx.3 hx.4 hy.3 hy.4 seat
  where
    join : (u w : ℕ) → u ≡ w → thread_move m (inputs u) (value_after m A) (thread_after A u) hx.1 ≡ Moves x.after hx.2
        → x.act ≡ act_of u A x.after.taken hx.2
        → thread_move m (inputs w) (value_after m B) (thread_after B w) hy.1 ≡ Moves y.after hy.2
        → y.act ≡ act_of w B y.after.taken hy.2 → SameSeat u A B → x ≡ y
    join u w e mx ax my ay seat =
        let my2 =
        subst (λ (k : ℕ). thread_move m (inputs k) (value_after m B) (thread_after B k) hy.1 ≡ Moves y.after hy.2)
        (sym e) my in
        let my3 : thread_move m (inputs u) (value_after m B) (thread_after A u) hy.1 ≡ Moves y.after hy.2 =
        subst (λ (th : Thread). thread_move m (inputs u) (value_after m B) th hy.1 ≡ Moves y.after hy.2)
        (sym seat.thread) my2 in
        let ay2 : y.act ≡ act_of u B y.after.taken hy.2 =
        subst (λ (k : ℕ). y.act ≡ act_of k B y.after.taken hy.2) (sym e) ay in
        let s2 = subst (λ (a : Act V). SameLogged m A B a y.act) ax s in
        let s3 = subst (λ (a : Act V). SameLogged m A B (act_of u A x.after.taken hx.2) a) ay2 s2 in
        let r : (x.after ≡ y.after) × (hx.2 ≡ hy.2) =
        held_same m (inputs u) (value_after m A) (value_after m B) (thread_after A u).taken (thread_after A u).hand hx.1
        hy.1 x.after y.after hx.2 hy.2 mx my3 (alike m u x.after.taken y.after.taken A B hx.2 hy.2 s3) in
        let ay3 : y.act ≡ act_of u B x.after.taken hy.2 =
        subst (λ (th : Thread). y.act ≡ act_of u B th.taken hy.2) (sym r.0) ay2 in
        let ay4 : y.act ≡ act_of u B x.after.taken hx.2 =
        subst (λ (d : Effect V). y.act ≡ act_of u B x.after.taken d) (sym r.1) ay3 in
        let k : act_of u A x.after.taken hx.2 ≡ act_of u B x.after.taken hx.2 =
        act_same u x.after.taken A B hx.2 seat (λ e f lx ly p q. (s e f lx ly (ax ∙ p) (ay4 ∙ q)).0) in
        ap (λ (n : ℕ). make n x.act x.after) t
        ∙ (ap (λ (a : Act V). make y.thread a x.after) (ax ∙ (k ∙ sym ay4))
        ∙ ap (λ (th : Thread). make y.thread y.act th) r.0)

-- The seat after one more step

entries_act : {V : Type 0} (t : ℕ) (a : Act V) (xs ys : List Entry) → entries t xs ≡ entries t ys
    → entries t (log_more a xs) ≡ entries t (log_more a ys)
entries_act t (Took k) xs ys h = h
entries_act t (Did e left) xs ys h = ap (λ (n : ℕ). cond (nat_eq e.thread t) (n + 1) n) h
entries_act t (Emitted o) xs ys h = h
entries_act t (Ended k) xs ys h = h

outputs_act : {V : Type 0} (t : ℕ) (a : Act V) (xs ys : List Emission) → outputs t xs ≡ outputs t ys
    → outputs t (sent_more a xs) ≡ outputs t (sent_more a ys)
outputs_act t (Took k) xs ys h = h
outputs_act t (Did e left) xs ys h = h
outputs_act t (Emitted o) xs ys h = ap (λ (n : ℕ). cond (nat_eq o.thread t) (n + 1) n) h
outputs_act t (Ended k) xs ys h = h

-- one step from one seat leads to one seat
pub seat_next : {V : Type 0} (t : ℕ) (A B : List (Step V)) (x y : Step V) → x ≡ y → SameSeat t A B
    → SameSeat t (x ∷ A) (y ∷ B)
seat_next t A B x y e s = subst (λ (z : Step _). SameSeat t (x ∷ A) (z ∷ B)) e (record {
  thread = ap (λ (th : Thread). cond (nat_eq x.thread t) x.after th) s.thread;
  entries = entries_act t x.act (log_of A) (log_of B) s.entries;
  outputs = outputs_act t x.act (sent_of A) (sent_of B) s.outputs;
})

entries_other : {V : Type 0} (t u taken : ℕ) (A : List (Step V)) (d : Effect V) → u ≢ t
    → entries t (log_more (act_of u A taken d) (log_of A)) ≡ entries t (log_of A)
entries_other t u taken A Takes h = refl
entries_other t u taken A (Touches v left) h = rw (not_eq u t h) refl
entries_other t u taken A (Looks v) h = rw (not_eq u t h) refl
entries_other t u taken A (HearsClock a) h = rw (not_eq u t h) refl
entries_other t u taken A (HearsDraw a) h = rw (not_eq u t h) refl
entries_other t u taken A (Sends p) h = refl
entries_other t u taken A Ends h = refl

outputs_other : {V : Type 0} (t u taken : ℕ) (A : List (Step V)) (d : Effect V) → u ≢ t
    → outputs t (sent_more (act_of u A taken d) (sent_of A)) ≡ outputs t (sent_of A)
outputs_other t u taken A Takes h = refl
outputs_other t u taken A (Touches v left) h = refl
outputs_other t u taken A (Looks v) h = refl
outputs_other t u taken A (HearsClock a) h = refl
outputs_other t u taken A (HearsDraw a) h = refl
outputs_other t u taken A (Sends p) h = rw (not_eq u t h) refl
outputs_other t u taken A Ends h = refl

-- the step of another thread leaves the seat
pub seat_other : {V : Type 0} (m : Meaning V) (inputs : ℕ → List Packet) (threads : ℕ) (t : ℕ) (x : Step V)
    (A : List (Step V)) → IsStep m inputs threads A x → x.thread ≢ t → SameSeat t (x ∷ A) A
seat_other m inputs threads t x A h ne = record {
  thread = rw (not_eq x.thread t ne) refl;
  entries = rw h.4 (entries_other t x.thread x.after.taken A h.2 ne);
  outputs = rw h.4 (outputs_other t x.thread x.after.taken A h.2 ne);
}

pub seat_sym : {V : Type 0} (t : ℕ) (A B : List (Step V)) → SameSeat t A B → SameSeat t B A
seat_sym t A B s = record { thread = sym s.thread; entries = sym s.entries; outputs = sym s.outputs }

pub seat_trans : {V : Type 0} (t : ℕ) (A B C : List (Step V)) → SameSeat t A B → SameSeat t B C → SameSeat t A C
seat_trans t A B C s r =
    record { thread = s.thread ∙ r.thread; entries = s.entries ∙ r.entries; outputs = s.outputs ∙ r.outputs }
