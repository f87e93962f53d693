-- The receipts of one thread among those of all.
use Rattle.std.proofs.Common.{◌≡◌, ℕ, ◌≢◌, Bool, true, false, List, [], ◌∷◌, refl, ap, inl, inr, ◌⊎◌, cond}
use Rattle.std.specs.Prelude.{nat_eq}
use Rattle.plain_text.specs.declared.packet.Packet.{Packet}
use Rattle.entry_order.specs.Log.{Entry, entries, places}
use Rattle.entry_order.proofs.Order.{is_or}
use Rattle.plain_machine.specs.Program.{Meaning}
use Rattle.plain_machine.specs.Machine.{Effect, Takes, Touches, Looks, HearsClock, HearsDraw, Sends, Ends}
use Rattle.plain_machine.specs.History.{Step, log_more, log_of, sent_more, sent_of, outputs, act_of}
use Rattle.plain_machine.proofs.Histories.{not_eq, is_eq}
use Rattle.plain_machine.proofs.MoveLemmas.{IsOn}
use Rattle.plain_machine.proofs.Seats.{SameSeat, seat_next, seat_trans}
use Rattle.round_order.specs.Receipts.{Receipt, Among, own, after, act_at}
use Rattle.round_order.specs.Linked.{IsOwnMove, AreOwnMoves}

pub among_own : {V : Type 0} (order : List (Receipt V)) (r : Receipt V) → Among r order
    → Among r (own r.step.thread order)
among_own [] r h = absurd h
among_own {V} (x ∷ earlier) r (inl same) =
    let mine : nat_eq x.step.thread r.step.thread ≡ true =
    is_eq x.step.thread r.step.thread (ap (λ (y : Receipt V). y.step.thread) same) in
    rw mine (inl same)
among_own {V} (x ∷ earlier) r (inr h) = go (nat_eq x.step.thread r.step.thread) (among_own earlier r h)
  where
    go : (b : Bool) → Among r (own r.step.thread earlier)
        → Among r (cond b (x ∷ own r.step.thread earlier) (own r.step.thread earlier))
    go true k = inr k
    go false k = k

pub own_among : {V : Type 0} (order : List (Receipt V)) (t : ℕ) (r : Receipt V) → Among r (own t order) → Among r order
own_among [] t r h = absurd h
own_among {V} (x ∷ earlier) t r h = go (nat_eq x.step.thread t) h (own_among earlier t r)
  where
    go : (b : Bool) → Among r (cond b (x ∷ own t earlier) (own t earlier)) → (Among r (own t earlier) → Among r earlier)
        → Among r (x ∷ earlier)
    go true (inl same) rest = inl same
    go true (inr k) rest = inr (rest k)
    go false k rest = inr (rest k)

-- what holds of the receipts of each thread holds of those that came earlier
pub own_rest : {V : Type 0} (m : Meaning V) (inputs : ℕ → List Packet) (past : List (Step V)) (t : ℕ) (r : Receipt V)
    (earlier : List (Receipt V)) → AreOwnMoves m inputs past t (own t (r ∷ earlier))
    → AreOwnMoves m inputs past t (own t earlier)
own_rest {V} m inputs past t r earlier h = go (nat_eq r.step.thread t) h
  where
    go : (b : Bool) → AreOwnMoves m inputs past t (cond b (r ∷ own t earlier) (own t earlier))
        → AreOwnMoves m inputs past t (own t earlier)
    go true k = k.2
    go false k = k

pub own_first : {V : Type 0} (m : Meaning V) (inputs : ℕ → List Packet) (past : List (Step V)) (r : Receipt V)
    (earlier : List (Receipt V)) → AreOwnMoves m inputs past r.step.thread (own r.step.thread (r ∷ earlier))
    → IsOwnMove m inputs (after (own r.step.thread earlier) past) r
own_first {V} m inputs past r earlier h =
    let mine : nat_eq r.step.thread r.step.thread ≡ true = is_eq r.step.thread r.step.thread refl in
    let k : AreOwnMoves m inputs past r.step.thread (r ∷ own r.step.thread earlier) = rw mine at h in k.1

-- A move leaves the seats of other threads

entries_other : {V : Type 0} (t u taken place : ℕ) (mine : List (Step V)) (log : List Entry) (d : Effect V) → u ≢ t
    → entries t (log_more (act_at u mine taken place d) log) ≡ entries t log
entries_other t u taken place mine log Takes h = refl
entries_other t u taken place mine log (Touches v left) h = rw (not_eq u t h) refl
entries_other t u taken place mine log (Looks v) h = rw (not_eq u t h) refl
entries_other t u taken place mine log (HearsClock a) h = rw (not_eq u t h) refl
entries_other t u taken place mine log (HearsDraw a) h = rw (not_eq u t h) refl
entries_other t u taken place mine log (Sends p) h = refl
entries_other t u taken place mine log Ends h = refl

outputs_other : {V : Type 0} (t u taken place : ℕ) (mine A : List (Step V)) (d : Effect V) → u ≢ t
    → outputs t (sent_more (act_at u mine taken place d) (sent_of A)) ≡ outputs t (sent_of A)
outputs_other t u taken place mine A Takes h = refl
outputs_other t u taken place mine A (Touches v left) h = refl
outputs_other t u taken place mine A (Looks v) h = refl
outputs_other t u taken place mine A (HearsClock a) h = refl
outputs_other t u taken place mine A (HearsDraw a) h = refl
outputs_other t u taken place mine A (Sends p) h = rw (not_eq u t h) refl
outputs_other t u taken place mine A Ends h = refl

pub seat_other : {V : Type 0} (m : Meaning V) (inputs : ℕ → List Packet) (t : ℕ) (mine A : List (Step V))
    (r : Receipt V) → IsOwnMove m inputs mine r → r.step.thread ≢ t → SameSeat t (r.step ∷ A) A
seat_other m inputs t mine A r h ne = record {
  thread = rw (not_eq r.step.thread t ne) refl;
  entries = rw h.2 (entries_other t r.step.thread r.step.after.taken r.place mine (log_of A) h.0 ne);
  outputs = rw h.2 (outputs_other t r.step.thread r.step.after.taken r.place mine A h.0 ne);
}

-- A thread is where its own moves left it.
pub seat_own : {V : Type 0} (m : Meaning V) (inputs : ℕ → List Packet) (past : List (Step V)) (t : ℕ)
    (order : List (Receipt V)) → ((u : ℕ) → AreOwnMoves m inputs past u (own u order))
    → SameSeat t (after order past) (after (own t order) past)
seat_own m inputs past t [] h = record { thread = refl; entries = refl; outputs = refl }
seat_own {V} m inputs past t (r ∷ earlier) h =
    go (is_or r.step.thread t) (seat_own m inputs past t earlier (λ u. own_rest m inputs past u r earlier (h u)))
  where
    go : (r.step.thread ≡ t) ⊎ (r.step.thread ≢ t) → SameSeat t (after earlier past) (after (own t earlier) past)
        → SameSeat t (r.step ∷ after earlier past) (after (own t (r ∷ earlier)) past)
    go (inl same) k = rw (is_eq r.step.thread t same)
        (seat_next t (after earlier past) (after (own t earlier) past) r.step r.step refl k)
    go (inr apart) k = rw (not_eq r.step.thread t apart)
        (seat_trans t (r.step ∷ after earlier past) (after earlier past) (after (own t earlier) past)
        (seat_other m inputs t _ (after earlier past) r (own_first m inputs past r earlier (h r.step.thread)) apart) k)

-- An effect has the same numbers in both, where it has its place.
pub act_here : {V : Type 0} (t taken place : ℕ) (mine A : List (Step V)) (d : Effect V) → SameSeat t A mine
    → ((v : ℕ) → IsOn v d → places v (log_of A) ≡ place) → act_at t mine taken place d ≡ act_of t A taken d
act_here t taken place mine A Takes s h = refl
act_here t taken place mine A (Touches v left) s h =
    let n : places v (log_of A) ≡ place = h v refl in rw (s.entries, n) refl
act_here t taken place mine A (Looks v) s h = let n : places v (log_of A) ≡ place = h v refl in rw (s.entries, n) refl
act_here t taken place mine A (HearsClock a) s h = rw s.entries refl
act_here t taken place mine A (HearsDraw a) s h = rw s.entries refl
act_here t taken place mine A (Sends p) s h = rw s.outputs refl
act_here t taken place mine A Ends s h = refl
