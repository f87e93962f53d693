-- What a seat that was blocked tells of its thread at the end of the round.
use Rattle.std.proofs.Common.{◌≡◌, ℕ, suc, ◌+◌, ◌<◌, ◌≤◌, List, [], ◌∷◌, map, length, Option, Some, None}
use Rattle.std.proofs.Common.{refl, sym, ap, ◌∙◌, subst, inl, inr, arith}
use Rattle.std.specs.Prelude.{slice_index_or}
use Rattle.plain_text.specs.declared.packet.Packet.{Packet}
use Rattle.entry_order.specs.Log.{places}
use Rattle.access_log.specs.Held.{Lane}
use Rattle.box_program.specs.Hands.{local_in}
use Rattle.plain_machine.specs.declared.local.Local.{Local}
use Rattle.plain_machine.specs.declared.plain_move.PlainMove.{PlainMove}
use Rattle.plain_machine.specs.Program.{Meaning}
use Rattle.plain_machine.specs.Machine.{Hand}
use Rattle.plain_machine.specs.History.{Step, log_of, thread_after}
use Rattle.master_core.specs.declared.parts.ThreadPart.{ThreadPart}
use Rattle.master_core.specs.Mastered.{Mastered}
use Rattle.master_core.specs.MasterStanding.{IsThread}
use Rattle.atomic_table.specs.Seated.{TableId}
use Rattle.replay_guide.specs.Turns.{WaitsFor}
use Rattle.round_order.specs.Receipts.{after}
use Rattle.var_locks.specs.declared.view.MissedEntry.{MissedEntry}
use Rattle.var_locks.specs.Views.{IsMissed}
use Rattle.var_locks.specs.Seats.{Seated}
use Rattle.var_locks.specs.TouchedParts.{missed_at, IsBlocked}
use Rattle.var_locks.specs.Closing.{AreSeats, FoundMissing, Closes, IsClosed, seat_part, receipts_of}
use Rattle.var_locks.proofs.Beginning.{fresh_var}
use Rattle.round_events.specs.Waiting.{IsNotMade, IsHeldUp}
use Rattle.round_events.specs.Blocked.{IsStuck, IsSeatAmong}

-- a seat that a touch blocked
pub blocked_stuck : {V : Type 0} (m : Meaning V) (guide : List Lane) (old new : Seated V) (u k : ℕ)
    (b : IsBlocked m guide old u k new) → IsStuck m guide new (missed_at u k b.var b.found.places)
blocked_stuck {V} m guide old new u k b =
    subst (λ (x : Seated V). IsStuck m guide x (missed_at u k b.var b.found.places)) (sym b.seat) (record {
      read = b.read;
      place = b.place;
      readers = b.found.readers;
      hand = b.hand;
      next = b.next;
      waits = b.waits;
      missed = inl refl;
    })

map_length : {A B : Type 0} (f : A → B) (l : List A) → length (map f l) ≡ length l
map_length f [] = refl
map_length f (x ∷ xs) = ap suc (map_length f xs)

-- the part of a seat's thread is among those of all
part_at : {V : Type 0} (round : TableId) (from : ℕ) (seats : List (Seated V)) (x : Seated V)
    → AreSeats round from seats → IsSeatAmong x seats
    → (i : ℕ) × (x.thread ≡ from + i) × (i < length seats)
    × ((d : ThreadPart) → slice_index_or (map seat_part seats) i d ≡ x.part)
part_at round from [] x are among = absurd among
part_at {V} round from (y ∷ others) x are (inl same) =
    let first : y.thread ≡ from = are.0 in
    let one : y.thread ≡ x.thread = ap (λ (z : Seated V). z.thread) same in
    (0, omega (arith, first, one), omega arith, λ d. ap (λ (z : Seated V). z.part) same)
part_at round from (y ∷ others) x are (inr there) =
    let k = part_at round (from + 1) others x are.3 there in
    let e = k.1 in
    let low = k.2 in
    (suc k.0, omega (arith, e), omega (arith, low), k.3)

found_by : {V : Type 0} (seats : List (Seated V)) (x : Seated V) (e : MissedEntry)
    → IsSeatAmong x seats → IsMissed e x.missing → FoundMissing seats e
found_by [] x e among missed = absurd among
found_by {V} (y ∷ others) x e (inl same) missed =
    inl (subst (λ (z : Seated V). IsMissed e z.missing) (sym same) missed)
found_by (y ∷ others) x e (inr there) missed = inr (found_by others x e there missed)

-- a packet in hand by its place
hand_there : (o : Option Hand) (place : Local) → local_in o ≡ Some place → (h : Hand) × (o ≡ Some h) × (h.place ≡ place)
hand_there None place is = absurd (cc)
hand_there (Some h) place is = (h, refl, (let q : Some h.place ≡ Some place = is in cc))

module _ {V : Type 0} (m : Meaning V) (fits : ℕ → V → Type 0) (guide : List Lane) (p q : Mastered V) (round : TableId)
    (seats : List (Seated V)) (inputs : ℕ → List Packet) (moves : List PlainMove) (past : List (Step V)) (x : Seated V)
    (e : MissedEntry) (closed : IsClosed m fits guide p seats q) (are : AreSeats round 0 seats)
    (c : Closes m guide p seats q inputs moves past) (among : IsSeatAmong x seats) (stuck : IsStuck m guide x e) where
  abbrev steps : List (Step V)
  steps = after c.weaves.order past

  found : FoundMissing seats e
  found = found_by seats x e among stuck.missed

  pub below : x.thread < length p.threads
  below =
      let k = part_at round 0 seats x are among in
      let is = k.1 in
      let low = k.2 in
      let all : length (map seat_part seats) ≡ length seats = map_length seat_part seats in
      let parts : length (map seat_part seats) ≡ length q.threads =
      ap (λ (l : List ThreadPart). length l) (sym closed.threads) in
      let of : length (map seat_part seats) ≡ length p.threads = parts ∙ c.weaves.stands.threads_are in
      omega (arith, is, low, all, of)

  thread : IsThread steps x.thread x.part
  thread =
      let k = part_at round 0 seats x are among in
      let is = k.1 in
      let same : k.0 ≡ x.thread = omega (arith, is) in
      let part : slice_index_or q.threads x.thread x.part ≡ x.part =
      ap (λ (l : List ThreadPart). slice_index_or l x.thread x.part) closed.threads
      ∙ (ap (λ (i : ℕ). slice_index_or (map seat_part seats) i x.part) (sym same) ∙ k.3 x.part) in
      subst (λ (z : ThreadPart). IsThread steps x.thread z) part (c.weaves.stands.thread x.thread x.part below)

  touched : e.places ≤ places e.var (log_of steps)
  touched =
      let k = closed.touched e (fresh_var m) found in
      let v = c.weaves.stands.var e.var (fresh_var m) (subst (λ (n : ℕ). e.var < n) closed.fit.count k.0) in
      subst (λ (n : ℕ). e.places ≤ n) v.places k.1

  pub not_made : IsNotMade guide past (receipts_of m past seats) e.thread e.number
  not_made what stamp follows known = c.missing e what stamp found follows known

  pub held_up : IsHeldUp m guide (after c.weaves.order past) x.thread e.thread e.number
  held_up =
      let h = hand_there (thread_after steps x.thread).hand stuck.place (sym thread.hand ∙ stuck.hand) in record {
        var = e.var;
        read = stuck.read;
        found = e.places;
        readers = stuck.readers;
        hand = h.0;
        hand_is = h.1;
        next = ap m.next h.2 ∙ stuck.next;
        waits = subst
            (λ (n : ℕ). WaitsFor guide x.thread (n + 1) e.var stuck.read e.places stuck.readers e.thread e.number)
            thread.logged stuck.waits;
        touched = touched;
      }
