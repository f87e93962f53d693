-- One more move of a worker, and none.
use Rattle.std.proofs.Common.{◌≡◌, ℕ, ◌+◌, ◌-◌, ◌≤◌, ◌⊎◌, inl, inr, List, [], ◌∷◌, ◌++◌, length, refl, sym, ap, ◌∙◌}
use Rattle.std.proofs.Common.{subst, Option, Some, None, arith, false, true}
use Rattle.std.specs.Prelude.{slice_get}
use Rattle.rand_pcg.specs.Lcg.{Lcg}
use Rattle.plain_text.specs.declared.packet.Packet.{Packet}
use Rattle.entry_order.specs.declared.what.What.{What}
use Rattle.entry_order.specs.declared.what.What.TheVariants as what
use Rattle.access_log.specs.Held.{Lane}
use Rattle.access_log.specs.declared.entry.StampedEntry.{StampedEntry}
use Rattle.access_log.specs.declared.entry.Output.{Output}
use Rattle.plain_machine.specs.declared.local.Local.{Local}
use Rattle.plain_machine.specs.declared.local.Move.TheVariants as move
use Rattle.plain_machine.specs.Program.{Meaning}
use Rattle.master_core.specs.declared.parts.ThreadPart.{ThreadPart}
use Rattle.master_core.specs.declared.parts.VarPart.{VarPart}
use Rattle.master_core.specs.declared.step.Stepped.{Stepped}
use Rattle.master_core.specs.declared.step.Stepped.TheVariants as stepped
use Rattle.master_core.specs.declared.step.Trace.{Trace}
use Rattle.master_core.specs.declared.step.Trace.TheVariants as trace
use Rattle.master_core.specs.Effects.{TouchesParts, ReadsParts, after_entry, after_take, after_emit, after_end}
use Rattle.master_core.specs.Mastered.{in_hand_count, moves_made}
use Rattle.var_locks.specs.declared.view.Note.{Note}
use Rattle.var_locks.specs.Notes.{AreFed, IsOwnBy, IsOwnEntry, IsOnVariable, answer_in, input_number}
use Rattle.var_locks.specs.Seats.{Seated}
use Rattle.round_events.specs.Done.{IsDone, AreDone}
use Rattle.round_events.specs.Shown.{IsShown}
use Rattle.round_join.specs.declared.noting.Made.{Made}
use Rattle.round_join.specs.Working.{AreMadeBy, Works}
use Rattle.live_workers.specs.Telling.{IsTold, AreTold}
use Rattle.live_workers.specs.Moving.{ComesTo, HasInput, IsAtRest, IsFedTo, IsHeld, OneMore, answer_shown, made_by}
use Rattle.live_workers.specs.Working.{Given, Course, GoesOn, HasCome, HasEnded, MadeOne, MadeNone, WhyEnded}

-- What a move does to the part of its thread

hand_given : (part : ThreadPart) (o : Option Local) → part.hand ≡ o
    → moves_made part
    ≡ part.counts.taken + (part.counts.taken - in_hand_count o) + part.counts.entries + part.counts.outputs
hand_given part o is = ap
    (λ (z : Option Local).
    part.counts.taken + (part.counts.taken - in_hand_count z) + part.counts.entries + part.counts.outputs) is

module _ (packets : List Packet) (before : ThreadPart) (has : HasInput packets before) where
  -- it keeps what a worker needs of it
  abbrev pub Grows : ThreadPart → Type 0
  Grows after = HasInput packets after × (moves_made after ≤ moves_made before + 1)

  -- of a thread that has a packet in hand, and keeps it
  keeps : (place : Local) → before.hand ≡ Some place → (after : ThreadPart)
      → after.counts.taken ≡ before.counts.taken → HasInput packets after
  keeps place hand after taken other is = let k = has place hand in (k.0, k.1, taken ∙ k.2, k.3)

  logged : (place next : Local) (stamp : List ℕ) → before.hand ≡ Some place → Grows (after_entry before next stamp)
  logged place next stamp hand = (
    keeps place hand (after_entry before next stamp) refl,
    (let k = hand_given before (Some place) hand in omega (arith, k)),
  )

  emitted : (place next : Local) → before.hand ≡ Some place → Grows (after_emit before next)
  emitted place next hand = (
    keeps place hand (after_emit before next) refl,
    (let k = hand_given before (Some place) hand in omega (arith, k)),
  )

  ended : (place : Local) → before.hand ≡ Some place → Grows (after_end before)
  ended place hand = (
    λ other is. absurd (cc),
    (let k = hand_given before (Some place) hand in let e = (has place hand).2 in omega (arith, k, e)),
  )

  took : (next : Local) (packet : Packet) → before.hand ≡ None
      → slice_get packets (input_number before) ≡ Some packet → Grows (after_take before next)
  took next packet none fed = (
    λ other is. (
      before.counts.taken,
      packet,
      refl,
      subst (λ (n : ℕ). slice_get packets n ≡ Some packet) (number none) fed,
    ),
    (let k = hand_given before None none in omega (arith, k)),
  )
    where
      number : before.hand ≡ None → input_number before ≡ before.counts.taken
      number e = ap (λ (z : Option Local). input_number (record before { hand = z })) e

module _ {V : Type 0} (m : Meaning V) (t : ℕ) (packets : List Packet) (n : Note V) (has : HasInput packets n.before)
    (fed : IsFedTo packets n) where
  abbrev GrowsTo : ThreadPart → Type 0
  GrowsTo after = Grows packets n.before has after

  own_entry : (e : StampedEntry) (w : What) → IsOwnEntry m t n e w → GrowsTo n.after
  own_entry e (what.Access v s) is = absurd is
  own_entry e (what.Read v s) is = absurd is
  own_entry e (what.Clock a) (place, next, is) =
      subst GrowsTo (sym is.hears.thread) (logged packets n.before has place (m.told a place) e.stamp is.hand)
  own_entry e (what.Draw a) (place, next, is) =
      subst GrowsTo (sym is.hears.thread) (logged packets n.before has place (m.told a place) e.stamp is.hand)

  own_grows : (tr : Trace) → IsOwnBy m t n tr → GrowsTo n.after
  own_grows (trace.Took k) (packet, is) =
      subst GrowsTo (sym is.thread) (took packets n.before has (m.begin packet) packet is.hand (fed packet is.passed))
  own_grows (trace.Did e) is = own_entry e e.what is
  own_grows (trace.Emitted k) (place, is) =
      subst GrowsTo (sym is.thread) (emitted packets n.before has place (m.emitted place) is.hand)
  own_grows (trace.Ended k) (place, is) =
      subst GrowsTo (sym is.thread) (ended packets n.before has place is.hand)

  on_grows : (v : ℕ) (x y : VarPart V) (place : Local) (e : StampedEntry) → IsOnVariable m t v n x y place e
      → GrowsTo n.after
  on_grows v x y place e on = go on.does
    where
      go : ((m.next place ≡ move.Access v) × TouchesParts m t v place n.before x e n.after y)
          ⊎ ((m.next place ≡ move.Read v) × ReadsParts m t v place n.before x e n.after y) → GrowsTo n.after
      go (inl (next, does)) = subst GrowsTo (sym does.logs.thread)
          (logged packets n.before has place (m.touch v x.value place).1 e.stamp on.hand)
      go (inr (next, does)) = subst GrowsTo (sym does.logs.thread)
          (logged packets n.before has place (m.look v x.value place) e.stamp on.hand)

  pub part_grows : IsDone m t n → GrowsTo n.after
  part_grows (inl own) = own_grows n.trace own
  part_grows (inr (v, x, y, place, e, on)) = on_grows v x y place e on

-- One more move

answer_is : {V : Type 0} (m : Meaning V) (t : ℕ) (n : Note V) (r : Stepped) → IsShown m t n r
    → answer_shown r ≡ answer_in n.trace
answer_is m t n (stepped.Took k) is = sym (ap answer_in is)
answer_is m t n (stepped.Did e) is = sym (ap answer_in is)
answer_is m t n (stepped.Emitted o) is = sym (ap answer_in is.0)
answer_is m t n (stepped.Ended k) is = sym (ap answer_in is)
answer_is m t n stepped.Idle is = absurd is
answer_is m t n (stepped.NotTurn u k) is = absurd is
answer_is m t n stepped.NoMemory is = absurd is

module _ {V : Type 0} (m : Meaning V) (guide : List Lane) (inputs : ℕ → List Packet) (may : ℕ → Type 0)
    (old new : Course V) (r : Stepped)
    (more : OneMore m guide (inputs old.seat.thread) may old.seat old.generator new.seat new.generator r)
    (moves : new.moves ≡ made_by old.seat.thread r ∷ old.moves) where
  thread_is : new.seat.thread ≡ old.seat.thread
  thread_is = ap (λ (z : Seated V). z.thread) more.seat

  works : (first : ThreadPart) → Works m guide inputs first old.seat old.moves
      → Works m guide inputs first new.seat new.moves
  works first was =
      subst (λ (l : List Made). Works m guide inputs first new.seat l) (sym moves)
      (subst (λ (x : Seated V). Works m guide inputs first x (made_by old.seat.thread r ∷ old.moves)) (sym more.seat)
      (record {
        done = (
          refl,
          more.done,
          more.guided,
          subst (λ (p : ThreadPart). AreDone m guide old.seat.thread first old.seat.notes p) (sym more.before)
              was.done,
        );
        fed = (more.fed, was.fed);
        made = (
          record {
            thread = refl;
            answer = answer_is m old.seat.thread more.note r more.shown;
            shown = more.shown;
          },
          was.made,
        );
      }))

  pub come_more : (given : Given V) → HasCome m guide inputs may given old → HasCome m guide inputs may given new
  come_more given come = record {
    thread = thread_is ∙ come.thread;
    round_is = ap (λ (z : Seated V). z.round) more.seat ∙ come.round_is;
    works = works given.seat.part come.works;
    told = subst (λ (l : List Made). AreTold may guide given.seat.thread l given.generator new.generator) (sym moves) (
      old.generator,
      come.told,
      subst (λ (t : ℕ). IsTold may guide t r old.generator new.generator) come.thread more.told,
    );
  }

  pub made_one : HasInput (inputs old.seat.thread) old.seat.part → MadeOne inputs old new
  made_one has =
      let after = part_grows m old.seat.thread (inputs old.seat.thread) more.note
      (subst (λ (p : ThreadPart). HasInput (inputs old.seat.thread) p) (sym more.before) has) more.fed more.done in
      let part : new.seat.part ≡ more.note.after = ap (λ (z : Seated V). z.part) more.seat in
      let made : moves_made more.note.before ≡ moves_made old.seat.part = ap moves_made more.before in
      let now : moves_made new.seat.part ≡ moves_made more.note.after = ap moves_made part in
      let bound = after.1 in
      record {
        count = ap (λ (l : List Made). length l) moves ∙ omega arith;
        input = subst (λ (t : ℕ). HasInput (inputs t) new.seat.part) (sym thread_is)
            (subst (λ (p : ThreadPart). HasInput (inputs old.seat.thread) p) (sym part) after.0);
        grows = omega (arith, made, now, bound);
      }

-- None

module _ {V : Type 0} (m : Meaning V) (guide : List Lane) (inputs : ℕ → List Packet) (may : ℕ → Type 0)
    (old new : Course V) (moves : new.moves ≡ old.moves) (generator : new.generator ≡ old.generator) where
  come_same : (given : Given V) → HasCome m guide inputs may given old → new.seat.thread ≡ old.seat.thread
      → new.seat.round ≡ old.seat.round → Works m guide inputs given.seat.part new.seat new.moves
      → HasCome m guide inputs may given new
  come_same given come thread round works = record {
    thread = thread ∙ come.thread;
    round_is = round ∙ come.round_is;
    works = works;
    told = subst (λ (g : Lcg). AreTold may guide given.seat.thread new.moves given.generator g) (sym generator)
        (subst (λ (l : List Made). AreTold may guide given.seat.thread l given.generator old.generator) (sym moves)
        come.told);
  }

  pub rest_come : new.seat ≡ old.seat → (given : Given V) → HasCome m guide inputs may given old
      → HasCome m guide inputs may given new
  rest_come seat given come =
      come_same given come (ap (λ (z : Seated V). z.thread) seat) (ap (λ (z : Seated V). z.round) seat)
      (subst (λ (l : List Made). Works m guide inputs given.seat.part new.seat l) (sym moves)
      (subst (λ (x : Seated V). Works m guide inputs given.seat.part x old.moves) (sym seat) come.works))

  pub held_come : IsHeld m guide old.seat new.seat → (given : Given V) → HasCome m guide inputs may given old
      → HasCome m guide inputs may given new
  held_come held given come =
      come_same given come (ap (λ (z : Seated V). z.thread) held.seat) (ap (λ (z : Seated V). z.round) held.seat)
      (subst (λ (l : List Made). Works m guide inputs given.seat.part new.seat l) (sym moves)
      (subst (λ (x : Seated V). Works m guide inputs given.seat.part x old.moves) (sym held.seat)
      (record { done = come.works.done; fed = come.works.fed; made = come.works.made })))

  pub rest_none : new.seat ≡ old.seat → IsAtRest (inputs old.seat.thread) old.seat.part
      → MadeNone m guide inputs old new
  rest_none seat rest = record {
    count = moves;
    why = inl (subst (λ (x : Seated V). IsAtRest (inputs x.thread) x.part) (sym seat) rest);
  }

  pub held_none : IsHeld m guide old.seat new.seat → MadeNone m guide inputs old new
  held_none held = record { count = moves; why = inr (held.entry, held.stuck) }

-- What a step of a worker comes to

-- a step after which the worker goes on
pub record GoneOn {V : Type 0} (m : Meaning V) (guide : List Lane) (inputs : ℕ → List Packet) (may : ℕ → Type 0)
    (old new : Course V) (Made : Type 0) : Type 0 where
  pub goes : GoesOn old new
  pub come : (given : Given V) → HasCome m guide inputs may given old → HasCome m guide inputs may given new
  pub made : Made

module _ {V : Type 0} (m : Meaning V) (guide : List Lane) (inputs : ℕ → List Packet) (may : ℕ → Type 0)
    (now old new : Course V) (is : old ≡ now) (going : old.seat.ended ≡ false) where
  pub go_more : (r : Stepped) (thread : ℕ) (seat : Seated V) (g : Lcg)
      → OneMore m guide (inputs old.seat.thread) may old.seat old.generator seat g r → thread ≡ old.seat.thread
      → new.seat ≡ seat → new.generator ≡ g → new.moves ≡ made_by thread r ∷ old.moves
      → HasInput (inputs old.seat.thread) old.seat.part
      → GoneOn m guide inputs may now new (MadeOne inputs now new)
  go_more r thread seat g more thread_is seat_is g_is moves has =
      let one : OneMore m guide (inputs old.seat.thread) may old.seat old.generator new.seat new.generator r =
      subst (λ (x : Seated V). OneMore m guide (inputs old.seat.thread) may old.seat old.generator x new.generator r)
      (sym seat_is)
      (subst (λ (z : Lcg). OneMore m guide (inputs old.seat.thread) may old.seat old.generator seat z r) (sym g_is)
      more) in
      let mine : new.moves ≡ made_by old.seat.thread r ∷ old.moves =
      moves ∙ ap (λ (t : ℕ). made_by t r ∷ old.moves) thread_is in
      subst (λ (z : Course V). GoneOn m guide inputs may z new (MadeOne inputs z new)) is (record {
        goes = record {
          thread = ap (λ (z : Seated V). z.thread) one.seat;
          round_is = ap (λ (z : Seated V). z.round) one.seat;
          ended_is = ap (λ (z : Seated V). z.ended) one.seat ∙ going;
        };
        come = come_more m guide inputs may old new r one mine;
        made = made_one m guide inputs may old new r one mine has;
      })

  module _ (moves : new.moves ≡ old.moves) (generator : new.generator ≡ old.generator) where
    same_goes : (thread : new.seat.thread ≡ old.seat.thread) → new.seat.round ≡ old.seat.round
        → new.seat.ended ≡ old.seat.ended → GoesOn old new
    same_goes thread round ended = record {
      thread = thread;
      round_is = round;
      ended_is = ended ∙ going;
    }

    pub go_rest : new.seat ≡ old.seat → IsAtRest (inputs old.seat.thread) old.seat.part
        → GoneOn m guide inputs may now new (MadeNone m guide inputs now new)
    go_rest seat rest =
        subst (λ (z : Course V). GoneOn m guide inputs may z new (MadeNone m guide inputs z new)) is (record {
          goes = same_goes (ap (λ (x : Seated V). x.thread) seat) (ap (λ (x : Seated V). x.round) seat)
              (ap (λ (x : Seated V). x.ended) seat);
          come = rest_come m guide inputs may old new moves generator seat;
          made = rest_none m guide inputs may old new moves generator seat rest;
        })

    pub go_held : IsHeld m guide old.seat new.seat
        → GoneOn m guide inputs may now new (MadeNone m guide inputs now new)
    go_held held =
        subst (λ (z : Course V). GoneOn m guide inputs may z new (MadeNone m guide inputs z new)) is (record {
          goes = same_goes (ap (λ (x : Seated V). x.thread) held.seat) (ap (λ (x : Seated V). x.round) held.seat)
              (ap (λ (x : Seated V). x.ended) held.seat);
          come = held_come m guide inputs may old new moves generator held;
          made = held_none m guide inputs may old new moves generator held;
        })

-- a call that made a move, by what it answered
abbrev pub IsMove : Stepped → Type 0
IsMove r =
    ((k : ℕ) × (r ≡ stepped.Took k))
    ⊎ (((e : StampedEntry) × (r ≡ stepped.Did e))
    ⊎ (((o : Output) × (r ≡ stepped.Emitted o)) ⊎ ((k : ℕ) × (r ≡ stepped.Ended k))))

pub made_more : {V : Type 0} (m : Meaning V) (guide : List Lane) (packets : List Packet) (may : ℕ → Type 0)
    (old : Seated V) (g : Lcg) (new : Seated V) (g_new : Lcg) (r : Stepped) → IsMove r
    → ComesTo m guide packets may old g new g_new r → OneMore m guide packets may old g new g_new r
made_more m guide packets may old g new g_new r (inl (k, is)) come =
    subst (λ (z : Stepped). OneMore m guide packets may old g new g_new z) (sym is)
    (subst (λ (z : Stepped). ComesTo m guide packets may old g new g_new z) is come)
made_more m guide packets may old g new g_new r (inr (inl (e, is))) come =
    subst (λ (z : Stepped). OneMore m guide packets may old g new g_new z) (sym is)
    (subst (λ (z : Stepped). ComesTo m guide packets may old g new g_new z) is come)
made_more m guide packets may old g new g_new r (inr (inr (inl (o, is)))) come =
    subst (λ (z : Stepped). OneMore m guide packets may old g new g_new z) (sym is)
    (subst (λ (z : Stepped). ComesTo m guide packets may old g new g_new z) is come)
made_more m guide packets may old g new g_new r (inr (inr (inr (k, is)))) come =
    subst (λ (z : Stepped). OneMore m guide packets may old g new g_new z) (sym is)
    (subst (λ (z : Stepped). ComesTo m guide packets may old g new g_new z) is come)

-- a call of a thread that is idle, or that has to wait
pub go_idle : {V : Type 0} (m : Meaning V) (guide : List Lane) (inputs : ℕ → List Packet) (may : ℕ → Type 0)
    (now old new : Course V) (is : old ≡ now) (going : old.seat.ended ≡ false) (r : Stepped) (seat : Seated V) (g : Lcg)
    → (r ≡ stepped.Idle) ⊎ ((u : ℕ) × (n : ℕ) × (r ≡ stepped.NotTurn u n))
    → ComesTo m guide (inputs old.seat.thread) may old.seat old.generator seat g r
    → new ≡ record { seat = seat; moves = old.moves; generator = g }
    → GoneOn m guide inputs may now new (MadeNone m guide inputs now new)
go_idle {V} m guide inputs may now old new is going r seat g (inl idle) come new_is =
    let k = subst (λ (z : Stepped). ComesTo m guide (inputs old.seat.thread) may old.seat old.generator seat g z) idle
    come in
    go_rest m guide inputs may now old new is going (ap (λ (c : Course V). c.moves) new_is)
    (ap (λ (c : Course V). c.generator) new_is ∙ k.1)
    (ap (λ (c : Course V). c.seat) new_is ∙ k.0) k.2
go_idle {V} m guide inputs may now old new is going r seat g (inr (u, n, waits)) come new_is =
    let k = subst (λ (z : Stepped). ComesTo m guide (inputs old.seat.thread) may old.seat old.generator seat g z) waits
    come in
    go_held m guide inputs may now old new is going (ap (λ (c : Course V). c.moves) new_is)
    (ap (λ (c : Course V). c.generator) new_is ∙ k.1)
    (subst (λ (x : Seated V). IsHeld m guide old.seat x) (sym (ap (λ (c : Course V). c.seat) new_is)) k.0)

-- How a worker begins, and how it ends

module _ {V : Type 0} (m : Meaning V) (guide : List Lane) (inputs : ℕ → List Packet) (may : ℕ → Type 0) where
  fresh_works : (first : ThreadPart) (x : Seated V) (notes : List (Note V)) → x.notes ≡ notes → notes ≡ []
      → x.part ≡ first → Works m guide inputs first x []
  fresh_works first x notes are none part =
      let empty : x.notes ≡ [] = are ∙ none in
      record {
        done = subst (λ (l : List (Note V)). AreDone m guide x.thread first l x.part) (sym empty) part;
        fed = subst (λ (l : List (Note V)). AreFed (inputs x.thread) l) (sym empty) tt;
        made = subst (λ (l : List (Note V)). AreMadeBy m x.thread l []) (sym empty) tt;
      }

  pub begun : (given : Given V) (start : Course V) → start.seat ≡ given.seat → start.moves ≡ []
      → start.generator ≡ given.generator → given.seat.notes ≡ [] → HasCome m guide inputs may given start
  begun given start seat moves generator none = record {
    thread = ap (λ (x : Seated V). x.thread) seat;
    round_is = ap (λ (x : Seated V). x.round) seat;
    works = subst (λ (l : List Made). Works m guide inputs given.seat.part start.seat l) (sym moves)
        (subst (λ (x : Seated V). Works m guide inputs given.seat.part x []) (sym seat)
        (fresh_works given.seat.part given.seat [] none refl refl));
    told = subst (λ (l : List Made). AreTold may guide given.seat.thread l given.generator start.generator) (sym moves)
        generator;
  }

  stuck_still : (x : Seated V) (made most : ℕ) (limit : Option ℕ) → WhyEnded m guide inputs most limit x made
      → WhyEnded m guide inputs most limit (record x { ended = true }) made
  stuck_still x made most limit (inl is) = inl is
  stuck_still x made most limit (inr (inl is)) = inr (inl is)
  stuck_still x made most limit (inr (inr (inl is))) = inr (inr (inl is))
  stuck_still x made most limit (inr (inr (inr (e, is)))) = inr (inr (inr (
    e,
    record {
      read = is.read;
      place = is.place;
      readers = is.readers;
      hand = is.hand;
      next = is.next;
      waits = is.waits;
      missed = is.missed;
    },
  )))

  pub has_ended : (most : ℕ) (given : Given V) (limit : Option ℕ) (now : Course V) (seat : Seated V)
      → given.limit ≡ limit → seat ≡ record now.seat { ended = true } → HasCome m guide inputs may given now
      → ((n : ℕ) → limit ≡ Some n → length now.moves ≤ n)
      → WhyEnded m guide inputs most limit now.seat (length now.moves)
      → HasEnded m guide inputs may most given
      (record { seat = seat; moves = now.moves; generator = now.generator })
  has_ended most given limit now seat limit_is seat_is come few why =
      subst (λ (x : Seated V). HasEnded m guide inputs may most given
      (record { seat = x; moves = now.moves; generator = now.generator })) (sym seat_is) (record {
        come = record {
          thread = come.thread;
          round_is = come.round_is;
          works = record { done = come.works.done; fed = come.works.fed; made = come.works.made };
          told = come.told;
        };
        ended = refl;
        few = λ n is. few n (sym limit_is ∙ is);
        why = subst (λ (l : Option ℕ).
            WhyEnded m guide inputs most l (record now.seat { ended = true }) (length now.moves)) (sym limit_is)
            (stuck_still now.seat (length now.moves) most limit why);
      })
