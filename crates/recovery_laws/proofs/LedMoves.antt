-- What a line that is led by entries shows of its first moves.
use Rattle.std.proofs.Common.{◌≡◌, ℕ, ◌+◌, ◌≤◌, ◌<◌, ◌≢◌, true, false, List, [], ◌∷◌, ◌++◌, refl, sym, ap, ◌∙◌, subst}
use Rattle.std.proofs.Common.{inl, inr, ◌⊎◌, arith, Option, Some, None, Ok, Err}
use Rattle.std.specs.Prelude.{nat_lt, slice_get}
use Rattle.std.proofs.lemmas.Bool.{cases_lt}
use Rattle.std.proofs.lemmas.Bool.Decides.{nat_tests}
use Rattle.plain_text.specs.declared.packet.Packet.{Packet}
use Rattle.entry_order.specs.declared.what.What.TheVariants as what
use Rattle.entry_order.specs.Log.{Entry, entries, places, IsLog, IsIn}
use Rattle.entry_order.proofs.Order.{number_within}
use Rattle.entry_order.proofs.KeptEntries.{in_left}
use Rattle.plain_machine.specs.declared.local.Move.{Move}
use Rattle.plain_machine.specs.declared.local.Move.TheVariants.{Access, Read, Clock, Draw, Emit, End}
use Rattle.plain_machine.specs.declared.plain_move.PlainMove.{PlainMove}
use Rattle.plain_machine.specs.declared.plain_move.PlayCause.TheVariants.{NoSuchThread}
use Rattle.plain_machine.specs.Program.{Meaning}
use Rattle.plain_machine.specs.Machine.{Hand, Thread, Effect, Takes, Touches, Looks, HearsClock, HearsDraw, Sends, Ends}
use Rattle.plain_machine.specs.Machine.{Moved, Moves, Illegal, sent_packet, take_move, hand_move, held_move}
use Rattle.plain_machine.specs.Machine.{thread_move}
use Rattle.plain_machine.specs.History.{Act, Did, Step, log_of, entry_of, act_of, step_of, after_moved, plain_move}
use Rattle.plain_machine.specs.History.{thread_after, value_after, IsStep, IsHistory}
use Rattle.plain_machine.proofs.Histories.{earlier_history, did_entry}
use Rattle.plain_machine.proofs.MoveLemmas.{is_logged, hand_logs, held_kind}
use Rattle.plain_machine.proofs.Seats.{SameSeat, seat_other, seat_trans}
use Rattle.plain_machine.specs.Continue.{IsQuiet, GoesQuietly, IsLed}
use Rattle.recovery_world.proofs.FromPlainMachine.{quiet_later, quiet_same_log}

-- the log of a led line
pub led_log : {V : Type 0} (P : List (Step V)) (more : List Entry) (line : List (Step V)) → IsLed P more line
    → log_of line ≡ more ++ log_of P
led_log {V} P [] line led = ap (λ (l : List (Step V)). log_of l) led
led_log P (e ∷ more) [] led = absurd led
led_log P (e ∷ more) (x ∷ steps) led =
    rw led.0.1 (ap (λ (l : List Entry). e ∷ l) (quiet_same_log led.1 e.thread steps led.2 ∙ led_log P more led.1 led.3))

-- A logged move with the packet in hand at this place makes this entry.
abbrev pub EntryFor : ℕ → Move → List Entry → Option ℕ → Entry → Type 0
EntryFor t (Access v) log a e = e ≡ entry_of t log (what.Access v (places v log + 1))
EntryFor t (Read v) log a e = e ≡ entry_of t log (what.Read v (places v log))
EntryFor t Clock log a e = (b : ℕ) × (a ≡ Some b) × (e ≡ entry_of t log (what.Clock b))
EntryFor t Draw log a e = (b : ℕ) × (a ≡ Some b) × (e ≡ entry_of t log (what.Draw b))
EntryFor t Emit log a e = ⊥
EntryFor t End log a e = ⊥

did_entry_is : {V : Type 0} (e f : Entry) (l k : Option V) → Did e l ≡ Did f k → e ≡ f
did_entry_is e f l k h = cc

hand_entry : {V : Type 0} (m : Meaning V) (value : ℕ → V) (t taken : ℕ) (h : Hand) (a : Option ℕ) (w : Move)
    (after : Thread) (d : Effect V) (A : List (Step V)) (k : ℕ) (e : Entry) (left : Option V)
    → hand_move m value taken h a w ≡ Moves after d → act_of t A k d ≡ Did e left → EntryFor t w (log_of A) a e
hand_entry {V} m value t taken h None (Access v) after d A k e left p q =
    let s : Touches v (m.touch v (value v) h.place).0 ≡ d = cc in
    sym (did_entry_is _ e (Some (m.touch v (value v) h.place).0) left
    (subst (λ (u : Effect V). act_of t A k u ≡ Did e left) (sym s) q))
hand_entry m value t taken h (Some a) (Access v) after d A k e left p q = absurd (cc)
hand_entry {V} m value t taken h None (Read v) after d A k e left p q =
    let s : Looks v ≡ d = cc in
    sym (did_entry_is _ e None left (subst (λ (u : Effect V). act_of t A k u ≡ Did e left) (sym s) q))
hand_entry m value t taken h (Some a) (Read v) after d A k e left p q = absurd (cc)
hand_entry m value t taken h None Clock after d A k e left p q = absurd (cc)
hand_entry {V} m value t taken h (Some a) Clock after d A k e left p q =
    let s : HearsClock a ≡ d = cc in
    (a, refl, sym (did_entry_is _ e None left (subst (λ (u : Effect V). act_of t A k u ≡ Did e left) (sym s) q)))
hand_entry m value t taken h None Draw after d A k e left p q = absurd (cc)
hand_entry {V} m value t taken h (Some a) Draw after d A k e left p q =
    let s : HearsDraw a ≡ d = cc in
    (a, refl, sym (did_entry_is _ e None left (subst (λ (u : Effect V). act_of t A k u ≡ Did e left) (sym s) q)))
hand_entry {V} m value t taken h None Emit after d A k e left p q =
    let s : Sends (sent_packet m h) ≡ d = cc in
    let z : act_of t A k (Sends (sent_packet m h)) ≡ Did e left =
    subst (λ (u : Effect V). act_of t A k u ≡ Did e left) (sym s) q in
    absurd (cc)
hand_entry m value t taken h (Some a) Emit after d A k e left p q = absurd (cc)
hand_entry {V} m value t taken h None End after d A k e left p q =
    let s : Ends ≡ d = cc in
    let z : act_of t A k Ends ≡ Did e left = subst (λ (u : Effect V). act_of t A k u ≡ Did e left) (sym s) q in
    absurd (cc)
hand_entry m value t taken h (Some a) End after d A k e left p q = absurd (cc)

-- so a logged move is made with a packet in hand
pub move_entry : {V : Type 0} (m : Meaning V) (packets : List Packet) (value : ℕ → V) (t : ℕ) (th : Thread)
    (a : Option ℕ) (after : Thread) (d : Effect V) (A : List (Step V)) (k : ℕ) (e : Entry) (left : Option V)
    → thread_move m packets value th a ≡ Moves after d → act_of t A k d ≡ Did e left
    → (h : Hand) × (th.hand ≡ Some h) × EntryFor t (m.next h.place) (log_of A) a e
move_entry {V} m packets value t th a after d A k e left p q = go th.hand refl p
  where
    none : (a : Option ℕ) (i : Option Packet) → take_move m th.taken a i ≡ Moves after d → ⊥
    none (Some a) i p = cc
    none None None p = cc
    none None (Some i) p =
        let s : Takes ≡ d = cc in
        let z : act_of t A k Takes ≡ Did e left = subst (λ (u : Effect V). act_of t A k u ≡ Did e left) (sym s) q in cc

    go : (o : Option Hand) → th.hand ≡ o → held_move m packets value th.taken a o ≡ Moves after d
        → (h : Hand) × (th.hand ≡ Some h) × EntryFor t (m.next h.place) (log_of A) a e
    go None is p = absurd (none a (slice_get packets th.taken) p)
    go (Some h) is p = (h, is, hand_entry m value t th.taken h a (m.next h.place) after d A k e left p q)

-- a plain move that is made is a legal step of its thread, with this answer
pub record Made {V : Type 0} (m : Meaning V) (inputs : ℕ → List Packet) (threads : ℕ) (P : List (Step V)) (t : ℕ)
    (a : Option ℕ) (y : Step V) : Type 0 where
  pub low : t < threads
  pub thread : y.thread ≡ t
  pub effect : Effect V
  pub moved : thread_move m (inputs t) (value_after m P) (thread_after P t) a ≡ Moves y.after effect
  pub act : y.act ≡ act_of t P y.after.taken effect

pub made_move : {V : Type 0} (m : Meaning V) (inputs : ℕ → List Packet) (threads : ℕ) (P : List (Step V))
    (move : PlainMove) (y : Step V) → plain_move m inputs threads P move ≡ Ok (y ∷ P)
    → Made m inputs threads P move.thread move.answer y
made_move {V} m inputs threads P move y e = go (cases_lt move.thread threads)
  where
    moved : move.thread < threads → (w : Moved V)
        → thread_move m (inputs move.thread) (value_after m P) (thread_after P move.thread) move.answer ≡ w
        → after_moved P move.thread w ≡ Ok (y ∷ P) → Made m inputs threads P move.thread move.answer y
    moved low (Illegal cause) k e = absurd (cc)
    moved low (Moves after effect) k e =
        let same : step_of move.thread P after effect ≡ y = cc in
        record {
          low = low;
          thread = sym (ap (λ (s : Step V). s.thread) same);
          effect = effect;
          moved = k ∙ ap (λ (s : Step V). Moves s.after effect) same;
          act =
              sym (ap (λ (s : Step V). s.act) same)
              ∙ ap (λ (s : Step V). act_of move.thread P s.after.taken effect) same;
        }

    go : (move.thread < threads) ⊎ (threads ≤ move.thread) → Made m inputs threads P move.thread move.answer y
    go (inl low) = let t : nat_lt move.thread threads ≡ true = grind (arith, nat_tests) in moved low _ refl (rw t at e)
    go (inr high) =
        let t : nat_lt move.thread threads ≡ false = grind (arith, nat_tests) in
        let n : Err NoSuchThread ≡ Ok (y ∷ P) = rw t at e in absurd (cc)

pub made_step : {V : Type 0} (m : Meaning V) (inputs : ℕ → List Packet) (threads : ℕ) (P : List (Step V)) (t : ℕ)
    (a : Option ℕ) (y : Step V) → Made m inputs threads P t a y → IsStep m inputs threads P y
made_step m inputs threads P t a y h =
    subst (λ (u : ℕ).
    (u < threads) × (answer : Option ℕ) × (effect : Effect _)
    × (thread_move m (inputs u) (value_after m P) (thread_after P u) answer ≡ Moves y.after effect)
    × (y.act ≡ act_of u P y.after.taken effect)) (sym h.thread) (h.low, a, h.effect, h.moved, h.act)

module _ {X : Type 0} (m : Meaning X) (inputs : ℕ → List Packet) (threads : ℕ) where
  -- quiet moves of another thread leave a seat
  quiet_seat : (t u : ℕ) (from to : List (Step X)) → u ≢ t → IsHistory m inputs threads to → GoesQuietly from u to
      → SameSeat t to from
  quiet_seat t u from [] ne h q =
      subst (λ (l : List (Step X)). SameSeat t [] l) (sym q) (record { thread = refl; entries = refl; outputs = refl })
  quiet_seat t u from (x ∷ to) ne h (inl q) = subst (λ (l : List (Step X)). SameSeat t (x ∷ to) l) (sym q)
      (record { thread = refl; entries = refl; outputs = refl })
  quiet_seat t u from (x ∷ to) ne h (inr q) = seat_trans t (x ∷ to) to from
      (seat_other m inputs threads t x to h.0 (λ k. ne (sym q.0 ∙ k))) (quiet_seat t u from to ne h.1 q.2)

  pub step_thread : (x : Step X) (A : List (Step X)) (e : Entry) (left : Option X) → IsStep m inputs threads A x
      → x.act ≡ Did e left → e.thread ≡ x.thread
  step_thread x A e left h a = (did_entry x.thread x.after.taken A h.2 e left (sym h.4 ∙ a)).0

  mid_history : (mid : List (Step X)) (t : ℕ) (steps : List (Step X)) → GoesQuietly mid t steps
      → IsHistory m inputs threads steps → IsHistory m inputs threads mid
  mid_history mid t steps q h = earlier_history m inputs threads mid steps (quiet_later mid t steps q) h

  -- entries of other threads leave a seat
  pub led_seat : (t : ℕ) (P : List (Step X)) (more : List Entry) (line : List (Step X))
      → IsHistory m inputs threads line → IsLed P more line → ((g : Entry) → IsIn g more → g.thread ≡ t → ⊥)
      → SameSeat t line P
  led_seat t P [] line h led none =
      subst (λ (l : List (Step X)). SameSeat t line l) led (record { thread = refl; entries = refl; outputs = refl })
  led_seat t P (e ∷ more) [] h led none = absurd led
  led_seat t P (e ∷ more) (x ∷ steps) h led none =
      let ne : e.thread ≢ t = none e (inl refl) in
      let th : e.thread ≡ x.thread = step_thread x steps e led.0.0 h.0 led.0.1 in
      seat_trans t (x ∷ steps) steps P (seat_other m inputs threads t x steps h.0 (λ k. ne (th ∙ k)))
      (seat_trans t steps led.1 P (quiet_seat t e.thread led.1 steps ne h.1 led.2)
      (led_seat t P more led.1 (mid_history led.1 e.thread steps led.2 h.1) led.3 (λ g i. none g (inr i))))

  -- where a thread asks for a logged move, it makes no quiet one
  pub no_quiet : (t : ℕ) (mid steps : List (Step X)) → IsHistory m inputs threads steps
      → hand_logs m (thread_after mid t).hand ≡ true → GoesQuietly mid t steps → steps ≡ mid
  no_quiet t mid [] h asks q = sym q
  no_quiet t mid (z ∷ steps) h asks (inl q) = sym q
  no_quiet t mid (z ∷ steps) h asks (inr q) =
      let same : steps ≡ mid = no_quiet t mid steps h.1 asks q.2 in
      let kind : is_logged h.0.2 ≡ hand_logs m (thread_after steps z.thread).hand =
      held_kind m (inputs z.thread) (value_after m steps) (thread_after steps z.thread).taken h.0.1
      (thread_after steps z.thread).hand z.after h.0.2 h.0.3 in
      let at : hand_logs m (thread_after steps z.thread).hand ≡ hand_logs m (thread_after mid t).hand =
      ap (λ (l : List (Step X)). hand_logs m (thread_after l z.thread).hand) same
      ∙ ap (λ (u : ℕ). hand_logs m (thread_after mid u).hand) q.0 in
      absurd (not_quiet z.thread z.after.taken steps h.0.2 (kind ∙ (at ∙ asks))
      (subst (λ (a : Act X). IsQuiet a) h.0.4 q.1))
    where
      not_quiet : (u taken : ℕ) (A : List (Step X)) (d : Effect X) → is_logged d ≡ true
          → IsQuiet (act_of u A taken d) → ⊥
      not_quiet u taken A Takes on q = cc
      not_quiet u taken A (Touches v x) on q = q
      not_quiet u taken A (Looks v) on q = q
      not_quiet u taken A (HearsClock a) on q = q
      not_quiet u taken A (HearsDraw a) on q = q
      not_quiet u taken A (Sends p) on q = cc
      not_quiet u taken A Ends on q = cc

  -- The moment in the line at which an entry comes that is the next of its thread: its thread is where the past left
  -- it.
  pub record FirstOf (P : List (Step X)) (more : List Entry) (f : Entry) : Type 0 where
    pub mid : List (Step X)
    pub older : List Entry
    pub steps : List (Step X)
    pub x : Step X
    pub left : Option X
    pub history : IsHistory m inputs threads (x ∷ steps)
    pub act : x.act ≡ Did f left
    pub quiet : GoesQuietly mid f.thread steps
    pub seat : SameSeat f.thread mid P
    pub led : IsLed P older mid
    pub sub : (g : Entry) → IsIn g older → IsIn g more
    pub good : IsLog (f ∷ (older ++ log_of P))

  pub first_of : (P : List (Step X)) (more : List Entry) (line : List (Step X)) (f : Entry) → IsLog (more ++ log_of P)
      → ((g : Entry) → IsIn g more → entries g.thread (log_of P) < g.number) → IsHistory m inputs threads line
      → IsLed P more line → IsIn f more → f.number ≡ entries f.thread (log_of P) + 1 → FirstOf P more f
  first_of P [] line f good later h led here n = absurd here
  first_of P (e ∷ more) [] f good later h led here n = absurd led
  first_of P (e ∷ more) (x ∷ steps) f good later h led (inl same) n = record {
    mid = led.1;
    older = more;
    steps = steps;
    x = x;
    left = led.0.0;
    history = h;
    act = led.0.1 ∙ ap (λ (g : Entry). Did g led.0.0) same;
    quiet = subst (λ (g : Entry). GoesQuietly led.1 g.thread steps) same led.2;
    seat = led_seat f.thread P more led.1 (mid_history led.1 e.thread steps led.2 h.1) led.3 none;
    led = led.3;
    sub = λ g i. inr i;
    good = subst (λ (g : Entry). IsLog (g ∷ (more ++ log_of P))) same good;
  }
    where
      none : (g : Entry) → IsIn g more → g.thread ≡ f.thread → ⊥
      none g i th =
          let a : entries g.thread (log_of P) < g.number = later g (inr i) in
          let w : (1 ≤ g.number) × (g.number ≤ entries g.thread (more ++ log_of P)) =
          number_within (more ++ log_of P) g good.2 (in_left g more (log_of P) i) in
          let b : e.number ≡ entries e.thread (more ++ log_of P) + 1 = good.0 in
          let c : entries g.thread (more ++ log_of P) ≡ entries e.thread (more ++ log_of P) =
          ap (λ (u : ℕ). entries u (more ++ log_of P)) (th ∙ sym (ap (λ (z : Entry). z.thread) same)) in
          let d : entries g.thread (log_of P) ≡ entries f.thread (log_of P) = ap (λ (u : ℕ). entries u (log_of P)) th in
          let k : e.number ≡ f.number = ap (λ (z : Entry). z.number) same in
          omega (arith, w)
  first_of P (e ∷ more) (x ∷ steps) f good later h led (inr here) n = go (first_of P more led.1 f good.2
      (λ g i. later g (inr i)) (mid_history led.1 e.thread steps led.2 h.1) led.3 here n)
    where
      go : FirstOf P more f → FirstOf P (e ∷ more) f
      go r = record {
        mid = r.mid;
        older = r.older;
        steps = r.steps;
        x = r.x;
        left = r.left;
        history = r.history;
        act = r.act;
        quiet = r.quiet;
        seat = r.seat;
        led = r.led;
        sub = λ g i. inr (r.sub g i);
        good = r.good;
      }
