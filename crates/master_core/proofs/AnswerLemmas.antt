-- What a call answers, from what it did.
use Rattle.std.proofs.Common.{◌≡◌, ℕ, ◌+◌, ◌<◌, ◌≤◌, ◌≢◌, ◌↔◌, List, length, length-set, refl, sym, ap, ◌∙◌, subst, inl}
use Rattle.std.proofs.Common.{inr, ◌⊎◌, arith, true, false, Option, Some, None}
use Rattle.std.specs.Prelude.{slice_index_or, slice_set, is_some}
use Rattle.std.proofs.lemmas.List.{get_or-set_same, get_or-set_other}
use Rattle.std.proofs.lemmas.Option.{slice_get-get_or}
use Rattle.entry_order.specs.declared.what.What.TheVariants.{Clock, Draw}
use Rattle.entry_order.proofs.Order.{is_or}
use Rattle.plain_text.specs.declared.packet.Packet.{Packet}
use Rattle.access_log.specs.declared.entry.Output.{Output}
use Rattle.access_log.specs.declared.entry.Turn.{Turn}
use Rattle.access_log.specs.declared.entry.Turn.TheVariants as turn
use Rattle.box_program.specs.Hands.{input_for, FitsProgram, hand_of, has_hand, moves_left}
use Rattle.plain_machine.specs.declared.local.Local.{Local}
use Rattle.plain_machine.specs.declared.local.Move.{Move}
use Rattle.plain_machine.specs.declared.local.Move.TheVariants as move
use Rattle.plain_machine.specs.Program.{Meaning, IsLawful}
use Rattle.plain_machine.specs.Machine.{HearsClock, HearsDraw}
use Rattle.plain_machine.specs.History.{Step, thread_after}
use Rattle.master_core.specs.declared.parts.VarPart.{VarPart}
use Rattle.master_core.specs.declared.parts.ThreadPart.{ThreadPart}
use Rattle.master_core.specs.declared.step.Stepped.{Stepped}
use Rattle.master_core.specs.declared.step.Stepped.TheVariants as stepped
use Rattle.master_core.specs.Mastered.{Mastered, value_of, place_in_hand, in_hand_count, IsOnVariable, WantsVariable}
use Rattle.master_core.specs.Mastered.{IsBounded}
use Rattle.master_core.specs.MasterStanding.{IsThread, Stands}
use Rattle.master_core.specs.Stepping.{move_of, Follows, MadeNone, MadeOne}
use Rattle.master_core.specs.Effects.{InTurn, Played, next_output, after_take, DoneTake, DoneTouch, DoneLook}
use Rattle.box_program.proofs.HandLemmas.{in_hand}
use Rattle.master_core.proofs.EffectLemmas.{touched_master, looked_master, heard_master}
use Rattle.master_core.proofs.Variables.{clock_on_none, draw_on_none}
use Rattle.master_core.proofs.FollowsLemmas.{Ready, touch_follows, look_follows, told_follows, emit_follows}
use Rattle.master_core.proofs.FollowsLemmas.{end_follows}

-- the place in hand of a thread whose part is known
pub hand_there : {V : Type 0} (p : Mastered V) (t : ℕ) (part : ThreadPart) → t < length p.threads
    → part ≡ slice_index_or p.threads t part → place_in_hand p t ≡ part.hand
hand_there p t part low is =
    ap (hand_of (λ (x : ThreadPart). x.hand)) (slice_get-get_or p.threads t part low)
    ∙ ap (λ (x : ThreadPart). x.hand) (sym is)

hand_set : {V : Type 0} (p q : Mastered V) (vars : List (VarPart V)) (t : ℕ) (part : ThreadPart) → t < length p.threads
    → q ≡ record { vars = vars; threads = slice_set p.threads t part } → place_in_hand q t ≡ part.hand
hand_set {V} p q vars t part low is =
    let len : length (slice_set p.threads t part) ≡ length p.threads = length-set p.threads t part in
    ap (λ (x : Mastered V). place_in_hand x t) is
    ∙ (ap (hand_of (λ (x : ThreadPart). x.hand))
    (slice_get-get_or (slice_set p.threads t part) t part (omega (arith, len)))
    ∙ ap (λ (x : ThreadPart). x.hand) (get_or-set_same p.threads t part part low))

made_or_none : (r : Stepped) → MadeOne r → MadeNone r → ⊥
made_or_none (stepped.Took k) a b = b
made_or_none (stepped.Did e) a b = b
made_or_none (stepped.Emitted o) a b = b
made_or_none (stepped.Ended k) a b = b
made_or_none stepped.Idle a b = a
made_or_none (stepped.NotTurn u n) a b = a
made_or_none stepped.NoMemory a b = a

-- what the clauses say of a move with a packet in hand, where the program's next move is this one
pub record Answers {V : Type 0} (m : Meaning V) (fits : ℕ → V → Type 0) (t : ℕ) (now : Turn) (packet : Packet)
    (place : Local) (p : Mastered V) (r : Stepped) (q : Mastered V) (next : Move) : Type 0 where
  pub idle : r ≢ stepped.Idle
  pub waits : (u n : ℕ) → r ≡ stepped.NotTurn u n → ((v : ℕ) × IsOnVariable next v) × (now ≡ turn.Wait u n)
  pub waited : (u n : ℕ) → ((v : ℕ) × IsOnVariable next v) → now ≡ turn.Wait u n → r ≡ stepped.NotTurn u n
  pub unchanged : MadeNone r → q ≡ p
  pub threads : length q.threads ≡ length p.threads
  pub fit : FitsProgram m fits value_of q.vars
  pub falls : MadeOne r → moves_left m (place_in_hand q t) < m.rank place + 1
  pub as_long : (o : Output) → r ≡ stepped.Emitted o → length o.packet.bytes ≡ length packet.bytes

-- a move that may be made now
abbrev pub MayMove : Move → Turn → Type 0
MayMove next now = (u n : ℕ) → ((v : ℕ) × IsOnVariable next v) → now ≡ turn.Wait u n → ⊥

-- one was made
made : {V : Type 0} (m : Meaning V) (fits : ℕ → V → Type 0) (t : ℕ) (now : Turn) (packet : Packet) (place : Local)
    (p : Mastered V) (r : Stepped) (q : Mastered V) (next : Move) (vars : List (VarPart V)) (part : ThreadPart)
    → t < length p.threads → MayMove next now → MadeOne r
    → q ≡ record { vars = vars; threads = slice_set p.threads t part } → FitsProgram m fits value_of vars
    → moves_left m part.hand < m.rank place + 1
    → ((o : Output) → r ≡ stepped.Emitted o → length o.packet.bytes ≡ length packet.bytes)
    → Answers m fits t now packet place p r q next
made {V} m fits t now packet place p r q next vars part low may one is fit falls long = record {
  idle = λ e. subst MadeOne e one;
  waits = λ u n e. absurd (subst MadeOne e one);
  waited = λ u n on e. absurd (may u n on e);
  unchanged = λ none. absurd (made_or_none r one none);
  threads = ap (λ (x : Mastered V). length x.threads) is ∙ length-set p.threads t part;
  fit = subst (λ (x : Mastered V). FitsProgram m fits value_of x.vars) (sym is)
      (record { count = fit.count; fit = fit.fit });
  falls = λ h.
      subst (λ (l : Option Local). moves_left m l < m.rank place + 1) (sym (hand_set p q vars t part low is)) falls;
  as_long = long;
}

-- none was made
unmade : {V : Type 0} (m : Meaning V) (fits : ℕ → V → Type 0) (t : ℕ) (now : Turn) (packet : Packet) (place : Local)
    (p : Mastered V) (r : Stepped) (q : Mastered V) (next : Move) → FitsProgram m fits value_of p.vars → q ≡ p
    → MadeNone r → r ≢ stepped.Idle
    → ((u n : ℕ) → r ≡ stepped.NotTurn u n → ((v : ℕ) × IsOnVariable next v) × (now ≡ turn.Wait u n))
    → ((u n : ℕ) → ((v : ℕ) × IsOnVariable next v) → now ≡ turn.Wait u n → r ≡ stepped.NotTurn u n)
    → Answers m fits t now packet place p r q next
unmade {V} m fits t now packet place p r q next fit same none idle waits waited = record {
  idle = idle;
  waits = waits;
  waited = waited;
  unchanged = λ h. same;
  threads = ap (λ (x : Mastered V). length x.threads) same;
  fit = subst (λ (x : Mastered V). FitsProgram m fits value_of x.vars) (sym same) fit;
  falls = λ one. absurd (made_or_none r one none);
  as_long = λ o e. absurd (subst MadeNone e none);
}

no_memory : {V : Type 0} (m : Meaning V) (fits : ℕ → V → Type 0) (t : ℕ) (now : Turn) (packet : Packet) (place : Local)
    (p : Mastered V) (r : Stepped) (q : Mastered V) (next : Move) → FitsProgram m fits value_of p.vars
    → MayMove next now → r ≡ stepped.NoMemory → q ≡ p → Answers m fits t now packet place p r q next
no_memory m fits t now packet place p r q next fit may is same =
    unmade m fits t now packet place p r q next fit same (subst MadeNone (sym is) tt) (λ e. absurd (cc))
    (λ u n e. absurd (cc)) (λ u n on e. absurd (may u n on e))

not_turn : {V : Type 0} (m : Meaning V) (fits : ℕ → V → Type 0) (t v a b : ℕ) (packet : Packet) (place : Local)
    (p : Mastered V) (r : Stepped) (q : Mastered V) (next : Move) → FitsProgram m fits value_of p.vars
    → IsOnVariable next v → r ≡ stepped.NotTurn a b → q ≡ p → Answers m fits t (turn.Wait a b) packet place p r q next
not_turn m fits t v a b packet place p r q next fit on is same =
    unmade m fits t (turn.Wait a b) packet place p r q next fit same (subst MadeNone (sym is) tt) (λ e. absurd (cc))
    (λ u n e. ((v, on), turns u n (sym is ∙ e)))
    (λ u n h e. is ∙ answers u n e)
  where
    turns : (u n : ℕ) → stepped.NotTurn a b ≡ stepped.NotTurn u n → turn.Wait a b ≡ turn.Wait u n
    turns u n e = let x : a ≡ u = cc in let y : b ≡ n = cc in cc

    answers : (u n : ℕ) → turn.Wait a b ≡ turn.Wait u n → stepped.NotTurn a b ≡ stepped.NotTurn u n
    answers u n e = let x : a ≡ u = cc in let y : b ≡ n = cc in cc

may_follow : (next : Move) → MayMove next turn.Follow
may_follow next u n on e = cc

may_free : (next : Move) → MayMove next turn.Free
may_free next u n on e = cc

may_clock : (now : Turn) → MayMove move.Clock now
may_clock now u n (v, inl a) e = cc
may_clock now u n (v, inr a) e = cc

may_draw : (now : Turn) → MayMove move.Draw now
may_draw now u n (v, inl a) e = cc
may_draw now u n (v, inr a) e = cc

may_emit : (now : Turn) → MayMove move.Emit now
may_emit now u n (v, inl a) e = cc
may_emit now u n (v, inr a) e = cc

may_end : (now : Turn) → MayMove move.End now
may_end now u n (v, inl a) e = cc
may_end now u n (v, inr a) e = cc

-- the variables still fit where one of them has another value that fits
fits_set : {V : Type 0} (m : Meaning V) (fits : ℕ → V → Type 0) (p : Mastered V) (v : ℕ) (y : VarPart V)
    → FitsProgram m fits value_of p.vars → v < m.vars → fits v y.value
    → FitsProgram m fits value_of (slice_set p.vars v y)
fits_set {V} m fits p v y fit low good =
    record { count = length-set p.vars v y ∙ fit.count; fit = λ w d under. go w d under (is_or v w) }
  where
    go : (w : ℕ) (d : VarPart V) → w < m.vars → (v ≡ w) ⊎ (v ≢ w)
        → fits w (slice_index_or (slice_set p.vars v y) w d).value
    go w d under (inl same) = subst (λ (n : ℕ). fits n (slice_index_or (slice_set p.vars v y) n d).value) same
        (subst (λ (z : VarPart V). fits v z.value) (sym (get_or-set_same p.vars v y d (omega (arith, fit.count)))) good)
    go w d under (inr apart) = subst (λ (z : VarPart V). fits w z.value)
        (sym (get_or-set_other p.vars v w y d (λ q. apart (sym q)))) (fit.fit w d under)

module _ {V : Type 0} (m : Meaning V) (fits : ℕ → V → Type 0) (lawful : IsLawful m fits) (t answer : ℕ)
    (packet : Packet) (place : Local) (part : ThreadPart) (x : VarPart V) (p : Mastered V) (r : Stepped)
    (q : Mastered V) (fit : FitsProgram m fits value_of p.vars) (low : t < length p.threads) where
  touch_answers : (v : ℕ) (now : Turn) → MayMove (move.Access v) now → m.next place ≡ move.Access v
      → DoneTouch m t v place part (slice_index_or p.vars v x) p r q
      → Answers m fits t now packet place p r q (move.Access v)
  touch_answers v now may is (inr (r_is, q_is)) =
      no_memory m fits t now packet place p r q (move.Access v) fit may r_is q_is
  touch_answers v now may is (inl (e, r_is, done)) =
      let under : v < m.vars = lawful.touches_var place v is in
      let value : V = (slice_index_or p.vars v x).value in
      let falls : m.rank (m.touch v value place).1 < m.rank place =
      lawful.touch_falls v value place is (fit.fit v x under) in
      made m fits t now packet place p r q (move.Access v) _ _ low may (subst MadeOne (sym r_is) tt)
      (touched_master m t v place part (slice_index_or p.vars v x) p e q done)
      (fits_set m fits p v _ fit under (lawful.touch_fits v value place is (fit.fit v x under))) (omega arith)
      (λ o e. absurd (cc))

  look_answers : (v : ℕ) (now : Turn) → MayMove (move.Read v) now → m.next place ≡ move.Read v
      → DoneLook m t v place part (slice_index_or p.vars v x) p r q
      → Answers m fits t now packet place p r q (move.Read v)
  look_answers v now may is (inr (r_is, q_is)) =
      no_memory m fits t now packet place p r q (move.Read v) fit may r_is q_is
  look_answers v now may is (inl (e, r_is, done)) =
      let under : v < m.vars = lawful.reads_var place v is in
      let value : V = (slice_index_or p.vars v x).value in
      let falls : m.rank (m.look v value place) < m.rank place =
      lawful.look_falls v value place is (fit.fit v x under) in
      made m fits t now packet place p r q (move.Read v) _ _ low may (subst MadeOne (sym r_is) tt)
      (looked_master m t v place part (slice_index_or p.vars v x) p e q done)
      (fits_set m fits p v _ fit under (fit.fit v x under)) (omega arith) (λ o e. absurd (cc))

  -- what a move with the packet in hand answers
  pub played_answers : (now : Turn) (next : Move) → m.next place ≡ next
      → Played m t now answer packet place part x p r q next → Answers m fits t now packet place p r q next
  played_answers turn.Follow (move.Access v) is h = touch_answers v turn.Follow (may_follow (move.Access v)) is h
  played_answers turn.Free (move.Access v) is h = touch_answers v turn.Free (may_free (move.Access v)) is h
  played_answers (turn.Wait u n) (move.Access v) is h =
      not_turn m fits t v u n packet place p r q (move.Access v) fit (inl refl) h.0 h.1
  played_answers turn.Follow (move.Read v) is h = look_answers v turn.Follow (may_follow (move.Read v)) is h
  played_answers turn.Free (move.Read v) is h = look_answers v turn.Free (may_free (move.Read v)) is h
  played_answers (turn.Wait u n) (move.Read v) is h =
      not_turn m fits t v u n packet place p r q (move.Read v) fit (inr refl) h.0 h.1
  played_answers now move.Clock is (inr (r_is, q_is)) =
      no_memory m fits t now packet place p r q move.Clock fit (may_clock now) r_is q_is
  played_answers now move.Clock is (inl (e, r_is, done)) =
      let falls : m.rank (m.told answer place) < m.rank place = lawful.clock_falls answer place is in
      made m fits t now packet place p r q move.Clock p.vars _ low (may_clock now) (subst MadeOne (sym r_is) tt)
      (heard_master m t (Clock answer) answer place part p e q done) (record { count = fit.count; fit = fit.fit })
      (omega arith) (λ o e. absurd (cc))
  played_answers now move.Draw is (inr (r_is, q_is)) =
      no_memory m fits t now packet place p r q move.Draw fit (may_draw now) r_is q_is
  played_answers now move.Draw is (inl (e, r_is, done)) =
      let falls : m.rank (m.told answer place) < m.rank place = lawful.draw_falls answer place is in
      made m fits t now packet place p r q move.Draw p.vars _ low (may_draw now) (subst MadeOne (sym r_is) tt)
      (heard_master m t (Draw answer) answer place part p e q done) (record { count = fit.count; fit = fit.fit })
      (omega arith) (λ o e. absurd (cc))
  played_answers now move.Emit is (inr (r_is, q_is)) =
      no_memory m fits t now packet place p r q move.Emit fit (may_emit now) r_is q_is
  played_answers now move.Emit is (inl (r_is, q_is)) =
      let falls : m.rank (m.emitted place) < m.rank place = lawful.emit_falls place is in
      made m fits t now packet place p r q move.Emit p.vars _ low (may_emit now) (subst MadeOne (sym r_is) tt) q_is
      (record { count = fit.count; fit = fit.fit }) (omega arith)
      (λ o e.
      let same : next_output t part packet (m.out packet place) ≡ o = cc in
      ap (λ (y : Output). length y.packet.bytes) (sym same) ∙ lawful.as_long packet place is)
  played_answers now move.End is (r_is, q_is) =
      made m fits t now packet place p r q move.End p.vars _ low (may_end now) (subst MadeOne (sym r_is) tt) q_is
      (record { count = fit.count; fit = fit.fit }) (omega arith) (λ o e. absurd (cc))

  -- and that it follows the definition
  pub played_follows : (inputs : ℕ → List Packet) (threads : ℕ) (steps : List (Step V)) (now : Turn) (next : Move)
      (input : Option Packet) → m.next place ≡ next → Stands m threads steps p → IsBounded p.vars p.threads
      → part ≡ slice_index_or p.threads t part → part.hand ≡ Some place → input ≡ Some packet
      → input ≡ input_for (inputs t) (thread_after steps t).taken (thread_after steps t).hand
      → Played m t now answer packet place part x p r q next
      → Follows m inputs threads steps (move_of m steps t answer) r q
  played_follows inputs threads steps now next input is stands bound part_is hand is_packet given h = go now next is h
    where
      below : t < threads
      below = omega (arith, stands.threads_are)

      th : IsThread steps t part
      th = subst (λ (y : ThreadPart). IsThread steps t y) (sym part_is) (stands.thread t part below)

      ready : Ready m inputs threads steps p t part packet place
      ready = record {
        stands = stands;
        below = below;
        part_is = th;
        at = hand;
        hand = in_hand (inputs t) (thread_after steps t) packet place input (sym th.hand ∙ hand) is_packet given;
      }

      taken : 1 ≤ part.counts.taken
      taken =
          let one : in_hand_count part.hand ≡ 1 = ap in_hand_count hand in
          let k : in_hand_count part.hand ≤ part.counts.taken =
          subst (λ (y : ThreadPart). in_hand_count y.hand ≤ y.counts.taken) (sym part_is) (bound.taken t part low) in
          omega arith

      waits : (u n : ℕ) → (r ≡ stepped.NotTurn u n) → Follows m inputs threads steps (move_of m steps t answer) r q
      waits u n e = subst (λ (s : Stepped). Follows m inputs threads steps (move_of m steps t answer) s q) (sym e) tt

      touched : (v : ℕ) → m.next place ≡ move.Access v → DoneTouch m t v place part (slice_index_or p.vars v x) p r q
          → Follows m inputs threads steps (move_of m steps t answer) r q
      touched v is h = touch_follows m inputs threads steps t answer v packet place part (slice_index_or p.vars v x) p q
          r ready is (lawful.touches_var place v is) fit.count (stands.var v x (lawful.touches_var place v is)) h

      looked : (v : ℕ) → m.next place ≡ move.Read v → DoneLook m t v place part (slice_index_or p.vars v x) p r q
          → Follows m inputs threads steps (move_of m steps t answer) r q
      looked v is h = look_follows m inputs threads steps t answer v packet place part (slice_index_or p.vars v x) p q r
          ready is (lawful.reads_var place v is) fit.count (stands.var v x (lawful.reads_var place v is)) h

      go : (now : Turn) (next : Move) → m.next place ≡ next → Played m t now answer packet place part x p r q next
          → Follows m inputs threads steps (move_of m steps t answer) r q
      go turn.Follow (move.Access v) is h = touched v is h
      go turn.Free (move.Access v) is h = touched v is h
      go (turn.Wait u n) (move.Access v) is h = waits u n h.0
      go turn.Follow (move.Read v) is h = looked v is h
      go turn.Free (move.Read v) is h = looked v is h
      go (turn.Wait u n) (move.Read v) is h = waits u n h.0
      go now move.Clock is h = told_follows m inputs threads steps t answer move.Clock (Clock answer)
          (HearsClock answer) packet place part p q r ready is (clock_on_none answer) refl refl h
      go now move.Draw is h = told_follows m inputs threads steps t answer move.Draw (Draw answer) (HearsDraw answer)
          packet place part p q r ready is (draw_on_none answer) refl refl h
      go now move.Emit is h = emit_follows m inputs threads steps t answer packet place part p q r ready is h
      go now move.End is h = end_follows m inputs threads steps t answer packet place part p q r ready is taken h

-- whether a thread has a packet in hand, by its part
pub hand_is : {V : Type 0} (p : Mastered V) (t : ℕ) (part : ThreadPart) (place : Local) → t < length p.threads
    → part ≡ slice_index_or p.threads t part → part.hand ≡ Some place → has_hand (place_in_hand p t) ≡ true
hand_is p t part place low is hand = ap is_some (hand_there p t part low is ∙ hand)

pub no_hand : {V : Type 0} (p : Mastered V) (t : ℕ) (part : ThreadPart) → t < length p.threads
    → part ≡ slice_index_or p.threads t part → part.hand ≡ None → has_hand (place_in_hand p t) ≡ false
no_hand p t part low is hand = ap is_some (hand_there p t part low is ∙ hand)

-- an answer, with the hand as the master has it
pub turns_of : {V : Type 0} (m : Meaning V) (fits : ℕ → V → Type 0) (t : ℕ) (now : Turn) (packet : Packet)
    (place : Local) (part : ThreadPart) (p : Mastered V) (r : Stepped) (q : Mastered V) → t < length p.threads
    → part ≡ slice_index_or p.threads t part → part.hand ≡ Some place
    → Answers m fits t now packet place p r q (m.next place) → (u n : ℕ)
    → (r ≡ stepped.NotTurn u n) ↔ (WantsVariable m (place_in_hand p t) × (now ≡ turn.Wait u n))
turns_of m fits t now packet place part p r q low is hand answers u n =
    rw (hand_there p t part low is ∙ hand) (answers.waits u n, λ h. answers.waited u n h.0 h.1)

pub falls_of : {V : Type 0} (m : Meaning V) (fits : ℕ → V → Type 0) (t : ℕ) (now : Turn) (packet : Packet)
    (place : Local) (part : ThreadPart) (p : Mastered V) (r : Stepped) (q : Mastered V) → t < length p.threads
    → part ≡ slice_index_or p.threads t part → part.hand ≡ Some place
    → Answers m fits t now packet place p r q (m.next place) → MadeOne r
    → moves_left m (place_in_hand q t) < moves_left m (place_in_hand p t)
falls_of m fits t now packet place part p r q low is hand answers one =
    rw (hand_there p t part low is ∙ hand) (answers.falls one)

-- after a take at most 63 moves are left
pub take_begins : {V : Type 0} (m : Meaning V) (fits : ℕ → V → Type 0) (lawful : IsLawful m fits) (t : ℕ)
    (packet : Packet) (part : ThreadPart) (p : Mastered V) (r : Stepped) (q : Mastered V) → t < length p.threads
    → DoneTake m t packet part p r q → moves_left m (place_in_hand q t) ≤ 63
take_begins m fits lawful t packet part p r q low done =
    let begins : m.rank (m.begin packet) ≤ 62 = lawful.begins packet in
    subst (λ (l : Option Local). moves_left m l ≤ 63)
    (sym (hand_set p q p.vars t (after_take part (m.begin packet)) low done.1)) (omega arith)

-- a take never waits
pub take_turns : {V : Type 0} (m : Meaning V) (t : ℕ) (now : Turn) (packet : Packet) (part : ThreadPart)
    (p : Mastered V) (r : Stepped) (q : Mastered V) → place_in_hand p t ≡ None → DoneTake m t packet part p r q
    → (u n : ℕ) → (r ≡ stepped.NotTurn u n) ↔ (WantsVariable m (place_in_hand p t) × (now ≡ turn.Wait u n))
take_turns m t now packet part p r q none done u n =
    ((λ e. let is : r ≡ stepped.Took (part.counts.taken + 1) = done.0 in absurd (cc)), (λ h. absurd (rw none at h.0)))

-- a turn that is not to wait
pub in_turn : {V : Type 0} (now : Turn) (p : Mastered V) (r : Stepped) (q : Mastered V) (Done : Type 0)
    → (now ≡ turn.Follow) ⊎ (now ≡ turn.Free) → Done → InTurn now p r q Done
in_turn turn.Follow p r q Done may h = h
in_turn turn.Free p r q Done may h = h
in_turn (turn.Wait u n) p r q Done (inl e) h = absurd (cc)
in_turn (turn.Wait u n) p r q Done (inr e) h = absurd (cc)
