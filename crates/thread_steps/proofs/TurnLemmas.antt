-- A thread has its turn as the guide says.
use Rattle.std.proofs.Common.{◌≡◌, ℕ, ◌+◌, ◌<◌, length, arith, [], List, refl, sym, ap, ◌∙◌, subst, Option, Some, None}
use Rattle.std.proofs.Common.{true, false}
use Rattle.std.specs.Prelude.{◌↔◌, slice_index, HoldsAt}
use Rattle.entry_order.specs.Log.{Entry, entries, places}
use Rattle.access_log.specs.Held.{Lane}
use Rattle.access_log.specs.declared.entry.Turn.{Turn}
use Rattle.access_log.specs.declared.entry.Turn.TheVariants as turn_of
use Rattle.plain_machine.specs.declared.local.Move.{Move}
use Rattle.plain_machine.specs.declared.local.Move.TheVariants as move
use Rattle.plain_machine.specs.Program.{Meaning, IsLawful}
use Rattle.plain_machine.specs.Machine.{Hand}
use Rattle.plain_machine.specs.History.{Step, log_of, thread_after}
use Rattle.master_core.specs.Stamped.{IsReadersStamp}
use Rattle.master_core.specs.declared.wants.Wants.{Wants}
use Rattle.master_core.specs.declared.wants.Wants.TheVariants as wants
use Rattle.master_core.specs.Stepping.{wanted, wanted_in, wanted_by}
use Rattle.recovery_world.specs.declared.event.Outcome.TheVariants as outcome
use Rattle.recovery_world.specs.World.{Setting, World}
use Rattle.recovery_world.specs.Turns.{Awaits, HasTurn, HandHasTurn}
use Rattle.recovery_laws.specs.Sound.{Sound}
use Rattle.system_parts.specs.FromReplayGuide.{Guides}
use Rattle.system_parts.specs.FromReplayGuide.{WaitsFor as GuideWaits}
use Rattle.system_parts.proofs.FromReplayGuide.{waits_are_awaited, awaited_waits, line_log, line_good, past_good, past_kept}
use Rattle.system_parts.proofs.FromReplayGuide.{followed_kept}
use Rattle.thread_steps.specs.Following.{HasTurnBy}
use Rattle.system_parts.specs.Parts.{Parts}
use Rattle.system_parts.specs.SystemStanding.{StandsFor}
use Rattle.box_program.specs.Hands.{FitsProgram}
use Rattle.master_core.specs.Mastered.{Mastered, value_of}
use Rattle.master_core.specs.MasterStanding.{Stands}
use Rattle.master_core.specs.declared.parts.VarPart.{VarPart}

-- the variable that a thread wants, the number of its entry, and the places of the variable
pub record WantsVar {V : Type 0} (m : Meaning V) (steps : List (Step V)) (t : ℕ) (next : Move)
    (number v places_now : ℕ) : Type 0 where
  pub hand : Hand
  pub hand_is : (thread_after steps t).hand ≡ Some hand
  pub next_is : m.next hand.place ≡ next
  pub number_is : number ≡ entries t (log_of steps) + 1
  pub places_are : places_now ≡ places v (log_of steps)

pub wants_touch : {V : Type 0} (m : Meaning V) (steps : List (Step V)) (t n v p : ℕ)
    → wanted m steps t ≡ wants.Touch n v p → WantsVar m steps t (move.Access v) n v p
wants_touch {V} m steps t n v p e = go (thread_after steps t).hand refl e
  where
    at : (h : Hand) (k : Move) → (thread_after steps t).hand ≡ Some h → m.next h.place ≡ k
        → wanted_by t (log_of steps) k ≡ wants.Touch n v p → WantsVar m steps t (move.Access v) n v p
    at h (move.Access u) here is e =
        let same : u ≡ v = cc in
        record { hand = h; hand_is = here; next_is = is ∙ ap move.Access same; number_is = cc; places_are = cc }
    at h (move.Read u) here is e = absurd (cc)
    at h move.Clock here is e = absurd (cc)
    at h move.Draw here is e = absurd (cc)
    at h move.Emit here is e = absurd (cc)
    at h move.End here is e = absurd (cc)

    go : (o : Option Hand) → (thread_after steps t).hand ≡ o
        → wanted_in m t (log_of steps) (thread_after steps t).taken o ≡ wants.Touch n v p
        → WantsVar m steps t (move.Access v) n v p
    go None here e = absurd (cc)
    go (Some h) here e = at h (m.next h.place) here refl e

pub wants_read : {V : Type 0} (m : Meaning V) (steps : List (Step V)) (t n v p : ℕ)
    → wanted m steps t ≡ wants.Read n v p → WantsVar m steps t (move.Read v) n v p
wants_read {V} m steps t n v p e = go (thread_after steps t).hand refl e
  where
    at : (h : Hand) (k : Move) → (thread_after steps t).hand ≡ Some h → m.next h.place ≡ k
        → wanted_by t (log_of steps) k ≡ wants.Read n v p → WantsVar m steps t (move.Read v) n v p
    at h (move.Read u) here is e =
        let same : u ≡ v = cc in
        record { hand = h; hand_is = here; next_is = is ∙ ap move.Read same; number_is = cc; places_are = cc }
    at h (move.Access u) here is e = absurd (cc)
    at h move.Clock here is e = absurd (cc)
    at h move.Draw here is e = absurd (cc)
    at h move.Emit here is e = absurd (cc)
    at h move.End here is e = absurd (cc)

    go : (o : Option Hand) → (thread_after steps t).hand ≡ o
        → wanted_in m t (log_of steps) (thread_after steps t).taken o ≡ wants.Read n v p
        → WantsVar m steps t (move.Read v) n v p
    go None here e = absurd (cc)
    go (Some h) here e = at h (m.next h.place) here refl e

-- what is wanted of the parts as they were is wanted of the same parts
pub wanted_inside : {P V : Type 0} (meaning : P → Meaning V) (y old : Parts P V) (t : ℕ) (r : Wants) → y ≡ old
    → ((threads : ℕ) (steps : List (Step V)) → Stands (meaning old.program) threads steps old.master
    → r ≡ wanted (meaning old.program) steps t)
    → (threads : ℕ) (steps : List (Step V)) → Stands (meaning y.program) threads steps y.master
    → r ≡ wanted (meaning y.program) steps t
wanted_inside {P} {V} meaning y old t r same says = subst (λ (q : Parts P V). (threads : ℕ) (steps : List (Step V))
    → Stands (meaning q.program) threads steps q.master → r ≡ wanted (meaning q.program) steps t) (sym same) says

-- what is wanted, by the meaning of the setting
pub wanted_by_setting : {V : Type 0} (m : Meaning V) (s : Setting V) (w : World V) (p : Mastered V) (t : ℕ) (r : Wants)
    → s.meaning ≡ m → Stands s.meaning s.threads w.past p
    → ((threads : ℕ) (steps : List (Step V)) → Stands m threads steps p → r ≡ wanted m steps t)
    → r ≡ wanted s.meaning w.past t
wanted_by_setting {V} m s w p t r is stands says =
    says s.threads w.past (subst (λ (q : Meaning V). Stands q s.threads w.past p) is stands)
    ∙ sym (ap (λ (q : Meaning V). wanted q w.past t) is)

-- a thread that wants no variable waits for nothing
pub other_turn : {V : Type 0} (s : Setting V) (w : World V) (t : ℕ)
    → ((n v p : ℕ) → wanted s.meaning w.past t ≡ wants.Touch n v p → ⊥)
    → ((n v p : ℕ) → wanted s.meaning w.past t ≡ wants.Read n v p → ⊥)
    → HandHasTurn s.meaning w.followed (log_of w.past) t (thread_after w.past t).hand
other_turn {V} s w t touch read = go (thread_after w.past t).hand touch read
  where
    at : (k : Move) → ((n v p : ℕ) → wanted_by t (log_of w.past) k ≡ wants.Touch n v p → ⊥)
        → ((n v p : ℕ) → wanted_by t (log_of w.past) k ≡ wants.Read n v p → ⊥) → HasTurn w.followed (log_of w.past) t k
    at (move.Access v) c d = absurd (c _ _ _ refl)
    at (move.Read v) c d = absurd (d _ _ _ refl)
    at move.Clock c d = λ e a. a
    at move.Draw c d = λ e a. a
    at move.Emit c d = λ e a. a
    at move.End c d = λ e a. a

    go : (o : Option Hand)
        → ((n v p : ℕ) → wanted_in s.meaning t (log_of w.past) (thread_after w.past t).taken o ≡ wants.Touch n v p → ⊥)
        → ((n v p : ℕ) → wanted_in s.meaning t (log_of w.past) (thread_after w.past t).taken o ≡ wants.Read n v p → ⊥)
        → HandHasTurn s.meaning w.followed (log_of w.past) t o
    go None c d = tt
    go (Some h) c d = at (s.meaning.next h.place) c d

-- The turn, by what the guide says of the variable.
module _ {V : Type 0} (s : Setting V) (w : World V) (t : ℕ) (next : Move) (hand : Hand)
    (hand_is : (thread_after w.past t).hand ≡ Some hand) (next_is : s.meaning.next hand.place ≡ next)
    (Waits : ℕ → ℕ → Type 0)
    (awaited : (u m : ℕ) → Waits u m
    → (e : Entry) × Awaits w.followed (log_of w.past) t next e × (e.thread ≡ u) × (e.number ≡ m))
    (waits : (e : Entry) → Awaits w.followed (log_of w.past) t next e → Waits e.thread e.number) where
  goes : ((u m : ℕ) → Waits u m → ⊥) → HandHasTurn s.meaning w.followed (log_of w.past) t (thread_after w.past t).hand
  goes none =
      subst (λ (o : Option Hand). HandHasTurn s.meaning w.followed (log_of w.past) t o) (sym hand_is) (subst
      (λ (k : Move). HasTurn w.followed (log_of w.past) t k) (sym next_is) (λ e a. none e.thread e.number (waits e a)))

  pub turn_has : (turn : Turn) → ((u m : ℕ) → (turn ≡ turn_of.Wait u m) ↔ Waits u m) → HasTurnBy s w t turn
  turn_has turn_of.Follow says = goes (λ u m h. let q = (says u m).1 h in absurd (cc))
  turn_has turn_of.Free says = goes (λ u m h. let q = (says u m).1 h in absurd (cc))
  turn_has (turn_of.Wait u m) says =
      let r = awaited u m ((says u m).0 refl) in
      record {
        hand = hand;
        hand_is = hand_is;
        entry = r.0;
        awaits = subst (λ (k : Move). Awaits w.followed (log_of w.past) t k r.0) (sym next_is) r.1;
        to_is = ap (λ (x : ℕ). outcome.Waits x m) (sym r.2) ∙ ap (λ (x : ℕ). outcome.Waits r.0.thread x) (sym r.3);
      }

-- for a touch, and for a read
pub touch_turn : {V : Type 0} (s : Setting V) (w : World V) (guide : List Lane) (t n v p : ℕ) (readers : List ℕ)
    (turn : Turn) → Sound s w → Guides w.followed (log_of w.past) guide
    → IsReadersStamp (log_of w.past) v (λ x. slice_index readers x) → WantsVar s.meaning w.past t (move.Access v) n v p
    → ((u m : ℕ) → (turn ≡ turn_of.Wait u m) ↔ GuideWaits guide t n v false p readers u m) → HasTurnBy s w t turn
touch_turn s w guide t n v p readers turn sound guides stamp k says =
    turn_has s w t (move.Access v) k.hand k.hand_is k.next_is
    (λ u m. GuideWaits guide t (entries t (log_of w.past) + 1) v false (places v (log_of w.past)) readers u m)
    (λ u m h. (waits_are_awaited (line_log s w sound) (log_of w.past) w.followed guide (line_good s w sound)
    (past_good s w sound) (past_kept s w sound) (followed_kept s w sound) guides v readers stamp t false u m).0 h)
    (λ e a. awaited_waits (line_log s w sound) (log_of w.past) w.followed guide (line_good s w sound)
    (past_good s w sound) (past_kept s w sound) (followed_kept s w sound) guides v readers stamp t false e a) turn
    (subst (λ (j : ℕ).
    (u m : ℕ) → (turn ≡ turn_of.Wait u m) ↔ GuideWaits guide t (entries t (log_of w.past) + 1) v false j readers u m)
    k.places_are
    (subst (λ (j : ℕ). (u m : ℕ) → (turn ≡ turn_of.Wait u m) ↔ GuideWaits guide t j v false p readers u m)
    k.number_is says))

pub read_turn : {V : Type 0} (s : Setting V) (w : World V) (guide : List Lane) (t n v p : ℕ) (readers : List ℕ)
    (turn : Turn) → Sound s w → Guides w.followed (log_of w.past) guide
    → IsReadersStamp (log_of w.past) v (λ x. slice_index readers x) → WantsVar s.meaning w.past t (move.Read v) n v p
    → ((u m : ℕ) → (turn ≡ turn_of.Wait u m) ↔ GuideWaits guide t n v true p readers u m) → HasTurnBy s w t turn
read_turn s w guide t n v p readers turn sound guides stamp k says =
    turn_has s w t (move.Read v) k.hand k.hand_is k.next_is
    (λ u m. GuideWaits guide t (entries t (log_of w.past) + 1) v true (places v (log_of w.past)) readers u m)
    (λ u m h. (waits_are_awaited (line_log s w sound) (log_of w.past) w.followed guide (line_good s w sound)
    (past_good s w sound) (past_kept s w sound) (followed_kept s w sound) guides v readers stamp t true u m).0 h)
    (λ e a. awaited_waits (line_log s w sound) (log_of w.past) w.followed guide (line_good s w sound)
    (past_good s w sound) (past_kept s w sound) (followed_kept s w sound) guides v readers stamp t true e a) turn
    (subst (λ (j : ℕ).
    (u m : ℕ) → (turn ≡ turn_of.Wait u m) ↔ GuideWaits guide t (entries t (log_of w.past) + 1) v true j readers u m)
    k.places_are
    (subst (λ (j : ℕ). (u m : ℕ) → (turn ≡ turn_of.Wait u m) ↔ GuideWaits guide t j v true p readers u m)
    k.number_is says))

-- The variable is one of the program's, and the master has the stamp of its readers.
module _ {P V : Type 0} (m : Meaning V) (s : Setting V) (w : World V) (y : Parts P V) (t n v p : ℕ) (r : Wants)
    (st : StandsFor m s w y) where
  wants_is : ((threads : ℕ) (steps : List (Step V)) → Stands m threads steps y.master → r ≡ wanted m steps t)
      → wanted s.meaning w.past t ≡ r
  wants_is says =
      ap (λ (q : Meaning V). wanted q w.past t) st.inputs.meaning
      ∙ sym (says s.threads w.past
      (subst (λ (q : Meaning V). Stands q s.threads w.past y.master) st.inputs.meaning st.master.stands))

  pub touch_low : {fits : ℕ → V → Type 0} → IsLawful m fits → FitsProgram m fits value_of y.master.vars
      → ((threads : ℕ) (steps : List (Step V)) → Stands m threads steps y.master → r ≡ wanted m steps t)
      → r ≡ wants.Touch n v p → v < length y.master.vars
  touch_low {fits} law all says is =
      let k = wants_touch s.meaning w.past t n v p (wants_is says ∙ is) in
      let low = law.touches_var k.hand.place v
      (subst (λ (q : Meaning V). q.next k.hand.place ≡ move.Access v) st.inputs.meaning k.next_is) in
      let count = all.count in
      omega (arith, low, count)

  pub read_low : {fits : ℕ → V → Type 0} → IsLawful m fits → FitsProgram m fits value_of y.master.vars
      → ((threads : ℕ) (steps : List (Step V)) → Stands m threads steps y.master → r ≡ wanted m steps t)
      → r ≡ wants.Read n v p → v < length y.master.vars
  read_low {fits} law all says is =
      let k = wants_read s.meaning w.past t n v p (wants_is says ∙ is) in
      let low = law.reads_var k.hand.place v
      (subst (λ (q : Meaning V). q.next k.hand.place ≡ move.Read v) st.inputs.meaning k.next_is) in
      let count = all.count in
      omega (arith, low, count)

pub readers_now : {P V : Type 0} (m : Meaning V) (s : Setting V) (w : World V) (y : Parts P V) (v : ℕ)
    (readers : List ℕ) {fits : ℕ → V → Type 0} → StandsFor m s w y → v < length y.master.vars
    → FitsProgram m fits value_of y.master.vars → HoldsAt (λ part. readers ≡ part.readers) y.master.vars v
    → IsReadersStamp (log_of w.past) v (λ x. slice_index readers x)
readers_now {P} {V} m s w y v readers st low all at =
    let d : VarPart V = record { value = s.meaning.fresh v; places = 0; stamp = []; readers = readers } in
    let count = all.count in
    let in_it : v < s.meaning.vars =
    subst (λ (q : Meaning V). v < q.vars) (sym st.inputs.meaning) (omega (arith, low, count)) in
    subst (λ (l : List ℕ). IsReadersStamp (log_of w.past) v (λ x. slice_index l x)) (sym (at d))
    (st.master.stands.var v d in_it).looked
