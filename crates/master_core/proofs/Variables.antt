-- What a master has of its variables after a move.
use Rattle.std.proofs.Common.{◌≡◌, ℕ, ◌+◌, ◌<◌, ◌≢◌, List, ◌∷◌, length, refl, sym, ap, ◌∙◌, subst, inl, inr, ◌⊎◌, arith}
use Rattle.std.proofs.Common.{true, false, None}
use Rattle.std.specs.Prelude.{nat_eq, max, replicate, slice_index, slice_index_or, slice_set}
use Rattle.std.proofs.lemmas.Bool.Decides.{nat_tests}
use Rattle.std.proofs.lemmas.List.{get_or-set_same, get_or-set_other}
use Rattle.entry_order.specs.declared.what.What.{What}
use Rattle.entry_order.specs.declared.what.What.TheVariants.{Access, Read, Clock, Draw}
use Rattle.entry_order.specs.Log.{Entry, places, IsLog}
use Rattle.entry_order.specs.Stamps.{IsStamp}
use Rattle.entry_order.proofs.Order.{is_or, touch_only, read_only}
use Rattle.plain_text.specs.declared.packet.Packet.{Packet}
use Rattle.plain_machine.specs.Program.{Meaning}
use Rattle.plain_machine.specs.Machine.{Thread, Effect, Takes, Touches, Looks, Sends, Ends}
use Rattle.plain_machine.specs.History.{Act, Did, Step, log_more, log_of, left_by_entry, left_by, value_after, entry_of}
use Rattle.plain_machine.specs.History.{act_of, step_of}
use Rattle.master_core.specs.declared.parts.VarPart.{VarPart}
use Rattle.master_core.specs.Stamped.{IsTouchStamp, IsReadersStamp}
use Rattle.master_core.specs.MasterStanding.{IsVariable}
use Rattle.master_core.proofs.StampedLemmas.{places_stay, touch_stays, touch_last, readers_stay, readers_more}
use Rattle.master_core.proofs.StampedLemmas.{readers_gone}

-- each variable has what the history tells of it
abbrev pub HasVariables : {V : Type 0} → Meaning V → List (Step V) → List (VarPart V) → Type 0
HasVariables {V} m steps vars = (v : ℕ) (d : VarPart V) → v < m.vars → IsVariable m steps v (slice_index_or vars v d)

-- the log with the next entry of a thread is a log

pub touch_is_log : (log : List Entry) (t v : ℕ) → IsLog log → IsLog (entry_of t log (Access v (places v log + 1)) ∷ log)
touch_is_log log t v good = (refl, ((λ w s e. grind (arith, touch_only)), (λ w s e. absurd (cc))), good)

pub look_is_log : (log : List Entry) (t v : ℕ) → IsLog log → IsLog (entry_of t log (Read v (places v log)) ∷ log)
look_is_log log t v good = (refl, ((λ w s e. absurd (cc)), (λ w s e. grind (arith, read_only))), good)

-- an entry on no variable, as one of the clock and one of the random source are
abbrev pub OnNone : What → Type 0
OnNone what = ((v s : ℕ) → what ≢ Access v s) × ((v s : ℕ) → what ≢ Read v s)

pub clock_on_none : (a : ℕ) → OnNone (Clock a)
clock_on_none a = ((λ v s h. let no : Clock a ≡ Access v s = h in cc), (λ v s h. let no : Clock a ≡ Read v s = h in cc))

pub draw_on_none : (a : ℕ) → OnNone (Draw a)
draw_on_none a = ((λ v s h. let no : Draw a ≡ Access v s = h in cc), (λ v s h. let no : Draw a ≡ Read v s = h in cc))

pub told_is_log : (log : List Entry) (t : ℕ) (what : What) → OnNone what → IsLog log → IsLog (entry_of t log what ∷ log)
told_is_log log t what none good = (refl, ((λ v s h. absurd (none.0 v s h)), (λ v s h. absurd (none.1 v s h))), good)

-- a move that is no entry leaves the variables

pub take_vars : {V : Type 0} (m : Meaning V) (steps : List (Step V)) (t : ℕ) (after : Thread) (vars : List (VarPart V))
    → HasVariables m steps vars → HasVariables m (step_of t steps after Takes ∷ steps) vars
take_vars m steps t after vars has v d low =
    let is = has v d low in record { value = is.value; places = is.places; touched = is.touched; looked = is.looked }

pub emit_vars : {V : Type 0} (m : Meaning V) (steps : List (Step V)) (t : ℕ) (after : Thread) (packet : Packet)
    (vars : List (VarPart V)) → HasVariables m steps vars
    → HasVariables m (step_of t steps after (Sends packet) ∷ steps) vars
emit_vars m steps t after packet vars has v d low =
    let is = has v d low in record { value = is.value; places = is.places; touched = is.touched; looked = is.looked }

pub end_vars : {V : Type 0} (m : Meaning V) (steps : List (Step V)) (t : ℕ) (after : Thread) (vars : List (VarPart V))
    → HasVariables m steps vars → HasVariables m (step_of t steps after Ends ∷ steps) vars
end_vars m steps t after vars has v d low =
    let is = has v d low in record { value = is.value; places = is.places; touched = is.touched; looked = is.looked }

-- nor does an entry on none
left_alone : {V : Type 0} (v : ℕ) (what : What) (x : V) → left_by_entry v what None x ≡ x
left_alone v (Access w s) x = refl
left_alone v (Read w s) x = refl
left_alone v (Clock a) x = refl
left_alone v (Draw a) x = refl

pub told_vars : {V : Type 0} (m : Meaning V) (steps : List (Step V)) (t : ℕ) (what : What) (effect : Effect V)
    (after : Thread) (vars : List (VarPart V)) → OnNone what
    → act_of t steps after.taken effect ≡ Did (entry_of t (log_of steps) what) None → IsLog (log_of steps)
    → HasVariables m steps vars → HasVariables m (step_of t steps after effect ∷ steps) vars
told_vars {V} m steps t what effect after vars none act good has v d low = record {
  value =
      is.value
      ∙ sym (ap (λ (a : Act V). left_by v a (value_after m steps v)) act ∙ left_alone v what (value_after m steps v));
  places = is.places ∙ sym (ap (places v) log_is ∙ places_stay v e (log_of steps) (none.0 v));
  touched =
      subst (λ (log : List Entry). IsTouchStamp log v (λ u. slice_index (slice_index_or vars v d).stamp u)) (sym log_is)
      (touch_stays (log_of steps) e v (λ u. slice_index (slice_index_or vars v d).stamp u) more (none.0 v) is.touched);
  looked = subst (λ (log : List Entry). IsReadersStamp log v (λ u. slice_index (slice_index_or vars v d).readers u))
      (sym log_is)
      (readers_stay (log_of steps) e v (λ u. slice_index (slice_index_or vars v d).readers u) more (none.0 v) (none.1 v)
      is.looked);
}
  where
    is : IsVariable m steps v (slice_index_or vars v d)
    is = has v d low

    e : Entry
    e = entry_of t (log_of steps) what

    log_is : log_of (step_of t steps after effect ∷ steps) ≡ e ∷ log_of steps
    log_is = ap (λ (a : Act V). log_more a (log_of steps)) act

    more : IsLog (e ∷ log_of steps)
    more = told_is_log (log_of steps) t what none good

-- each component of the zero stamp
pub zero_stamp : (u : ℕ) → slice_index (replicate 16 0) u ≡ 0
zero_stamp u = grind (arith)

-- a touch makes its variable's stamp the entry's, and ends the reads
pub touch_vars : {V : Type 0} (m : Meaning V) (steps : List (Step V)) (t v : ℕ) (after : Thread) (left : V)
    (stamp : List ℕ) (x : VarPart V) (vars : List (VarPart V)) → IsLog (log_of steps) → v < m.vars
    → length vars ≡ m.vars → IsVariable m steps v x
    → IsStamp (entry_of t (log_of steps) (Access v (places v (log_of steps) + 1)) ∷ log_of steps)
    (entry_of t (log_of steps) (Access v (places v (log_of steps) + 1))) (λ u. slice_index stamp u)
    → HasVariables m steps vars
    → HasVariables m (step_of t steps after (Touches v left) ∷ steps)
    (slice_set vars v (record { value = left; places = x.places + 1; stamp = stamp; readers = replicate 16 0 }))
touch_vars {V} m steps t v after left stamp x vars good below len is st has = λ w d low. go w d low (is_or v w)
  where
    log : List Entry
    log = log_of steps

    e : Entry
    e = entry_of t log (Access v (places v log + 1))

    more : IsLog (e ∷ log)
    more = touch_is_log log t v good

    y : VarPart V
    y = record { value = left; places = x.places + 1; stamp = stamp; readers = replicate 16 0 }

    step : Step V
    step = step_of t steps after (Touches v left)

    touched : IsVariable m (step ∷ steps) v y
    touched =
        let mine : nat_eq v v ≡ true = grind (arith, nat_tests) in
        record {
          value = sym (rw mine refl);
          places = ap (λ n. n + 1) is.places ∙ sym (rw mine refl);
          touched = touch_last log e v (λ u. slice_index stamp u) more refl st;
          looked = readers_gone log e v (λ u. slice_index (replicate 16 0) u) more refl zero_stamp;
        }

    other : (w : ℕ) (z : VarPart V) → v ≢ w → IsVariable m steps w z → IsVariable m (step ∷ steps) w z
    other w z apart old =
        let never : nat_eq v w ≡ false = grind (arith, nat_tests) in
        let no_touch : (r : ℕ) → Access v (places v log + 1) ≢ Access w r =
        λ r h. apart (touch_only v (places v log + 1) w r h).0 in
        record {
          value = old.value ∙ sym (rw never refl);
          places = old.places ∙ sym (rw never refl);
          touched = touch_stays log e w (λ u. slice_index z.stamp u) more no_touch old.touched;
          looked = readers_stay log e w (λ u. slice_index z.readers u) more no_touch
              (λ r h. let no : Access v (places v log + 1) ≡ Read w r = h in cc) old.looked;
        }

    go : (w : ℕ) (d : VarPart V) → w < m.vars → (v ≡ w) ⊎ (v ≢ w)
        → IsVariable m (step ∷ steps) w (slice_index_or (slice_set vars v y) w d)
    go w d low (inl same) =
        subst (λ (n : ℕ). IsVariable m (step ∷ steps) n (slice_index_or (slice_set vars v y) n d)) same
        (subst (λ (z : VarPart V). IsVariable m (step ∷ steps) v z)
        (sym (get_or-set_same vars v y d (omega (arith, len)))) touched)
    go w d low (inr apart) = subst (λ (z : VarPart V). IsVariable m (step ∷ steps) w z)
        (sym (get_or-set_other vars v w y d (λ q. apart (sym q))))
        (other w (slice_index_or vars w d) apart (has w d low))

-- a read joins the reads of its variable
pub look_vars : {V : Type 0} (m : Meaning V) (steps : List (Step V)) (t v : ℕ) (after : Thread) (stamp readers : List ℕ)
    (x : VarPart V) (vars : List (VarPart V)) → IsLog (log_of steps) → v < m.vars → length vars ≡ m.vars
    → IsVariable m steps v x
    → IsStamp (entry_of t (log_of steps) (Read v (places v (log_of steps))) ∷ log_of steps)
    (entry_of t (log_of steps) (Read v (places v (log_of steps)))) (λ u. slice_index stamp u)
    → ((u : ℕ) → slice_index readers u ≡ max (slice_index x.readers u) (slice_index stamp u))
    → HasVariables m steps vars
    → HasVariables m (step_of t steps after (Looks v) ∷ steps)
    (slice_set vars v (record { value = x.value; places = x.places; stamp = x.stamp; readers = readers }))
look_vars {V} m steps t v after stamp readers x vars good below len is st joined has = λ w d low. go w d low (is_or v w)
  where
    log : List Entry
    log = log_of steps

    e : Entry
    e = entry_of t log (Read v (places v log))

    more : IsLog (e ∷ log)
    more = look_is_log log t v good

    y : VarPart V
    y = record { value = x.value; places = x.places; stamp = x.stamp; readers = readers }

    step : Step V
    step = step_of t steps after (Looks v)

    looked : IsVariable m (step ∷ steps) v y
    looked = record {
      value = is.value;
      places = is.places;
      touched = touch_stays log e v (λ u. slice_index x.stamp u) more
          (λ r h. let no : Read v (places v log) ≡ Access v r = h in cc) is.touched;
      looked = readers_more log e v (λ u. slice_index x.readers u) (λ u. slice_index stamp u)
          (λ u. slice_index readers u) more refl st joined is.looked;
    }

    other : (w : ℕ) (z : VarPart V) → v ≢ w → IsVariable m steps w z → IsVariable m (step ∷ steps) w z
    other w z apart old =
        let no_touch : (r : ℕ) → Read v (places v log) ≢ Access w r =
        λ r h. let no : Read v (places v log) ≡ Access w r = h in cc in
        record {
          value = old.value;
          places = old.places;
          touched = touch_stays log e w (λ u. slice_index z.stamp u) more no_touch old.touched;
          looked = readers_stay log e w (λ u. slice_index z.readers u) more no_touch
              (λ r h. apart (read_only v (places v log) w r h).0) old.looked;
        }

    go : (w : ℕ) (d : VarPart V) → w < m.vars → (v ≡ w) ⊎ (v ≢ w)
        → IsVariable m (step ∷ steps) w (slice_index_or (slice_set vars v y) w d)
    go w d low (inl same) =
        subst (λ (n : ℕ). IsVariable m (step ∷ steps) n (slice_index_or (slice_set vars v y) n d)) same
        (subst (λ (z : VarPart V). IsVariable m (step ∷ steps) v z)
        (sym (get_or-set_same vars v y d (omega (arith, len)))) looked)
    go w d low (inr apart) = subst (λ (z : VarPart V). IsVariable m (step ∷ steps) w z)
        (sym (get_or-set_other vars v w y d (λ q. apart (sym q))))
        (other w (slice_index_or vars w d) apart (has w d low))
