-- Deltas by their places, and by the moments of a run: only a touch changes a value.
use Rattle.std.proofs.Common.{◌≡◌, ◌≢◌, ℕ, zero, suc, ◌+◌, ◌≤◌, ◌<◌, Bool, true, false, List, [], ◌∷◌, ◌++◌, length}
use Rattle.std.proofs.Common.{take, refl, sym, ap, ◌∙◌, subst, inl, inr, ◌⊎◌, arith, cond, Option, Some, None}
use Rattle.std.proofs.Common.{unwrap_or}
use Rattle.std.specs.Prelude.{◌↔◌, slice_index_or, nat_eq, IsSome}
use Rattle.plain_text.specs.declared.packet.Packet.{Packet}
use Rattle.entry_order.specs.declared.what.What.{What}
use Rattle.entry_order.specs.declared.what.What.TheVariants.{Access, Read, Clock, Draw}
use Rattle.entry_order.specs.Log.{Entry, places, touches}
use Rattle.entry_order.proofs.Order.{is_or, touch_there}
use Rattle.entry_order.proofs.Joins.{stamp_unique}
use Rattle.plain_machine.specs.Program.{Meaning}
use Rattle.plain_machine.specs.History.{Act, Took, Did, Emitted, Ended, Step, log_more, log_of, left_by, left_by_entry}
use Rattle.plain_machine.specs.History.{value_after, IsHistory}
use Rattle.plain_machine.specs.Agree.{IsEarlier}
use Rattle.plain_machine.proofs.Histories.{is_eq, not_eq, earlier_log, history_log, earlier_history}
use Rattle.master_core.specs.declared.parts.VarPart.{VarPart}
use Rattle.master_core.specs.declared.parts.ThreadPart.{ThreadPart}
use Rattle.master_core.specs.Mastered.{Mastered, IsBounded}
use Rattle.master_core.specs.Stamped.{IsTouchStamp}
use Rattle.master_core.specs.MasterStanding.{IsVariable}
use Rattle.master_core.specs.Effects.{fresh_var}
use Rattle.master_core.specs.Deltas.{changed_part, changed_parts, delta_of, applied_part, applied_parts, applied}
use Rattle.master_core.specs.Deltas.{HasTouched, LeadsVariable, LeadsOn, StandsAfter}
use Rattle.master_core.proofs.Moments.{moment_stamp}

-- Lists of parts, by their places

pub length-changed : {V : Type 0} (base now : List (VarPart V)) → length base ≡ length now
    → length (changed_parts base now) ≡ length now
length-changed [] [] e = refl
length-changed [] (x ∷ now) e = absurd (omega arith)
length-changed (b ∷ base) [] e = absurd (omega arith)
length-changed (b ∷ base) (x ∷ now) e =
    let k : length (changed_parts base now) ≡ length now = length-changed base now (omega arith) in omega arith

pub at-changed : {V : Type 0} (base now : List (VarPart V)) (v : ℕ) (c : VarPart (Option V)) (b y : VarPart V)
    → v < length base → v < length now
    → slice_index_or (changed_parts base now) v c ≡ changed_part (slice_index_or base v b) (slice_index_or now v y)
at-changed [] now v c b y low high = absurd (omega arith)
at-changed (d ∷ base) [] v c b y low high = absurd (omega arith)
at-changed (d ∷ base) (x ∷ now) zero c b y low high = refl
at-changed (d ∷ base) (x ∷ now) (suc v) c b y low high = at-changed base now v c b y (omega arith) (omega arith)

pub length-applied : {V : Type 0} (parts : List (VarPart V)) (changes : List (VarPart (Option V)))
    → length changes ≡ length parts → length (applied_parts parts changes) ≡ length parts
length-applied [] changes e = refl
length-applied (x ∷ parts) [] e = absurd (omega arith)
length-applied (x ∷ parts) (c ∷ changes) e =
    let k : length (applied_parts parts changes) ≡ length parts = length-applied parts changes (omega arith) in
    omega arith

pub at-applied : {V : Type 0} (parts : List (VarPart V)) (changes : List (VarPart (Option V))) (v : ℕ) (y x : VarPart V)
    (c : VarPart (Option V)) → v < length parts → v < length changes
    → slice_index_or (applied_parts parts changes) v y
    ≡ applied_part (slice_index_or parts v x) (slice_index_or changes v c)
at-applied [] changes v y x c low high = absurd (omega arith)
at-applied (p ∷ parts) [] v y x c low high = absurd (omega arith)
at-applied (p ∷ parts) (d ∷ changes) zero y x c low high = refl
at-applied (p ∷ parts) (d ∷ changes) (suc v) y x c low high =
    at-applied parts changes v y x c (omega arith) (omega arith)

-- one more part
pub changed-more : {V : Type 0} (base now : List (VarPart V)) (k : ℕ) (b y : VarPart V) → k < length base
    → k < length now → b ≡ slice_index_or base k b → y ≡ slice_index_or now k y
    → changed_parts (take (suc k) base) (take (suc k) now)
    ≡ changed_parts (take k base) (take k now) ++ (changed_part b y ∷ [])
changed-more [] now k b y low high b_is y_is = absurd (omega arith)
changed-more (d ∷ base) [] k b y low high b_is y_is = absurd (omega arith)
changed-more (d ∷ base) (x ∷ now) zero b y low high b_is y_is =
    ap (λ z. changed_part z x ∷ []) (sym b_is) ∙ ap (λ z. changed_part b z ∷ []) (sym y_is)
changed-more (d ∷ base) (x ∷ now) (suc k) b y low high b_is y_is =
    ap (λ l. changed_part d x ∷ l) (changed-more base now k b y (omega arith) (omega arith) b_is y_is)

-- Only a touch changes a value

left_same : {V : Type 0} (b : Bool) (n : ℕ) (left x : V) → cond b (n + 1) n ≡ n → cond b left x ≡ x
left_same true n left x e = absurd (omega arith)
left_same false n left x e = refl

entry_keeps : {V : Type 0} (v n : ℕ) (what : What) (left : Option V) (x : V) → cond (touches v what) (n + 1) n ≡ n
    → left_by_entry v what left x ≡ x
entry_keeps v n (Access w place) (Some left) x e = left_same (nat_eq w v) n left x e
entry_keeps v n (Access w place) None x e = refl
entry_keeps v n (Read w after) left x e = refl
entry_keeps v n (Clock a) left x e = refl
entry_keeps v n (Draw a) left x e = refl

act_keeps : {V : Type 0} (v : ℕ) (a : Act V) (log : List Entry) (x : V) → places v (log_more a log) ≡ places v log
    → left_by v a x ≡ x
act_keeps v (Took k) log x e = refl
act_keeps v (Did entry left) log x e = entry_keeps v (places v log) entry.what left x e
act_keeps v (Emitted emission) log x e = refl
act_keeps v (Ended k) log x e = refl

cond_more : (b : Bool) (n : ℕ) → n ≤ cond b (n + 1) n
cond_more true n = omega arith
cond_more false n = omega arith

act_adds : {V : Type 0} (v : ℕ) (a : Act V) (log : List Entry) → places v log ≤ places v (log_more a log)
act_adds v (Took k) log = omega arith
act_adds v (Did entry left) log = cond_more (touches v entry.what) (places v log)
act_adds v (Emitted emission) log = omega arith
act_adds v (Ended k) log = omega arith

-- a variable is touched no less often later
pub earlier_places : {V : Type 0} (v : ℕ) (xs ys : List (Step V)) → IsEarlier xs ys
    → places v (log_of xs) ≤ places v (log_of ys)
earlier_places v xs [] e = rw e (omega arith)
earlier_places v xs (y ∷ ys) (inl e) = rw e (omega arith)
earlier_places v xs (y ∷ ys) (inr e) =
    let k : places v (log_of xs) ≤ places v (log_of ys) = earlier_places v xs ys e in
    let n : places v (log_of ys) ≤ places v (log_more y.act (log_of ys)) = act_adds v y.act (log_of ys) in
    omega arith

-- where it was touched no more often later, its value is the same
pub value_stays : {V : Type 0} (m : Meaning V) (v : ℕ) (xs ys : List (Step V)) → IsEarlier xs ys
    → places v (log_of xs) ≡ places v (log_of ys) → value_after m xs v ≡ value_after m ys v
value_stays m v xs [] e same = ap (λ l. value_after m l v) e
value_stays m v xs (y ∷ ys) (inl e) same = ap (λ l. value_after m l v) e
value_stays m v xs (y ∷ ys) (inr e) same =
    let k : places v (log_of xs) ≤ places v (log_of ys) = earlier_places v xs ys e in
    let n : places v (log_of ys) ≤ places v (log_more y.act (log_of ys)) = act_adds v y.act (log_of ys) in
    let all : places v (log_of xs) ≡ places v (log_more y.act (log_of ys)) = same in
    value_stays m v xs ys e (omega arith) ∙ sym (act_keeps v y.act (log_of ys) (value_after m ys v) (omega arith))

-- and so is the stamp of its last touch
pub touch_stamp_stays : {V : Type 0} (m : Meaning V) (inputs : ℕ → List Packet) (threads : ℕ) (v : ℕ)
    (xs ys : List (Step V)) (s r : ℕ → ℕ) → IsHistory m inputs threads ys → IsEarlier xs ys
    → places v (log_of xs) ≡ places v (log_of ys) → IsTouchStamp (log_of xs) v s → IsTouchStamp (log_of ys) v r
    → (u : ℕ) → s u ≡ r u
touch_stamp_stays m inputs threads v xs ys s r h e same is_s is_r u = go (is_or (places v (log_of xs)) 0)
  where
    go : (places v (log_of xs) ≡ 0) ⊎ (places v (log_of xs) ≢ 0) → s u ≡ r u
    go (inl none) = is_s.none none u ∙ sym (is_r.none (sym same ∙ none) u)
    go (inr some) =
        let f = touch_there (log_of xs) v (places v (log_of xs))
        (history_log m inputs threads xs (earlier_history m inputs threads xs ys e h)) (omega arith) (omega arith) in
        stamp_unique (log_of ys) f.0 s r (moment_stamp m inputs threads ys xs f.0 s h e f.1 (is_s.last f.0 f.1 f.2))
        (is_r.last f.0 (earlier_log xs ys f.0 e f.1) (f.2 ∙ ap (λ n. Access v n) same)) u

-- The delta of two moments leads from the one to the other

some_iff : {V : Type 0} (a b : ℕ) (x : V) → IsSome (cond (nat_eq a b) None (Some x)) ↔ (a ≢ b)
some_iff {V} a b x = (
  (λ h e.
      let k : nat_eq a b ≡ true = is_eq a b e in
      let none : IsSome (cond true None (Some x)) = subst (λ t. IsSome (cond t None (Some x))) k h in absurd (cc)),
  (λ h. rw (not_eq a b h) refl),
)

pub has_touched : {V : Type 0} (base now : Mastered V) → length base.vars ≡ length now.vars
    → HasTouched base now (delta_of base now)
has_touched base now same v c b y low =
    rw (at-changed base.vars now.vars v c b y (omega arith) low) (some_iff (slice_index_or base.vars v b).places
    (slice_index_or now.vars v y).places (slice_index_or now.vars v y).value)

leads_variable : {V : Type 0} (m : Meaning V) (earlier later : List (Step V)) (v : ℕ) (b x : VarPart V)
    → IsVariable m earlier v b → IsVariable m later v x → LeadsVariable m earlier later v (changed_part b x)
leads_variable {V} m earlier later v b x is_b is_x = record {
  touched =
      λ h. rw (not_eq b.places x.places (λ e. h (sym is_b.places ∙ (e ∙ is_x.places)))) (ap (λ y. Some y) is_x.value);
  kept = λ h. rw (is_eq b.places x.places (is_b.places ∙ (h ∙ sym is_x.places))) refl;
  places_are = is_x.places;
  last = is_x.touched;
  looked = is_x.looked;
}

pub delta_leads : {V : Type 0} (m : Meaning V) (base now : Mastered V) → length now.vars ≡ m.vars
    → length base.vars ≡ length now.vars → LeadsOn m base now (delta_of base now)
delta_leads {V} m base now count same threads earlier later is_base is_now e = record {
  log = is_now.log;
  goes_on = e;
  vars_are = length-changed base.vars now.vars same ∙ count;
  var = λ v c low.
      let x = fresh_var m v in
      subst (λ (p : VarPart (Option V)). LeadsVariable m earlier later v p)
      (sym (at-changed base.vars now.vars v c x x (omega arith) (omega arith)))
      (leads_variable m earlier later v (slice_index_or base.vars v x) (slice_index_or now.vars v x)
      (is_base.var v x low) (is_now.var v x low));
  threads_are = is_now.threads_are;
  thread = is_now.thread;
}

-- The master after a delta

applied_variable : {V : Type 0} (m : Meaning V) (earlier later : List (Step V)) (v : ℕ) (x : VarPart V)
    (c : VarPart (Option V)) → IsEarlier earlier later → IsVariable m earlier v x → LeadsVariable m earlier later v c
    → IsVariable m later v (applied_part x c)
applied_variable {V} m earlier later v x c e is leads = record {
  value = go (is_or (places v (log_of earlier)) (places v (log_of later)));
  places = leads.places_are;
  touched = leads.last;
  looked = leads.looked;
}
  where
    go : (places v (log_of earlier) ≡ places v (log_of later)) ⊎ (places v (log_of earlier) ≢ places v (log_of later))
        → unwrap_or c.value x.value ≡ value_after m later v
    go (inl same) = rw (leads.kept same) (is.value ∙ value_stays m v earlier later e same)
    go (inr apart) = rw (leads.touched apart) refl

pub stands_after : {V : Type 0} (p : Mastered V) (d : Mastered (Option V)) → length d.vars ≡ length p.vars
    → StandsAfter p d (applied p d)
stands_after {V} p d same m threads earlier later is leads = record {
  log = leads.log;
  var = λ v y low.
      let c : VarPart (Option V) = record { value = None; places = 0; stamp = []; readers = [] } in
      subst (λ (x : VarPart V). IsVariable m later v x)
      (sym (at-applied p.vars d.vars v y y c (omega (arith, leads.vars_are)) (omega (arith, leads.vars_are))))
      (applied_variable m earlier later v (slice_index_or p.vars v y) (slice_index_or d.vars v c) leads.goes_on
      (is.var v y low) (leads.var v c low));
  threads_are = leads.threads_are;
  thread = leads.thread;
}

-- Counts stay within 64 bits

-- an element of a list, where there is one
pick : {X : Type 0} (xs : List X) (k : ℕ) → k < length xs → X
pick [] k low = absurd (omega arith)
pick (x ∷ xs) k low = x

pub delta_bounded : {V : Type 0} (base now : List (VarPart V)) (threads : List ThreadPart) → length base ≡ length now
    → IsBounded now threads → IsBounded (changed_parts base now) threads
delta_bounded {V} base now threads same bound = record {
  few = bound.few;
  made = bound.made;
  taken = bound.taken;
  places = λ v c low.
      let n : length (changed_parts base now) ≡ length now = length-changed base now same in
      let x : VarPart V = pick now v (omega arith) in
      rw (at-changed base now v c x x (omega arith) (omega arith)) (bound.places v x (omega arith));
}

pub applied_bounded : {V : Type 0} (parts : List (VarPart V)) (changes : List (VarPart (Option V)))
    (threads : List ThreadPart) → length changes ≡ length parts → IsBounded changes threads
    → IsBounded (applied_parts parts changes) threads
applied_bounded {V} parts changes threads same bound = record {
  few = bound.few;
  made = bound.made;
  taken = bound.taken;
  places = λ v y low.
      let n : length (applied_parts parts changes) ≡ length parts = length-applied parts changes same in
      let c : VarPart (Option V) = record { value = None; places = 0; stamp = []; readers = [] } in
      rw (at-applied parts changes v y y c (omega arith) (omega arith)) (bound.places v c (omega arith));
}
