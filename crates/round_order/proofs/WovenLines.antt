-- The woven list is in the order of the line in which a run is finished.
use Rattle.std.proofs.Common.{◌≡◌, ℕ, ◌≤◌, ◌<◌, List, [], ◌∷◌, ◌++◌, refl, sym, ap, ◌∙◌, subst, inl, inr, ◌⊎◌, arith}
use Rattle.std.proofs.Common.{Option, Ok}
use Rattle.std.specs.Prelude.{slice_index}
use Rattle.plain_text.specs.declared.packet.Packet.{Packet}
use Rattle.entry_order.specs.Log.{Entry, IsIn}
use Rattle.entry_order.specs.Stamps.{IsWeight}
use Rattle.entry_order.proofs.Weights.{weight_is_sum, count_unique}
use Rattle.plain_machine.specs.declared.plain_move.PlainMove.{PlainMove}
use Rattle.plain_machine.specs.Program.{Meaning}
use Rattle.plain_machine.specs.History.{Act, Took, Did, Emitted, Ended, Step, log_more, log_of, play}
use Rattle.plain_machine.specs.Continue.{IsQuiet, GoesQuietly, IsLed}
use Rattle.plain_machine.proofs.Histories.{history_log}
use Rattle.plain_machine.proofs.Continuations.{stays_quietly}
use Rattle.plain_machine.specs.Line as line
use Rattle.plain_machine.proofs.LoggedEffects.{entry_thread}
use Rattle.round_order.specs.Receipts.{Receipt, Receipts, Among, after, entries_in, IsLogged, IsUnlogged, weight}
use Rattle.round_order.specs.Linked.{IsLinked}
use Rattle.round_order.specs.Woven.{IsRising, IsOrder, GoesBefore, IsByWeight, LeadsTo, IsLedUp, IsByThread, IsWoven}
use Rattle.round_order.specs.Woven.{IsLine}
use Rattle.round_order.proofs.OwnReceipts.{among_own}
use Rattle.round_order.proofs.LoggedMoves.{log_step, in_entries}
use Rattle.round_order.proofs.OrderFronts.{Goes, owned}
use Rattle.round_order.proofs.WovenSteps.{all_go, front_all}
use Rattle.round_order.proofs.WovenThere.{rest_by_weight, among_right}

-- The woven list is an order in which the logged receipts rise in weight.
rises : {V : Type 0} (order : List (Receipt V)) → IsByWeight order → IsRising order
rises [] h = tt
rises {V} (r ∷ earlier) h = ((λ e d x re a xd. most x (h.0 e d x re a xd)), rises earlier h.1)
  where
    most : (x : Receipt V) → GoesBefore x r → weight x ≤ weight r
    most x (inl less) = omega arith
    most x (inr (same, low)) = omega arith

pub woven_order : {V : Type 0} (rs : Receipts V) (order : List (Receipt V)) → IsWoven rs order → IsOrder rs order
woven_order rs order w = record { each = w.each; rising = rises order w.by_weight }

-- What is not logged leaves the entries as they are

unlogged_more : {V : Type 0} (r : Receipt V) (log : List Entry) → IsUnlogged r → log_more r.step.act log ≡ log
unlogged_more r log none = go (log_step r.step.act log)
  where
    go : (((e : Entry) (left : Option _) → r.step.act ≡ Did e left → ⊥) × (log_more r.step.act log ≡ log))
        ⊎ ((e : Entry) × (left : Option _) × (r.step.act ≡ Did e left) × (log_more r.step.act log ≡ e ∷ log))
        → log_more r.step.act log ≡ log
    go (inl (never, same)) = same
    go (inr (e, left, is, more)) = absurd (none e (left, is))

unlogged_quiet : {V : Type 0} (a : Act V) → ((e : Entry) (left : Option V) → a ≡ Did e left → ⊥) → IsQuiet a
unlogged_quiet (Took k) none = tt
unlogged_quiet (Did e left) none = none e left refl
unlogged_quiet (Emitted o) none = tt
unlogged_quiet (Ended k) none = tt

rest_entries : {V : Type 0} (left led : List (Receipt V)) → IsByThread left → entries_in (left ++ led) ≡ entries_in led
rest_entries [] led h = refl
rest_entries (r ∷ rest) led h = unlogged_more r (entries_in (rest ++ led)) h.0 ∙ rest_entries rest led h.2

rest_log : {V : Type 0} (left led : List (Receipt V)) (past : List (Step V)) → IsByThread left
    → log_of (after (left ++ led) past) ≡ log_of (after led past)
rest_log [] led past h = refl
rest_log (r ∷ rest) led past h = unlogged_more r (log_of (after (rest ++ led) past)) h.0 ∙ rest_log rest led past h.2

-- Each entry is led up to

abbrev Owns : {V : Type 0} → List (Receipt V) → Type 0
Owns {V} order = (x : Receipt V) (d : Entry) → Among x order → IsLogged x d → d.thread ≡ x.step.thread

logged_led : {V : Type 0} (past : List (Step V)) (x : Receipt V) (earlier : List (Receipt V)) (e : Entry)
    (mid : List (Step V)) → IsLogged x e → e.thread ≡ x.step.thread → GoesQuietly mid x.step.thread (after earlier past)
    → IsLed past (entries_in earlier) mid → IsLed past (entries_in (x ∷ earlier)) (x.step ∷ after earlier past)
logged_led {V} past x earlier e mid (left, is) same quiet led =
    subst (λ (a : Act V). IsLed past (log_more a (entries_in earlier)) (x.step ∷ after earlier past)) (sym is)
    ((left, is), mid, subst (λ (t : ℕ). GoesQuietly mid t (after earlier past)) (sym same) quiet, led)

led_up : {V : Type 0} (past : List (Step V)) (y : Receipt V) (earlier : List (Receipt V)) → Owns earlier
    → LeadsTo y earlier
    → (mid : List (Step V)) × GoesQuietly mid y.step.thread (after earlier past) × IsLed past (entries_in earlier) mid
led_up past y [] owns h = (past, stays_quietly y.step.thread past, refl)
led_up {V} past y (x ∷ earlier) owns (inl (e, l), h) =
    let r = led_up past x earlier (λ z d a. owns z d (inr a)) h in
    (x.step ∷ after earlier past, inl refl, logged_led past x earlier e r.0 l (owns x e (inl refl) l) r.1 r.2)
led_up {V} past y (x ∷ earlier) owns (inr (none, same), h) =
    let r = led_up past x earlier (λ z d a. owns z d (inr a)) h in (
      r.0,
      inr (
        same,
        unlogged_quiet x.step.act (λ e left is. none e (left, is)),
        subst (λ (t : ℕ). GoesQuietly r.0 t (after earlier past)) same r.1,
      ),
      subst (λ (l : List Entry). IsLed past l r.0) (sym (unlogged_more x (entries_in earlier) none)) r.2,
    )

all_led : {V : Type 0} (past : List (Step V)) (led : List (Receipt V)) → Owns led → IsLedUp led
    → IsLed past (entries_in led) (after led past)
all_led past [] owns h = refl
all_led past (r ∷ earlier) owns ((e, l), h) =
    let up = led_up past r earlier (λ z d a. owns z d (inr a)) h in
    logged_led past r earlier e up.0 l (owns r e (inl refl) l) up.1 up.2

-- The entries stand by their weights in the log, where the weights of the receipts are those

abbrev Weighs : {V : Type 0} → List Entry → List (Receipt V) → Type 0
Weighs {V} log order = (x : Receipt V) (d : Entry) → Among x order → IsLogged x d → IsWeight log d (weight x)

sorted : {V : Type 0} (log : List Entry) (led : List (Receipt V)) → Owns led → Weighs log led → IsByWeight led
    → line.IsByWeight log (entries_in led)
sorted log [] owns weighs h = tt
sorted {V} log (r ∷ earlier) owns weighs h =
    go (sorted log earlier (λ z d a. owns z d (inr a)) (λ z d a. weighs z d (inr a)) h.1)
    (log_step r.step.act (entries_in earlier))
  where
    heavier : (x : Receipt V) (f e : Entry) → IsLogged x f → IsLogged r e → Among x earlier → GoesBefore x r
        → line.GoesBefore log f e
    heavier x f e xf re a before k n wf we = pick before
      where
        kx : k ≡ weight x
        kx = count_unique _ log k (weight x) wf (weighs x f (inr a) xf)

        nr : n ≡ weight r
        nr = count_unique _ log n (weight r) we (weighs r e (inl refl) re)

        pick : GoesBefore x r → (k < n) ⊎ ((k ≡ n) × (f.thread < e.thread))
        pick (inl less) = inl (omega (arith, kx, nr))
        pick (inr (same, low)) = inr (kx ∙ (same ∙ sym nr), omega (arith, owns x f (inr a) xf, owns r e (inl refl) re))

    go : line.IsByWeight log (entries_in earlier)
        → (((e : Entry) (left : Option V) → r.step.act ≡ Did e left → ⊥)
        × (log_more r.step.act (entries_in earlier) ≡ entries_in earlier))
        ⊎ ((e : Entry) × (left : Option V) × (r.step.act ≡ Did e left)
        × (log_more r.step.act (entries_in earlier) ≡ e ∷ entries_in earlier))
        → line.IsByWeight log (log_more r.step.act (entries_in earlier))
    go rest (inl (never, same)) = subst (λ (l : List Entry). line.IsByWeight log l) (sym same) rest
    go rest (inr (e, left, is, more)) = subst (λ (l : List Entry). line.IsByWeight log l) (sym more) (each, rest)
      where
        each : (f : Entry) → IsIn f (entries_in earlier) → line.GoesBefore log f e
        each f here =
            let x = in_entries earlier f here in heavier x.0 f e x.2 (left, is) x.1 (h.0 e f x.0 (left, is) x.1 x.2)

-- The history of a woven list is put in order as a line.
pub woven_line : {V : Type 0} (m : Meaning V) (inputs : ℕ → List Packet) (threads : ℕ) (moves : List PlainMove)
    (past : List (Step V)) (rs : Receipts V) (few : threads ≤ 16) (played : play m inputs threads moves ≡ Ok past)
    (linked : IsLinked m inputs threads past rs) (order : List (Receipt V)) (w : IsWoven rs order)
    → IsLine past order w.led
woven_line {V} m inputs threads moves past rs few played linked order w = record {
  entries_are = sym entries_same;
  log_is = sym log_same;
  in_order = subst (λ (l : List Entry). line.IsByWeight (log_of (after w.led past)) l) (sym entries_same)
      (subst (λ (l : List Entry). line.IsByWeight l (entries_in w.led)) log_same
      (sorted (log_of (after order past)) w.led owns weighs
      (rest_by_weight w.left w.led (subst (λ (l : List (Receipt V)). IsByWeight l) w.parts w.by_weight))));
  led_on =
      subst (λ (l : List Entry). IsLed past l (after w.led past)) (sym entries_same) (all_led past w.led owns w.leads);
}
  where
    entries_same : entries_in order ≡ entries_in w.led
    entries_same = ap (λ (l : List (Receipt V)). entries_in l) w.parts ∙ rest_entries w.left w.led w.rest

    log_same : log_of (after order past) ≡ log_of (after w.led past)
    log_same = ap (λ (l : List (Receipt V)). log_of (after l past)) w.parts ∙ rest_log w.left w.led past w.rest

    g : Goes m inputs threads moves past order
    g = all_go m inputs threads moves past rs few played linked order
        (front_all m inputs threads moves past rs few played linked order (woven_order rs order w))

    in_order : (x : Receipt V) → Among x w.led → Among x order
    in_order x a = subst (λ (l : List (Receipt V)). Among x l) (sym w.parts) (among_right w.left w.led x a)

    owns : Owns w.led
    owns x d a l = owned m inputs threads moves past rs few played linked x d
        (subst (λ (z : List (Receipt V)). Among x z) (w.each x.step.thread) (among_own order x (in_order x a))) l

    weighs : Weighs (log_of (after order past)) w.led
    weighs x d a l = weight_is_sum (log_of (after order past)) 16 d (λ u. slice_index x.stamp u)
        (history_log m inputs threads (after order past) g.history)
        (λ f here.
        let k : f.thread < threads = entry_thread m inputs threads (after order past) f g.history here in omega arith)
        (g.stamps x d (in_order x a) l).1
