-- What a history holds: its log is a log, and each of its steps has the numbers of its moment.
use Rattle.std.proofs.Common.{◌≡◌, ℕ, ◌+◌, ◌≤◌, ◌<◌, ◌≢◌, Bool, true, false, List, [], ◌∷◌, refl, sym, ap, ◌∙◌, subst}
use Rattle.std.proofs.Common.{inl, inr, ◌⊎◌, arith, cond, Option}
use Rattle.std.specs.Prelude.{nat_eq}
use Rattle.std.proofs.lemmas.Bool.Decides.{nat_tests}
use Rattle.plain_text.specs.declared.packet.Packet.{Packet}
use Rattle.entry_order.specs.declared.what.What.TheVariants.{Access, Read, Clock, Draw}
use Rattle.entry_order.specs.Log.{Entry, entries, places, IsLog, IsIn}
use Rattle.entry_order.proofs.Order.{is_or, touch_only, read_only}
use Rattle.plain_machine.specs.declared.emission.Emission.{Emission}
use Rattle.plain_machine.specs.Program.{Meaning}
use Rattle.plain_machine.specs.Machine.{Thread, Effect, Takes, Touches, Looks, HearsClock, HearsDraw, Sends, Ends}
use Rattle.plain_machine.specs.History.{Act, Took, Did, Emitted, Ended, Step, log_more, log_of, sent_more, sent_of}
use Rattle.plain_machine.specs.History.{outputs, moves_of, thread_after, entry_of, emission_of, act_of, step_of}
use Rattle.plain_machine.specs.History.{IsHistory}
use Rattle.plain_machine.specs.Agree.{IsEarlier, Makes}

-- a step keeps the log a log
more_is_log : {V : Type 0} (t taken : ℕ) (earlier : List (Step V)) (effect : Effect V) → IsLog (log_of earlier)
    → IsLog (log_more (act_of t earlier taken effect) (log_of earlier))
more_is_log t taken earlier Takes good = good
more_is_log t taken earlier (Touches v left) good =
    (refl, ((λ w s e. grind (arith, touch_only)), (λ w s e. absurd (cc))), good)
more_is_log t taken earlier (Looks v) good = (refl, ((λ w s e. absurd (cc)), (λ w s e. grind (arith, read_only))), good)
more_is_log t taken earlier (HearsClock a) good = (refl, ((λ w s e. absurd (cc)), (λ w s e. absurd (cc))), good)
more_is_log t taken earlier (HearsDraw a) good = (refl, ((λ w s e. absurd (cc)), (λ w s e. absurd (cc))), good)
more_is_log t taken earlier (Sends packet) good = good
more_is_log t taken earlier Ends good = good

-- The log of a history is a log.
pub history_log : {V : Type 0} (m : Meaning V) (inputs : ℕ → List Packet) (threads : ℕ) (steps : List (Step V))
    → IsHistory m inputs threads steps → IsLog (log_of steps)
history_log m inputs threads [] h = tt
history_log m inputs threads (x ∷ earlier) h =
    rw h.0.4 (more_is_log x.thread x.after.taken earlier h.0.2 (history_log m inputs threads earlier h.1))

-- the thread that moved is where the move left it
pub moved_thread : {V : Type 0} (steps : List (Step V)) (t : ℕ) (after : Thread) (effect : Effect V)
    → thread_after (step_of t steps after effect ∷ steps) t ≡ after
moved_thread steps t after effect = let same : nat_eq t t ≡ true = grind (arith, nat_tests) in rw same refl

-- Earlier moments

-- a history is earlier than itself, in the weak sense
pub earlier_refl : {V : Type 0} (xs : List (Step V)) → IsEarlier xs xs
earlier_refl [] = refl
earlier_refl (x ∷ xs) = inl refl

-- one step earlier
pub earlier_tail : {V : Type 0} (x : Step V) (xs ys : List (Step V)) → IsEarlier (x ∷ xs) ys → IsEarlier xs ys
earlier_tail x xs [] h = absurd (cc)
earlier_tail {V} x xs (y ∷ ys) (inl h) =
    inr (let k : xs ≡ ys = cc in subst (λ (zs : List (Step V)). IsEarlier xs zs) k (earlier_refl xs))
earlier_tail x xs (y ∷ ys) (inr h) = inr (earlier_tail x xs ys h)

pub earlier_trans : {V : Type 0} (xs ys zs : List (Step V)) → IsEarlier xs ys → IsEarlier ys zs → IsEarlier xs zs
earlier_trans {V} xs ys [] a b = subst (λ (l : List (Step V)). IsEarlier xs l) b a
earlier_trans {V} xs ys (z ∷ zs) a (inl b) = subst (λ (l : List (Step V)). IsEarlier xs l) b a
earlier_trans xs ys (z ∷ zs) a (inr b) = inr (earlier_trans xs ys zs a b)

-- what a history was at an earlier moment is a history
pub earlier_history : {V : Type 0} (m : Meaning V) (inputs : ℕ → List Packet) (threads : ℕ) (xs ys : List (Step V))
    → IsEarlier xs ys → IsHistory m inputs threads ys → IsHistory m inputs threads xs
earlier_history m inputs threads xs [] e h = rw e tt
earlier_history m inputs threads xs (y ∷ ys) (inl e) h = rw e h
earlier_history m inputs threads xs (y ∷ ys) (inr e) h = earlier_history m inputs threads xs ys e h.1

pub log_grow : {V : Type 0} (e : Entry) (a : Act V) (log : List Entry) → IsIn e log → IsIn e (log_more a log)
log_grow e (Took k) log h = h
log_grow e (Did f left) log h = inr h
log_grow e (Emitted o) log h = h
log_grow e (Ended k) log h = h

-- the log of an earlier moment is within the log
pub earlier_log : {V : Type 0} (xs ys : List (Step V)) (e : Entry) → IsEarlier xs ys → IsIn e (log_of xs)
    → IsIn e (log_of ys)
earlier_log {V} xs [] e h i = subst (λ (l : List (Step V)). IsIn e (log_of l)) h i
earlier_log {V} xs (y ∷ ys) e (inl h) i = subst (λ (l : List (Step V)). IsIn e (log_of l)) h i
earlier_log xs (y ∷ ys) e (inr h) i = log_grow e y.act (log_of ys) (earlier_log xs ys e h i)

-- an entry was made that left this value at its variable
abbrev pub Leaves : {V : Type 0} → List (Step V) → Entry → Option V → Type 0
Leaves [] e left = ⊥
Leaves (x ∷ earlier) e left = (x.act ≡ Did e left) ⊎ Leaves earlier e left

pub earlier_leaves : {V : Type 0} (xs ys : List (Step V)) (e : Entry) (left : Option V) → IsEarlier xs ys
    → Leaves xs e left → Leaves ys e left
earlier_leaves {V} xs [] e left h i = subst (λ (l : List (Step V)). Leaves l e left) h i
earlier_leaves {V} xs (y ∷ ys) e left (inl h) i = subst (λ (l : List (Step V)). Leaves l e left) h i
earlier_leaves xs (y ∷ ys) e left (inr h) i = inr (earlier_leaves xs ys e left h i)

pub leaves_in : {V : Type 0} (xs : List (Step V)) (e : Entry) (left : Option V) → Leaves xs e left → IsIn e (log_of xs)
leaves_in [] e left h = absurd h
leaves_in (x ∷ xs) e left (inl h) = rw h (inl refl)
leaves_in (x ∷ xs) e left (inr h) = log_grow e x.act (log_of xs) (leaves_in xs e left h)

-- the step that made an entry
pub leaves_at : {V : Type 0} (xs : List (Step V)) (e : Entry) (left : Option V) → Leaves xs e left
    → (x : Step V) × (earlier : List (Step V)) × IsEarlier (x ∷ earlier) xs × (x.act ≡ Did e left)
leaves_at [] e left h = absurd h
leaves_at (x ∷ xs) e left (inl h) = (x, xs, inl refl, h)
leaves_at (x ∷ xs) e left (inr h) = let r = leaves_at xs e left h in (r.0, r.1, inr r.2, r.3)

-- each entry of the log was made by a step
pub entry_made : {V : Type 0} (steps : List (Step V)) (e : Entry) → IsIn e (log_of steps)
    → (left : Option V) × (after : Thread) × Makes steps e left after
entry_made [] e here = absurd here
entry_made {V} (x ∷ earlier) e here = go x.act refl here (entry_made earlier e)
  where
    old : ((left : Option V) × (after : Thread) × Makes earlier e left after)
        → (left : Option V) × (after : Thread) × Makes (x ∷ earlier) e left after
    old (left, after, h) = (left, after, inr h)

    go : (a : Act V) → x.act ≡ a → IsIn e (log_more a (log_of earlier))
        → (IsIn e (log_of earlier) → (left : Option V) × (after : Thread) × Makes earlier e left after)
        → (left : Option V) × (after : Thread) × Makes (x ∷ earlier) e left after
    go (Took k) is h rest = old (rest h)
    go (Did f left) is (inl same) rest = (left, x.after, inl (is ∙ ap (λ (g : Entry). Did g left) same, refl))
    go (Did f left) is (inr h) rest = old (rest h)
    go (Emitted o) is h rest = old (rest h)
    go (Ended k) is h rest = old (rest h)

-- The moves of one thread

pub not_eq : (a b : ℕ) → a ≢ b → nat_eq a b ≡ false
not_eq a b h = grind (arith, nat_tests)

pub is_eq : (a b : ℕ) → a ≡ b → nat_eq a b ≡ true
is_eq a b h = grind (arith, nat_tests)

-- whether the newest step is of the thread
pub moves_step : {V : Type 0} (t : ℕ) (x : Step V) (xs : List (Step V))
    → ((x.thread ≢ t) × (moves_of t (x ∷ xs) ≡ moves_of t xs))
    ⊎ ((x.thread ≡ t) × (moves_of t (x ∷ xs) ≡ moves_of t xs + 1))
moves_step t x xs = go (is_or x.thread t)
  where
    go : ((x.thread ≡ t) ⊎ (x.thread ≢ t))
        → ((x.thread ≢ t) × (moves_of t (x ∷ xs) ≡ moves_of t xs))
        ⊎ ((x.thread ≡ t) × (moves_of t (x ∷ xs) ≡ moves_of t xs + 1))
    go (inl h) = inr (h, grind (arith, nat_tests))
    go (inr h) = inl (h, grind (arith, nat_tests))

-- the move of the thread that has k of its moves before it
pub find_move : {V : Type 0} (t k : ℕ) (xs : List (Step V)) → k < moves_of t xs
    → (x : Step V) × (earlier : List (Step V)) × IsEarlier (x ∷ earlier) xs × (x.thread ≡ t) × (moves_of t earlier ≡ k)
find_move t k [] h = absurd (omega arith)
find_move {V} t k (x ∷ xs) h = go (moves_step t x xs) (is_or (moves_of t xs) k) (find_move t k xs)
  where
    go : ((x.thread ≢ t) × (moves_of t (x ∷ xs) ≡ moves_of t xs))
        ⊎ ((x.thread ≡ t) × (moves_of t (x ∷ xs) ≡ moves_of t xs + 1)) → ((moves_of t xs ≡ k) ⊎ (moves_of t xs ≢ k))
        → (k < moves_of t xs
        → (x : Step V) × (earlier : List (Step V)) × IsEarlier (x ∷ earlier) xs × (x.thread ≡ t)
        × (moves_of t earlier ≡ k))
        → (y : Step V) × (earlier : List (Step V)) × IsEarlier (y ∷ earlier) (x ∷ xs) × (y.thread ≡ t)
        × (moves_of t earlier ≡ k)
    go (inl a) k older = let r = older (omega arith) in (r.0, r.1, inr r.2, r.3, r.4)
    go (inr a) (inl b) older = (x, xs, inl refl, a.0, b)
    go (inr a) (inr b) older = let r = older (omega arith) in (r.0, r.1, inr r.2, r.3, r.4)

-- The numbers of a step

-- the thread and the number of a logged step's entry
pub did_entry : {V : Type 0} (t taken : ℕ) (A : List (Step V)) (d : Effect V) (e : Entry) (left : Option V)
    → act_of t A taken d ≡ Did e left → (e.thread ≡ t) × (e.number ≡ entries t (log_of A) + 1)
did_entry t taken A Takes e left h = absurd (cc)
did_entry t taken A (Touches v x) e left h =
    let k : entry_of t (log_of A) (Access v (places v (log_of A) + 1)) ≡ e = cc in
    (ap (λ (f : Entry). f.thread) (sym k), ap (λ (f : Entry). f.number) (sym k))
did_entry t taken A (Looks v) e left h =
    let k : entry_of t (log_of A) (Read v (places v (log_of A))) ≡ e = cc in
    (ap (λ (f : Entry). f.thread) (sym k), ap (λ (f : Entry). f.number) (sym k))
did_entry t taken A (HearsClock a) e left h =
    let k : entry_of t (log_of A) (Clock a) ≡ e = cc in
    (ap (λ (f : Entry). f.thread) (sym k), ap (λ (f : Entry). f.number) (sym k))
did_entry t taken A (HearsDraw a) e left h =
    let k : entry_of t (log_of A) (Draw a) ≡ e = cc in
    (ap (λ (f : Entry). f.thread) (sym k), ap (λ (f : Entry). f.number) (sym k))
did_entry t taken A (Sends p) e left h = absurd (cc)
did_entry t taken A Ends e left h = absurd (cc)

-- the place of a touch
pub did_place : {V : Type 0} (t taken : ℕ) (A : List (Step V)) (d : Effect V) (e : Entry) (left : Option V) (v s : ℕ)
    → act_of t A taken d ≡ Did e left → e.what ≡ Access v s → s ≡ places v (log_of A) + 1
did_place t taken A Takes e left v s h w = absurd (cc)
did_place t taken A (Touches u x) e left v s h w =
    let k : entry_of t (log_of A) (Access u (places u (log_of A) + 1)) ≡ e = cc in
    let q : Access u (places u (log_of A) + 1) ≡ Access v s = ap (λ (f : Entry). f.what) k ∙ w in
    let a : u ≡ v = cc in
    let b : places u (log_of A) + 1 ≡ s = cc in
    sym b ∙ ap (λ (n : ℕ). places n (log_of A) + 1) a
did_place t taken A (Looks u) e left v s h w =
    let k : entry_of t (log_of A) (Read u (places u (log_of A))) ≡ e = cc in
    let q : Read u (places u (log_of A)) ≡ Access v s = ap (λ (f : Entry). f.what) k ∙ w in absurd (cc)
did_place t taken A (HearsClock a) e left v s h w =
    let k : entry_of t (log_of A) (Clock a) ≡ e = cc in
    let q : Clock a ≡ Access v s = ap (λ (f : Entry). f.what) k ∙ w in absurd (cc)
did_place t taken A (HearsDraw a) e left v s h w =
    let k : entry_of t (log_of A) (Draw a) ≡ e = cc in
    let q : Draw a ≡ Access v s = ap (λ (f : Entry). f.what) k ∙ w in absurd (cc)
did_place t taken A (Sends p) e left v s h w = absurd (cc)
did_place t taken A Ends e left v s h w = absurd (cc)

-- how many touches stand before a read
pub did_read : {V : Type 0} (t taken : ℕ) (A : List (Step V)) (d : Effect V) (e : Entry) (left : Option V) (v s : ℕ)
    → act_of t A taken d ≡ Did e left → e.what ≡ Read v s → s ≡ places v (log_of A)
did_read t taken A Takes e left v s h w = absurd (cc)
did_read t taken A (Touches u x) e left v s h w =
    let k : entry_of t (log_of A) (Access u (places u (log_of A) + 1)) ≡ e = cc in
    let q : Access u (places u (log_of A) + 1) ≡ Read v s = ap (λ (f : Entry). f.what) k ∙ w in absurd (cc)
did_read t taken A (Looks u) e left v s h w =
    let k : entry_of t (log_of A) (Read u (places u (log_of A))) ≡ e = cc in
    let q : Read u (places u (log_of A)) ≡ Read v s = ap (λ (f : Entry). f.what) k ∙ w in
    let a : u ≡ v = cc in
    let b : places u (log_of A) ≡ s = cc in
    sym b ∙ ap (λ (n : ℕ). places n (log_of A)) a
did_read t taken A (HearsClock a) e left v s h w =
    let k : entry_of t (log_of A) (Clock a) ≡ e = cc in
    let q : Clock a ≡ Read v s = ap (λ (f : Entry). f.what) k ∙ w in absurd (cc)
did_read t taken A (HearsDraw a) e left v s h w =
    let k : entry_of t (log_of A) (Draw a) ≡ e = cc in
    let q : Draw a ≡ Read v s = ap (λ (f : Entry). f.what) k ∙ w in absurd (cc)
did_read t taken A (Sends p) e left v s h w = absurd (cc)
did_read t taken A Ends e left v s h w = absurd (cc)

-- the thread and the number of a packet sent out
pub did_emission : {V : Type 0} (t taken : ℕ) (A : List (Step V)) (d : Effect V) (o : Emission)
    → act_of t A taken d ≡ Emitted o → (o.thread ≡ t) × (o.number ≡ outputs t (sent_of A) + 1)
did_emission t taken A Takes o h = absurd (cc)
did_emission t taken A (Touches v x) o h = absurd (cc)
did_emission t taken A (Looks v) o h = absurd (cc)
did_emission t taken A (HearsClock a) o h = absurd (cc)
did_emission t taken A (HearsDraw a) o h = absurd (cc)
did_emission t taken A (Sends p) o h =
    let k : emission_of t (sent_of A) taken p ≡ o = cc in
    (ap (λ (f : Emission). f.thread) (sym k), ap (λ (f : Emission). f.number) (sym k))
did_emission t taken A Ends o h = absurd (cc)

outputs_grow : {V : Type 0} (t : ℕ) (a : Act V) (sent : List Emission) → outputs t sent ≤ outputs t (sent_more a sent)
outputs_grow t (Took k) sent = omega arith
outputs_grow t (Did e left) sent = omega arith
outputs_grow t (Emitted o) sent = go (nat_eq o.thread t)
  where
    go : (b : Bool) → outputs t sent ≤ cond b (outputs t sent + 1) (outputs t sent)
    go true = omega arith
    go false = omega arith
outputs_grow t (Ended k) sent = omega arith

-- the packets sent out only grow in number
pub earlier_outputs : {V : Type 0} (t : ℕ) (xs ys : List (Step V)) → IsEarlier xs ys
    → outputs t (sent_of xs) ≤ outputs t (sent_of ys)
earlier_outputs t xs [] e = rw e (omega arith)
earlier_outputs t xs (y ∷ ys) (inl e) = rw e (omega arith)
earlier_outputs t xs (y ∷ ys) (inr e) =
    let k : outputs t (sent_of xs) ≤ outputs t (sent_of ys) = earlier_outputs t xs ys e in
    let n : outputs t (sent_of ys) ≤ outputs t (sent_more y.act (sent_of ys)) = outputs_grow t y.act (sent_of ys) in
    omega arith
