-- Which effects are logged, and the entries that they make.
use Rattle.std.proofs.Common.{◌≡◌, ℕ, ◌+◌, ◌<◌, true, false, List, [], ◌∷◌, refl, sym, ap, ◌∙◌, subst, inl, inr, ◌⊎◌}
use Rattle.std.proofs.Common.{Option}
use Rattle.plain_text.specs.declared.packet.Packet.{Packet}
use Rattle.entry_order.specs.declared.what.What.TheVariants.{Access, Read}
use Rattle.entry_order.specs.Log.{Entry, entries, places, IsIn}
use Rattle.plain_machine.specs.Program.{Meaning}
use Rattle.plain_machine.specs.Machine.{Effect, Takes, Touches, Looks, HearsClock, HearsDraw, Sends, Ends}
use Rattle.plain_machine.specs.History.{Act, Took, Did, Emitted, Ended, Step, log_more, log_of, entry_of, act_of}
use Rattle.plain_machine.specs.History.{IsHistory}
use Rattle.plain_machine.specs.Agree.{IsEarlier}
use Rattle.plain_machine.proofs.Histories.{earlier_history, did_entry}
use Rattle.plain_machine.proofs.MoveLemmas.{is_logged, IsOn}

-- a logged effect makes an entry
pub logged_makes : {V : Type 0} (t taken : ℕ) (A : List (Step V)) (d : Effect V) → is_logged d ≡ true
    → (e : Entry) × (left : Option V) × (act_of t A taken d ≡ Did e left)
logged_makes t taken A Takes h = absurd (cc)
logged_makes t taken A (Touches v left) h = (_, _, refl)
logged_makes t taken A (Looks v) h = (_, _, refl)
logged_makes t taken A (HearsClock a) h = (_, _, refl)
logged_makes t taken A (HearsDraw a) h = (_, _, refl)
logged_makes t taken A (Sends p) h = absurd (cc)
logged_makes t taken A Ends h = absurd (cc)

-- an effect that makes an entry is logged
pub makes_logged : {V : Type 0} (t taken : ℕ) (A : List (Step V)) (d : Effect V) (e : Entry) (left : Option V)
    → act_of t A taken d ≡ Did e left → is_logged d ≡ true
makes_logged t taken A Takes e left h = absurd (cc)
makes_logged t taken A (Touches v x) e left h = refl
makes_logged t taken A (Looks v) e left h = refl
makes_logged t taken A (HearsClock a) e left h = refl
makes_logged t taken A (HearsDraw a) e left h = refl
makes_logged t taken A (Sends p) e left h = absurd (cc)
makes_logged t taken A Ends e left h = absurd (cc)

-- an effect that is not logged leaves the log
pub quiet_log : {V : Type 0} (t taken : ℕ) (A : List (Step V)) (log : List Entry) (d : Effect V) → is_logged d ≡ false
    → log_more (act_of t A taken d) log ≡ log
quiet_log t taken A log Takes h = refl
quiet_log t taken A log (Touches v x) h = absurd (cc)
quiet_log t taken A log (Looks v) h = absurd (cc)
quiet_log t taken A log (HearsClock a) h = absurd (cc)
quiet_log t taken A log (HearsDraw a) h = absurd (cc)
quiet_log t taken A log (Sends p) h = refl
quiet_log t taken A log Ends h = refl

pub logged_or : {V : Type 0} (d : Effect V) → (is_logged d ≡ true) ⊎ (is_logged d ≡ false)
logged_or Takes = inr refl
logged_or (Touches v x) = inl refl
logged_or (Looks v) = inl refl
logged_or (HearsClock a) = inl refl
logged_or (HearsDraw a) = inl refl
logged_or (Sends p) = inr refl
logged_or Ends = inr refl

-- an effect that is not logged is on no variable
pub off_variables : {V : Type 0} (d : Effect V) → is_logged d ≡ false → (v : ℕ) → IsOn v d → ⊥
off_variables Takes off v on = on
off_variables (Touches u left) off v on = cc
off_variables (Looks u) off v on = cc
off_variables (HearsClock a) off v on = on
off_variables (HearsDraw a) off v on = on
off_variables (Sends p) off v on = on
off_variables Ends off v on = on

-- the place in the entry of an effect on a variable
pub did_on : {V : Type 0} (t taken : ℕ) (A : List (Step V)) (d : Effect V) (e : Entry) (left : Option V) (v : ℕ)
    → IsOn v d → act_of t A taken d ≡ Did e left
    → (e.what ≡ Access v (places v (log_of A) + 1)) ⊎ (e.what ≡ Read v (places v (log_of A)))
did_on t taken A Takes e left v on h = absurd on
did_on t taken A (Touches u x) e left v on h =
    let k : entry_of t (log_of A) (Access u (places u (log_of A) + 1)) ≡ e = cc in
    inl (ap (λ (f : Entry). f.what) (sym k) ∙ ap (λ (n : ℕ). Access n (places n (log_of A) + 1)) on)
did_on t taken A (Looks u) e left v on h =
    let k : entry_of t (log_of A) (Read u (places u (log_of A))) ≡ e = cc in
    inr (ap (λ (f : Entry). f.what) (sym k) ∙ ap (λ (n : ℕ). Read n (places n (log_of A))) on)
did_on t taken A (HearsClock a) e left v on h = absurd on
did_on t taken A (HearsDraw a) e left v on h = absurd on
did_on t taken A (Sends p) e left v on h = absurd on
did_on t taken A Ends e left v on h = absurd on

-- An effect makes the same entry after another history, where the counts that it takes are the same.
pub act_again : {V : Type 0} (t taken : ℕ) (A B : List (Step V)) (d : Effect V) (e : Entry) (left : Option V)
    → act_of t A taken d ≡ Did e left → entries t (log_of A) ≡ entries t (log_of B)
    → ((v : ℕ) → IsOn v d → places v (log_of A) ≡ places v (log_of B)) → act_of t B taken d ≡ Did e left
act_again t taken A B Takes e left h n s = absurd (cc)
act_again t taken A B (Touches v x) e left h n s =
    let q : places v (log_of A) ≡ places v (log_of B) = s v refl in rw (sym n, sym q) h
act_again t taken A B (Looks v) e left h n s =
    let q : places v (log_of A) ≡ places v (log_of B) = s v refl in rw (sym n, sym q) h
act_again t taken A B (HearsClock a) e left h n s = rw (sym n) h
act_again t taken A B (HearsDraw a) e left h n s = rw (sym n) h
act_again t taken A B (Sends p) e left h n s = absurd (cc)
act_again t taken A B Ends e left h n s = absurd (cc)

-- the step that made an entry of the log
pub in_log_at : {V : Type 0} (xs : List (Step V)) (e : Entry) → IsIn e (log_of xs)
    → (x : Step V) × (earlier : List (Step V)) × (left : Option V) × IsEarlier (x ∷ earlier) xs × (x.act ≡ Did e left)
in_log_at [] e h = absurd h
in_log_at {V} (x ∷ xs) e h = go x.act refl h (in_log_at xs e)
  where
    older : ((y : Step V) × (earlier : List (Step V)) × (left : Option V) × IsEarlier (y ∷ earlier) xs
        × (y.act ≡ Did e left))
        → (y : Step V) × (earlier : List (Step V)) × (left : Option V) × IsEarlier (y ∷ earlier) (x ∷ xs)
        × (y.act ≡ Did e left)
    older r = (r.0, r.1, r.2, inr r.3, r.4)

    go : (a : Act V) → x.act ≡ a → IsIn e (log_more a (log_of xs))
        → (IsIn e (log_of xs)
        → (y : Step V) × (earlier : List (Step V)) × (left : Option V) × IsEarlier (y ∷ earlier) xs
        × (y.act ≡ Did e left))
        → (y : Step V) × (earlier : List (Step V)) × (left : Option V) × IsEarlier (y ∷ earlier) (x ∷ xs)
        × (y.act ≡ Did e left)
    go (Took k) q i rest = older (rest i)
    go (Did f left) q (inl i) rest = (x, xs, left, inl refl, q ∙ ap (λ (g : Entry). Did g left) i)
    go (Did f left) q (inr i) rest = older (rest i)
    go (Emitted o) q i rest = older (rest i)
    go (Ended k) q i rest = older (rest i)

-- each entry is of a thread that there is
pub entry_thread : {V : Type 0} (m : Meaning V) (inputs : ℕ → List Packet) (threads : ℕ) (steps : List (Step V))
    (e : Entry) → IsHistory m inputs threads steps → IsIn e (log_of steps) → e.thread < threads
entry_thread m inputs threads steps e h here =
    let r = in_log_at steps e here in
    let made = (earlier_history m inputs threads (r.0 ∷ r.1) steps r.3 h).0 in
    let thread = (did_entry r.0.thread r.0.after.taken r.1 made.2 e r.2 (sym made.4 ∙ r.4)).0 in
    subst (λ (t : ℕ). t < threads) (sym thread) made.0
