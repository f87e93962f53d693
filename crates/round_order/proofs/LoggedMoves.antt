-- The logged moves among receipts, and the log that they leave.
use Rattle.std.proofs.Common.{◌≡◌, ℕ, ◌+◌, ◌≤◌, List, [], ◌∷◌, ◌++◌, refl, sym, ap, ◌∙◌, subst, inl, inr, ◌⊎◌, arith}
use Rattle.std.proofs.Common.{Option, Some, None}
use Rattle.plain_text.specs.declared.packet.Packet.{Packet}
use Rattle.entry_order.specs.declared.what.What.TheVariants.{Access, Read, Clock, Draw}
use Rattle.entry_order.specs.Log.{Entry, entries, places, IsLog, IsIn, IsNext}
use Rattle.entry_order.specs.Stamps.{IsStamp}
use Rattle.entry_order.proofs.Parts.{stamp_stays}
use Rattle.plain_machine.specs.Program.{Meaning}
use Rattle.plain_machine.specs.Machine.{Effect, Takes, Touches, Looks, HearsClock, HearsDraw, Sends, Ends}
use Rattle.plain_machine.specs.History.{Act, Took, Did, Emitted, Ended, Step, log_more, log_of, entry_of}
use Rattle.round_order.specs.Receipts.{Receipt, entries_in, Among, after, IsLogged, IsTouch, IsRead, act_at}
use Rattle.round_order.specs.Linked.{IsOwnMove, AreOwnMoves}

-- What an effect tells of the receipt

pub at_entry : {V : Type 0} (t taken place : ℕ) (mine : List (Step V)) (d : Effect V) (e : Entry) (left : Option V)
    → act_at t mine taken place d ≡ Did e left → (e.thread ≡ t) × (e.number ≡ entries t (log_of mine) + 1)
at_entry t taken place mine Takes e left h = absurd (cc)
at_entry t taken place mine (Touches v x) e left h =
    let k : entry_of t (log_of mine) (Access v (place + 1)) ≡ e = cc in
    (ap (λ (f : Entry). f.thread) (sym k), ap (λ (f : Entry). f.number) (sym k))
at_entry t taken place mine (Looks v) e left h =
    let k : entry_of t (log_of mine) (Read v place) ≡ e = cc in
    (ap (λ (f : Entry). f.thread) (sym k), ap (λ (f : Entry). f.number) (sym k))
at_entry t taken place mine (HearsClock a) e left h =
    let k : entry_of t (log_of mine) (Clock a) ≡ e = cc in
    (ap (λ (f : Entry). f.thread) (sym k), ap (λ (f : Entry). f.number) (sym k))
at_entry t taken place mine (HearsDraw a) e left h =
    let k : entry_of t (log_of mine) (Draw a) ≡ e = cc in
    (ap (λ (f : Entry). f.thread) (sym k), ap (λ (f : Entry). f.number) (sym k))
at_entry t taken place mine (Sends p) e left h = absurd (cc)
at_entry t taken place mine Ends e left h = absurd (cc)

-- an effect on a variable is a touch or a read of it
pub on_touch : {V : Type 0} (r : Receipt V) (t taken v : ℕ) (mine : List (Step V)) (left : V)
    → r.step.act ≡ act_at t mine taken r.place (Touches v left) → IsTouch r v left
on_touch r t taken v mine left h = (_, h, refl)

pub on_read : {V : Type 0} (r : Receipt V) (t taken v : ℕ) (mine : List (Step V))
    → r.step.act ≡ act_at t mine taken r.place (Looks v) → IsRead r v
on_read r t taken v mine h = (_, h, refl)

-- a touch and a read are logged
pub touch_logged : {V : Type 0} (r : Receipt V) (v : ℕ) (left : V) → (h : IsTouch r v left) → IsLogged r h.0
touch_logged r v left h = (Some left, h.1)

pub read_logged : {V : Type 0} (r : Receipt V) (v : ℕ) → (h : IsRead r v) → IsLogged r h.0
read_logged r v h = (None, h.1)

-- one move is logged by one entry
pub logged_once : {V : Type 0} (r : Receipt V) (e d : Entry) → IsLogged r e → IsLogged r d → e ≡ d
logged_once {V} r e d (x, p) (y, q) = let same : Did e x ≡ Did d y = sym p ∙ q in cc

-- a receipt among a thread's own is legal there
pub own_at : {V : Type 0} (m : Meaning V) (inputs : ℕ → List Packet) (past : List (Step V)) (t : ℕ)
    (xs : List (Receipt V)) (r : Receipt V) → AreOwnMoves m inputs past t xs → Among r xs
    → (r.step.thread ≡ t) × ((mine : List (Step V)) × IsOwnMove m inputs mine r)
own_at m inputs past t [] r h here = absurd here
own_at {V} m inputs past t (x ∷ xs) r h (inl same) =
    subst (λ (y : Receipt V). (y.step.thread ≡ t) × ((mine : List (Step V)) × IsOwnMove m inputs mine y)) same
    (h.0, (after xs past, h.1))
own_at m inputs past t (x ∷ xs) r h (inr here) = own_at m inputs past t xs r h.2 here

-- The log after one more step

pub log_step : {V : Type 0} (a : Act V) (log : List Entry)
    → (((e : Entry) (left : Option V) → a ≡ Did e left → ⊥) × (log_more a log ≡ log))
    ⊎ ((e : Entry) × (left : Option V) × (a ≡ Did e left) × (log_more a log ≡ e ∷ log))
log_step (Took k) log = inl ((λ e left h. cc), refl)
log_step (Did e left) log = inr (e, left, refl, refl)
log_step (Emitted o) log = inl ((λ e left h. cc), refl)
log_step (Ended k) log = inl ((λ e left h. cc), refl)

-- an entry of the log after the receipts is of one of them, or of the past
pub in_after : {V : Type 0} (xs : List (Receipt V)) (past : List (Step V)) (e : Entry) → IsIn e (log_of (after xs past))
    → IsIn e (log_of past) ⊎ ((x : Receipt V) × Among x xs × IsLogged x e)
in_after [] past e h = inl h
in_after {V} (r ∷ xs) past e h = go (log_step r.step.act (log_of (after xs past))) (in_after xs past e)
  where
    Found : Type 0
    Found = IsIn e (log_of past) ⊎ ((x : Receipt V) × Among x (r ∷ xs) × IsLogged x e)

    wider : IsIn e (log_of past) ⊎ ((x : Receipt V) × Among x xs × IsLogged x e)
        → IsIn e (log_of past) ⊎ ((x : Receipt V) × Among x (r ∷ xs) × IsLogged x e)
    wider (inl k) = inl k
    wider (inr (x, a, l)) = inr (x, inr a, l)

    here : (d : Entry) (left : Option V) → r.step.act ≡ Did d left → IsIn e (d ∷ log_of (after xs past))
        → (IsIn e (log_of (after xs past)) → IsIn e (log_of past) ⊎ ((x : Receipt V) × Among x xs × IsLogged x e))
        → IsIn e (log_of past) ⊎ ((x : Receipt V) × Among x (r ∷ xs) × IsLogged x e)
    here d left is (inl same) rest = inr (r, inl refl, (left, is ∙ ap (λ (f : Entry). Did f left) same))
    here d left is (inr k) rest = wider (rest k)

    go : (((d : Entry) (left : Option V) → r.step.act ≡ Did d left → ⊥)
        × (log_more r.step.act (log_of (after xs past)) ≡ log_of (after xs past)))
        ⊎ ((d : Entry) × (left : Option V) × (r.step.act ≡ Did d left)
        × (log_more r.step.act (log_of (after xs past)) ≡ d ∷ log_of (after xs past)))
        → (IsIn e (log_of (after xs past)) → IsIn e (log_of past) ⊎ ((x : Receipt V) × Among x xs × IsLogged x e))
        → IsIn e (log_of past) ⊎ ((x : Receipt V) × Among x (r ∷ xs) × IsLogged x e)
    go (inl (none, same)) rest = wider (rest (subst (λ (l : List Entry). IsIn e l) same h))
    go (inr (d, left, is, log)) rest = here d left is (subst (λ (l : List Entry). IsIn e l) log h) rest

-- an entry of the receipts is of one of them
pub in_entries : {V : Type 0} (xs : List (Receipt V)) (e : Entry) → IsIn e (entries_in xs)
    → (x : Receipt V) × Among x xs × IsLogged x e
in_entries [] e h = absurd h
in_entries {V} (r ∷ xs) e h = go (log_step r.step.act (entries_in xs)) (in_entries xs e)
  where
    later : (x : Receipt V) × Among x xs × IsLogged x e → (x : Receipt V) × Among x (r ∷ xs) × IsLogged x e
    later (x, a, l) = (x, inr a, l)

    here : (d : Entry) (left : Option V) → r.step.act ≡ Did d left → IsIn e (d ∷ entries_in xs)
        → (IsIn e (entries_in xs) → (x : Receipt V) × Among x xs × IsLogged x e)
        → (x : Receipt V) × Among x (r ∷ xs) × IsLogged x e
    here d left is (inl same) rest = (r, inl refl, (left, is ∙ ap (λ (f : Entry). Did f left) same))
    here d left is (inr k) rest = later (rest k)

    go : (((d : Entry) (left : Option V) → r.step.act ≡ Did d left → ⊥)
        × (log_more r.step.act (entries_in xs) ≡ entries_in xs))
        ⊎ ((d : Entry) × (left : Option V) × (r.step.act ≡ Did d left)
        × (log_more r.step.act (entries_in xs) ≡ d ∷ entries_in xs))
        → (IsIn e (entries_in xs) → (x : Receipt V) × Among x xs × IsLogged x e)
        → (x : Receipt V) × Among x (r ∷ xs) × IsLogged x e
    go (inl (none, same)) rest = later (rest (subst (λ (l : List Entry). IsIn e l) same h))
    go (inr (d, left, is, log)) rest = here d left is (subst (λ (l : List Entry). IsIn e l) log h) rest

-- the log after receipts goes on by their entries
more_entries : {V : Type 0} (a : Act V) (xs ys : List Entry) → log_more a (xs ++ ys) ≡ log_more a xs ++ ys
more_entries (Took k) xs ys = refl
more_entries (Did e left) xs ys = refl
more_entries (Emitted o) xs ys = refl
more_entries (Ended k) xs ys = refl

pub after_entries : {V : Type 0} (order : List (Receipt V)) (past : List (Step V))
    → log_of (after order past) ≡ entries_in order ++ log_of past
after_entries [] past = refl
after_entries (r ∷ earlier) past =
    ap (λ (l : List Entry). log_more r.step.act l) (after_entries earlier past)
    ∙ more_entries r.step.act (entries_in earlier) (log_of past)

-- stamps stay as the log grows by a step
pub step_stays : {V : Type 0} (x : Step V) (steps : List (Step V)) (e : Entry) (s : ℕ → ℕ) → IsLog (log_of (x ∷ steps))
    → IsIn e (log_of steps) → IsStamp (log_of steps) e s
    → IsIn e (log_of (x ∷ steps)) × IsStamp (log_of (x ∷ steps)) e s
step_stays {V} x steps e s good here st = go x.act good
  where
    go : (a : Act V) → IsLog (log_more a (log_of steps))
        → IsIn e (log_more a (log_of steps)) × IsStamp (log_more a (log_of steps)) e s
    go (Took k) good = (here, st)
    go (Did d left) good = (inr here, stamp_stays d (log_of steps) e s good here st)
    go (Emitted o) good = (here, st)
    go (Ended k) good = (here, st)

-- one stamp has one set of components
pub stamp_same : (log : List Entry) (e : Entry) (s r : ℕ → ℕ) → ((u : ℕ) → s u ≡ r u) → IsStamp log e s
    → IsStamp log e r
stamp_same log e s r same st = record {
  above = λ f here before.
      let a : f.number ≤ s f.thread = st.above f here before in
      let b : s f.thread ≡ r f.thread = same f.thread in omega arith;
  reached = λ u. go u (st.reached u);
}
  where
    go : (u : ℕ)
        → (s u ≡ 0)
        ⊎ ((f : Entry) × IsIn f log × (f.thread ≡ u) × (f.number ≡ s u)
        × Rattle.entry_order.specs.Log.PrecedesOrIs log f e)
        → (r u ≡ 0)
        ⊎ ((f : Entry) × IsIn f log × (f.thread ≡ u) × (f.number ≡ r u)
        × Rattle.entry_order.specs.Log.PrecedesOrIs log f e)
    go u (inl z) = inl (sym (same u) ∙ z)
    go u (inr (f, here, t, n, before)) = inr (f, here, t, n ∙ same u, before)
