-- How many moves the steps of a round are, and what their threads were told.
use Rattle.std.proofs.Common.{◌≡◌, ◌≢◌, ℕ, zero, suc, ◌+◌, ◌≤◌, ◌⊎◌, inl, inr, List, [], ◌∷◌, ◌++◌, length, map, refl}
use Rattle.std.proofs.Common.{sym, ap, ◌∙◌, subst, cond, Bool, true, false, nat_eq, Option, arith}
use Rattle.rand_pcg.specs.Lcg.{Lcg}
use Rattle.plain_text.specs.declared.packet.Packet.{Packet}
use Rattle.entry_order.specs.Log.{Entry}
use Rattle.entry_order.proofs.Order.{is_or}
use Rattle.access_log.specs.Held.{Lane}
use Rattle.plain_machine.specs.declared.emission.Emission.{Emission}
use Rattle.plain_machine.specs.Program.{Meaning}
use Rattle.plain_machine.specs.History.{Act, Took, Did, Emitted, Ended, Step, moves_of, IsHistory}
use Rattle.plain_machine.proofs.Histories.{did_entry, did_emission, is_eq, not_eq}
use Rattle.master_core.specs.declared.step.Stepped.{Stepped}
use Rattle.master_core.specs.declared.step.Stepped.TheVariants as stepped
use Rattle.master_core.specs.Stepping.{plain_entry, emission_of_output}
use Rattle.round_join.specs.declared.noting.Made.{Made}
use Rattle.round_join.specs.Racing.{AreStepsOf, IsActOf, steps_by}
use Rattle.live_workers.specs.Telling.{AreTold, IsTold, IsToldBy}
use Rattle.live_workers.specs.Rounds.{IsToldIn, StepsTold}

-- each entry and each output is of the thread of its step
pub record IsOwned {V : Type 0} (x : Step V) : Type 0 where
  pub entry : (e : Entry) (left : Option V) → x.act ≡ Did e left → e.thread ≡ x.thread
  pub output : (o : Emission) → x.act ≡ Emitted o → o.thread ≡ x.thread

abbrev pub AreOwned : {V : Type 0} → List (Step V) → Type 0
AreOwned [] = Unit {0}
AreOwned (x ∷ steps) = IsOwned x × AreOwned steps

pub steps_owned : {V : Type 0} (m : Meaning V) (inputs : ℕ → List Packet) (threads : ℕ) (steps past : List (Step V))
    → IsHistory m inputs threads (steps ++ past) → AreOwned steps
steps_owned m inputs threads [] past hist = tt
steps_owned m inputs threads (x ∷ steps) past (is, hist) = (
  record {
    entry = λ e left act. (did_entry x.thread x.after.taken (steps ++ past) is.2 e left (sym is.4 ∙ act)).0;
    output = λ o act. (did_emission x.thread x.after.taken (steps ++ past) is.2 o (sym is.4 ∙ act)).0;
  },
  steps_owned m inputs threads steps past hist,
)

-- How many there are

counted : {V : Type 0} (b : Bool) (x : Step V) (l : List (Step V)) (n : ℕ) → n ≡ length l
    → cond b (n + 1) n ≡ length (cond b (x ∷ l) l)
counted true x l n is = omega (arith, is)
counted false x l n is = is

pub count_by : {V : Type 0} (t : ℕ) (steps : List (Step V)) → moves_of t steps ≡ length (steps_by t steps)
count_by t [] = refl
count_by t (x ∷ steps) = counted (nat_eq x.thread t) x (steps_by t steps) (moves_of t steps) (count_by t steps)

within_one : (b : Bool) (n k : ℕ) → n ≤ k → cond b (n + 1) n ≤ suc k
within_one true n k is = omega (arith, is)
within_one false n k is = omega (arith, is)

pub moves_within : {V : Type 0} (t : ℕ) (steps : List (Step V)) → moves_of t steps ≤ length steps
moves_within t [] = omega arith
moves_within t (x ∷ steps) =
    within_one (nat_eq x.thread t) (moves_of t steps) (length steps) (moves_within t steps)

pub steps_count : {V : Type 0} (moves : List Made) (steps : List (Step V)) → AreStepsOf moves steps
    → length steps ≡ length moves
steps_count [] [] are = refl
steps_count [] (x ∷ steps) are = absurd are
steps_count (k ∷ moves) [] are = absurd are
steps_count (k ∷ moves) (x ∷ steps) (is, are) = ap suc (steps_count moves steps are)

-- What they were told

told_same : {V : Type 0} (may : ℕ → Type 0) (guide : List Lane) (t : ℕ) (r : Stepped) (a : Act V) (g new : Lcg)
    → IsActOf r a → IsTold may guide t r g new → IsToldIn may guide t a g new
told_same {V} may guide t (stepped.Took k) a g new is told =
    subst (λ (z : Act V). IsToldIn may guide t z g new) (sym is) told
told_same {V} may guide t (stepped.Did e) a g new (left, is) told =
    subst (λ (z : Act V). IsToldIn may guide t z g new) (sym is) told
told_same {V} may guide t (stepped.Emitted o) a g new is told =
    subst (λ (z : Act V). IsToldIn may guide t z g new) (sym is) told
told_same {V} may guide t (stepped.Ended k) a g new is told =
    subst (λ (z : Act V). IsToldIn may guide t z g new) (sym is) told
told_same may guide t stepped.Idle a g new is told = absurd is
told_same may guide t (stepped.NotTurn u n) a g new is told = absurd is
told_same may guide t stepped.NoMemory a g new is told = absurd is

pub steps_told : {V : Type 0} (may : ℕ → Type 0) (guide : List Lane) (t : ℕ) (moves : List Made)
    (steps : List (Step V)) (g new : Lcg) → AreStepsOf moves steps → AreTold may guide t moves g new
    → StepsTold may guide t steps g new
steps_told may guide t [] [] g new are told = told
steps_told may guide t [] (x ∷ steps) g new are told = absurd are
steps_told may guide t (k ∷ moves) [] g new are told = absurd are
steps_told may guide t (k ∷ moves) (x ∷ steps) g new (is, are) (mid, before, told) = (
  mid,
  steps_told may guide t moves steps g mid are before,
  told_same may guide t k.stepped x.act mid new is.act told,
)
