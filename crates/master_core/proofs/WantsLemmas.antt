-- What a thread wants, by the parts of its master.
use Rattle.std.proofs.Common.{◌≡◌, ℕ, ◌+◌, ◌<◌, List, length, sym, ap, ◌∙◌, subst, arith, Option, Some, None}
use Rattle.std.specs.Prelude.{slice_index_or}
use Rattle.entry_order.specs.Log.{entries}
use Rattle.box_program.specs.Hands.{local_in}
use Rattle.plain_machine.specs.declared.local.Local.{Local}
use Rattle.plain_machine.specs.declared.local.Move.{Move}
use Rattle.plain_machine.specs.declared.local.Move.TheVariants as move
use Rattle.plain_machine.specs.Program.{Meaning, IsLawful}
use Rattle.plain_machine.specs.Machine.{Hand}
use Rattle.plain_machine.specs.History.{Step, log_of, thread_after}
use Rattle.master_core.specs.declared.parts.VarPart.{VarPart}
use Rattle.master_core.specs.declared.parts.ThreadPart.{ThreadPart}
use Rattle.master_core.specs.declared.wants.Wants.TheVariants as wants
use Rattle.master_core.specs.Mastered.{Mastered}
use Rattle.master_core.specs.MasterStanding.{IsThread, Stands}
use Rattle.master_core.specs.Stepping.{next_with, wanted_by, wanted_in, wanted}
use Rattle.master_core.specs.Effects.{fresh_var}

-- what a thread wants where the program's next move with its packet is this one
wanted_here : {V : Type 0} (m : Meaning V) (steps : List (Step V)) (t : ℕ) (part : ThreadPart) (next : Move)
    → IsThread steps t part → next_with m part.hand ≡ Some next
    → wanted m steps t ≡ wanted_by t (log_of steps) next
wanted_here m steps t part next is hand = go (thread_after steps t).hand (ap (next_with m) (sym is.hand) ∙ hand)
  where
    go : (h : Option Hand) → next_with m (local_in h) ≡ Some next
        → wanted_in m t (log_of steps) (thread_after steps t).taken h ≡ wanted_by t (log_of steps) next
    go None e = absurd (cc)
    go (Some h) e =
        let same : m.next h.place ≡ next = cc in
        ap (λ (x : Move). wanted_by t (log_of steps) x) same

-- the variable that is touched or read next is one of the program's

pub touches_below : {V : Type 0} (m : Meaning V) (fits : ℕ → V → Type 0) (hand : Option Local) (v : ℕ)
    → IsLawful m fits → next_with m hand ≡ Some (move.Access v) → v < m.vars
touches_below m fits None v lawful e = absurd (cc)
touches_below m fits (Some place) v lawful e =
    let is : m.next place ≡ move.Access v = cc in lawful.touches_var place v is

pub reads_below : {V : Type 0} (m : Meaning V) (fits : ℕ → V → Type 0) (hand : Option Local) (v : ℕ)
    → IsLawful m fits → next_with m hand ≡ Some (move.Read v) → v < m.vars
reads_below m fits None v lawful e = absurd (cc)
reads_below m fits (Some place) v lawful e =
    let is : m.next place ≡ move.Read v = cc in lawful.reads_var place v is

pub wants_touch : {V : Type 0} (m : Meaning V) (threads : ℕ) (steps : List (Step V)) (p : Mastered V) (t v count : ℕ)
    (part : ThreadPart) → Stands m threads steps p → t < length p.threads
    → part ≡ slice_index_or p.threads t part → next_with m part.hand ≡ Some (move.Access v) → v < m.vars
    → ((d : VarPart V) → count ≡ (slice_index_or p.vars v d).places)
    → wants.Touch (part.counts.entries + 1) v count ≡ wanted m steps t
wants_touch {V} m threads steps p t v count part is low part_is next below counted =
    let th : IsThread steps t part =
    subst (λ (x : ThreadPart). IsThread steps t x) (sym part_is) (is.thread t part (omega (arith, is.threads_are))) in
    ap (λ n. wants.Touch (n + 1) v count) th.logged
    ∙ (ap (λ n. wants.Touch (entries t (log_of steps) + 1) v n)
    (counted (fresh_var m v) ∙ (is.var v (fresh_var m v) below).places)
    ∙ sym (wanted_here m steps t part (move.Access v) th next))

pub wants_read : {V : Type 0} (m : Meaning V) (threads : ℕ) (steps : List (Step V)) (p : Mastered V) (t v count : ℕ)
    (part : ThreadPart) → Stands m threads steps p → t < length p.threads
    → part ≡ slice_index_or p.threads t part → next_with m part.hand ≡ Some (move.Read v) → v < m.vars
    → ((d : VarPart V) → count ≡ (slice_index_or p.vars v d).places)
    → wants.Read (part.counts.entries + 1) v count ≡ wanted m steps t
wants_read {V} m threads steps p t v count part is low part_is next below counted =
    let th : IsThread steps t part =
    subst (λ (x : ThreadPart). IsThread steps t x) (sym part_is) (is.thread t part (omega (arith, is.threads_are))) in
    ap (λ n. wants.Read (n + 1) v count) th.logged
    ∙ (ap (λ n. wants.Read (entries t (log_of steps) + 1) v n)
    (counted (fresh_var m v) ∙ (is.var v (fresh_var m v) below).places)
    ∙ sym (wanted_here m steps t part (move.Read v) th next))
