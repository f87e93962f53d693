-- A history of a box that looks through tags, behind them.
use Rattle.std.proofs.Common.{◌≡◌, ℕ, ◌<◌, Bool, List, [], ◌∷◌, refl, sym, ap, ◌∙◌, subst, None}
use mathlib.Core.Path.{fun_ext}
use Rattle.plain_text.specs.declared.packet.Packet.{Packet}
use Rattle.plain_machine.specs.Program.{Meaning}
use Rattle.plain_machine.specs.Machine.{Thread}
use Rattle.plain_machine.specs.History.{Act, Took, Did, Emitted, Ended, Step, thread_after, value_after, IsHistory}
use Rattle.tagged_box.specs.Tagged.{tagged_meaning}
use Rattle.tagged_box.specs.Tags.{inputs_behind, hand_tag, hand_behind, act_behind, steps_behind}
use Rattle.tagged_box.proofs.Moves.{values_same, thread_same}
use Rattle.tagged_box.proofs.Runs.{run_behind}
use Rattle.recovery_world.specs.World.{Setting, World, inputs_fed}
use Rattle.recovery_laws.specs.Settled.{IsSettled}
use Rattle.box_worlds.specs.Worlds.{IsLedTo, IsOfWorld}
use Rattle.box_worlds.specs.Outcomes.{drops_by, drops_of}
use Rattle.box_worlds.proofs.WorldHistories.{legal_of_world}

pub history_behind : {V : Type 0} (s : Setting V) (m : Meaning V) (inputs : ℕ → List Packet) (steps : List (Step V))
    → s.meaning ≡ tagged_meaning s.tags m → IsHistory s.meaning inputs s.threads steps
    → IsHistory m (inputs_behind s.tags inputs) s.threads (steps_behind s.tags steps)
history_behind {V} s m inputs steps is h =
    run_behind s.tags m inputs s.threads steps
    (subst (λ (x : Meaning V). IsHistory x inputs s.threads steps) is h)

pub value_behind : {V : Type 0} (s : Setting V) (m : Meaning V) (steps : List (Step V))
    → s.meaning ≡ tagged_meaning s.tags m → value_after m (steps_behind s.tags steps) ≡ value_after s.meaning steps
value_behind {V} s m steps is =
    fun_ext (values_same s.tags m steps) ∙ ap (λ (x : Meaning V). value_after x steps) (sym is)

-- What holds of each history of the box holds of each history of a world, behind tags; and so what holds of its
-- variables.

pub behind_world : {V : Type 0} (s : Setting V) (m : Meaning V) (P : List (Step V) → Type 0)
    → ((inputs : ℕ → List Packet) (steps : List (Step V)) → IsHistory m inputs s.threads steps → P steps)
    → s.meaning ≡ tagged_meaning s.tags m → (w : World V) (steps : List (Step V)) → IsLedTo s w → IsOfWorld s w steps
    → P (steps_behind s.tags steps)
behind_world s m P all is w steps led of =
    all (inputs_behind s.tags (inputs_fed s w.fed)) (steps_behind s.tags steps)
    (history_behind s m (inputs_fed s w.fed) steps is (legal_of_world s w steps led of))

pub in_world : {V : Type 0} (s : Setting V) (m : Meaning V) (P : (ℕ → V) → Type 0)
    → ((inputs : ℕ → List Packet) (steps : List (Step V)) → IsHistory m inputs s.threads steps
    → P (value_after m steps))
    → s.meaning ≡ tagged_meaning s.tags m → (w : World V) (steps : List (Step V)) → IsLedTo s w → IsOfWorld s w steps
    → P (value_after s.meaning steps)
in_world s m P all is w steps led of =
    subst P (value_behind s m steps is) (behind_world s m (λ run. P (value_after m run)) all is w steps led of)

drops_by_same : {V : Type 0} (k : ℕ) (a : Act V) → drops_by (act_behind k a) ≡ drops_by a
drops_by_same k (Took input) = refl
drops_by_same k (Did entry left) = refl
drops_by_same k (Emitted o) = refl
drops_by_same k (Ended input) = refl

pub drops_same : {V : Type 0} (t : ℕ) (tags : Bool) (steps : List (Step V))
    → drops_of t (steps_behind tags steps) ≡ drops_of t steps
drops_same t tags [] = refl
drops_same t tags (x ∷ earlier) =
    rw (drops_by_same (hand_tag tags x.after.hand) x.act, drops_same t tags earlier) refl

-- In a settled world no packet is in hand.
pub rest_behind : {V : Type 0} (s : Setting V) (w : World V) (steps : List (Step V)) → IsSettled s w steps → (t : ℕ)
    → t < s.threads → (thread_after (steps_behind s.tags steps) t).hand ≡ None
rest_behind s w steps settled t low =
    ap (λ (th : Thread). th.hand) (thread_same s.tags steps t) ∙ ap (hand_behind s.tags) (settled.ended t low)
