-- The receipts of a round, in woven order, are moves that are noted one after another.
use Rattle.std.proofs.Common.{◌≡◌, ℕ, ◌+◌, List, [], ◌∷◌, length, Option, sym, ap, ◌∙◌, subst, arith}
use Rattle.plain_machine.specs.History.{Step}
use Rattle.recovery_world.specs.World.{Setting, World}
use Rattle.recovery_world.specs.Events.{bytes_sent}
use Rattle.master_core.specs.Stepping.{Shows}
use Rattle.recovery_laws.specs.Making.{CanMake, after_made}
use Rattle.round_order.specs.Receipts.{Receipt, after}
use Rattle.round_events.specs.Leading.{AreMade, world_after, bytes_in}
use Rattle.round_join.specs.declared.noting.Made.{Made}
use Rattle.round_join.specs.Noting.{Pending}

-- each move shows its receipt, at its place
abbrev pub AreShown : {V : Type 0} → List (Step V) → List Made → List (Receipt V) → Type 0
AreShown past [] [] = Unit {0}
AreShown past [] (r ∷ order) = ⊥
AreShown past (m ∷ moves) [] = ⊥
AreShown past (m ∷ moves) (r ∷ order) =
    (m.thread ≡ r.step.thread) × (m.answer ≡ r.answer) × Shows (after order past) m.stepped r.step
    × AreShown past moves order

after_it : {V : Type 0} (w : World V) (r : Receipt V) (earlier : List (Receipt V))
    → world_after w (r ∷ earlier) ≡ after_made (world_after w earlier) r.step
after_it {V} w r earlier =
    let moves : w.moves + length (r ∷ earlier) ≡ w.moves + length earlier + 1 = omega arith in
    let bytes : w.bytes + (bytes_in earlier + bytes_sent r.step.act)
    ≡ w.bytes + bytes_in earlier + bytes_sent r.step.act = omega arith in
    ap (λ (n : ℕ).
    let z : World V = record w {
      past = r.step ∷ after earlier w.past;
      moves = n;
      bytes = w.bytes + (bytes_in earlier + bytes_sent r.step.act);
    } in
    z) moves
    ∙ ap (λ (n : ℕ).
    let z : World V =
    record w { past = r.step ∷ after earlier w.past; moves = w.moves + length earlier + 1; bytes = n } in
    z) bytes

nothing_after : {V : Type 0} (w : World V) → w ≡ world_after w []
nothing_after {V} w =
    let moves : w.moves ≡ w.moves + 0 = omega arith in
    let bytes : w.bytes ≡ w.bytes + 0 = omega arith in
    ap (λ (n : ℕ). let z : World V = record w { moves = n } in z) moves
    ∙ ap (λ (n : ℕ). let z : World V = record w { moves = w.moves + 0; bytes = n } in z) bytes

pub pending_of : {V : Type 0} (s : Setting V) (w : World V) (moves : List Made) (order : List (Receipt V))
    → AreMade s w order → AreShown w.past moves order → Pending s w moves (world_after w order)
pending_of s w [] [] made shown = sym (nothing_after w)
pending_of s w [] (r ∷ order) made shown = absurd shown
pending_of s w (m ∷ moves) [] made shown = absurd shown
pending_of {V} s w (m ∷ moves) (r ∷ order) made shown = (
  world_after w order,
  r.step,
  record {
    can = subst (λ (t : ℕ). CanMake s (world_after w order) t m.answer r.step) (sym shown.0)
        (subst (λ (a : Option ℕ). CanMake s (world_after w order) r.step.thread a r.step) (sym shown.1) made.0);
    shows = shown.2;
  },
  after_it w r order,
  pending_of s w moves order made.2 shown.3,
)
