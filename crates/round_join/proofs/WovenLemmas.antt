-- The woven receipts stand as the steps of a plan's round.
use Rattle.std.proofs.Common.{◌≡◌, ℕ, ◌≤◌, List, [], ◌∷◌, ◌++◌, refl, ap, ◌∙◌, subst, inl, inr, Ok}
use Rattle.plain_text.specs.declared.packet.Packet.{Packet}
use Rattle.plain_machine.specs.declared.plain_move.PlainMove.{PlainMove}
use Rattle.plain_machine.specs.Program.{Meaning}
use Rattle.plain_machine.specs.History.{Act, Took, Did, Emitted, Ended, Step, log_of, play}
use Rattle.plain_machine.specs.Continue.{IsQuiet, IsLed}
use Rattle.plain_machine.specs.Line.{IsByWeight}
use Rattle.plan_script.specs.Rounds.{AreWoven, NoneIsLater, AreByThread}
use Rattle.round_order.specs.Receipts.{Receipt, Receipts, Among, after, entries_in, IsUnlogged}
use Rattle.round_order.specs.Linked.{IsLinked}
use Rattle.round_order.specs.Woven.{IsByThread, IsWoven}
use Rattle.round_order.proofs.WovenLines.{woven_line}
use Rattle.round_join.specs.Weaving.{steps_in}

pub after_steps : {V : Type 0} (order : List (Receipt V)) (past : List (Step V))
    → after order past ≡ steps_in order ++ past
after_steps [] past = refl
after_steps {V} (r ∷ earlier) past = ap (λ (l : List (Step V)). r.step ∷ l) (after_steps earlier past)

steps_parts : {V : Type 0} (left led : List (Receipt V)) → steps_in (left ++ led) ≡ steps_in left ++ steps_in led
steps_parts [] led = refl
steps_parts {V} (r ∷ left) led = ap (λ (l : List (Step V)). r.step ∷ l) (steps_parts left led)

quiet : {V : Type 0} (r : Receipt V) → IsUnlogged r → IsQuiet r.step.act
quiet {V} r none = go r.step.act refl
  where
    go : (a : Act V) → r.step.act ≡ a → IsQuiet a
    go (Took k) is = tt
    go (Did e left) is = absurd (none e (left, is))
    go (Emitted o) is = tt
    go (Ended k) is = tt

none_later : {V : Type 0} (t : ℕ) (xs : List (Receipt V)) → ((x : Receipt V) → Among x xs → x.step.thread ≤ t)
    → NoneIsLater t (steps_in xs)
none_later t [] all = tt
none_later t (x ∷ xs) all = (all x (inl refl), none_later t xs (λ y i. all y (inr i)))

by_thread : {V : Type 0} (left : List (Receipt V)) → IsByThread left → AreByThread (steps_in left)
by_thread [] is = tt
by_thread (r ∷ left) is = (quiet r is.0, none_later r.step.thread left is.1, by_thread left is.2)

pub are_woven : {V : Type 0} (m : Meaning V) (inputs : ℕ → List Packet) (threads : ℕ) (moves : List PlainMove)
    (past : List (Step V)) (rs : Receipts V) (order : List (Receipt V)) → threads ≤ 16
    → play m inputs threads moves ≡ Ok past → IsLinked m inputs threads past rs → IsWoven rs order
    → AreWoven past (steps_in order)
are_woven {V} m inputs threads moves past rs order few played linked w =
    let line = woven_line m inputs threads moves past rs few played linked order w in
    let led : after w.led past ≡ steps_in w.led ++ past = after_steps w.led past in
    record {
      left = steps_in w.left;
      led = steps_in w.led;
      parts = ap steps_in w.parts ∙ steps_parts w.left w.led;
      more = entries_in order;
      in_order = subst (λ (l : List (Step V)). IsByWeight (log_of l) (entries_in order)) led line.in_order;
      led_on = subst (λ (l : List (Step V)). IsLed past (entries_in order) l) led line.led_on;
      rest = by_thread w.left w.rest;
    }
