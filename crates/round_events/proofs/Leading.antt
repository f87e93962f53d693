-- The receipts of a round are events, one after another.
use Rattle.std.proofs.Common.{◌≡◌, ℕ, ◌+◌, ◌≤◌, List, [], ◌∷◌, ◌++◌, length, append_assoc, Option, Ok, Err, Result}
use Rattle.std.proofs.Common.{refl, sym, ap, ◌∙◌, subst, inl, inr, arith}
use Rattle.access_log.specs.Held.{Lane}
use Rattle.plain_machine.specs.declared.plain_move.PlainMove.{PlainMove}
use Rattle.plain_machine.specs.declared.plain_move.PlayCause.{PlayCause}
use Rattle.plain_machine.specs.declared.plain_move.PlayFault.{PlayFault}
use Rattle.plain_machine.specs.History.{Step, log_of, plain_move, numbered, and_move, play}
use Rattle.plain_machine.specs.Agree.{IsEarlier}
use Rattle.plain_machine.proofs.Histories.{earlier_refl, earlier_log}
use Rattle.plain_machine.proofs.PlayedLists.{play_append, history_played}
use Rattle.recovery_world.specs.World.{Setting, World, inputs_fed}
use Rattle.recovery_world.specs.Events.{MakesMove, move_outcome, bytes_sent}
use Rattle.recovery_laws.specs.Sound.{Sound}
use Rattle.recovery_laws.proofs.Worlds.{step_sound}
use Rattle.replay_guide.specs.Worlds.{Guides}
use Rattle.round_order.specs.Receipts.{Receipt, Receipts, moved, moves_in, after}
use Rattle.round_order.specs.Linked.{IsLinked}
use Rattle.round_order.specs.Woven.{IsOrder}
use Rattle.round_order.proofs.OrderFronts.{IsFront, front_rest, Goes}
use Rattle.round_order.proofs.WovenSteps.{all_go, front_all}
use Rattle.recovery_laws.specs.Making.{CanMake, after_made}
use Rattle.round_events.specs.Leading.{AllKeep, bytes_in, world_after, AreMade}
use Rattle.round_events.proofs.Telling.{can_make}

-- a numbered answer that is a history is one
numbered_ok : {V : Type 0} (n : ℕ) (o : Result (List (Step V)) PlayCause) (steps : List (Step V))
    → numbered n o ≡ Ok steps → o ≡ Ok steps
numbered_ok {V} n (Ok one) steps e = cc
numbered_ok n (Err cause) steps e = absurd (cc)

-- what is made by the event is the move of the world
pub makes_move : {V : Type 0} (s : Setting V) (w : World V) (t : ℕ) (answer : Option ℕ) (step : Step V)
    → CanMake s w t answer step → MakesMove s w t answer (move_outcome step.act) (after_made w step)
makes_move s w t answer step k = record {
  turn = k.turn;
  answer = answer;
  drawn = w.drawn;
  tells = k.tells;
  step = step;
  moves = k.moves;
  to_is = refl;
  new_is = refl;
}

module _ {V : Type 0} (s : Setting V) (w : World V) (guide : List Lane) (rs : Receipts V) (few : s.threads ≤ 16)
    (sound : Sound s w) (guides : Guides w.followed (log_of w.past) guide)
    (linked : IsLinked s.meaning (inputs_fed s w.fed) s.threads w.past rs) where
  list : (moves : List PlainMove) × (play s.meaning (inputs_fed s w.fed) s.threads moves ≡ Ok w.past)
  list = history_played s.meaning (inputs_fed s w.fed) s.threads w.past sound.firm.legal

  goes : (tail : List (Receipt V)) → IsFront s.meaning (inputs_fed s w.fed) w.past rs tail
      → Goes s.meaning (inputs_fed s w.fed) s.threads list.0 w.past tail
  goes tail f = all_go s.meaning (inputs_fed s w.fed) s.threads list.0 w.past rs few list.1 linked tail f

  -- each receipt is a legal move after those behind it
  next_move : (r : Receipt V) (earlier : List (Receipt V))
      → IsFront s.meaning (inputs_fed s w.fed) w.past rs (r ∷ earlier)
      → plain_move s.meaning (inputs_fed s w.fed) s.threads (after earlier w.past) (moved r)
      ≡ Ok (r.step ∷ after earlier w.past)
  next_move r earlier f =
      let before = (goes earlier (front_rest s.meaning (inputs_fed s w.fed) w.past rs r earlier f)).legal in
      let now = (goes (r ∷ earlier) f).legal in
      let split : play s.meaning (inputs_fed s w.fed) s.threads ((list.0 ++ moves_in earlier) ++ moved r ∷ [])
      ≡ Ok (r.step ∷ after earlier w.past) =
      ap (λ (l : List PlainMove). play s.meaning (inputs_fed s w.fed) s.threads l)
      (append_assoc list.0 (moves_in earlier) (moved r ∷ []))
      ∙ now in
      let one : and_move s.meaning (inputs_fed s w.fed) s.threads (Ok (after earlier w.past)) (moved r)
      ≡ Ok (r.step ∷ after earlier w.past) =
      sym (play_append s.meaning (inputs_fed s w.fed) s.threads (Ok []) (list.0 ++ moves_in earlier) (moved r ∷ [])
      ∙ ap
      (λ (o : Result (List (Step V)) PlayFault). and_move s.meaning (inputs_fed s w.fed) s.threads o (moved r)) before)
      ∙ split in
      numbered_ok (length (after earlier w.past))
      (plain_move s.meaning (inputs_fed s w.fed) s.threads (after earlier w.past) (moved r))
      (r.step ∷ after earlier w.past) one

  grown : (tail : List (Receipt V)) → IsEarlier w.past (after tail w.past)
  grown [] = earlier_refl w.past
  grown (r ∷ earlier) = inr (grown earlier)

  pub still_guides : (tail : List (Receipt V)) → Guides w.followed (log_of (after tail w.past)) guide
  still_guides tail e out = guides e (λ i. out (earlier_log w.past (after tail w.past) e (grown tail) i))

  one_more : (r : Receipt V) (earlier : List (Receipt V))
      → after_made (world_after w earlier) r.step ≡ world_after w (r ∷ earlier)
  one_more r earlier =
      let k : w.moves + length earlier + 1 ≡ w.moves + length (r ∷ earlier) = omega arith in
      let n : w.bytes + bytes_in earlier + bytes_sent r.step.act
      ≡ w.bytes + (bytes_in earlier + bytes_sent r.step.act) = omega arith in
      λ i. record w { past = r.step ∷ after earlier w.past; moves = k i; bytes = n i }

  pub all_made : (tail : List (Receipt V)) → IsFront s.meaning (inputs_fed s w.fed) w.past rs tail → AllKeep guide tail
      → AreMade s w tail × Sound s (world_after w tail)
  all_made [] f keep = (tt, subst (λ (z : World V). Sound s z) (same_world w) sound)
    where
      same_world : (w : World V) → w ≡ world_after w []
      same_world w =
          let k : w.moves ≡ w.moves + 0 = omega arith in
          let n : w.bytes ≡ w.bytes + 0 = omega arith in λ i. record w { moves = k i; bytes = n i }
  all_made (r ∷ earlier) f (one, keep) =
      let before = all_made earlier (front_rest s.meaning (inputs_fed s w.fed) w.past rs r earlier f) keep in
      let can =
      can_make s (world_after w earlier) guide before.1 (still_guides earlier) r.step.thread r.answer r.step r.stamp
      (next_move r earlier f) one (λ e left is. ((goes (r ∷ earlier) f).stamps r e (inl refl) (left, is)).1) in (
        (can, before.1, before.0),
        subst (λ (z : World V). Sound s z) (one_more r earlier) (step_sound s (world_after w earlier) before.1.firm
            before.1.waits r.step.thread r.answer (move_outcome r.step.act) (after_made (world_after w earlier) r.step)
            (makes_move s (world_after w earlier) r.step.thread r.answer r.step can)),
      )

  pub receipts_are_events : (order : List (Receipt V)) → IsOrder rs order → AllKeep guide order
      → AreMade s w order × Sound s (world_after w order)
  receipts_are_events order o keep = all_made order
      (front_all s.meaning (inputs_fed s w.fed) s.threads list.0 w.past rs few list.1 linked order o) keep
