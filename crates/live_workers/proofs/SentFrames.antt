-- The frames that the moves of a round sent, by what is noted of them, and by their steps.
use Rattle.std.proofs.Common.{◌≡◌, ◌≢◌, ℕ, ◌<◌, ◌≤◌, ◌⊎◌, inl, inr, List, [], ◌∷◌, ◌++◌, append-nil, append_assoc, refl}
use Rattle.std.proofs.Common.{sym, ap, ◌∙◌, subst, cond, Bool, true, false, nat_eq, Option, None, Result, Ok, Err, arith}
use Rattle.std.specs.Prelude.{nat_lt}
use Rattle.std.proofs.lemmas.Bool.{cases_lt}
use Rattle.std.proofs.lemmas.List.{append_cancel_right}
use Rattle.std.proofs.lemmas.Bool.Decides.{nat_tests}
use Rattle.plain_text.specs.declared.kind.Kind.TheVariants as kind
use Rattle.plain_text.specs.declared.packet.Packet.{Packet}
use Rattle.entry_order.specs.declared.what.What.{What}
use Rattle.entry_order.specs.declared.what.What.TheVariants as what
use Rattle.entry_order.proofs.Order.{is_or}
use Rattle.plain_machine.specs.declared.plain_move.PlainMove.{PlainMove}
use Rattle.plain_machine.specs.declared.plain_move.PlayCause.TheVariants.{NoSuchThread}
use Rattle.plain_machine.specs.Program.{Meaning}
use Rattle.plain_machine.specs.Machine.{Moved, Moves, Illegal, thread_move}
use Rattle.plain_machine.specs.History.{Act, Took, Did, Emitted, Ended, Step, step_of, thread_after, value_after}
use Rattle.plain_machine.specs.History.{after_moved, plain_move}
use Rattle.plain_machine.proofs.Histories.{is_eq, not_eq}
use Rattle.recovery_world.specs.declared.event.Outcome.{Outcome}
use Rattle.recovery_world.specs.declared.event.Outcome.TheVariants as outcome
use Rattle.recovery_world.specs.Events.{MakesMove, OnStep, entry_outcome, move_outcome}
use Rattle.recovery_world.specs.Many.{Message}
use Rattle.recovery_world.specs.World.{Setting, World, inputs_fed}
use Rattle.plan_script.specs.Rounds.{frames_by, frames_of, of_thread}
use Rattle.round_join.specs.declared.noting.Noted.{Noted}
use Rattle.round_join.specs.Racing.{PerformsNoted, NoneNoted, OneMore}
use Rattle.frame_intake.proofs.TakenLemmas.{of_thread_append, of_own, of_other}
use Rattle.live_workers.specs.Frames.{frame_for, frame_noted, frames_in, frames_noted}
use Rattle.live_workers.proofs.RoundSteps.{IsOwned, AreOwned}

-- Of one thread

module _ {V : Type 0} (t : ℕ) (x : Step V) (own : IsOwned x) where
  of_mine : x.thread ≡ t → (a : Act V) → x.act ≡ a → of_thread t (frames_by a) ≡ frames_by a
  of_mine same (Took k) is = refl
  of_mine same (Did e left) is =
      of_own t (record { kind = kind.Log; thread = e.thread; number = e.number }) (own.entry e left is ∙ same)
  of_mine same (Emitted o) is =
      of_own t (record { kind = kind.Out; thread = o.thread; number = o.number }) (own.output o is ∙ same)
  of_mine same (Ended k) is = refl

  of_another : x.thread ≢ t → (a : Act V) → x.act ≡ a → of_thread t (frames_by a) ≡ []
  of_another apart (Took k) is = refl
  of_another apart (Did e left) is =
      of_other t (record { kind = kind.Log; thread = e.thread; number = e.number })
      (λ same. apart (sym (own.entry e left is) ∙ same))
  of_another apart (Emitted o) is =
      of_other t (record { kind = kind.Out; thread = o.thread; number = o.number })
      (λ same. apart (sym (own.output o is) ∙ same))
  of_another apart (Ended k) is = refl

  one_step : (earlier : List (Step V))
      → frames_of t earlier ++ of_thread t (frames_by x.act) ≡ frames_of t (x ∷ earlier)
  one_step earlier = go (is_or x.thread t)
    where
      go : (x.thread ≡ t) ⊎ (x.thread ≢ t)
          → frames_of t earlier ++ of_thread t (frames_by x.act) ≡ frames_of t (x ∷ earlier)
      go (inl same) =
          ap (λ (l : List Message). frames_of t earlier ++ l) (of_mine same x.act refl)
          ∙ sym (ap (λ (b : Bool). cond b (frames_of t earlier ++ frames_by x.act) (frames_of t earlier))
          (is_eq x.thread t same))
      go (inr apart) =
          ap (λ (l : List Message). frames_of t earlier ++ l) (of_another apart x.act refl)
          ∙ append-nil (frames_of t earlier)
          ∙ sym (ap (λ (b : Bool). cond b (frames_of t earlier ++ frames_by x.act) (frames_of t earlier))
          (not_eq x.thread t apart))

pub of_steps : {V : Type 0} (t : ℕ) (steps : List (Step V)) → AreOwned steps
    → of_thread t (frames_in steps) ≡ frames_of t steps
of_steps t [] own = refl
of_steps t (x ∷ earlier) (one, own) =
    of_thread_append t (frames_in earlier) (frames_by x.act)
    ∙ ap (λ (l : List Message). l ++ of_thread t (frames_by x.act)) (of_steps t earlier own)
    ∙ one_step t x one earlier

-- By what moves came to

entry_frame : (t n : ℕ) (w : What)
    → frame_for t (entry_outcome n w) ≡ (record { kind = kind.Log; thread = t; number = n }) ∷ []
entry_frame t n (what.Access v p) = refl
entry_frame t n (what.Read v p) = refl
entry_frame t n (what.Clock a) = refl
entry_frame t n (what.Draw a) = refl

act_frame : {V : Type 0} (t : ℕ) (x : Step V) → IsOwned x → x.thread ≡ t → (a : Act V) → x.act ≡ a
    → frame_for t (move_outcome a) ≡ frames_by a
act_frame t x own same (Took k) is = refl
act_frame t x own same (Did e left) is =
    entry_frame t e.number e.what
    ∙ ap (λ (u : ℕ). let f : Message = record { kind = kind.Log; thread = u; number = e.number } in f ∷ [])
    (sym (own.entry e left is ∙ same))
act_frame t x own same (Emitted o) is =
    ap (λ (u : ℕ). let f : Message = record { kind = kind.Out; thread = u; number = o.number } in f ∷ [])
    (sym (own.output o is ∙ same))
act_frame t x own same (Ended k) is = refl

-- a move that is made is one of its thread
move_thread : {V : Type 0} (m : Meaning V) (inputs : ℕ → List Packet) (threads : ℕ) (steps : List (Step V))
    (x : Step V) (move : PlainMove) → plain_move m inputs threads steps move ≡ Ok (x ∷ steps)
    → x.thread ≡ move.thread
move_thread {V} m inputs threads steps x move e = go (cases_lt move.thread threads)
  where
    moved : (w : Moved V)
        → thread_move m (inputs move.thread) (value_after m steps) (thread_after steps move.thread) move.answer ≡ w
        → after_moved steps move.thread w ≡ Ok (x ∷ steps) → x.thread ≡ move.thread
    moved (Illegal cause) k e = absurd (cc)
    moved (Moves after effect) k e =
        let same : step_of move.thread steps after effect ≡ x = cc in sym (ap (λ (z : Step V). z.thread) same)

    go : (move.thread < threads) ⊎ (threads ≤ move.thread) → x.thread ≡ move.thread
    go (inl low) =
        let t : nat_lt move.thread threads ≡ true = grind (arith, nat_tests) in moved _ refl (rw t at e)
    go (inr high) =
        let t : nat_lt move.thread threads ≡ false = grind (arith, nat_tests) in
        let n : Err NoSuchThread ≡ Ok (x ∷ steps) = rw t at e in absurd (cc)

pub noted_append : (noted : List Noted) (n : Noted)
    → frames_noted (noted ++ n ∷ []) ≡ frames_noted noted ++ frame_noted n
noted_append [] n = append-nil (frame_noted n)
noted_append (x ∷ noted) n =
    ap (λ (l : List Message). frame_noted x ++ l) (noted_append noted n)
    ∙ sym (append_assoc (frame_noted x) (frames_noted noted) (frame_noted n))

-- the steps behind a past that moves made which are noted, and what they sent
pub record HaveMade {V : Type 0} (w : World V) (noted : List Noted) (there : World V) : Type 0 where
  pub steps : List (Step V)
  pub past : there.past ≡ steps ++ w.past
  pub frames : AreOwned steps → frames_noted noted ≡ frames_in steps

module _ {V : Type 0} (s : Setting V) (w : World V) where
  -- a move that came to nothing sent nothing
  no_move : (noted : List Noted) (n : Noted) (mid new : World V) → HaveMade w noted mid → new ≡ mid
      → frame_noted n ≡ [] → HaveMade w (noted ++ n ∷ []) new
  no_move noted n mid new made same none = record {
    steps = made.steps;
    past = ap (λ (z : World V). z.past) same ∙ made.past;
    frames = λ own.
        noted_append noted n
        ∙ ap (λ (l : List Message). frames_noted noted ++ l) none
        ∙ append-nil (frames_noted noted)
        ∙ made.frames own;
  }

  one_move : (noted : List Noted) (n : Noted) (mid new : World V) → HaveMade w noted mid
      → MakesMove s mid n.thread n.answer n.outcome new → HaveMade w (noted ++ n ∷ []) new
  one_move noted n mid new made move =
      let thread : move.step.thread ≡ n.thread =
      move_thread s.meaning (inputs_fed s mid.fed) s.threads mid.past move.step
      (record { thread = n.thread; answer = move.answer }) move.moves in
      record {
        steps = move.step ∷ made.steps;
        past = ap (λ (z : World V). z.past) move.new_is
            ∙ ap (λ (l : List (Step V)). move.step ∷ l) made.past;
        frames = λ own.
            noted_append noted n
            ∙ ap (λ (l : List Message). l ++ frame_noted n) (made.frames own.1)
            ∙ ap (λ (l : List Message). frames_in made.steps ++ l)
            (ap (λ (to : Outcome). frame_for n.thread to) move.to_is
            ∙ act_frame n.thread move.step own.0 thread move.step.act refl);
      }

  by_step : (noted : List Noted) (n : Noted) (mid new : World V) → HaveMade w noted mid
      → OnStep s mid n.thread n.answer n.outcome new → HaveMade w (noted ++ n ∷ []) new
  by_step noted n mid new made (inl (high, to, same)) =
      no_move noted n mid new made same (ap (λ (o : Outcome). frame_for n.thread o) to)
  by_step noted n mid new made (inr (inl (low, down, to, same))) =
      no_move noted n mid new made same (ap (λ (o : Outcome). frame_for n.thread o) to)
  by_step noted n mid new made (inr (inr (inl (low, up, wants, to, same)))) =
      no_move noted n mid new made same (ap (λ (o : Outcome). frame_for n.thread o) to)
  by_step noted n mid new made (inr (inr (inr (inl (low, up, waits, same))))) =
      no_move noted n mid new made same (ap (λ (o : Outcome). frame_for n.thread o) waits.to_is)
  by_step noted n mid new made (inr (inr (inr (inr (low, up, move))))) = one_move noted n mid new made move

  pub noted_steps : (noted : List Noted) (there : World V) → PerformsNoted s w noted there → HaveMade w noted there
  noted_steps [] there NoneNoted = record { steps = []; past = refl; frames = λ own. refl }
  noted_steps _ new (OneMore {noted} {mid} n before on) =
      by_step noted n mid new (noted_steps noted mid before) on.0.0

same_left : {A : Type 0} (xs ys zs : List A) → xs ++ zs ≡ ys ++ zs → xs ≡ ys
same_left xs ys zs same = append_cancel_right xs ys zs same

-- what is noted of the moves of a round is what its steps sent
pub frames_same : {V : Type 0} (s : Setting V) (w there : World V) (noted : List Noted) (steps : List (Step V))
    → PerformsNoted s w noted there → there.past ≡ steps ++ w.past → AreOwned steps
    → frames_noted noted ≡ frames_in steps
frames_same s w there noted steps performs past own =
    let made = noted_steps s w noted there performs in
    let same : made.steps ≡ steps = same_left made.steps steps w.past (sym made.past ∙ past) in
    made.frames (subst (λ (l : List (Step _)). AreOwned l) (sym same) own)
    ∙ ap (λ (l : List (Step _)). frames_in l) same
