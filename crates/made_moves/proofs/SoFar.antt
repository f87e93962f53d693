-- The moves so far were played, and what they did is noted.
use Rattle.std.proofs.Common.{◌≡◌, ℕ, ◌+◌, ◌<◌, ◌≤◌, List, [], ◌∷◌, ◌++◌, length, take, get_or, refl, sym, ap, ◌∙◌}
use Rattle.std.proofs.Common.{Option, Some, None, Result, Ok, Err, arith}
use Rattle.std.specs.Prelude.{IfOk, OnOk, nat_lt, slice_get, slice_index_or, if◌then◌else◌, Bool, true, false}
use Rattle.std.specs.Option.{option_map_or}
use Rattle.std.proofs.lemmas.Bool.Decides.{nat_tests}
use Rattle.std.proofs.lemmas.Option.{slice_get-get_or}
use Rattle.std.proofs.lemmas.List.{take_all, take_more}
use Rattle.plain_text.specs.declared.memory.NoMemory.{NoMemory}
use Rattle.plain_text.specs.declared.packet.Packet.{Packet}
use Rattle.input_logger.specs.Inputs.{Fed, inputs_of, input_at}
use Rattle.plain_machine.specs.declared.emission.Emission.{Emission}
use Rattle.plain_machine.specs.declared.local.Local.{Local}
use Rattle.plain_machine.specs.declared.plain_move.PlainMove.{PlainMove}
use Rattle.plain_machine.specs.declared.plain_move.PlayCause.{PlayCause}
use Rattle.plain_machine.specs.declared.plain_move.PlayCause.TheVariants.{NoSuchThread}
use Rattle.plain_machine.specs.declared.plain_move.PlayFault.{PlayFault}
use Rattle.plain_machine.specs.Program.{Meaning}
use Rattle.plain_machine.specs.History.{Step, and_moves, emissions, numbered, plain_move, play, thread_after}
use Rattle.plain_machine.proofs.PlayedLists.{play_append}
use Rattle.box_program.specs.Hands.{IsInputAfter, hand_of, local_in}
use Rattle.plain_player.specs.declared.hand.MoveError.{MoveError}
use Rattle.plain_player.specs.declared.hand.MoveError.TheVariants as error
use Rattle.plain_player.specs.declared.seat.Seat.{Seat}
use Rattle.plain_player.specs.Playing.{Follows, Playing, Stands, input_of_seat, next_input, place_in_hand}
use Rattle.plain_player.proofs.PlayedOn.{SoFar, found_illegal, made_more}
use Rattle.made_moves.specs.declared.made.Did.{Did}
use Rattle.made_moves.specs.declared.made.Made.{Made}
use Rattle.made_moves.specs.Made.{IsIllegal, made_in, made_where, next_did}
use Rattle.made_moves.proofs.Grown.{Counts, grown, none_counted}

-- a seat for a thread that is not there
none_seat : Seat
none_seat = record { taken = 0; outputs = 0; hand = None }

module _ {V : Type 0} (m : Meaning V) (fed : Fed) (moves : List PlainMove) where
  -- the player stands for the history of the first moves, which did this
  pub record IsNoted (i : ℕ) (p : Playing V) (made : List Made) : Type 0 where
    pub steps : List (Step V)
    pub plays : play m (inputs_of fed) fed.threads (take i moves) ≡ Ok steps
    pub stands : Stands m fed.threads steps p
    pub made_is : made ≡ made_in steps
    pub counts : Counts steps (made_in steps)

  pub noted_none : (p : Playing V) (made : List Made) → made ≡ [] → Stands m fed.threads [] p → IsNoted 0 p made
  noted_none p made none stands = record {
    steps = [];
    plays = refl;
    stands = stands;
    made_is = none;
    counts = none_counted;
  }

  abbrev pub played_so : (i : ℕ) (p : Playing V) (made : List Made) (h : IsNoted i p made)
      → SoFar m fed moves i p (emissions h.steps)
  played_so i p made h = record { steps = h.steps; plays = h.plays; stands = h.stands; sends = refl }

  -- all of them
  pub noted_all : (i : ℕ) (p : Playing V) (made : List Made) → length moves ≤ i → IsNoted i p made
      → made ≡ made_where (play m (inputs_of fed) fed.threads moves)
  noted_all i p made all h =
      h.made_is
      ∙ ap made_where (sym (ap (play m (inputs_of fed) fed.threads) (sym (take_all i moves all)) ∙ h.plays))

  -- one move more
  module _ (i : ℕ) (less : i < length moves) (move d : PlainMove) (is : move ≡ get_or moves i d) (p q : Playing V)
      (made : List Made) (h : IsNoted i p made) (r : Result (Option Emission) MoveError)
      (follows : (inputs : ℕ → List Packet) (threads : ℕ) (steps : List (Step V)) → Stands m threads steps p
      → IsInputAfter inputs move.thread steps (input_at fed move.thread (next_input p move.thread))
      → Follows m inputs threads steps move r q) where
    one_more : play m (inputs_of fed) fed.threads (take (i + 1) moves)
        ≡ numbered (length h.steps) (plain_move m (inputs_of fed) fed.threads h.steps move)
    one_more =
        ap (play m (inputs_of fed) fed.threads)
        (take_more moves i d less ∙ ap (λ (x : PlainMove). take i moves ++ x ∷ []) (sym is))
        ∙ (play_append m (inputs_of fed) fed.threads (Ok []) (take i moves) (move ∷ [])
        ∙ ap (λ (o : Result (List (Step V)) PlayFault). and_moves m (inputs_of fed) fed.threads o (move ∷ [])) h.plays)

    went : (w : Result (List (Step V)) PlayCause) (n : ℕ) (next : List (Step V)) → numbered n w ≡ Ok next
        → w ≡ Ok next
    went (Ok steps) n next e = let same : steps ≡ next = cc in ap Ok same
    went (Err cause) n next e = absurd (cc)

    -- the thread is there
    there : (b : Bool) (other : Result (List (Step V)) PlayCause) (next : List (Step V))
        → (if b then other else Err NoSuchThread) ≡ Ok next → b ≡ true
    there true other next e = refl
    there false other next e = absurd (cc)

    -- where the player has the thread, it is after the history
    seat_is : move.thread < fed.threads
        → (next_input p move.thread
        ≡ input_of_seat (thread_after h.steps move.thread).taken (local_in (thread_after h.steps move.thread).hand))
        × (place_in_hand p move.thread ≡ local_in (thread_after h.steps move.thread).hand)
    seat_is low =
        let seat : Seat = slice_index_or p.seats move.thread none_seat in
        let found : slice_get p.seats move.thread ≡ Some seat =
        slice_get-get_or p.seats move.thread none_seat (omega (arith, h.stands.threads_are)) in
        let at = h.stands.seat move.thread none_seat low in (
          ap (λ (o : Option Seat). option_map_or (λ (s : Seat). input_of_seat s.taken s.hand) o 0) found
              ∙ (ap (λ (n : ℕ). input_of_seat n seat.hand) at.taken
              ∙ ap (λ (o : Option Local). input_of_seat (thread_after h.steps move.thread).taken o) at.hand),
          ap (hand_of (λ (s : Seat). s.hand)) found ∙ at.hand,
        )

    pub noted_more : (out : Option Emission) (x : Did) (new : List Made) → r ≡ Ok out
        → x ≡ next_did m made move.thread (next_input p move.thread) move.answer (place_in_hand p move.thread)
        → new ≡ made ++ (record { thread = move.thread; did = x }) ∷ [] → IsNoted (i + 1) q new
    noted_more out x new e does grows =
        let so =
        made_more m fed moves i less move d is p q (emissions h.steps) (played_so i p made h) r follows out e in
        let moved = went (plain_move m (inputs_of fed) fed.threads h.steps move) (length h.steps) so.steps
        (sym one_more ∙ so.plays) in
        let test = there (nat_lt move.thread fed.threads) _ so.steps moved in
        let low : move.thread < fed.threads = grind (arith, nat_tests) in
        let seat = seat_is low in
        let g = grown m (inputs_of fed) fed.threads h.steps so.steps move h.counts moved in
        let same : x ≡ next_did m (made_in h.steps) move.thread
        (input_of_seat (thread_after h.steps move.thread).taken (local_in (thread_after h.steps move.thread).hand))
        move.answer (local_in (thread_after h.steps move.thread).hand) =
        does
        ∙ (ap (λ (l : List Made). next_did m l move.thread (next_input p move.thread) move.answer
        (place_in_hand p move.thread)) h.made_is
        ∙ (ap (λ (n : ℕ). next_did m (made_in h.steps) move.thread n move.answer (place_in_hand p move.thread)) seat.0
        ∙ ap (λ (o : Option Local). next_did m (made_in h.steps) move.thread
        (input_of_seat (thread_after h.steps move.thread).taken (local_in (thread_after h.steps move.thread).hand))
        move.answer o) seat.1)) in
        record {
          steps = so.steps;
          plays = so.plays;
          stands = so.stands;
          made_is =
              grows
              ∙ (ap (λ (l : List Made). l ++ (record { thread = move.thread; did = x }) ∷ []) h.made_is
              ∙ (ap (λ (y : Did). made_in h.steps ++ (record { thread = move.thread; did = y }) ∷ []) same
              ∙ sym g.made));
          counts = g.counts;
        }

    -- a move that is illegal
    pub none_noted : (cause : PlayCause) → r ≡ Err (error.Illegal cause)
        → [] ≡ made_where (play m (inputs_of fed) fed.threads moves)
    none_noted cause e =
        ap made_where (sym (found_illegal m fed moves i less move d is p q (emissions h.steps) (played_so i p made h) r
        follows cause e))

    -- no moves, where one is illegal
    pub none_there : (e : MoveError) → r ≡ Err e → (result : Result (List Made) NoMemory)
        → IfOk result (λ made. made ≡ []) → OnOk result (IsIllegal e)
        → IfOk result (λ made. made ≡ made_where (play m (inputs_of fed) fed.threads moves))
    none_there e bad (Ok none) is illegal = is ∙ none_noted illegal.0 (bad ∙ ap Err illegal.1)
    none_there e bad (Err no_memory) is illegal = tt
