-- Playing a list of moves on by one: the player stands for one move more, or the list is found illegal.
use Rattle.std.proofs.Common.{◌≡◌, ℕ, ◌+◌, ◌<◌, ◌≤◌, ◌⊎◌, inl, inr, List, [], ◌∷◌, ◌++◌, length, take, drop, get_or}
use Rattle.std.proofs.Common.{refl, sym, ap, ◌∙◌, subst, arith, Option, Some, None, Result, Ok, Err, append-nil}
use Rattle.std.specs.Prelude.{nat_lt, reverse, option_to_list, MatchResult, false}
use Rattle.std.proofs.lemmas.Bool.{cases_lt}
use Rattle.std.proofs.lemmas.Bool.Decides.{nat_tests}
use Rattle.std.proofs.lemmas.List.{take_more, take_all, take-append-drop, length-take-le, reverse-append}
use Rattle.plain_text.specs.declared.packet.Packet.{Packet}
use Rattle.input_logger.specs.Inputs.{Fed, inputs_of, input_at}
use Rattle.plain_machine.specs.declared.emission.Emission.{Emission}
use Rattle.plain_machine.specs.declared.plain_move.PlainMove.{PlainMove}
use Rattle.plain_machine.specs.declared.plain_move.PlayCause.{PlayCause}
use Rattle.plain_machine.specs.declared.plain_move.PlayCause.TheVariants.{NoSuchThread}
use Rattle.plain_machine.specs.declared.plain_move.PlayFault.{PlayFault}
use Rattle.plain_machine.specs.Program.{Meaning}
use Rattle.plain_machine.specs.History.{Step, sent_of, emissions, thread_after, plain_move, numbered, and_moves, play}
use Rattle.plain_machine.specs.History.{IsHistory}
use Rattle.plain_machine.proofs.PlayedLists.{play_append, play_history, stuck}
use Rattle.box_program.specs.Hands.{input_for, IsInputAfter}
use Rattle.plain_player.specs.declared.hand.MoveError.{MoveError}
use Rattle.plain_player.specs.declared.hand.MoveError.TheVariants as error
use Rattle.plain_player.specs.declared.whole.PlayError.TheVariants as played
use Rattle.plain_player.specs.Played.{IsPlayed, play_error}
use Rattle.plain_player.specs.Playing.{Playing, Stands, Follows, next_input}
use Rattle.plain_player.proofs.NextInputs.{next_is, never_moved, none_next}

module _ {V : Type 0} (m : Meaning V) (fed : Fed) (moves : List PlainMove) where
  -- the player stands for the history of the first moves, and these packets were sent out
  pub record SoFar (i : ℕ) (p : Playing V) (sent : List Emission) : Type 0 where
    pub steps : List (Step V)
    pub plays : play m (inputs_of fed) fed.threads (take i moves) ≡ Ok steps
    pub stands : Stands m fed.threads steps p
    pub sends : sent ≡ emissions steps

  pub so_far_none : (p : Playing V) → Stands m fed.threads [] p → SoFar 0 p []
  so_far_none p stands = record { steps = []; plays = refl; stands = stands; sends = refl }

  pub history_of : (i : ℕ) (p : Playing V) (sent : List Emission) (so : SoFar i p sent)
      → IsHistory m (inputs_of fed) fed.threads so.steps
  history_of i p sent so = (play_history m (inputs_of fed) fed.threads (take i moves) so.steps so.plays).0

  -- One move

  module _ (i : ℕ) (less : i < length moves) (move d : PlainMove) (is : move ≡ get_or moves i d) (p q : Playing V)
      (sent : List Emission) (so : SoFar i p sent) (r : Result (Option Emission) MoveError)
      (follows : (inputs : ℕ → List Packet) (threads : ℕ) (steps : List (Step V)) → Stands m threads steps p
      → IsInputAfter inputs move.thread steps (input_at fed move.thread (next_input p move.thread))
      → Follows m inputs threads steps move r q) where
    -- a move of a thread that is not there is none, whatever the inputs
    out_alike : (inputs : ℕ → List Packet) → fed.threads ≤ move.thread
        → plain_move m inputs fed.threads so.steps move ≡ Err NoSuchThread
    out_alike inputs out = let none : nat_lt move.thread fed.threads ≡ false = grind (arith, nat_tests) in rw none refl

    same_follows : (inputs others : ℕ → List Packet) (r : Result (Option Emission) MoveError)
        → plain_move m inputs fed.threads so.steps move ≡ plain_move m others fed.threads so.steps move
        → Follows m inputs fed.threads so.steps move r q → Follows m others fed.threads so.steps move r q
    same_follows inputs others (Ok out) e h =
        subst (λ (w : Result (List (Step V)) PlayCause). MatchResult w
        (λ next. Stands m fed.threads next q × (sent_of next ≡ option_to_list out ++ sent_of so.steps)) (λ _. ⊥)) e h
    same_follows inputs others (Err (error.Illegal cause)) e h = sym e ∙ h
    same_follows inputs others (Err error.NoMemory) e h = tt

    followed : Follows m (inputs_of fed) fed.threads so.steps move r q
    followed = by (cases_lt move.thread fed.threads)
      where
        none : ℕ → List Packet
        none t = []

        by : (move.thread < fed.threads) ⊎ (fed.threads ≤ move.thread)
            → Follows m (inputs_of fed) fed.threads so.steps move r q
        by (inl low) = follows (inputs_of fed) fed.threads so.steps so.stands
            (next_is m fed fed.threads so.steps p move.thread (history_of i p sent so) so.stands low)
        by (inr out) =
            let start : input_for [] (thread_after so.steps move.thread).taken (thread_after so.steps move.thread).hand
            ≡ None =
            ap (λ th. input_for [] th.taken th.hand)
            (never_moved m (inputs_of fed) fed.threads so.steps move.thread (history_of i p sent so) out) in
            let there : IsInputAfter none move.thread so.steps (input_at fed move.thread (next_input p move.thread)) =
            none_next m fed fed.threads so.steps p move.thread so.stands out ∙ sym start in
            same_follows none (inputs_of fed) r (out_alike none out ∙ sym (out_alike (inputs_of fed) out))
            (follows none fed.threads so.steps so.stands there)

    -- the first moves, and this one
    one_more : play m (inputs_of fed) fed.threads (take (i + 1) moves)
        ≡ numbered (length so.steps) (plain_move m (inputs_of fed) fed.threads so.steps move)
    one_more =
        ap (play m (inputs_of fed) fed.threads)
        (take_more moves i d less ∙ ap (λ (x : PlainMove). take i moves ++ x ∷ []) (sym is))
        ∙ (play_append m (inputs_of fed) fed.threads (Ok []) (take i moves) (move ∷ [])
        ∙ ap (λ (o : Result (List (Step V)) PlayFault). and_moves m (inputs_of fed) fed.threads o (move ∷ [])) so.plays)

    pub made_more : (out : Option Emission) → r ≡ Ok out → SoFar (i + 1) q (sent ++ option_to_list out)
    made_more out e = by (plain_move m (inputs_of fed) fed.threads so.steps move) refl
        (subst (λ (x : Result (Option Emission) MoveError). Follows m (inputs_of fed) fed.threads so.steps move x q)
        e followed)
      where
        Goes : Result (List (Step V)) PlayCause → Type 0
        Goes w = MatchResult w
            (λ next. Stands m fed.threads next q × (sent_of next ≡ option_to_list out ++ sent_of so.steps)) (λ _. ⊥)

        turned : (o : Option Emission) (l : List Emission)
            → reverse (option_to_list o ++ l) ≡ reverse l ++ option_to_list o
        turned None l = sym (append-nil (reverse l))
        turned (Some x) l = reverse-append (x ∷ []) l

        by : (w : Result (List (Step V)) PlayCause) → plain_move m (inputs_of fed) fed.threads so.steps move ≡ w
            → MatchResult w
            (λ next. Stands m fed.threads next q × (sent_of next ≡ option_to_list out ++ sent_of so.steps)) (λ _. ⊥)
            → SoFar (i + 1) q (sent ++ option_to_list out)
        by (Err cause) k h = absurd h
        by (Ok next) k h = record {
          steps = next;
          plays = one_more ∙ ap (numbered (length so.steps)) k;
          stands = h.0;
          sends =
              ap (λ (l : List Emission). l ++ option_to_list out) so.sends
              ∙ (sym (turned out (sent_of so.steps)) ∙ ap reverse (sym h.1));
        }

    -- a move that is illegal is the first of the list
    pub found_illegal : (cause : PlayCause) → r ≡ Err (error.Illegal cause)
        → play m (inputs_of fed) fed.threads moves ≡ Err (record { number = i + 1; cause = cause })
    found_illegal cause e =
        let bad : plain_move m (inputs_of fed) fed.threads so.steps move ≡ Err cause =
        subst (λ (x : Result (Option Emission) MoveError). Follows m (inputs_of fed) fed.threads so.steps move x q) e
        followed in
        let made : length so.steps ≡ i =
        (play_history m (inputs_of fed) fed.threads (take i moves) so.steps so.plays).1
        ∙ length-take-le i moves (omega arith) in
        let first : play m (inputs_of fed) fed.threads (take (i + 1) moves)
        ≡ Err (record { number = i + 1; cause = cause }) =
        one_more
        ∙ (ap (numbered (length so.steps)) bad ∙ ap (λ (n : ℕ). Err (record { number = n + 1; cause = cause })) made) in
        ap (play m (inputs_of fed) fed.threads) (sym (take-append-drop (i + 1) moves))
        ∙ (play_append m (inputs_of fed) fed.threads (Ok []) (take (i + 1) moves) (drop (i + 1) moves)
        ∙ (ap
        (λ (o : Result (List (Step V)) PlayFault). and_moves m (inputs_of fed) fed.threads o (drop (i + 1) moves)) first
        ∙ stuck m (inputs_of fed) fed.threads (drop (i + 1) moves) (record { number = i + 1; cause = cause })))

    -- no memory is left, whatever the list comes to
    any_outcome : (o : Result (List (Step V)) PlayFault) → IsPlayed o (Err played.NoMemory)
    any_outcome (Ok steps) = tt
    any_outcome (Err fault) = tt

    pub not_made : (e : MoveError) → r ≡ Err e
        → IsPlayed (play m (inputs_of fed) fed.threads moves) (Err (play_error (i + 1) e))
    not_made (error.Illegal cause) is_error = rw (found_illegal cause is_error) refl
    not_made error.NoMemory is_error = any_outcome (play m (inputs_of fed) fed.threads moves)

  -- All moves

  pub played_all : (i : ℕ) (p : Playing V) (sent : List Emission) → length moves ≤ i → SoFar i p sent
      → IsPlayed (play m (inputs_of fed) fed.threads moves) (Ok (record { emissions = sent }))
  played_all i p sent all so =
      let plays : play m (inputs_of fed) fed.threads moves ≡ Ok so.steps =
      ap (play m (inputs_of fed) fed.threads) (sym (take_all i moves all)) ∙ so.plays in
      rw plays so.sends
