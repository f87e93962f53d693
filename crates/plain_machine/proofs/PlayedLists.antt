-- Playing a list of moves: a legal list gives a history, and each history is that of a legal list.
use Rattle.std.proofs.Common.{◌≡◌, ℕ, ◌+◌, ◌≤◌, ◌<◌, List, [], ◌∷◌, ◌++◌, append_assoc, append-nil, length, refl, sym}
use Rattle.std.proofs.Common.{ap, ◌∙◌, subst, inl, inr, ◌⊎◌, arith, Result, Ok, Err, true, false}
use Rattle.std.specs.Prelude.{nat_lt}
use Rattle.std.proofs.lemmas.Bool.{cases_lt}
use Rattle.std.proofs.lemmas.Bool.Decides.{nat_tests}
use Rattle.plain_text.specs.declared.packet.Packet.{Packet}
use Rattle.plain_machine.specs.declared.plain_move.PlainMove.{PlainMove}
use Rattle.plain_machine.specs.declared.plain_move.PlayCause.{PlayCause}
use Rattle.plain_machine.specs.declared.plain_move.PlayCause.TheVariants.{NoSuchThread}
use Rattle.plain_machine.specs.declared.plain_move.PlayFault.{PlayFault}
use Rattle.plain_machine.specs.Program.{Meaning}
use Rattle.plain_machine.specs.Machine.{Moved, Moves, Illegal, thread_move}
use Rattle.plain_machine.specs.History.{Act, Step, step_of, thread_after, value_after, after_moved, plain_move}
use Rattle.plain_machine.specs.History.{numbered, and_move, and_moves, play, IsStep, IsHistory}
use Rattle.plain_machine.specs.Agree.{IsEarlier}
use Rattle.plain_machine.proofs.Histories.{earlier_refl, earlier_trans}

module _ {X : Type 0} (m : Meaning X) (inputs : ℕ → List Packet) (threads : ℕ) where
  -- a move that is made is a legal step
  pub move_is_step : (steps next : List (Step X)) (move : PlainMove) → plain_move m inputs threads steps move ≡ Ok next
      → (x : Step X) × IsStep m inputs threads steps x × (next ≡ x ∷ steps)
  move_is_step steps next move e = go (cases_lt move.thread threads)
    where
      moved : move.thread < threads → (w : Moved X)
          → thread_move m (inputs move.thread) (value_after m steps) (thread_after steps move.thread) move.answer ≡ w
          → after_moved steps move.thread w ≡ Ok next
          → (x : Step X) × IsStep m inputs threads steps x × (next ≡ x ∷ steps)
      moved low (Illegal cause) k e = absurd (cc)
      moved low (Moves after effect) k e = (
        step_of move.thread steps after effect,
        (low, move.answer, effect, k, refl),
        (let same : step_of move.thread steps after effect ∷ steps ≡ next = cc in sym same),
      )

      go : (move.thread < threads) ⊎ (threads ≤ move.thread)
          → (x : Step X) × IsStep m inputs threads steps x × (next ≡ x ∷ steps)
      go (inl low) =
          let t : nat_lt move.thread threads ≡ true = grind (arith, nat_tests) in moved low _ refl (rw t at e)
      go (inr high) =
          let t : nat_lt move.thread threads ≡ false = grind (arith, nat_tests) in
          let n : Err NoSuchThread ≡ Ok next = rw t at e in absurd (cc)

  -- a legal step is a move that is made
  pub step_is_move : (steps : List (Step X)) (x : Step X) → (h : IsStep m inputs threads steps x)
      → plain_move m inputs threads steps (record { thread = x.thread; answer = h.1 }) ≡ Ok (x ∷ steps)
  step_is_move steps x h =
      let low : x.thread < threads = h.0 in
      let t : nat_lt x.thread threads ≡ true = grind (arith, nat_tests) in
      rw t (rw h.3 (ap (λ (a : Act X). Ok (record { thread = x.thread; act = a; after = x.after } ∷ steps)) (sym h.4)))

  -- after a fault nothing is played
  pub stuck : (moves : List PlainMove) (fault : PlayFault) → and_moves m inputs threads (Err fault) moves ≡ Err fault
  stuck [] fault = refl
  stuck (move ∷ moves) fault = stuck moves fault

  -- nothing that goes on after a fault is played
  no_play : (moves : List PlainMove) (fault : PlayFault) (next : List (Step X))
      → and_moves m inputs threads (Err fault) moves ≡ Ok next → ⊥
  no_play [] fault next e = cc
  no_play (move ∷ moves) fault next e = no_play moves fault next e

  -- playing two lists, one after the other
  pub play_append : (so_far : Result (List (Step X)) PlayFault) (moves more : List PlainMove)
      → and_moves m inputs threads so_far (moves ++ more)
      ≡ and_moves m inputs threads (and_moves m inputs threads so_far moves) more
  play_append so_far [] more = refl
  play_append so_far (move ∷ moves) more = play_append (and_move m inputs threads so_far move) moves more

  -- what is played on from a history is one, with a step for each move
  abbrev pub PlaysOn : List (Step X) → List PlainMove → List (Step X) → Type 0
  PlaysOn steps moves next =
      IsHistory m inputs threads next × IsEarlier steps next × (length next ≡ length steps + length moves)

  moves_history : (moves : List PlainMove) (steps next : List (Step X)) → IsHistory m inputs threads steps
      → and_moves m inputs threads (Ok steps) moves ≡ Ok next → PlaysOn steps moves next
  moves_history [] steps next h e =
      let same : steps ≡ next = cc in (
        subst (λ (s : List (Step X)). IsHistory m inputs threads s) same h,
        subst (λ (s : List (Step X)). IsEarlier steps s) same (earlier_refl steps),
        (let k : length steps ≡ length next = ap (λ (s : List (Step X)). length s) same in omega arith),
      )
  moves_history (move ∷ moves) steps next h e =
      go (plain_move m inputs threads steps move) refl e (λ one. moves_history moves one next)
    where
      go : (o : Result (List (Step X)) PlayCause) → plain_move m inputs threads steps move ≡ o
          → and_moves m inputs threads (numbered (length steps) o) moves ≡ Ok next
          → ((one : List (Step X)) → IsHistory m inputs threads one
          → and_moves m inputs threads (Ok one) moves ≡ Ok next → PlaysOn one moves next)
          → PlaysOn steps (move ∷ moves) next
      go (Err cause) k e later = absurd (no_play moves (record { number = length steps + 1; cause = cause }) next e)
      go (Ok one) k e later = more (move_is_step steps one move k)
        where
          more : (x : Step X) × IsStep m inputs threads steps x × (one ≡ x ∷ steps) → PlaysOn steps (move ∷ moves) next
          more (x, legal, same) =
              let r : PlaysOn (x ∷ steps) moves next = later (x ∷ steps) (legal, h)
              (subst (λ (s : List (Step X)). and_moves m inputs threads (Ok s) moves ≡ Ok next) same e) in
              (r.0, earlier_trans steps (x ∷ steps) next (inr (earlier_refl steps)) r.1, omega (arith, r.2))

  -- A legal list of moves gives a history, with a step for each move.
  pub play_history : (moves : List PlainMove) (steps : List (Step X)) → play m inputs threads moves ≡ Ok steps
      → IsHistory m inputs threads steps × (length steps ≡ length moves)
  play_history moves steps e = let r = moves_history moves [] steps tt e in (r.0, omega (arith, r.2))

  -- The first moves of a legal list are a legal list.
  pub play_prefix : (moves more : List PlainMove) (steps : List (Step X))
      → play m inputs threads (moves ++ more) ≡ Ok steps
      → (earlier : List (Step X)) × (play m inputs threads moves ≡ Ok earlier) × IsEarlier earlier steps
  play_prefix moves more steps e = go (play m inputs threads moves) refl
    where
      go : (o : Result (List (Step X)) PlayFault) → play m inputs threads moves ≡ o
          → (earlier : List (Step X)) × (play m inputs threads moves ≡ Ok earlier) × IsEarlier earlier steps
      go (Err fault) k =
          let both : and_moves m inputs threads (Err fault) more ≡ Ok steps =
          subst (λ (r : Result (List (Step X)) PlayFault). and_moves m inputs threads r more ≡ Ok steps) k
          (sym (play_append (Ok []) moves more) ∙ e) in
          absurd (no_play more fault steps both)
      go (Ok earlier) k =
          let both : and_moves m inputs threads (Ok earlier) more ≡ Ok steps =
          subst (λ (r : Result (List (Step X)) PlayFault). and_moves m inputs threads r more ≡ Ok steps) k
          (sym (play_append (Ok []) moves more) ∙ e) in
          (earlier, k, (moves_history more earlier steps (play_history moves earlier k).0 both).1)

  -- A history that goes on after a legal list is that of a longer list.
  pub played_on : (past : List PlainMove) (before : List (Step X)) → play m inputs threads past ≡ Ok before
      → (steps : List (Step X)) → IsHistory m inputs threads steps → IsEarlier before steps
      → (rest : List PlainMove) × (play m inputs threads (past ++ rest) ≡ Ok steps)
  played_on past before e [] h earlier = (
    [],
    ap (λ (l : List PlainMove). play m inputs threads l) (append-nil past)
        ∙ (e ∙ ap (λ (s : List (Step X)). Ok s) earlier),
  )
  played_on past before e (x ∷ steps) h (inl same) = (
    [],
    ap (λ (l : List PlainMove). play m inputs threads l) (append-nil past)
        ∙ (e ∙ ap (λ (s : List (Step X)). Ok s) same),
  )
  played_on past before e (x ∷ steps) h (inr earlier) = go (played_on past before e steps h.1 earlier)
    where
      move : PlainMove
      move = record { thread = x.thread; answer = h.0.1 }

      one : and_move m inputs threads (Ok steps) move ≡ Ok (x ∷ steps)
      one = rw (step_is_move steps x h.0) refl

      go : (rest : List PlainMove) × (play m inputs threads (past ++ rest) ≡ Ok steps)
          → (rest : List PlainMove) × (play m inputs threads (past ++ rest) ≡ Ok (x ∷ steps))
      go (rest, k) = (
        rest ++ move ∷ [],
        ap (λ (l : List PlainMove). play m inputs threads l) (sym (append_assoc past rest (move ∷ [])))
            ∙ (play_append (Ok []) (past ++ rest) (move ∷ [])
            ∙ (ap (λ (r : Result (List (Step X)) PlayFault). and_move m inputs threads r move) k ∙ one)),
      )

  -- the empty history is earlier than each
  earlier_start : (steps : List (Step X)) → IsEarlier [] steps
  earlier_start [] = refl
  earlier_start (x ∷ steps) = inr (earlier_start steps)

  -- Each history is that of a legal list.
  pub history_played : (steps : List (Step X)) → IsHistory m inputs threads steps
      → (moves : List PlainMove) × (play m inputs threads moves ≡ Ok steps)
  history_played steps h = played_on [] [] refl steps h (earlier_start steps)

  -- A fault names the first move that is illegal.
  pub fault_is_first : (moves : List PlainMove) (steps : List (Step X)) (fault : PlayFault)
      → and_moves m inputs threads (Ok steps) moves ≡ Err fault
      → (before : List PlainMove) × (move : PlainMove) × (rest : List PlainMove) × (next : List (Step X))
      × (moves ≡ before ++ (move ∷ rest)) × (and_moves m inputs threads (Ok steps) before ≡ Ok next)
      × (plain_move m inputs threads next move ≡ Err fault.cause) × (fault.number ≡ length next + 1)
  fault_is_first [] steps fault e = absurd (cc)
  fault_is_first (move ∷ moves) steps fault e =
      go (plain_move m inputs threads steps move) refl e (λ one. fault_is_first moves one fault)
    where
      go : (o : Result (List (Step X)) PlayCause) → plain_move m inputs threads steps move ≡ o
          → and_moves m inputs threads (numbered (length steps) o) moves ≡ Err fault
          → ((one : List (Step X)) → and_moves m inputs threads (Ok one) moves ≡ Err fault
          → (before : List PlainMove) × (first : PlainMove) × (rest : List PlainMove) × (next : List (Step X))
          × (moves ≡ before ++ (first ∷ rest)) × (and_moves m inputs threads (Ok one) before ≡ Ok next)
          × (plain_move m inputs threads next first ≡ Err fault.cause) × (fault.number ≡ length next + 1))
          → (before : List PlainMove) × (first : PlainMove) × (rest : List PlainMove) × (next : List (Step X))
          × (move ∷ moves ≡ before ++ (first ∷ rest)) × (and_moves m inputs threads (Ok steps) before ≡ Ok next)
          × (plain_move m inputs threads next first ≡ Err fault.cause) × (fault.number ≡ length next + 1)
      go (Err cause) k e later =
          let n : Err (record { number = length steps + 1; cause = cause }) ≡ Err fault = sym (stuck moves _) ∙ e in
          let same : record { number = length steps + 1; cause = cause } ≡ fault = cc in (
            [],
            move,
            moves,
            steps,
            refl,
            refl,
            k ∙ ap (λ (f : PlayFault). Err f.cause) same,
            sym (ap (λ (f : PlayFault). f.number) same),
          )
      go (Ok one) k e later =
          let r = later one e in
          let one_move : and_move m inputs threads (Ok steps) move ≡ Ok one = rw k refl in (
            move ∷ r.0,
            r.1,
            r.2,
            r.3,
            ap (λ (l : List PlainMove). move ∷ l) r.4,
            subst (λ (s : Result (List (Step X)) PlayFault). and_moves m inputs threads s r.0 ≡ Ok r.3)
                (sym one_move) r.5,
            r.6,
            r.7,
          )
