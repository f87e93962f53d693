-- How far a list of moves can be made, and what an image is judged to be by it.
use Rattle.std.proofs.Common.{◌≡◌, ℕ, zero, suc, ◌+◌, ◌-◌, ◌*◌, ◌≤◌, ◌<◌, ◌⊎◌, List, [], ◌∷◌, ◌++◌, length, refl, sym}
use Rattle.std.proofs.Common.{ap}
use Rattle.std.proofs.Common.{◌∙◌, subst, inl, inr, arith, Option, Some, None, Bool, true, false, drop, take, get_or}
use Rattle.std.proofs.Common.{Result, Ok, Err, append_assoc, append-nil}
use Rattle.std.specs.Prelude.{◌^◌, ◌/◌, ◌%◌, ◌&&◌, min, nat_eq, nat_lt, option_to_list, reverse}
use Rattle.std.proofs.lemmas.Bool.{cases_lt}
use Rattle.std.proofs.lemmas.Bool.Decides.{nat_tests}
use Rattle.std.proofs.lemmas.Grind.{reverse_onto}
use Rattle.std.proofs.lemmas.List.{drop_all, drop_more, take-append-drop}
use Rattle.plain_text.specs.declared.packet.Packet.{Packet}
use Rattle.plain_text.specs.declared.limit.TheConstants.{MOST_MOVES, MOST_OUTPUT_BYTES}
use Rattle.input_logger.specs.Inputs.{Fed, inputs_of, input_at}
use Rattle.plain_machine.specs.declared.emission.Emission.{Emission}
use Rattle.plain_machine.specs.declared.plain_move.PlainMove.{PlainMove}
use Rattle.plain_machine.specs.declared.plain_move.PlayCause.{PlayCause}
use Rattle.plain_machine.specs.declared.plain_move.PlayCause.TheVariants.{NoSuchThread}
use Rattle.plain_machine.specs.declared.plain_move.PlayFault.{PlayFault}
use Rattle.plain_machine.specs.Program.{Meaning}
use Rattle.plain_machine.specs.History.{Act, Took, Did, Emitted, Ended, Step, and_moves, emissions, numbered}
use Rattle.plain_machine.specs.History.{plain_move}
use Rattle.plain_machine.specs.History.{play, sent_more, sent_of}
use Rattle.plain_machine.proofs.PlayedLists.{stuck}
use Rattle.box_program.specs.Hands.{IsInputAfter}
use Rattle.plain_player.specs.declared.hand.MoveError.{MoveError}
use Rattle.plain_player.specs.declared.hand.MoveError.TheVariants as error
use Rattle.plain_player.specs.Playing.{Follows, Playing, Stands, next_input}
use Rattle.plain_player.proofs.NextInputs.{next_is}
use Rattle.plain_player.proofs.PlayedOn.{SoFar, so_far_none, history_of, made_more, found_illegal}
use Rattle.recovery_world.specs.World.{Setting, World, inputs_fed}
use Rattle.system_parts.specs.Parts.{Parts}
use Rattle.system_parts.specs.SystemStanding.{StandsFor}
use Rattle.recovery_world.specs.Events.{bytes_sent}
use Rattle.handover.specs.declared.image.Ended.{Ended as EndedRow}
use Rattle.handover.specs.declared.image.Image.{Image}
use Rattle.handover_world.specs.declared.fault.ResumeError.TheVariants.{Count, Move}
use Rattle.handover_world.specs.Faults.{IsFault, MayBe, PlaysTo, bytes_of, wrong_row, wrong_row_of}
use Rattle.system_images.specs.declared.judging.Far.{Far}
use Rattle.system_images.specs.Judging.{CountsMayBe, IsFar, IsFarAt, PlaysWhole, StopsBy, sizes_of}

-- how many bytes these packets have
abbrev pub bytes_in : List Emission → ℕ
bytes_in [] = 0
bytes_in (o ∷ sent) = length o.packet.bytes + bytes_in sent

bytes_both : (xs ys : List Emission) → bytes_in (xs ++ ys) ≡ bytes_in xs + bytes_in ys
bytes_both [] ys = omega arith
bytes_both (x ∷ xs) ys = let k = bytes_both xs ys in omega (arith, k)

bytes_reversed : (xs : List Emission) → bytes_in (reverse xs) ≡ bytes_in xs
bytes_reversed [] = refl
bytes_reversed (x ∷ xs) =
    let a : bytes_in (reverse (x ∷ xs)) ≡ bytes_in (reverse xs ++ x ∷ []) =
    ap (λ (l : List Emission). bytes_in l) (reverse_onto xs x []) in
    let b = bytes_both (reverse xs) (x ∷ []) in
    let c = bytes_reversed xs in
    omega (arith, a, b, c)

bytes_sum : {V : Type 0} (steps : List (Step V)) → bytes_of steps ≡ bytes_in (sent_of steps)
bytes_sum [] = refl
bytes_sum {V} (x ∷ steps) = go x.act (bytes_sum steps)
  where
    go : (a : Act V) → bytes_of steps ≡ bytes_in (sent_of steps)
        → bytes_of steps + bytes_sent a ≡ bytes_in (sent_more a (sent_of steps))
    go (Took k) e = omega (arith, e)
    go (Did x left) e = omega (arith, e)
    go (Emitted o) e = omega (arith, e)
    go (Ended k) e = omega (arith, e)

bytes_emitted : {V : Type 0} (steps : List (Step V)) → bytes_of steps ≡ bytes_in (emissions steps)
bytes_emitted steps = bytes_sum steps ∙ sym (bytes_reversed (sent_of steps))

bytes_of_one : (o : Option Emission) → bytes_in (option_to_list o) ≡ sizes_of o
bytes_of_one None = refl
bytes_of_one (Some o) = omega arith

-- the player stands for the first moves, and this is how many bytes they sent out
pub record FarTo {V : Type 0} (m : Meaning V) (fed : Fed) (moves : List PlainMove) (i : ℕ) (p : Playing V)
    (bytes : ℕ) : Type 0 where
  pub sent : List Emission
  pub so_far : SoFar m fed moves i p sent
  pub bytes_are : bytes ≡ min (bytes_in sent) (2 ^ 64 - 1)

module _ {V : Type 0} (m : Meaning V) (fed : Fed) (moves : List PlainMove) where
  pub far_none : (p : Playing V) → Stands m fed.threads [] p → FarTo m fed moves 0 p 0
  far_none p stands = record { sent = []; so_far = so_far_none m fed moves p stands; bytes_are = omega arith }

  far_bytes : {i : ℕ} {p : Playing V} {sent : List Emission} (so : SoFar m fed moves i p sent) (bytes : ℕ)
      → bytes ≡ min (bytes_in sent) (2 ^ 64 - 1) → bytes ≡ min (bytes_of so.steps) (2 ^ 64 - 1)
  far_bytes so bytes is =
      is ∙ ap (λ n. min n (2 ^ 64 - 1)) (ap (λ (l : List Emission). bytes_in l) so.sends ∙ sym (bytes_emitted so.steps))

  pub far_all : (i : ℕ) (p : Playing V) (bytes : ℕ) → length moves ≤ i → FarTo m fed moves i p bytes
      → IsFar m (inputs_of fed) fed.threads moves (record { bytes = bytes; fault = None })
  far_all i p bytes all to = record {
    steps = to.so_far.steps;
    made = take i moves;
    rest = drop i moves;
    moves_are = sym (take-append-drop i moves);
    plays = to.so_far.plays;
    bytes = far_bytes to.so_far bytes to.bytes_are;
    stops = drop_all i moves all;
  }

  module _ (i : ℕ) (less : i < length moves) (move d : PlainMove) (is : move ≡ get_or moves i d) (p q : Playing V)
      (bytes : ℕ) (to : FarTo m fed moves i p bytes) (r : Result (Option Emission) MoveError)
      (follows : (inputs : ℕ → List Packet) (threads : ℕ) (steps : List (Step V)) → Stands m threads steps p
      → IsInputAfter inputs move.thread steps (input_at fed move.thread (next_input p move.thread))
      → Follows m inputs threads steps move r q) where
    pub far_more : (out : Option Emission) → r ≡ Ok out → (new : ℕ)
        → new ≡ min (bytes + sizes_of out) (2 ^ 64 - 1) → FarTo m fed moves (i + 1) q new
    far_more out e new new_is = record {
      sent = to.sent ++ option_to_list out;
      so_far = made_more m fed moves i less move d is p q to.sent to.so_far r follows out e;
      bytes_are =
          let a = bytes_both to.sent (option_to_list out) in
          let b = bytes_of_one out in
          let c = to.bytes_are in omega (arith, new_is, a, b, c);
    }

    stuck_here : (cause : PlayCause) → r ≡ Err (error.Illegal cause)
        → (why : PlayCause) × (plain_move m (inputs_of fed) fed.threads to.so_far.steps move ≡ Err why)
    stuck_here cause e = go (cases_lt move.thread fed.threads)
      where
        go : (move.thread < fed.threads) ⊎ (fed.threads ≤ move.thread)
            → (why : PlayCause) × (plain_move m (inputs_of fed) fed.threads to.so_far.steps move ≡ Err why)
        go (inl low) = (
          cause,
          subst (λ (x : Result (Option Emission) MoveError).
              Follows m (inputs_of fed) fed.threads to.so_far.steps move x q) e
              (follows (inputs_of fed) fed.threads to.so_far.steps to.so_far.stands
              (next_is m fed fed.threads to.so_far.steps p move.thread (history_of m fed moves i p to.sent to.so_far)
              to.so_far.stands low)),
        )
        go (inr high) = (
          NoSuchThread,
          let none : nat_lt move.thread fed.threads ≡ false = grind (arith, nat_tests) in rw none refl,
        )

    pub far_stops : (e : MoveError) → r ≡ Err e → (far : Far) → IsFarAt (i + 1) bytes e far
        → IsFar m (inputs_of fed) fed.threads moves far
    far_stops error.NoMemory e far at = absurd at
    far_stops (error.Illegal cause) e far at =
        let why = stuck_here cause e in
        subst (λ (f : Far). IsFar m (inputs_of fed) fed.threads moves f) (sym at) (record {
          steps = to.so_far.steps;
          made = take i moves;
          rest = drop i moves;
          moves_are = sym (take-append-drop i moves);
          plays = to.so_far.plays;
          bytes = far_bytes to.so_far bytes to.bytes_are;
          stops = (
            move,
            drop (i + 1) moves,
            why.0,
            drop_more moves i d less ∙ ap (λ (x : PlainMove). x ∷ drop (i + 1) moves) (sym is),
            why.1,
            found_illegal m fed moves i less move d is p q to.sent to.so_far r follows cause e,
          );
        })

-- A list of moves goes so far, and no farther

module _ {V : Type 0} (m : Meaning V) (inputs : ℕ → List Packet) (threads : ℕ) where
  -- the next move of these can't be made
  abbrev IsStuck : List (Step V) → List PlainMove → Type 0
  IsStuck steps rest =
      (next : PlainMove) (later : List PlainMove) → rest ≡ next ∷ later
      → (cause : PlayCause) × (plain_move m inputs threads steps next ≡ Err cause)

  -- a list that begins with a move that can't be made is not legal
  not_on : (past steps : List (Step V)) (next : PlainMove) (moves : List PlainMove) (cause : PlayCause)
      → plain_move m inputs threads past next ≡ Err cause
      → and_moves m inputs threads (Ok past) (next ∷ moves) ≡ Ok steps → ⊥
  not_on past steps next moves cause bad e =
      let fault : PlayFault = record { number = length past + 1; cause = cause } in
      let k : and_moves m inputs threads (Err fault) moves ≡ Ok steps =
      subst (λ (o : Result (List (Step V)) PlayCause).
      and_moves m inputs threads (numbered (length past) o) moves ≡ Ok steps) bad e in
      let n : Err fault ≡ Ok steps = sym (stuck m inputs threads moves fault) ∙ k in cc

  as_far : (moves made rest other left : List PlainMove) (past steps ends : List (Step V)) → moves ≡ made ++ rest
      → moves ≡ other ++ left → and_moves m inputs threads (Ok past) made ≡ Ok steps
      → and_moves m inputs threads (Ok past) other ≡ Ok ends → IsStuck steps rest → IsStuck ends left → steps ≡ ends
  as_far moves [] rest [] left past steps ends a b p q halts stops = cc
  as_far moves [] rest (y ∷ other) left past steps ends a b p q halts stops =
      let same : past ≡ steps = cc in
      let k = halts y (other ++ left) (sym a ∙ b) in
      absurd (not_on past ends y other k.0 (subst (λ (l : List (Step V)). plain_move m inputs threads l y ≡ Err k.0)
      (sym same) k.1) q)
  as_far moves (x ∷ made) rest [] left past steps ends a b p q halts stops =
      let same : past ≡ ends = cc in
      let k = stops x (made ++ rest) (sym b ∙ a) in
      absurd (not_on past steps x made k.0 (subst (λ (l : List (Step V)). plain_move m inputs threads l x ≡ Err k.0)
      (sym same) k.1) p)
  as_far moves (x ∷ made) rest (y ∷ other) left past steps ends a b p q halts stops =
      go (plain_move m inputs threads past x) refl
      (λ more. as_far (made ++ rest) made rest other left more steps ends refl tails)
    where
      both : x ∷ (made ++ rest) ≡ y ∷ (other ++ left)
      both = sym a ∙ b

      heads : x ≡ y
      heads = cc

      tails : made ++ rest ≡ other ++ left
      tails = cc

      other_on : and_moves m inputs threads (numbered (length past) (plain_move m inputs threads past x)) other
          ≡ Ok ends
      other_on = subst (λ (z : PlainMove). and_moves m inputs threads
          (numbered (length past) (plain_move m inputs threads past z)) other ≡ Ok ends) (sym heads) q

      go : (o : Result (List (Step V)) PlayCause) → plain_move m inputs threads past x ≡ o
          → ((more : List (Step V)) → and_moves m inputs threads (Ok more) made ≡ Ok steps
          → and_moves m inputs threads (Ok more) other ≡ Ok ends → IsStuck steps rest → IsStuck ends left
          → steps ≡ ends)
          → steps ≡ ends
      go (Err cause) k later = absurd (not_on past steps x made cause k p)
      go (Ok more) k later =
          later more
          (subst (λ (o : Result (List (Step V)) PlayCause).
          and_moves m inputs threads (numbered (length past) o) made ≡ Ok steps) k p)
          (subst (λ (o : Result (List (Step V)) PlayCause).
          and_moves m inputs threads (numbered (length past) o) other ≡ Ok ends) k other_on) halts stops

  far_stuck : (moves : List PlainMove) (steps : List (Step V)) (rest : List PlainMove) (fault : Option PlayFault)
      → StopsBy m inputs threads moves steps rest fault → IsStuck steps rest
  far_stuck moves steps rest None none next later is = absurd (cc)
  far_stuck moves steps rest (Some fault) (x, more, cause, at, bad, all) next later is =
      let same : x ≡ next = (let k : x ∷ more ≡ next ∷ later = sym at ∙ is in cc) in
      (cause, subst (λ (z : PlainMove). plain_move m inputs threads steps z ≡ Err cause) same bad)

  far_fault : (moves : List PlainMove) (steps : List (Step V)) (rest : List PlainMove) (fault : PlayFault)
      → StopsBy m inputs threads moves steps rest (Some fault) → play m inputs threads moves ≡ Err fault
  far_fault moves steps rest fault (x, more, cause, at, bad, all) = all

-- The verdicts

module _ {V : Type 0} (s : Setting V) (image : Image) (far : Far)
    (is : IsFar s.meaning (inputs_fed s image.fed) s.threads image.past far)
    (counts : CountsMayBe (length s.packets) image) where
  abbrev plays_to : PlaysTo s image is.steps
  plays_to = record {
    made = is.made;
    rest = is.rest;
    moves_are = is.moves_are;
    plays = is.plays;
    stuck = λ next later e.
        far_stuck s.meaning (inputs_fed s image.fed) s.threads image.past is.steps is.rest far.fault is.stops next later
        e;
  }

  pub too_many_bytes : image.bytes < far.bytes → IsFault s image (Count 0)
  too_many_bytes more may =
      let low = may.bytes is.steps plays_to in let bytes = is.bytes in omega (arith, low, bytes, more)

  pub may_be : far.bytes ≤ image.bytes → MayBe s image
  may_be few = record {
    fed = counts.fed;
    some_epochs = counts.some_epochs;
    few_epochs = counts.few_epochs;
    draws = counts.draws;
    few_moves = counts.few_moves;
    few_bytes = counts.few_bytes;
    moves = counts.moves;
    bytes = λ steps p.
        let same = as_far s.meaning (inputs_fed s image.fed) s.threads image.past p.made p.rest is.made is.rest [] steps
        is.steps p.moves_are is.moves_are p.plays is.plays p.stuck plays_to.stuck in
        let bytes = is.bytes in
        let small = counts.few_bytes in
        let k : bytes_of steps ≡ bytes_of is.steps = ap (λ (l : List (Step V)). bytes_of l) same in
        let low : bytes_of is.steps ≤ image.bytes = omega (arith, bytes, small, few) in
        omega (arith, k, low);
  }

  pub first_illegal : far.bytes ≤ image.bytes → wrong_row_of s.threads image ≡ None → (fault : PlayFault)
      → far.fault ≡ Some fault → IsFault s image (Move fault)
  first_illegal few rows fault at = (
    may_be few,
    rows,
    far_fault s.meaning (inputs_fed s image.fed) s.threads image.past is.steps is.rest fault
        (subst (λ (f : Option PlayFault). StopsBy s.meaning (inputs_fed s image.fed) s.threads image.past is.steps
        is.rest f) at is.stops),
  )

  pub plays_whole : far.bytes ≤ image.bytes → wrong_row_of s.threads image ≡ None → far.fault ≡ None
      → PlaysWhole s image
  plays_whole few rows at = record {
    counts = may_be few;
    rows = rows;
    steps = is.steps;
    plays =
        let none : is.rest ≡ [] = subst (λ (f : Option PlayFault).
        StopsBy s.meaning (inputs_fed s image.fed) s.threads image.past is.steps is.rest f) at is.stops in
        ap (λ (l : List PlainMove). play s.meaning (inputs_fed s image.fed) s.threads l)
        (is.moves_are ∙ (ap (λ (l : List PlainMove). is.made ++ l) none ∙ append-nil is.made)) ∙ is.plays;
  }

  pub first_row : far.bytes ≤ image.bytes → (place : ℕ) → wrong_row_of s.threads image ≡ Some place
      → IsFault s image (Count place)
  first_row few zero at = absurd (not_zero s.threads 0 ((image.epoch - 1) * s.threads) image.ended at)
    where
      not_zero : (threads before more : ℕ) (rows : List EndedRow) → wrong_row threads before more rows ≡ Some 0 → ⊥
      not_zero threads before zero [] e = cc
      not_zero threads before zero (row ∷ rows) e = let k : before + 1 ≡ 0 = cc in omega (arith, k)
      not_zero threads before (suc more) [] e = let k : before + 1 ≡ 0 = cc in omega (arith, k)
      not_zero threads before (suc more) (row ∷ rows) e =
          go (nat_eq row.epoch (before / threads + 1) && nat_eq row.thread (before % threads)) refl
          (λ h. not_zero threads (before + 1) more rows h)
        where
          go : (b : Bool) → (nat_eq row.epoch (before / threads + 1) && nat_eq row.thread (before % threads)) ≡ b
              → (wrong_row threads (before + 1) more rows ≡ Some 0 → ⊥) → ⊥
          go true is later = later (rw is at e)
          go false is later = let k : Some (before + 1) ≡ Some 0 = rw is at e in let n : before + 1 ≡ 0 = cc in
              omega (arith, n)
  first_row few (suc place) at = (may_be few, at)

-- From the parts of a system as its code has them

module _ {P V : Type 0} (mean : P → Meaning V) (view now : Parts P V) (is : view ≡ now) (s : Setting V) (w : World V)
    (st : StandsFor (mean now.program) s w now) (image : Image) (fed : w.fed ≡ image.fed) where
  -- the moves go so far on what was fed
  pub far_on_fed : (far : Far) → IsFar (mean view.program) (inputs_of view.inputs) view.inputs.threads image.past far
      → IsFar s.meaning (inputs_fed s image.fed) s.threads image.past far
  far_on_fed far f =
      let a = subst (λ (q : Parts P V). IsFar (mean q.program) (inputs_of q.inputs) q.inputs.threads image.past far) is
      f in
      let b = subst (λ (i : Fed). IsFar (mean now.program) (inputs_of i) i.threads image.past far) st.inputs.inputs a in
      let c = subst (λ (n : ℕ). IsFar (mean now.program)
      (inputs_of (record { threads = s.threads; tags = s.tags; packets = take n s.packets })) s.threads image.past far)
      fed b in
      subst (λ (m : Meaning V). IsFar m (inputs_fed s image.fed) s.threads image.past far) (sym st.inputs.meaning) c

  -- and a wrong row is one of them
  pub row_of_setting : (threads : ℕ) (r : Option ℕ) → threads ≡ view.inputs.threads
      → r ≡ wrong_row threads 0 ((image.epoch - 1) * threads) image.ended → wrong_row_of s.threads image ≡ r
  row_of_setting threads r same row =
      let all : threads ≡ s.threads =
      same ∙ (ap (λ (q : Parts P V). q.inputs.threads) is ∙ ap (λ (i : Fed). i.threads) st.inputs.inputs) in
      sym (row ∙ ap (λ (n : ℕ). wrong_row n 0 ((image.epoch - 1) * n) image.ended) all)
