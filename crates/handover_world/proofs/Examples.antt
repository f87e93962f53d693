-- Images of a few rows, moves and outputs, and what is wrong with them.
use Rattle.std.proofs.Common.{◌≡◌, ℕ, ◌≤◌, List, [], ◌∷◌, length, refl, ap, subst, inl, inr, ◌⊎◌}
use Rattle.std.proofs.Common.{arith, false, Some, None, Ok, Err}
use Rattle.plain_text.specs.declared.packet.Unit.TheVariants as unit
use Rattle.plain_machine.specs.declared.plain_move.PlainMove.{PlainMove}
use Rattle.plain_machine.specs.declared.plain_move.PlayCause.{PlayCause}
use Rattle.plain_machine.specs.declared.plain_move.PlayCause.TheVariants.{NoSuchThread}
use Rattle.plain_machine.specs.Program.{Meaning}
use Rattle.plain_machine.specs.History.{Step, plain_move}
use Rattle.recovery_world.specs.World.{Setting, Ended as EndedEpoch, World, opening, inputs_fed}
use Rattle.recovery_laws.proofs.KeptWorlds.{opening_sound}
use Rattle.handover.specs.declared.image.Ended.{Ended}
use Rattle.handover.specs.declared.image.Image.{Image}
use Rattle.handover_world.specs.declared.fault.ResumeError.TheVariants.{Count, Move, Released}
use Rattle.handover_world.specs.Faults.{bytes_of, PlaysTo, MayBe, wrong_row_of, AreReleased, HasNoFault}
use Rattle.handover_world.specs.Faults.{IsFault}
use Rattle.handover_world.specs.Images.{ended_rows, IsAtRest}
use Rattle.handover_world.specs.Handing.{ComesToRest}
use Rattle.handover_world.specs.Ready.{IsReadiness}
use Rattle.handover_world.proofs.OneFault.{plays_one}
use Rattle.handover_world.proofs.Resting.{rest_there, comes_to_rest}

abbrev row : ℕ → ℕ → Ended
row epoch thread = record { epoch = epoch; thread = thread; entries = 0; outputs = 0 }

abbrev image_of : ℕ → List Ended → List (ℕ × ℕ) → List PlainMove → Image
image_of epoch ended released past = record {
  fed = 0;
  clock = 0;
  draws = 0;
  epoch = epoch;
  moves = 1;
  bytes = 0;
  ended = ended;
  released = released;
  past = past;
}

-- Rows of two threads

abbrev ends_with : ℕ → EndedEpoch
ends_with n = record { entries = λ t. n; outputs = λ t. t }

-- The older epoch has the lesser number, and its rows come first.
rows_in_order : ended_rows 2 (ends_with 7 ∷ ends_with 3 ∷ [])
    ≡ record { epoch = 1; thread = 0; entries = 3; outputs = 0 }
    ∷ record { epoch = 1; thread = 1; entries = 3; outputs = 1 }
    ∷ record { epoch = 2; thread = 0; entries = 7; outputs = 0 }
    ∷ record { epoch = 2; thread = 1; entries = 7; outputs = 1 } ∷ []
rows_in_order = refl

rows_right : wrong_row_of 2 (image_of 3 (row 1 0 ∷ row 1 1 ∷ row 2 0 ∷ row 2 1 ∷ []) [] []) ≡ None
rows_right = refl

rows_turned : wrong_row_of 2 (image_of 3 (row 1 0 ∷ row 2 0 ∷ row 1 1 ∷ row 2 1 ∷ []) [] []) ≡ Some 2
rows_turned = refl

row_missing : wrong_row_of 2 (image_of 3 (row 1 0 ∷ row 1 1 ∷ row 2 0 ∷ []) [] []) ≡ Some 4
row_missing = refl

row_left : wrong_row_of 2 (image_of 2 (row 1 0 ∷ row 1 1 ∷ row 2 0 ∷ []) [] []) ≡ Some 3
row_left = refl

-- Faults

module _ {V : Type 0} (m : Meaning V) where
  abbrev one_thread : Setting V
  one_thread = record { meaning = m; threads = 1; tags = false; fractions = unit.Micro; packets = []; seed = 0 }

  -- of a move of a thread that there is none of nothing is made
  nothing_made : (image : Image) → (image.past ≡ []) ⊎ (image.past ≡ record { thread = 1; answer = None } ∷ [])
      → PlaysTo one_thread image []
  nothing_made image (inl none) = record {
    made = [];
    rest = [];
    moves_are = none;
    plays = refl;
    stuck = λ next later e. absurd (cc);
  }
  nothing_made image (inr one) = record {
    made = [];
    rest = record { thread = 1; answer = None } ∷ [];
    moves_are = one;
    plays = refl;
    stuck = λ next later e.
        let same : ◌≡◌ {A = PlainMove} (record { thread = 1; answer = None }) next = cc in
        subst (λ (x : PlainMove).
        (cause : PlayCause) × (plain_move m (inputs_fed one_thread image.fed) 1 [] x ≡ Err cause)) same
        (NoSuchThread, refl);
  }

  counts_may_be : (ended : List Ended) (released : List (ℕ × ℕ)) (past : List PlainMove)
      → (past ≡ []) ⊎ (past ≡ record { thread = 1; answer = None } ∷ [])
      → MayBe one_thread (image_of 2 ended released past)
  counts_may_be ended released past which = record {
    fed = omega arith;
    some_epochs = omega arith;
    few_epochs = omega arith;
    draws = omega arith;
    few_moves = omega arith;
    few_bytes = omega arith;
    moves = few which;
    bytes = λ steps p.
        subst (λ (l : List (Step V)). bytes_of l ≤ 0)
        (plays_one one_thread (image_of 2 ended released past) [] steps
        (nothing_made (image_of 2 ended released past) which) p) (omega arith);
  }
    where
      few : (past ≡ []) ⊎ (past ≡ record { thread = 1; answer = None } ∷ []) → length past ≤ 1
      few (inl e) = let k = ap (λ (l : List PlainMove). length l) e in omega (arith, k)
      few (inr e) = let k = ap (λ (l : List PlainMove). length l) e in omega (arith, k)

  no_output : AreReleased {V = V} [] []
  no_output [] rest output e = absurd (cc)
  no_output (b ∷ before) rest output e = absurd (cc)

  fine : HasNoFault one_thread (image_of 2 (row 1 0 ∷ []) [] [])
  fine = record {
    counts = counts_may_be (row 1 0 ∷ []) [] [] (inl refl);
    rows = refl;
    steps = [];
    plays = refl;
    released = no_output;
  }

  -- an image of the first epoch is of no recovery
  first_epoch : IsFault one_thread (image_of 1 [] [] []) (Count 0)
  first_epoch may = let k = may.some_epochs in omega (arith, k)

  wrong_epoch : IsFault one_thread (image_of 2 (row 2 0 ∷ []) [] []) (Count 1)
  wrong_epoch = (counts_may_be (row 2 0 ∷ []) [] [] (inl refl), refl)

  wrong_move : IsFault one_thread (image_of 2 (row 1 0 ∷ []) [] (record { thread = 1; answer = None } ∷ []))
      (Move (record { number = 1; cause = NoSuchThread }))
  wrong_move = (
    counts_may_be (row 1 0 ∷ []) [] (record { thread = 1; answer = None } ∷ []) (inr refl),
    refl,
    refl,
  )

  never_sent : IsFault one_thread (image_of 2 (row 1 0 ∷ []) ((0, 1) ∷ []) []) (Released 1)
  never_sent = (
    counts_may_be (row 1 0 ∷ []) ((0, 1) ∷ []) [] (inl refl),
    refl,
    [],
    refl,
    record {
      before = [];
      output = (0, 1);
      rest = [];
      outputs_are = refl;
      place_is = refl;
      good = no_output;
      wrong = inl (λ is. let k = is.1 in omega (arith, k));
    },
  )

-- Before the first event a system is ready, and comes to rest.

opening_ready : (V : Type 0) → IsReadiness (opening V) (Ok tt)
opening_ready V = (
  refl,
  record { more = []; to_come = λ e. ((λ i. absurd i), (λ i. i.0)); once = tt; many_are = refl },
  record { behind = []; others = []; parts = (refl, refl); many_are = refl },
)

opening_rests : {V : Type 0} (s : Setting V) → (new : World V) × ComesToRest s (opening V) new × IsAtRest new
opening_rests {V} s =
    let r = rest_there s (opening V) (opening_sound s) refl in
    (r.0, r.1, comes_to_rest s (opening V) (opening_sound s) (opening_ready V) r.0 r.1)
