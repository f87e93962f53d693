-- Each image has no fault, or one.
use Rattle.std.proofs.Common.{◌≡◌, ℕ, zero, suc, ◌+◌, ◌-◌, ◌*◌, ◌/◌, ◌%◌, ◌^◌, ◌≤◌, ◌<◌, ◌≢◌, Bool, true, false, List}
use Rattle.std.proofs.Common.{[], ◌∷◌, ◌++◌, length, refl, sym, ap, ◌∙◌, subst, inl, inr, ◌⊎◌, arith, Option, Some}
use Rattle.std.proofs.Common.{None}
use Rattle.std.proofs.Common.{Result, Ok, Err, Contains, append_assoc, append-nil}
use Rattle.std.specs.Prelude.{nat_eq, ◌&&◌, if◌then◌else◌}
use Rattle.plain_text.specs.declared.limit.TheConstants.{MOST_MOVES, MOST_OUTPUT_BYTES}
use Rattle.plain_text.specs.declared.packet.Packet.{Packet}
use Rattle.entry_order.proofs.ClosedParts.{Or}
use Rattle.plain_machine.specs.declared.plain_move.PlainMove.{PlainMove}
use Rattle.plain_machine.specs.declared.plain_move.PlayCause.{PlayCause}
use Rattle.plain_machine.specs.declared.plain_move.PlayFault.{PlayFault}
use Rattle.plain_machine.specs.History.{Step, sent_of, outputs, plain_move, numbered, and_move, and_moves, play}
use Rattle.plain_machine.proofs.PlayedLists.{stuck, play_append, fault_is_first}
use Rattle.recovery_world.specs.World.{Setting, inputs_fed}
use Rattle.handover.specs.declared.image.Ended.{Ended}
use Rattle.handover.specs.declared.image.Image.{Image}
use Rattle.handover_world.specs.declared.fault.ResumeError.{ResumeError}
use Rattle.handover_world.specs.declared.fault.ResumeError.TheVariants.{Count, Move, Released, NoMemory}
use Rattle.handover_world.specs.Faults.{bytes_of, PlaysTo, MayBe, wrong_row, wrong_row_of, IsOutputIn, AreReleased}
use Rattle.handover_world.specs.Faults.{WrongReleased, HasNoFault, IsFault}
use Rattle.handover_world.proofs.SplitLists.{IsShorter, Splits, splits, or_both, or_like, at_most_or, pair_or}
use Rattle.handover_world.proofs.SplitLists.{contains_or}

-- Playing as far as it goes

module _ {V : Type 0} (s : Setting V) (image : Image) where
  abbrev inputs : ℕ → List Packet
  inputs = inputs_fed s image.fed

  -- what is stuck at a move does not play on past it
  no_further : (made more : List PlainMove) (steps next : List (Step V)) (move : PlainMove) (cause : PlayCause)
      → play s.meaning inputs s.threads made ≡ Ok steps
      → plain_move s.meaning inputs s.threads steps move ≡ Err cause
      → play s.meaning inputs s.threads (made ++ move ∷ more) ≡ Ok next → ⊥
  no_further made more steps next move cause plays bad all =
      let e : ◌≡◌ {A = Result (List (Step V)) PlayFault} (Err (record { number = length steps + 1; cause = cause }))
      (Ok next) =
      sym (stuck s.meaning inputs s.threads more (record { number = length steps + 1; cause = cause })) ∙ ends in
      cc
    where
      one : and_move s.meaning inputs s.threads (Ok steps) move
          ≡ Err (record { number = length steps + 1; cause = cause })
      one = ap (λ (r : Result (List (Step V)) PlayCause). numbered (length steps) r) bad

      ends : and_moves s.meaning inputs s.threads (Err (record { number = length steps + 1; cause = cause })) more
          ≡ Ok next
      ends =
          subst (λ (r : Result (List (Step V)) PlayFault). and_moves s.meaning inputs s.threads r more ≡ Ok next) one
          (subst (λ (r : Result (List (Step V)) PlayFault).
          and_moves s.meaning inputs s.threads r (move ∷ more) ≡ Ok next) plays
          (sym (play_append s.meaning inputs s.threads (Ok []) made (move ∷ more)) ∙ all))

  shorter_not : (steps next : List (Step V)) (a : PlaysTo s image steps) (b : PlaysTo s image next)
      → IsShorter a.made a.rest b.made b.rest → ⊥
  shorter_not steps next a b short =
      let bad = a.stuck short.next (short.later ++ b.rest) short.rest in
      no_further a.made short.later steps next short.next bad.0 a.plays bad.1
      (subst (λ (l : List PlainMove). play s.meaning inputs s.threads l ≡ Ok next) short.longer b.plays)

  pub plays_one : (steps next : List (Step V)) → PlaysTo s image steps → PlaysTo s image next → steps ≡ next
  plays_one steps next a b = go (splits a.made a.rest b.made b.rest (sym a.moves_are ∙ b.moves_are))
    where
      go : Splits a.made a.rest b.made b.rest → steps ≡ next
      go (inl (same, rest)) =
          let e : ◌≡◌ {A = Result (List (Step V)) PlayFault} (Ok steps) (Ok next) =
          sym a.plays
          ∙ (ap (λ (l : List PlainMove). play s.meaning inputs s.threads l) same ∙ b.plays) in
          cc
      go (inr (inl short)) = absurd (shorter_not steps next a b short)
      go (inr (inr short)) = absurd (shorter_not next steps b a short)

  pub plays_there : (steps : List (Step V)) × PlaysTo s image steps
  plays_there = go (play s.meaning inputs s.threads image.past) refl
    where
      go : (r : Result (List (Step V)) PlayFault) → play s.meaning inputs s.threads image.past ≡ r
          → (steps : List (Step V)) × PlaysTo s image steps
      go (Ok steps) e = (
        steps,
        record {
          made = image.past;
          rest = [];
          moves_are = sym (append-nil image.past);
          plays = e;
          stuck = λ next later none. absurd (cc);
        },
      )
      go (Err fault) e = let r = fault_is_first s.meaning inputs s.threads image.past [] fault e in (
        r.3,
        record {
          made = r.0;
          rest = r.1 ∷ r.2;
          moves_are = r.4;
          plays = r.5;
          stuck = λ next later is.
              let same : r.1 ≡ next = cc in (
                fault.cause,
                subst (λ (m : PlainMove).
                    plain_move s.meaning inputs s.threads r.3 m ≡ Err fault.cause) same r.6,
              );
        },
      )

  bytes_or : Or ((steps : List (Step V)) → PlaysTo s image steps → bytes_of steps ≤ image.bytes)
  bytes_or = go (at_most_or (bytes_of plays_there.0) image.bytes)
    where
      go : Or (bytes_of plays_there.0 ≤ image.bytes)
          → Or ((steps : List (Step V)) → PlaysTo s image steps → bytes_of steps ≤ image.bytes)
      go (inl few) = inl (λ steps p.
          subst (λ (l : List (Step V)). bytes_of l ≤ image.bytes)
          (plays_one plays_there.0 steps plays_there.1 p) few)
      go (inr many) = inr (λ all. many (all plays_there.0 plays_there.1))

  -- Whether the counts may be

  abbrev Bounds : Type 0
  Bounds =
      (image.fed ≤ length s.packets)
      × ((2 ≤ image.epoch)
      × ((image.epoch + 1 ≤ 2 ^ 32)
      × ((image.draws ≤ image.moves)
      × ((image.moves ≤ MOST_MOVES) × ((image.bytes ≤ MOST_OUTPUT_BYTES) × (length image.past ≤ image.moves))))))

  bounds_or : Or Bounds
  bounds_or =
      or_both (at_most_or image.fed (length s.packets))
      (or_both (at_most_or 2 image.epoch)
      (or_both (at_most_or (image.epoch + 1) (2 ^ 32))
      (or_both (at_most_or image.draws image.moves)
      (or_both (at_most_or image.moves MOST_MOVES)
      (or_both (at_most_or image.bytes MOST_OUTPUT_BYTES) (at_most_or (length image.past) image.moves))))))

  below : (a b : ℕ) → a + 1 ≤ b → a < b
  below a b k = omega (arith, k)

  above : (a b : ℕ) → a < b → a + 1 ≤ b
  above a b k = omega (arith, k)

  may_be : Bounds × ((steps : List (Step V)) → PlaysTo s image steps → bytes_of steps ≤ image.bytes)
      → MayBe s image
  may_be ((fed, (some, (few, (draws, (moves, (bytes, past)))))), all) = record {
    fed = fed;
    some_epochs = some;
    few_epochs = below image.epoch (2 ^ 32) few;
    draws = draws;
    few_moves = moves;
    few_bytes = bytes;
    moves = past;
    bytes = all;
  }

  is_bounded : MayBe s image
      → Bounds × ((steps : List (Step V)) → PlaysTo s image steps → bytes_of steps ≤ image.bytes)
  is_bounded m = (
    (
      m.fed,
      (
        m.some_epochs,
        (above image.epoch (2 ^ 32) m.few_epochs, (m.draws, (m.few_moves, (m.few_bytes, m.moves)))),
      ),
    ),
    m.bytes,
  )

  pub may_be_or : Or (MayBe s image)
  may_be_or = or_like may_be is_bounded (or_both bounds_or bytes_or)

-- Rows

-- the place of a wrong row is not 0
row_place : (threads before more : ℕ) (rows : List Ended) (place : ℕ)
    → wrong_row threads before more rows ≡ Some place → before < place
row_place threads before zero [] place e = absurd (cc)
row_place threads before zero (row ∷ rows) place e =
    let k : Some (before + 1) ≡ Some place = e in
    let same : before + 1 ≡ place = cc in
    omega (arith, same)
row_place threads before (suc more) [] place e =
    let k : Some (before + 1) ≡ Some place = e in
    let same : before + 1 ≡ place = cc in
    omega (arith, same)
row_place threads before (suc more) (row ∷ rows) place e =
    go (nat_eq row.epoch (before / threads + 1) && nat_eq row.thread (before % threads)) e
    (row_place threads (before + 1) more rows place)
  where
    go : (b : Bool)
        → (if b then wrong_row threads (before + 1) more rows else Some (before + 1)) ≡ Some place
        → (wrong_row threads (before + 1) more rows ≡ Some place → before + 1 < place) → before < place
    go true k later = let low = later k in omega (arith, low)
    go false k later = let same : before + 1 ≡ place = cc in omega (arith, same)

-- Released outputs

module _ {V : Type 0} (steps : List (Step V)) where
  output_or : (output : ℕ × ℕ) → Or (IsOutputIn steps output)
  output_or output =
      or_both (at_most_or 1 output.1) (at_most_or output.1 (outputs output.0 (sent_of steps)))

  -- one more that is good
  one_more : (before : List (ℕ × ℕ)) (x : ℕ × ℕ) → AreReleased steps before → IsOutputIn steps x
      → (Contains before x → ⊥) → AreReleased steps (before ++ x ∷ [])
  one_more before x good is new front back output e = go (splits before (x ∷ []) front (output ∷ back) e)
    where
      go : Splits before (x ∷ []) front (output ∷ back) → IsOutputIn steps output × (Contains front output → ⊥)
      go (inl (same, rest)) =
          let x_is : x ≡ output = cc in
          subst (λ (y : ℕ × ℕ). IsOutputIn steps y × (Contains front y → ⊥)) x_is
          (subst (λ (l : List (ℕ × ℕ)). IsOutputIn steps x × (Contains l x → ⊥)) same (is, new))
      go (inr (inl short)) = absurd (past short.later short.rest)
        where
          past : (later : List (ℕ × ℕ)) → x ∷ [] ≡ short.next ∷ (later ++ output ∷ back) → ⊥
          past [] k = let none : [] ≡ output ∷ back = cc in cc
          past (y ∷ later) k = let none : [] ≡ y ∷ (later ++ output ∷ back) = cc in cc
      go (inr (inr short)) =
          let first : output ≡ short.next = let k = short.rest in cc in
          good front short.later output
          (short.longer ∙ ap (λ (y : ℕ × ℕ). front ++ y ∷ short.later) (sym first))

  pub released_or : (all before rest : List (ℕ × ℕ)) → all ≡ before ++ rest → AreReleased steps before
      → AreReleased steps all ⊎ ((place : ℕ) × WrongReleased steps all place)
  released_or all before [] e good =
      inl (subst (λ (l : List (ℕ × ℕ)). AreReleased steps l) (sym (e ∙ append-nil before)) good)
  released_or all before (x ∷ rest) e good =
      go (output_or x) (contains_or pair_or before x) (released_or all (before ++ x ∷ []) rest
      (e ∙ sym (append_assoc before (x ∷ []) rest)))
    where
      wrong : (IsOutputIn steps x → ⊥) ⊎ Contains before x
          → AreReleased steps all ⊎ ((place : ℕ) × WrongReleased steps all place)
      wrong w = inr (
        length before + 1,
        record {
          before = before;
          output = x;
          rest = rest;
          outputs_are = e;
          place_is = refl;
          good = good;
          wrong = w;
        },
      )

      go : Or (IsOutputIn steps x) → Or (Contains before x)
          → (AreReleased steps (before ++ x ∷ [])
          → AreReleased steps all ⊎ ((place : ℕ) × WrongReleased steps all place))
          → AreReleased steps all ⊎ ((place : ℕ) × WrongReleased steps all place)
      go (inr never) b later = wrong (inl never)
      go (inl is) (inl there) later = wrong (inr there)
      go (inl is) (inr new) later = later (one_more before x good is new)

  none_released : AreReleased steps []
  none_released [] rest output e = absurd (cc)
  none_released (b ∷ before) rest output e = absurd (cc)

  pub released_is : (all : List (ℕ × ℕ)) → AreReleased steps all ⊎ ((place : ℕ) × WrongReleased steps all place)
  released_is all = released_or all [] all refl none_released

  pub wrong_not : (all : List (ℕ × ℕ)) (place : ℕ) → AreReleased steps all → WrongReleased steps all place → ⊥
  wrong_not all place good w = go w.wrong
    where
      is : IsOutputIn steps w.output × (Contains w.before w.output → ⊥)
      is = good w.before w.rest w.output w.outputs_are

      go : (IsOutputIn steps w.output → ⊥) ⊎ Contains w.before w.output → ⊥
      go (inl never) = never is.0
      go (inr there) = is.1 there

  -- a wrong one does not stand before the first that is wrong
  shorter_good : (all : List (ℕ × ℕ)) (i j : ℕ) (a : WrongReleased steps all i) (b : WrongReleased steps all j)
      → IsShorter a.before (a.output ∷ a.rest) b.before (b.output ∷ b.rest) → ⊥
  shorter_good all i j a b short = go a.wrong
    where
      first : a.output ≡ short.next
      first = let k = short.rest in cc

      is : IsOutputIn steps a.output × (Contains a.before a.output → ⊥)
      is = b.good a.before short.later a.output
          (short.longer ∙ ap (λ (y : ℕ × ℕ). a.before ++ y ∷ short.later) (sym first))

      go : (IsOutputIn steps a.output → ⊥) ⊎ Contains a.before a.output → ⊥
      go (inl never) = never is.0
      go (inr there) = is.1 there

  pub wrong_one : (all : List (ℕ × ℕ)) (i j : ℕ) → WrongReleased steps all i → WrongReleased steps all j → i ≡ j
  wrong_one all i j a b = go (splits a.before (a.output ∷ a.rest) b.before (b.output ∷ b.rest)
      (sym a.outputs_are ∙ b.outputs_are))
    where
      go : Splits a.before (a.output ∷ a.rest) b.before (b.output ∷ b.rest) → i ≡ j
      go (inl (same, rest)) =
          a.place_is ∙ (ap (λ (l : List (ℕ × ℕ)). length l + 1) same ∙ sym b.place_is)
      go (inr (inl short)) = absurd (shorter_good all i j a b short)
      go (inr (inr short)) = absurd (shorter_good all j i b a short)

-- Faults

module _ {V : Type 0} (s : Setting V) (image : Image) where
  ok_not_err : (steps : List (Step V)) (fault : PlayFault)
      → play s.meaning (inputs_fed s image.fed) s.threads image.past ≡ Ok steps
      → play s.meaning (inputs_fed s image.fed) s.threads image.past ≡ Err fault → ⊥
  ok_not_err steps fault a b =
      let e : ◌≡◌ {A = Result (List (Step V)) PlayFault} (Ok steps) (Err fault) = sym a ∙ b in cc

  ok_one : (steps next : List (Step V))
      → play s.meaning (inputs_fed s image.fed) s.threads image.past ≡ Ok steps
      → play s.meaning (inputs_fed s image.fed) s.threads image.past ≡ Ok next → steps ≡ next
  ok_one steps next a b =
      let e : ◌≡◌ {A = Result (List (Step V)) PlayFault} (Ok steps) (Ok next) = sym a ∙ b in cc

  row_not : (place : ℕ) → wrong_row_of s.threads image ≡ None → wrong_row_of s.threads image ≡ Some place → ⊥
  row_not place a b = let e : None ≡ Some place = sym a ∙ b in cc

  pub not_both : (fault : ResumeError) → HasNoFault s image → IsFault s image fault → fault ≢ NoMemory → ⊥
  not_both (Count zero) fine f other = f fine.counts
  not_both (Count (suc place)) fine f other = row_not (suc place) fine.rows f.1
  not_both (Move fault) fine f other = ok_not_err fine.steps fault fine.plays f.2
  not_both (Released place) fine (counts, rows, steps, plays, wrong) other =
      wrong_not steps image.released place
      (subst (λ (l : List (Step V)). AreReleased l image.released) (ok_one fine.steps steps fine.plays plays)
      fine.released) wrong
  not_both NoMemory fine f other = other refl

  -- a fault behind the counts
  pub one_fault : (a b : ResumeError) → IsFault s image a → IsFault s image b → a ≢ NoMemory → b ≢ NoMemory → a ≡ b
  one_fault NoMemory b f g first other = absurd (first refl)
  one_fault (Count zero) NoMemory f g first other = absurd (other refl)
  one_fault (Count (suc i)) NoMemory f g first other = absurd (other refl)
  one_fault (Move x) NoMemory f g first other = absurd (other refl)
  one_fault (Released i) NoMemory f g first other = absurd (other refl)
  one_fault (Count zero) (Count zero) f g first other = refl
  one_fault (Count zero) (Count (suc j)) f g first other = absurd (f g.0)
  one_fault (Count zero) (Move y) f g first other = absurd (f g.0)
  one_fault (Count zero) (Released j) f g first other = absurd (f g.0)
  one_fault (Count (suc i)) (Count zero) f g first other = absurd (g f.0)
  one_fault (Move x) (Count zero) f g first other = absurd (g f.0)
  one_fault (Released i) (Count zero) f g first other = absurd (g f.0)
  one_fault (Count (suc i)) (Count (suc j)) f g first other =
      let e : Some (suc i) ≡ Some (suc j) = sym f.1 ∙ g.1 in
      let same : suc i ≡ suc j = cc in
      ap (λ (n : ℕ). let r : ResumeError = Count n in r) same
  one_fault (Count (suc i)) (Move y) f g first other = absurd (row_not (suc i) g.1 f.1)
  one_fault (Count (suc i)) (Released j) f g first other = absurd (row_not (suc i) g.1 f.1)
  one_fault (Move x) (Count (suc j)) f g first other = absurd (row_not (suc j) f.1 g.1)
  one_fault (Released i) (Count (suc j)) f g first other = absurd (row_not (suc j) f.1 g.1)
  one_fault (Move x) (Move y) f g first other =
      let e : ◌≡◌ {A = Result (List (Step V)) PlayFault} (Err x) (Err y) = sym f.2 ∙ g.2 in
      let same : x ≡ y = cc in
      ap (λ (z : PlayFault). let r : ResumeError = Move z in r) same
  one_fault (Move x) (Released j) f g first other = absurd (ok_not_err g.2 x g.3 f.2)
  one_fault (Released i) (Move y) f g first other = absurd (ok_not_err f.2 y f.3 g.2)
  one_fault (Released i) (Released j) f g first other =
      ap (λ (n : ℕ). let r : ResumeError = Released n in r)
      (wrong_one g.2 image.released i j
      (subst (λ (l : List (Step V)). WrongReleased l image.released i) (ok_one f.2 g.2 f.3 g.3) f.4) g.4)

  abbrev Judged : Type 0
  Judged = HasNoFault s image ⊎ ((fault : ResumeError) × (fault ≢ NoMemory) × IsFault s image fault)

  judged_released : MayBe s image → wrong_row_of s.threads image ≡ None → (steps : List (Step V))
      → play s.meaning (inputs_fed s image.fed) s.threads image.past ≡ Ok steps → Judged
  judged_released counts rows steps plays = go (released_is steps image.released)
    where
      go : AreReleased steps image.released ⊎ ((place : ℕ) × WrongReleased steps image.released place) → Judged
      go (inl good) =
          inl (record { counts = counts; rows = rows; steps = steps; plays = plays; released = good })
      go (inr (place, wrong)) = inr (Released place, (λ e. cc), (counts, rows, steps, plays, wrong))

  judged_moves : MayBe s image → wrong_row_of s.threads image ≡ None → Judged
  judged_moves counts rows = go (play s.meaning (inputs_fed s image.fed) s.threads image.past) refl
    where
      go : (r : Result (List (Step V)) PlayFault)
          → play s.meaning (inputs_fed s image.fed) s.threads image.past ≡ r → Judged
      go (Ok steps) e = judged_released counts rows steps e
      go (Err fault) e = inr (Move fault, (λ k. cc), (counts, rows, e))

  judged_rows : MayBe s image → Judged
  judged_rows counts = go (wrong_row_of s.threads image) refl
    where
      go : (o : Option ℕ) → wrong_row_of s.threads image ≡ o → Judged
      go None e = judged_moves counts e
      go (Some zero) e =
          let k = row_place s.threads 0 ((image.epoch - 1) * s.threads) image.ended 0 e in
          absurd (omega (arith, k))
      go (Some (suc place)) e = inr (Count (suc place), (λ k. cc), (counts, e))

  pub judged : Judged
  judged = go (may_be_or s image)
    where
      go : Or (MayBe s image) → Judged
      go (inl counts) = judged_rows counts
      go (inr none) = inr (Count zero, (λ k. cc), none)
