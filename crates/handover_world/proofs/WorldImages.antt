-- The image of a world that events lead to has no fault.
use Rattle.std.proofs.Common.{◌≡◌, ℕ, zero, suc, ◌+◌, ◌-◌, ◌*◌, ◌/◌, ◌%◌, ◌^◌, ◌≤◌, ◌<◌, true, false, cond, List, []}
use Rattle.std.proofs.Common.{◌∷◌}
use Rattle.std.proofs.Common.{◌++◌, length, refl, sym, ap, ◌∙◌, subst, inl, inr, arith, None, Result}
use Rattle.std.proofs.Common.{Ok, Contains, append_assoc, append-nil, suc-mul}
use Rattle.std.specs.Prelude.{nat_eq, ◌&&◌}
use Rattle.std.proofs.lemmas.Bool.Decides.{nat_tests}
use Rattle.std.proofs.lemmas.Grind.{common_steps}
use Rattle.std.proofs.lemmas.Nat.{div-mul-add, mod-mul-add}
use Rattle.plain_text.specs.declared.limit.TheConstants.{MOST_MOVES, MOST_OUTPUT_BYTES}
use Rattle.plain_machine.specs.declared.plain_move.PlainMove.{PlainMove}
use Rattle.plain_machine.specs.declared.plain_move.PlayFault.{PlayFault}
use Rattle.plain_machine.specs.History.{Step, play}
use Rattle.plain_machine.specs.Agree.{IsEarlier}
use Rattle.plain_machine.proofs.PlayedLists.{play_prefix}
use Rattle.recovery_world.specs.World.{Setting, Sent, Ended as EndedEpoch, World, inputs_fed}
use Rattle.recovery_world.specs.Events.{IsAmong}
use Rattle.recovery_world.specs.Files.{moves_made, sent_names}
use Rattle.recovery_world.specs.Limits.{limit_passed, IsWithin}
use Rattle.recovery_laws.specs.Sound.{times, Sound}
use Rattle.recovery_laws.proofs.AcceptedRuns.{made_length, moves_play, among_times}
use Rattle.recovery_laws.proofs.Finishes.{sends_thread}
use Rattle.recovery_laws.proofs.Rounds.{few_moves}
use Rattle.recovery_laws.proofs.Sets.{times_both}
use Rattle.recovery_laws.proofs.Settlings.{number_high}
use Rattle.handover.specs.declared.image.Ended.{Ended}
use Rattle.handover.specs.declared.image.Image.{Image}
use Rattle.handover_world.specs.Counted.{IsCounted}
use Rattle.handover_world.specs.Faults.{PlaysTo, MayBe, wrong_row, wrong_row_of, IsOutputIn, AreReleased}
use Rattle.handover_world.specs.Faults.{HasNoFault}
use Rattle.handover_world.specs.Images.{rows_of, ended_rows, IsImageOf, IsAtRest}
use Rattle.handover_world.proofs.Counting.{earlier_bytes}
use Rattle.handover_world.proofs.SplitLists.{front_same}

-- The rows of ended epochs

rows_right : (threads before epoch t many all more : ℕ) (x : EndedEpoch) (rest : List Ended)
    → before ≡ epoch * threads + t → t + many ≡ threads → all ≡ many + more
    → wrong_row threads before all (rows_of (epoch + 1) x t many ++ rest)
    ≡ wrong_row threads (before + many) more rest
rows_right threads before epoch t zero all more x rest at last few =
    let a : before ≡ before + 0 = omega arith in
    let b : all ≡ more = omega (arith, few) in
    ap (λ (n : ℕ). wrong_row threads n all rest) a ∙ ap (λ (n : ℕ). wrong_row threads (before + 0) n rest) b
rows_right threads before epoch t (suc many) all more x rest at last few =
    ap (λ (n : ℕ). wrong_row threads before n (rows_of (epoch + 1) x t (suc many) ++ rest)) front
    ∙ (here
    ∙ (rows_right threads (before + 1) epoch (t + 1) many (many + more) more x rest (omega (arith, at))
    (omega (arith, last)) refl
    ∙ ap (λ (n : ℕ). wrong_row threads n more rest) same))
  where
    same : before + 1 + many ≡ before + suc many
    same = omega arith

    front : all ≡ suc (many + more)
    front = omega (arith, few)

    low : t < threads
    low = omega (arith, last)

    is_epoch : nat_eq (epoch + 1) (before / threads + 1) ≡ true
    is_epoch =
        let q : before / threads ≡ epoch = ap (λ (n : ℕ). n / threads) at ∙ div-mul-add epoch threads t low in
        grind (arith, nat_tests, q)

    is_thread : nat_eq t (before % threads) ≡ true
    is_thread =
        let q : before % threads ≡ t = ap (λ (n : ℕ). n % threads) at ∙ mod-mul-add epoch threads t low in
        grind (arith, nat_tests, q)

    here : wrong_row threads before (suc (many + more)) (rows_of (epoch + 1) x t (suc many) ++ rest)
        ≡ wrong_row threads (before + 1) (many + more) (rows_of (epoch + 1) x (t + 1) many ++ rest)
    here = rw is_epoch (rw is_thread refl)

ended_right : (threads all more : ℕ) (ended : List EndedEpoch) (rest : List Ended)
    → all ≡ length ended * threads + more
    → wrong_row threads 0 all (ended_rows threads ended ++ rest)
    ≡ wrong_row threads (length ended * threads) more rest
ended_right threads all more [] rest few =
    let a : 0 ≡ 0 * threads = omega arith in
    let b : all ≡ more = omega (arith, few, a) in
    ap (λ (n : ℕ). wrong_row threads n all rest) a ∙ ap (λ (n : ℕ). wrong_row threads (0 * threads) n rest) b
ended_right threads all more (x ∷ earlier) rest few =
    let turn = suc-mul (length earlier) threads in
    ap (λ (l : List Ended). wrong_row threads 0 all l)
    (append_assoc (ended_rows threads earlier) (rows_of (length earlier + 1) x 0 threads) rest)
    ∙ (ended_right threads all (threads + more) earlier (rows_of (length earlier + 1) x 0 threads ++ rest)
    (omega (arith, few, turn))
    ∙ (rows_right threads (length earlier * threads) (length earlier) 0 threads (threads + more) more x rest
    (omega arith) (omega arith) refl
    ∙ ap (λ (n : ℕ). wrong_row threads n more rest) (sym turn)))

pub rows_of_image : {V : Type 0} (s : Setting V) (w : World V) (image : Image) → IsImageOf s w image
    → wrong_row_of s.threads image ≡ None
rows_of_image s w image is =
    let epochs = is.epochs in
    let epoch = is.epoch in
    let many : image.epoch - 1 ≡ length w.ended = omega (arith, epochs, epoch) in
    let all : (image.epoch - 1) * s.threads ≡ length w.ended * s.threads + 0 =
    ap (λ (n : ℕ). n * s.threads) many ∙ omega arith in
    ap (λ (l : List Ended). wrong_row s.threads 0 ((image.epoch - 1) * s.threads) l)
    (is.ended ∙ sym (append-nil (ended_rows s.threads w.ended)))
    ∙ ended_right s.threads ((image.epoch - 1) * s.threads) 0 w.ended [] all

-- What was released

-- an output at a place of the names is there at the place of the outputs
record SentAt (xs : List Sent) (before : List (ℕ × ℕ)) (output : ℕ × ℕ) : Type 0 where
  front : List Sent
  sent : Sent
  back : List Sent
  split : xs ≡ front ++ sent ∷ back
  front_is : sent_names front ≡ before
  name_is : (sent.emission.thread, sent.emission.number) ≡ output

-- behind one more
later_at : (x : Sent) (xs : List Sent) (b output : ℕ × ℕ) (before : List (ℕ × ℕ))
    → (x.emission.thread, x.emission.number) ≡ b → SentAt xs before output → SentAt (x ∷ xs) (b ∷ before) output
later_at x xs b output before first r = record {
  front = x ∷ r.front;
  sent = r.sent;
  back = r.back;
  split = ap (λ (l : List Sent). x ∷ l) r.split;
  front_is = front_same (x.emission.thread, x.emission.number) b (sent_names r.front) before first r.front_is;
  name_is = r.name_is;
}

sent_at : (xs : List Sent) (before rest : List (ℕ × ℕ)) (output : ℕ × ℕ)
    → sent_names xs ≡ before ++ output ∷ rest → SentAt xs before output
sent_at [] [] rest output e = absurd (cc)
sent_at [] (b ∷ before) rest output e = absurd (cc)
sent_at (x ∷ xs) [] rest output e = record {
  front = [];
  sent = x;
  back = xs;
  split = refl;
  front_is = refl;
  name_is = let front : (x.emission.thread, x.emission.number) ∷ sent_names xs ≡ output ∷ rest = e in cc;
}
sent_at (x ∷ xs) (b ∷ before) rest output e =
    let all : (x.emission.thread, x.emission.number) ∷ sent_names xs ≡ b ∷ (before ++ output ∷ rest) = e in
    let first : (x.emission.thread, x.emission.number) ≡ b = cc in
    let later : sent_names xs ≡ before ++ output ∷ rest = cc in
    later_at x xs b output before first (sent_at xs before rest output later)

among_mid : (front back : List Sent) (o : Sent) → IsAmong o (front ++ o ∷ back)
among_mid [] back o = inl refl
among_mid (x ∷ front) back o = inr (among_mid front back o)

more_times : (t j : ℕ) (x : Sent) (xs : List Sent) → times t j xs ≤ times t j (x ∷ xs)
more_times t j x xs = go (nat_eq x.emission.thread t && nat_eq x.emission.number j)
  where
    go : (b : _) → times t j xs ≤ cond b (times t j xs + 1) (times t j xs)
    go true = omega arith
    go false = omega arith

-- a name that is contained is counted
contained_times : (xs : List Sent) (output : ℕ × ℕ) → Contains (sent_names xs) output
    → 1 ≤ times output.0 output.1 xs
contained_times [] output (k, low, is) = absurd (omega (arith, low))
contained_times (x ∷ xs) output (zero, low, is) =
    let same : (x.emission.thread, x.emission.number) ≡ output = is in
    let t : x.emission.thread ≡ output.0 = ap (λ (n : ℕ × ℕ). n.0) same in
    let j : x.emission.number ≡ output.1 = ap (λ (n : ℕ × ℕ). n.1) same in
    let a : nat_eq x.emission.thread output.0 ≡ true = grind (arith, nat_tests) in
    let b : nat_eq x.emission.number output.1 ≡ true = grind (arith, nat_tests) in
    rw a (rw b (omega arith))
contained_times (x ∷ xs) output (suc k, low, is) =
    let rest = contained_times xs output (k, omega (arith, low), is) in
    let more = more_times output.0 output.1 x xs in
    omega (arith, rest, more)

module _ {V : Type 0} (s : Setting V) (w : World V) (h : Sound s w) (r : IsAtRest w) where
  output_of : (o : Sent) → IsAmong o w.released → IsOutputIn w.past (o.emission.thread, o.emission.number)
  output_of o i =
      let sends = r.sent o i in (
        (sends_thread s.meaning (inputs_fed s w.fed) s.threads w.past o.emission o.after h.firm.legal sends).1,
        number_high s.meaning (inputs_fed s w.fed) s.threads w.past o.emission o.after h.firm.legal sends,
      )

  pub released_of_world : AreReleased w.past (sent_names w.released)
  released_of_world before rest output e = (there, once)
    where
      at : SentAt w.released before output
      at = sent_at w.released before rest output e

      there : IsOutputIn w.past output
      there = subst (λ (n : ℕ × ℕ). IsOutputIn w.past n) at.name_is (output_of at.sent
          (subst (λ (l : List Sent). IsAmong at.sent l) (sym at.split) (among_mid at.front at.back at.sent)))

      once : Contains before output → ⊥
      once c =
          let t = at.sent.emission.thread in
          let j = at.sent.emission.number in
          let a : 1 ≤ times t j at.front =
          subst (λ (n : ℕ × ℕ). 1 ≤ times n.0 n.1 at.front) (sym at.name_is)
          (contained_times at.front output (subst (λ (l : List (ℕ × ℕ)). Contains l output) (sym at.front_is) c)) in
          let b : 1 ≤ times t j (at.sent ∷ at.back) = among_times at.sent (at.sent ∷ at.back) (inl refl) in
          let all : times t j w.released ≡ times t j at.front + times t j (at.sent ∷ at.back) =
          ap (λ (l : List Sent). times t j l) at.split ∙ times_both t j at.front (at.sent ∷ at.back) in
          let most : times t j w.released + times t j w.waiting ≤ 1 = h.firm.once t j in
          omega (arith, a, b, all, most)

-- The image

-- what is sent out within the limits
few_bytes : (moves bytes : ℕ) → limit_passed moves bytes ≡ None → bytes ≤ MOST_OUTPUT_BYTES
few_bytes moves bytes is = grind (arith, common_steps)

module _ {V : Type 0} (s : Setting V) (w : World V) (h : Sound s w) where
  pub past_plays : play s.meaning (inputs_fed s w.fed) s.threads (moves_made w.past) ≡ Ok w.past
  past_plays = moves_play s.meaning (inputs_fed s w.fed) s.threads w.past h.firm.legal

  pub image_plays : (image : Image) → IsImageOf s w image
      → play s.meaning (inputs_fed s image.fed) s.threads image.past ≡ Ok w.past
  image_plays image is =
      ap (λ (n : ℕ). play s.meaning (inputs_fed s n) s.threads image.past) is.fed
      ∙ (ap (λ (l : List PlainMove). play s.meaning (inputs_fed s w.fed) s.threads l) is.past ∙ past_plays)

  -- what plays to a history is a part of what was done
  part_of_past : (image : Image) → IsImageOf s w image → (steps : List (Step V)) → PlaysTo s image steps
      → IsEarlier steps w.past
  part_of_past image is steps p =
      let whole : play s.meaning (inputs_fed s image.fed) s.threads (p.made ++ p.rest) ≡ Ok w.past =
      ap (λ (l : List PlainMove). play s.meaning (inputs_fed s image.fed) s.threads l) (sym p.moves_are)
      ∙ image_plays image is in
      let q = play_prefix s.meaning (inputs_fed s image.fed) s.threads p.made p.rest w.past whole in
      let e : ◌≡◌ {A = Result (List (Step V)) PlayFault} (Ok q.0) (Ok steps) = sym q.1 ∙ p.plays in
      let same : q.0 ≡ steps = cc in
      subst (λ (l : List (Step V)). IsEarlier l w.past) same q.2

  pub image_counts : IsCounted w → IsWithin w → (image : Image) → IsImageOf s w image → 2 ≤ w.epoch
      → w.epoch < 2 ^ 32 → MayBe s image
  image_counts counted within image is some few = record {
    fed = subst (λ (n : ℕ). n ≤ length s.packets) (sym is.fed) h.firm.fed;
    some_epochs = subst (λ (n : ℕ). 2 ≤ n) (sym is.epoch) some;
    few_epochs = subst (λ (n : ℕ). n < 2 ^ 32) (sym is.epoch) few;
    draws = let a = is.draws in let b = is.moves in let c = counted.draws in omega (arith, a, b, c);
    few_moves = subst (λ (n : ℕ). n ≤ MOST_MOVES) (sym is.moves) (few_moves w.moves w.bytes within);
    few_bytes = subst (λ (n : ℕ). n ≤ MOST_OUTPUT_BYTES) (sym is.bytes) (few_bytes w.moves w.bytes within);
    moves =
        let a : length image.past ≡ length w.past =
        ap (λ (l : List PlainMove). length l) is.past ∙ made_length w.past in
        let b = is.moves in
        let c = counted.moves in
        omega (arith, a, b, c);
    bytes = λ steps p.
        let a = earlier_bytes steps w.past (part_of_past image is steps p) in
        let b = is.bytes in
        let c = counted.bytes in
        omega (arith, a, b, c);
  }

  pub no_fault : IsCounted w → IsWithin w → IsAtRest w → (image : Image) → IsImageOf s w image → 2 ≤ w.epoch
      → w.epoch < 2 ^ 32 → HasNoFault s image
  no_fault counted within rest image is some few = record {
    counts = image_counts counted within image is some few;
    rows = rows_of_image s w image is;
    steps = w.past;
    plays = image_plays image is;
    released = subst (λ (l : List (ℕ × ℕ)). AreReleased w.past l) (sym is.released) (released_of_world s w h rest);
  }

  -- the whole list of an image without a fault plays
  all_play : (image : Image) → IsImageOf s w image → PlaysTo s image w.past
  all_play image is = record {
    made = image.past;
    rest = [];
    moves_are = sym (append-nil image.past);
    plays = image_plays image is;
    stuck = λ next later e. absurd (cc);
  }

  -- a world of an image without a fault has its counts
  pub counted_again : (image : Image) → IsImageOf s w image → HasNoFault s image → IsCounted w
  counted_again image is fine = record {
    draws = let a = is.draws in let b = is.moves in let c = fine.counts.draws in omega (arith, a, b, c);
    moves =
        let a : length image.past ≡ length w.past =
        ap (λ (l : List PlainMove). length l) is.past ∙ made_length w.past in
        let b = is.moves in
        let c = fine.counts.moves in
        omega (arith, a, b, c);
    bytes =
        let b = is.bytes in
        let c = fine.counts.bytes w.past (all_play image is) in
        omega (arith, b, c);
    epochs = is.epochs;
  }

-- a world of an image without a fault is within the limits
within_limits : (moves bytes : ℕ) → moves ≤ MOST_MOVES → bytes ≤ MOST_OUTPUT_BYTES → limit_passed moves bytes ≡ None
within_limits moves bytes few less = grind (arith, common_steps)

pub within_again : {V : Type 0} (s : Setting V) (w : World V) (image : Image) → IsImageOf s w image
    → HasNoFault s image → IsWithin w
within_again s w image is fine =
    within_limits w.moves w.bytes (subst (λ (n : ℕ). n ≤ MOST_MOVES) is.moves fine.counts.few_moves)
    (subst (λ (n : ℕ). n ≤ MOST_OUTPUT_BYTES) is.bytes fine.counts.few_bytes)
