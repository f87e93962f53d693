-- An image without a fault stands for a world.
use Rattle.std.proofs.Common.{◌≡◌, ℕ, zero, suc, ◌+◌, ◌-◌, ◌*◌, ◌/◌, ◌%◌, ◌≤◌, ◌<◌, ◌≢◌, Bool, true, false, cond, List}
use Rattle.std.proofs.Common.{[]}
use Rattle.std.proofs.Common.{◌∷◌, ◌++◌, length, refl, sym, ap, ◌∙◌, subst, inl, inr, ◌⊎◌, arith, Option, Some, None}
use Rattle.std.proofs.Common.{Result, Ok, Err, append_assoc, append-nil, suc-mul}
use Rattle.std.specs.Prelude.{nat_eq, ◌&&◌, if◌then◌else◌}
use Rattle.std.proofs.lemmas.Bool.Decides.{nat_tests}
use Rattle.std.proofs.lemmas.Nat.{div-mul-add, mod-mul-add}
use Rattle.plain_text.specs.declared.packet.Packet.{Packet}
use Rattle.entry_order.proofs.Order.{is_or}
use Rattle.entry_order.proofs.Missing.{output_in}
use Rattle.plain_machine.specs.declared.emission.Emission.{Emission}
use Rattle.plain_machine.specs.declared.plain_move.PlainMove.{PlainMove}
use Rattle.plain_machine.specs.declared.plain_move.PlayCause.{PlayCause}
use Rattle.plain_machine.specs.declared.plain_move.PlayFault.{PlayFault}
use Rattle.plain_machine.specs.Program.{Meaning}
use Rattle.plain_machine.specs.History.{Act, Step, log_of, thread_after, value_after, plain_move, numbered, and_moves}
use Rattle.plain_machine.specs.History.{play, IsStep, IsHistory}
use Rattle.plain_machine.specs.Agree.{SendsAfter}
use Rattle.plain_machine.proofs.Histories.{history_log, earlier_refl}
use Rattle.plain_machine.proofs.PlayedLists.{stuck, move_is_step, play_history}
use Rattle.recovery_world.specs.World.{Setting, Sent, Ended as EndedEpoch, World, inputs_fed}
use Rattle.recovery_world.specs.Events.{IsAmong}
use Rattle.recovery_world.specs.Files.{answer_of, moves_made, sent_names}
use Rattle.recovery_laws.specs.Sound.{times, Sound}
use Rattle.recovery_laws.proofs.AcceptedRuns.{act_answer, held_answer}
use Rattle.recovery_laws.proofs.Finishes.{sent_there}
use Rattle.recovery_laws.proofs.LedMoves.{Made, made_move}
use Rattle.recovery_laws.proofs.Sets.{times_there}
use Rattle.handover.specs.declared.image.Ended.{Ended}
use Rattle.handover.specs.declared.image.Image.{Image}
use Rattle.handover_world.specs.Faults.{wrong_row, IsOutputIn, AreReleased, HasNoFault}
use Rattle.handover_world.specs.Images.{rows_of, ended_rows, IsImageOf, IsAtRest}

-- The moves of a list that was played

module _ {V : Type 0} (m : Meaning V) (inputs : ℕ → List Packet) (threads : ℕ) where
  move_of : (steps : List (Step V)) (move : PlainMove) (x : Step V)
      → Made m inputs threads steps move.thread move.answer x
      → ◌≡◌ {A = PlainMove} (record { thread = x.thread; answer = answer_of x.act }) move
  move_of steps move x made =
      let t = move.thread in
      let answer : move.answer ≡ answer_of x.act =
      held_answer m (inputs t) (value_after m steps) (thread_after steps t).taken move.answer
      (thread_after steps t).hand x.after made.effect made.moved
      ∙ (sym (act_answer t x.after.taken steps made.effect) ∙ ap (λ (a : Act V). answer_of a) (sym made.act)) in
      ap (λ (n : ℕ). let z : PlainMove = record { thread = n; answer = answer_of x.act } in z) made.thread
      ∙ ap (λ (a : Option ℕ). let z : PlainMove = record { thread = t; answer = a } in z) (sym answer)

  moves_kept : (moves : List PlainMove) (steps next : List (Step V))
      → and_moves m inputs threads (Ok steps) moves ≡ Ok next → moves_made next ≡ moves_made steps ++ moves
  moves_kept [] steps next e =
      let same : steps ≡ next = cc in
      ap (λ (l : List (Step V)). moves_made l) (sym same) ∙ sym (append-nil (moves_made steps))
  moves_kept (move ∷ moves) steps next e =
      go (plain_move m inputs threads steps move) refl e (λ one. moves_kept moves one next)
    where
      go : (o : Result (List (Step V)) PlayCause) → plain_move m inputs threads steps move ≡ o
          → and_moves m inputs threads (numbered (length steps) o) moves ≡ Ok next
          → ((one : List (Step V)) → and_moves m inputs threads (Ok one) moves ≡ Ok next
          → moves_made next ≡ moves_made one ++ moves)
          → moves_made next ≡ moves_made steps ++ move ∷ moves
      go (Err cause) k e later =
          let bad : ◌≡◌ {A = Result (List (Step V)) PlayFault} (Err (record {
            number = length steps + 1;
            cause = cause;
          })) (Ok next) =
          sym (stuck m inputs threads moves (record { number = length steps + 1; cause = cause })) ∙ e in
          absurd (cc)
      go (Ok one) k e later = more (move_is_step m inputs threads steps one move k)
        where
          more : (x : Step V) × IsStep m inputs threads steps x × (one ≡ x ∷ steps)
              → moves_made next ≡ moves_made steps ++ move ∷ moves
          more (x, legal, same) =
              let here : plain_move m inputs threads steps move ≡ Ok (x ∷ steps) =
              k ∙ ap (λ (l : List (Step V)). let r : Result (List (Step V)) PlayCause = Ok l in r) same in
              let name = move_of steps move x (made_move m inputs threads steps move x here) in
              later one e
              ∙ (ap (λ (l : List (Step V)). moves_made l ++ moves) same
              ∙ (append_assoc (moves_made steps) (record { thread = x.thread; answer = answer_of x.act } ∷ []) moves
              ∙ ap (λ (z : PlainMove). moves_made steps ++ z ∷ moves) name))

  -- A list that plays has the moves of its history.
  pub played_moves : (moves : List PlainMove) (steps : List (Step V)) → play m inputs threads moves ≡ Ok steps
      → moves_made steps ≡ moves
  played_moves moves steps e = moves_kept moves [] steps e

-- The ended epochs

same_row : {epoch epoch' thread thread' entries entries' outputs outputs' : ℕ} → epoch ≡ epoch' → thread ≡ thread'
    → entries ≡ entries' → outputs ≡ outputs'
    → ◌≡◌ {A = Ended} (record { epoch = epoch; thread = thread; entries = entries; outputs = outputs })
    (record { epoch = epoch'; thread = thread'; entries = entries'; outputs = outputs' })
same_row a b c d = cc

-- the first epoch with other counts of one thread
abbrev at_thread : ℕ → Ended → EndedEpoch → EndedEpoch
at_thread t row x = record {
  entries = λ u. cond (nat_eq u t) row.entries (x.entries u);
  outputs = λ u. cond (nat_eq u t) row.outputs (x.outputs u);
}

-- the rows of later threads are the same
rows_behind : (epoch t : ℕ) (row : Ended) (x : EndedEpoch) (u many : ℕ) → t < u
    → rows_of epoch x u many ≡ rows_of epoch (at_thread t row x) u many
rows_behind epoch t row x u zero high = refl
rows_behind epoch t row x u (suc many) high =
    ap (λ (z : Ended). z ∷ rows_of epoch x (u + 1) many) (same_row refl refl entries outputs)
    ∙ ap (λ (l : List Ended).
    (record {
      epoch = epoch;
      thread = u;
      entries = (at_thread t row x).entries u;
      outputs = (at_thread t row x).outputs u;
    })
    ∷ l) (rows_behind epoch t row x (u + 1) many (omega (arith, high)))
  where
    other : nat_eq u t ≡ false
    other = let k : u ≢ t = omega (arith, high) in grind (arith, nat_tests)

    entries : x.entries u ≡ (at_thread t row x).entries u
    entries = rw other refl

    outputs : x.outputs u ≡ (at_thread t row x).outputs u
    outputs = rw other refl

-- The rows begin with those of an epoch, from a thread on, and the rest is right from there.
record Chunk (threads epoch t many more : ℕ) (rows : List Ended) : Type 0 where
  ended : EndedEpoch
  rest : List Ended
  rows_are : rows ≡ rows_of (epoch + 1) ended t many ++ rest
  right : wrong_row threads (epoch * threads + threads) more rest ≡ None

-- the first row is right, and so are those behind it
record Front (threads epoch before t more : ℕ) (row : Ended) (rest : List Ended) : Type 0 where
  epoch_is : row.epoch ≡ epoch + 1
  thread_is : row.thread ≡ t
  right : wrong_row threads (before + 1) more rest ≡ None

front_of : (threads epoch before t more : ℕ) (row : Ended) (rest : List Ended) → before ≡ epoch * threads + t
    → t < threads → wrong_row threads before (suc more) (row ∷ rest) ≡ None
    → Front threads epoch before t more row rest
front_of threads epoch before t more row rest at low e =
    go (nat_eq row.epoch (before / threads + 1)) (nat_eq row.thread (before % threads)) refl refl e
  where
    go : (b c : Bool) → nat_eq row.epoch (before / threads + 1) ≡ b → nat_eq row.thread (before % threads) ≡ c
        → (if b && c then wrong_row threads (before + 1) more rest else Some (before + 1)) ≡ None
        → Front threads epoch before t more row rest
    go true true p q k = record {
      epoch_is =
          let d : before / threads ≡ epoch = ap (λ (n : ℕ). n / threads) at ∙ div-mul-add epoch threads t low in
          let same : row.epoch ≡ before / threads + 1 = grind (arith, nat_tests) in
          same ∙ ap (λ (n : ℕ). n + 1) d;
      thread_is =
          let d : before % threads ≡ t = ap (λ (n : ℕ). n % threads) at ∙ mod-mul-add epoch threads t low in
          let same : row.thread ≡ before % threads = grind (arith, nat_tests) in
          same ∙ d;
      right = k;
    }
    go true false p q k = absurd (cc)
    go false true p q k = absurd (cc)
    go false false p q k = absurd (cc)

chunk : (threads epoch before t many all more : ℕ) (rows : List Ended) → before ≡ epoch * threads + t
    → t + many ≡ threads → all ≡ many + more → wrong_row threads before all rows ≡ None
    → Chunk threads epoch t many more rows
chunk threads epoch before t zero all more rows at last few e = record {
  ended = record { entries = λ u. 0; outputs = λ u. 0 };
  rest = rows;
  rows_are = refl;
  right =
      let a : before ≡ epoch * threads + threads = omega (arith, at, last) in
      let b : all ≡ more = omega (arith, few) in
      subst (λ (n : ℕ). wrong_row threads n more rows ≡ None) a
      (subst (λ (n : ℕ). wrong_row threads before n rows ≡ None) b e);
}
chunk threads epoch before t (suc many) all more [] at last few e =
    let b : all ≡ suc (many + more) = omega (arith, few) in
    let k : wrong_row threads before (suc (many + more)) [] ≡ None =
    subst (λ (n : ℕ). wrong_row threads before n [] ≡ None) b e in
    absurd (cc)
chunk threads epoch before t (suc many) all more (row ∷ rest) at last few e =
    go (chunk threads epoch (before + 1) (t + 1) many (many + more) more rest (omega (arith, at)) (omega (arith, last))
    refl front.right)
  where
    front : Front threads epoch before t (many + more) row rest
    front =
        let b : all ≡ suc (many + more) = omega (arith, few) in
        front_of threads epoch before t (many + more) row rest at (omega (arith, last))
        (subst (λ (n : ℕ). wrong_row threads before n (row ∷ rest) ≡ None) b e)

    mine : nat_eq t t ≡ true
    mine = grind (arith, nat_tests)

    first : (x : EndedEpoch) → ◌≡◌ {A = Ended} row (record {
      epoch = epoch + 1;
      thread = t;
      entries = (at_thread t row x).entries t;
      outputs = (at_thread t row x).outputs t;
    })
    first x = same_row front.epoch_is front.thread_is (rw mine refl) (rw mine refl)

    go : Chunk threads epoch (t + 1) many more rest → Chunk threads epoch t (suc many) more (row ∷ rest)
    go c = record {
      ended = at_thread t row c.ended;
      rest = c.rest;
      rows_are =
          ap (λ (z : Ended). z ∷ rest) (first c.ended)
          ∙ ap (λ (l : List Ended).
          (record {
            epoch = epoch + 1;
            thread = t;
            entries = (at_thread t row c.ended).entries t;
            outputs = (at_thread t row c.ended).outputs t;
          })
          ∷ l)
          (c.rows_are
          ∙ ap (λ (l : List Ended). l ++ c.rest)
          (rows_behind (epoch + 1) t row c.ended (t + 1) many (omega arith)));
      right = c.right;
    }

-- some ended epochs have these rows
record EndedThere (threads many : ℕ) (rows : List Ended) : Type 0 where
  pub ended : List EndedEpoch
  pub long : length ended ≡ many
  pub rows_are : rows ≡ ended_rows threads ended

ended_more : (threads more epoch many all before : ℕ) (done : List EndedEpoch) (rows whole : List Ended)
    → length done ≡ epoch → many ≡ epoch + more → all ≡ more * threads → before ≡ epoch * threads
    → whole ≡ ended_rows threads done ++ rows → wrong_row threads before all rows ≡ None
    → EndedThere threads many whole
ended_more threads zero epoch many all before done rows whole long count few at is e = record {
  ended = done;
  long = omega (arith, long, count);
  rows_are = is ∙ (ap (λ (l : List Ended). ended_rows threads done ++ l) (none_left rows none)
      ∙ append-nil (ended_rows threads done));
}
  where
    none : wrong_row threads before 0 rows ≡ None
    none =
        let k : all ≡ 0 = let z : 0 * threads ≡ 0 = omega arith in few ∙ z in
        subst (λ (n : ℕ). wrong_row threads before n rows ≡ None) k e

    none_left : (l : List Ended) → wrong_row threads before 0 l ≡ None → l ≡ []
    none_left [] k = refl
    none_left (x ∷ l) k = absurd (cc)
ended_more threads (suc more) epoch many all before done rows whole long count few at is e =
    ended_more threads more (epoch + 1) many (more * threads) (epoch * threads + threads) (c.ended ∷ done) c.rest whole
    (omega (arith, long)) (omega (arith, count)) refl next split c.right
  where
    c : Chunk threads epoch 0 threads (more * threads) rows
    c = chunk threads epoch before 0 threads all (more * threads) rows (omega (arith, at)) (omega arith)
        (let turn = suc-mul more threads in omega (arith, few, turn)) e

    next : epoch * threads + threads ≡ (epoch + 1) * threads
    next =
        let turn = suc-mul epoch threads in
        let same : suc epoch ≡ epoch + 1 = omega arith in
        sym turn ∙ ap (λ (n : ℕ). n * threads) same

    split : whole ≡ (ended_rows threads done ++ rows_of (length done + 1) c.ended 0 threads) ++ c.rest
    split =
        is
        ∙ (ap (λ (l : List Ended). ended_rows threads done ++ l)
        (c.rows_are
        ∙ ap (λ (n : ℕ). rows_of (n + 1) c.ended 0 threads ++ c.rest) (sym long))
        ∙ sym (append_assoc (ended_rows threads done) (rows_of (length done + 1) c.ended 0 threads) c.rest))

ended_there : (threads epoch : ℕ) (rows : List Ended) → wrong_row threads 0 ((epoch - 1) * threads) rows ≡ None
    → EndedThere threads (epoch - 1) rows
ended_there threads epoch rows e =
    let zeros : 0 ≡ 0 * threads = omega arith in
    ended_more threads (epoch - 1) 0 (epoch - 1) ((epoch - 1) * threads) 0 [] rows rows refl (omega arith) refl zeros
    refl e

-- The released outputs

module _ {V : Type 0} (steps : List (Step V)) where
  tail_released : (x : ℕ × ℕ) (names : List (ℕ × ℕ)) → AreReleased steps (x ∷ names) → AreReleased steps names
  tail_released x names good before rest output e =
      let r = good (x ∷ before) rest output (ap (λ (l : List (ℕ × ℕ)). x ∷ l) e) in
      (r.0, λ c. r.1 (let low = c.1 in (suc c.0, omega (arith, low), c.2)))

  -- each has been sent
  record SentThere (names : List (ℕ × ℕ)) : Type 0 where
    pub sent : List Sent
    pub names_are : sent_names sent ≡ names
    pub sends : (o : Sent) → IsAmong o sent → SendsAfter steps o.emission o.after

  sent_of_names : (m : Meaning V) (inputs : ℕ → List Packet) (threads : ℕ) → IsHistory m inputs threads steps
      → (names : List (ℕ × ℕ)) → AreReleased steps names → SentThere names
  sent_of_names m inputs threads h [] good = record { sent = []; names_are = refl; sends = λ o i. absurd i }
  sent_of_names m inputs threads h (x ∷ names) good =
      go (sent_of_names m inputs threads h names (tail_released x names good))
    where
      is : IsOutputIn steps x
      is = (good [] names x refl).0

      one : (o : Emission) × (n : ℕ) × SendsAfter steps o n × (o.thread ≡ x.0) × (o.number ≡ x.1)
      one = sent_there m inputs threads x.0 x.1 steps h is.0 is.1

      name : ◌≡◌ {A = ℕ × ℕ} (one.0.thread, one.0.number) x
      name =
          ap (λ (n : ℕ). let z : ℕ × ℕ = (n, one.0.number) in z) one.3
          ∙ ap (λ (n : ℕ). let z : ℕ × ℕ = (x.0, n) in z) one.4

      go : SentThere names → SentThere (x ∷ names)
      go r = record {
        sent = record { emission = one.0; after = one.1 } ∷ r.sent;
        names_are = ap (λ (z : ℕ × ℕ). z ∷ sent_names r.sent) name ∙ ap (λ (l : List (ℕ × ℕ)). x ∷ l) r.names_are;
        sends = sends;
      }
        where
          sends : (o : Sent) → IsAmong o (record { emission = one.0; after = one.1 } ∷ r.sent)
              → SendsAfter steps o.emission o.after
          sends o (inl same) = subst (λ (z : Sent). SendsAfter steps z.emission z.after) same one.2
          sends o (inr i) = r.sends o i

  name_there : (o : Sent) (xs : List Sent) → IsAmong o xs
      → (before : List (ℕ × ℕ)) × (rest : List (ℕ × ℕ))
      × (sent_names xs ≡ before ++ (o.emission.thread, o.emission.number) ∷ rest)
  name_there o [] i = absurd i
  name_there o (x ∷ xs) (inl same) = (
    [],
    sent_names xs,
    ap (λ (z : Sent). let l : List (ℕ × ℕ) = (z.emission.thread, z.emission.number) ∷ sent_names xs in l) same,
  )
  name_there o (x ∷ xs) (inr i) = let r = name_there o xs i in (
    (x.emission.thread, x.emission.number) ∷ r.0,
    r.1,
    ap (λ (l : List (ℕ × ℕ)). let k : List (ℕ × ℕ) = (x.emission.thread, x.emission.number) ∷ l in k) r.2,
  )

  -- each is there once
  released_once : (t j : ℕ) (xs : List Sent) → AreReleased steps (sent_names xs) → times t j xs ≤ 1
  released_once t j [] good = omega arith
  released_once t j (x ∷ xs) good =
      go (is_or x.emission.thread t) (is_or x.emission.number j)
      (released_once t j xs (tail_released (x.emission.thread, x.emission.number) (sent_names xs) good))
    where
      none : x.emission.thread ≡ t → x.emission.number ≡ j → 1 ≤ times t j xs → ⊥
      none a b some =
          let o = times_there t j xs some in
          let n = name_there o.0 xs o.2 in
          let th : x.emission.thread ≡ o.0.emission.thread = a ∙ sym o.1.0 in
          let no : x.emission.number ≡ o.0.emission.number = b ∙ sym o.1.1 in
          (good ((x.emission.thread, x.emission.number) ∷ n.0) n.1 (o.0.emission.thread, o.0.emission.number)
          (ap (λ (l : List (ℕ × ℕ)). let k : List (ℕ × ℕ) = (x.emission.thread, x.emission.number) ∷ l in k) n.2)).1 (
            0,
            omega arith,
            ap (λ (n : ℕ). let z : ℕ × ℕ = (n, x.emission.number) in z) th
                ∙ ap (λ (n : ℕ). let z : ℕ × ℕ = (o.0.emission.thread, n) in z) no,
          )

      go : (x.emission.thread ≡ t) ⊎ (x.emission.thread ≢ t) → (x.emission.number ≡ j) ⊎ (x.emission.number ≢ j)
          → times t j xs ≤ 1 → times t j (x ∷ xs) ≤ 1
      go (inl a) (inl b) low =
          let p : nat_eq x.emission.thread t ≡ true = grind (arith, nat_tests) in
          let q : nat_eq x.emission.number j ≡ true = grind (arith, nat_tests) in
          rw p (rw q (few (is_or (times t j xs) 0)))
        where
          few : (times t j xs ≡ 0) ⊎ (times t j xs ≢ 0) → times t j xs + 1 ≤ 1
          few (inl zeros) = omega (arith, zeros)
          few (inr some) = absurd (none a b (omega (arith, some)))
      go (inr a) b low = let p : nat_eq x.emission.thread t ≡ false = grind (arith, nat_tests) in rw p low
      go (inl a) (inr b) low =
          let p : nat_eq x.emission.thread t ≡ true = grind (arith, nat_tests) in
          let q : nat_eq x.emission.number j ≡ false = grind (arith, nat_tests) in
          rw p (rw q low)

-- The world

module _ {V : Type 0} (s : Setting V) (image : Image) (steps : List (Step V)) (sent : List Sent)
    (ended : List EndedEpoch) where
  abbrev world_of : World V
  world_of = record {
    fed = image.fed;
    clock = image.clock;
    drawn = image.draws;
    epoch = image.epoch;
    up = true;
    past = steps;
    stored = steps;
    copy = None;
    held = [];
    followed = [];
    waiting = [];
    released = sent;
    ended = ended;
    moves = image.moves;
    bytes = image.bytes;
  }

  world_rests : ((o : Sent) → IsAmong o sent → SendsAfter steps o.emission o.after) → IsAtRest world_of
  world_rests sends = record {
    up = refl;
    stored = refl;
    copy = refl;
    held = λ e i. absurd i;
    followed = λ e i. absurd i;
    waiting = refl;
    sent = sends;
  }

  world_sound : image.fed ≤ length s.packets → IsHistory s.meaning (inputs_fed s image.fed) s.threads steps
      → ((o : Sent) → IsAmong o sent → SendsAfter steps o.emission o.after) → ((t j : ℕ) → times t j sent ≤ 1)
      → Sound s world_of
  world_sound low legal sends once = record {
    firm = record {
      fed = low;
      legal = legal;
      stored = earlier_refl steps;
      copied = λ copy e. absurd (cc);
      down = λ e. refl;
      more = [];
      to_come = λ e. ((λ h. absurd h), (λ h. h.0));
      log = history_log s.meaning (inputs_fed s image.fed) s.threads steps legal;
      known = [];
      closed = λ e f he hf n. absurd hf;
      here = λ e h. absurd h;
      follows = λ e h. h;
      only = λ e h. absurd h;
      origin = [];
      origin_is = tt;
      made = λ e h. absurd h;
      held = λ e h. absurd h;
      held_once = tt;
      held_on = λ e h. h;
      released = λ o i. record {
        run = steps;
        history = legal;
        sends = sends o i;
        before = log_of steps;
        precedes = λ e p. output_in (log_of steps) o.emission.thread o.after e p;
        of_run = λ e h. h;
        closed_there = λ e f he hf n. he;
        known = λ e h. inr h;
        closed_here = λ e f he hf n. he;
      };
      sent = λ o h. absurd h;
      once = λ t j. let k = once t j in omega (arith, k);
    };
    waits = λ o h may. h;
  }

  world_image : image.epoch ≡ length ended + 1 → image.ended ≡ ended_rows s.threads ended
      → sent_names sent ≡ image.released → moves_made steps ≡ image.past → IsImageOf s world_of image
  world_image epochs rows names moves = record {
    fed = refl;
    clock = refl;
    draws = refl;
    epoch = refl;
    epochs = sym epochs;
    moves = refl;
    bytes = refl;
    ended = rows;
    released = sym names;
    past = sym moves;
  }

pub world_there : {V : Type 0} (s : Setting V) (image : Image) → HasNoFault s image
    → (w : World V) × Sound s w × IsAtRest w × IsImageOf s w image
world_there {V} s image fine = (
  world_of s image fine.steps sent.sent ended.ended,
  world_sound s image fine.steps sent.sent ended.ended fine.counts.fed legal sent.sends once,
  world_rests s image fine.steps sent.sent ended.ended sent.sends,
  world_image s image fine.steps sent.sent ended.ended epochs ended.rows_are sent.names_are
      (played_moves s.meaning (inputs_fed s image.fed) s.threads image.past fine.steps fine.plays),
)
  where
    legal : IsHistory s.meaning (inputs_fed s image.fed) s.threads fine.steps
    legal = (play_history s.meaning (inputs_fed s image.fed) s.threads image.past fine.steps fine.plays).0

    sent : SentThere fine.steps image.released
    sent = sent_of_names fine.steps s.meaning (inputs_fed s image.fed) s.threads legal image.released fine.released

    once : (t j : ℕ) → times t j sent.sent ≤ 1
    once t j = released_once fine.steps t j sent.sent
        (subst (λ (l : List (ℕ × ℕ)). AreReleased fine.steps l) (sym sent.names_are) fine.released)

    ended : EndedThere s.threads (image.epoch - 1) image.ended
    ended = ended_there s.threads image.epoch image.ended fine.rows

    epochs : image.epoch ≡ length ended.ended + 1
    epochs =
        let some = fine.counts.some_epochs in
        let long = ended.long in
        omega (arith, some, long)
