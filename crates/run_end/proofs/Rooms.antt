-- Room for another move, and how many moves are left.
use Rattle.std.proofs.Common.{◌≡◌, ℕ, ◌+◌, ◌-◌, ◌≤◌, ◌<◌, ◌≢◌, List, ◌∷◌, length, inl, inr, ◌⊎◌, arith}
use Rattle.std.specs.Prelude.{◌^◌, slice_index_or, ◌==◌}
use Rattle.std.proofs.lemmas.List.Sums.{length-filter, count_by-le-length}
use Rattle.input_logger.specs.Inputs.{Fed, inputs_of, thread_of}
use Rattle.plain_machine.specs.Program.{Meaning, IsLawful}
use Rattle.plain_machine.specs.History.{Step, moves_of, IsHistory}
use Rattle.plain_machine.proofs.Histories.{moves_step}
use Rattle.plain_machine.proofs.Bounds.{few_moves}
use Rattle.plain_machine.proofs.Hands.{taken_within}
use Rattle.master_core.specs.Mastered.{Mastered, moves_made as part_moves, HasRoom}
use Rattle.master_core.specs.MasterStanding.{Stands}
use Rattle.run_end.proofs.InputLemmas.{none_part}

-- a thread has no more inputs than were fed
few_inputs : (fed : Fed) (t : ℕ) → length (inputs_of fed t) ≤ length fed.packets
few_inputs fed t =
    let e = length-filter (λ packet. thread_of fed.tags packet fed.threads == t) fed.packets in
    let k = count_by-le-length (λ packet. thread_of fed.tags packet fed.threads == t) fed.packets in omega (arith, e, k)

pub room_there : {V : Type 0} (m : Meaning V) (fits : ℕ → V → Type 0) → IsLawful m fits → (fed : Fed) (threads : ℕ)
    (now : List (Step V)) (p : Mastered V) (t : ℕ) → IsHistory m (inputs_of fed) threads now
    → length fed.packets < 2 ^ 50 → Stands m threads now p → t < threads → HasRoom p t
room_there m fits lawful fed threads now p t h few stands low = λ d.
    let made = (stands.thread t d low).made in
    let moves = few_moves m fits lawful (inputs_of fed) threads now h t in
    let taken = taken_within m (inputs_of fed) threads now h t in
    let all = few_inputs fed t in
    omega (arith, made, moves, taken, all, few)

-- how many moves the thread may still make
abbrev pub moves_left : {V : Type 0} → Mastered V → ℕ → ℕ
moves_left p t = 2 ^ 56 - part_moves (slice_index_or p.threads t none_part)

pub moves_fall : {V : Type 0} (m : Meaning V) (threads : ℕ) (now : List (Step V)) (x : Step V) (p q : Mastered V)
    (t : ℕ) → Stands m threads now p → Stands m threads (x ∷ now) q → x.thread ≡ t → t < threads → HasRoom p t
    → moves_left q t < moves_left p t
moves_fall m threads now x p q t before after th low room = go (moves_step t x now)
  where
    go : ((x.thread ≢ t) × (moves_of t (x ∷ now) ≡ moves_of t now))
        ⊎ ((x.thread ≡ t) × (moves_of t (x ∷ now) ≡ moves_of t now + 1)) → moves_left q t < moves_left p t
    go (inl k) = absurd (k.0 th)
    go (inr k) =
        let a = (before.thread t none_part low).made in
        let b = (after.thread t none_part low).made in
        let r = room none_part in
        let c = k.1 in
        omega (arith, a, b, c, r)
