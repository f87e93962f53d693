-- A list of moves behind the tags gives what it gives where the tags are looked through.
use Rattle.std.proofs.Common.{◌≡◌, ℕ, Bool, List, [], ◌∷◌, length, refl, sym, ap, ◌∙◌}
use Rattle.std.specs.Prelude.{Result, Ok, Err}
use Rattle.plain_text.specs.declared.packet.Packet.{Packet}
use Rattle.plain_machine.specs.declared.plain_move.PlainMove.{PlainMove}
use Rattle.plain_machine.specs.declared.plain_move.PlayCause.{PlayCause}
use Rattle.plain_machine.specs.declared.plain_move.PlayFault.{PlayFault}
use Rattle.plain_machine.specs.Program.{Meaning}
use Rattle.plain_machine.specs.History.{Step, plain_move, numbered, and_move, and_moves, play, IsHistory}
use Rattle.plain_machine.proofs.PlayedLists.{play_history, history_played}
use Rattle.tagged_box.specs.Tagged.{tagged_meaning}
use Rattle.tagged_box.specs.Tags.{inputs_behind, steps_behind, played_behind}
use Rattle.tagged_box.proofs.Moves.{length_same, move_same}

numbered_same : {V : Type 0} (tags : Bool) (before : ℕ) (r : Result (List (Step V)) PlayCause)
    → numbered before (played_behind tags r) ≡ played_behind tags (numbered before r)
numbered_same tags before (Ok steps) = refl
numbered_same tags before (Err cause) = refl

module _ {V : Type 0} (tags : Bool) (m : Meaning V) (inputs : ℕ → List Packet) (threads : ℕ) where
  one_same : (so_far : Result (List (Step V)) PlayFault) (move : PlainMove)
      → and_move m (inputs_behind tags inputs) threads (played_behind tags so_far) move
      ≡ played_behind tags (and_move (tagged_meaning tags m) inputs threads so_far move)
  one_same (Err fault) move = refl
  one_same (Ok steps) move =
      ap (λ (n : ℕ). numbered n (plain_move m (inputs_behind tags inputs) threads (steps_behind tags steps) move))
      (length_same tags steps)
      ∙ (ap (λ (r : Result (List (Step V)) PlayCause). numbered (length steps) r)
      (move_same tags m inputs threads steps move)
      ∙ numbered_same tags (length steps) (plain_move (tagged_meaning tags m) inputs threads steps move))

  moves_same : (moves : List PlainMove) (so_far : Result (List (Step V)) PlayFault)
      → and_moves m (inputs_behind tags inputs) threads (played_behind tags so_far) moves
      ≡ played_behind tags (and_moves (tagged_meaning tags m) inputs threads so_far moves)
  moves_same [] so_far = refl
  moves_same (move ∷ moves) so_far =
      ap (λ (r : Result (List (Step V)) PlayFault). and_moves m (inputs_behind tags inputs) threads r moves)
      (one_same so_far move)
      ∙ moves_same moves (and_move (tagged_meaning tags m) inputs threads so_far move)

  -- The same list of moves gives both runs.
  pub play_same : (moves : List PlainMove)
      → play m (inputs_behind tags inputs) threads moves
      ≡ played_behind tags (play (tagged_meaning tags m) inputs threads moves)
  play_same moves = moves_same moves (Ok [])

  -- Behind the tags, a run that looks through them is one of the box itself.
  pub run_behind : (steps : List (Step V)) → IsHistory (tagged_meaning tags m) inputs threads steps
      → IsHistory m (inputs_behind tags inputs) threads (steps_behind tags steps)
  run_behind steps h =
      let r = history_played (tagged_meaning tags m) inputs threads steps h in
      (play_history m (inputs_behind tags inputs) threads r.0 (steps_behind tags steps)
      (play_same r.0 ∙ ap (λ (o : Result (List (Step V)) PlayFault). played_behind tags o) r.1)).0

  -- Each run of the box itself behind the tags is one that looks through them.
  pub run_in_front : (others : List (Step V)) → IsHistory m (inputs_behind tags inputs) threads others
      → (steps : List (Step V)) × IsHistory (tagged_meaning tags m) inputs threads steps
      × (steps_behind tags steps ≡ others)
  run_in_front others h = find (history_played m (inputs_behind tags inputs) threads others h)
    where
      go : (moves : List PlainMove) (o : Result (List (Step V)) PlayFault)
          → play (tagged_meaning tags m) inputs threads moves ≡ o → played_behind tags o ≡ Ok others
          → (steps : List (Step V)) × IsHistory (tagged_meaning tags m) inputs threads steps
          × (steps_behind tags steps ≡ others)
      go moves (Err fault) e k = absurd (cc)
      go moves (Ok steps) e k =
          (steps, (play_history (tagged_meaning tags m) inputs threads moves steps e).0, cc)

      find : (moves : List PlainMove) × (play m (inputs_behind tags inputs) threads moves ≡ Ok others)
          → (steps : List (Step V)) × IsHistory (tagged_meaning tags m) inputs threads steps
          × (steps_behind tags steps ≡ others)
      find (moves, e) =
          go moves (play (tagged_meaning tags m) inputs threads moves) refl (sym (play_same moves) ∙ e)
