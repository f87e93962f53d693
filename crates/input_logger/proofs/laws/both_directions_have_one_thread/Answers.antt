use Rattle.std.proofs.Common.{◌≡◌, ◌+◌, ℕ, ◌%◌, ap, sym, ◌∙◌, arith, Ok}
use Rattle.tagged_frames.specs.FromPlainText.{Packet}
use Rattle.tagged_frames.specs.FromPacketHeaders.{Flow}
use Rattle.tagged_frames.specs.FromPacketHeaders.{AreBothDirections, steering_sum}
use Rattle.input_logger.specs.Inputs.{thread_of, thread_of_view}
use Rattle.input_logger.proofs.laws.both_directions_have_one_thread.Goals as goal

one_sum : (there back : Flow) → AreBothDirections there back → steering_sum there ≡ steering_sum back
one_sum there back both =
    let a = both.protocol in
    let b = both.source in
    let c = both.source_port in
    let d = both.dest in
    let e = both.dest_port in
    omega arith

pub returns : goal.returns
returns c = λ tags p q there back threads seen_p seen_q both.
    ap (λ v. thread_of_view v threads) seen_p
    ∙ ap (λ (n : ℕ). n % threads) (one_sum there back both)
    ∙ sym (ap (λ v. thread_of_view v threads) seen_q)
