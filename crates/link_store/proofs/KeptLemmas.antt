-- Bytes are the frame of one value at most, and are read without a fault. What is kept as an output has a frame in each
-- epoch.
use Rattle.std.proofs.Common.{◌≡◌, ℕ, ◌+◌, ◌-◌, ◌^◌, ◌<◌, ◌≤◌, List, Result, Err, Some, length, refl, sym, ap, ◌∙◌, subst, arith}
use Rattle.plain_text.specs.declared.packet.Packet.{Packet}
use Rattle.wire_frames.specs.FromAccessLog.{StampedEntry}
use Rattle.wire_frames.specs.FromAccessLog.{Output}
use Rattle.wire_frames.specs.declared.frame.Frame.{Frame}
use Rattle.wire_frames.specs.declared.frame.Frame.TheVariants as frame
use Rattle.wire_frames.specs.declared.frame.FrameError.{FrameError}
use Rattle.wire_frames.specs.declared.frame.FrameError.TheVariants as error
use Rattle.wire_frames.specs.declared.frame.FrameFault.{FrameFault}
use Rattle.wire_frames.specs.Faults.{Gives}
use Rattle.wire_frames.specs.Layout.{written, IsFrame, BeginsWith}
use Rattle.wire_frames.specs.Writing.{CanPutOutput}
use Rattle.wire_frames.proofs.Whole.{begins_whole, same_frame, is_written}
use Rattle.link_store.specs.declared.kept.Form.{Form}
use Rattle.link_store.specs.declared.kept.Form.TheVariants.{Spelled, Told}
use Rattle.link_store.specs.Kept.{bytes_of, told_of, HasFrame, IsTold, IsWell, Tells}

-- a frame is not at fault
pub gives_no_fault : (r : Result (Frame × ℕ) FrameError) (fault : FrameFault) (f : Frame) (size : ℕ)
    → r ≡ Err (error.Fault fault) → Gives r f size → ⊥
gives_no_fault r fault f size is gives = subst (λ (q : Result (Frame × ℕ) FrameError). Gives q f size) is gives

one_value : (bytes : List ℕ) (f g : Frame) → IsFrame bytes f → IsFrame bytes g → f ≡ g
one_value bytes f g first second =
    (same_frame bytes f g (length bytes) (length bytes) (begins_whole bytes f first) (begins_whole bytes g second)).0

pub same_sent : (epoch threads other_epoch other : ℕ) (o p : Output)
    → Some (frame.Output epoch threads o) ≡ Some (frame.Output other_epoch other p) → (threads ≡ other) × (o ≡ p)
same_sent epoch threads other_epoch other o p is = (cc, cc)

-- what may be written in one epoch may be in each other
pub can_in : (epoch other threads : ℕ) (o : Output) → 1 ≤ other → CanPutOutput epoch threads o
    → CanPutOutput other threads o
can_in epoch other threads o from can = record {
  sent = record {
    epoch_from = from;
    threads_from = can.sent.threads_from;
    threads_to = can.sent.threads_to;
    of_these = can.sent.of_these;
    number_from = can.sent.number_from;
    none = can.sent.none;
  };
  input = can.input;
  captured = can.captured;
}

module _ (epoch threads : ℕ) (o : Output) (well : HasFrame threads o) where
  pub its_frame : 1 ≤ epoch → epoch < 2 ^ 32
      → IsFrame (written (frame.Output epoch threads o)) (frame.Output epoch threads o)
  its_frame from to =
      let r = well.range in
      is_written (frame.Output epoch threads o) (
        record {
          epoch_from = from;
          epoch_to = to;
          threads_from = r.0.threads_from;
          threads_to = r.0.threads_to;
          of_these = r.0.of_these;
          number_from = r.0.number_from;
          number_to = r.0.number_to;
          components = r.0.components;
        },
        r.1,
        r.2,
        r.3,
      )

  pub no_entry : (other : ℕ) (e : StampedEntry)
      → IsFrame (written (frame.Output epoch threads o)) (frame.Entry epoch other e) → ⊥
  no_entry other e is =
      let same = one_value (written (frame.Output epoch threads o)) (frame.Output epoch threads o)
      (frame.Entry epoch other e) (its_frame is.range.0.epoch_from is.range.0.epoch_to) is in cc

  pub one_output : (other : ℕ) (p : Output)
      → IsFrame (written (frame.Output epoch threads o)) (frame.Output epoch other p) → (threads ≡ other) × (o ≡ p)
  one_output other p is =
      let same = one_value (written (frame.Output epoch threads o)) (frame.Output epoch threads o)
      (frame.Output epoch other p) (its_frame is.range.0.epoch_from is.range.0.epoch_to) is in (cc, cc)

-- the output of a frame has one in the first epoch
pub first_frame : (bytes : List ℕ) (epoch threads size : ℕ) (o : Output)
    → BeginsWith bytes (frame.Output epoch threads o) size → HasFrame threads o
first_frame bytes epoch threads size o begins =
    let r = begins.is.range in
    is_written (frame.Output 1 threads o) (
      record {
        epoch_from = omega arith;
        epoch_to = omega arith;
        threads_from = r.0.threads_from;
        threads_to = r.0.threads_to;
        of_these = r.0.of_these;
        number_from = r.0.number_from;
        number_to = r.0.number_to;
        components = r.0.components;
      },
      r.1,
      r.2,
      r.3,
    )

-- what is kept as an output tells it in each epoch
pub told_same : (epoch : ℕ) (f : Form) → IsTold f → Tells epoch f f
told_same epoch (Spelled bytes) told threads o is = absurd told
told_same epoch (Told sent out) told threads o is = let k = one_output epoch sent out told threads o is in cc

-- it is the frame of no entry
pub told_no_entry : (epoch : ℕ) (f : Form) → IsTold f → (threads : ℕ) (e : StampedEntry)
    → IsFrame (bytes_of epoch f) (frame.Entry epoch threads e) → ⊥
told_no_entry epoch (Spelled bytes) told threads e is = told
told_no_entry epoch (Told sent out) told threads e is = no_entry epoch sent out told threads e is

-- and its output has this stamp
pub told_stamp : (epoch sent thread number input : ℕ) (stamp : List ℕ) (packet : Packet)
    → IsTold (told_of sent thread number input stamp packet) → (threads : ℕ) (o : Output)
    → IsFrame (bytes_of epoch (told_of sent thread number input stamp packet)) (frame.Output epoch threads o)
    → stamp ≡ o.stamp
told_stamp epoch sent thread number input stamp packet told threads o is =
    let out : Output = record { thread = thread; number = number; input = input; stamp = stamp; packet = packet } in
    ap (λ (x : Output). x.stamp) (one_output epoch sent out told threads o is).1

-- so it has its frame in the next one
pub tells_on : (epoch : ℕ) (f g : Form) → epoch < 2 ^ 32 - 1 → IsTold g → Tells epoch f g → (threads : ℕ) (o : Output)
    → IsFrame (bytes_of epoch f) (frame.Output epoch threads o)
    → IsFrame (bytes_of (epoch + 1) g) (frame.Output (epoch + 1) threads o)
tells_on epoch f g few told tells threads o is =
    let same = tells threads o is in
    subst (λ (q : Form). IsFrame (bytes_of (epoch + 1) q) (frame.Output (epoch + 1) threads o)) (sym same)
    (its_frame (epoch + 1) threads o (subst IsTold same told) (omega arith) (omega (arith, few)))

pub told_is : (threads other : ℕ) (o p : Output) → threads ≡ other → o ≡ p → Told threads o ≡ Told other p
told_is threads other o p a b = ap (λ (n : ℕ). Told n o) a ∙ ap (λ (q : Output). Told other q) b

-- what is not kept as its bytes is kept as an output
pub is_told : (f : Form) → IsWell f → ((bytes : List ℕ) → f ≡ Spelled bytes → ⊥) → IsTold f
is_told (Spelled bytes) well not = absurd (not bytes refl)
is_told (Told threads output) well not = well
