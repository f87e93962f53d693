-- A frame tells what it is the frame of.
use Rattle.std.proofs.Common.{◌≡◌, ℕ, ◌^◌, ◌<◌, List, [], length, refl, sym, ap, subst, ◌∙◌}
use Rattle.std.proofs.lemmas.List.{append-nil}
use Rattle.plain_text.specs.declared.packet.Packet.{Packet}
use Rattle.plain_text.specs.declared.kind.Kind.TheVariants.{Log, Out}
use Rattle.access_log.specs.declared.entry.StampedEntry.{StampedEntry}
use Rattle.access_log.specs.declared.entry.Output.{Output}
use Rattle.wire_frames.specs.declared.frame.Frame.{Frame}
use Rattle.wire_frames.specs.declared.frame.Frame.TheVariants as frame
use Rattle.wire_frames.specs.Layout.{bytes_of, IsFrame}
use Rattle.wire_frames.specs.Places.{subject_at, stamp_at, packet_at}
use Rattle.wire_frames.specs.Writing.{CanPutEntry, CanPutOutput}
use Rattle.wire_frames.proofs.Facts.{version_of_facts}
use Rattle.wire_frames.proofs.Told.{log_value, log_facts, out_value, out_facts}
use Rattle.link_store.specs.Sending.{entry_size, output_size}
use Rattle.link_store.specs.Spelled.{IsEntryFrame, IsOutputFrame}
use Rattle.kept_moves.specs.Keeping.{entry_in, output_in}

stamp_of : Frame → List ℕ
stamp_of (frame.Entry epoch threads e) = e.stamp
stamp_of (frame.Output epoch threads o) = o.stamp

input_of : Frame → ℕ
input_of (frame.Entry epoch threads e) = 0
input_of (frame.Output epoch threads o) = o.input

packet_of : Frame → Packet
packet_of (frame.Entry epoch threads e) = record { seconds = 0; fraction = 0; original = 0; bytes = [] }
packet_of (frame.Output epoch threads o) = o.packet

module _ (epoch threads : ℕ) (e : StampedEntry) (bytes : List ℕ)
    (is : IsFrame bytes (frame.Entry epoch threads e)) where
  pub entry_is : entry_in e.thread e.number e.what bytes ≡ e
  unfolding stamp_of
  entry_is =
      let parts = is.parts ∙ sym (append-nil (bytes_of is.version (length bytes) (frame.Entry epoch threads e))) in
      let sized = ap length is.parts in
      let version_is = version_of_facts Log is.version bytes
      (log_facts is.version bytes [] (length bytes) epoch threads e is.range.0 is.range.1 parts sized) in
      let stamp_is : stamp_at Log is.version bytes ≡ e.stamp =
      ap stamp_of
      (log_value is.version bytes [] (length bytes) epoch threads e is.range.0 is.range.1 parts sized) in
      rw (version_is, stamp_is) refl

  pub entry_frame_is : CanPutEntry epoch threads e → length bytes ≡ entry_size e → length bytes < 2 ^ 32
      → IsEntryFrame epoch threads (entry_in e.thread e.number e.what bytes) bytes
  entry_frame_is can size small =
      subst (λ (q : StampedEntry). IsEntryFrame epoch threads q bytes) (sym entry_is) (record {
        can = can;
        is = is;
        size = size;
        small = small;
      })

module _ (epoch threads : ℕ) (o : Output) (bytes : List ℕ)
    (is : IsFrame bytes (frame.Output epoch threads o)) where
  pub output_is : output_in o.thread o.number bytes ≡ o
  unfolding input_of stamp_of packet_of
  output_is =
      let parts = is.parts ∙ sym (append-nil (bytes_of is.version (length bytes) (frame.Output epoch threads o))) in
      let sized = ap length is.parts in
      let r = is.range in
      let version_is = version_of_facts Out is.version bytes
      (out_facts is.version bytes [] (length bytes) epoch threads o r.0 r.1 r.2 r.3 parts sized) in
      let told = out_value is.version bytes [] (length bytes) epoch threads o r.0 r.1 r.2 r.3 parts sized in
      let input_is : subject_at bytes ≡ o.input = ap input_of told in
      let stamp_is : stamp_at Out is.version bytes ≡ o.stamp = ap stamp_of told in
      let packet_is : packet_at is.version bytes ≡ o.packet = ap packet_of told in
      rw (version_is, input_is, stamp_is, packet_is) refl

  pub output_frame_is : CanPutOutput epoch threads o → length bytes ≡ output_size o → length bytes < 2 ^ 32
      → (captured : ℕ) → captured ≡ length o.packet.bytes
      → IsOutputFrame epoch threads (output_in o.thread o.number bytes) bytes
      × (captured ≡ length (output_in o.thread o.number bytes).packet.bytes)
  output_frame_is can size small captured captured_is =
      subst (λ (q : Output). IsOutputFrame epoch threads q bytes × (captured ≡ length q.packet.bytes)) (sym output_is)
      (record { can = can; is = is; size = size; small = small }, captured_is)
