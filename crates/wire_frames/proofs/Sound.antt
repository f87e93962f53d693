-- Bytes that pass every test begin with a frame.
use Rattle.std.proofs.Common.{◌≡◌, ℕ, ◌+◌, ◌^◌, ◌<◌, ◌≤◌, ◌∙◌, inl, inr, List, [], ◌∷◌, ◌++◌, length, take, drop, Some}
use Rattle.std.proofs.Common.{refl, sym, ap, arith, append_assoc, length-append}
use Rattle.std.proofs.lemmas.Bool.{ltb-false, eqb-true, eqb-false, or_parts, not-false}
use Rattle.std.proofs.lemmas.List.{length-drop, length-take, take-append-drop}
use Rattle.byteorder.specs.Numbers.{big_from-lt}
use Rattle.plain_text.specs.Octets.{AreBytes}
use Rattle.plain_text.proofs.Octets.{AreBytes-drop}
use Rattle.access_log.specs.FromEntryOrder.{What}
use Rattle.access_log.specs.declared.entry.StampedEntry.{StampedEntry}
use Rattle.access_log.specs.declared.entry.Output.{Output}
use Rattle.plain_text.specs.declared.kind.Kind.{Kind}
use Rattle.plain_text.specs.declared.kind.Kind.TheVariants.{Log, Out}
use Rattle.wire_frames.specs.declared.version.Version.{Version}
use Rattle.wire_frames.specs.declared.version.Version.TheVariants.{One, Two}
use Rattle.wire_frames.specs.Layout.{Field, field, spelled, head, code_of, subject_of, place_field, mask_of}
use Rattle.wire_frames.specs.Layout.{component_fields, packet_fields, entry_fields, output_fields, IsSent, IsCaptured}
use Rattle.wire_frames.specs.Layout.{BeginsWith}
use Rattle.wire_frames.specs.Places.{number_at, length_at, epoch_at, thread_at, code_at, count_at, subject_at, place_at}
use Rattle.wire_frames.specs.Places.{components_place, threads_at, stamp_at, stamp_end, what_at, captured_at, packet_at}
use Rattle.wire_frames.specs.Places.{entry_at, output_at}
use Rattle.wire_frames.proofs.Fields.{IsWidth, AreWidths, fields_at, spelled-fields_at, spelled-append}
use Rattle.wire_frames.proofs.Facts.{Facts}
use Rattle.wire_frames.proofs.Whats.{Tells, numbers-what_from}
use Rattle.wire_frames.proofs.Stands.{listed, mask_stands, stamp_stands, are_components}

-- fields up to a place, and then others
assemble : (front back : List Field) (found : List Field) (at end : ℕ) (bytes : List ℕ)
    → spelled found ++ drop at bytes ≡ bytes → found ≡ front → spelled back ++ drop end bytes ≡ drop at bytes
    → bytes ≡ spelled (front ++ back) ++ drop end bytes
assemble front back found at end bytes first same second =
    sym first
    ∙ ap (λ (fs : List Field). spelled fs ++ drop at bytes) same
    ∙ ap (λ (l : List ℕ). spelled front ++ l) (sym second)
    ∙ sym (append_assoc (spelled front) (spelled back) (drop end bytes))
    ∙ ap (λ (l : List ℕ). l ++ drop end bytes) (sym (spelled-append front back))

-- the widths of the fields up to the number of threads
abbrev pub log_widths : List ℕ → List ℕ
log_widths more = 1 ∷ 1 ∷ 4 ∷ 4 ∷ 1 ∷ 1 ∷ 8 ∷ 8 ∷ 8 ∷ 1 ∷ more

abbrev pub out_widths : List ℕ → List ℕ
out_widths more = 1 ∷ 1 ∷ 4 ∷ 4 ∷ 1 ∷ 1 ∷ 8 ∷ 8 ∷ 1 ∷ more

are_log_widths : (more : List ℕ) → AreWidths more → AreWidths (log_widths more)
are_log_widths more widths =
    let one = inl refl in
    let four = inr (inr (inl refl)) in
    let eight = inr (inr (inr refl)) in
    (one, (one, (four, (four, (one, (one, (eight, (eight, (eight, (one, widths))))))))))

are_out_widths : (more : List ℕ) → AreWidths more → AreWidths (out_widths more)
are_out_widths more widths =
    let one = inl refl in
    let four = inr (inr (inl refl)) in
    let eight = inr (inr (inr refl)) in
    (one, (one, (four, (four, (one, (one, (eight, (eight, (one, widths)))))))))

are_two : AreWidths (2 ∷ [])
are_two = (inr (inl refl), tt)

-- the entry and the output that the bytes tell
abbrev pub entry_from : Version → List ℕ → What → StampedEntry
entry_from version bytes w =
    record { thread = thread_at bytes; number = count_at bytes; what = w; stamp = stamp_at Log version bytes }

abbrev pub output_from : Version → List ℕ → Output
output_from version bytes = record {
  thread = thread_at bytes;
  number = count_at bytes;
  input = subject_at bytes;
  stamp = stamp_at Out version bytes;
  packet = packet_at version bytes;
}

module _ (bytes : List ℕ) (are : AreBytes bytes) where
  number_fits : (w place : ℕ) → number_at w place bytes < 256 ^ w
  number_fits w place = big_from-lt 0 w (drop place bytes) (AreBytes-drop place bytes are)

  is_sent : (kind : Kind) (version : Version) → Facts kind version bytes
      → IsSent (epoch_at bytes) (threads_at kind bytes) (thread_at bytes) (count_at bytes) (stamp_at kind version bytes)
  is_sent kind version facts = record {
    epoch_from = facts.epoch;
    epoch_to = number_fits 4 6;
    threads_from = facts.threads_from;
    threads_to = facts.threads_to;
    of_these = facts.thread;
    number_from = facts.count;
    number_to = number_fits 8 12;
    components = are_components kind version bytes are facts;
  }

  -- an entry
  module _ (w : What) where
    log_parts : (version : Version) → Facts Log version bytes
        → Tells version (code_at bytes) (subject_at bytes) (place_at bytes) w
        → bytes
        ≡ spelled (entry_fields version (length_at bytes) (epoch_at bytes) (threads_at Log bytes)
        (entry_from version bytes w)) ++ drop (stamp_end Log version bytes) bytes
    log_parts One facts tells =
        let whole : length_at bytes ≤ length bytes = facts.whole in
        let sized : length_at bytes ≡ stamp_end Log One bytes = facts.sized in
        let kind_is = facts.kind_is in
        let version_is = facts.version_is in
        let code_is = tells.0 in
        let subject_is = tells.1 in
        let place_is = tells.2 in
        let ws = log_widths [] in
        let front =
        head Log One (length_at bytes) (epoch_at bytes) (thread_at bytes) (code_of w) (count_at bytes) (subject_of w)
        ++ field 8 (place_field w) ∷ field 1 (threads_at Log bytes) ∷ [] in
        let back = component_fields (listed One (threads_at Log bytes) (stamp_at Log One bytes)) in
        let same : fields_at 0 ws bytes ≡ front = cc in
        assemble front back (fields_at 0 ws bytes) 37 (stamp_end Log One bytes) bytes
        (spelled-fields_at 0 ws bytes (are_log_widths [] tt) are (omega arith)) same
        (stamp_stands Log One bytes are facts (omega arith))
    log_parts Two facts tells =
        let whole : length_at bytes ≤ length bytes = facts.whole in
        let sized : length_at bytes ≡ stamp_end Log Two bytes = facts.sized in
        let kind_is = facts.kind_is in
        let version_is = facts.version_is in
        let mask_is = mask_stands Log bytes facts in
        let code_is = tells.0 in
        let subject_is = tells.1 in
        let place_is = tells.2 in
        let ws = log_widths (2 ∷ []) in
        let front =
        head Log Two (length_at bytes) (epoch_at bytes) (thread_at bytes) (code_of w) (count_at bytes) (subject_of w)
        ++ field 8 (place_field w) ∷ field 1 (threads_at Log bytes) ∷ field 2 (mask_of (stamp_at Log Two bytes)) ∷ [] in
        let back = component_fields (listed Two (threads_at Log bytes) (stamp_at Log Two bytes)) in
        let same : fields_at 0 ws bytes ≡ front = cc in
        assemble front back (fields_at 0 ws bytes) 39 (stamp_end Log Two bytes) bytes
        (spelled-fields_at 0 ws bytes (are_log_widths (2 ∷ []) are_two) are (omega arith)) same
        (stamp_stands Log Two bytes are facts (omega arith))

    pub log_begins : (version : Version) → Facts Log version bytes → what_at version bytes ≡ Some w
        → BeginsWith bytes (entry_at version bytes w) (length_at bytes)
    log_begins version facts some =
        let tells = numbers-what_from version (code_at bytes) (subject_at bytes) (place_at bytes) w (number_fits 8 20)
        (number_fits 8 28) some in
        let parts = log_parts version facts tells in
        let first = spelled (entry_fields version (length_at bytes) (epoch_at bytes) (threads_at Log bytes)
        (entry_from version bytes w)) in
        let rest = drop (stamp_end Log version bytes) bytes in
        let whole : length_at bytes ≤ length bytes = facts.whole in
        let sized : length_at bytes ≡ stamp_end Log version bytes = facts.sized in
        let size : length first ≡ length_at bytes =
        omega (arith, ap length parts, length-append first rest, length-drop (stamp_end Log version bytes) bytes) in
        record {
          first = first;
          rest = rest;
          parts = parts;
          sized = size;
          is = record {
            version = version;
            parts = ap (λ (n : ℕ).
                spelled (entry_fields version n (epoch_at bytes) (threads_at Log bytes) (entry_from version bytes w)))
                (sym size);
            range = (is_sent Log version facts, tells.3);
          };
        }

  -- an output

  -- the fields of its packet, behind the stamp
  packet_stands : (version : Version) → stamp_end Out version bytes + 16 + captured_at version bytes ≤ length bytes
      → spelled (packet_fields (packet_at version bytes)) ++ drop (stamp_end Out version bytes + 16) bytes
      ≡ drop (stamp_end Out version bytes) bytes
  packet_stands version room =
      let end = stamp_end Out version bytes in
      let captured = captured_at version bytes in
      let four : IsWidth 4 = inr (inr (inl refl)) in
      let ws : List ℕ = 4 ∷ 4 ∷ 4 ∷ 4 ∷ [] in
      let whole : spelled (fields_at end ws bytes) ++ drop (end + 16) bytes ≡ drop end bytes =
      spelled-fields_at end ws bytes (four, (four, (four, (four, tt)))) are (omega arith) in
      let third : number_at 4 (end + 4 + 4) bytes ≡ number_at 4 (end + 8) bytes =
      ap (λ (k : ℕ). number_at 4 k bytes) (omega arith) in
      let fourth : number_at 4 (end + 4 + 4 + 4) bytes ≡ number_at 4 (end + 12) bytes =
      ap (λ (k : ℕ). number_at 4 k bytes) (omega arith) in
      let size : length (take captured (drop (end + 16) bytes)) ≡ captured =
      omega (arith, length-take captured (drop (end + 16) bytes), length-drop (end + 16) bytes) in
      let same : fields_at end ws bytes ≡ packet_fields (packet_at version bytes) = cc in
      ap (λ (fs : List Field). spelled fs ++ drop (end + 16) bytes) (sym same) ∙ whole

  -- what stands behind the number of threads and the mask
  rest_stands : (version : Version) → Facts Out version bytes
      → stamp_end Out version bytes + 16 + captured_at version bytes ≤ length bytes
      → spelled (component_fields (listed version (threads_at Out bytes) (stamp_at Out version bytes))
      ++ packet_fields (packet_at version bytes)) ++ drop (stamp_end Out version bytes + 16) bytes
      ≡ drop (components_place Out version) bytes
  rest_stands version facts room =
      let end = stamp_end Out version bytes in
      let captured = captured_at version bytes in
      let cs = component_fields (listed version (threads_at Out bytes) (stamp_at Out version bytes)) in
      let ps = packet_fields (packet_at version bytes) in
      ap (λ (l : List ℕ). l ++ drop (end + 16) bytes) (spelled-append cs ps)
      ∙ append_assoc (spelled cs) (spelled ps) (drop (end + 16) bytes)
      ∙ ap (λ (l : List ℕ). spelled cs ++ l) (packet_stands version room)
      ∙ stamp_stands Out version bytes are facts (omega arith)

  out_parts : (version : Version) → Facts Out version bytes → code_at bytes ≡ 0
      → stamp_end Out version bytes + 16 + captured_at version bytes ≤ length bytes
      → bytes
      ≡ spelled (output_fields version (length_at bytes) (epoch_at bytes) (threads_at Out bytes)
      (output_from version bytes)) ++ drop (stamp_end Out version bytes + 16) bytes
  out_parts One facts code_is room =
      let captured = captured_at One bytes in
      let kind_is = facts.kind_is in
      let version_is = facts.version_is in
      let ws = out_widths [] in
      let front =
      head Out One (length_at bytes) (epoch_at bytes) (thread_at bytes) 0 (count_at bytes) (subject_at bytes)
      ++ field 1 (threads_at Out bytes) ∷ [] in
      let back =
      component_fields (listed One (threads_at Out bytes) (stamp_at Out One bytes))
      ++ packet_fields (packet_at One bytes) in
      let same : fields_at 0 ws bytes ≡ front = cc in
      assemble front back (fields_at 0 ws bytes) 29 (stamp_end Out One bytes + 16) bytes
      (spelled-fields_at 0 ws bytes (are_out_widths [] tt) are (omega arith)) same (rest_stands One facts room)
  out_parts Two facts code_is room =
      let captured = captured_at Two bytes in
      let kind_is = facts.kind_is in
      let version_is = facts.version_is in
      let mask_is = mask_stands Out bytes facts in
      let ws = out_widths (2 ∷ []) in
      let front =
      head Out Two (length_at bytes) (epoch_at bytes) (thread_at bytes) 0 (count_at bytes) (subject_at bytes)
      ++ field 1 (threads_at Out bytes) ∷ field 2 (mask_of (stamp_at Out Two bytes)) ∷ [] in
      let back =
      component_fields (listed Two (threads_at Out bytes) (stamp_at Out Two bytes))
      ++ packet_fields (packet_at Two bytes) in
      let same : fields_at 0 ws bytes ≡ front = cc in
      assemble front back (fields_at 0 ws bytes) 31 (stamp_end Out Two bytes + 16) bytes
      (spelled-fields_at 0 ws bytes (are_out_widths (2 ∷ []) are_two) are (omega arith)) same
      (rest_stands Two facts room)

  is_captured : (version : Version) → Facts Out version bytes → IsCaptured (packet_at version bytes)
  is_captured version facts =
      let end = stamp_end Out version bytes in
      let captured = captured_at version bytes in
      let most : captured ≤ 262144 = ltb-false _ _ facts.captured in
      record {
        seconds = number_fits 4 end;
        fraction = number_fits 4 (end + 4);
        original = number_fits 4 (end + 8);
        captured = omega (arith, length-take captured (drop (end + 16) bytes));
      }

  pub out_begins : (version : Version) → Facts Out version bytes
      → BeginsWith bytes (output_at version bytes) (length_at bytes)
  out_begins version facts =
      let end = stamp_end Out version bytes in
      let captured = captured_at version bytes in
      let whole : length_at bytes ≤ length bytes = facts.whole in
      let sized : length_at bytes ≡ end + 16 + captured = facts.sized in
      let content = or_parts _ _ facts.content in
      let code_is : code_at bytes ≡ 0 = eqb-true _ _ (not-false _ content.0) in
      let some = eqb-false (subject_at bytes) 0 content.1 in
      let parts = out_parts version facts code_is (omega arith) in
      let fields = spelled (output_fields version (length_at bytes) (epoch_at bytes) (threads_at Out bytes)
      (output_from version bytes)) in
      let packet = take captured (drop (end + 16) bytes) in
      let rest = drop captured (drop (end + 16) bytes) in
      let first = fields ++ packet in
      let all : bytes ≡ first ++ rest =
      parts
      ∙ ap (λ (l : List ℕ). fields ++ l) (sym (take-append-drop captured (drop (end + 16) bytes)))
      ∙ sym (append_assoc fields packet rest) in
      let size : length first ≡ length_at bytes =
      omega (
        arith,
        ap length all,
        length-append first rest,
        length-drop captured (drop (end + 16) bytes),
        length-drop (end + 16) bytes,
      ) in
      record {
        first = first;
        rest = rest;
        parts = all;
        sized = size;
        is = record {
          version = version;
          parts = ap (λ (n : ℕ).
              spelled (output_fields version n (epoch_at bytes) (threads_at Out bytes) (output_from version bytes))
              ++ packet) (sym size);
          range = (is_sent Out version facts, omega arith, number_fits 8 20, is_captured version facts);
        };
      }
