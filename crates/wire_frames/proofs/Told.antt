-- What bytes that begin with a frame tell is its value, and they pass every test.
use Rattle.std.proofs.Common.{◌≡◌, ℕ, ◌+◌, ◌-◌, ◌*◌, ◌^◌, ◌<◌, ◌≤◌, ◌∙◌, is_none, false, List, [], ◌∷◌, ◌++◌, length}
use Rattle.std.proofs.Common.{take, drop, None, Some, Option, refl, sym, ap, subst, arith, append_assoc, length-append}
use Rattle.std.proofs.Common.{drop-drop}
use Rattle.std.proofs.lemmas.Bool.{le-ltb, eq-eqb, ne_eqb, not_from_true, or_from}
use Rattle.std.proofs.lemmas.List.{length-take, take_at, drop_at}
use Rattle.plain_text.specs.declared.packet.Packet.{Packet}
use Rattle.access_log.specs.FromEntryOrder.{What}
use Rattle.access_log.specs.declared.entry.StampedEntry.{StampedEntry}
use Rattle.access_log.specs.declared.entry.Output.{Output}
use Rattle.plain_text.specs.declared.kind.Kind.{Kind}
use Rattle.plain_text.specs.declared.kind.Kind.TheVariants.{Log, Out}
use Rattle.wire_frames.specs.declared.version.Version.{Version}
use Rattle.wire_frames.specs.declared.version.Version.TheVariants.{One, Two}
use Rattle.wire_frames.specs.declared.frame.Frame.TheVariants as frame
use Rattle.wire_frames.specs.Layout.{field, spelled, head, code_of, subject_of, place_field, mask_of, component_fields}
use Rattle.wire_frames.specs.Layout.{packet_fields, entry_fields, output_fields, IsSent, IsDone, IsCaptured}
use Rattle.wire_frames.specs.Places.{number_at, length_at, place_at, bits_set, components, components_place, threads_at}
use Rattle.wire_frames.specs.Places.{mask_at, bits_at, stamp_at, stamp_end, what_at, captured_at, packet_from, entry_at}
use Rattle.wire_frames.specs.Places.{output_at}
use Rattle.wire_frames.specs.Faults.{least, most, has_zero_component}
use Rattle.wire_frames.proofs.Fields.{fields_at, spelled-append, length-spelled, Fit}
use Rattle.wire_frames.proofs.Facts.{Facts}
use Rattle.wire_frames.proofs.Stands.{listed}
use Rattle.wire_frames.proofs.Whats.{what_from-numbers}
use Rattle.wire_frames.proofs.Complete.{mask_in, mask_in-below, listed-few, bits_set-mask_in, components-mask_in}
use Rattle.wire_frames.proofs.Complete.{length-component_fields, value_at, Told, log_told, out_told, read_front}

module _ (kind : Kind) (version : Version) (bytes : List ℕ) (size epoch thread code number subject threads : ℕ)
    (stamp more : List ℕ) (told : Told kind version bytes size epoch thread code number subject threads stamp more)
    (sent : IsSent epoch threads thread number stamp) where
  pub stamp_is : stamp_at kind version bytes ≡ stamp
  stamp_is =
      ap (λ (m : ℕ). components 16 m (drop (components_place kind version) bytes)) told.mask_is
      ∙ ap (components 16 (mask_in version threads stamp)) told.behind
      ∙ components-mask_in threads stamp sent.components sent.threads_to version more

  pub bits_is : bits_at kind version bytes ≡ length (listed version threads stamp)
  bits_is = ap (bits_set 16) told.mask_is ∙ bits_set-mask_in threads stamp sent.components sent.threads_to version

  pub end_is : stamp_end kind version bytes ≡ components_place kind version + 8 * length (listed version threads stamp)
  end_is = ap (λ (n : ℕ). components_place kind version + 8 * n) bits_is

  pub behind_end : drop (stamp_end kind version bytes) bytes ≡ more
  behind_end =
      let cs = spelled (component_fields (listed version threads stamp)) in
      let place = components_place kind version in
      let size_is = length-component_fields (listed version threads stamp) in
      ap (λ (n : ℕ). drop n bytes) (end_is ∙ omega arith)
      ∙ sym (drop-drop (8 * length (listed version threads stamp)) place bytes)
      ∙ ap (drop (8 * length (listed version threads stamp))) told.behind
      ∙ drop_at cs more (8 * length (listed version threads stamp)) size_is

  pub mask_below : mask_at kind version bytes < 2 ^ threads_at kind bytes
  mask_below =
      let below = mask_in-below threads stamp sent.components sent.threads_to version in
      rw (told.mask_is, told.threads_is) below

-- the bytes that the fields of a frame need, with so many components
abbrev pub needs : Kind → Version → ℕ → ℕ
needs Log version n = components_place Log version + 8 * n
needs Out version n = components_place Out version + 8 * n + 16

zero_is : (kind : Kind) (version : Version) (bytes : List ℕ) (threads : ℕ) (stamp : List ℕ)
    → mask_at kind version bytes ≡ mask_in version threads stamp → stamp_at kind version bytes ≡ stamp
    → has_zero_component kind version bytes ≡ false
zero_is kind One bytes threads stamp mask is = refl
zero_is kind Two bytes threads stamp mask is = not_from_true _ (eq-eqb _ _ (ap mask_of is ∙ sym mask))

-- how long the fields are

pub log_size : (version : Version) (n epoch threads : ℕ) (e : StampedEntry)
    → length (spelled (entry_fields version n epoch threads e))
    ≡ components_place Log version + 8 * length (listed version threads e.stamp)
log_size One n epoch threads e =
    let front =
    head Log One n epoch e.thread (code_of e.what) e.number (subject_of e.what) ++ field 8 (place_field e.what)
    ∷ field 1 threads ∷ [] in
    let back = component_fields (listed One threads e.stamp) in
    ap length (spelled-append front back) ∙ omega (
      arith,
      length-append (spelled front) (spelled back),
      length-spelled front,
      length-component_fields (listed One threads e.stamp),
    )
log_size Two n epoch threads e =
    let front =
    head Log Two n epoch e.thread (code_of e.what) e.number (subject_of e.what) ++ field 8 (place_field e.what)
    ∷ field 1 threads ∷ field 2 (mask_of e.stamp) ∷ [] in
    let back = component_fields (listed Two threads e.stamp) in
    ap length (spelled-append front back) ∙ omega (
      arith,
      length-append (spelled front) (spelled back),
      length-spelled front,
      length-component_fields (listed Two threads e.stamp),
    )

pub out_size : (version : Version) (n epoch threads : ℕ) (o : Output)
    → length (spelled (output_fields version n epoch threads o))
    ≡ components_place Out version + 8 * length (listed version threads o.stamp) + 16
out_size One n epoch threads o =
    let front = head Out One n epoch o.thread 0 o.number o.input ++ field 1 threads ∷ [] in
    let cs = component_fields (listed One threads o.stamp) in
    let ps = packet_fields o.packet in
    ap length (spelled-append front (cs ++ ps) ∙ ap (λ (l : List ℕ). spelled front ++ l) (spelled-append cs ps))
    ∙ omega (
      arith,
      length-append (spelled front) (spelled cs ++ spelled ps),
      length-append (spelled cs) (spelled ps),
      length-spelled front,
      length-spelled ps,
      length-component_fields (listed One threads o.stamp),
    )
out_size Two n epoch threads o =
    let front = head Out Two n epoch o.thread 0 o.number o.input ++ field 1 threads ∷ field 2 (mask_of o.stamp) ∷ [] in
    let cs = component_fields (listed Two threads o.stamp) in
    let ps = packet_fields o.packet in
    ap length (spelled-append front (cs ++ ps) ∙ ap (λ (l : List ℕ). spelled front ++ l) (spelled-append cs ps))
    ∙ omega (
      arith,
      length-append (spelled front) (spelled cs ++ spelled ps),
      length-append (spelled cs) (spelled ps),
      length-spelled front,
      length-spelled ps,
      length-component_fields (listed Two threads o.stamp),
    )

least_size : (kind : Kind) (version : Version) (threads more : ℕ) (stamp : List ℕ) → length stamp ≡ 16 → 1 ≤ threads
    → threads ≤ 16 → length (listed version threads stamp) ≤ 16
    → (least kind version ≤ needs kind version (length (listed version threads stamp)) + more)
    × (needs kind version (length (listed version threads stamp)) ≤ most version - 262144)
least_size Log One threads more stamp all some few short =
    let size = length-take threads stamp in (omega arith, omega arith)
least_size Log Two threads more stamp all some few short = (omega arith, omega arith)
least_size Out One threads more stamp all some few short =
    let size = length-take threads stamp in (omega arith, omega arith)
least_size Out Two threads more stamp all some few short = (omega arith, omega arith)

most_is : (version : Version) → (262144 ≤ most version) × (most version ≤ 262319)
most_is One = (omega arith, omega arith)
most_is Two = (omega arith, omega arith)

some_content : (o : Option What) (w : What) → o ≡ Some w → is_none o ≡ false
some_content None w is = cc
some_content (Some x) w is = refl

-- values whose parts are the same

same_entry : {epoch epoch' threads threads' thread thread' number number' : ℕ} {stamp stamp' : List ℕ} (w : What)
    → epoch ≡ epoch' → threads ≡ threads' → thread ≡ thread' → number ≡ number' → stamp ≡ stamp'
    → frame.Entry epoch threads (record { thread = thread; number = number; what = w; stamp = stamp })
    ≡ frame.Entry epoch' threads' (record { thread = thread'; number = number'; what = w; stamp = stamp' })
same_entry w a b c d e = cc

same_output : {epoch epoch' threads threads' thread thread' number number' input input' : ℕ} {stamp stamp' : List ℕ}
    {packet packet' : Packet} → epoch ≡ epoch' → threads ≡ threads' → thread ≡ thread' → number ≡ number'
    → input ≡ input' → stamp ≡ stamp' → packet ≡ packet'
    → frame.Output epoch threads
    (record { thread = thread; number = number; input = input; stamp = stamp; packet = packet })
    ≡ frame.Output epoch' threads'
    (record { thread = thread'; number = number'; input = input'; stamp = stamp'; packet = packet' })
same_output a b c d e f g = cc

same_packet : {seconds seconds' fraction fraction' original original' : ℕ} {bytes bytes' : List ℕ} → seconds ≡ seconds'
    → fraction ≡ fraction' → original ≡ original' → bytes ≡ bytes'
    → ◌≡◌ {A = Packet} (record { seconds = seconds; fraction = fraction; original = original; bytes = bytes })
    (record { seconds = seconds'; fraction = fraction'; original = original'; bytes = bytes' })
same_packet a b c d = cc

-- the packet behind a stamp
module _ (place : ℕ) (bytes rest : List ℕ) (p : Packet) (captured : IsCaptured p)
    (behind : drop place bytes ≡ spelled (packet_fields p) ++ (p.bytes ++ rest)) where
  packet_front : fields_at 0 (4 ∷ 4 ∷ 4 ∷ 4 ∷ []) (drop place bytes) ≡ packet_fields p
  packet_front =
      let short = captured.captured in
      let fit : Fit (packet_fields p) =
      (captured.seconds, (captured.fraction, (captured.original, (omega arith, tt)))) in
      read_front (4 ∷ 4 ∷ 4 ∷ 4 ∷ []) (packet_fields p) (drop place bytes) (p.bytes ++ rest) refl fit behind

  on : (k : ℕ) → number_at 4 (place + k) bytes ≡ number_at 4 k (drop place bytes)
  on k =
      let at : drop k (drop place bytes) ≡ drop (place + k) bytes =
      drop-drop k place bytes ∙ ap (λ (n : ℕ). drop n bytes) (omega arith) in
      ap (λ (l : List ℕ). number_at 4 0 l) (sym at)

  pub captured_is : number_at 4 (place + 12) bytes ≡ length p.bytes
  captured_is = on 12 ∙ ap (value_at 3) packet_front

  pub packet_is : packet_from place bytes ≡ p
  packet_is =
      let at : drop (place + 16) bytes ≡ p.bytes ++ rest =
      ap (λ (n : ℕ). drop n bytes) (omega arith) ∙ sym (drop-drop 16 place bytes) ∙ ap (drop 16) behind
      ∙ drop_at (spelled (packet_fields p)) (p.bytes ++ rest) 16 (length-spelled (packet_fields p)) in
      same_packet (ap (value_at 0) packet_front) (on 4 ∙ ap (value_at 1) packet_front)
      (on 8 ∙ ap (value_at 2) packet_front)
      (ap (λ (n : ℕ). take n (drop (place + 16) bytes)) captured_is
      ∙ ap (take (length p.bytes)) at
      ∙ take_at p.bytes rest (length p.bytes) refl)

-- an entry

module _ (version : Version) (bytes rest : List ℕ) (size epoch threads : ℕ) (e : StampedEntry)
    (sent : IsSent epoch threads e.thread e.number e.stamp) (done : IsDone version e.what)
    (parts : bytes ≡ spelled (entry_fields version size epoch threads e) ++ rest)
    (sized : size ≡ length (spelled (entry_fields version size epoch threads e))) where
  log_size_is : size ≡ components_place Log version + 8 * length (listed version threads e.stamp)
  log_size_is = sized ∙ log_size version size epoch threads e

  log_bounds : (least Log version ≤ size + 0) × (size ≤ most version - 262144)
  log_bounds =
      let P : ℕ → Type 0 = λ n. (least Log version ≤ n + 0) × (n ≤ most version - 262144) in
      subst P (sym log_size_is) (least_size Log version threads 0 e.stamp sent.components.all sent.threads_from
      sent.threads_to (listed-few threads e.stamp sent.components sent.threads_to version))

  log_small : size < 2 ^ 32
  log_small = let most_of = most_is version in let bounds = log_bounds in omega arith

  log_is_told : Told Log version bytes size epoch e.thread (code_of e.what) e.number (subject_of e.what) threads
      e.stamp rest
      × (place_at bytes ≡ place_field e.what)
  log_is_told = log_told bytes size epoch threads log_small e rest sent version done parts

  log_stamp : stamp_at Log version bytes ≡ e.stamp
  log_stamp = stamp_is Log version bytes size epoch e.thread (code_of e.what) e.number (subject_of e.what) threads
      e.stamp rest log_is_told.0 sent

  log_end : stamp_end Log version bytes ≡ size
  log_end =
      end_is Log version bytes size epoch e.thread (code_of e.what) e.number (subject_of e.what) threads e.stamp rest
      log_is_told.0 sent
      ∙ sym log_size_is

  pub log_what : what_at version bytes ≡ Some e.what
  log_what =
      let told = log_is_told.0 in
      let code_is = told.code_is in
      let subject_is = told.subject_is in
      let place_is = log_is_told.1 in
      rw (code_is, subject_is, place_is) (what_from-numbers version e.what done)

  pub log_value : entry_at version bytes e.what ≡ frame.Entry epoch threads e
  log_value =
      let told = log_is_told.0 in
      same_entry e.what told.epoch_is told.threads_is told.thread_is told.number_is log_stamp

  pub log_length : length_at bytes ≡ size
  log_length = log_is_told.0.length_is

  pub log_facts : Facts Log version bytes
  log_facts =
      let told = log_is_told.0 in
      let length_is = told.length_is in
      let epoch_is = told.epoch_is in
      let thread_is = told.thread_is in
      let number_is = told.number_is in
      let threads_is = told.threads_is in
      let bounds = log_bounds in
      let all = ap length parts in
      record {
        kind_is = told.kind_is;
        version_is = told.version_is;
        least = omega (arith, bounds.0);
        most = omega (arith, bounds.1);
        whole = omega (arith, length-append (spelled (entry_fields version size epoch threads e)) rest);
        threads_from = omega (arith, sent.threads_from);
        threads_to = omega (arith, sent.threads_to);
        mask = mask_below Log version bytes size epoch e.thread (code_of e.what) e.number (subject_of e.what) threads
            e.stamp rest told sent;
        room = refl;
        captured = refl;
        sized = length_is ∙ sym log_end;
        epoch = omega (arith, sent.epoch_from);
        thread = omega (arith, sent.of_these);
        count = omega (arith, sent.number_from);
        zero = zero_is Log version bytes threads e.stamp told.mask_is log_stamp;
        content = some_content (what_at version bytes) e.what log_what;
      }

-- an output

module _ (version : Version) (bytes rest : List ℕ) (size epoch threads : ℕ) (o : Output)
    (sent : IsSent epoch threads o.thread o.number o.stamp) (input_from : 1 ≤ o.input) (input_to : o.input < 2 ^ 64)
    (captured : IsCaptured o.packet)
    (parts : bytes ≡ (spelled (output_fields version size epoch threads o) ++ o.packet.bytes) ++ rest)
    (sized : size ≡ length (spelled (output_fields version size epoch threads o) ++ o.packet.bytes)) where
  out_size_is : size
      ≡ components_place Out version + 8 * length (listed version threads o.stamp) + 16 + length o.packet.bytes
  out_size_is =
      sized
      ∙ length-append (spelled (output_fields version size epoch threads o)) o.packet.bytes
      ∙ ap (λ (n : ℕ). n + length o.packet.bytes) (out_size version size epoch threads o)

  out_bounds : (least Out version ≤ size) × (size ≤ most version)
  out_bounds =
      let bounds = least_size Out version threads (length o.packet.bytes) o.stamp sent.components.all sent.threads_from
      sent.threads_to (listed-few threads o.stamp sent.components sent.threads_to version) in
      let size_is = out_size_is in
      let most_of = most_is version in
      let short = captured.captured in
      (omega (arith, bounds.0), omega (arith, bounds.1))

  out_small : size < 2 ^ 32
  out_small = let most_of = most_is version in let bounds = out_bounds in omega arith

  out_is_told : Told Out version bytes size epoch o.thread 0 o.number o.input threads o.stamp
      (spelled (packet_fields o.packet) ++ (o.packet.bytes ++ rest))
  out_is_told =
      out_told bytes size epoch threads out_small o (o.packet.bytes ++ rest) sent input_to version
      (parts ∙ append_assoc (spelled (output_fields version size epoch threads o)) o.packet.bytes rest)

  out_stamp : stamp_at Out version bytes ≡ o.stamp
  out_stamp = stamp_is Out version bytes size epoch o.thread 0 o.number o.input threads o.stamp
      (spelled (packet_fields o.packet) ++ (o.packet.bytes ++ rest)) out_is_told sent

  out_end : stamp_end Out version bytes ≡ components_place Out version + 8 * length (listed version threads o.stamp)
  out_end = end_is Out version bytes size epoch o.thread 0 o.number o.input threads o.stamp
      (spelled (packet_fields o.packet) ++ (o.packet.bytes ++ rest)) out_is_told sent

  out_behind : drop (stamp_end Out version bytes) bytes ≡ spelled (packet_fields o.packet) ++ (o.packet.bytes ++ rest)
  out_behind = behind_end Out version bytes size epoch o.thread 0 o.number o.input threads o.stamp
      (spelled (packet_fields o.packet) ++ (o.packet.bytes ++ rest)) out_is_told sent

  out_captured : captured_at version bytes ≡ length o.packet.bytes
  out_captured = captured_is (stamp_end Out version bytes) bytes rest o.packet captured out_behind

  pub out_value : output_at version bytes ≡ frame.Output epoch threads o
  out_value =
      let told = out_is_told in
      same_output told.epoch_is told.threads_is told.thread_is told.number_is told.subject_is out_stamp
      (packet_is (stamp_end Out version bytes) bytes rest o.packet captured out_behind)

  pub out_length : length_at bytes ≡ size
  out_length = out_is_told.length_is

  pub out_facts : Facts Out version bytes
  out_facts =
      let told = out_is_told in
      let length_is = told.length_is in
      let epoch_is = told.epoch_is in
      let thread_is = told.thread_is in
      let number_is = told.number_is in
      let subject_is = told.subject_is in
      let threads_is = told.threads_is in
      let code_is = told.code_is in
      let size_is = out_size_is in
      let at_end = out_end in
      let count = out_captured in
      let bounds = out_bounds in
      let short = captured.captured in
      let all = ap length parts in
      record {
        kind_is = told.kind_is;
        version_is = told.version_is;
        least = omega (arith, bounds.0);
        most = omega (arith, bounds.1);
        whole =
            omega (arith, length-append (spelled (output_fields version size epoch threads o) ++ o.packet.bytes) rest);
        threads_from = omega (arith, sent.threads_from);
        threads_to = omega (arith, sent.threads_to);
        mask = mask_below Out version bytes size epoch o.thread 0 o.number o.input threads o.stamp
            (spelled (packet_fields o.packet) ++ (o.packet.bytes ++ rest)) told sent;
        room = le-ltb _ _ (omega arith);
        captured = le-ltb _ _ (omega arith);
        sized = omega arith;
        epoch = omega (arith, sent.epoch_from);
        thread = omega (arith, sent.of_these);
        count = omega (arith, sent.number_from);
        zero = zero_is Out version bytes threads o.stamp told.mask_is out_stamp;
        content = or_from _ _ (not_from_true _ (eq-eqb _ _ code_is)) (ne_eqb _ _ (λ none. omega arith));
      }
