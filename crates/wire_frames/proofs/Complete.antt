-- Bytes that begin with a frame tell its value, and pass every test.
use Rattle.std.proofs.Common.{◌≡◌, ℕ, zero, suc, ◌+◌, ◌-◌, ◌*◌, ◌^◌, ◌<◌, ◌≤◌, ◌==◌, ◌∙◌, not, if◌then◌else◌, Bool}
use Rattle.std.proofs.Common.{true, false, List, [], ◌∷◌, ◌++◌, length, take, drop, slice_index, refl, sym, ap, subst}
use Rattle.std.proofs.Common.{arith, append_assoc, length-append}
use Rattle.std.proofs.lemmas.List.{length-take, drop_at}
use Rattle.std.proofs.Math.Nat.{pow-suc, one-le-pow}
use Rattle.byteorder.specs.Endian.{big_bytes}
use Rattle.byteorder.specs.Numbers.{length-bytes_high_first}
use Rattle.plain_text.specs.declared.packet.Packet.{Packet}
use Rattle.access_log.specs.FromEntryOrder.{What}
use Rattle.access_log.specs.FromEntryOrder.{Access, Read, Clock, Draw}
use Rattle.access_log.specs.declared.entry.StampedEntry.{StampedEntry}
use Rattle.access_log.specs.declared.entry.Output.{Output}
use Rattle.plain_text.specs.declared.kind.Kind.{Kind}
use Rattle.plain_text.specs.declared.kind.Kind.TheVariants.{Log, Out}
use Rattle.wire_frames.specs.declared.version.Version.{Version}
use Rattle.wire_frames.specs.declared.version.Version.TheVariants.{One, Two}
use Rattle.wire_frames.specs.Layout.{Field, field, spelled, kind_code, version_code, head, code_of, subject_of}
use Rattle.wire_frames.specs.Layout.{place_field, mask_of, nonzero, component_fields, packet_fields, entry_fields}
use Rattle.wire_frames.specs.Layout.{output_fields, AreComponents, IsSent, IsDone}
use Rattle.wire_frames.specs.Places.{number_at, length_at, epoch_at, thread_at, code_at, count_at, subject_at, place_at}
use Rattle.wire_frames.specs.Places.{bits_set, components, components_place, threads_at, mask_at}
use Rattle.wire_frames.proofs.Fields.{fields_at, fields_at-spelled, spelled-append, length-spelled, widths, Fit}
use Rattle.wire_frames.proofs.Stamps.{fit_each, components-spelled, present-low, present-mask_of, unset-low}
use Rattle.wire_frames.proofs.Stamps.{unset-mask_of, bits_set-low, bits_set-mask_of, mask_of-below}
use Rattle.wire_frames.proofs.Stands.{listed}
use Rattle.wire_frames.proofs.Sound.{log_widths, out_widths}

-- the mask of a stamp with no component past the first k is of k bits
mask_of-few : (k : ℕ) (stamp : List ℕ) → ((u : ℕ) → k ≤ u → slice_index stamp u ≡ 0) → mask_of stamp < 2 ^ k
mask_of-few k [] none = let some = one-le-pow k 2 (omega arith) in omega arith
mask_of-few zero (c ∷ cs) none =
    let later = mask_of-few zero cs (λ u past. none (suc u) (omega arith)) in
    let first : c ≡ 0 = none 0 (omega arith) in
    rw first (omega arith)
mask_of-few (suc k) (c ∷ cs) none =
    let later = mask_of-few k cs (λ u past. none (suc u) (omega arith)) in
    rw (pow-suc 2 k) (bit_below (c == 0) (mask_of cs) (2 ^ k) later)
  where
    bit_below : (b : Bool) (m n : ℕ) → m < n → (if b then 0 else 1) + 2 * m < n * 2
    bit_below true m n below = omega arith
    bit_below false m n below = omega arith

length-nonzero : (cs : List ℕ) → length (nonzero cs) ≤ length cs
length-nonzero [] = omega arith
length-nonzero (c ∷ cs) = go (c == 0) (length-nonzero cs)
  where
    go : (b : Bool) → length (nonzero cs) ≤ length cs
        → length (if not b then c ∷ nonzero cs else nonzero cs) ≤ suc (length cs)
    go true later = omega arith
    go false later = omega arith

abbrev pub mask_in : Version → ℕ → List ℕ → ℕ
mask_in One threads stamp = 2 ^ threads - 1
mask_in Two threads stamp = mask_of stamp

module _ (threads : ℕ) (stamp : List ℕ) (are : AreComponents threads stamp) (few : threads ≤ 16) where
  pub mask_in-below : (version : Version) → mask_in version threads stamp < 2 ^ threads
  mask_in-below One = let some = one-le-pow threads 2 (omega arith) in omega arith
  mask_in-below Two = mask_of-few threads stamp are.none

  pub listed-few : (version : Version) → length (listed version threads stamp) ≤ 16
  listed-few One = let all = are.all in omega (arith, length-take threads stamp)
  listed-few Two = let all = are.all in omega (arith, length-nonzero stamp)

  pub bits_set-mask_in : (version : Version)
      → bits_set 16 (mask_in version threads stamp) ≡ length (listed version threads stamp)
  bits_set-mask_in One =
      let all = are.all in
      bits_set-low 16 threads few ∙ omega (arith, length-take threads stamp)
  bits_set-mask_in Two = ap (λ (n : ℕ). bits_set n (mask_of stamp)) (sym are.all) ∙ bits_set-mask_of stamp

  pub components-mask_in : (version : Version) (more : List ℕ)
      → components 16 (mask_in version threads stamp)
      (spelled (component_fields (listed version threads stamp)) ++ more)
      ≡ stamp
  components-mask_in One more =
      ap (λ (n : ℕ). components n (2 ^ threads - 1) (spelled (component_fields (take threads stamp)) ++ more))
      (sym are.all)
      ∙ ap (λ (l : List ℕ). components (length stamp) (2 ^ threads - 1) (spelled (component_fields l) ++ more))
      (sym (present-low threads stamp))
      ∙ components-spelled (2 ^ threads - 1) stamp more (fit_each stamp are.fit) (unset-low threads stamp are.none)
  components-mask_in Two more =
      ap (λ (n : ℕ). components n (mask_of stamp) (spelled (component_fields (nonzero stamp)) ++ more)) (sym are.all)
      ∙ ap (λ (l : List ℕ). components (length stamp) (mask_of stamp) (spelled (component_fields l) ++ more))
      (sym (present-mask_of stamp))
      ∙ components-spelled (mask_of stamp) stamp more (fit_each stamp are.fit) (unset-mask_of stamp)

-- What the bytes of a frame tell

pub length-component_fields : (cs : List ℕ) → length (spelled (component_fields cs)) ≡ 8 * length cs
length-component_fields [] = refl
length-component_fields (c ∷ cs) =
    omega (
      arith,
      length-append (big_bytes 8 c) (spelled (component_fields cs)),
      length-bytes_high_first 8 c,
      length-component_fields cs,
    )

abbrev pub value_at : ℕ → List Field → ℕ
value_at n [] = 0
value_at zero (f ∷ fs) = f.value
value_at (suc n) (f ∷ fs) = value_at n fs

pub record Told (kind : Kind) (version : Version) (bytes : List ℕ) (size epoch thread code number subject threads : ℕ)
    (stamp more : List ℕ) : Type 0 where
  pub kind_is : number_at 1 0 bytes ≡ kind_code kind
  pub version_is : number_at 1 1 bytes ≡ version_code version
  pub length_is : length_at bytes ≡ size
  pub epoch_is : epoch_at bytes ≡ epoch
  pub thread_is : thread_at bytes ≡ thread
  pub code_is : code_at bytes ≡ code
  pub number_is : count_at bytes ≡ number
  pub subject_is : subject_at bytes ≡ subject
  pub threads_is : threads_at kind bytes ≡ threads
  pub mask_is : mask_at kind version bytes ≡ mask_in version threads stamp
  pub behind : drop (components_place kind version) bytes
      ≡ spelled (component_fields (listed version threads stamp)) ++ more

-- fields of known widths, and then others
split : (front back : List Field) (rest bytes : List ℕ) → bytes ≡ spelled (front ++ back) ++ rest
    → bytes ≡ spelled front ++ (spelled back ++ rest)
split front back rest bytes parts =
    parts
    ∙ ap (λ (l : List ℕ). l ++ rest) (spelled-append front back)
    ∙ append_assoc (spelled front) (spelled back) rest

pub read_front : (ws : List ℕ) (front : List Field) (bytes behind : List ℕ) → widths front ≡ ws → Fit front
    → bytes ≡ spelled front ++ behind → fields_at 0 ws bytes ≡ front
read_front ws front bytes behind are fit parts =
    ap (λ (l : List ℕ). fields_at 0 l bytes) (sym are)
    ∙ ap (fields_at 0 (widths front)) parts
    ∙ fields_at-spelled 0 [] front behind refl fit

done_fits : (version : Version) (w : What) → IsDone version w
    → (code_of w < 256) × (subject_of w < 2 ^ 64) × (place_field w < 2 ^ 64)
done_fits version (Access var place) done = (omega arith, omega (arith, done.0), done.2)
done_fits version (Clock value) done = (omega arith, done, omega arith)
done_fits version (Draw value) done = (omega arith, done, omega arith)
done_fits One (Read var after) done = absurd done
done_fits Two (Read var after) done = (omega arith, omega (arith, done.0), done.1)

mask_fits : (threads : ℕ) (stamp : List ℕ) → AreComponents threads stamp → mask_of stamp < 2 ^ 16
mask_fits threads stamp are =
    let P : ℕ → Type 0 = λ n. mask_of stamp < 2 ^ n in
    subst P are.all (mask_of-below stamp)

behind_stamp : (cs : List Field) (p : Packet) (rest : List ℕ)
    → spelled (cs ++ packet_fields p) ++ rest ≡ spelled cs ++ (spelled (packet_fields p) ++ rest)
behind_stamp cs p rest =
    ap (λ (l : List ℕ). l ++ rest) (spelled-append cs (packet_fields p))
    ∙ append_assoc (spelled cs) (spelled (packet_fields p)) rest

module _ (bytes : List ℕ) (size epoch threads : ℕ) (small : size < 2 ^ 32) where
  module _ (e : StampedEntry) (rest : List ℕ) (sent : IsSent epoch threads e.thread e.number e.stamp) where
    pub log_told : (version : Version) → IsDone version e.what
        → bytes ≡ spelled (entry_fields version size epoch threads e) ++ rest
        → Told Log version bytes size epoch e.thread (code_of e.what) e.number (subject_of e.what) threads e.stamp rest
        × (place_at bytes ≡ place_field e.what)
    log_told One done parts =
        let fits = done_fits One e.what done in
        let front =
        head Log One size epoch e.thread (code_of e.what) e.number (subject_of e.what) ++ field 8 (place_field e.what)
        ∷ field 1 threads ∷ [] in
        let back = component_fields (listed One threads e.stamp) in
        let apart = split front back rest bytes parts in
        let fit : Fit front = (
          omega arith,
          (
            omega arith,
            (
              small,
              (
                sent.epoch_to,
                (
                  omega (arith, sent.of_these, sent.threads_to),
                  (fits.0, (sent.number_to, (fits.1, (fits.2, (omega (arith, sent.threads_to), tt))))),
                ),
              ),
            ),
          ),
        ) in
        let same = read_front (log_widths []) front bytes (spelled back ++ rest) refl fit apart in
        let threads_is = ap (value_at 9) same in (
          record {
            kind_is = ap (value_at 0) same;
            version_is = ap (value_at 1) same;
            length_is = ap (value_at 2) same;
            epoch_is = ap (value_at 3) same;
            thread_is = ap (value_at 4) same;
            code_is = ap (value_at 5) same;
            number_is = ap (value_at 6) same;
            subject_is = ap (value_at 7) same;
            threads_is = threads_is;
            mask_is = ap (λ (n : ℕ). 2 ^ n - 1) threads_is;
            behind = ap (drop 37) apart ∙ drop_at (spelled front) (spelled back ++ rest) 37 (length-spelled front);
          },
          ap (value_at 8) same,
        )
    log_told Two done parts =
        let fits = done_fits Two e.what done in
        let front =
        head Log Two size epoch e.thread (code_of e.what) e.number (subject_of e.what) ++ field 8 (place_field e.what)
        ∷ field 1 threads ∷ field 2 (mask_of e.stamp) ∷ [] in
        let back = component_fields (listed Two threads e.stamp) in
        let apart = split front back rest bytes parts in
        let bits : mask_of e.stamp < 2 ^ 16 = mask_fits threads e.stamp sent.components in
        let fit : Fit front = (
          omega arith,
          (
            omega arith,
            (
              small,
              (
                sent.epoch_to,
                (
                  omega (arith, sent.of_these, sent.threads_to),
                  (fits.0, (sent.number_to, (fits.1, (fits.2, (omega (arith, sent.threads_to), (bits, tt)))))),
                ),
              ),
            ),
          ),
        ) in
        let same = read_front (log_widths (2 ∷ [])) front bytes (spelled back ++ rest) refl fit apart in (
          record {
            kind_is = ap (value_at 0) same;
            version_is = ap (value_at 1) same;
            length_is = ap (value_at 2) same;
            epoch_is = ap (value_at 3) same;
            thread_is = ap (value_at 4) same;
            code_is = ap (value_at 5) same;
            number_is = ap (value_at 6) same;
            subject_is = ap (value_at 7) same;
            threads_is = ap (value_at 9) same;
            mask_is = ap (value_at 10) same;
            behind = ap (drop 39) apart ∙ drop_at (spelled front) (spelled back ++ rest) 39 (length-spelled front);
          },
          ap (value_at 8) same,
        )

  module _ (o : Output) (rest : List ℕ) (sent : IsSent epoch threads o.thread o.number o.stamp)
      (input : o.input < 2 ^ 64) where
    pub out_told : (version : Version) → bytes ≡ spelled (output_fields version size epoch threads o) ++ rest
        → Told Out version bytes size epoch o.thread 0 o.number o.input threads o.stamp
        (spelled (packet_fields o.packet) ++ rest)
    out_told One parts =
        let front = head Out One size epoch o.thread 0 o.number o.input ++ field 1 threads ∷ [] in
        let cs = component_fields (listed One threads o.stamp) in
        let back = cs ++ packet_fields o.packet in
        let apart = split front back rest bytes parts in
        let fit : Fit front = (
          omega arith,
          (
            omega arith,
            (
              small,
              (
                sent.epoch_to,
                (
                  omega (arith, sent.of_these, sent.threads_to),
                  (omega arith, (sent.number_to, (input, (omega (arith, sent.threads_to), tt)))),
                ),
              ),
            ),
          ),
        ) in
        let same = read_front (out_widths []) front bytes (spelled back ++ rest) refl fit apart in
        let threads_is = ap (value_at 8) same in
        record {
          kind_is = ap (value_at 0) same;
          version_is = ap (value_at 1) same;
          length_is = ap (value_at 2) same;
          epoch_is = ap (value_at 3) same;
          thread_is = ap (value_at 4) same;
          code_is = ap (value_at 5) same;
          number_is = ap (value_at 6) same;
          subject_is = ap (value_at 7) same;
          threads_is = threads_is;
          mask_is = ap (λ (n : ℕ). 2 ^ n - 1) threads_is;
          behind =
              ap (drop 29) apart
              ∙ drop_at (spelled front) (spelled back ++ rest) 29 (length-spelled front)
              ∙ behind_stamp cs o.packet rest;
        }
    out_told Two parts =
        let front =
        head Out Two size epoch o.thread 0 o.number o.input ++ field 1 threads ∷ field 2 (mask_of o.stamp) ∷ [] in
        let cs = component_fields (listed Two threads o.stamp) in
        let back = cs ++ packet_fields o.packet in
        let apart = split front back rest bytes parts in
        let bits : mask_of o.stamp < 2 ^ 16 = mask_fits threads o.stamp sent.components in
        let fit : Fit front = (
          omega arith,
          (
            omega arith,
            (
              small,
              (
                sent.epoch_to,
                (
                  omega (arith, sent.of_these, sent.threads_to),
                  (omega arith, (sent.number_to, (input, (omega (arith, sent.threads_to), (bits, tt))))),
                ),
              ),
            ),
          ),
        ) in
        let same = read_front (out_widths (2 ∷ [])) front bytes (spelled back ++ rest) refl fit apart in
        record {
          kind_is = ap (value_at 0) same;
          version_is = ap (value_at 1) same;
          length_is = ap (value_at 2) same;
          epoch_is = ap (value_at 3) same;
          thread_is = ap (value_at 4) same;
          code_is = ap (value_at 5) same;
          number_is = ap (value_at 6) same;
          subject_is = ap (value_at 7) same;
          threads_is = ap (value_at 8) same;
          mask_is = ap (value_at 9) same;
          behind =
              ap (drop 31) apart
              ∙ drop_at (spelled front) (spelled back ++ rest) 31 (length-spelled front)
              ∙ behind_stamp cs o.packet rest;
        }
