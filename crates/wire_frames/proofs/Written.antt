-- Frames that are written part by part.
use Rattle.std.proofs.Common.{◌≡◌, ℕ, ◌+◌, ◌<◌, ◌%◌, ◌==◌, Bool, true, false, not, if◌then◌else◌, List, [], ◌∷◌, ◌++◌}
use Rattle.std.proofs.Common.{◌∙◌, refl, sym, ap, append_assoc, length, drop, map, slice_index, arith}
use Rattle.std.proofs.lemmas.List.{append-nil, drop_more}
use Rattle.access_log.specs.declared.entry.StampedEntry.{StampedEntry}
use Rattle.access_log.specs.declared.entry.Output.{Output}
use Rattle.wire_frames.specs.declared.version.Version.TheVariants.{Two}
use Rattle.wire_frames.specs.declared.frame.Frame.TheVariants as frame
use Rattle.wire_frames.specs.Layout.{Field, field, spelled, code_of, subject_of, place_field, mask_of, nonzero}
use Rattle.wire_frames.specs.Layout.{component_fields, packet_fields, bytes_of, written, written_length}
use Rattle.wire_frames.specs.Parts.{entry_front, output_front}
use Rattle.wire_frames.proofs.Fields.{spelled-append}

-- more fields in front of those that were put
pub put_more : (old mid now : List ℕ) (fs gs : List Field) → mid ≡ spelled fs ++ old → now ≡ spelled gs ++ mid
    → now ≡ spelled (gs ++ fs) ++ old
put_more old mid now fs gs so_far more =
    more
    ∙ ap (λ (l : List ℕ). spelled gs ++ l) so_far
    ∙ sym (append_assoc (spelled gs) (spelled fs) old)
    ∙ ap (λ (l : List ℕ). l ++ old) (sym (spelled-append gs fs))

-- the parts in front of the components of an entry, and of an output
module _ (size epoch threads : ℕ) (old masked subjected now : List ℕ) where
  pub entry_begun : (e : StampedEntry) (code subject place : ℕ) (placed : List ℕ) → code ≡ code_of e.what
      → subject ≡ subject_of e.what → place ≡ place_field e.what
      → masked ≡ spelled (field 1 threads ∷ field 2 (mask_of e.stamp) ∷ []) ++ old
      → placed ≡ spelled (field 8 place ∷ []) ++ masked
      → subjected
      ≡ spelled (field 4 epoch ∷ field 1 e.thread ∷ field 1 code ∷ field 8 e.number ∷ field 8 subject ∷ []) ++ placed
      → now ≡ spelled (field 1 1 ∷ field 1 2 ∷ field 4 size ∷ []) ++ subjected
      → now ≡ spelled (entry_front size epoch threads e) ++ old
  entry_begun e code subject place placed code_is subject_is place_is first second third fourth =
      let fs = field 1 1 ∷ field 1 2 ∷ field 4 size ∷ [] in
      let gs = field 4 epoch ∷ field 1 e.thread ∷ field 1 code ∷ field 8 e.number ∷ field 8 subject ∷ [] in
      let hs = field 1 threads ∷ field 2 (mask_of e.stamp) ∷ [] in
      let front : ℕ → ℕ → ℕ → List ℕ = λ c s p.
      spelled (fs ++ field 4 epoch ∷ field 1 e.thread ∷ field 1 c ∷ field 8 e.number ∷ field 8 s ∷ field 8 p ∷ hs)
      ++ old in
      put_more old subjected now (gs ++ field 8 place ∷ hs) fs
      (put_more old placed subjected (field 8 place ∷ hs) gs
      (put_more old masked placed hs (field 8 place ∷ []) first second) third) fourth
      ∙ ap (λ (n : ℕ). front n subject place) code_is
      ∙ ap (λ (n : ℕ). front (code_of e.what) n place) subject_is
      ∙ ap (front (code_of e.what) (subject_of e.what)) place_is

  pub output_begun : (o : Output) → masked ≡ spelled (field 1 threads ∷ field 2 (mask_of o.stamp) ∷ []) ++ old
      → subjected
      ≡ spelled (field 4 epoch ∷ field 1 o.thread ∷ field 1 0 ∷ field 8 o.number ∷ field 8 o.input ∷ []) ++ masked
      → now ≡ spelled (field 1 2 ∷ field 1 2 ∷ field 4 size ∷ []) ++ subjected
      → now ≡ spelled (output_front size epoch threads o) ++ old
  output_begun o first second third =
      let fs = field 1 2 ∷ field 1 2 ∷ field 4 size ∷ [] in
      let gs = field 4 epoch ∷ field 1 o.thread ∷ field 1 0 ∷ field 8 o.number ∷ field 8 o.input ∷ [] in
      let hs = field 1 threads ∷ field 2 (mask_of o.stamp) ∷ [] in
      put_more old subjected now (gs ++ hs) fs (put_more old masked subjected hs gs first second) third

-- one component more in front of those that were put
pub one_more : (cs old before now : List ℕ) (n : ℕ) → n < length cs
    → before ≡ spelled (component_fields (nonzero (drop (n + 1) cs))) ++ old
    → now ≡ spelled (component_fields (nonzero (slice_index cs n ∷ []))) ++ before
    → now ≡ spelled (component_fields (nonzero (drop n cs))) ++ old
one_more cs old before now n within so_far more =
    put_more old before now (component_fields (nonzero (drop (n + 1) cs)))
    (component_fields (nonzero (slice_index cs n ∷ []))) so_far more
    ∙ ap (λ (l : List Field). spelled l ++ old) (joined (slice_index cs n) (drop (n + 1) cs))
    ∙ ap (λ (l : List ℕ). spelled (component_fields (nonzero l)) ++ old) (sym (drop_more cs n 0 within))
  where
    joined : (c : ℕ) (xs : List ℕ)
        → component_fields (nonzero (c ∷ [])) ++ component_fields (nonzero xs) ≡ component_fields (nonzero (c ∷ xs))
    joined c xs = go (c == 0)
      where
        go : (b : Bool)
            → map (field 8) (if not b then c ∷ [] else []) ++ component_fields (nonzero xs)
            ≡ map (field 8) (if not b then c ∷ nonzero xs else nonzero xs)
        go true = refl
        go false = refl

pub entry_written : (size epoch threads : ℕ) (e : StampedEntry) (empty second components whole : List ℕ)
    (front : List Field) → empty ≡ [] → second ≡ spelled (component_fields (nonzero components)) ++ empty
    → components ≡ e.stamp → whole ≡ spelled front ++ second → front ≡ entry_front size epoch threads e
    → size ≡ written_length (frame.Entry epoch threads e) → whole ≡ written (frame.Entry epoch threads e)
entry_written size epoch threads e empty second components whole front none second_is same whole_is front_is sized =
    let cs = component_fields (nonzero e.stamp) in
    put_more empty second whole (component_fields (nonzero components)) front second_is whole_is
    ∙ ap (λ (l : List ℕ). spelled (front ++ component_fields (nonzero l)) ++ empty) same
    ∙ ap (λ (l : List Field). spelled (l ++ cs) ++ empty) front_is
    ∙ ap (λ (l : List ℕ). spelled (entry_front size epoch threads e ++ cs) ++ l) none
    ∙ append-nil (spelled (entry_front size epoch threads e ++ cs))
    ∙ ap (λ (n : ℕ). bytes_of Two n (frame.Entry epoch threads e)) sized

pub output_written : (size epoch threads : ℕ) (o : Output) (bytes third second components whole : List ℕ)
    (front packet : List Field) → bytes ≡ o.packet.bytes → third ≡ spelled packet ++ bytes
    → packet ≡ packet_fields o.packet → second ≡ spelled (component_fields (nonzero components)) ++ third
    → components ≡ o.stamp → whole ≡ spelled front ++ second → front ≡ output_front size epoch threads o
    → size ≡ written_length (frame.Output epoch threads o) → whole ≡ written (frame.Output epoch threads o)
output_written size epoch threads o bytes third second components whole front packet same_bytes third_is packet_is
    second_is same whole_is front_is sized =
    let cs = component_fields (nonzero o.stamp) in
    let ps = packet_fields o.packet in
    let fs = output_front size epoch threads o in
    put_more bytes second whole (component_fields (nonzero components) ++ packet) front
    (put_more bytes third second packet (component_fields (nonzero components)) third_is second_is) whole_is
    ∙ ap (λ (l : List ℕ). spelled (front ++ (component_fields (nonzero l) ++ packet)) ++ bytes) same
    ∙ ap (λ (l : List Field). spelled (front ++ (cs ++ l)) ++ bytes) packet_is
    ∙ ap (λ (l : List Field). spelled (l ++ (cs ++ ps)) ++ bytes) front_is
    ∙ ap (λ (l : List ℕ). spelled (fs ++ (cs ++ ps)) ++ l) same_bytes
    ∙ ap (λ (n : ℕ). bytes_of Two n (frame.Output epoch threads o)) sized
