-- The stamp that stands in a frame, by its version.
use Rattle.std.proofs.Common.{◌≡◌, ℕ, ◌+◌, ◌*◌, ◌≤◌, ◌∙◌, List, ◌++◌, length, take, drop, sym, ap, arith, drop-drop}
use Rattle.std.proofs.lemmas.Bool.{eqb-true, not-false}
use Rattle.std.proofs.lemmas.List.{length-drop}
use Rattle.plain_text.specs.Octets.{AreBytes}
use Rattle.plain_text.proofs.Octets.{AreBytes-drop}
use Rattle.plain_text.specs.declared.kind.Kind.{Kind}
use Rattle.wire_frames.specs.declared.version.Version.{Version}
use Rattle.wire_frames.specs.declared.version.Version.TheVariants.{One, Two}
use Rattle.wire_frames.specs.Layout.{spelled, mask_of, nonzero, component_fields, AreComponents}
use Rattle.wire_frames.specs.Places.{bits_set, components, components_place, threads_at, mask_at, stamp_at, stamp_end}
use Rattle.wire_frames.proofs.Facts.{Facts}
use Rattle.wire_frames.proofs.Stamps.{present, spelled-present, present-low, present-mask_of, length-components}
use Rattle.wire_frames.proofs.Stamps.{components-fit, components-past}

-- the components that stand in a frame
abbrev pub listed : Version → ℕ → List ℕ → List ℕ
listed One threads stamp = take threads stamp
listed Two threads stamp = nonzero stamp

-- the mask in a frame of version 2 is that of the stamp
pub mask_stands : (kind : Kind) (bytes : List ℕ) → Facts kind Two bytes
    → mask_of (stamp_at kind Two bytes) ≡ mask_at kind Two bytes
mask_stands kind bytes facts = eqb-true _ _ (not-false _ facts.zero)

present_is : (kind : Kind) (version : Version) (bytes : List ℕ) → Facts kind version bytes
    → present (mask_at kind version bytes) (stamp_at kind version bytes)
    ≡ listed version (threads_at kind bytes) (stamp_at kind version bytes)
present_is kind One bytes facts = present-low (threads_at kind bytes) (stamp_at kind One bytes)
present_is kind Two bytes facts =
    ap (λ (m : ℕ). present m (stamp_at kind Two bytes)) (sym (mask_stands kind bytes facts))
    ∙ present-mask_of (stamp_at kind Two bytes)

module _ (kind : Kind) (version : Version) (bytes : List ℕ) (are : AreBytes bytes)
    (facts : Facts kind version bytes) where
  pub stamp_stands : stamp_end kind version bytes ≤ length bytes
      → spelled (component_fields (listed version (threads_at kind bytes) (stamp_at kind version bytes)))
      ++ drop (stamp_end kind version bytes) bytes
      ≡ drop (components_place kind version) bytes
  stamp_stands room =
      let place = components_place kind version in
      let mask = mask_at kind version bytes in
      let rest = drop place bytes in
      let bits = bits_set 16 mask in
      let room_is : place + 8 * bits ≤ length bytes = room in
      let whole =
      spelled-present 16 mask rest (AreBytes-drop place bytes are) (omega (arith, length-drop place bytes)) in
      let behind : drop (8 * bits) rest ≡ drop (place + 8 * bits) bytes = drop-drop (8 * bits) place bytes in
      ap (λ (l : List ℕ). spelled (component_fields l) ++ drop (stamp_end kind version bytes) bytes)
      (sym (present_is kind version bytes facts))
      ∙ ap (λ (l : List ℕ). spelled (component_fields (present mask (components 16 mask rest))) ++ l) (sym behind)
      ∙ whole

  pub are_components : AreComponents (threads_at kind bytes) (stamp_at kind version bytes)
  are_components =
      let mask = mask_at kind version bytes in
      let rest = drop (components_place kind version) bytes in
      record {
        all = length-components 16 mask rest;
        fit = components-fit 16 mask rest (AreBytes-drop (components_place kind version) bytes are);
        none = components-past 16 mask (threads_at kind bytes) rest facts.mask;
      }
