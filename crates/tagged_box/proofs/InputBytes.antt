-- Inputs of bytes are of bytes behind their tags.
use Rattle.std.proofs.Common.{◌≡◌, ℕ, Bool, List, refl, sym, ◌∙◌, subst, Option, Some, None}
use Rattle.std.specs.Prelude.{slice_get, option_map}
use Rattle.std.proofs.lemmas.Option.{slice_get-map}
use Rattle.plain_text.specs.declared.packet.Packet.{Packet}
use Rattle.packet_headers.specs.Fields.{AreBytes}
use Rattle.tagged_frames.specs.Tags.{behind_tag}
use Rattle.tagged_frames.proofs.TagLemmas.{bytes_behind}
use Rattle.tagged_box.specs.Tags.{inputs_behind}

pub input_bytes : (tags : Bool) (inputs : ℕ → List Packet)
    → ((t k : ℕ) (p : Packet) → slice_get (inputs t) k ≡ Some p → AreBytes p.bytes)
    → (t k : ℕ) (p : Packet) → slice_get (inputs_behind tags inputs t) k ≡ Some p → AreBytes p.bytes
input_bytes tags inputs are t k p is =
    go (slice_get (inputs t) k) (are t k) (sym (slice_get-map (behind_tag tags) (inputs t) k) ∙ is)
  where
    go : (input : Option Packet) → ((q : Packet) → input ≡ Some q → AreBytes q.bytes)
        → option_map (behind_tag tags) input ≡ Some p → AreBytes p.bytes
    go None each e = absurd (cc)
    go (Some q) each e =
        let same : behind_tag tags q ≡ p = cc in
        subst (λ (r : Packet). AreBytes r.bytes) same (bytes_behind tags q (each q refl))
