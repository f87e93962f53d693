-- A box that sees each packet behind its VLAN tag (IEEE 802.1Q), and sends it out with the tag in front again.
use Rattle.std.specs.Prelude.{ℕ, Bool}
use Rattle.tagged_frames.specs.Tags.{behind_tag, with_behind}
use Rattle.tagged_frames.proofs.TagLemmas.{length_with_behind}
use Rattle.plain_machine.specs.Program.{Meaning, IsLawful}

-- A packet begins as what is seen of it does, and what goes out has the bytes that were not seen in front of what the
-- box makes of those that were.
abbrev pub tagged_meaning : {V : Type 0} → Bool → Meaning V → Meaning V
tagged_meaning tags m = record m {
  begin = λ p. m.begin (behind_tag tags p);
  out = λ p l. (with_behind tags p (m.out (behind_tag tags p) l)).bytes;
}

-- It is a program where the box is one, and its variables may have the same values.
pub tagged_lawful : {V : Type 0} (tags : Bool) (m : Meaning V) (fits : ℕ → V → Type 0) → IsLawful m fits
    → IsLawful (tagged_meaning tags m) fits
tagged_lawful tags m fits h = record {
  some_vars = h.some_vars;
  few_vars = h.few_vars;
  touches_var = h.touches_var;
  reads_var = h.reads_var;
  begins = λ p. h.begins (behind_tag tags p);
  touch_falls = h.touch_falls;
  look_falls = h.look_falls;
  clock_falls = h.clock_falls;
  draw_falls = h.draw_falls;
  emit_falls = h.emit_falls;
  ends = h.ends;
  fresh_fits = h.fresh_fits;
  touch_fits = h.touch_fits;
  as_long = λ p l e. length_with_behind tags p (m.out (behind_tag tags p) l) (h.as_long (behind_tag tags p) l e);
}
