use Rattle.std.proofs.Common.{◌≡◌}
use Rattle.std.specs.Prelude.{length}
use Rattle.plain_text.specs.Lines.{counted_lines}
use Rattle.sha2.specs.Sha256.{sha256}
use Rattle.box_conf.specs.Names.{named_in}
use Rattle.std.specs.Str.Lines.{lines as lines_of}
use Rattle.box_conf.specs.Reading.{described_box, conf_of, set_lines}
use Rattle.box_conf.specs.Settings.{AreInRange}
use Rattle.box_conf.proofs.conf.read_settings.Given as goal

-- the text comes to what the settings so far and the lines left come to; what was set is in its range
abbrev pub invariant-loop-line : goal.invariant-loop-line
invariant-loop-line l = record {
  text : described_box l.text
      ≡ conf_of (sha256 l.text) (length (lines_of l.text)) l.kind (named_in (counted_lines l.text))
      (set_lines l.kind l.settings l.line-iterator);
  in_range : AreInRange l.settings;
}
