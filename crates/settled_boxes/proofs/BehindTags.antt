-- A box that sends each packet out once does so where it looks through tags.
use Rattle.std.proofs.Common.{◌≡◌, ℕ, Bool, List, refl, ap, ◌∙◌}
use Rattle.std.proofs.lemmas.List.{take-append-drop}
use Rattle.plain_text.specs.declared.packet.Packet.{Packet}
use Rattle.tagged_frames.specs.Tags.{tag_length, behind_tag, with_behind}
use Rattle.plain_machine.specs.declared.local.Local.{Local}
use Rattle.plain_machine.specs.Program.{Meaning}
use Rattle.box_program.specs.Count.{count_meaning}
use Rattle.monitor_box.specs.Monitor.{monitor_meaning}
use Rattle.tagged_box.specs.Tagged.{tagged_meaning}
use Rattle.settled_boxes.specs.EachOnce.{IsNumbered, IsUnchanged, SentBehind}
use Rattle.settled_boxes.proofs.OutputsOfInputs.{SendsOnce}
use Rattle.settled_boxes.proofs.BoxMoves.{count_went, count_once, monitor_went, monitor_once}

-- Behind its tag a packet goes out as the box sends it out; Goes is what this comes to.
tagged_once : {V : Type 0} (tags : Bool) (m : Meaning V) (SentAs Goes : Packet → Packet → Type 0)
    (Went : Local → Type 0) → ((p q : Packet) → SentBehind tags SentAs p q → Goes p q) → SendsOnce m SentAs Went
    → SendsOnce (tagged_meaning tags m) Goes Went
tagged_once tags m SentAs Goes Went goes once = record {
  begins = λ p. once.begins (behind_tag tags p);
  reads = once.reads;
  asks_no_time = once.asks_no_time;
  asks_no_word = once.asks_no_word;
  before_touch = once.before_touch;
  after_touch = once.after_touch;
  before_emission = once.before_emission;
  after_emission = once.after_emission;
  ends = once.ends;
  packet = λ h e. goes h.packet _ (
    m.out (behind_tag tags h.packet) h.place,
    once.packet (record { packet = behind_tag tags h.packet; place = h.place }) e,
    refl,
  );
}

pub tagged_count_once : (tags : Bool)
    → SendsOnce (tagged_meaning tags count_meaning) (SentBehind tags IsNumbered) count_went
tagged_count_once tags =
    tagged_once tags count_meaning IsNumbered (SentBehind tags IsNumbered) count_went (λ p q sent. sent) count_once

-- What is left as it is behind its tag is left as it is.
unchanged_behind : (tags : Bool) (p q : Packet) → SentBehind tags IsUnchanged p q → IsUnchanged p q
unchanged_behind tags p q (bytes, same, out) =
    let left : bytes ≡ (behind_tag tags p).bytes = ap (λ (r : Packet). r.bytes) same in
    out
    ∙ (ap (λ (b : List ℕ). with_behind tags p b) left
    ∙ ap (λ (b : List ℕ). record p { bytes = b }) (take-append-drop (tag_length tags p.bytes) p.bytes))

pub tagged_monitor_once : (tags : Bool) (tables : ℕ)
    → SendsOnce (tagged_meaning tags (monitor_meaning tables)) IsUnchanged monitor_went
tagged_monitor_once tags tables =
    tagged_once tags (monitor_meaning tables) IsUnchanged IsUnchanged monitor_went (unchanged_behind tags)
    (monitor_once tables)
