-- A tag that is looked through has four bytes, and stays where the box leaves the first twelve bytes that it sees.
use Rattle.std.proofs.Common.{◌≡◌, ℕ, ◌+◌, Bool, true, if◌then◌else◌, List, take, ap, subst}
use Rattle.plain_text.specs.declared.packet.Packet.{Packet}
use Rattle.plain_machine.specs.declared.local.Local.{Local}
use Rattle.plain_machine.specs.Program.{Meaning}
use Rattle.tagged_frames.specs.Tags.{is_tagged, tag_length, behind_tag, with_behind}
use Rattle.tagged_frames.proofs.TagLemmas.{with_behind_stays}
use Rattle.tagged_box.specs.Tagged.{tagged_meaning}

pub tag_is_4 : (frame : List ℕ) → is_tagged frame ≡ true → tag_length true frame ≡ 4
tag_is_4 frame tagged = ap (λ (is : Bool). if is then 4 else 0) tagged

pub addresses_and_tag_stay : {V : Type 0} (m : Meaning V) (p : Packet) (l : Local) → is_tagged p.bytes ≡ true
    → take 12 (m.out (behind_tag true p) l) ≡ take 12 (behind_tag true p).bytes
    → take 16 ((tagged_meaning true m).out p l) ≡ take 16 p.bytes
addresses_and_tag_stay m p l tagged same =
    let out = m.out (behind_tag true p) l in
    subst (λ (k : ℕ). take (k + 12) (with_behind true p out).bytes ≡ take (k + 12) p.bytes) (tag_is_4 p.bytes tagged)
    (with_behind_stays true 12 p out same)
