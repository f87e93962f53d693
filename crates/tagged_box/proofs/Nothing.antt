-- Where tags are not looked through, a packet is seen as it is.
use Rattle.std.proofs.Common.{◌≡◌, ℕ, ◌-◌, false, ap, arith}
use mathlib.Core.Path.{fun_ext}
use Rattle.plain_text.specs.declared.packet.Packet.{Packet}
use Rattle.tagged_frames.specs.Tags.{behind_tag}
use Rattle.plain_machine.specs.Program.{Meaning}
use Rattle.tagged_box.specs.Tagged.{tagged_meaning}

behind_none : (p : Packet) → behind_tag false p ≡ p
behind_none p =
    let same : p.original - 0 ≡ p.original = omega arith in ap (λ (n : ℕ). record p { original = n }) same

pub nothing_looked_through : {V : Type 0} (m : Meaning V) → tagged_meaning false m ≡ m
nothing_looked_through m =
    ap (λ (f : Packet → Packet). record m { begin = λ p. m.begin (f p); out = λ p l. m.out (f p) l })
    (fun_ext behind_none)
