-- Packets are put behind those of a capture, one by one.
use Rattle.std.proofs.Common.{◌≡◌, ℕ, ◌+◌, ◌<◌, false, List, [], ◌∷◌, ◌++◌, length, take, get_or, refl, sym, ap, ◌∙◌}
use Rattle.std.proofs.Common.{subst, append_assoc, arith}
use Rattle.std.specs.Prelude.{All}
use Rattle.std.proofs.lemmas.List.{append-nil, get_or-map, length-map, map-append, take_more}
use Rattle.plain_text.specs.Packets.{IsShort}
use Rattle.plain_text.specs.declared.packet.Packet.{Packet}
use Rattle.access_log.specs.declared.entry.Output.{Output}
use Rattle.plain_machine.specs.Program.{Meaning}
use Rattle.recovery_world.specs.World.{Setting, World}
use Rattle.longer_captures.specs.Longer.{with_more}
use Rattle.system_parts.specs.Performing.{packets_in}
use Rattle.recovery_core.specs.Systems.{Systemed, SystemStands}
use Rattle.recovery_core.proofs.AppendedLemmas.{system_behind}
use Rattle.chain_box.specs.Chains.{PassesOn}

pub passes_none : {Q U : Type 0} (n : Meaning U) {y : Systemed Q U} → y.stopped ≡ false → PassesOn n [] y y
passes_none {Q} {U} n {y} runs = record {
  stands = λ r w st.
      subst (λ (l : List Packet). SystemStands n (record r { packets = l }) w y) (sym (append-nil r.packets)) st;
  program = refl;
  runs = runs;
  handed = refl;
  fresh = refl;
}

pub passes_next : {Q U : Type 0} (meaning : Q → Meaning U) (packets : List Packet) (p : Packet)
    (old mid new : Systemed Q U) → PassesOn (meaning old.parts.program) packets old mid
    → PassesOn (meaning mid.parts.program) (p ∷ []) mid new
    → PassesOn (meaning old.parts.program) (packets ++ p ∷ []) old new
passes_next {Q} {U} meaning packets p old mid new before next = record {
  stands = λ r w st.
      subst (λ (l : List Packet). SystemStands (meaning old.parts.program) (record r { packets = l }) w new)
      (append_assoc r.packets packets (p ∷ []))
      (subst (λ (q : Q). SystemStands (meaning q) (with_more (with_more r packets) (p ∷ [])) w new) before.program
      (next.stands (with_more r packets) w
      (subst (λ (q : Q). SystemStands (meaning q) (with_more r packets) w mid) (sym before.program)
      (before.stands r w st))));
  program = next.program ∙ before.program;
  runs = next.runs;
  handed = next.handed ∙ before.handed;
  fresh = next.fresh ∙ before.fresh;
}

-- one packet, as a system appends it
pub passes_one : {Q U : Type 0} (n : Meaning U) (p : Packet) (old new : Systemed Q U) → old.stopped ≡ false
    → new ≡ system_behind old p
    → ((r : Setting U) (w : World U) → SystemStands n r w old → SystemStands n (with_more r (p ∷ [])) w new)
    → PassesOn n (p ∷ []) old new
passes_one {Q} {U} n p old new runs is stands = record {
  stands = stands;
  program = ap (λ (y : Systemed Q U). y.parts.program) is;
  runs = ap (λ (y : Systemed Q U). y.stopped) is ∙ runs;
  handed = ap (λ (y : Systemed Q U). y.handed) is;
  fresh = ap (λ (y : Systemed Q U). y.fresh) is;
}

-- the packet of an output among short ones is short
pub short_at : (outputs : List Output) (i : ℕ) (o : Output) (p : Packet) → All IsShort (packets_in outputs)
    → i < length outputs → o ≡ get_or outputs i o → p ≡ o.packet → IsShort p
short_at outputs i o p all low is copied =
    let many : length (packets_in outputs) ≡ length outputs = length-map outputs (λ (x : Output). x.packet) in
    subst IsShort
    (get_or-map (λ (x : Output). x.packet) outputs i o o.packet low
    ∙ ap (λ (x : Output). x.packet) (sym is) ∙ sym copied)
    (all i o.packet (omega (arith, low, many)))

-- the packets of one more output
pub one_more : (outputs : List Output) (i : ℕ) (o : Output) (p : Packet) → i < length outputs
    → o ≡ get_or outputs i o → p ≡ o.packet
    → packets_in (take (i + 1) outputs) ≡ packets_in (take i outputs) ++ p ∷ []
one_more outputs i o p low is copied =
    ap packets_in (take_more outputs i o low)
    ∙ map-append (λ (x : Output). x.packet) (take i outputs) (get_or outputs i o ∷ [])
    ∙ ap (λ (x : Output). packets_in (take i outputs) ++ x.packet ∷ []) (sym is)
    ∙ ap (λ (x : Packet). packets_in (take i outputs) ++ x ∷ []) (sym copied)
