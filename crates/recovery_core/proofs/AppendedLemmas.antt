-- A packet was put behind the capture of a system.
use Rattle.std.proofs.Common.{◌≡◌, List, [], ◌∷◌, ◌++◌, sym, ap, ◌∙◌, subst, Result, Ok, Err}
use Rattle.std.specs.Prelude.{OnOk, OnErr}
use Rattle.plain_text.specs.declared.packet.Packet.{Packet}
use Rattle.plain_machine.specs.Program.{Meaning}
use Rattle.recovery_world.specs.World.{Setting, World}
use Rattle.longer_captures.specs.Longer.{with_more}
use Rattle.system_parts.specs.Parts.{Parts}
use Rattle.system_parts.specs.SystemStanding.{StandsFor, StandsForSome}
use Rattle.system_images.proofs.FromPacketFeeds.{with_behind, StandsLonger}
use Rattle.recovery_core.specs.Systems.{Systemed, SystemStands}

-- The parts stand for some world afterwards.
pub stands_for_some : {A E P V : Type 0} (mean : P → Meaning V) (p : Packet) (r : Result A E) (old new : Parts P V)
    → OnOk r (new ≡ with_behind old p) → OnOk r (StandsLonger (mean old.program) p old new) → OnErr r (new ≡ old)
    → StandsForSome (mean old.program) old → StandsForSome (mean new.program) new
stands_for_some {A} {E} {P} {V} mean p (Ok a) old new ok stands err some = (
  with_more some.0 (p ∷ []),
  some.1,
  subst (λ (q : P). StandsFor (mean q) (with_more some.0 (p ∷ [])) some.1 new)
      (sym (ap (λ (y : Parts P V). y.program) ok))
      (stands some.0 some.1 some.2),
)
stands_for_some {A} {E} {P} {V} mean p (Err e) old new ok stands err some =
    subst (λ (y : Parts P V). StandsForSome (mean y.program) y) (sym err) some

-- the system with a packet behind those that are left
abbrev pub system_behind : {P V : Type 0} → Systemed P V → Packet → Systemed P V
system_behind y p = record y { parts = with_behind y.parts p }

pub is_behind : {A E P V : Type 0} (p : Packet) (r : Result A E) {y old : Systemed P V} (parts : Parts P V) → y ≡ old
    → OnOk r (parts ≡ with_behind y.parts p) → OnOk r (record y { parts = parts } ≡ system_behind old p)
is_behind {A} {E} {P} {V} p (Ok a) {y} parts is ok =
    ap (λ (q : Parts P V). record y { parts = q }) ok ∙ ap (λ (q : Systemed P V). system_behind q p) is
is_behind p (Err e) parts is ok = tt

pub is_same : {A E P V : Type 0} (r : Result A E) {y old : Systemed P V} (parts : Parts P V) → y ≡ old
    → OnErr r (parts ≡ y.parts) → OnErr r (record y { parts = parts } ≡ old)
is_same (Ok a) parts is err = tt
is_same {A} {E} {P} {V} (Err e) {y} parts is err = ap (λ (q : Parts P V). record y { parts = q }) err ∙ is

pub stands_behind : {A E P V : Type 0} (mean : P → Meaning V) (p : Packet) (r : Result A E) {y old : Systemed P V}
    (parts : Parts P V) → y ≡ old → OnOk r (parts ≡ with_behind y.parts p)
    → OnOk r (StandsLonger (mean y.parts.program) p y.parts parts)
    → OnOk r ((s : Setting V) (w : World V) → SystemStands (mean old.parts.program) s w old
    → SystemStands (mean old.parts.program) (with_more s (p ∷ [])) w (record y { parts = parts }))
stands_behind {A} {E} {P} {V} mean p (Ok a) {y} parts is ok stands =
    subst (λ (q : Systemed P V). (s : Setting V) (w : World V) → SystemStands (mean q.parts.program) s w q
    → SystemStands (mean q.parts.program) (with_more s (p ∷ [])) w (record y { parts = parts })) is
    (λ s w st. record {
      parts = stands s w st.parts;
      released = record {
        names = ap (λ (q : Parts P V). q.released) ok ∙ st.released.names;
        handed = st.released.handed;
        fresh = st.released.fresh;
      };
    })
stands_behind mean p (Err e) parts is ok stands = tt
