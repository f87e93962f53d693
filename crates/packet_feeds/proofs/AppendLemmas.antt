-- A packet behind those of the capture: the system stands for the same worlds, on the longer capture.
use Rattle.std.proofs.Common.{◌≡◌, List, [], ◌∷◌, ◌++◌, sym, ap, ◌∙◌, subst}
use Rattle.std.proofs.lemmas.List.{take-append-le, drop-append-le}
use Rattle.plain_text.specs.declared.packet.Packet.{Packet}
use Rattle.plain_machine.specs.Program.{Meaning}
use Rattle.recovery_world.specs.World.{Setting, World}
use Rattle.longer_captures.specs.Longer.{with_more}
use Rattle.longer_captures.proofs.LongerLemmas.{sound_there}
use Rattle.system_parts.specs.Parts.{Parts}
use Rattle.system_parts.specs.SystemStanding.{StandsFor}

-- the parts with a packet behind those that are left
abbrev pub with_behind : {P V : Type 0} → Parts P V → Packet → Parts P V
with_behind y p = record y { left = y.left ++ p ∷ [] }

-- They stand for the same worlds, on the longer capture.
abbrev pub StandsLonger : {P V : Type 0} → Meaning V → Packet → Parts P V → Parts P V → Type 0
StandsLonger {P} {V} m p old new =
    (s : Setting V) (w : World V) → StandsFor m s w old → StandsFor m (with_more s (p ∷ [])) w new

stands_behind : {P V : Type 0} (m : Meaning V) (p : Packet) (y : Parts P V) → StandsLonger m p y (with_behind y p)
stands_behind m p y s w st = record {
  sound = sound_there s w (p ∷ []) st.sound;
  within = st.within;
  inputs = record {
    meaning = st.inputs.meaning;
    fractions = st.inputs.fractions;
    inputs =
        st.inputs.inputs
        ∙ ap (λ (l : List Packet). record { threads = s.threads; tags = s.tags; packets = l })
        (sym (take-append-le w.fed s.packets (p ∷ []) st.sound.firm.fed));
    left =
        ap (λ (l : List Packet). l ++ p ∷ []) st.inputs.left
        ∙ sym (drop-append-le w.fed s.packets (p ∷ []) st.sound.firm.fed);
    clock = st.inputs.clock;
    generator = st.inputs.generator;
  };
  master = record {
    up = st.master.up;
    stands = st.master.stands;
    schedule = st.master.schedule;
    past = st.master.past;
    moves = st.master.moves;
    bytes = st.master.bytes;
  };
  snapshots = record {
    first = record { stands = st.snapshots.first.stands; moves_are = st.snapshots.first.moves_are };
    copied = λ moment is.
        let k = st.snapshots.copied moment is in
        (k.0, k.1, record { stands = k.2.stands; moves_are = k.2.moves_are });
    none = st.snapshots.none;
  };
  ended = st.ended;
  guide = st.guide;
  sent = st.sent;
  logger = st.logger;
  released = st.released;
}

-- the same, of the parts as they were and as the code has them
pub stands_longer : {P V : Type 0} (m : Meaning V) (p : Packet) {y old : Parts P V} {left : List Packet} → y ≡ old
    → left ≡ y.left ++ p ∷ [] → StandsLonger m p old (record y { left = left })
stands_longer {P} {V} m p {y} {old} {left} is behind =
    subst (λ (q : Parts P V). StandsLonger m p q (record y { left = left })) is
    (subst (λ (l : List Packet). StandsLonger m p y (record y { left = l })) (sym behind) (stands_behind m p y))
