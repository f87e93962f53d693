-- A system stands for a world, where it stands for one that differs from it only in the order of what is held.
use Rattle.std.proofs.Common.{◌≡◌, ℕ, List, sym, subst}
use Rattle.std.specs.Prelude.{◌↔◌}
use Rattle.entry_order.specs.Log.{Entry, IsIn}
use Rattle.plain_machine.specs.Program.{Meaning}
use Rattle.recovery_world.specs.World.{Setting, World}
use Rattle.recovery_laws.specs.Sound.{Sound}
use Rattle.early_arrivals.specs.Early.{with_held, IsSameSet}
use Rattle.system_parts.specs.Parts.{Parts}
use Rattle.system_parts.specs.SystemStanding.{StandsFor}

stands_with : {P V : Type 0} (m : Meaning V) (s : Setting V) (w : World V) (held : List Entry) (y : Parts P V)
    → ((e : Entry) → IsIn e held ↔ IsIn e w.held) → Sound s w → StandsFor m s (with_held w held) y → StandsFor m s w y
stands_with m s w held y members sound st = record {
  sound = sound;
  within = st.within;
  inputs = record {
    meaning = st.inputs.meaning;
    fractions = st.inputs.fractions;
    inputs = st.inputs.inputs;
    left = st.inputs.left;
    clock = st.inputs.clock;
    generator = st.inputs.generator;
  };
  master = record {
    up = st.master.up;
    stands = st.master.stands;
    schedule = st.master.schedule;
    past = st.master.past;
    moves = st.master.moves;
    bytes = st.master.bytes;
  };
  snapshots = st.snapshots;
  ended = st.ended;
  guide = st.guide;
  sent = st.sent;
  logger = record {
    epoch = st.logger.epoch;
    holds = st.logger.holds;
    held = λ e. (
      λ i. let k = (st.logger.held e).0 i in ((members e).0 k.0, k.1),
      λ k. (st.logger.held e).1 ((members e).1 k.0, k.1),
    );
    waiting = st.logger.waiting;
    released = st.logger.released;
  };
  released = st.released;
}

pub stands_same : {P V : Type 0} (m : Meaning V) (s : Setting V) (w other : World V) (y : Parts P V)
    → IsSameSet w other → Sound s w → StandsFor m s other y → StandsFor m s w y
stands_same {P} {V} m s w other y same sound st =
    stands_with m s w same.held y same.members sound (subst (λ (z : World V). StandsFor m s z y) same.same st)
