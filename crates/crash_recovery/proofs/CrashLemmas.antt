-- The master crashes: what stays, and what is lost.
use Rattle.std.proofs.Common.{◌≡◌, [], refl, sym, ◌∙◌, subst, inl, inr, None, true, false}
use Rattle.plain_machine.specs.Program.{Meaning}
use Rattle.snapshot_store.specs.Stored.{Snapshot, Snapshots}
use Rattle.recovery_world.specs.declared.event.Event.TheVariants as event
use Rattle.recovery_world.specs.declared.event.Outcome.TheVariants as outcome
use Rattle.recovery_world.specs.World.{Setting, World}
use Rattle.recovery_world.specs.Limits.{OnWithin}
use Rattle.recovery_laws.proofs.KeptWorlds.{within_sound}
use Rattle.system_parts.specs.Parts.{Parts}
use Rattle.system_parts.specs.SystemStanding.{IsSnapshot, StandsFor}
use Rattle.system_parts.specs.Performing.{MovesOn, ComesTo}

module _ {P V : Type 0} (m : Meaning V) (s : Setting V) (w : World V) (y : Parts P V) (st : StandsFor m s w y) where
  -- a master that is down stays so
  pub down_stays : y.up ≡ false → (next : World V) × ComesTo event.Crash outcome.Down s w next × StandsFor m s next y
  down_stays down = (w, ((inl (sym st.master.up ∙ down, refl, refl), refl), st.within), st)

  -- one that is up crashes, and the snapshot under way is lost
  pub crashes : (store : Snapshots V) → y.up ≡ true → store.stored ≡ y.store.stored → store.copy ≡ None → (next : World
      V) × ComesTo event.Crash outcome.Crashed s w next × StandsFor m s next (record y { up = false; store = store })
  crashes store up same none = (
    next,
    on,
    record {
      sound = within_sound s w event.Crash outcome.Crashed [] next st.sound on;
      within = st.within;
      inputs = record {
        meaning = st.inputs.meaning;
        fractions = st.inputs.fractions;
        inputs = st.inputs.inputs;
        left = st.inputs.left;
        clock = st.inputs.clock;
        generator = st.inputs.generator;
      };
      master = record {
        up = refl;
        stands = st.master.stands;
        schedule = st.master.schedule;
        past = st.master.past;
        moves = st.master.moves;
        bytes = st.master.bytes;
      };
      snapshots = record {
        first = subst (λ (x : Snapshot V). IsSnapshot s w.stored x) (sym same) st.snapshots.first;
        copied = λ moment is. absurd (cc);
        none = λ is. none;
      };
      ended = st.ended;
      guide = st.guide;
      sent = st.sent;
      logger = record {
        epoch = st.logger.epoch;
        holds = st.logger.holds;
        held = st.logger.held;
        waiting = st.logger.waiting;
        released = st.logger.released;
      };
      released = st.released;
    },
  )
    where
      next : World V
      next = record w { up = false; copy = None }

      on : OnWithin s w event.Crash outcome.Crashed [] next
      on = ((inr (sym st.master.up ∙ up, refl, refl), refl), st.within)

-- the same, for the parts as they were
pub crash_moves : {P V : Type 0} (meaning : P → Meaning V) (y old : Parts P V) (store : Snapshots V) → y ≡ old
    → y.up ≡ true → store.stored ≡ y.store.stored → store.copy ≡ None
    → MovesOn (meaning old.program) (ComesTo event.Crash outcome.Crashed) old (record y { up = false; store = store })
crash_moves {P} {V} meaning y old store same up kept none =
    subst (λ (z : Parts P V).
    MovesOn (meaning z.program) (ComesTo event.Crash outcome.Crashed) z (record y { up = false; store = store })) same
    (refl, λ s w st. crashes (meaning y.program) s w y st store up kept none)
