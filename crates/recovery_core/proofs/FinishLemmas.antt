-- The end: the counts of the last line, and what was released is taken.
use Rattle.std.proofs.Common.{◌≡◌, ℕ, List, [], ◌++◌, length, drop, sym, ap, ◌∙◌, subst, arith, length-take}
use Rattle.std.proofs.Math.Seq.{drop-nil}
use Rattle.std.proofs.lemmas.List.{drop_all, drop-append-le, length-append, map-append}
use Rattle.plain_text.specs.declared.packet.Packet.{Packet}
use Rattle.access_log.specs.declared.entry.Output.{Output}
use Rattle.input_logger.specs.Inputs.{Fed}
use Rattle.plain_machine.specs.Program.{Meaning}
use Rattle.plain_machine.specs.declared.plain_move.PlainMove.{PlainMove}
use Rattle.recovery_world.specs.World.{Setting, Sent, World, opening}
use Rattle.recovery_world.specs.Files.{packets_of}
use Rattle.system_rest.specs.FromRunEnd.{EndsIn}
use Rattle.system_parts.specs.Parts.{Parts}
use Rattle.system_parts.specs.SystemStanding.{NotesNames, StandsFor}
use Rattle.event_replies.specs.declared.reply.Finished.{Finished}
use Rattle.system_parts.specs.Performing.{MovesOn, StopsAt, ReleasesInto, Releasing, packets_in}
use Rattle.system_parts.proofs.ReadLemmas.{names_length, released_count}
use Rattle.system_images.specs.FromCrashRecovery.{WakesUp}
use Rattle.system_images.proofs.FromSystemEnd.{ends_woken}
use Rattle.recovery_core.specs.Systems.{Systemed, HasReleased, SystemStands, SystemMoves, SystemStops, FinishesAs}

module _ {P V : Type 0} (m : Meaning V) (s : Setting V) (w : World V) (y : Parts P V) (st : StandsFor m s w y) where
  fed_count : length y.inputs.packets ≡ w.fed
  fed_count =
      let f = st.sound.firm.fed in
      let n = ap (λ (l : Fed). length l.packets) st.inputs.inputs in
      let k = length-take w.fed s.packets in omega (arith, f, n, k)

  -- The counts at the end are those of the world.
  pub finishes : (f : Finished) → EndsIn s w f.schedule → f.fed ≡ length y.inputs.packets → f.epoch ≡ y.logger.epoch
      → f.released ≡ length y.released → FinishesAs s w f
  finishes f ends fed epoch released = record {
    steps = ends.steps;
    finish = ends.finish;
    schedule = ends.schedule_is;
    fed = fed ∙ fed_count;
    epoch = epoch ∙ st.logger.epoch;
    released = released ∙ released_count m s w y st;
  }

-- the end of a world of which the master was woken
pub ends_then : {P V : Type 0} (meaning : P → Meaning V) (old new : Parts P V) (moves : List PlainMove)
    → MovesOn (meaning old.program) WakesUp old new
    → ((s : Setting V) (w : World V) → StandsFor (meaning new.program) s w new → EndsIn s w moves)
    → (s : Setting V) (w : World V) → StandsFor (meaning old.program) s w old → EndsIn s w moves
ends_then {P} {V} meaning old new moves woken ends s w st =
    let k = woken.1 s w st in
    ends_woken s w k.0 moves k.1 (ends s k.0 (subst (λ (p : P). StandsFor (meaning p) s k.0 new) (sym woken.0) k.2))

-- Taking what was released

abbrev pub with_taken : {P V : Type 0} → Systemed P V → Systemed P V
with_taken y = record y { fresh = []; handed = length y.parts.released }

pub taken_released : {P V : Type 0} (w : World V) (y : Systemed P V) → HasReleased w y
    → HasReleased w (with_taken y) × (length y.parts.released ≡ length w.released)
taken_released w y has = (
  record {
    names = has.names;
    handed = omega (arith, count);
    fresh = sym (ap packets_of (drop_all (length y.parts.released) w.released (omega (arith, count))));
  },
  count,
)
  where
    count : length y.parts.released ≡ length w.released
    count = ap length has.names ∙ names_length w.released

-- the same, of a system as it was and as its code has it
pub taken_is : {P V : Type 0} {y old : Systemed P V} (new : Systemed P V) → y ≡ old
    → new ≡ record y { fresh = new.fresh; handed = new.handed } → new.handed ≡ length y.parts.released → new.fresh ≡ []
    → new ≡ with_taken old
taken_is {P} {V} {y} {old} new is same handed fresh =
    same ∙ ap (λ (l : List Output). record y { fresh = l; handed = new.handed }) fresh
    ∙ ap (λ (n : ℕ). record y { fresh = []; handed = n }) handed ∙ ap with_taken is

pub taken_from : {P V : Type 0} (m : Meaning V) {old : Systemed P V} (new : Systemed P V) → new ≡ with_taken old
    → (s : Setting V) (w : World V) → SystemStands m s w old → SystemStands m s w new
taken_from {P} {V} m {old} new is s w st =
    subst (λ (q : Systemed P V). SystemStands m s w q) (sym is)
    (record { parts = st.parts; released = (taken_released w old st.released).0 })

pub released_from : {P V : Type 0} {old : Systemed P V} (new : Systemed P V) (list : List Output) → new ≡ with_taken old
    → list ≡ old.fresh
    → (w : World V) → HasReleased w old
    → (packets_in list ≡ packets_of (drop old.handed w.released)) × HasReleased w new × (new.handed ≡ length w.released)
released_from {P} {V} {old} new list is list_is w has =
    let r = taken_released w old has in (
      ap packets_in list_is ∙ has.fresh,
      subst (λ (q : Systemed P V). HasReleased w q) (sym is) r.0,
      ap (λ (q : Systemed P V). q.handed) is ∙ r.1,
    )

-- Performing an event

-- what was released is there, where it was before
released_then : {P V : Type 0} (w next : World V) (old new : Systemed P V) → new.handed ≡ old.handed
    → ReleasesInto old.fresh new.fresh w next → NotesNames next new.parts → HasReleased w old → HasReleased next new
released_then w next old new handed more names has = record {
  names = names;
  handed =
      let few = has.handed in let count = ap length more.released in let both = length-append w.released more.freed
      in omega (arith, handed, few, count, both);
  fresh =
      more.packets ∙ ap (λ (l : List Packet). l ++ packets_of more.freed) has.fresh
      ∙ sym (map-append (λ (o : Sent). o.emission.packet) (drop old.handed w.released) more.freed)
      ∙ ap packets_of (sym (drop-append-le old.handed w.released more.freed has.handed)
      ∙ ap (drop old.handed) (sym more.released) ∙ ap (λ (n : ℕ). drop n next.released) (sym handed));
}

pub system_moves : {P V : Type 0} (m : Meaning V) (R : Setting V → World V → World V → Type 0) (old new : Systemed P V)
    → new.handed ≡ old.handed → MovesOn m (Releasing old.fresh new.fresh R) old.parts new.parts
    → SystemMoves m R old new
system_moves m R old new handed moves = (
  moves.0,
  handed,
  λ s w st.
      let r = moves.1 s w st.parts in (
        r.0,
        r.1.0,
        record { parts = r.2; released = released_then w r.0 old new handed r.1.1 r.2.released st.released },
      ),
)

pub system_stops : {P V : Type 0} (m : Meaning V) (R : Setting V → World V → World V → Type 0) (old new : Systemed P V)
    → new.handed ≡ old.handed → StopsAt m (Releasing old.fresh new.fresh R) old.parts new.parts
    → SystemStops m R old new
system_stops m R old new handed stops = (
  handed,
  λ s w st. let r = stops s w st.parts in (r.0, r.1.0, released_then w r.0 old new handed r.1.1 r.2 st.released),
)

-- the same, of a system as its code has it
pub system_on : {P V : Type 0} (meaning : P → Meaning V) (R : Setting V → World V → World V → Type 0)
    {y old : Systemed P V} (new : Systemed P V)
    → y ≡ old → new.handed ≡ y.handed
    → MovesOn (meaning y.parts.program) (Releasing y.fresh new.fresh R) y.parts new.parts
    → SystemMoves (meaning old.parts.program) R old new
system_on {P} {V} meaning R {y} new same handed moves =
    subst (λ (q : Systemed P V). SystemMoves (meaning q.parts.program) R q new) same
    (system_moves (meaning y.parts.program) R y new handed moves)

pub system_at : {P V : Type 0} (meaning : P → Meaning V) (R : Setting V → World V → World V → Type 0)
    {y old : Systemed P V} (new : Systemed P V)
    → y ≡ old → new.handed ≡ y.handed
    → StopsAt (meaning y.parts.program) (Releasing y.fresh new.fresh R) y.parts new.parts
    → SystemStops (meaning old.parts.program) R old new
system_at {P} {V} meaning R {y} new same handed stops =
    subst (λ (q : Systemed P V). SystemStops (meaning q.parts.program) R q new) same
    (system_stops (meaning y.parts.program) R y new handed stops)

-- A new system stands for the opening.
pub system_opens : {P V : Type 0} (m : Meaning V) (s : Setting V) (y : Systemed P V) → StandsFor m s (opening V) y.parts
    → y.handed ≡ 0 → y.fresh ≡ [] → SystemStands m s (opening V) y
system_opens m s y st handed none = record {
  parts = st;
  released = record {
    names = st.released;
    handed = omega (arith, handed);
    fresh = ap packets_in none ∙ sym (ap packets_of (drop-nil y.handed));
  };
}
