-- What the first system of a chain releases is behind the capture of the second: both stand for worlds of a chain.
use Rattle.std.proofs.Common.{◌≡◌, ℕ, false, List, [], ◌++◌, length, drop, refl, sym, ap, ◌∙◌, subst, inl, inr, All}
use Rattle.std.proofs.Common.{◌⊎◌, ◌-◌, take, arith, Result, Ok, Err}
use Rattle.std.specs.Prelude.{IfOk, OnOk}
use Rattle.std.proofs.Math.Seq.{drop-append_seam}
use Rattle.std.proofs.lemmas.List.{append-nil, append_cancel_left, drop-append-le, drop-map, length-drop, map-append}
use Rattle.std.proofs.lemmas.List.{take_all}
use Rattle.std.proofs.lemmas.List.Elements.{All-drop}
use Rattle.plain_text.specs.Packets.{IsShort}
use Rattle.plain_text.specs.declared.limit.Limit.{Limit}
use Rattle.plain_text.specs.declared.packet.Packet.{Packet}
use Rattle.access_log.specs.declared.entry.Output.{Output}
use Rattle.plain_machine.specs.Program.{Meaning, IsLawful}
use Rattle.recovery_world.specs.declared.event.Event.{Event}
use Rattle.recovery_world.specs.World.{Setting, Sent, World, opening}
use Rattle.recovery_world.specs.Files.{packets_of}
use Rattle.recovery_laws.proofs.ReleasedOutputs.{any_grows}
use Rattle.event_replies.specs.declared.reply.Reply.{Reply}
use Rattle.run_writes.proofs.ShortPackets.{released_short}
use Rattle.system_parts.specs.Performing.{Appends, IsStopped, packets_in}
use Rattle.chain_world.specs.declared.chain_event.ChainEvent.{ChainEvent}
use Rattle.chain_world.specs.Chain.{Chained, behind, chain_opening}
use Rattle.recovery_core.specs.Systems.{Systemed, HasReleased, SystemStands, SystemMoves, SystemStops, RepliesAny}
use Rattle.chain_box.specs.Chains.{TwoSystems, both, ChainStands, IsGoing, MovesBoth, HaltsBoth, RepliesInChain}
use Rattle.chain_box.specs.Chains.{StopsInChain, PassesOn}

-- the packets of the outputs that came are those that were released meanwhile
newly : {P V : Type 0} (w next : World V) (more : List Sent) (old new : Systemed P V) → HasReleased w old
    → HasReleased next new → new.handed ≡ old.handed → next.released ≡ w.released ++ more → Appends old.fresh new.fresh
    → packets_in (drop (length old.fresh) new.fresh) ≡ packets_of more
newly w next more old new has has_new handed grown appends =
    ap (λ (l : List Output). packets_in (drop (length old.fresh) l)) appends.1
    ∙ ap packets_in (drop-append_seam old.fresh appends.0)
    ∙ append_cancel_left (packets_in old.fresh) (packets_in appends.0) (packets_of more) both_ways
  where
    both_ways : packets_in old.fresh ++ packets_in appends.0 ≡ packets_in old.fresh ++ packets_of more
    both_ways =
        sym (map-append (λ (o : Output). o.packet) old.fresh appends.0)
        ∙ ap packets_in (sym appends.1)
        ∙ has_new.fresh
        ∙ ap (λ (n : ℕ). packets_of (drop n next.released)) handed
        ∙ ap (λ (l : List Sent). packets_of (drop old.handed l)) grown
        ∙ ap packets_of (drop-append-le old.handed w.released more has.handed)
        ∙ map-append (λ (o : Sent). o.emission.packet) (drop old.handed w.released) more
        ∙ ap (λ (l : List Packet). l ++ packets_of more) (sym has.fresh)

-- an event of the first system
pub first_moves : {P V Q U : Type 0} (m : Meaning V) (n : Meaning U) (ev : ChainEvent) (reply : Reply)
    (old new : Systemed P V) (second next : Systemed Q U) → ev.which ≡ 1
    → SystemMoves m (RepliesAny ev.event reply) old new → Appends old.fresh new.fresh
    → PassesOn n (packets_in (drop (length old.fresh) new.fresh)) second next
    → MovesBoth m n (RepliesInChain ev reply) (both old second) (both new next)
first_moves {P} {V} {Q} {U} m n ev reply old new second next which does appends passed =
    (does.0, passed.program, does.1, passed.handed, λ s r c st. moved s r c st)
  where
    moved : (s : Setting V) (r : Setting U) (c : Chained V U) → ChainStands m n s r c old second
        → (there : Chained V U) × RepliesInChain ev reply s r c there × ChainStands m n s r there new next
    moved s r c st =
        let k = does.2 s c.first st.at_first in
        let grown = any_grows s c.first ev.event reply.outcome k.1.0 k.0 k.1.1 in
        let came : packets_of c.first.released ++ packets_in (drop (length old.fresh) new.fresh)
        ≡ packets_of k.0.released =
        ap (λ (l : List Packet). packets_of c.first.released ++ l)
        (newly c.first k.0 grown.0 old new st.at_first.released k.2.released does.1 grown.1 appends)
        ∙ sym (map-append (λ (o : Sent). o.emission.packet) c.first.released grown.0)
        ∙ ap packets_of (sym grown.1) in (
          record { first = k.0; second = c.second },
          (k.1.0, inl (which, k.1.1, refl), k.1.2),
          record {
            at_first = k.2;
            at_second = subst (λ (l : List Packet). SystemStands n (record r { packets = l }) c.second next) came
                (passed.stands (behind r c.first) c.second st.at_second);
          },
        )

-- an event of the second system
pub second_moves : {P V Q U : Type 0} (m : Meaning V) (n : Meaning U) (ev : ChainEvent) (reply : Reply)
    (first : Systemed P V) (old new : Systemed Q U) → ev.which ≡ 2
    → SystemMoves n (RepliesAny ev.event reply) old new
    → MovesBoth m n (RepliesInChain ev reply) (both first old) (both first new)
second_moves {P} {V} {Q} {U} m n ev reply first old new which does =
    (refl, does.0, refl, does.1, λ s r c st. moved s r c st)
  where
    moved : (s : Setting V) (r : Setting U) (c : Chained V U) → ChainStands m n s r c first old
        → (there : Chained V U) × RepliesInChain ev reply s r c there × ChainStands m n s r there first new
    moved s r c st =
        let k = does.2 (behind r c.first) c.second st.at_second in (
          record { first = c.first; second = k.0 },
          (k.1.0, inr (which, k.1.1, refl), k.1.2),
          record { at_first = st.at_first; at_second = k.2 },
        )

-- or it stops at a limit
pub first_halts : {P V Q U : Type 0} (m : Meaning V) (n : Meaning U) (ev : ChainEvent) (limit : Limit)
    (old new : Systemed P V) (second : Systemed Q U) → ev.which ≡ 1 → SystemStops m (IsStopped ev.event limit) old new
    → HaltsBoth m n (StopsInChain ev limit) (both old second) (both new second)
first_halts {P} {V} {Q} {U} m n ev limit old new second which stops = (
  stops.0,
  refl,
  λ s r c st.
      let k = stops.1 s c.first st.at_first in
      (record { first = k.0; second = c.second }, inl (which, k.1, refl), k.2, st.at_second.released),
)

pub second_halts : {P V Q U : Type 0} (m : Meaning V) (n : Meaning U) (ev : ChainEvent) (limit : Limit)
    (first : Systemed P V) (old new : Systemed Q U) → ev.which ≡ 2 → SystemStops n (IsStopped ev.event limit) old new
    → HaltsBoth m n (StopsInChain ev limit) (both first old) (both first new)
second_halts {P} {V} {Q} {U} m n ev limit first old new which stops = (
  refl,
  stops.0,
  λ s r c st.
      let k = stops.1 (behind r c.first) c.second st.at_second in
      (record { first = c.first; second = k.0 }, inr (which, k.1, refl), st.at_first.released, k.2),
)

-- Both can go on afterwards.
pub goes_on : {P V Q U : Type 0} (mean : P → Meaning V) (other : Q → Meaning U)
    (R : Setting V → Setting U → Chained V U → Chained V U → Type 0) (old new : Systemed P V)
    (second next : Systemed Q U)
    → MovesBoth (mean old.parts.program) (other second.parts.program) R (both old second) (both new next)
    → new.stopped ≡ false → next.stopped ≡ false
    → IsGoing (mean old.parts.program) (other second.parts.program) old second
    → IsGoing (mean new.parts.program) (other next.parts.program) new next
goes_on {P} {V} {Q} {U} mean other R old new second next moves first_runs second_runs going = record {
  first_runs = first_runs;
  second_runs = second_runs;
  first_setting = going.first_setting;
  second_setting = going.second_setting;
  worlds = k.0;
  stands =
      subst (λ (q : Q). ChainStands (mean new.parts.program) (other q) going.first_setting going.second_setting k.0 new
      next) (sym moves.1)
      (subst (λ (p : P). ChainStands (mean p) (other second.parts.program) going.first_setting going.second_setting k.0
      new next) (sym moves.0) k.2);
  short = going.short;
}
  where
    k : (there : Chained V U) × R going.first_setting going.second_setting going.worlds there
        × ChainStands (mean old.parts.program) (other second.parts.program) going.first_setting going.second_setting
        there new next
    k = moves.4 going.first_setting going.second_setting going.worlds going.stands

-- What the first system released is short enough for a capture.
pub fresh_short : {P V Q U : Type 0} (m : Meaning V) (n : Meaning U) (fits : ℕ → V → Type 0) (ev : Event)
    (reply : Reply) (old new : Systemed P V) (second : Systemed Q U) (k : ℕ) → IsLawful m fits → IsGoing m n old second
    → SystemMoves m (RepliesAny ev reply) old new → All IsShort (packets_in (drop k new.fresh))
fresh_short {P} {V} {Q} {U} m n fits ev reply old new second k lawful going does =
    let moved = does.2 going.first_setting going.worlds.first going.stands.at_first in
    let law : IsLawful going.first_setting.meaning fits =
    subst (λ (q : Meaning V). IsLawful q fits) (sym going.stands.at_first.parts.inputs.meaning) lawful in
    let all : All IsShort (packets_in new.fresh) =
    subst (All IsShort) (sym moved.2.released.fresh)
    (released_short going.first_setting fits moved.0 new.handed law going.short moved.2.parts.sound) in
    subst (All IsShort) (drop-map (λ (o : Output). o.packet) k new.fresh)
    (All-drop IsShort k (packets_in new.fresh) all)

-- The same, where an event of the second system may have ended.
pub goes_on_after : {P V Q U E : Type 0} (mean : P → Meaning V) (other : Q → Meaning U) (ev : ChainEvent)
    (r : Result Reply E) (first : Systemed P V) (old new : Systemed Q U) → ev.which ≡ 2
    → IfOk r (λ reply. SystemMoves (other old.parts.program) (RepliesAny ev.event reply) old new)
    → OnOk r (new.stopped ≡ false) → IsGoing (mean first.parts.program) (other old.parts.program) first old
    → OnOk r (IsGoing (mean first.parts.program) (other new.parts.program) first new)
goes_on_after mean other ev (Ok reply) first old new which does runs going =
    goes_on mean other (RepliesInChain ev reply) first first old new
    (second_moves (mean first.parts.program) (other old.parts.program) ev reply first old new which does)
    going.first_runs runs going
goes_on_after mean other ev (Err e) first old new which does runs going = tt

-- the second, where it is not the first
pub is_second : (which : ℕ) → (which ≡ 1) ⊎ (which ≡ 2) → (which ≡ 1 → ⊥) → which ≡ 2
is_second which (inl one) other = absurd (other one)
is_second which (inr two) other = two

-- what is shown of the first from a place on is what it released
pub sliced : {P V : Type 0} (old new : Systemed P V) {earlier shown : List Output} {k : ℕ} → k ≡ length earlier
    → earlier ≡ old.fresh → shown ≡ new.fresh
    → take (length shown - k) (drop k shown) ≡ drop (length old.fresh) new.fresh
sliced old new {earlier} {shown} {k} long was is =
    take_all (length shown - k) (drop k shown) (let n = length-drop k shown in omega (arith, n))
    ∙ ap (λ (n : ℕ). drop n shown) (long ∙ ap length was)
    ∙ ap (λ (l : List Output). drop (length old.fresh) l) is

-- nothing was added
pub same_appends : {old new : List Output} → new ≡ old → Appends old new
same_appends {old} is = ([], is ∙ sym (append-nil old))

-- Two systems that were just opened, the second without packets, can go on in a chain.
pub opened_going : {P V Q U : Type 0} (m : Meaning V) (n : Meaning U) (s : Setting V) (r : Setting U)
    (first : Systemed P V) (second : Systemed Q U) → SystemStands m s (opening V) first
    → SystemStands n r (opening U) second → r.packets ≡ [] → All IsShort s.packets → first.stopped ≡ false
    → second.stopped ≡ false → IsGoing m n first second
opened_going {P} {V} {Q} {U} m n s r first second at_first at_second none short first_runs second_runs = record {
  first_runs = first_runs;
  second_runs = second_runs;
  first_setting = s;
  second_setting = r;
  worlds = chain_opening V U;
  stands = record {
    at_first = at_first;
    at_second =
        subst (λ (l : List Packet). SystemStands n (record r { packets = l }) (opening U) second) none at_second;
  };
  short = short;
}

-- the same, of a chain as it was and as its code has it
pub moves_from : {P V Q U E : Type 0} (mean : P → Meaning V) (other : Q → Meaning U) (ev : ChainEvent)
    (r : Result Reply E) {y old : TwoSystems P V Q U} (new : TwoSystems P V Q U) → y ≡ old
    → IfOk r (λ reply. MovesBoth (mean y.first.parts.program) (other y.second.parts.program) (RepliesInChain ev reply) y
    new)
    → IfOk r (λ reply. MovesBoth (mean old.first.parts.program) (other old.second.parts.program)
    (RepliesInChain ev reply) old new)
moves_from {P} {V} {Q} {U} mean other ev r new is moves =
    subst (λ (q : TwoSystems P V Q U). IfOk r (λ reply. MovesBoth (mean q.first.parts.program)
    (other q.second.parts.program) (RepliesInChain ev reply) q new)) is moves
