-- Feeding: the world with more packets fed, and another time, is that of the system with them.
use Rattle.std.proofs.Common.{◌≡◌, ℕ, suc, ◌+◌, ◌-◌, ◌≤◌, min, max, List, [], ◌∷◌, ◌++◌, All, length, take, drop}
use Rattle.std.proofs.Common.{refl, sym, ap, ◌∙◌, subst, arith, append_assoc, length-drop, length-take}
use Rattle.std.proofs.lemmas.List.{append-nil, drop-drop, length-append}
use Rattle.std.proofs.lemmas.List.Elements.{All-append, All-take, All-drop}
use Rattle.std.proofs.Math.Seq.{take-add}
use Rattle.plain_text.specs.Packets.{IsShort}
use Rattle.plain_text.specs.declared.packet.Packet.{Packet}
use Rattle.plain_text.specs.declared.packet.Unit.{Unit as FractionUnit}
use Rattle.input_logger.specs.Inputs.{Fed, with_packet}
use Rattle.plain_machine.specs.Program.{Meaning}
use Rattle.recovery_world.specs.declared.event.Event.TheVariants as event
use Rattle.recovery_world.specs.declared.event.Outcome.TheVariants as outcome
use Rattle.recovery_world.specs.World.{Setting, World, microseconds, time_after}
use Rattle.recovery_world.specs.Events.{fed_after, after_feed}
use Rattle.recovery_world.specs.Limits.{OnWithin}
use Rattle.recovery_laws.specs.Sound.{Sound}
use Rattle.recovery_laws.proofs.KeptWorlds.{within_sound}
use Rattle.system_parts.specs.Parts.{Parts, AreParts}
use Rattle.system_parts.specs.SystemStanding.{HasInputs, StandsFor}
use Rattle.system_parts.specs.Performing.{MovesOn, ComesTo}

-- Of the packets that are left, the first k are fed.
abbrev pub with_fed : {P V : Type 0} → ℕ → Parts P V → Parts P V
with_fed k y = record y {
  left = drop k y.left;
  inputs = record y.inputs { packets = y.inputs.packets ++ take k y.left };
  clock = time_after y.fractions y.clock (take k y.left);
}

-- What depends on the packets that are left and fed, and on the time, is said again; all else stays.
pub stands_with_inputs : {P V : Type 0} (m : Meaning V) (s : Setting V) (w : World V) (y : Parts P V)
    (left : List Packet) (inputs : Fed) (fed clock : ℕ) → StandsFor m s w y
    → Sound s (record w { fed = fed; clock = clock })
    → HasInputs m s (record w { fed = fed; clock = clock }) (record y { left = left; inputs = inputs; clock = clock })
    → StandsFor m s (record w { fed = fed; clock = clock }) (record y { left = left; inputs = inputs; clock = clock })
stands_with_inputs m s w y left inputs fed clock st sound has = record {
  sound = sound;
  within = st.within;
  inputs = has;
  snapshots = st.snapshots;
  ended = st.ended;
  guide = st.guide;
  master = record {
    up = st.master.up;
    stands = st.master.stands;
    schedule = st.master.schedule;
    past = st.master.past;
    moves = st.master.moves;
    bytes = st.master.bytes;
  };
  sent = st.sent;
  logger = record {
    epoch = st.logger.epoch;
    holds = st.logger.holds;
    held = st.logger.held;
    waiting = st.logger.waiting;
    released = st.logger.released;
  };
  released = st.released;
}

-- The clock is set.
pub time_moves : {P V : Type 0} (m : Meaning V) (n : ℕ) (y : Parts P V)
    → MovesOn m (ComesTo (event.Time n) outcome.Set) y (record y { clock = n })
time_moves {P} {V} m n y = (
  refl,
  λ s w st. (
    record w { clock = n },
    on s w st,
    stands_with_inputs m s w y y.left y.inputs w.fed n st
        (within_sound s w (event.Time n) outcome.Set [] (record w { clock = n }) st.sound (on s w st)) (has s w st),
  ),
)
  where
    on : (s : Setting V) (w : World V) → StandsFor m s w y
        → OnWithin s w (event.Time n) outcome.Set [] (record w { clock = n })
    on s w st = ((refl, refl, refl), st.within)

    has : (s : Setting V) (w : World V) → StandsFor m s w y
        → HasInputs m s (record w { clock = n }) (record y { clock = n })
    has s w st = record {
      meaning = st.inputs.meaning;
      fractions = st.inputs.fractions;
      inputs = st.inputs.inputs;
      left = st.inputs.left;
      clock = refl;
      generator = st.inputs.generator;
    }

pub time_moves_from : {P V : Type 0} (m : Meaning V) (n : ℕ) {y old : Parts P V} → y ≡ old
    → MovesOn m (ComesTo (event.Time n) outcome.Set) old (record y { clock = n })
time_moves_from {P} {V} m n {y} is = subst
    (λ (q : Parts P V). MovesOn m (ComesTo (event.Time n) outcome.Set) q (record y { clock = n })) is (time_moves m n y)

-- Feeding packet by packet

time_last : (u : FractionUnit) (clock : ℕ) (packets : List Packet) (p : Packet)
    → time_after u clock (packets ++ p ∷ []) ≡ max (time_after u clock packets) (microseconds u p)
time_last u clock [] p = refl
time_last u clock (x ∷ packets) p = time_last u (max clock (microseconds u x)) packets p

take_next : {X : Type 0} (k : ℕ) (xs : List X) (p : X) (rest : List X) → drop k xs ≡ p ∷ rest
    → (take (k + 1) xs ≡ take k xs ++ p ∷ []) × (drop (k + 1) xs ≡ rest)
take_next {X} k xs p rest is = (
  take-add k 1 xs ∙ ap (λ (l : List X). take k xs ++ take 1 l) is,
  sym (drop-drop 1 k xs) ∙ ap (λ (l : List X). drop 1 l) is,
)

-- one more packet, the first of those that are left
pub feeds_next : {P V : Type 0} (k : ℕ) (old now next : Parts P V) (rest : List Packet) (p : Packet)
    → now ≡ with_fed k old → now.left ≡ p ∷ rest
    → next ≡ record now { left = rest; inputs = next.inputs; clock = next.clock }
    → next.inputs ≡ with_packet now.inputs p → next.clock ≡ max now.clock (microseconds now.fractions p)
    → next ≡ with_fed (k + 1) old
feeds_next {P} {V} k old now next rest p is left same fed_is clock_is =
    let first : drop k old.left ≡ p ∷ rest = sym (ap (λ (y : Parts P V). y.left) is) ∙ left in
    let n = take_next k old.left p rest first in
    let fed : now.inputs ≡ record old.inputs { packets = old.inputs.packets ++ take k old.left } =
    ap (λ (y : Parts P V). y.inputs) is in
    let clock : now.clock ≡ time_after old.fractions old.clock (take k old.left) = ap (λ (y : Parts P V). y.clock) is in
    same
    ∙ ap (λ (f : Fed). record now { left = rest; inputs = f; clock = next.clock }) fed_is
    ∙ ap (λ (j : ℕ). record now { left = rest; inputs = with_packet now.inputs p; clock = j }) clock_is
    ∙ ap (λ (y : Parts P V). record y {
      left = rest;
      inputs = with_packet y.inputs p;
      clock = max y.clock (microseconds y.fractions p);
    }) is
    ∙ ap (λ (l : List Packet). record old {
      left = l;
      inputs = record old.inputs { packets = (old.inputs.packets ++ take k old.left) ++ p ∷ [] };
      clock = max (time_after old.fractions old.clock (take k old.left)) (microseconds old.fractions p);
    }) (sym n.1)
    ∙ ap (λ (l : List Packet). record old {
      left = drop (k + 1) old.left;
      inputs = record old.inputs { packets = l };
      clock = max (time_after old.fractions old.clock (take k old.left)) (microseconds old.fractions p);
    })
    (append_assoc old.inputs.packets (take k old.left) (p ∷ [])
    ∙ ap (λ (l : List Packet). old.inputs.packets ++ l) (sym n.0))
    ∙ ap (λ (c : ℕ). record old {
      left = drop (k + 1) old.left;
      inputs = record old.inputs { packets = old.inputs.packets ++ take (k + 1) old.left };
      clock = c;
    })
    (sym (time_last old.fractions old.clock (take k old.left) p)
    ∙ ap (λ (l : List Packet). time_after old.fractions old.clock l) (sym n.0))

-- and there was one to be fed
pub more_left : {P V : Type 0} (k : ℕ) (old now : Parts P V) (rest : List Packet) (p : Packet) → now ≡ with_fed k old
    → now.left ≡ p ∷ rest → k + 1 ≤ length old.left
more_left {P} {V} k old now rest p is left =
    let first : drop k old.left ≡ p ∷ rest = sym (ap (λ (y : Parts P V). y.left) is) ∙ left in
    let n : length (drop k old.left) ≡ suc (length rest) = ap length first in
    let d = length-drop k old.left in
    omega (arith, n, d)

-- The next n packets, or as many as were left, are fed.
pub feed_moves : {P V : Type 0} (m : Meaning V) (n k : ℕ) (old new : Parts P V) → new ≡ with_fed k old
    → k ≡ min n (length old.left)
    → MovesOn m (ComesTo (event.Feed n) (outcome.Total (length new.inputs.packets))) old new
feed_moves {P} {V} m n k old new is few = (
  ap (λ (y : Parts P V). y.program) is,
  λ s w st. (
    after_feed s w n,
    on s w st,
    subst (λ (y : Parts P V). StandsFor m s (after_feed s w n) y) (sym (is ∙ same s w st)) (stands_with_inputs m s w old
        (drop k old.left) (record old.inputs { packets = old.inputs.packets ++ take k old.left }) (fed_after s w n)
        (after_feed s w n).clock st (within_sound s w (event.Feed n) _ [] (after_feed s w n) st.sound (on s w st))
        (has s w st)),
  ),
)
  where
    left_length : (s : Setting V) (w : World V) → StandsFor m s w old → length old.left ≡ length s.packets - w.fed
    left_length s w st = ap length st.inputs.left ∙ length-drop w.fed s.packets

    -- so many more are fed
    more : (s : Setting V) (w : World V) → StandsFor m s w old → fed_after s w n ≡ w.fed + k
    more s w st = let a = left_length s w st in let b = st.sound.firm.fed in omega (arith, a, b, few)

    taken : (s : Setting V) (w : World V) → StandsFor m s w old
        → take (fed_after s w n - w.fed) (drop w.fed s.packets) ≡ take k old.left
    taken s w st =
        let a : fed_after s w n - w.fed ≡ k = let q = more s w st in omega (arith, q) in
        ap (λ (j : ℕ). take j (drop w.fed s.packets)) a ∙ ap (λ (l : List Packet). take k l) (sym st.inputs.left)

    clock : (s : Setting V) (w : World V) → StandsFor m s w old
        → (after_feed s w n).clock ≡ time_after old.fractions old.clock (take k old.left)
    clock s w st =
        ap (λ (l : List Packet). time_after s.fractions w.clock l) (taken s w st)
        ∙ ap (λ (u : FractionUnit). time_after u w.clock (take k old.left)) st.inputs.fractions
        ∙ ap (λ (c : ℕ). time_after old.fractions c (take k old.left)) (sym st.inputs.clock)

    same : (s : Setting V) (w : World V) → StandsFor m s w old → with_fed k old ≡ record old {
      left = drop k old.left;
      inputs = record old.inputs { packets = old.inputs.packets ++ take k old.left };
      clock = (after_feed s w n).clock;
    }
    same s w st = ap (λ (c : ℕ). record old {
      left = drop k old.left;
      inputs = record old.inputs { packets = old.inputs.packets ++ take k old.left };
      clock = c;
    }) (sym (clock s w st))

    -- the packets that are fed then
    first : (s : Setting V) (w : World V) → StandsFor m s w old
        → old.inputs.packets ++ take k old.left ≡ take (fed_after s w n) s.packets
    first s w st =
        ap (λ (f : Fed). f.packets ++ take k old.left) st.inputs.inputs
        ∙ ap (λ (l : List Packet). take w.fed s.packets ++ take k l) st.inputs.left
        ∙ sym (take-add w.fed k s.packets) ∙ ap (λ (j : ℕ). take j s.packets) (sym (more s w st))

    rest : (s : Setting V) (w : World V) → StandsFor m s w old → drop k old.left ≡ drop (fed_after s w n) s.packets
    rest s w st =
        ap (λ (l : List Packet). drop k l) st.inputs.left
        ∙ dropped w.fed s.packets
        ∙ ap (λ (j : ℕ). drop j s.packets) (sym (more s w st))
      where
        dropped : (j : ℕ) (xs : List Packet) → drop k (drop j xs) ≡ drop (j + k) xs
        dropped j xs = drop-drop k j xs

    has : (s : Setting V) (w : World V) → StandsFor m s w old → HasInputs m s (after_feed s w n) (record old {
      left = drop k old.left;
      inputs = record old.inputs { packets = old.inputs.packets ++ take k old.left };
      clock = (after_feed s w n).clock;
    })
    has s w st = record {
      meaning = st.inputs.meaning;
      fractions = st.inputs.fractions;
      inputs =
          ap (λ (f : Fed). record f { packets = old.inputs.packets ++ take k old.left }) st.inputs.inputs
          ∙ ap (λ (l : List Packet). record { threads = s.threads; tags = s.tags; packets = l }) (first s w st);
      left = rest s w st;
      clock = refl;
      generator = st.inputs.generator;
    }

    total : (s : Setting V) (w : World V) → StandsFor m s w old → length new.inputs.packets ≡ fed_after s w n
    total s w st =
        ap (λ (y : Parts P V). length y.inputs.packets) is ∙ ap length (first s w st)
        ∙ length-take (fed_after s w n) s.packets ∙ low
      where
        low : min (fed_after s w n) (length s.packets) ≡ fed_after s w n
        low = omega arith

    on : (s : Setting V) (w : World V) → StandsFor m s w old
        → OnWithin s w (event.Feed n) (outcome.Total (length new.inputs.packets)) [] (after_feed s w n)
    on s w st = ((ap (λ (j : ℕ). outcome.Total j) (total s w st), refl, refl), st.within)

-- The parts of a system, in the loop that feeds

pub fed_none : {P V : Type 0} {y old : Parts P V} → y ≡ old → y ≡ with_fed 0 old
fed_none {P} {V} {y} {old} is =
    is
    ∙ ap (λ (l : List Packet). record old { inputs = record old.inputs { packets = l } })
    (sym (append-nil old.inputs.packets))

-- what is fed and what is left of short packets is short
pub fed_are_parts : {P V : Type 0} (mean : P → Meaning V) (fits : P → ℕ → V → Type 0) (k : ℕ) (old now : Parts P V)
    → now ≡ with_fed k old → AreParts (mean old.program) (fits old.program) old
    → AreParts (mean now.program) (fits now.program) now
fed_are_parts {P} {V} mean fits k old now is are =
    subst (λ (q : Parts P V). AreParts (mean q.program) (fits q.program) q) (sym is) (record {
      fits = are.fits;
      some_threads = are.some_threads;
      few_threads = are.few_threads;
      master = are.master;
      logger = are.logger;
      sent = are.sent;
      stored_fits = are.stored_fits;
      copy_fits = are.copy_fits;
      stored = are.stored;
      copied = are.copied;
      few_packets =
          let a = length-append old.inputs.packets (take k old.left) in
          let b = length-take k old.left in
          let d = length-drop k old.left in let few = are.few_packets in omega (arith, a, b, d, few);
      left = All-drop IsShort k old.left are.left;
      fed = All-append IsShort old.inputs.packets (take k old.left) are.fed (All-take IsShort k old.left are.left);
      moves = are.moves;
      bytes = are.bytes;
    })

-- the same, where one more packet was taken, and not fed
pub popped_are_parts : {P V : Type 0} (mean : P → Meaning V) (fits : P → ℕ → V → Type 0) (k : ℕ)
    (old now next : Parts P V) (rest : List Packet) (p : Packet) (clock : ℕ) → now ≡ with_fed k old
    → now.left ≡ p ∷ rest → next ≡ record now { left = rest; inputs = next.inputs; clock = clock }
    → next.inputs ≡ now.inputs
    → AreParts (mean old.program) (fits old.program) old → AreParts (mean next.program) (fits next.program) next
popped_are_parts {P} {V} mean fits k old now next rest p clock is left moved same old_are =
    subst (λ (q : Parts P V). AreParts (mean q.program) (fits q.program) q)
    (sym (moved ∙ ap (λ (f : Fed). record now { left = rest; inputs = f; clock = clock }) same)) (record {
      fits = are.fits;
      some_threads = are.some_threads;
      few_threads = are.few_threads;
      master = are.master;
      logger = are.logger;
      sent = are.sent;
      stored_fits = are.stored_fits;
      copy_fits = are.copy_fits;
      stored = are.stored;
      copied = are.copied;
      few_packets =
          let a : length now.left ≡ length (p ∷ rest) = ap length left in
          let few = are.few_packets in omega (arith, a, few);
      left = All-drop IsShort 1 (p ∷ rest) (subst (λ (l : List Packet). All IsShort l) left are.left);
      fed = are.fed;
      moves = are.moves;
      bytes = are.bytes;
    })
  where
    are : AreParts (mean now.program) (fits now.program) now
    are = fed_are_parts mean fits k old now is old_are

-- The loop is over: of the packets that were left, as many are fed as were asked for, or all.
pub record FedAll {P V : Type 0} (n : ℕ) (old new : Parts P V) : Type 0 where
  pub count : ℕ
  pub is : new ≡ with_fed count old
  pub few : count ≡ min n (length old.left)

pub fed_whole : {P V : Type 0} (n k : ℕ) {now old : Parts P V} → now ≡ with_fed k old → k ≤ length old.left → k ≤ n
    → n ≤ k → FedAll n old now
fed_whole n k {now} {old} is within low high = record { count = k; is = is; few = omega (arith, within, low, high) }

pub fed_until : {P V : Type 0} (n k : ℕ) {now old : Parts P V} (next : Parts P V) (left : List Packet)
    → now ≡ with_fed k old → k ≤ length old.left → k ≤ n → length now.left ≡ 0 → now.left ≡ left
    → next ≡ record now { left = left } → FedAll n old next
fed_until {P} {V} n k {now} {old} next left is within low none same moved = record {
  count = k;
  is = moved ∙ ap (λ (l : List Packet). record now { left = l }) (sym same) ∙ is;
  few = omega (arith, within, low, all);
}
  where
    all : length old.left ≤ k
    all =
        let d : length (drop k old.left) ≡ 0 = ap (λ (y : Parts P V). length y.left) (sym is) ∙ none in
        let e = length-drop k old.left in
        omega (arith, d, e)

pub all_fed : {P V : Type 0} (m : Meaning V) (n : ℕ) {old : Parts P V} (new : Parts P V) (total : ℕ) → FedAll n old new
    → total ≡ length new.inputs.packets → MovesOn m (ComesTo (event.Feed n) (outcome.Total total)) old new
all_fed {P} {V} m n {old} new total fed is =
    subst (λ (k : ℕ). MovesOn m (ComesTo (event.Feed n) (outcome.Total k)) old new) (sym is)
    (feed_moves m n fed.count old new fed.is fed.few)
