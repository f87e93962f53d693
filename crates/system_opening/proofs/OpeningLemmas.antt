-- Before the first event a system stands for the opening.
use Rattle.std.proofs.Common.{◌≡◌, ℕ, zero, suc, ◌≤◌, All, List, [], length, replicate, slice_index_or, refl, sym, ap}
use Rattle.std.proofs.Common.{Bool, ◌∙◌, subst, inl, inr, arith, true, None, ◌<◌, ◌^◌}
use Rattle.plain_text.specs.Packets.{IsShort}
use Rattle.plain_text.specs.declared.packet.Packet.{Packet}
use Rattle.plain_text.specs.declared.packet.Unit.{Unit as FractionUnit}
use Rattle.drawn_words.specs.Drawn.{drawn_after}
use Rattle.input_logger.specs.Inputs.{Fed}
use Rattle.entry_order.specs.Log.{Entry, IsIn}
use Rattle.access_log.specs.Held.{Lane, fresh_lane}
use Rattle.master_core.specs.declared.parts.Counts.{Counts}
use Rattle.snapshot_store.specs.Stored.{Snapshots}
use Rattle.dup_filter.specs.Numbers.{Numbers, no_numbers, IsMarked, WasMarked}
use Rattle.plain_machine.specs.Program.{Meaning}
use Rattle.box_program.specs.Hands.{FitsProgram}
use Rattle.master_core.specs.Mastered.{value_of}
use Rattle.master_core.specs.MasterStanding.{Stands}
use Rattle.master_core.specs.Holding.{held_entries}
use Rattle.master_core.proofs.HeldEntries.{held_at}
use Rattle.master_core.proofs.Holdings.{fresh_holds, fresh_holds_none}
use Rattle.output_logger.specs.Logger.{Logger, IsAmong as IsAmongOutputs}
use Rattle.recovery_world.specs.World.{Setting, opening}
use Rattle.access_log.specs.declared.entry.Output.{Output}
use Rattle.std.proofs.lemmas.List.{length-replicate}
use Rattle.std.proofs.lemmas.List.Elements.{All-nil}
use Rattle.recovery_laws.proofs.KeptWorlds.{opening_sound}
use Rattle.link_store.specs.Sending.{Sending, lengths_of, IsUnsent}
use Rattle.system_parts.specs.Parts.{Parts, AreParts}
use Rattle.system_parts.specs.SystemStanding.{HasLogger, HasSent, HasSnapshots, HasEnded, HasGuide, StandsFor}

-- a store with a fresh master, which made no move and sent nothing
pub record IsFreshStore {V : Type 0} (m : Meaning V) (threads : ℕ) (store : Snapshots V) : Type 0 where
  pub stands : Stands m threads [] store.stored.master
  pub moves : store.stored.moves ≡ 0
  pub none : store.copy ≡ None

-- where all items are one, each read gives it
one_of_all : {X : Type 0} (n t : ℕ) (x : X) → slice_index_or (replicate n x) t x ≡ x
one_of_all zero t x = refl
one_of_all (suc n) zero x = refl
one_of_all (suc n) (suc t) x = one_of_all n t x

abbrev pub fresh_logger : ℕ → Logger
fresh_logger threads =
    record { epoch = 1; held = replicate threads fresh_lane; released = replicate threads no_numbers; waiting = [] }

none_held : (threads : ℕ) (e : Entry) → IsIn e (held_entries (replicate threads fresh_lane)) → ⊥
none_held threads e here =
    let r = held_at (replicate threads fresh_lane) e here in fresh_holds_none threads r.0 r.1 r.2 r.3

none_marked : (threads t n : ℕ) → WasMarked (replicate threads no_numbers) t n → ⊥
none_marked threads t n was = go (subst (λ (k : Numbers). IsMarked k n) (one_of_all threads t no_numbers) was)
  where
    go : IsMarked no_numbers n → ⊥
    go (inl up) = omega (arith, up.0, up.1)
    go (inr there) = absurd (cc)

opening_logger : {V : Type 0} (threads : ℕ) → HasLogger (opening V) (fresh_logger threads)
opening_logger threads = record {
  epoch = refl;
  holds = fresh_holds [] threads;
  held = λ e. ((λ here. absurd (none_held threads e here)), (λ both. absurd both.0));
  waiting = tt;
  released = λ t n. ((λ was. absurd (none_marked threads t n was)), (λ some. absurd some.2));
}

opening_sent : (V : Type 0) (threads : ℕ) (held : List Lane) (released : List Numbers) (sent : Sending)
    → IsUnsent threads sent → HasSent 1 (opening V).past held released sent
opening_sent V threads held released sent unsent = record {
  epoch = unsent.epoch;
  entry_sent = λ e here. absurd here;
  output_sent = λ o sends. absurd sends;
  entry_counts =
      λ t. ap (λ (l : List (List ℕ)). length (lengths_of l t)) unsent.entries ∙ ap length (one_of_all threads t []);
  output_counts =
      λ t. ap (λ (l : List (List ℕ)). length (lengths_of l t)) unsent.outputs ∙ ap length (one_of_all threads t []);
  none_later = λ a later. unsent.frames a;
}

-- no snapshot was made, and no epoch ended
opening_snapshots : {V : Type 0} (s : Setting V) (store : Snapshots V)
    → Stands s.meaning s.threads [] store.stored.master → store.stored.moves ≡ 0 → store.copy ≡ None
    → HasSnapshots s (opening V).stored None store
opening_snapshots {V} s store stands moves none = record {
  first = record { stands = stands; moves_are = moves };
  copied = λ moment is. absurd (cc);
  none = λ is. none;
}

opening_ended : (threads : ℕ) (ended : List (List Counts)) → ended ≡ [] → HasEnded threads 1 [] ended
opening_ended threads ended none =
    record { all = refl; there = ap length none; each = λ epoch x from before is. absurd (omega (arith, from, before)) }

opening_guide : {V : Type 0} (guide : List Lane) → guide ≡ [] → HasGuide [] (opening V).past guide
opening_guide {V} guide none = subst (λ (g : List Lane). HasGuide [] (opening V).past g) (sym none) (record {
  follows = λ e out. ((λ i. absurd i), λ f. let q = f.1 in absurd (cc));
  only = λ e i. absurd i;
  began = [];
  holds = record { covered = λ t. refl; of_log = λ t n x at. absurd (cc) };
})

-- what stays the same in a system that is opened so
abbrev opened : {V : Type 0} → Meaning V → ℕ → Bool → FractionUnit → List Packet → ℕ → Setting V
opened m threads tags fractions packets seed = record {
  meaning = m;
  threads = threads;
  tags = tags;
  fractions = fractions;
  packets = packets;
  seed = seed;
}

-- The system stands for the opening.
pub opening_stands : {P V : Type 0} (m : Meaning V) (threads seed : ℕ) (tags : Bool) (fractions : FractionUnit)
    (packets : List Packet) (y : Parts P V) → y.fractions ≡ fractions → y.clock ≡ 0
    → y.generator ≡ drawn_after seed 0 → y.left ≡ packets
    → y.inputs ≡ record { threads = threads; tags = tags; packets = [] }
    → y.up ≡ true → Stands m threads [] y.master → y.schedule ≡ [] → y.guide ≡ [] → IsFreshStore m threads y.store
    → y.ended ≡ [] → y.moves ≡ 0 → y.bytes ≡ 0 → IsUnsent threads y.sent → y.logger ≡ fresh_logger threads
    → y.released ≡ []
    → StandsFor m (opened m threads tags fractions packets seed) (opening V) y
opening_stands {P} {V} m threads seed tags fractions packets y fractions_are clock generator left inputs up master
    schedule guide store ended moves bytes sent logger released = record {
      sound = opening_sound (opened m threads tags fractions packets seed);
      within = refl;
      inputs = record {
        meaning = refl;
        fractions = sym fractions_are;
        inputs = inputs;
        left = left;
        clock = clock;
        generator = generator;
      };
      snapshots = opening_snapshots (opened m threads tags fractions packets seed) y.store store.stands store.moves
          store.none;
      ended = opening_ended threads y.ended ended;
      guide = opening_guide y.guide guide;
      master =
          record { up = up; stands = master; schedule = schedule; past = omega arith; moves = moves; bytes = bytes };
      sent = opening_sent V threads y.logger.held y.logger.released y.sent sent;
      logger = subst (λ (l : Logger). HasLogger (opening V) l) (sym logger) (opening_logger threads);
      released = released;
    }

-- What is true of the parts of every system is true of these.
pub opening_are_parts : {P V : Type 0} (m : Meaning V) (fits : ℕ → V → Type 0) (threads : ℕ) (tags : Bool)
    (packets : List Packet) (y : Parts P V) → 1 ≤ threads → threads ≤ 16 → All IsShort packets
    → FitsProgram m fits value_of y.master.vars → y.left ≡ packets
    → y.inputs ≡ record { threads = threads; tags = tags; packets = [] } → Stands m threads [] y.master
    → y.moves ≡ 0 → y.bytes ≡ 0 → IsUnsent threads y.sent → y.logger ≡ fresh_logger threads
    → IsFreshStore m threads y.store → FitsProgram m fits value_of y.store.stored.master.vars → length packets < 2 ^ 50
    → AreParts m fits y
opening_are_parts {P} {V} m fits threads tags packets y some few short all left inputs master moves bytes sent logger
    store stored_fits few_packets = record {
      fits = all;
      some_threads = subst (λ (f : Fed). 1 ≤ f.threads) (sym inputs) some;
      few_threads = subst (λ (f : Fed). f.threads ≤ 16) (sym inputs) few;
      master = master.threads_are ∙ sym threads_are;
      logger = ap (λ (l : Logger). length l.held) logger ∙ length-replicate threads fresh_lane ∙ sym threads_are;
      sent = sent.threads_are ∙ sym threads_are;
      stored_fits = stored_fits;
      copy_fits = λ x is. absurd (let none = store.none in cc);
      stored = store.stands.threads_are ∙ sym threads_are;
      copied = λ x is. absurd (let none = store.none in cc);
      few_packets =
          let a = ap length left in
          let b = ap (λ (f : Fed). length f.packets) inputs in omega (arith, a, b, few_packets);
      left = subst (λ (l : List Packet). All IsShort l) (sym left) short;
      fed = subst (λ (f : Fed). All IsShort f.packets) (sym inputs) (All-nil IsShort);
      moves = omega (arith, moves);
      bytes = omega (arith, bytes);
    }
  where
    threads_are : y.inputs.threads ≡ threads
    threads_are = ap (λ (f : Fed). f.threads) inputs
