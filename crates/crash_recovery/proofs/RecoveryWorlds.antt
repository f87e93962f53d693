-- The world after a recovery, and the parts that stand for it.
use Rattle.std.proofs.Common.{◌≡◌, ◌≢◌, ℕ, zero, suc, ◌+◌, ◌-◌, ◌<◌, ◌≤◌, true, false, List, [], ◌∷◌, ◌++◌, length}
use Rattle.std.proofs.Common.{length-append, map, take, refl, sym, ap, ◌∙◌, subst, inl, inr, ◌⊎◌, arith, Some, None}
use Rattle.std.specs.Prelude.{◌↔◌, slice_get, slice_index_or}
use Rattle.std.specs.Option.{option_map}
use Rattle.system_parts.specs.FromReplayGuide.{CanBeFollowed}
use Rattle.std.proofs.lemmas.List.{length-map, length-take-le, take-append-le, take_all, get_or-take}
use Rattle.std.proofs.lemmas.Option.{slice_get_within, slice_get-map, slice_get-get_or}
use Rattle.entry_order.specs.Log.{Entry, entries}
use Rattle.entry_order.specs.Closed.{IsClosedPart}
use Rattle.entry_order.proofs.Order.{is_or}
use Rattle.access_log.specs.declared.entry.StampedEntry.{StampedEntry}
use Rattle.access_log.specs.declared.entry.Output.{Output}
use Rattle.access_log.specs.declared.held.Kept.{Kept}
use Rattle.access_log.specs.Held.{Lane, lane, entry_at, IsWithin as IsWithinHeld}
use Rattle.access_log.specs.Members.{IsMember, IsDropped, IsNumberOf}
use Rattle.dup_filter.specs.Numbers.{Numbers, WasMarked}
use Rattle.plain_machine.specs.declared.plain_move.PlainMove.{PlainMove}
use Rattle.plain_machine.specs.Program.{Meaning}
use Rattle.plain_machine.specs.History.{Step, log_of, sent_of, outputs}
use Rattle.plain_machine.specs.Agree.{IsEarlier}
use Rattle.master_core.specs.declared.parts.Counts.{Counts}
use Rattle.master_core.specs.declared.parts.ThreadPart.{ThreadPart}
use Rattle.master_core.specs.Mastered.{Mastered}
use Rattle.master_core.specs.MasterStanding.{Stands}
use Rattle.output_logger.specs.Logger.{Logger, ReleasesOnce, IsAmong}
use Rattle.recovery_world.specs.World.{Setting, Ended as EndedEpoch, World}
use Rattle.recovery_world.specs.Events.{Recovers, IsPartOf, entries_of_line, ended_now}
use Rattle.recovery_world.specs.Files.{moves_made}
use Rattle.recovery_laws.specs.Sound.{Sound}
use Rattle.recovery_laws.proofs.KeptWorlds.{recovers_sound}
use Rattle.recovery_laws.proofs.Finishes.{recovers_there}
use Rattle.recovery_laws.proofs.AcceptedRuns.{made_length}
use Rattle.link_store.specs.Sending.{Sending}
use Rattle.system_parts.specs.Parts.{Parts}
use Rattle.system_parts.specs.SystemStanding.{AreCounts, AreOutputs, HasEnded, HasLogger, StandsFor, StandsForSome}
use Rattle.recovery_world.specs.declared.event.Event.TheVariants as event
use Rattle.recovery_world.specs.declared.event.Outcome.TheVariants as outcome
use Rattle.system_parts.specs.Performing.{MovesOn, ComesTo}
use Rattle.system_parts.proofs.EventChains.{moves_as}
use Rattle.plain_machine.proofs.OneLine.{earlier_length}
use Rattle.crash_recovery.specs.Recovering.{RecoversTo, TurnsLinks, WakesUp}
use Rattle.crash_recovery.proofs.RecoverySent.{sent_again}
use Rattle.crash_recovery.proofs.RecoveryHeld.{can_follow, part_held, followed_holds, guide_begins, keeps, drops}

-- The moves of an earlier moment

earlier_moves : {V : Type 0} (xs ys : List (Step V)) → IsEarlier xs ys
    → take (length xs) (moves_made ys) ≡ moves_made xs
earlier_moves {V} xs [] h =
    subst (λ (l : List (Step V)). take (length l) (moves_made {V = V} []) ≡ moves_made l) (sym h) refl
earlier_moves {V} xs (y ∷ ys) (inl h) =
    subst (λ (l : List (Step V)). take (length l) (moves_made (y ∷ ys)) ≡ moves_made l) (sym h)
    (take_all (length (y ∷ ys)) (moves_made (y ∷ ys)) (let k = made_length (y ∷ ys) in omega (arith, k)))
earlier_moves xs (y ∷ ys) (inr h) =
    let low = earlier_length xs ys h in
    let all = made_length ys in
    take-append-le (length xs) (moves_made ys) _ (omega (arith, low, all)) ∙ earlier_moves xs ys h

-- The counts of the epoch that ends

counts_are : {V : Type 0} (m : Meaning V) (threads : ℕ) (w : World V) (p : Mastered V) (counts : List Counts)
    → Stands m threads w.past p → counts ≡ map (λ (part : ThreadPart). part.counts) (take threads p.threads)
    → AreCounts threads (ended_now w) counts
counts_are {V} m threads w p counts st is = record {
  long = long;
  each = λ t c there. at t c there (subst (λ (n : ℕ). t < n) long (slice_get_within counts t c there));
}
  where
    long : length counts ≡ threads
    long =
        ap (λ (l : List Counts). length l) is
        ∙ (length-map (take threads p.threads) (λ (part : ThreadPart). part.counts)
        ∙ length-take-le threads p.threads (let k = st.threads_are in omega (arith, k)))

    blank : Counts → ThreadPart
    blank c = record { counts = c; hand = None; stamp = [] }

    same : (a b : Counts) → Some a ≡ Some b → a ≡ b
    same a b e = cc

    at : (t : ℕ) (c : Counts) → slice_get counts t ≡ Some c → t < threads
        → (c.entries ≡ entries t (log_of w.past)) × (c.outputs ≡ outputs t (sent_of w.past))
    at t c there low =
        let k = st.threads_are in
        let long_taken = length-take-le threads p.threads (omega (arith, k)) in
        let got : slice_get (take threads p.threads) t ≡ Some (slice_index_or (take threads p.threads) t (blank c)) =
        slice_get-get_or (take threads p.threads) t (blank c) (omega (arith, long_taken, low)) in
        let part : slice_index_or (take threads p.threads) t (blank c) ≡ slice_index_or p.threads t (blank c) =
        get_or-take threads p.threads t (blank c) low in
        let read : slice_get counts t ≡ Some (slice_index_or p.threads t (blank c)).counts =
        ap (λ (l : List Counts). slice_get l t) is
        ∙ (slice_get-map (λ (q : ThreadPart). q.counts) (take threads p.threads) t
        ∙ (ap (λ o. option_map (λ (q : ThreadPart). q.counts) o) got ∙ ap (λ (q : ThreadPart). Some q.counts) part)) in
        let one : c ≡ (slice_index_or p.threads t (blank c)).counts =
        same c (slice_index_or p.threads t (blank c)).counts (sym there ∙ read) in
        let thread = st.thread t (blank c) low in
        (ap (λ (q : Counts). q.entries) one ∙ thread.logged, ap (λ (q : Counts). q.outputs) one ∙ thread.outputs)

get_last : (xs : List (List Counts)) (c : List Counts) (i : ℕ) → i ≡ length xs → slice_index_or (xs ++ c ∷ []) i [] ≡ c
get_last [] c zero is = refl
get_last [] c (suc i) is = absurd (omega (arith, is))
get_last (x ∷ xs) c zero is = absurd (omega (arith, is))
get_last (x ∷ xs) c (suc i) is = get_last xs c i (omega (arith, is))

get_before : (xs : List (List Counts)) (c : List Counts) (i : ℕ) → i < length xs
    → slice_index_or (xs ++ c ∷ []) i [] ≡ slice_index_or xs i []
get_before [] c i low = absurd (omega (arith, low))
get_before (x ∷ xs) c zero low = refl
get_before (x ∷ xs) c (suc i) low = get_before xs c i (omega (arith, low))

ends_epoch : {V : Type 0} (threads now : ℕ) (w : World V) (ended : List (List Counts)) (counts : List Counts)
    → HasEnded threads now w.ended ended → AreCounts threads (ended_now w) counts
    → HasEnded threads (now + 1) (ended_now w ∷ w.ended) (ended ++ counts ∷ [])
ends_epoch threads now w ended counts h are = record {
  all = let k = h.all in omega (arith, k);
  there = let k = h.there in let l = length-append ended (counts ∷ []) in omega (arith, k, l);
  each = λ epoch x from to at. go epoch x from to (is_or epoch now) at;
}
  where
    same : (a b : EndedEpoch) → Some a ≡ Some b → a ≡ b
    same a b e = cc

    go : (epoch : ℕ) (x : EndedEpoch) → 1 ≤ epoch → epoch < now + 1 → (epoch ≡ now) ⊎ (epoch ≢ now)
        → slice_get (ended_now w ∷ w.ended) (now + 1 - epoch - 1) ≡ Some x
        → AreCounts threads x (slice_index_or (ended ++ counts ∷ []) (epoch - 1) [])
    go epoch x from to (inl is) at =
        let first : now + 1 - epoch - 1 ≡ zero = omega (arith, is) in
        let one : ended_now w ≡ x =
        same (ended_now w) x (subst (λ (k : ℕ). slice_get (ended_now w ∷ w.ended) k ≡ Some x) first at) in
        let all = h.all in
        let there = h.there in
        let last : slice_index_or (ended ++ counts ∷ []) (epoch - 1) [] ≡ counts =
        get_last ended counts (epoch - 1) (omega (arith, is, all, there)) in
        subst (λ (l : List Counts). AreCounts threads x l) (sym last)
        (subst (λ (q : EndedEpoch). AreCounts threads q counts) one are)
    go epoch x from to (inr apart) at =
        let low : epoch < now = omega (arith, to, apart) in
        let later : now + 1 - epoch - 1 ≡ suc (now - epoch - 1) = omega (arith, low) in
        let there : slice_get w.ended (now - epoch - 1) ≡ Some x =
        subst (λ (k : ℕ). slice_get (ended_now w ∷ w.ended) k ≡ Some x) later at in
        let all = h.all in
        let long = h.there in
        let before : slice_index_or (ended ++ counts ∷ []) (epoch - 1) [] ≡ slice_index_or ended (epoch - 1) [] =
        get_before ended counts (epoch - 1) (omega (arith, low, from, all, long)) in
        subst (λ (l : List Counts). AreCounts threads x l) (sym before) (h.each epoch x from low there)

-- What the parts of a recovery do.
pub record StartsOver {P V : Type 0} (y : Parts P V) (kept : Kept) (counts : List Counts) (now : Logger)
    (guide : List Lane) (sent : Sending) : Type 0 where
  pub counts_are : counts ≡ map (λ (part : ThreadPart). part.counts) (take y.inputs.threads y.master.threads)
  pub epoch : now.epoch ≡ y.logger.epoch + 1
  pub waiting : now.waiting ≡ []
  pub once : ReleasesOnce y.logger.released now.released []
  pub closed : (t n : ℕ) (e : StampedEntry)
      → (entry_at (lane now.held t) n ≡ Some e)
      ↔ ((entry_at (lane y.logger.held t) n ≡ Some e) × IsWithinHeld y.logger.held e.stamp)
  pub covered : (t : ℕ) → (lane now.held t).covered ≡ (lane y.logger.held t).covered
  pub keeps : IsNumberOf (IsMember now.held) kept.kept
  pub drops : IsNumberOf (IsDropped y.logger.held now.held) kept.dropped
  pub lanes : (t : ℕ) → lane guide t ≡ lane now.held t
  pub turns : TurnsLinks y.store.stored.master y.inputs.threads y.sent sent

-- the parts after it
abbrev pub started : {P V : Type 0} → Parts P V → List Counts → Logger → List Lane → Sending → Parts P V
started y counts now guide sent = record y {
  up = true;
  master = y.store.stored.master;
  schedule = take y.store.stored.moves y.schedule;
  guide = guide;
  ended = y.ended ++ counts ∷ [];
  sent = sent;
  logger = now;
}

module _ {P V : Type 0} (m : Meaning V) (s : Setting V) (w : World V) (y : Parts P V) (st : StandsFor m s w y)
    (down : y.up ≡ false) (kept : Kept) (counts : List Counts) (now : Logger) (guide : List Lane) (sent : Sending)
    (d : StartsOver y kept counts now guide sent) (part : List Entry) (part_of : IsPartOf w.held part)
    (closed : IsClosedPart (entries_of_line w) (log_of w.stored) w.held part) where
  is_down : w.up ≡ false
  is_down = sym st.master.up ∙ down

  threads_is : y.inputs.threads ≡ s.threads
  threads_is = ap (λ i. i.threads) st.inputs.inputs

  abbrev recovered : World V
  recovered = record w {
    held = part;
    followed = part;
    waiting = [];
    epoch = w.epoch + 1;
    past = w.stored;
    up = true;
    ended = ended_now w ∷ w.ended;
  }

  recovers : Recovers w recovered
  recovers = record { part = part; part_of = part_of; closed = closed; new_is = refl }

  sound : Sound s recovered
  sound = recovers_sound s w st.sound.firm is_down recovered recovers

  marks : (t n : ℕ) → WasMarked y.logger.released t n → WasMarked now.released t n
  marks t n was = (d.once.marked t n).1 (inr was)

  unmarks : (t n : ℕ) → WasMarked now.released t n → WasMarked y.logger.released t n
  unmarks t n was = go ((d.once.marked t n).0 was)
    where
      go : ⊥ ⊎ WasMarked y.logger.released t n → WasMarked y.logger.released t n
      go (inl none) = absurd none
      go (inr k) = k

  covers : (t : ℕ) → (lane now.held t).covered ≡ entries t (log_of w.stored)
  covers t = d.covered t ∙ st.logger.holds.covered t

  turns : TurnsLinks y.store.stored.master s.threads y.sent sent
  turns = subst (λ (n : ℕ). TurnsLinks y.store.stored.master n y.sent sent) threads_is d.turns

  none_waits : AreOutputs (log_of w.stored) now.waiting []
  none_waits = subst (λ (l : List Output). AreOutputs (log_of w.stored) l []) (sym d.waiting) tt

  logs : HasLogger recovered now
  logs = record {
    epoch = d.epoch ∙ ap (λ (n : ℕ). n + 1) st.logger.epoch;
    holds = followed_holds s w st.sound.firm y.logger.held now.held st.logger.holds d.closed d.covered st.logger.held
        part closed now.held (λ t. refl);
    held = part_held s w st.sound.firm y.logger.held now.held st.logger.holds d.closed d.covered st.logger.held
        part closed;
    waiting = none_waits;
    released =
        λ t n. (λ was. (st.logger.released t n).0 (unmarks t n was), λ k. marks t n ((st.logger.released t n).1 k));
  }

  no_copy : w.copy ≡ None
  no_copy = st.sound.firm.down is_down

  pub starts_over : (next : World V) × RecoversTo kept s w next × StandsFor m s next (started y counts now guide sent)
  starts_over = (
    recovered,
    record {
      recovers = recovers;
      keeps = keeps s w st.sound.firm y.logger.held now.held st.logger.holds d.closed d.covered st.logger.held part
          closed sound.firm.held_once kept.kept d.keeps;
      drops = drops s w st.sound.firm y.logger.held now.held st.logger.holds d.closed d.covered st.logger.held part
          closed sound.firm.held_once kept.dropped d.drops;
    },
    record {
      sound = sound;
      within = st.within;
      inputs = record {
        meaning = st.inputs.meaning;
        fractions = st.inputs.fractions;
        inputs = st.inputs.inputs;
        left = st.inputs.left;
        clock = st.inputs.clock;
        generator = st.inputs.generator;
      };
      master = record {
        up = refl;
        stands = st.snapshots.first.stands;
        schedule =
            ap (λ (n : ℕ). take n y.schedule) st.snapshots.first.moves_are
            ∙ (ap (λ (l : List PlainMove). take (length w.stored) l) st.master.schedule
            ∙ earlier_moves w.stored w.past st.sound.firm.stored);
        past =
            let a = earlier_length w.stored w.past st.sound.firm.stored in
            let b = st.master.past in omega (arith, a, b);
        moves = st.master.moves;
        bytes = st.master.bytes;
      };
      snapshots = record {
        first = st.snapshots.first;
        copied = λ moment is. absurd (let none = no_copy in cc);
        none = st.snapshots.none;
      };
      ended = ends_epoch s.threads w.epoch w y.ended counts st.ended
          (counts_are s.meaning s.threads w y.master counts st.master.stands
          (d.counts_are ∙ ap (λ (n : ℕ). map (λ (q : ThreadPart). q.counts) (take n y.master.threads)) threads_is));
      guide = guide_begins s w st.sound.firm y.logger.held now.held st.logger.holds d.closed d.covered st.logger.held
          part closed guide d.lanes;
      sent = sent_again s w st.sound y.logger.held now.held y.logger.released now.released y.sent sent y.store.stored
          st.snapshots.first turns marks covers st.sent;
      logger = logs;
      released = st.released;
    },
  )

-- the same, for the parts as they were
pub start_moves : {P V : Type 0} (meaning : P → Meaning V) (y old : Parts P V) (kept : Kept) (counts : List Counts)
    (now : Logger) (guide : List Lane) (sent : Sending) → y ≡ old → old.up ≡ false
    → StartsOver y kept counts now guide sent
    → MovesOn (meaning old.program) (RecoversTo kept) old (started y counts now guide sent)
start_moves {P} {V} meaning y old kept counts now guide sent same down d =
    subst (λ (z : Parts P V). MovesOn (meaning z.program) (RecoversTo kept) z (started y counts now guide sent)) same (
      refl,
      λ s w st.
          let r = (recovers_there s w st.sound.firm).1 in
          starts_over (meaning y.program) s w y st (ap (λ (z : Parts P V). z.up) same ∙ down) kept counts now guide sent
          d r.part r.part_of r.closed,
    )

-- what is held then can be followed
pub follows_then : {P V : Type 0} (meaning : P → Meaning V) (y old : Parts P V) (now : Logger) → y ≡ old
    → StandsForSome (meaning old.program) old
    → ((t n : ℕ) (e : StampedEntry)
    → (entry_at (lane now.held t) n ≡ Some e)
    ↔ ((entry_at (lane y.logger.held t) n ≡ Some e) × IsWithinHeld y.logger.held e.stamp))
    → ((t : ℕ) → (lane now.held t).covered ≡ (lane y.logger.held t).covered) → CanBeFollowed now.held
follows_then {P} {V} meaning y old now same some closed covered =
    let here = subst (λ (z : Parts P V). StandsForSome (meaning z.program) z) (sym same) some in
    can_follow here.0 here.1 here.2.sound.firm y.logger.held now.held here.2.logger.holds closed covered

-- what the calls of a recovery ensure, together
pub starts_then : {P V : Type 0} (y : Parts P V) (kept : Kept) (counts : List Counts) (now : Logger)
    (guide held : List Lane) (sent : Sending) (threads : ℕ) (master : Mastered V) → threads ≡ y.inputs.threads
    → held ≡ now.held → master ≡ y.store.stored.master
    → counts ≡ map (λ (part : ThreadPart). part.counts) (take threads y.master.threads) → now.epoch ≡ y.logger.epoch + 1
    → now.waiting ≡ [] → ReleasesOnce y.logger.released now.released []
    → ((t n : ℕ) (e : StampedEntry)
    → (entry_at (lane now.held t) n ≡ Some e)
    ↔ ((entry_at (lane y.logger.held t) n ≡ Some e) × IsWithinHeld y.logger.held e.stamp))
    → ((t : ℕ) → (lane now.held t).covered ≡ (lane y.logger.held t).covered) → IsNumberOf (IsMember now.held) kept.kept
    → IsNumberOf (IsDropped y.logger.held now.held) kept.dropped → ((t : ℕ) → lane guide t ≡ lane held t)
    → TurnsLinks master threads y.sent sent → StartsOver y kept counts now guide sent
starts_then {P} {V} y kept counts now guide held sent threads master threads_is held_is master_is counts_is epoch waiting
    once closed covered keeps drops lanes turns = record {
      counts_are = counts_is ∙ ap (λ (n : ℕ). map (λ (q : ThreadPart). q.counts) (take n y.master.threads)) threads_is;
      epoch = epoch;
      waiting = waiting;
      once = once;
      closed = closed;
      covered = covered;
      keeps = keeps;
      drops = drops;
      lanes = λ t. lanes t ∙ ap (λ (l : List Lane). lane l t) held_is;
      turns = subst (λ (n : ℕ). TurnsLinks y.store.stored.master n y.sent sent) threads_is
          (subst (λ (p : Mastered V). TurnsLinks p threads y.sent sent) master_is turns);
    }

-- the parts as the calls leave them
pub start_moves_as : {P V : Type 0} (meaning : P → Meaning V) (y old : Parts P V) (kept : Kept) (counts : List Counts)
    (now : Logger) (guide : List Lane) (sent : Sending) (ended : List (List Counts)) (schedule : List PlainMove)
    (master : Mastered V) → y ≡ old → old.up ≡ false → StartsOver y kept counts now guide sent
    → ended ≡ y.ended ++ counts ∷ [] → schedule ≡ take y.store.stored.moves y.schedule → master ≡ y.store.stored.master
    → MovesOn (meaning old.program) (RecoversTo kept) old (record y {
      up = true;
      master = master;
      schedule = schedule;
      guide = guide;
      ended = ended;
      sent = sent;
      logger = now;
    })
start_moves_as {P} {V} meaning y old kept counts now guide sent ended schedule master same down d
    ended_is schedule_is master_is =
    subst (λ (e : List (List Counts)). MovesOn (meaning old.program) (RecoversTo kept) old
    (record y { up = true; master = master; schedule = schedule; guide = guide; ended = e; sent = sent; logger = now }))
    (sym ended_is) (subst (λ (l : List PlainMove). MovesOn (meaning old.program) (RecoversTo kept) old (record y {
      up = true;
      master = master;
      schedule = l;
      guide = guide;
      ended = y.ended ++ counts ∷ [];
      sent = sent;
      logger = now;
    })) (sym schedule_is) (subst (λ (p : Mastered V). MovesOn (meaning old.program) (RecoversTo kept) old (record y {
      up = true;
      master = p;
      schedule = take y.store.stored.moves y.schedule;
      guide = guide;
      ended = y.ended ++ counts ∷ [];
      sent = sent;
      logger = now;
    })) (sym master_is) (start_moves meaning y old kept counts now guide sent same down d)))

-- A master that is up stays so, where it is told to recover and where a settling begins.
module _ {P V : Type 0} (m : Meaning V) (old : Parts P V) (up : old.up ≡ true) where
  pub up_stays : MovesOn m (ComesTo event.Recover outcome.Up) old old
  up_stays = (refl, λ s w st. (w, ((inl (sym st.master.up ∙ up, refl, refl), refl), st.within), st))

  pub awake_stays : MovesOn m WakesUp old old
  awake_stays = (refl, λ s w st. (w, inl (sym st.master.up ∙ up, refl), st))

-- One that is down recovers.
module _ {P V : Type 0} (m : Meaning V) (kept : Kept) (old new : Parts P V) (down : old.up ≡ false)
    (moves : MovesOn m (RecoversTo kept) old new) where
  pub recovers_as : (epoch : ℕ) → epoch ≡ new.logger.epoch
      → MovesOn m (ComesTo event.Recover (outcome.Recovered epoch kept.kept kept.dropped)) old new
  recovers_as epoch is =
      moves_as m (RecoversTo kept) (ComesTo event.Recover (outcome.Recovered epoch kept.kept kept.dropped)) old new
      (λ s w next st sn r. (
        (
          inr (
            sym st.master.up ∙ down,
            r.recovers,
            kept.kept,
            kept.dropped,
            ap (λ (e : ℕ). outcome.Recovered e kept.kept kept.dropped) (is ∙ sn.logger.epoch),
            r.keeps,
            r.drops,
          ),
          refl,
        ),
        sn.within,
      ))
      moves

  pub wakes_as : MovesOn m WakesUp old new
  wakes_as =
      moves_as m (RecoversTo kept) WakesUp old new (λ s w next st sn r. inr (sym st.master.up ∙ down, r.recovers)) moves
