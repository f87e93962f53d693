-- What is so stays sound with one more note.
use Rattle.std.proofs.Common.{◌≡◌, ◌≢◌, ℕ, zero, suc, ◌+◌, ◌<◌, ◌≤◌, ◌^◌, ◌⊎◌, inl, inr, true, false, List, [], ◌∷◌}
use Rattle.std.proofs.Common.{length, refl, sym, ap, ◌∙◌, subst, Option, None, arith}
use Rattle.std.specs.Prelude.{slice_index}
use Rattle.plain_text.specs.declared.packet.Packet.{Packet}
use Rattle.entry_order.specs.declared.what.What.{What}
use Rattle.entry_order.specs.Stamps.{sum_below}
use Rattle.entry_order.proofs.Order.{is_or}
use Rattle.entry_order.proofs.Weights.{sum_below_more}
use Rattle.access_log.specs.declared.entry.StampedEntry.{StampedEntry}
use Rattle.access_log.specs.Held.{Lane}
use Rattle.plain_machine.specs.declared.local.Local.{Local}
use Rattle.plain_machine.specs.Program.{Meaning}
use Rattle.plain_machine.specs.History.{Step, thread_after}
use Rattle.master_core.specs.declared.parts.VarPart.{VarPart}
use Rattle.master_core.specs.declared.parts.ThreadPart.{ThreadPart}
use Rattle.master_core.specs.Mastered.{Mastered, in_hand_count, moves_made}
use Rattle.master_core.specs.MasterStanding.{Stands}
use Rattle.replay_guide.specs.Following.{Follows}
use Rattle.replay_guide.specs.Orders.{IsNamed}
use Rattle.round_order.specs.Receipts.{Receipt, Receipts, after, IsLogged}
use Rattle.round_order.specs.Linked.{IsKnown}
use Rattle.round_order.specs.Home.{IsHome, IsSeat}
use Rattle.round_order.specs.Growth.{IsRound, IsNextOf, IsKept, Touches, Reads, update, with_one, part_after}
use Rattle.round_order.specs.PartMoves as moves
use Rattle.round_order.proofs.GrownRounds.{private_moves, touch_moves, read_moves}
use Rattle.round_order.proofs.MoreReceipts.{known_more}
use Rattle.round_order.proofs.LoggedMoves.{at_entry}
use Rattle.var_locks.specs.declared.view.Note.{Note}
use Rattle.var_locks.specs.Notes.{IsOwn, IsOnVariable, IsGuided, AreFed, AreGuided, read_note, read_notes}
use Rattle.var_locks.specs.Told.{Now, IsStory, IsSound, receipts}
use Rattle.var_locks.proofs.Puts.{put, put_here, put_else}
use Rattle.var_locks.proofs.NoteReceipts.{IsOwnReceipt, own_receipt, receipt_on}

-- what is so with one more note of thread t, and these variables and seats that hold them
abbrev pub with_note : {V : Type 0} → Now V → ℕ → Note V → (ℕ → VarPart V) → (ℕ → Option ℕ) → Now V
with_note d t n vars holder = record {
  notes = put t (n ∷ d.notes t) d.notes;
  parts = put t n.after d.parts;
  ended = d.ended;
  owner = d.owner;
  vars = vars;
  holder = holder;
  lost = d.lost;
}

sums_rise : (n : ℕ) (f g : ℕ → ℕ) → ((u : ℕ) → f u ≤ g u) → sum_below n f ≤ sum_below n g
sums_rise zero f g rise = omega arith
sums_rise (suc n) f g rise = let k = sums_rise n f g rise in let q = rise n in omega (arith, k, q)

-- the receipts of the notes, with that of one more
with_receipt : {V : Type 0} (m : Meaning V) (past : List (Step V)) (d : Now V) (t : ℕ) (n : Note V)
    (vars : ℕ → VarPart V) (holder : ℕ → Option ℕ) (r : Receipt V) → r.step.thread ≡ t
    → r ≡ read_note m t (thread_after (after (receipts m past d t) past) t).hand n
    → with_one (receipts m past d) r ≡ receipts m past (with_note d t n vars holder)
with_receipt {V} m past d t n vars holder r of_t is =
    λ i u. (ap (λ (z : ℕ). update z (r ∷ receipts m past d z) (receipts m past d) u) of_t ∙ each u (is_or u t)) i
  where
    each : (u : ℕ) → (u ≡ t) ⊎ (u ≢ t)
        → update t (r ∷ receipts m past d t) (receipts m past d) u
        ≡ read_notes m past u (put t (n ∷ d.notes t) d.notes u)
    each u (inl same) =
        put_here t u (r ∷ receipts m past d t) (receipts m past d) same
        ∙ (ap (λ (z : Receipt V). z ∷ receipts m past d t) is
        ∙ (ap (λ (z : ℕ). read_notes m past z (n ∷ d.notes t)) (sym same)
        ∙ ap (λ (l : List (Note V)). read_notes m past u l) (sym (put_here t u (n ∷ d.notes t) d.notes same))))
    each u (inr apart) =
        put_else t u (r ∷ receipts m past d t) (receipts m past d) apart
        ∙ ap (λ (l : List (Note V)). read_notes m past u l) (sym (put_else t u (n ∷ d.notes t) d.notes apart))

module _ {V : Type 0} (m : Meaning V) (guide : List Lane) (threads : ℕ) (d : Now V) (inputs : ℕ → List Packet)
    (past : List (Step V)) (old : IsStory m guide threads d inputs past) (t : ℕ) (low : t < threads) (n : Note V)
    (r : Receipt V) (of_t : r.step.thread ≡ t)
    (is : r ≡ read_note m t (thread_after (after (receipts m past d t) past) t).hand n) (IsOther : ℕ → Type 0)
    (before : n.before ≡ d.parts t) (kept : IsKept m inputs threads past (receipts m past d) n.before r IsOther)
    (leaves : part_after n.before r ≡ n.after) (here : (u k : ℕ) → IsNamed u k d.lost → u ≢ t)
    (alone : IsNextOf m inputs threads past (receipts m past d) n.before r) where
  -- The story goes on with it.
  pub story_grows : (vars : ℕ → VarPart V) (holder : ℕ → Option ℕ)
      → ((w : ℕ) → w < m.vars → IsHome m past (with_one (receipts m past d) r) w (vars w))
      → IsStory m guide threads (with_note d t n vars holder) inputs past
  story_grows vars holder home = record {
    round = subst (λ (f : Receipts V). IsRound m inputs threads past f) all kept.round;
    home = λ w under. subst (λ (f : Receipts V). IsHome m past f w (vars w)) all (home w under);
    seat =
        λ u under. subst (λ (f : Receipts V). IsSeat past f u (put t n.after d.parts u)) all (seat u under (is_or u t));
    lost = λ u k what stamp named follows known. lost u k what stamp named follows (subst
        (λ (f : Receipts V). IsKnown past f (record { thread = u; number = k; what = what }) stamp) (sym all) known);
  }
    where
      all : with_one (receipts m past d) r ≡ receipts m past (with_note d t n vars holder)
      all = with_receipt m past d t n vars holder r of_t is

      seat : (u : ℕ) → u < threads → (u ≡ t) ⊎ (u ≢ t)
          → IsSeat past (with_one (receipts m past d) r) u (put t n.after d.parts u)
      seat u under (inl same) = subst (λ (z : ThreadPart). IsSeat past (with_one (receipts m past d) r) u z)
          (leaves ∙ sym (put_here t u n.after d.parts same))
          (subst (λ (z : ℕ). IsSeat past (with_one (receipts m past d) r) z (part_after n.before r))
          (of_t ∙ sym same) kept.seat)
      seat u under (inr apart) = subst (λ (z : ThreadPart). IsSeat past (with_one (receipts m past d) r) u z)
          (sym (put_else t u n.after d.parts apart))
          (kept.seats u (d.parts u) (λ e. apart (e ∙ of_t)) (old.seat u under))

      lost : (u k : ℕ) (what : What) (stamp : ℕ → ℕ) → IsNamed u k d.lost → Follows guide u k what
          → IsKnown past (with_one (receipts m past d) r) (record { thread = u; number = k; what = what }) stamp → ⊥
      lost u k what stamp named follows known = go (known_more m inputs threads past (receipts m past d)
          old.round.linked r (record { thread = u; number = k; what = what }) stamp known)
        where
          go : (IsLogged r (record { thread = u; number = k; what = what })
              × ((w : ℕ) → slice_index r.stamp w ≡ stamp w))
              ⊎ IsKnown past (receipts m past d) (record { thread = u; number = k; what = what }) stamp → ⊥
          go (inl (l, same)) = here u k named
              ((at_entry r.step.thread r.step.after.taken r.place (after (receipts m past d r.step.thread) past)
              alone.alone.0 (record { thread = u; number = k; what = what }) l.0 (sym alone.alone.2 ∙ l.1)).0
              ∙ of_t)
          go (inr k') = old.lost u k what stamp named follows k'

entries_more : (threads t : ℕ) (low : t < threads) (parts : ℕ → ThreadPart) (after : ThreadPart)
    → (parts t).counts.entries ≤ after.counts.entries
    → sum_below threads (λ u. (parts u).counts.entries) ≤ sum_below threads (λ u. (put t after parts u).counts.entries)
entries_more threads t low parts after more = sums_rise threads (λ u. (parts u).counts.entries)
    (λ u. (put t after parts u).counts.entries) (λ u. each u (is_or u t))
  where
    each : (u : ℕ) → (u ≡ t) ⊎ (u ≢ t) → (parts u).counts.entries ≤ (put t after parts u).counts.entries
    each u (inl same) =
        subst (λ (z : ThreadPart). (parts u).counts.entries ≤ z.counts.entries) (sym (put_here t u after parts same))
        (subst (λ (z : ℕ). (parts z).counts.entries ≤ after.counts.entries) (sym same) more)
    each u (inr apart) = subst (λ (z : ThreadPart). (parts u).counts.entries ≤ z.counts.entries)
        (sym (put_else t u after parts apart)) (omega arith)

-- of a set of threads, each has its part, and thread t the new one
each_part : (t : ℕ) (parts : ℕ → ThreadPart) (after : ThreadPart) (Has : ThreadPart → Type 0) → Has after → (u : ℕ)
    → Has (parts u) → Has (put t after parts u)
each_part t parts after Has new u old = go (is_or u t)
  where
    go : (u ≡ t) ⊎ (u ≢ t) → Has (put t after parts u)
    go (inl same) = subst Has (sym (put_here t u after parts same)) new
    go (inr apart) = subst Has (sym (put_else t u after parts apart)) old

module _ {V : Type 0} (m : Meaning V) (fits : ℕ → V → Type 0) (guide : List Lane) (p : Mastered V) (d : Now V)
    (sound : IsSound m fits guide p d) (t : ℕ) (low : t < length p.threads) (going : d.ended t ≡ false) (n : Note V)
    (before : n.before ≡ d.parts t) (guided : IsGuided guide t n) where
  not_lost : (u k : ℕ) → IsNamed u k d.lost → u ≢ t
  not_lost u k named same = let q : true ≡ false = sym (sound.gone u k named).1 ∙ (ap d.ended same ∙ going) in cc

  all_guided : (u : ℕ) → u < length p.threads → AreGuided guide u (put t (n ∷ d.notes t) d.notes u)
  all_guided u under = go (is_or u t)
    where
      go : (u ≡ t) ⊎ (u ≢ t) → AreGuided guide u (put t (n ∷ d.notes t) d.notes u)
      go (inl same) =
          subst (λ (l : List (Note V)). AreGuided guide u l) (sym (put_here t u (n ∷ d.notes t) d.notes same))
          (subst (λ (z : ℕ). AreGuided guide z (n ∷ d.notes t)) (sym same) (guided, sound.guided t low))
      go (inr apart) = subst (λ (l : List (Note V)). AreGuided guide u l)
          (sym (put_else t u (n ∷ d.notes t) d.notes apart)) (sound.guided u under)

  none_beyond : (u : ℕ) → length p.threads ≤ u → put t (n ∷ d.notes t) d.notes u ≡ []
  none_beyond u above =
      put_else t u (n ∷ d.notes t) d.notes (λ e. absurd (omega (arith, low, above, e))) ∙ sound.beyond u above

  module _ (inputs : ℕ → List Packet) (past : List (Step V)) (stands : Stands m (length p.threads) past p)
      (fed : (u : ℕ) → u < length p.threads → AreFed (inputs u) (put t (n ∷ d.notes t) d.notes u)) where
    mine_fed : AreFed (inputs t) (n ∷ d.notes t)
    mine_fed =
        subst (λ (l : List (Note V)). AreFed (inputs t) l) (put_here t t (n ∷ d.notes t) d.notes refl) (fed t low)

    old_fed : (u : ℕ) → u < length p.threads → AreFed (inputs u) (d.notes u)
    old_fed u under = go (is_or u t)
      where
        go : (u ≡ t) ⊎ (u ≢ t) → AreFed (inputs u) (d.notes u)
        go (inl same) = subst (λ (z : ℕ). AreFed (inputs z) (d.notes z)) (sym same) mine_fed.1
        go (inr apart) = subst (λ (l : List (Note V)). AreFed (inputs u) l) (put_else t u (n ∷ d.notes t) d.notes apart)
            (fed u under)

    old : IsStory m guide (length p.threads) d inputs past
    old = sound.story inputs past stands old_fed

    has : moves.HasPart (length p.threads) past (receipts m past d) t n.before
    has = record {
      below = low;
      seat = subst (λ (z : ThreadPart). IsSeat past (receipts m past d) t z) (sym before) (old.seat t low);
      held = subst (λ (z : ThreadPart). in_hand_count z.hand ≤ z.counts.taken) (sym before) (sound.held t low);
    }

    abbrev r : Receipt V
    r = read_note m t (thread_after (after (receipts m past d t) past) t).hand n

    own_story : IsOwn m t n → IsStory m guide (length p.threads) (with_note d t n d.vars d.holder) inputs past
    own_story own =
        let k : IsOwnReceipt m inputs (length p.threads) past (receipts m past d) t n has
        (read_note m t (thread_after (after (receipts m past d t) past) t).hand n) = own_receipt m inputs
        (length p.threads) past (receipts m past d) t n has (λ packet is. mine_fed.0 packet is) own in
        let one : Receipt V = read_note m t (thread_after (after (receipts m past d t) past) t).hand n in
        let kept =
        private_moves m inputs (length p.threads) past (receipts m past d) n.before one old.round k.1.0 k.2 in
        story_grows m guide (length p.threads) d inputs past old t low n one k.0 refl (λ w. Unit {0}) before kept k.1.1
        not_lost k.1.0 d.vars d.holder (λ w under. kept.homes w (d.vars w) tt (old.home w under))

    story_on : (v : ℕ) (y : VarPart V) (place : Local) (e : StampedEntry) → v < m.vars
        → IsOnVariable m t v n (d.vars v) y place e
        → IsStory m guide (length p.threads) (with_note d t n (put v y d.vars) (put v None d.holder)) inputs past
    story_on v y place e inside on =
        let k = receipt_on m inputs (length p.threads) past (receipts m past d) t n has v (d.vars v) y place e on in
        let both = moves_on k.1.0 k.2 in
        story_grows m guide (length p.threads) d inputs past old t low n
        (read_note m t (thread_after (after (receipts m past d t) past) t).hand n) k.0 refl (λ w. w ≢ v) before both.0
        k.1.1 not_lost k.1.0 (put v y d.vars) (put v None d.holder) (λ w under. home both w under (is_or w v))
      where
        moves_on : IsNextOf m inputs (length p.threads) past (receipts m past d) n.before r
            → Touches v n.before (d.vars v) y r ⊎ Reads v n.before (d.vars v) y r
            → IsKept m inputs (length p.threads) past (receipts m past d) n.before r (λ w. w ≢ v)
            × IsHome m past (with_one (receipts m past d) r) v y
        moves_on next (inl touch) = touch_moves m inputs (length p.threads) past (receipts m past d) n.before
            (read_note m t (thread_after (after (receipts m past d t) past) t).hand n) old.round next v (d.vars v) y
            (old.home v inside) touch
        moves_on next (inr read) = read_moves m inputs (length p.threads) past (receipts m past d) n.before
            (read_note m t (thread_after (after (receipts m past d t) past) t).hand n) old.round next v (d.vars v) y
            (old.home v inside) read

        home : IsKept m inputs (length p.threads) past (receipts m past d) n.before r (λ w. w ≢ v)
            × IsHome m past (with_one (receipts m past d) r) v y → (w : ℕ) → w < m.vars → (w ≡ v) ⊎ (w ≢ v)
            → IsHome m past (with_one (receipts m past d) r) w (put v y d.vars w)
        home both w under (inl same) = subst (λ (x : VarPart V). IsHome m past (with_one (receipts m past d) r) w x)
            (sym (put_here v w y d.vars same))
            (subst (λ (z : ℕ). IsHome m past (with_one (receipts m past d) r) z y) (sym same) both.1)
        home both w under (inr apart) = subst (λ (x : VarPart V). IsHome m past (with_one (receipts m past d) r) w x)
            (sym (put_else v w y d.vars apart)) (both.0.homes w (d.vars w) apart (old.home w under))

  -- What is so stays sound with a move on no variable.
  pub sound_own : IsOwn m t n → in_hand_count n.after.hand ≤ n.after.counts.taken → moves_made n.after ≤ 2 ^ 56
      → n.before.counts.entries ≤ n.after.counts.entries → IsSound m fits guide p (with_note d t n d.vars d.holder)
  sound_own own held made more = record {
    few = sound.few;
    held =
        λ u under. each_part t d.parts n.after (λ x. in_hand_count x.hand ≤ x.counts.taken) held u (sound.held u under);
    made = λ u under. each_part t d.parts n.after (λ x. moves_made x ≤ 2 ^ 56) made u (sound.made u under);
    places = λ w under.
        let old_places = sound.places w under in
        let rise = entries_more (length p.threads) t low d.parts n.after
        (subst (λ (x : ThreadPart). x.counts.entries ≤ n.after.counts.entries) before more) in
        omega (arith, old_places, rise);
    fit = sound.fit;
    guided = all_guided;
    beyond = none_beyond;
    gone = sound.gone;
    story = λ inputs past stands fed. own_story inputs past stands fed own;
  }

  -- It stays sound with a touch or a read.
  pub sound_on : (v : ℕ) (y : VarPart V) (place : Local) (e : StampedEntry) → v < m.vars
      → IsOnVariable m t v n (d.vars v) y place e → fits v y.value → y.places ≤ (d.vars v).places + 1
      → n.after.counts.entries ≡ n.before.counts.entries + 1 → in_hand_count n.after.hand ≤ n.after.counts.taken
      → moves_made n.after ≤ 2 ^ 56 → IsSound m fits guide p (with_note d t n (put v y d.vars) (put v None d.holder))
  sound_on v y place e inside on fit up count held made = record {
    few = sound.few;
    held =
        λ u under. each_part t d.parts n.after (λ x. in_hand_count x.hand ≤ x.counts.taken) held u (sound.held u under);
    made = λ u under. each_part t d.parts n.after (λ x. moves_made x ≤ 2 ^ 56) made u (sound.made u under);
    places = λ w under. places w under (is_or w v);
    fit = λ w under. fit_at w under (is_or w v);
    guided = all_guided;
    beyond = none_beyond;
    gone = sound.gone;
    story = λ inputs past stands fed. story_on inputs past stands fed v y place e inside on;
  }
    where
      total : sum_below (length p.threads) (λ u. (put t n.after d.parts u).counts.entries)
          ≡ sum_below (length p.threads) (λ u. (d.parts u).counts.entries) + 1
      total = sum_below_more (length p.threads) t (λ u. (put t n.after d.parts u).counts.entries)
          (λ u. (d.parts u).counts.entries) low
          (ap (λ (x : ThreadPart). x.counts.entries) (put_here t t n.after d.parts refl)
          ∙ (count ∙ ap (λ (x : ThreadPart). x.counts.entries + 1) before))
          (λ u apart. ap (λ (x : ThreadPart). x.counts.entries) (put_else t u n.after d.parts apart))

      places : (w : ℕ) → w < m.vars → (w ≡ v) ⊎ (w ≢ v)
          → (put v y d.vars w).places ≤ sum_below (length p.threads) (λ u. (put t n.after d.parts u).counts.entries)
      places w under (inl same) = subst
          (λ (x : VarPart V). x.places ≤ sum_below (length p.threads) (λ u. (put t n.after d.parts u).counts.entries))
          (sym (put_here v w y d.vars same))
          (let old_places = sound.places v inside in omega (arith, old_places, up, total))
      places w under (inr apart) = subst
          (λ (x : VarPart V). x.places ≤ sum_below (length p.threads) (λ u. (put t n.after d.parts u).counts.entries))
          (sym (put_else v w y d.vars apart))
          (let old_places = sound.places w under in omega (arith, old_places, total))

      fit_at : (w : ℕ) → w < m.vars → (w ≡ v) ⊎ (w ≢ v) → fits w (put v y d.vars w).value
      fit_at w under (inl same) = subst (λ (x : VarPart V). fits w x.value) (sym (put_here v w y d.vars same))
          (subst (λ (z : ℕ). fits z y.value) (sym same) fit)
      fit_at w under (inr apart) =
          subst (λ (x : VarPart V). fits w x.value) (sym (put_else v w y d.vars apart)) (sound.fit w under)
