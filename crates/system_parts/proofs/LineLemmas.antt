-- What is held, read in the entries of the line, and in a log of them.
use Rattle.std.proofs.Common.{◌≡◌, ℕ, List, ◌++◌, sym, subst, inl, inr, ◌⊎◌}
use Rattle.std.specs.Prelude.{slice_index}
use Rattle.entry_order.specs.Log.{Entry, IsLog, IsIn, IsClosed, Keeps}
use Rattle.entry_order.specs.Closed.{IsFrontier}
use Rattle.entry_order.specs.Stamps.{IsStamp}
use Rattle.entry_order.proofs.KeptEntries.{in_left, in_right, in_either}
use Rattle.recovery_world.proofs.FromPlainMachine.{closed_stamp}
use Rattle.recovery_world.proofs.FromPlainMachine.{next_past}
use Rattle.access_log.specs.Held.{Lane, lane, IsKnown as IsKnownLane}
use Rattle.plain_machine.specs.History.{Step, log_of}
use Rattle.plain_machine.specs.Agree.{IsEarlier}
use Rattle.plain_machine.proofs.Histories.{history_log, earlier_log}
use Rattle.snapshot_store.specs.FromMasterCore.{held_entries, HoldsOf}
use Rattle.snapshot_store.specs.FromMasterCore.{plain_entry}
use Rattle.snapshot_store.proofs.FromMasterCore.{frontier_of, frontiers_are_defined, known_is_there, there_is_known}
use Rattle.snapshot_store.proofs.FromMasterCore.{moment_log, moment_closed}
use Rattle.recovery_world.specs.World.{Setting, World, inputs_fed}
use Rattle.recovery_world.specs.Events.{entries_of_line}
use Rattle.replay_guide.specs.FromRecoveryLaws.{Firm}
use Rattle.replay_guide.proofs.FromRecoveryLaws.{line_entries, entries_line}

-- a held set of the entries of the one list is one of those of the other, where both have the same ones
pub stamp_moves : (a b : List Entry) (e : Entry) (s : ℕ → ℕ) → ((f : Entry) → IsIn f a → IsIn f b)
    → ((f : Entry) → IsIn f b → IsIn f a) → IsIn e a → IsStamp a e s → IsStamp b e s
stamp_moves a b e s to back here st =
    closed_stamp a b a e s (λ x y i j n. i) (λ x i. i) (λ x y i j n. back x i) (λ x i. to x i) here st

pub holds_moves : (a b stored : List Entry) (held : List Lane) → ((f : Entry) → IsIn f a → IsIn f b)
    → ((f : Entry) → IsIn f b → IsIn f a) → HoldsOf a stored held → HoldsOf b stored held
holds_moves a b stored held to back h = record {
  covered = h.covered;
  of_log = λ t n x at.
      let k = h.of_log t n x at in
      (k.0, k.1, to (plain_entry x) k.2, stamp_moves a b (plain_entry x) (λ u. slice_index x.stamp u) to back k.2 k.3);
}

module _ {V : Type 0} (s : Setting V) (w : World V) (h : Firm s w) where
  -- the entries of the line as a log
  abbrev pub line_log : List Entry
  line_log = h.more ++ log_of w.past

  pub past_in : (e : Entry) → IsIn e (log_of w.past) → IsIn e line_log
  past_in e i = in_right e h.more (log_of w.past) i

  pub past_good : IsLog (log_of w.past)
  past_good = history_log s.meaning (inputs_fed s w.fed) s.threads w.past h.legal

  pub stored_good : IsLog (log_of w.stored)
  stored_good = moment_log s.meaning (inputs_fed s w.fed) s.threads w.past w.stored h.legal h.stored

  pub stored_past : (e : Entry) → IsIn e (log_of w.stored) → IsIn e (log_of w.past)
  stored_past e i = earlier_log w.stored w.past e h.stored i

  pub stored_in : (e : Entry) → IsIn e (log_of w.stored) → IsIn e line_log
  stored_in e i = past_in e (stored_past e i)

  -- an entry of the past has its stamp there among those of the line
  pub past_stamp : (e : Entry) (r : ℕ → ℕ) → IsIn e (log_of w.past) → IsStamp (log_of w.past) e r
      → IsStamp (entries_of_line w) e r
  past_stamp e r i st =
      stamp_moves line_log (entries_of_line w) e r (λ f k. entries_line s w h f k) (λ f k. line_entries s w h f k)
      (past_in e i)
      (closed_stamp (log_of w.past) line_log (log_of w.past) e r (λ x y a b n. a) (λ x a. a)
      (λ x y a b n. next_past h.more (log_of w.past) x y h.log a b n) (λ x a. past_in x a) i st)

  pub past_of_line : (e : Entry) → IsIn e (log_of w.past) → IsIn e (entries_of_line w)
  past_of_line e i = entries_line s w h e (past_in e i)

  module _ (held : List Lane) (holds : HoldsOf (entries_of_line w) (log_of w.stored) held) where
    pub holds_log : HoldsOf line_log (log_of w.stored) held
    holds_log = holds_moves (entries_of_line w) line_log (log_of w.stored) held (λ f k. line_entries s w h f k)
        (λ f k. entries_line s w h f k) holds

    pub known_there : (e : Entry) → IsIn e (log_of w.past) → IsKnownLane (lane held e.thread) e.number
        → IsIn e (held_entries held) ⊎ IsIn e (log_of w.stored)
    known_there e i k =
        known_is_there line_log (log_of w.stored) held e h.log stored_good stored_in holds_log (past_in e i) k

    pub there_known : (e : Entry) → IsIn e (held_entries held) ⊎ IsIn e (log_of w.stored)
        → IsKnownLane (lane held e.thread) e.number
    there_known e k = there_is_known line_log (log_of w.stored) held e stored_good holds_log k

    -- how far the entries of the past are held or stored
    pub frontiers : IsFrontier (log_of w.past) (log_of w.stored) (held_entries held) (frontier_of held)
    frontiers =
        record { below = λ e i low. all.below e (past_in e i) low; next = λ e i at. all.next e (past_in e i) at }
      where
        all : IsFrontier line_log (log_of w.stored) (held_entries held) (frontier_of held)
        all = frontiers_are_defined line_log (log_of w.stored) held h.log stored_good stored_in holds_log

-- what is followed, and what is stored, is closed in the entries of the line
module _ {V : Type 0} (s : Setting V) (w : World V) (h : Firm s w) where
  pub follow_closed : IsClosed (line_log s w h) (w.followed ++ log_of w.stored)
  follow_closed e f he hf n = go (in_either f w.followed (log_of w.stored) hf)
    where
      go : IsIn f w.followed ⊎ IsIn f (log_of w.stored) → IsIn e (w.followed ++ log_of w.stored)
      go (inl i) = pick (h.only e (h.closed e f he (h.follows f i) n))
        where
          pick : IsIn e w.followed ⊎ IsIn e (log_of w.stored) → IsIn e (w.followed ++ log_of w.stored)
          pick (inl k) = in_left e w.followed (log_of w.stored) k
          pick (inr k) = in_right e w.followed (log_of w.stored) k
      go (inr i) =
          in_right e w.followed (log_of w.stored) (moment_closed s.meaning (inputs_fed s w.fed) s.threads w.past
          w.stored h.legal h.stored e f (next_past h.more (log_of w.past) e f h.log he (stored_past s w h f i) n) i n)

  pub follow_keeps : Keeps (line_log s w h) (w.followed ++ log_of w.stored)
  follow_keeps e i = go (in_either e w.followed (log_of w.stored) i)
    where
      go : IsIn e w.followed ⊎ IsIn e (log_of w.stored) → IsIn e (line_log s w h)
      go (inl k) = h.here e (h.follows e k)
      go (inr k) = stored_in s w h e k

-- A later world of the same line: what it follows and has stored is the same, and its past goes on from the other.
module _ {V : Type 0} (s : Setting V) (w v : World V) (h : Firm s w) (k : Firm s v) (followed : v.followed ≡ w.followed)
    (stored : v.stored ≡ w.stored) (past : IsEarlier w.past v.past) where
  later_in : (e : Entry) → IsIn e (log_of w.past) → IsIn e (log_of v.past)
  later_in e i = earlier_log w.past v.past e past i

  -- the entries of the one line are of the other
  pub line_later : (e : Entry) → IsIn e (entries_of_line w) → IsIn e (entries_of_line v)
  line_later e i = go (in_either e w.followed (log_of w.past) i)
    where
      go : IsIn e w.followed ⊎ IsIn e (log_of w.past) → IsIn e (entries_of_line v)
      go (inl a) = in_left e v.followed (log_of v.past) (subst (λ (l : List Entry). IsIn e l) (sym followed) a)
      go (inr a) = in_right e v.followed (log_of v.past) (later_in e a)

  log_stamp : (e : Entry) (r : ℕ → ℕ) → IsIn e w.followed ⊎ IsIn e (log_of w.past) → IsStamp (line_log s w h) e r
      → IsStamp (line_log s v k) e r
  log_stamp e r (inl i) st =
      closed_stamp (line_log s w h) (line_log s v k) (w.followed ++ log_of w.stored) e r (follow_closed s w h)
      (follow_keeps s w h)
      (subst (λ (l : List Entry). IsClosed (line_log s v k) (l ++ log_of w.stored)) followed
      (subst (λ (l : List (Step V)). IsClosed (line_log s v k) (v.followed ++ log_of l)) stored (follow_closed s v k)))
      (subst (λ (l : List Entry). Keeps (line_log s v k) (l ++ log_of w.stored)) followed
      (subst (λ (l : List (Step V)). Keeps (line_log s v k) (v.followed ++ log_of l)) stored (follow_keeps s v k)))
      (in_left e w.followed (log_of w.stored) i) st
  log_stamp e r (inr i) st =
      closed_stamp (line_log s w h) (line_log s v k) (log_of w.past) e r
      (λ x y a b n. next_past h.more (log_of w.past) x y h.log a b n) (λ x a. past_in s w h x a)
      (λ x y a b n. moment_closed s.meaning (inputs_fed s v.fed) s.threads v.past w.past k.legal past x y
      (next_past k.more (log_of v.past) x y k.log a (later_in y b) n) b n) (λ x a. past_in s v k x (later_in x a)) i st

  -- with the same stamps
  stamp_later : (e : Entry) (r : ℕ → ℕ) → IsIn e (entries_of_line w) → IsStamp (entries_of_line w) e r
      → IsStamp (entries_of_line v) e r
  stamp_later e r i st =
      let a = log_stamp e r (in_either e w.followed (log_of w.past) i) (stamp_moves (entries_of_line w) (line_log s w h)
      e r (λ f x. line_entries s w h f x) (λ f x. entries_line s w h f x) i st) in
      stamp_moves (line_log s v k) (entries_of_line v) e r (λ f x. entries_line s v k f x)
      (λ f x. line_entries s v k f x) (line_entries s v k e (line_later e i)) a

  -- so a held set of the one line is one of the other
  pub holds_later_line : (base : List Entry) (held : List Lane) → HoldsOf (entries_of_line w) base held
      → HoldsOf (entries_of_line v) base held
  holds_later_line base held holds = record {
    covered = holds.covered;
    of_log = λ t n x at.
        let q = holds.of_log t n x at in
        (q.0, q.1, line_later (plain_entry x) q.2, stamp_later (plain_entry x) (λ u. slice_index x.stamp u) q.2 q.3);
  }
