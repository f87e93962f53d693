-- What a recovery keeps of the held entries, and what is followed then.
use Rattle.std.proofs.Common.{◌≡◌, ℕ, ◌+◌, List, [], ◌∷◌, ◌++◌, length, refl, ap, ◌∙◌, subst, inl, inr, ◌⊎◌, Some}
use Rattle.std.specs.Prelude.{◌↔◌, slice_index}
use Rattle.entry_order.specs.Log.{Entry, IsIn, IsClosed, Keeps}
use Rattle.entry_order.specs.Stamps.{IsCount}
use Rattle.entry_order.specs.Closed.{IsClosedPart, IsClosedOver}
use Rattle.entry_order.proofs.ClosedParts.{in_or}
use Rattle.entry_order.proofs.KeptEntries.{in_left, in_right, in_either}
use Rattle.plain_machine.proofs.OneLine.{closed_stamp}
use Rattle.plain_machine.proofs.Arrangements.{next_past}
use Rattle.access_log.specs.declared.entry.StampedEntry.{StampedEntry}
use Rattle.access_log.specs.Held.{Lane, lane, entry_at}
use Rattle.access_log.specs.Members.{IsMember, IsDropped, IsNumberOf}
use Rattle.plain_machine.specs.History.{log_of}
use Rattle.master_core.specs.Holding.{held_entries, HoldsOf}
use Rattle.master_core.specs.Stepping.{plain_entry}
use Rattle.master_core.proofs.HeldEntries.{held_at, at_held}
use Rattle.master_core.proofs.Holdings.{IsClosedOf, part_is_closed_part, part_holds}
use Rattle.master_core.proofs.Moments.{moment_closed}
use Rattle.system_parts.specs.FromReplayGuide.{CanBeFollowed}
use Rattle.system_parts.proofs.FromReplayGuide.{held_follows, closed_can}
use Rattle.recovery_world.specs.World.{Setting, World, inputs_fed}
use Rattle.recovery_world.specs.Events.{entries_of_line}
use Rattle.recovery_laws.specs.Sound.{Firm, IsEachOnce}
use Rattle.recovery_laws.proofs.KeptWorlds.{line_entries, entries_line}
use Rattle.recovery_laws.proofs.Sets.{outside, outside_in, in_outside}
use Rattle.system_parts.specs.SystemStanding.{HasGuide}
use Rattle.system_parts.proofs.LineLemmas.{line_log, stored_good, stored_in, stored_past, holds_log}
use Rattle.crash_recovery.proofs.RecoveryCounts.{kept_list, dropped_list, parts_long, count_of_members}

module _ {V : Type 0} (s : Setting V) (w : World V) (h : Firm s w) (held new : List Lane)
    (holds : HoldsOf (entries_of_line w) (log_of w.stored) held) (closes : IsClosedOf held new)
    (same : (t : ℕ) → (lane new t).covered ≡ (lane held t).covered) where
  stored_closed : IsClosed (line_log s w h) (log_of w.stored)
  stored_closed e f he hf n =
      moment_closed s.meaning (inputs_fed s w.fed) s.threads w.past w.stored h.legal h.stored e f
      (next_past h.more (log_of w.past) e f h.log he (stored_past s w h f hf) n) hf n

  part_is : IsClosedPart (line_log s w h) (log_of w.stored) (held_entries held) (held_entries new)
  part_is =
      part_is_closed_part (line_log s w h) (log_of w.stored) held new h.log (stored_good s w h) stored_closed
      (λ e i. stored_in s w h e i) (holds_log s w h held holds) closes

  -- what is held then is of the line, with the same stamps
  new_holds : HoldsOf (line_log s w h) (log_of w.stored) new
  new_holds = part_holds (line_log s w h) (log_of w.stored) held new (holds_log s w h held holds) closes same

  -- and can be followed
  pub can_follow : CanBeFollowed new
  can_follow = closed_can (line_log s w h) (log_of w.stored) new h.log (stored_good s w h) new_holds part_is.closed

  module _ (is_held : (e : Entry) → IsIn e (held_entries held) ↔ (IsIn e w.held × (IsIn e (log_of w.stored) → ⊥)))
      (part : List Entry) (closed : IsClosedPart (entries_of_line w) (log_of w.stored) w.held part) where
    -- it is the part that the world keeps, but for what is stored
    pub part_held : (e : Entry) → IsIn e (held_entries new) ↔ (IsIn e part × (IsIn e (log_of w.stored) → ⊥))
    part_held e = (to, back)
      where
        to : IsIn e (held_entries new) → IsIn e part × (IsIn e (log_of w.stored) → ⊥)
        to i = (
          closed.greatest (held_entries new) (λ f k. ((is_held f).0 (part_is.within f k)).0)
              (λ d f hd hf n. part_is.closed d f (line_entries s w h d hd) hf n) e i,
          ((is_held e).0 (part_is.within e i)).1,
        )

        shut : IsClosedOver (line_log s w h) (log_of w.stored) (outside (log_of w.stored) part)
        shut d f hd hf n = go (closed.closed d f (entries_line s w h d hd) (outside_in (log_of w.stored) part f hf).0 n)
            (in_or d (log_of w.stored))
          where
            go : IsIn d part ⊎ IsIn d (log_of w.stored) → IsIn d (log_of w.stored) ⊎ (IsIn d (log_of w.stored) → ⊥)
                → IsIn d (outside (log_of w.stored) part) ⊎ IsIn d (log_of w.stored)
            go k (inl old) = inr old
            go (inr old) (inr fresh) = inr old
            go (inl i) (inr fresh) = inl (in_outside (log_of w.stored) part d i fresh)

        back : IsIn e part × (IsIn e (log_of w.stored) → ⊥) → IsIn e (held_entries new)
        back (i, fresh) =
            part_is.greatest (outside (log_of w.stored) part)
            (λ f k. let o = outside_in (log_of w.stored) part f k in (is_held f).1 (closed.within f o.0, o.1))
            shut e (in_outside (log_of w.stored) part e i fresh)

    -- what is followed and stored is closed in the line
    followed_closed : IsClosed (line_log s w h) (part ++ log_of w.stored)
    followed_closed e f he hf n = go (in_either f part (log_of w.stored) hf)
      where
        pick : IsIn e part ⊎ IsIn e (log_of w.stored) → IsIn e (part ++ log_of w.stored)
        pick (inl k) = in_left e part (log_of w.stored) k
        pick (inr k) = in_right e part (log_of w.stored) k

        go : IsIn f part ⊎ IsIn f (log_of w.stored) → IsIn e (part ++ log_of w.stored)
        go (inl i) = pick (closed.closed e f (entries_line s w h e he) i n)
        go (inr i) = pick (inr (stored_closed e f he i n))

    followed_here : Keeps (line_log s w h) (part ++ log_of w.stored)
    followed_here e i = go (in_either e part (log_of w.stored) i)
      where
        go : IsIn e part ⊎ IsIn e (log_of w.stored) → IsIn e (line_log s w h)
        go (inl k) = h.held e (closed.within e k)
        go (inr k) = stored_in s w h e k

    -- a held set with the same lanes is one of what is followed and stored
    pub followed_holds : (other : List Lane) → ((t : ℕ) → lane other t ≡ lane new t)
        → HoldsOf (part ++ log_of w.stored) (log_of w.stored) other
    followed_holds other lanes = record {
      covered = λ t. ap (λ (l : Lane). l.covered) (lanes t) ∙ new_holds.covered t;
      of_log = λ t n x at.
          let there : entry_at (lane new t) n ≡ Some x = subst (λ (l : Lane). entry_at l n ≡ Some x) (lanes t) at in
          let k = new_holds.of_log t n x there in
          let kept : IsIn (plain_entry x) (part ++ log_of w.stored) = in_left (plain_entry x) part (log_of w.stored)
          ((part_held (plain_entry x)).0 (at_held new (plain_entry x) t n x there refl)).0 in (
            k.0,
            k.1,
            kept,
            closed_stamp (line_log s w h) (part ++ log_of w.stored) (part ++ log_of w.stored) (plain_entry x)
                (λ u. slice_index x.stamp u) followed_closed followed_here (λ d f i j m. i) (λ d i. i) kept k.3,
          );
    }

    -- the guide of it
    pub guide_begins : (guide : List Lane) → ((t : ℕ) → lane guide t ≡ lane new t) → HasGuide part w.stored guide
    guide_begins guide lanes = record {
      follows = λ e fresh.
          let follows = held_follows (line_log s w h) (log_of w.stored) new guide e new_holds lanes in
          (λ i. follows.0 ((part_held e).1 (i, fresh)), λ k. ((part_held e).0 (follows.1 k)).0);
      only = λ e i. ((part_held e).0 (there e (held_at guide e i))).0;
      began = log_of w.stored;
      holds = followed_holds guide lanes;
    }
      where
        there : (e : Entry)
            → ((t n : ℕ) × (x : StampedEntry) × (entry_at (lane guide t) n ≡ Some x) × (plain_entry x ≡ e))
            → IsIn e (held_entries new)
        there e (t, n, x, at, is) = at_held new e t n x (subst (λ (l : Lane). entry_at l n ≡ Some x) (lanes t) at) is

    -- How many are kept, and how many dropped.
    module _ (once : IsEachOnce part) where
      pub keeps : (n : ℕ) → IsNumberOf (IsMember new) n → IsCount (λ e. IsIn e (log_of w.stored) → ⊥) part n
      keeps n number =
          let k = kept_list (line_log s w h) (log_of w.stored) new n new_holds number in
          subst (λ (c : ℕ). IsCount (λ e. IsIn e (log_of w.stored) → ⊥) part c) k.2
          (count_of_members (λ e. IsIn e (log_of w.stored) → ⊥) part k.0 once k.1
          (λ e. (λ i. (part_held e).0 ((k.3 e).0 i), λ i. (k.3 e).1 ((part_held e).1 i))))

      pub drops : (n : ℕ) → IsNumberOf (IsDropped held new) n → length w.held ≡ length part + n
      drops n number =
          let k = dropped_list (line_log s w h) (log_of w.stored) held new n (holds_log s w h held holds) new_holds
          (λ x i. ((closes x.thread x.number x).0 i).0) number in
          subst (λ (c : ℕ). length w.held ≡ length part + c) k.2
          (parts_long w.held part k.0 h.held_once once k.1
          (λ e. (λ i. split e i (in_or e part) (in_or e (log_of w.stored)) k.0 (k.3 e), λ i. join e k.0 i (k.3 e)))
          (λ e i j. let d = (k.3 e).0 j in d.1 ((part_held e).1 (i, ((is_held e).0 d.0).1))))
        where
          alone : (e : Entry) → IsIn e w.held → IsIn e (log_of w.stored) → IsIn e part
          alone e i old =
              closed.greatest (e ∷ []) (λ f k. only f k)
              (λ d f hd hf n. inr (stored_closed d f (line_entries s w h d hd) (stored f hf) n)) e (inl refl)
            where
              only : (f : Entry) → IsIn f (e ∷ []) → IsIn f w.held
              only f (inl is) = subst (λ (z : Entry). IsIn z w.held) is i
              only f (inr k) = absurd k

              stored : (f : Entry) → IsIn f (e ∷ []) → IsIn f (log_of w.stored)
              stored f (inl is) = subst (λ (z : Entry). IsIn z (log_of w.stored)) is old
              stored f (inr k) = absurd k

          split : (e : Entry) → IsIn e w.held → IsIn e part ⊎ (IsIn e part → ⊥)
              → IsIn e (log_of w.stored) ⊎ (IsIn e (log_of w.stored) → ⊥) → (list : List Entry)
              → IsIn e list ↔ (IsIn e (held_entries held) × (IsIn e (held_entries new) → ⊥)) → IsIn e part ⊎ IsIn e list
          split e i (inl k) o list listed = inl k
          split e i (inr none) (inl old) list listed = absurd (none (alone e i old))
          split e i (inr none) (inr fresh) list listed =
              inr (listed.1 ((is_held e).1 (i, fresh), λ k. none ((part_held e).0 k).0))

          join : (e : Entry) (list : List Entry) → IsIn e part ⊎ IsIn e list
              → IsIn e list ↔ (IsIn e (held_entries held) × (IsIn e (held_entries new) → ⊥)) → IsIn e w.held
          join e list (inl k) listed = closed.within e k
          join e list (inr k) listed = ((is_held e).0 (listed.0 k).0).0
