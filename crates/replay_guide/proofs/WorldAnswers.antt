-- The answers of a guide are those that its world tells.
use Rattle.std.proofs.Common.{◌≡◌, ℕ, ◌+◌, ◌⊎◌, ◌↔◌, List, Option, Some, None, refl, sym, ap, ◌∙◌, subst, inl, inr}
use Rattle.entry_order.specs.declared.what.What.{What}
use Rattle.entry_order.specs.declared.what.What.TheVariants.{Clock, Draw}
use Rattle.entry_order.specs.Log.{entries, IsIn}
use Rattle.plain_machine.specs.declared.local.Move.{Move}
use Rattle.plain_machine.specs.declared.local.Move.TheVariants as move
use Rattle.plain_machine.specs.Machine.{Hand}
use Rattle.plain_machine.specs.History.{log_of, entry_of, thread_after}
use Rattle.access_log.specs.declared.entry.StampedEntry.{StampedEntry}
use Rattle.access_log.specs.Held.{Lane, lane, entry_at}
use Rattle.recovery_laws.specs.FromRecoveryWorld.{Setting, World}
use Rattle.recovery_laws.specs.FromRecoveryWorld.{TellsClock, TellsDraw}
use Rattle.recovery_laws.specs.Sound.{Sound}
use Rattle.recovery_laws.specs.Facts.{IsKindOf}
use Rattle.recovery_laws.proofs.AskedKinds.{next_asked}
use Rattle.replay_guide.specs.Following.{Follows, told, recorded}
use Rattle.replay_guide.specs.Worlds.{Guides}
use Rattle.replay_guide.proofs.WorldTurns.{next_followed, next_not_made, line_log, line_good, past_good, past_kept}
use Rattle.replay_guide.proofs.WorldTurns.{followed_kept}

recorded_entry : (o : Option StampedEntry) (a : ℕ) → recorded o ≡ Some a
    → (e : StampedEntry) × (o ≡ Some e) × (told e.what ≡ Some a)
recorded_entry None a h = absurd cc
recorded_entry (Some e) a h = (e, refl, h)

not_recorded : (o : Option StampedEntry) (e : StampedEntry) (a : ℕ) → recorded o ≡ None → o ≡ Some e
    → told e.what ≡ Some a → ⊥
not_recorded None e a none is says = cc
not_recorded (Some f) e a none is says =
    let same : f ≡ e = cc in
    let both : Some a ≡ None = sym says ∙ ap (λ (g : StampedEntry). told g.what) (sym same) ∙ none in cc

module _ {V : Type 0} (s : Setting V) (w : World V) (guide : List Lane) (sound : Sound s w)
    (guides : Guides w.followed (log_of w.past) guide) where
  abbrev next_entry : ℕ → Option StampedEntry
  next_entry t = entry_at (lane guide t) (entries t (log_of w.past) + 1)

  is_followed : (t : ℕ) (what : What)
      → IsIn (entry_of t (log_of w.past) what) w.followed ↔ Follows guide t (entries t (log_of w.past) + 1) what
  is_followed t what = next_followed (line_log s w sound) (log_of w.past) w.followed guide (line_good s w sound)
      (past_good s w sound) (past_kept s w sound) (followed_kept s w sound) guides t what

  asked : (t : ℕ) (h : Hand) (what : What) → (thread_after w.past t).hand ≡ Some h
      → Follows guide t (entries t (log_of w.past) + 1) what → IsKindOf (s.meaning.next h.place) what
  asked t h what hand follows =
      let e = entry_of t (log_of w.past) what in
      let new = next_not_made (line_log s w sound) (log_of w.past) w.followed guide (line_good s w sound)
      (past_good s w sound) (past_kept s w sound) (followed_kept s w sound) guides t what in
      next_asked s w e h sound ((is_followed t what).1 follows, new) refl hand

  clock_what : (what : What) (a : ℕ) → IsKindOf move.Clock what → told what ≡ Some a → what ≡ Clock a
  clock_what what a (b, is) says =
      let same : Some b ≡ Some a = ap told (sym is) ∙ says in let number : b ≡ a = cc in is ∙ ap Clock number

  draw_what : (what : What) (a : ℕ) → IsKindOf move.Draw what → told what ≡ Some a → what ≡ Draw a
  draw_what what a (b, is) says =
      let same : Some b ≡ Some a = ap told (sym is) ∙ says in let number : b ≡ a = cc in is ∙ ap Draw number

  pub tells_clock : (t a : ℕ) (h : Hand) (given : Option ℕ) (clock : ℕ) → (thread_after w.past t).hand ≡ Some h
      → s.meaning.next h.place ≡ move.Clock → recorded (next_entry t) ≡ Some a
      → TellsClock w.followed (log_of w.past) t given clock a
  tells_clock t a h given clock hand next says =
      let e = recorded_entry (next_entry t) a says in
      let kind : IsKindOf move.Clock e.0.what =
      subst (λ (m : Move). IsKindOf m e.0.what) next (asked t h e.0.what hand (e.0, e.1, refl)) in
      let what = clock_what e.0.what a kind e.2 in
      inl ((is_followed t (Clock a)).1 (e.0, e.1, what))

  pub tells_draw : (t a : ℕ) (h : Hand) (given : Option ℕ) (words : ℕ → ℕ) (drawn : ℕ)
      → (thread_after w.past t).hand ≡ Some h → s.meaning.next h.place ≡ move.Draw → recorded (next_entry t) ≡ Some a
      → TellsDraw w.followed (log_of w.past) t given words drawn a drawn
  tells_draw t a h given words drawn hand next says =
      let e = recorded_entry (next_entry t) a says in
      let kind : IsKindOf move.Draw e.0.what =
      subst (λ (m : Move). IsKindOf m e.0.what) next (asked t h e.0.what hand (e.0, e.1, refl)) in
      let what = draw_what e.0.what a kind e.2 in
      inl ((is_followed t (Draw a)).1 (e.0, e.1, what), refl)

  free : (t b : ℕ) (what : What) → recorded (next_entry t) ≡ None → told what ≡ Some b
      → IsIn (entry_of t (log_of w.past) what) w.followed → ⊥
  free t b what none says here =
      let follows = (is_followed t what).0 here in
      not_recorded (next_entry t) follows.0 b none follows.1 (ap told follows.2 ∙ says)

  pub tells_free_clock : (t a : ℕ) (given : Option ℕ) (clock : ℕ) → recorded (next_entry t) ≡ None
      → (given ≡ Some a) ⊎ ((given ≡ None) × (a ≡ clock)) → TellsClock w.followed (log_of w.past) t given clock a
  tells_free_clock t a given clock none says = inr (λ b here. free t b (Clock b) none refl here, says)

  pub tells_free_draw : (t a : ℕ) (given : Option ℕ) (words : ℕ → ℕ) (drawn now : ℕ) → recorded (next_entry t) ≡ None
      → ((given ≡ Some a) × (now ≡ drawn)) ⊎ ((given ≡ None) × (a ≡ words drawn) × (now ≡ drawn + 1))
      → TellsDraw w.followed (log_of w.past) t given words drawn a now
  tells_free_draw t a given words drawn now none says = inr (λ b here. free t b (Draw b) none refl here, says)
