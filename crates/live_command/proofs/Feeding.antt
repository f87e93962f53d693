-- The first events of a settling: the master is up, and the rest of the capture is fed.
use Rattle.std.proofs.Common.{◌≡◌, ℕ, ◌-◌, List, [], ◌∷◌, ◌++◌, drop, length, refl, sym, ap, ◌∙◌, true, false}
use Rattle.std.proofs.Common.{subst, inl, inr, Result, Ok, Err, None, length-drop, append_assoc}
use Rattle.plain_machine.specs.Program.{Meaning}
use Rattle.world_io.specs.World.{Shown}
use Rattle.recovery_world.specs.declared.event.Event.{Event}
use Rattle.recovery_world.specs.declared.event.Event.TheVariants as event
use Rattle.recovery_world.specs.declared.event.Outcome.{Outcome}
use Rattle.recovery_world.specs.Events.{On, OnRecover}
use Rattle.recovery_world.specs.Files.{Goes, Rests}
use Rattle.recovery_world.specs.Many.{OnAny, Several, Single, begins}
use Rattle.recovery_world.specs.World.{Setting, Sent, World as SystemWorld}
use Rattle.run_command.specs.FromRecoveryCore.{Systemed}
use Rattle.run_writes.specs.declared.error.RunError.{RunError}
use Rattle.std.specs.Prelude.{OnOk}
use Rattle.run_command.specs.Running.{IsSomewhere, IsSystemAt}
use Rattle.plan_script.specs.Rounds.{Does}
use Rattle.plan_script.specs.Scripts.{feeding}
use Rattle.plan_script.proofs.Performing.{does_append}
use Rattle.live_writes.specs.Outputs.{LiveOutputs}
use Rattle.live_writes.specs.Script.{Scripted}
use Rattle.live_command.specs.Going.{GoesFed, GoesOver, MovesBy}
use Rattle.live_command.proofs.EventsGone.{fails_same, first_behind, first_longer, lived_same}

on_recover : {V : Type 0} (w new : SystemWorld V) (to : Outcome) → OnRecover w to new
    → (new.up ≡ true) × (new.fed ≡ w.fed)
on_recover {V} w new to (inl (up, told, same)) =
    (ap (λ (z : SystemWorld V). z.up) same ∙ up, ap (λ (z : SystemWorld V). z.fed) same)
on_recover {V} w new to (inr h) = (
  ap (λ (z : SystemWorld V). z.up) h.1.new_is,
  ap (λ (z : SystemWorld V). z.fed) h.1.new_is,
)

any_recover : {V : Type 0} (s : Setting V) (w new : SystemWorld V) (ev : Event) (to : Outcome) (freed : List Sent)
    → ev ≡ event.Recover → OnAny s w ev to freed new → (new.up ≡ true) × (new.fed ≡ w.fed)
any_recover s w new ev to freed is (Single e o f n on) =
    let on_it = subst (λ (x : Event). On s w x to freed new) is on.0 in on_recover w new to on_it.0
any_recover s w new ev to freed is (Several e q o n at f same) =
    let j : begins s w ev ≡ None = ap (λ (x : Event). begins s w x) is in absurd (cc)

any_feed : {V : Type 0} (s : Setting V) (w new : SystemWorld V) (n : ℕ) (ev : Event) (to : Outcome)
    (freed : List Sent) → ev ≡ event.Feed n → OnAny s w ev to freed new → new.up ≡ w.up
any_feed {V} s w new n ev to freed is (Single e o f k on) =
    let on_it = subst (λ (x : Event). On s w x to freed new) is on.0 in
    ap (λ (z : SystemWorld V). z.up) on_it.2
any_feed s w new n ev to freed is (Several e q o k at f same) =
    let j : begins s w ev ≡ None = ap (λ (x : Event). begins s w x) is in absurd (cc)

-- a recovery leaves the master up
pub does_recover : {V : Type 0} (s : Setting V) (w new : SystemWorld V) → Does s w (event.Recover ∷ []) new
    → (new.up ≡ true) × (new.fed ≡ w.fed)
does_recover s w new (lines, (Goes ev to freed on (Rests end))) = any_recover s w end ev to freed refl on

-- a feed keeps it
pub does_feed : {V : Type 0} (s : Setting V) (w new : SystemWorld V) (n : ℕ) → Does s w (event.Feed n ∷ []) new
    → new.up ≡ w.up
does_feed s w new n (lines, (Goes ev to freed on (Rests end))) = any_feed s w end n ev to freed refl on

-- The same of the system, whatever world it is at.

pub up_woken : {P V : Type 0} (m : Meaning V) (y z : Systemed P V) → MovesBy m (event.Recover ∷ []) y z
    → (s : Setting V) (w : SystemWorld V) → IsSystemAt m s w y → z.parts.up ≡ true
up_woken m y z moves s w at =
    let came = moves s w at in
    came.2.stands.parts.master.up ∙ (does_recover s w came.0 came.1).0

pub up_fed : {P V : Type 0} (m : Meaning V) (y z : Systemed P V) (n : ℕ) → MovesBy m (event.Feed n ∷ []) y z
    → (s : Setting V) (w : SystemWorld V) → IsSystemAt m s w y → y.parts.up ≡ true → z.parts.up ≡ true
up_fed m y z n moves s w at up =
    let came = moves s w at in
    came.2.stands.parts.master.up ∙ does_feed s w came.0 n came.1 ∙ sym at.stands.parts.master.up ∙ up

-- where the feed ended, a master that was up is up
pub ok_up_fed : {A E P V : Type 0} (r : Result A E) (m : Meaning V) (y z : Systemed P V) (n : ℕ)
    → OnOk r (MovesBy m (event.Feed n ∷ []) y z) → IsSomewhere m y → y.parts.up ≡ true → OnOk r (z.parts.up ≡ true)
ok_up_fed (Ok done) m y z n moves here up = up_fed m y z n moves here.0 here.1 here.2 up
ok_up_fed (Err e) m y z n moves here up = tt

module _ {A P V : Type 0} (m : Meaning V) (s : Setting V) (names : LiveOutputs) (w : SystemWorld V)
    (events : List Event) (old : Shown) where
  -- the rest of the capture was fed to a master that is up
  pub fed_awake : (r : Result A RunError) (n : ℕ) (z : Systemed P V) (lines : List ℕ) (x : Scripted) (now : Shown)
      → n ≡ length (drop w.fed s.packets) → w.up ≡ true
      → GoesOver r m s names w events (event.Feed n ∷ []) z lines x old now
      → GoesFed r m s names w events z lines x old now
  fed_awake r n z lines x now left up h = go r (subst over (left ∙ length-drop w.fed s.packets) h)
    where
      over : ℕ → Type 0
      over k = GoesOver r m s names w events (event.Feed k ∷ []) z lines x old now

      go : (r : Result A RunError)
          → GoesOver r m s names w events (feeding s w []) z lines x old now
          → GoesFed r m s names w events z lines x old now
      go (Ok done) (next, does, lived) = ([], next, inl (up, refl), does, does_feed s w next _ does ∙ up, lived)
      go (Err e) (begun, is, fails) = ([], begun, inl (up, refl), is, fails)

  -- the same of one that recovered
  pub fed_woken : (r : Result A RunError) (n : ℕ) (mid : SystemWorld V) (z : Systemed P V) (lines : List ℕ)
      (x : Scripted) (now : Shown) → n ≡ length (drop w.fed s.packets) → w.up ≡ false
      → Does s w (event.Recover ∷ []) mid
      → GoesOver r m s names mid (events ++ event.Recover ∷ []) (event.Feed n ∷ []) z lines x old now
      → GoesFed r m s names w events z lines x old now
  fed_woken r n mid z lines x now left down woken h =
      go r (subst over (left ∙ length-drop w.fed s.packets) h)
    where
      rest : ℕ
      rest = length s.packets - w.fed

      over : ℕ → Type 0
      over k = GoesOver r m s names mid (events ++ event.Recover ∷ []) (event.Feed k ∷ []) z lines x old now

      up : (next : SystemWorld V) → Does s mid (event.Feed rest ∷ []) next → next.up ≡ true
      up next does = does_feed s mid next rest does ∙ (does_recover s w mid woken).0

      go : (r : Result A RunError)
          → GoesOver r m s names mid (events ++ event.Recover ∷ []) (event.Feed rest ∷ []) z lines x old now
          → GoesFed r m s names w events z lines x old now
      go (Ok done) (next, does, lived) = (
        event.Recover ∷ [],
        next,
        inr (down, refl),
        does_append s w mid next (event.Recover ∷ []) (event.Feed rest ∷ []) woken does,
        up next does,
        lived_same m m s names ((events ++ event.Recover ∷ []) ++ event.Feed rest ∷ [])
            (events ++ (event.Recover ∷ event.Feed rest ∷ [])) next z lines x old now refl
            (append_assoc events (event.Recover ∷ []) (event.Feed rest ∷ [])) lived,
      )
      go (Err e) (begun, is, fails) = (
        event.Recover ∷ [],
        event.Recover ∷ begun,
        inr (down, refl),
        first_behind (event.Recover ∷ []) (event.Feed rest ∷ []) begun is,
        fails_same e s names ((events ++ event.Recover ∷ []) ++ begun) (events ++ (event.Recover ∷ begun)) old now
            (append_assoc events (event.Recover ∷ []) begun) fails,
      )

-- it did not recover
pub not_woken : (A B : Type 0) {P V : Type 0} (m : Meaning V) (s : Setting V) (names : LiveOutputs)
    (w : SystemWorld V) (events : List Event) (old : Shown) (e : RunError) (z : Systemed P V) (lines : List ℕ)
    (x : Scripted) (now : Shown) → w.up ≡ false
    → GoesOver {A = A} (Err e) m s names w events (event.Recover ∷ []) z lines x old now
    → GoesFed {A = B} (Err e) m s names w events z lines x old now
not_woken A B m s names w events old e z lines x now down (begun, is, fails) = (
  event.Recover ∷ [],
  begun,
  inr (down, refl),
  first_longer (event.Recover ∷ []) (event.Feed (length s.packets - w.fed) ∷ []) begun is,
  fails,
)
