-- The steps of a round are told, one after another.
use Rattle.std.proofs.Common.{◌≡◌, ℕ, ◌<◌, List, [], ◌∷◌, ◌++◌, take, drop, length, refl, sym, ap, ◌∙◌, subst, inl}
use Rattle.std.proofs.Common.{inr, append_assoc, Result, Ok, Err, Option, zero, suc, arith, ◌≤◌, get_or}
use Rattle.std.specs.Prelude.{⊤}
use Rattle.std.proofs.lemmas.List.{drop_all}
use Rattle.world_io.specs.World.{Shown}
use Rattle.recovery_world.specs.declared.event.Event.{Event}
use Rattle.recovery_world.specs.declared.event.Outcome.{Outcome}
use Rattle.recovery_world.specs.World.{Setting, Sent, World as SystemWorld}
use Rattle.recovery_world.specs.Events.{OnStep}
use Rattle.recovery_world.specs.Limits.{OnWithin}
use Rattle.recovery_world.specs.Many.{Single}
use Rattle.recovery_world.specs.Files.{packets_of, reply_line}
use Rattle.output_files.specs.declared.error.OutputError.{OutputError}
use Rattle.output_files.specs.declared.error.OutputError.TheVariants as output
use Rattle.run_writes.specs.declared.error.RunError.{RunError}
use Rattle.run_writes.specs.Errors.{run_result_of}
use Rattle.live_workers.specs.FromRoundJoin.{Noted}
use Rattle.live_workers.specs.FromRoundJoin.{PerformsNoted, NoneNoted, OneMore, event_noted, events_noted}
use Rattle.plan_script.specs.Begun.{AreFirstOf}
use Rattle.live_writes.specs.Outputs.{LiveOutputs}
use Rattle.live_writes.specs.Script.{Scripted}
use Rattle.live_writes.specs.Told.{FailsLive, HasTold}
use Rattle.live_command.specs.Going.{NotesOver}
use Rattle.live_command.specs.Writing.{IsQuiet, Keeps}

-- a step releases nothing
step_releases : {V : Type 0} (s : Setting V) (w new : SystemWorld V) (t : ℕ) (given : Option ℕ) (to : Outcome)
    → OnStep s w t given to new → new.released ≡ w.released
step_releases {V} s w new t given to (inl a) = ap (λ (z : SystemWorld V). z.released) a.2
step_releases {V} s w new t given to (inr (inl a)) = ap (λ (z : SystemWorld V). z.released) a.3
step_releases {V} s w new t given to (inr (inr (inl a))) = ap (λ (z : SystemWorld V). z.released) a.4
step_releases {V} s w new t given to (inr (inr (inr (inl a)))) = ap (λ (z : SystemWorld V). z.released) a.3
step_releases {V} s w new t given to (inr (inr (inr (inr a)))) = ap (λ (z : SystemWorld V). z.released) a.2.new_is

pub step_quiet : {V : Type 0} (s : Setting V) (w next : SystemWorld V) (n : Noted) (line : List ℕ)
    → line ≡ reply_line (event_noted n) n.outcome [] → OnWithin s w (event_noted n) n.outcome [] next
    → IsQuiet s w (event_noted n) line next
step_quiet s w next n line is on = record {
  to = n.outcome;
  freed = [];
  on = Single (event_noted n) n.outcome [] next on;
  line_is = is;
  none =
      ap (λ (l : List Sent). packets_of (drop (length w.released) l))
      (step_releases s w next n.thread n.answer n.outcome on.0.0)
      ∙ ap packets_of (drop_all (length w.released) w.released (omega arith));
}

-- what the calls answer

pub note_kept : {V : Type 0} (files : Result ⊤ OutputError) (r : Result ⊤ RunError) (s : Setting V)
    (names : LiveOutputs) (events : List Event) (ev : Event) (next : SystemWorld V) (lines : List ℕ) (x : Scripted)
    (old now : Shown) → r ≡ run_result_of files
    → Keeps files s names (events ++ ev ∷ []) (events ++ ev ∷ []) next lines x old now
    → NotesOver r s names events (ev ∷ []) next lines x old now
note_kept files r s names events ev next lines x old now is k =
    subst (λ (z : Result ⊤ RunError). NotesOver z s names events (ev ∷ []) next lines x old now) (sym is) (go files k)
  where
    go : (files : Result ⊤ OutputError)
        → Keeps files s names (events ++ ev ∷ []) (events ++ ev ∷ []) next lines x old now
        → NotesOver (run_result_of files) s names events (ev ∷ []) next lines x old now
    go (Ok done) k = k
    go (Err output.WriteFault) k = (ev ∷ [], ([], refl), k)
    go (Err output.NoMemory) k = (ev ∷ [], ([], refl), k)

pub note_failed : {A V : Type 0} (r : Result A RunError) (e : RunError) (s : Setting V) (names : LiveOutputs)
    (events part first : List Event) (there : SystemWorld V) (lines : List ℕ) (x : Scripted) (old now : Shown)
    → r ≡ Err e → AreFirstOf part first → FailsLive e s names (events ++ first) old now
    → NotesOver r s names events part there lines x old now
note_failed {A} r e s names events part first there lines x old now is firsts h =
    subst (λ (z : Result A RunError). NotesOver z s names events part there lines x old now) (sym is) (first, firsts, h)

-- Steps from the first on

abbrev pub PerformsFrom : {V : Type 0} → Setting V → SystemWorld V → List Noted → SystemWorld V → Type 0
PerformsFrom s w [] there = there ≡ w
PerformsFrom {V} s w (n ∷ rest) there =
    (next : SystemWorld V) × OnWithin s w (event_noted n) n.outcome [] next × PerformsFrom s next rest there

from_more : {V : Type 0} (s : Setting V) (w mid new : SystemWorld V) (first : List Noted) (n : Noted)
    → PerformsFrom s w first mid → OnWithin s mid (event_noted n) n.outcome [] new
    → PerformsFrom s w (first ++ n ∷ []) new
from_more {V} s w mid new [] n same on =
    (new, subst (λ (z : SystemWorld V). OnWithin s z (event_noted n) n.outcome [] new) same on, refl)
from_more s w mid new (x ∷ first) n (next, one, rest) on = (next, one, from_more s next mid new first n rest on)

pub from_first : {V : Type 0} (s : Setting V) (w there : SystemWorld V) (noted : List Noted)
    → PerformsNoted s w noted there → PerformsFrom s w noted there
from_first s w there _ NoneNoted = refl
from_first s w there _ (OneMore {noted} {mid} n before on) =
    from_more s w mid there noted n (from_first s w mid noted before) on

-- One more step

any_item : (l : List Noted) (i : ℕ) (d e : Noted) → i < length l → get_or l i d ≡ get_or l i e
any_item [] i d e low = absurd (omega (arith, low))
any_item (y ∷ l) zero d e low = refl
any_item (y ∷ l) (suc i) d e low = any_item l i d e (omega (arith, low))

pub step_on : {V : Type 0} (s : Setting V) (w there : SystemWorld V) (steps : List Noted) (i : ℕ) (x : Noted)
    → i < length steps → x ≡ get_or steps i x → PerformsFrom s w (drop i steps) there
    → (next : SystemWorld V) × OnWithin s w (event_noted x) x.outcome [] next
    × PerformsFrom s next (drop (suc i) steps) there
step_on s w there [] i x low is from = absurd (omega (arith, low))
step_on {V} s w there (y ∷ steps) zero x low is (next, on, rest) =
    (next, subst (λ (z : Noted). OnWithin s w (event_noted z) z.outcome [] next) (sym is) on, rest)
step_on s w there (y ∷ steps) (suc i) x low is from = step_on s w there steps i x (omega (arith, low)) is from

pub noted_take : (steps : List Noted) (i : ℕ) (x : Noted) → i < length steps → x ≡ get_or steps i x
    → events_noted (take (suc i) steps) ≡ events_noted (take i steps) ++ event_noted x ∷ []
noted_take [] i x low is = absurd (omega (arith, low))
noted_take (y ∷ steps) zero x low is = ap (λ (z : Noted). event_noted z ∷ []) (sym is)
noted_take (y ∷ steps) (suc i) x low is =
    ap (λ (l : List Event). event_noted y ∷ l) (noted_take steps i x (omega (arith, low)) is)

-- the first events up to a part of one step
pub first_noted : (steps : List Noted) (i : ℕ) (x : Noted) (first : List Event) → i < length steps
    → x ≡ get_or steps i x → AreFirstOf (event_noted x ∷ []) first
    → AreFirstOf (events_noted steps) (events_noted (take i steps) ++ first)
first_noted [] i x first low is firsts = absurd (omega (arith, low))
first_noted (y ∷ steps) zero x first low is (rest, split) = (
  rest ++ events_noted steps,
  ap (λ (z : Noted). event_noted z ∷ events_noted steps) (sym is)
      ∙ ap (λ (l : List Event). l ++ events_noted steps) split
      ∙ append_assoc first rest (events_noted steps),
)
first_noted (y ∷ steps) (suc i) x first low is firsts =
    let k = first_noted steps i x first (omega (arith, low)) is firsts in
    (k.0, ap (λ (l : List Event). event_noted y ∷ l) k.1)

pub same_noted : (steps : List Noted) (i : ℕ) (d : Noted) → i < length steps
    → get_or steps i d ≡ get_or steps i (get_or steps i d)
same_noted steps i d low = any_item steps i d (get_or steps i d) low

take_whole : (n : ℕ) (steps : List Noted) → length steps ≤ n → take n steps ≡ steps
take_whole zero [] low = refl
take_whole zero (y ∷ steps) low = absurd (omega (arith, low))
take_whole (suc n) [] low = refl
take_whole (suc n) (y ∷ steps) low = ap (λ (l : List Noted). y ∷ l) (take_whole n steps (omega (arith, low)))

drop_whole : (n : ℕ) (steps : List Noted) → length steps ≤ n → drop n steps ≡ []
drop_whole zero [] low = refl
drop_whole zero (y ∷ steps) low = absurd (omega (arith, low))
drop_whole (suc n) [] low = refl
drop_whole (suc n) (y ∷ steps) low = drop_whole n steps (omega (arith, low))

-- behind the last step
pub all_told : {V : Type 0} (s : Setting V) (names : LiveOutputs) (events : List Event) (steps : List Noted) (n : ℕ)
    (mid there : SystemWorld V) (lines : List ℕ) (x : Scripted) (old now : Shown) → length steps ≤ n
    → HasTold s names (events ++ events_noted (take n steps)) (events ++ events_noted (take n steps)) mid lines x
    old now → PerformsFrom s mid (drop n steps) there
    → HasTold s names (events ++ events_noted steps) (events ++ events_noted steps) there lines x old now
all_told {V} s names events steps n mid there lines x old now low h from =
    let end : there ≡ mid =
    subst (λ (l : List Noted). PerformsFrom s mid l there) (drop_whole n steps low) from in
    subst (λ (z : SystemWorld V).
    HasTold s names (events ++ events_noted steps) (events ++ events_noted steps) z lines x old now) (sym end)
    (subst
    (λ (l : List Noted). HasTold s names (events ++ events_noted l) (events ++ events_noted l) mid lines x old now)
    (take_whole n steps low) h)
