-- The moves that are noted are all moves of the run.
use Rattle.std.proofs.Common.{◌≡◌, ℕ, ◌∙◌, List, [], ◌∷◌, ◌++◌, length, refl, sym, ap, take, drop, Bool, true, false}
use Rattle.std.specs.Prelude.{◌&&◌, nat_le, if◌then◌else◌}
use Rattle.plain_machine.specs.History.{Step}
use Rattle.recovery_world.specs.declared.event.Event.{Event}
use Rattle.recovery_world.specs.declared.event.Outcome.{Outcome}
use Rattle.recovery_world.specs.World.{Setting, Sent, World as SystemWorld, opening}
use Rattle.recovery_laws.specs.Sound.{Sound}
use Rattle.recovery_laws.proofs.KeptWorlds.{any_sound, opening_sound}
use Rattle.made_moves.specs.declared.made.Made.{Made}
use Rattle.made_moves.specs.Made.{made_by, made_in}
use Rattle.run_drawing.specs.declared.note.Note.{Note}
use Rattle.run_drawing.specs.Noted.{Goes, Noted, Opens, kept_behind, made_behind, movers_behind, movers_in}
use Rattle.run_drawing.specs.Noted.{movers_noted, moves_noted, note_of}
use Rattle.run_drawing.specs.Picture.{are_short}
use Rattle.noted_runs.proofs.Growth.{any_shares, told_shared}

pub noted_sound : {V : Type 0} (s : Setting V) (events : List Event) (notes : List Note) (w : SystemWorld V)
    → Noted s events notes w → Sound s w
noted_sound s events notes w Opens = opening_sound s
noted_sound s events notes w (Goes {events = before} {notes = earlier} {w = there} ev to freed rest on) =
    any_sound s there (noted_sound s before earlier there rest) ev to freed w on

-- one note more

movers_more : (before : List ℕ) (notes : List Note) (n : Note)
    → movers_noted before (notes ++ n ∷ []) ≡ take n.kept (movers_noted before notes) ++ n.movers
movers_more before [] n = refl
movers_more before (m ∷ notes) n = movers_more (take m.kept before ++ m.movers) notes n

moves_more : (before : List Made) (notes : List Note) (n : Note)
    → moves_noted before (notes ++ n ∷ []) ≡ take n.kept (moves_noted before notes) ++ n.made
moves_more before [] n = refl
moves_more before (m ∷ notes) n = moves_more (take m.kept before ++ m.made) notes n

pub movers_all : {V : Type 0} (s : Setting V) (events : List Event) (notes : List Note) (w : SystemWorld V)
    → Noted s events notes w → movers_noted [] notes ≡ movers_in w.past
movers_all s events notes w Opens = refl
movers_all {V} s events notes w (Goes {events = before} {notes = earlier} {w = there} ev to freed rest on) =
    let stored = (noted_sound s before earlier there rest).firm.stored in
    let kept : ℕ = kept_behind to w in
    movers_more [] earlier (note_of ev to freed w)
    ∙ (ap (λ (l : List ℕ). take kept l ++ movers_behind to w) (movers_all s before earlier there rest)
    ∙ told_shared movers_in (λ (x : Step V). x.thread) refl (λ x p. refl) there.past w.past kept
    (any_shares s there ev to freed w stored on))

short_split : (notes : List Note) (n : Note) → are_short (notes ++ n ∷ []) ≡ true
    → (are_short notes ≡ true) × (nat_le n.moves 400 ≡ true)
short_split [] n short = (refl, by (nat_le n.moves 400) short)
  where
    by : (b : Bool) → (b && true) ≡ true → b ≡ true
    by true h = refl
    by false h = h
short_split (m ∷ notes) n short = by (nat_le m.moves 400) (short_split notes n) short
  where
    by : (b : Bool)
        → (are_short (notes ++ n ∷ []) ≡ true → (are_short notes ≡ true) × (nat_le n.moves 400 ≡ true))
        → (b && are_short (notes ++ n ∷ [])) ≡ true
        → ((b && are_short notes) ≡ true) × (nat_le n.moves 400 ≡ true)
    by true rest h = rest h
    by false rest h = absurd (cc)

pub moves_all : {V : Type 0} (s : Setting V) (events : List Event) (notes : List Note) (w : SystemWorld V)
    → Noted s events notes w → are_short notes ≡ true → moves_noted [] notes ≡ made_in w.past
moves_all s events notes w Opens short = refl
moves_all {V} s events notes w (Goes {events = before} {notes = earlier} {w = there} ev to freed rest on) short =
    let stored = (noted_sound s before earlier there rest).firm.stored in
    let kept : ℕ = kept_behind to w in
    let few = short_split earlier (note_of ev to freed w) short in
    moves_more [] earlier (note_of ev to freed w)
    ∙ (ap (λ (l : List Made). take kept l ++ made_behind to w) (moves_all s before earlier there rest few.0)
    ∙ (ap (λ (b : Bool). take kept (made_in there.past) ++ (if b then drop kept (made_in w.past) else [])) few.1
    ∙ told_shared made_in made_by refl (λ x p. refl) there.past w.past kept
    (any_shares s there ev to freed w stored on)))
