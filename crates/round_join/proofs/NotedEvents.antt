-- Events that come to what is noted of them are performed.
use Rattle.std.proofs.Common.{◌≡◌, ℕ, List, [], ◌∷◌, ◌++◌, append_assoc, refl, sym, ap, ◌∙◌, subst}
use Rattle.std.proofs.lemmas.List.{map-append}
use Rattle.recovery_world.specs.World.{Setting, World}
use Rattle.recovery_world.specs.declared.event.Event.{Event}
use Rattle.recovery_world.specs.declared.event.Outcome.{Outcome}
use Rattle.recovery_world.specs.Limits.{OnWithin}
use Rattle.recovery_world.specs.Many.{Single}
use Rattle.recovery_world.specs.Files.{Performs, Rests, Goes as Performed, reply_line}
use Rattle.round_join.specs.declared.noting.Noted.{Noted}
use Rattle.round_join.specs.Racing.{PerformsNoted, NoneNoted, OneMore, NotedPerform, event_noted, events_noted}
use Rattle.round_join.specs.Racing.{lines_noted}

-- one more event at the end
performs_more : {V : Type 0} (s : Setting V) (w mid new : World V) (events : List Event) (lines : List ℕ) (ev : Event)
    (to : Outcome) → Performs s w events lines mid → OnWithin s mid ev to [] new
    → Performs s w (events ++ ev ∷ []) (lines ++ (reply_line ev to [] ++ [])) new
performs_more {V} s w mid new events lines ev to (Rests same) on =
    Performed ev to [] (Single ev to [] new on) (Rests new)
performs_more {V} s w mid new events lines ev to
    (Performed {mid = there} {events = es} {lines = ls} first first_to freed first_on rest) on =
    subst (λ (l : List ℕ). Performs s w (first ∷ (es ++ ev ∷ [])) l new)
    (sym (append_assoc (reply_line first first_to freed) ls (reply_line ev to [] ++ [])))
    (Performed first first_to freed first_on (performs_more s there mid new es ls ev to rest on))

lines_more : (noted : List Noted) (n : Noted)
    → lines_noted (noted ++ n ∷ []) ≡ lines_noted noted ++ (reply_line (event_noted n) n.outcome [] ++ [])
lines_more [] n = refl
lines_more (x ∷ noted) n =
    ap (λ (l : List ℕ). reply_line (event_noted x) x.outcome [] ++ l) (lines_more noted n)
    ∙ sym (append_assoc (reply_line (event_noted x) x.outcome []) (lines_noted noted)
    (reply_line (event_noted n) n.outcome [] ++ []))

pub events_more : (noted : List Noted) (n : Noted)
    → events_noted (noted ++ n ∷ []) ≡ events_noted noted ++ event_noted n ∷ []
events_more noted n = map-append event_noted noted (n ∷ [])

one_performed : {V : Type 0} (s : Setting V) (w mid new : World V) (noted : List Noted) (n : Noted)
    → Performs s w (events_noted noted) (lines_noted noted) mid → OnWithin s mid (event_noted n) n.outcome [] new
    → Performs s w (events_noted (noted ++ n ∷ [])) (lines_noted (noted ++ n ∷ [])) new
one_performed {V} s w mid new noted n performs on =
    subst (λ (l : List ℕ). Performs s w (events_noted (noted ++ n ∷ [])) l new) (sym (lines_more noted n))
    (subst (λ (l : List Event).
    Performs s w l (lines_noted noted ++ (reply_line (event_noted n) n.outcome [] ++ [])) new)
    (sym (events_more noted n))
    (performs_more s w mid new (events_noted noted) (lines_noted noted) (event_noted n) n.outcome performs on))

pub noted_perform : {V : Type 0} → NotedPerform V
noted_perform {V} s w noted new NoneNoted = Rests w
noted_perform {V} s w _ new (OneMore {noted} {mid} n before on) =
    one_performed s w mid new noted n (noted_perform s w noted mid before) on
