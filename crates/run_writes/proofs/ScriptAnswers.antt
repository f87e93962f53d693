-- The replies of a script, one by one, are its report and its released packets.
use Rattle.std.proofs.Common.{◌≡◌, ℕ, List, [], ◌∷◌, ◌++◌, drop, length, refl, sym, ap, ◌∙◌, append-nil, append_assoc}
use Rattle.std.proofs.Common.{subst}
use Rattle.std.proofs.Math.Seq.{drop-append_seam}
use Rattle.recovery_world.specs.declared.event.Event.{Event}
use Rattle.recovery_world.specs.declared.event.Outcome.{Outcome}
use Rattle.recovery_world.specs.World.{Setting, Sent, World as SystemWorld, opening}
use Rattle.recovery_world.specs.Many.{OnAny}
use Rattle.recovery_world.specs.Files.{Performs, Rests, Goes as GoesFirst, reply_line, packets_of}
use Rattle.recovery_laws.proofs.ReleasedOutputs.{Grows, any_grows}
use Rattle.run_writes.specs.Replies.{Reply, AnswersFrom, Answers, Opens, Goes, newly_released, released_in, lines_in}

-- one more event at the end
performs_more : {V : Type 0} (s : Setting V) (w mid new : SystemWorld V) (events : List Event) (lines : List ℕ)
    (ev : Event) (to : Outcome) (freed : List Sent) → Performs s w events lines mid → OnAny s mid ev to freed new
    → Performs s w (events ++ ev ∷ []) (lines ++ reply_line ev to freed) new
performs_more s w mid new events lines ev to freed (Rests same) on =
    subst (λ (l : List ℕ). Performs s w (ev ∷ []) l new) (append-nil (reply_line ev to freed))
    (GoesFirst ev to freed on (Rests new))
performs_more s w mid new events lines ev to freed
    (GoesFirst {mid = next} {events = rest} {lines = more} first came out one others) on =
    subst (λ (l : List ℕ). Performs s w (first ∷ (rest ++ ev ∷ [])) l new)
    (sym (append_assoc (reply_line first came out) more (reply_line ev to freed)))
    (GoesFirst first came out one (performs_more s next mid new rest more ev to freed others on))

lines_more : (replies : List Reply) (r : Reply) → lines_in (replies ++ r ∷ []) ≡ lines_in replies ++ r.line
lines_more [] r = append-nil r.line
lines_more (x ∷ replies) r =
    ap (λ l. x.line ++ l) (lines_more replies r) ∙ sym (append_assoc x.line (lines_in replies) r.line)

pub released_more : (replies : List Reply) (r : Reply)
    → released_in (replies ++ r ∷ []) ≡ released_in replies ++ r.released
released_more [] r = append-nil r.released
released_more (x ∷ replies) r =
    ap (λ l. x.released ++ l) (released_more replies r) ∙ sym (append_assoc x.released (released_in replies) r.released)

pub answers_perform : {V : Type 0} {from : SystemWorld V} (s : Setting V) (events : List Event) (replies : List Reply)
    (w : SystemWorld V) → AnswersFrom s from events replies w → Performs s from events (lines_in replies) w
answers_perform {V} {from} s events replies w Opens = Rests from
answers_perform {V} {from} s events replies w
    (Goes {events = before} {replies = earlier} {w = mid} ev to freed rest on) =
    let r : Reply = record { released = newly_released mid w; line = reply_line ev to freed } in
    subst (λ (l : List ℕ). Performs s from (before ++ ev ∷ []) l w) (sym (lines_more earlier r)) (performs_more s from
    mid w before (lines_in earlier) ev to freed (answers_perform s before earlier mid rest) on)

-- events, and then more of them
pub answers_then : {V : Type 0} (s : Setting V) (from mid : SystemWorld V) (events rest : List Event)
    (replies more : List Reply) (w : SystemWorld V) → AnswersFrom s from events replies mid
    → AnswersFrom s mid rest more w → AnswersFrom s from (events ++ rest) (replies ++ more) w
answers_then s from mid events rest replies more w first Opens =
    subst (λ (l : List Reply). AnswersFrom s from (events ++ []) l mid) (sym (append-nil replies))
    (subst (λ (l : List Event). AnswersFrom s from l replies mid) (sym (append-nil events)) first)
answers_then s from mid events rest replies more w first
    (Goes {events = before} {replies = earlier} {w = last} ev to freed others on) =
    let r : Reply = record { released = newly_released last w; line = reply_line ev to freed } in
    subst (λ (l : List Reply). AnswersFrom s from (events ++ (before ++ ev ∷ [])) l w)
    (append_assoc replies earlier (r ∷ []))
    (subst (λ (l : List Event). AnswersFrom s from l ((replies ++ earlier) ++ r ∷ []) w)
    (append_assoc events before (ev ∷ []))
    (Goes ev to freed (answers_then s from mid events before replies earlier last first others) on))

packets_more : (first more : List Sent) → packets_of (first ++ more) ≡ packets_of first ++ packets_of more
packets_more [] more = refl
packets_more (o ∷ first) more = ap (λ l. o.emission.packet ∷ l) (packets_more first more)

-- what was released before, and what was newly released
pub released_then : {V : Type 0} (w new : SystemWorld V) → Grows w new
    → packets_of new.released ≡ packets_of w.released ++ newly_released w new
released_then w new grows =
    let rest : drop (length w.released) new.released ≡ grows.0 =
    ap (drop (length w.released)) grows.1 ∙ drop-append_seam w.released grows.0 in
    ap packets_of grows.1
    ∙ packets_more w.released grows.0
    ∙ ap (λ (l : List Sent). packets_of w.released ++ packets_of l) (sym rest)

-- what was released before, and what the events released
pub answers_release_more : {V : Type 0} (s : Setting V) (from : SystemWorld V) (events : List Event)
    (replies : List Reply) (w : SystemWorld V) → AnswersFrom s from events replies w
    → packets_of w.released ≡ packets_of from.released ++ released_in replies
answers_release_more s from events replies w Opens = sym (append-nil (packets_of from.released))
answers_release_more s from events replies w
    (Goes {events = before} {replies = earlier} {w = mid} ev to freed rest on) =
    let r : Reply = record { released = newly_released mid w; line = reply_line ev to freed } in
    released_then mid w (any_grows s mid ev to freed w on)
    ∙ ap (λ l. l ++ newly_released mid w) (answers_release_more s from before earlier mid rest)
    ∙ append_assoc (packets_of from.released) (released_in earlier) (newly_released mid w)
    ∙ ap (λ l. packets_of from.released ++ l) (sym (released_more earlier r))

pub answers_release : {V : Type 0} (s : Setting V) (events : List Event) (replies : List Reply) (w : SystemWorld V)
    → Answers s events replies w → packets_of w.released ≡ released_in replies
answers_release {V} s events replies w answers = answers_release_more s (opening V) events replies w answers

pub lines_join : (replies more : List Reply) → lines_in (replies ++ more) ≡ lines_in replies ++ lines_in more
lines_join [] more = refl
lines_join (x ∷ replies) more =
    ap (λ l. x.line ++ l) (lines_join replies more) ∙ sym (append_assoc x.line (lines_in replies) (lines_in more))

pub released_join : (replies more : List Reply)
    → released_in (replies ++ more) ≡ released_in replies ++ released_in more
released_join [] more = refl
released_join (x ∷ replies) more =
    ap (λ l. x.released ++ l) (released_join replies more)
    ∙ sym (append_assoc x.released (released_in replies) (released_in more))
