-- The replies of a chain, one by one, are its report and what both systems released.
use Rattle.std.proofs.Common.{◌≡◌, ℕ, List, [], ◌∷◌, ◌++◌, refl, sym, ap, ◌∙◌, append-nil, append_assoc, subst, inl}
use Rattle.std.proofs.Common.{inr}
use Rattle.plain_text.specs.declared.limit.Limit.{Limit}
use Rattle.recovery_world.specs.declared.event.Outcome.{Outcome}
use Rattle.recovery_world.specs.World.{Setting, Sent, World as SystemWorld}
use Rattle.recovery_world.specs.Files.{packets_of}
use Rattle.recovery_laws.proofs.ReleasedOutputs.{Grows, any_grows, stops_grow}
use Rattle.run_writes.specs.Replies.{newly_released}
use Rattle.run_writes.proofs.ScriptAnswers.{released_then}
use Rattle.chain_world.specs.declared.chain_event.ChainEvent.{ChainEvent}
use Rattle.chain_world.specs.Chain.{Chained, chain_opening, behind, chain_line, OnChain, StopsChain, PerformsChain}
use Rattle.chain_world.specs.Chain.{ChainRests, ChainGoes}
use Rattle.chain_command.specs.Replies.{ChainReply, ChainAnswers, ChainOpens, ChainAdds, reply_of, middle_in}
use Rattle.chain_command.specs.Replies.{released_in}
use Rattle.chain_command.specs.Replies.{lines_in}
use Rattle.chain_command.proofs.Going.{middle_more, released_more}

-- one more event at the end
performs_more : {V U : Type 0} (s : Setting V) (r : Setting U) (c mid new : Chained V U) (events : List ChainEvent)
    (lines : List ℕ) (ev : ChainEvent) (to : Outcome) (freed : List Sent) → PerformsChain s r c events lines mid
    → OnChain s r mid ev to freed new
    → PerformsChain s r c (events ++ ev ∷ []) (lines ++ chain_line ev to freed) new
performs_more s r c mid new events lines ev to freed (ChainRests same) on =
    subst (λ (l : List ℕ). PerformsChain s r c (ev ∷ []) l new) (append-nil (chain_line ev to freed))
    (ChainGoes ev to freed on (ChainRests new))
performs_more s r c mid new events lines ev to freed
    (ChainGoes {mid = next} {events = rest} {lines = more} first came out one others) on =
    subst (λ (l : List ℕ). PerformsChain s r c (first ∷ (rest ++ ev ∷ [])) l new)
    (sym (append_assoc (chain_line first came out) more (chain_line ev to freed)))
    (ChainGoes first came out one (performs_more s r next mid new rest more ev to freed others on))

lines_more : (replies : List ChainReply) (x : ChainReply) → lines_in (replies ++ x ∷ []) ≡ lines_in replies ++ x.line
lines_more [] x = append-nil x.line
lines_more (y ∷ replies) x =
    ap (λ l. y.line ++ l) (lines_more replies x) ∙ sym (append_assoc y.line (lines_in replies) x.line)

pub answers_perform : {V U : Type 0} (s : Setting V) (r : Setting U) (events : List ChainEvent)
    (replies : List ChainReply) (c : Chained V U) → ChainAnswers s r events replies c
    → PerformsChain s r (chain_opening V U) events (lines_in replies) c
answers_perform {V} {U} s r events replies c ChainOpens = ChainRests (chain_opening V U)
answers_perform {V} {U} s r events replies c
    (ChainAdds {events = before} {replies = earlier} {c = mid} ev to freed rest on) =
    subst (λ (l : List ℕ). PerformsChain s r (chain_opening V U) (before ++ ev ∷ []) l c)
    (sym (lines_more earlier (reply_of mid c ev to freed)))
    (performs_more s r (chain_opening V U) mid c before (lines_in earlier) ev to freed
    (answers_perform s r before earlier mid rest) on)

-- what was released stays

stays : {V : Type 0} (w new : SystemWorld V) → new ≡ w → Grows w new
stays {V} w new same = ([], ap (λ (z : SystemWorld V). z.released) same ∙ sym (append-nil w.released))

first_grows : {V U : Type 0} (s : Setting V) (r : Setting U) (c new : Chained V U) (ev : ChainEvent) (to : Outcome)
    (freed : List Sent) → OnChain s r c ev to freed new → Grows c.first new.first
first_grows s r c new ev to freed (inl (one, on, same)) = any_grows s c.first ev.event to freed new.first on
first_grows s r c new ev to freed (inr (two, on, same)) = stays c.first new.first same

second_grows : {V U : Type 0} (s : Setting V) (r : Setting U) (c new : Chained V U) (ev : ChainEvent) (to : Outcome)
    (freed : List Sent) → OnChain s r c ev to freed new → Grows c.second new.second
second_grows s r c new ev to freed (inl (one, on, same)) = stays c.second new.second same
second_grows s r c new ev to freed (inr (two, on, same)) =
    any_grows (behind r c.first) c.second ev.event to freed new.second on

pub first_stops : {V U : Type 0} (s : Setting V) (r : Setting U) (c new : Chained V U) (ev : ChainEvent) (limit : Limit)
    → StopsChain s r c ev limit new → Grows c.first new.first
first_stops s r c new ev limit (inl (one, stops, same)) = stops_grow s c.first ev.event limit new.first stops
first_stops s r c new ev limit (inr (two, stops, same)) = stays c.first new.first same

pub second_stops : {V U : Type 0} (s : Setting V) (r : Setting U) (c new : Chained V U) (ev : ChainEvent)
    (limit : Limit) → StopsChain s r c ev limit new → Grows c.second new.second
second_stops s r c new ev limit (inl (one, stops, same)) = stays c.second new.second same
second_stops s r c new ev limit (inr (two, stops, same)) =
    stops_grow (behind r c.first) c.second ev.event limit new.second stops

pub answers_middle : {V U : Type 0} (s : Setting V) (r : Setting U) (events : List ChainEvent)
    (replies : List ChainReply) (c : Chained V U) → ChainAnswers s r events replies c
    → packets_of c.first.released ≡ middle_in replies
answers_middle s r events replies c ChainOpens = refl
answers_middle s r events replies c
    (ChainAdds {events = before} {replies = earlier} {c = mid} ev to freed rest on) =
    released_then mid.first c.first (first_grows s r mid c ev to freed on)
    ∙ ap (λ l. l ++ newly_released mid.first c.first) (answers_middle s r before earlier mid rest)
    ∙ sym (middle_more earlier (reply_of mid c ev to freed))

pub answers_release : {V U : Type 0} (s : Setting V) (r : Setting U) (events : List ChainEvent)
    (replies : List ChainReply) (c : Chained V U) → ChainAnswers s r events replies c
    → packets_of c.second.released ≡ released_in replies
answers_release s r events replies c ChainOpens = refl
answers_release s r events replies c
    (ChainAdds {events = before} {replies = earlier} {c = mid} ev to freed rest on) =
    released_then mid.second c.second (second_grows s r mid c ev to freed on)
    ∙ ap (λ l. l ++ newly_released mid.second c.second) (answers_release s r before earlier mid rest)
    ∙ sym (released_more earlier (reply_of mid c ev to freed))
