-- What the events of a chain leave, one by one: the packets that each system released, and the line of the report.
use Rattle.std.specs.Prelude.{ℕ, List, [], ◌∷◌, ◌++◌}
use Rattle.std.specs.List.{flat_map}
use Rattle.plain_text.specs.declared.packet.Packet.{Packet}
use Rattle.recovery_world.specs.declared.event.Outcome.{Outcome}
use Rattle.recovery_world.specs.World.{Setting, Sent}
use Rattle.run_writes.specs.Replies.{newly_released}
use Rattle.chain_world.specs.declared.chain_event.ChainEvent.{ChainEvent}
use Rattle.chain_world.specs.Chain.{Chained, chain_opening, chain_line, OnChain}

-- what the first system released in an event, what the second did, and the line of the report
pub record ChainReply : Type 0 where
  pub middle : List Packet
  pub released : List Packet
  pub line : List ℕ

-- an event that led from these worlds to those
abbrev pub reply_of : {V U : Type 0} → Chained V U → Chained V U → ChainEvent → Outcome → List Sent → ChainReply
reply_of c new ev to freed = record {
  middle = newly_released c.first new.first;
  released = newly_released c.second new.second;
  line = chain_line ev to freed;
}

-- The events, performed in order from the opening, leave these replies, one each, and lead to these worlds.
pub data ChainAnswers {V U : Type 0} (s : Setting V) (r : Setting U) : List ChainEvent → List ChainReply → Chained V U
    → Type 0 where
  ChainOpens : ChainAnswers s r [] [] (chain_opening V U)
  ChainAdds : {events : List ChainEvent} {replies : List ChainReply} {c new : Chained V U} (ev : ChainEvent)
      (to : Outcome) (freed : List Sent) → ChainAnswers s r events replies c → OnChain s r c ev to freed new
      → ChainAnswers s r (events ++ ev ∷ []) (replies ++ reply_of c new ev to freed ∷ []) new

abbrev pub middle_in : List ChainReply → List Packet
middle_in replies = flat_map (λ (reply : ChainReply). reply.middle) replies

abbrev pub released_in : List ChainReply → List Packet
released_in replies = flat_map (λ (reply : ChainReply). reply.released) replies

abbrev pub lines_in : List ChainReply → List ℕ
lines_in replies = flat_map (λ (reply : ChainReply). reply.line) replies
