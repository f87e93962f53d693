-- A run of a box that looks through tags, as the run of the box itself on what stands behind them: step by step, with
-- each packet behind its tag.
use Rattle.std.specs.Prelude.{◌≡◌, ℕ, ◌+◌, Bool, List, [], ◌∷◌, map, Option, Some, None, slice_get, Result, Ok, Err}
use Rattle.plain_text.specs.declared.packet.Packet.{Packet}
use Rattle.tagged_frames.specs.Tags.{tag_length, without_first, behind_tag, with_behind}
use Rattle.plain_machine.specs.declared.emission.Emission.{Emission}
use Rattle.plain_machine.specs.Machine.{Hand, Thread}
use Rattle.plain_machine.specs.History.{Act, Took, Did, Emitted, Ended, Step}

-- the inputs of each thread, behind their tags
abbrev pub inputs_behind : Bool → (ℕ → List Packet) → ℕ → List Packet
inputs_behind tags inputs t = map (behind_tag tags) (inputs t)

-- the bytes of the tag of the packet in hand
abbrev pub hand_tag : Bool → Option Hand → ℕ
hand_tag tags None = 0
hand_tag tags (Some h) = tag_length tags h.packet.bytes

abbrev pub hand_behind : Bool → Option Hand → Option Hand
hand_behind tags None = None
hand_behind tags (Some h) = Some (record { packet = behind_tag tags h.packet; place = h.place })

abbrev pub thread_behind : Bool → Thread → Thread
thread_behind tags th = record { taken = th.taken; hand = hand_behind tags th.hand }

-- what a move did, where a packet that goes out is without this many of its first bytes
abbrev pub act_behind : {V : Type 0} → ℕ → Act V → Act V
act_behind k (Took input) = Took input
act_behind k (Did entry left) = Did entry left
act_behind k (Emitted o) = Emitted (record o { packet = without_first k o.packet })
act_behind k (Ended input) = Ended input

-- A packet that goes out has the tag of the one in hand, which is still there.
abbrev pub step_behind : {V : Type 0} → Bool → Step V → Step V
step_behind tags x = record {
  thread = x.thread;
  act = act_behind (hand_tag tags x.after.hand) x.act;
  after = thread_behind tags x.after;
}

abbrev pub steps_behind : {V : Type 0} → Bool → List (Step V) → List (Step V)
steps_behind tags [] = []
steps_behind tags (x ∷ earlier) = step_behind tags x ∷ steps_behind tags earlier

-- what a list of moves gives, behind the tags: a history, or the same fault
abbrev pub played_behind : {V F : Type 0} → Bool → Result (List (Step V)) F → Result (List (Step V)) F
played_behind tags (Ok steps) = Ok (steps_behind tags steps)
played_behind tags (Err fault) = Err fault

-- The first packet went out as the second one did, with the bytes of its input that were not seen in front of it, and
-- has the times and the original length of its input. Inputs are numbered from 1.
pub record KeepsTag (tags : Bool) (inputs : ℕ → List Packet) (o behind : Emission) : Type 0 where
  pub input : Packet
  pub earlier : ℕ
  pub number : o.input ≡ earlier + 1
  pub given : slice_get (inputs o.thread) earlier ≡ Some input
  pub packet : o.packet ≡ with_behind tags input behind.packet.bytes
  pub same : behind ≡ record o { packet = record (behind_tag tags input) { bytes = behind.packet.bytes } }

-- so it is with each, in order
abbrev pub KeepTags : Bool → (ℕ → List Packet) → List Emission → List Emission → Type 0
KeepTags tags inputs [] [] = Unit {0}
KeepTags tags inputs [] (q ∷ others) = ⊥
KeepTags tags inputs (o ∷ sent) [] = ⊥
KeepTags tags inputs (o ∷ sent) (q ∷ others) = KeepsTag tags inputs o q × KeepTags tags inputs sent others
