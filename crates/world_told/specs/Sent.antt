-- What a file was sent, and its name, by a record of calls: no bytes under names at the beginning matter for it.
use Rattle.std.specs.Prelude.{ℕ, List, None}
use Rattle.world_told.specs.Events.{Event, shown_after}

abbrev pub sent_to : ℕ → List Event → List ℕ
sent_to file calls = (shown_after (λ _. None) calls).sent file

abbrev pub name_of : ℕ → List Event → List ℕ
name_of file calls = (shown_after (λ _. None) calls).name_of file
