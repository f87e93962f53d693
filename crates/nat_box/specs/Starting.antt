-- How the static ports come into a table, one after another.
use Rattle.std.specs.Prelude.{ℕ, ◌==◌, if◌then◌else◌, List, [], ◌∷◌}
use Rattle.nat_tables.specs.Forwards.{Forwards, keep}
use Rattle.nat_tables.specs.Reverses.{Reverses, bind}
use Rattle.nat_box.specs.declared.settings.StaticPort.{StaticPort}
use Rattle.nat_box.specs.Statics.{inside_of, outside_of}
use Rattle.nat_box.specs.Settings.{Settings}
use Rattle.nat_box.specs.Nat.{forward_table, reverse_table}

-- into the forward table of its endpoint

abbrev pub mapped_one : Settings → ℕ → StaticPort → Forwards → Forwards
mapped_one s v p es = if forward_table s (inside_of p) == v then keep (inside_of p) p.outside es else es

abbrev pub mapped_all : Settings → ℕ → List StaticPort → Forwards → Forwards
mapped_all s v [] es = es
mapped_all s v (p ∷ ps) es = mapped_all s v ps (mapped_one s v p es)

-- into the reverse table of its outside port

abbrev pub bound_one : Settings → ℕ → StaticPort → Reverses → Reverses
bound_one s v p bs = if reverse_table s (outside_of p) == v then bind (outside_of p) (inside_of p) bs else bs

abbrev pub bound_all : Settings → ℕ → List StaticPort → Reverses → Reverses
bound_all s v [] bs = bs
bound_all s v (p ∷ ps) bs = bound_all s v ps (bound_one s v p bs)
