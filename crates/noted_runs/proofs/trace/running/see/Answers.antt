use Rattle.std.proofs.Common.{◌∙◌, List, ℕ, subst}
use Rattle.noted_runs.specs.Places.{HasPlaces}
use Rattle.noted_runs.proofs.trace.running.see.Goals as goal

pub returns : goal.returns
returns g c s w h = record {
  places = subst (λ (l : List (ℕ × ℕ)). HasPlaces c.args.threads l c.in_ok-places.places.items)
      (c.as_slice.ensures ∙ c.released.ensures w h.released) c.in_ok-places.ensures;
  lacks = c.in_ok-lacks.ensures s w h.parts;
}
