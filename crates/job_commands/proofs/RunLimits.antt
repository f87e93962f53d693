-- A run stops at the limit of moves or at that of bytes sent out.
use Rattle.std.proofs.Common.{◌≡◌, ℕ, Bool, true, false, refl, sym, ap, subst, Option, Some, None}
use Rattle.std.specs.Prelude.{nat_lt, cond}
use Rattle.plain_text.specs.declared.limit.TheConstants.{MOST_MOVES, MOST_OUTPUT_BYTES}
use Rattle.plain_text.specs.declared.limit.Limit.{Limit}
use Rattle.plain_text.specs.declared.limit.Limit.TheVariants as limit_of
use Rattle.recovery_world.specs.declared.event.Event.{Event}
use Rattle.recovery_world.specs.World.{Setting, World as SystemWorld}
use Rattle.recovery_world.specs.Limits.{Passes, limit_passed}
use Rattle.recovery_world.specs.Strategies.{Strategy, Follows, Ends, Halts, Goes}
use Rattle.recovery_world.specs.Many.{goes_on, Stops, SingleStops, SeveralStops}
use Rattle.job_commands.specs.Status.{AtOutputs, stage_of_limit}

abbrev pub IsOfRun : Limit → Type 0
IsOfRun limit = stage_of_limit limit ≡ AtOutputs

passed_is : (moves bytes : ℕ) (limit : Limit) → limit_passed moves bytes ≡ Some limit → IsOfRun limit
passed_is moves bytes limit e = first (nat_lt MOST_MOVES moves) (nat_lt MOST_OUTPUT_BYTES bytes) e
  where
    second : (b : Bool) → cond b (Some limit_of.OutputBytes) None ≡ Some limit → IsOfRun limit
    second true e = let q : limit_of.OutputBytes ≡ limit = cc in ap stage_of_limit (sym q)
    second false e = absurd (cc)

    first : (a b : Bool) → cond a (Some limit_of.Moves) (cond b (Some limit_of.OutputBytes) None) ≡ Some limit
        → IsOfRun limit
    first true b e = let q : limit_of.Moves ≡ limit = cc in ap stage_of_limit (sym q)
    first false b e = second b e

passes_is : {V : Type 0} (s : Setting V) (w : SystemWorld V) (ev : Event) (limit : Limit) → Passes s w ev limit
    → IsOfRun limit
passes_is s w ev limit p = passed_is p.new.moves p.new.bytes limit p.passed

follows_is : {Q V : Type 0} (s : Setting V) (next : Strategy Q V) (q : Q) (w new : SystemWorld V) (end : Option Limit)
    → Follows s next q w end new → (limit : Limit) → end ≡ Some limit → IsOfRun limit
follows_is s next q w new end (Ends p same none) limit is = absurd (cc)
follows_is s next q w new end (Halts p same c l some passes) limit is =
    let q : l ≡ limit = cc in subst IsOfRun q (passes_is s same c.event l passes)
follows_is s next q w new end (Goes {mid = mid} p same c to freed some on rest) limit is =
    follows_is s next (c.leads_to to) mid new end rest limit is

pub stops_are : {V : Type 0} (s : Setting V) (w : SystemWorld V) (ev : Event) (limit : Limit) (new : SystemWorld V)
    → Stops s w ev limit new → IsOfRun limit
stops_are s w ev limit new (SingleStops e l passes) = passes_is s w e l passes
stops_are s w ev limit new (SeveralStops e q l n begun follows) = follows_is s (goes_on s) q w n (Some l) follows l refl
