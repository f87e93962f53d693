-- A script comes to one thing: so do events of several, and so what it leaves is one.
use Rattle.std.proofs.Common.{◌≡◌, ℕ, List, [], ◌∷◌, ◌++◌, refl, sym, ap, ◌∙◌, subst, Option, Some, None}
use Rattle.plain_text.specs.declared.limit.Limit.{Limit}
use Rattle.plain_text.specs.declared.packet.Packet.{Packet}
use Rattle.plain_machine.specs.declared.plain_move.PlainMove.{PlainMove}
use Rattle.plain_machine.specs.History.{Step}
use Rattle.recovery_world.specs.declared.event.Event.{Event}
use Rattle.recovery_world.specs.declared.event.Event.TheVariants as event
use Rattle.recovery_world.specs.declared.event.Outcome.{Outcome}
use Rattle.recovery_world.specs.World.{Setting, Sent, World, opening}
use Rattle.recovery_world.specs.Events.{On}
use Rattle.recovery_world.specs.Limits.{limit_passed, IsWithin, OnWithin, Passes}
use Rattle.recovery_world.specs.Strategies.{Choice, Strategy, Follows, Ends, Halts, Goes}
use Rattle.recovery_world.specs.Many.{Phase, goes_on, begins, summary_of, OnAny, Single, Several, Stops, SingleStops}
use Rattle.recovery_world.specs.Many.{SeveralStops}
use Rattle.recovery_world.specs.Files.{reply_line, done_line, packets_of, moves_made, Performs, Rests as NoMore}
use Rattle.recovery_world.specs.Files.{Goes as Writes, Leaves, LeavesAt}
use Rattle.recovery_world.specs.Finish.{IsFinish}
use Rattle.recovery_laws.specs.Sound.{Sound}
use Rattle.recovery_laws.proofs.KeptWorlds.{opening_sound, within_sound, any_sound}
use Rattle.recovery_laws.proofs.OneFinish.{finish_one}
use Rattle.recovery_laws.proofs.OneOutcome.{Same, on_one}

-- The counts stay within the limits

pub follows_within : {Q V : Type 0} (s : Setting V) (next : Strategy Q V) (q : Q) (w new : World V) (end : Option Limit)
    → IsWithin w → Follows s next q w end new → IsWithin new
follows_within s next q w new end h (Ends p same none) = h
follows_within s next q w new end h (Halts p same c limit some passes) = h
follows_within s next q w new end h (Goes {mid = mid} p same c to freed some on rest) =
    follows_within s next (c.leads_to to) mid new end on.1 rest

-- One end

-- what passes a limit leads to no world that is within both
pub passes_not : {V : Type 0} (s : Setting V) (w : World V) (ev : Event) (limit : Limit) (to : Outcome)
    (freed : List Sent) (new : World V) → Sound s w → Passes s w ev limit → On s w ev to freed new → IsWithin new → ⊥
passes_not {V} s w ev limit to freed new h p on within =
    let r = on_one s w h ev p.to to p.freed freed p.new new p.on on in
    let q : limit_passed new.moves new.bytes ≡ Some limit =
    subst (λ (z : World V). limit_passed z.moves z.bytes ≡ Some limit) r.new_is p.passed in
    cc

pub passes_one : {V : Type 0} (s : Setting V) (w : World V) (ev : Event) (a b : Limit) → Sound s w → Passes s w ev a
    → Passes s w ev b → a ≡ b
passes_one {V} s w ev a b h p q =
    let r = on_one s w h ev p.to q.to p.freed q.freed p.new q.new p.on q.on in
    let x : limit_passed q.new.moves q.new.bytes ≡ Some a =
    subst (λ (z : World V). limit_passed z.moves z.bytes ≡ Some a) r.new_is p.passed in
    let y : limit_passed q.new.moves q.new.bytes ≡ Some b = q.passed in cc

-- A strategy comes to one end.
pub follows_one : {Q V : Type 0} (s : Setting V) (next : Strategy Q V) (q : Q) (w a b : World V)
    (end other : Option Limit) → Sound s w → Follows s next q w end a → Follows s next q w other b
    → (end ≡ other) × (a ≡ b)
follows_one s next q w a b end other h (Ends p same none) (Ends p2 same2 none2) = (refl, refl)
follows_one s next q w a b end other h (Ends p same none) (Halts p2 same2 c2 limit2 some2 passes2) = absurd (cc)
follows_one s next q w a b end other h (Ends p same none) (Goes {mid = mid2} p2 same2 c2 to2 freed2 some2 on2 rest2) =
    absurd (cc)
follows_one s next q w a b end other h (Halts p same c limit some passes) (Ends p2 same2 none2) = absurd (cc)
follows_one {Q} {V} s next q w a b end other h (Halts p same c limit some passes)
    (Halts p2 same2 c2 limit2 some2 passes2) =
    let e : c2 ≡ c = cc in
    let passes3 : Passes s w c.event limit2 = subst (λ (x : Choice Q). Passes s w x.event limit2) e passes2 in (
      ap (λ (l : Limit). let o : Option Limit = Some l in o) (passes_one s w c.event limit limit2 h passes passes3),
      refl,
    )
follows_one {Q} {V} s next q w a b end other h (Halts p same c limit some passes)
    (Goes {mid = mid2} p2 same2 c2 to2 freed2 some2 on2 rest2) =
    let e : c2 ≡ c = cc in
    let on3 : OnWithin s w c.event to2 freed2 mid2 =
    subst (λ (x : Choice Q). OnWithin s w x.event to2 freed2 mid2) e on2 in
    absurd (passes_not s w c.event limit to2 freed2 mid2 h passes on3.0 on3.1)
follows_one s next q w a b end other h (Goes {mid = mid} p same c to freed some on rest) (Ends p2 same2 none2) =
    absurd (cc)
follows_one {Q} {V} s next q w a b end other h (Goes {mid = mid} p same c to freed some on rest)
    (Halts p2 same2 c2 limit2 some2 passes2) =
    let e : c2 ≡ c = cc in
    let passes3 : Passes s w c.event limit2 = subst (λ (x : Choice Q). Passes s w x.event limit2) e passes2 in
    absurd (passes_not s w c.event limit2 to freed mid h passes3 on.0 on.1)
follows_one {Q} {V} s next q w a b end other h (Goes {mid = mid} p same c to freed some on rest)
    (Goes {mid = mid2} p2 same2 c2 to2 freed2 some2 on2 rest2) =
    let e : c2 ≡ c = cc in
    let on3 : OnWithin s w c.event to2 freed2 mid2 =
    subst (λ (x : Choice Q). OnWithin s w x.event to2 freed2 mid2) e on2 in
    let one = on_one s w h c.event to to2 freed freed2 mid mid2 on.0 on3.0 in
    let at : c2.leads_to to2 ≡ c.leads_to to =
    ap (λ (x : Choice Q). x.leads_to to2) e ∙ ap c.leads_to (sym one.outcome_is) in
    follows_one s next (c.leads_to to) mid a b end other (within_sound s w c.event to freed mid h on) rest
    (subst (λ (z : World V). Follows s next (c.leads_to to) z other b) (sym one.new_is)
    (subst (λ (x : Q). Follows s next x mid2 other b) at rest2))

-- Each event of a script

-- what is done by several events is not done by itself
several_not_single : {V : Type 0} (s : Setting V) (w : World V) (ev : Event) (q : Phase) (to : Outcome)
    (freed : List Sent) (new : World V) → begins s w ev ≡ Some q → On s w ev to freed new → ⊥
several_not_single s w event.Settle q to freed new at on = on
several_not_single s w (event.Auto seed n) q to freed new at on = on
several_not_single s w (event.Flow n) q to freed new at on =
    let none : begins s w (event.Flow n) ≡ None = rw on.0 refl in cc
several_not_single s w (event.Feed n) q to freed new at on = cc
several_not_single s w (event.Time n) q to freed new at on = cc
several_not_single s w (event.Step t given) q to freed new at on = cc
several_not_single s w (event.Log t n) q to freed new at on = cc
several_not_single s w (event.Out t j) q to freed new at on = cc
several_not_single s w (event.Late epoch k t n) q to freed new at on = cc
several_not_single s w (event.Cut k t n len) q to freed new at on = cc
several_not_single s w event.Snap q to freed new at on = cc
several_not_single s w event.Store q to freed new at on = cc
several_not_single s w event.Crash q to freed new at on = cc
several_not_single s w event.Recover q to freed new at on = cc
several_not_single s w (event.Show v) q to freed new at on = cc

pub any_within : {V : Type 0} (s : Setting V) (w : World V) (ev : Event) (to : Outcome) (freed : List Sent)
    (new : World V) → IsWithin w → OnAny s w ev to freed new → IsWithin new
any_within s w ev to freed new low (Single e o f n on) = on.1
any_within s w ev to freed new low (Several e q o n at f is) = follows_within s (goes_on s) q w new None low f

-- Each event of a script comes to one thing.
pub any_one : {V : Type 0} (s : Setting V) (w : World V) (ev : Event) (to other : Outcome) (freed rest : List Sent)
    (new next : World V) → Sound s w → OnAny s w ev to freed new → OnAny s w ev other rest next
    → Same to other freed rest new next
any_one s w ev to other freed rest new next h (Single e o f n on) (Single e2 o2 f2 n2 on2) =
    on_one s w h ev to other freed rest new next on.0 on2.0
any_one s w ev to other freed rest new next h (Single e o f n on) (Several e2 q2 o2 n2 at2 f2 is2) =
    absurd (several_not_single s w ev q2 to freed new at2 on.0)
any_one s w ev to other freed rest new next h (Several e q o n at f is) (Single e2 o2 f2 n2 on2) =
    absurd (several_not_single s w ev q other rest next at on2.0)
any_one {V} s w ev to other freed rest new next h (Several e q o n at f is) (Several e2 q2 o2 n2 at2 f2 is2) =
    let p : q2 ≡ q = cc in
    let one = (follows_one s (goes_on s) q w new next None None h f
    (subst (λ (x : Phase). Follows s (goes_on s) x w None next) p f2)).1 in
    record { outcome_is = is ∙ (ap (λ (z : World V). summary_of w z) one ∙ sym is2); freed_is = refl; new_is = one }

pub performs_one : {V : Type 0} (s : Setting V) (w a b : World V) (events : List Event) (lines other : List ℕ)
    → Sound s w → Performs s w events lines a → Performs s w events other b → (lines ≡ other) × (a ≡ b)
performs_one s w a b events lines other h (NoMore same) (NoMore same2) = (refl, refl)
performs_one {V} s w a b events lines other h (Writes {mid = mid} {events = later} {lines = l} ev to freed on rest)
    (Writes {mid = mid2} {lines = l2} ev2 to2 freed2 on2 rest2) =
    let q = any_one s w ev to to2 freed freed2 mid mid2 h on on2 in
    let r = performs_one s mid a b later l l2 (any_sound s w h ev to freed mid on) rest
    (subst (λ (z : World V). Performs s z later l2 b) (sym q.new_is) rest2) in (
      ap (λ (o : Outcome). reply_line ev o freed ++ l) q.outcome_is
          ∙ (ap (λ (f : List Sent). reply_line ev to2 f ++ l) q.freed_is
          ∙ ap (λ (k : List ℕ). reply_line ev to2 freed2 ++ k) r.0),
      r.1,
    )

-- What a script leaves is one: the report, the released packets, and the schedule.
pub leaves_one : {V : Type 0} (s : Setting V) (events : List Event) (report other : List ℕ)
    (released rest : List Packet) (schedule moves : List PlainMove) → Leaves s events report released schedule
    → Leaves s events other rest moves → (report ≡ other) × (released ≡ rest) × (schedule ≡ moves)
leaves_one {V} s events report other released rest schedule moves a b =
    let r = performs_one s (opening V) a.world b.world events a.lines b.lines (opening_sound s) a.performs b.performs in
    let steps : a.steps ≡ b.steps =
    finish_one s b.world a.steps b.steps (subst (λ (z : World V). IsFinish s z a.steps) r.1 a.finish) b.finish in (
      a.report_is
          ∙ (ap (λ (l : List ℕ). l ++ done_line a.world) r.0
          ∙ (ap (λ (z : World V). b.lines ++ done_line z) r.1 ∙ sym b.report_is)),
      a.released_is ∙ (ap (λ (z : World V). packets_of z.released) r.1 ∙ sym b.released_is),
      a.schedule_is ∙ (ap (λ (z : List (Step V)). moves_made z) steps ∙ sym b.schedule_is),
    )

-- An event is performed or stops, and stops in one way

pub stops_not : {V : Type 0} (s : Setting V) (w : World V) (ev : Event) (limit : Limit) (to : Outcome)
    (freed : List Sent) (new next : World V) → Sound s w → Stops s w ev limit new → OnAny s w ev to freed next → ⊥
stops_not s w ev limit to freed new next h (SingleStops e l p) (Single e2 o2 f2 n2 on) =
    passes_not s w ev limit to freed next h p on.0 on.1
stops_not s w ev limit to freed new next h (SingleStops e l p) (Several e2 q2 o2 n2 at2 f2 is2) =
    several_not_single s w ev q2 p.to p.freed p.new at2 p.on
stops_not s w ev limit to freed new next h (SeveralStops e q l n at f) (Single e2 o2 f2 n2 on) =
    several_not_single s w ev q to freed next at on.0
stops_not s w ev limit to freed new next h (SeveralStops e q l n at f) (Several e2 q2 o2 n2 at2 f2 is2) =
    let p : q2 ≡ q = cc in
    let one : Some limit ≡ None = (follows_one s (goes_on s) q w new next (Some limit) None h f
    (subst (λ (x : Phase). Follows s (goes_on s) x w None next) p f2)).0 in
    cc

pub stops_one : {V : Type 0} (s : Setting V) (w : World V) (ev : Event) (limit other : Limit) (new next : World V)
    → Sound s w → Stops s w ev limit new → Stops s w ev other next → (limit ≡ other) × (new ≡ next)
stops_one s w ev limit other new next h (SingleStops e l p) (SingleStops e2 l2 p2) =
    (passes_one s w ev limit other h p p2, refl)
stops_one s w ev limit other new next h (SingleStops e l p) (SeveralStops e2 q2 l2 n2 at2 f2) =
    absurd (several_not_single s w ev q2 p.to p.freed p.new at2 p.on)
stops_one s w ev limit other new next h (SeveralStops e q l n at f) (SingleStops e2 l2 p2) =
    absurd (several_not_single s w ev q p2.to p2.freed p2.new at p2.on)
stops_one s w ev limit other new next h (SeveralStops e q l n at f) (SeveralStops e2 q2 l2 n2 at2 f2) =
    let p : q2 ≡ q = cc in
    let one = follows_one s (goes_on s) q w new next (Some limit) (Some other) h f
    (subst (λ (x : Phase). Follows s (goes_on s) x w (Some other) next) p f2) in
    let same : Some limit ≡ Some other = one.0 in (cc, one.1)

-- A script is performed whole or stops, and stops in one way: two ways through one list of events, the second of which
-- stops.
tail_eq : (x y : Event) (xs ys : List Event) → x ∷ xs ≡ y ∷ ys → (x ≡ y) × (xs ≡ ys)
tail_eq x y xs ys e = (cc, cc)

whole_or_stops : {V : Type 0} (s : Setting V) (w new there world : World V) (events before after : List Event)
    (ev : Event) (lines other : List ℕ) (limit : Limit) → Sound s w → events ≡ before ++ ev ∷ after
    → Performs s w events lines new → Performs s w before other there → Stops s there ev limit world → ⊥
whole_or_stops s w new there world events [] after ev lines other limit h same (NoMore q) b stops = cc
whole_or_stops {V} s w new there world events [] after ev lines other limit h same
    (Writes {mid = mid} {events = later} x to freed on rest) (NoMore q) stops =
    let e = tail_eq x ev later after same in
    stops_not s w ev limit to freed world mid h stops (subst (λ (y : Event). OnAny s w y to freed mid) e.0 on)
whole_or_stops s w new there world events (y ∷ before) after ev lines other limit h same (NoMore q) b stops = cc
whole_or_stops {V} s w new there world events (y ∷ before) after ev lines other limit h same
    (Writes {mid = mid} {events = later} {lines = l} x to freed on rest)
    (Writes {mid = mid2} {lines = l2} y2 to2 freed2 on2 rest2) stops =
    let e = tail_eq x y later (before ++ ev ∷ after) same in
    let on3 : OnAny s w x to2 freed2 mid2 = subst (λ (z : Event). OnAny s w z to2 freed2 mid2) (sym e.0) on2 in
    let q = any_one s w x to to2 freed freed2 mid mid2 h on on3 in
    whole_or_stops s mid new there world later before after ev l l2 limit (any_sound s w h x to freed mid on) e.1 rest
    (subst (λ (z : World V). Performs s z before l2 there) (sym q.new_is) rest2) stops

record OneStop {V : Type 0} (a b : Limit) (lines other : List ℕ) (new next : World V) : Type 0 where
  limit_is : a ≡ b
  lines_are : lines ≡ other
  world_is : new ≡ next

stops_once : {V : Type 0} (s : Setting V) (w there place new next : World V) (before after first rest : List Event)
    (ev en : Event) (lines other : List ℕ) (a b : Limit) → Sound s w → before ++ ev ∷ after ≡ first ++ en ∷ rest
    → Performs s w before lines there → Stops s there ev a new → Performs s w first other place
    → Stops s place en b next → OneStop a b lines other new next
stops_once {V} s w there place new next [] after [] rest ev en lines other a b h same (NoMore q) x (NoMore q2) y =
    let e = tail_eq ev en after rest same in
    let r = stops_one s w ev a b new next h x (subst (λ (z : Event). Stops s w z b next) (sym e.0) y) in
    record { limit_is = r.0; lines_are = refl; world_is = r.1 }
stops_once {V} s w there place new next [] after (z ∷ first) rest ev en lines other a b h same (NoMore q) x
    (Writes {mid = mid} z2 to freed on more) y =
    let e = tail_eq ev z after (first ++ en ∷ rest) same in
    absurd (stops_not s w ev a to freed new mid h x (subst (λ (k : Event). OnAny s w k to freed mid) (sym e.0) on))
stops_once {V} s w there place new next (z ∷ before) after [] rest ev en lines other a b h same
    (Writes {mid = mid} z2 to freed on more) x (NoMore q) y =
    let e = tail_eq z en (before ++ ev ∷ after) rest same in
    absurd (stops_not s w en b to freed next mid h y (subst (λ (k : Event). OnAny s w k to freed mid) e.0 on))
stops_once {V} s w there place new next (z ∷ before) after (k ∷ first) rest ev en lines other a b h same
    (Writes {mid = mid} {lines = l} z2 to freed on more) x
    (Writes {mid = mid2} {lines = l2} k2 to2 freed2 on2 more2) y =
    let e = tail_eq z k (before ++ ev ∷ after) (first ++ en ∷ rest) same in
    let on3 : OnAny s w z to2 freed2 mid2 = subst (λ (i : Event). OnAny s w i to2 freed2 mid2) (sym e.0) on2 in
    let q = any_one s w z to to2 freed freed2 mid mid2 h on on3 in
    let r =
    stops_once s mid there place new next before after first rest ev en l l2 a b (any_sound s w h z to freed mid on) e.1
    more x (subst (λ (i : World V). Performs s i first l2 place) (sym q.new_is) more2) y in
    record {
      limit_is = r.limit_is;
      lines_are =
          ap (λ (o : Outcome). reply_line z o freed ++ l) q.outcome_is
          ∙ (ap (λ (f : List Sent). reply_line z to2 f ++ l) q.freed_is
          ∙ (ap (λ (i : List ℕ). reply_line z to2 freed2 ++ i) r.lines_are
          ∙ ap (λ (i : Event). reply_line i to2 freed2 ++ l2) e.0));
      world_is = r.world_is;
    }

pub leaves_or_stops : {V : Type 0} (s : Setting V) (events : List Event) (report other : List ℕ)
    (released rest : List Packet) (schedule : List PlainMove) (limit : Limit) → Leaves s events report released schedule
    → LeavesAt s events limit other rest → ⊥
leaves_or_stops {V} s events report other released rest schedule limit a b =
    whole_or_stops s (opening V) a.world b.there b.world events b.before b.after b.event a.lines other limit
    (opening_sound s) b.events_are a.performs b.performs b.stops

pub stops_leave_one : {V : Type 0} (s : Setting V) (events : List Event) (report other : List ℕ)
    (released rest : List Packet) (limit second : Limit) → LeavesAt s events limit report released
    → LeavesAt s events second other rest → (limit ≡ second) × (report ≡ other) × (released ≡ rest)
stops_leave_one {V} s events report other released rest limit second a b =
    let r =
    stops_once s (opening V) a.there b.there a.world b.world a.before a.after b.before b.after a.event b.event report
    other limit second (opening_sound s) (sym a.events_are ∙ b.events_are) a.performs a.stops b.performs b.stops in (
      r.limit_is,
      r.lines_are,
      a.released_is ∙ (ap (λ (z : World V). packets_of z.released) r.world_is ∙ sym b.released_is),
    )
