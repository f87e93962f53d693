-- The guide's own lists, and how far they are made.
use Rattle.std.specs.Prelude.{◌≡◌, ℕ, ◌+◌, ◌<◌, ◌⊎◌, true, Bool, List, [], ◌∷◌, Some}
use Rattle.std.specs.declared.cmp.Ordering.{Ordering}
use Rattle.std.specs.Ordering.{nat_cmp, ordering_then}
use Rattle.std.specs.List.{list_any}
use Rattle.std.specs.BTreeMap.{is_at}
use Rattle.entry_order.specs.declared.what.What.{What}
use Rattle.entry_order.specs.declared.what.What.TheVariants.{Access}
use Rattle.access_log.specs.declared.entry.StampedEntry.{StampedEntry}
use Rattle.access_log.specs.Held.{Lane, lane, entry_at}
use Rattle.access_log.specs.Lanes.{IsHeldSet}
use Rattle.replay_guide.specs.Following.{Follows}
use Rattle.access_log.specs.declared.entry.Turn.{Turn}
use Rattle.access_log.specs.declared.entry.Turn.TheVariants.{Follow, Free, Wait}
use Rattle.replay_guide.specs.Turns.{WaitsFor, IsFollowed, IsFree}
use Rattle.replay_guide.specs.Orders.{weight_of}
use Rattle.replay_guide.specs.Indexes.{IsIndexOf}

-- entries with their numbers, the first of which is the one after `from`
abbrev pub numbered : ℕ → List StampedEntry → List (ℕ × StampedEntry)
numbered from [] = []
numbered from (e ∷ rest) = (from + 1, e) ∷ numbered (from + 1) rest

-- entry (t, n) of a thread below this one is followed, and did this
abbrev pub FollowsBelow : List Lane → ℕ → ℕ → ℕ → What → Type 0
FollowsBelow held thread t n what = (t < thread) × Follows held t n what

-- the same, and of this thread the entries above this number too
abbrev pub FollowsDownTo : List Lane → ℕ → ℕ → ℕ → ℕ → What → Type 0
FollowsDownTo held thread number t n what =
    FollowsBelow held thread t n what ⊎ ((t ≡ thread) × (number < n) × Follows held t n what)

-- What is true of the parts of a guide.
pub record IsGuide (lanes : List Lane) (touches : List ((ℕ × ℕ) × (ℕ × ℕ)))
    (reads : List (ℕ × ℕ × ℕ × ℕ)) : Type 0 where
  pub held : IsHeldSet lanes
  pub apart : (v place t n u m : ℕ) → Follows lanes t n (Access v place) → Follows lanes u m (Access v place)
      → (t ≡ u) × (n ≡ m)
  pub indexed : IsIndexOf (Follows lanes) touches reads

-- entries by weight, then thread, then number
abbrev pub weighed_cmp : ℕ × ℕ × ℕ → ℕ × ℕ × ℕ → Ordering
weighed_cmp x y = ordering_then (ordering_then (nat_cmp x.0 y.0) (nat_cmp x.1 y.1)) (nat_cmp x.2 y.2)

-- entry (t, n) is held in one of the lanes below this one, with this weight
abbrev pub WeighsBelow : List Lane → ℕ → ℕ → ℕ → ℕ → Type 0
WeighsBelow lanes below weight t n =
    (u k : ℕ) × (e : StampedEntry) × (u < below) × (entry_at (lane lanes u) k ≡ Some e) × (weight_of e ≡ weight)
    × (e.thread ≡ t) × (e.number ≡ n)

-- entry (t, n) is there with this weight
abbrev pub IsWeighed : List (ℕ × ℕ × ℕ) → ℕ → ℕ → ℕ → Type 0
IsWeighed weighed weight t n = list_any (is_at (weighed_cmp (weight, t, n))) weighed ≡ true

-- whose turn it is
abbrev pub IsTurn : List Lane → ℕ → ℕ → ℕ → Bool → ℕ → List ℕ → Turn → Type 0
IsTurn guide t n v read places readers (Wait u m) = WaitsFor guide t n v read places readers u m
IsTurn guide t n v read places readers Follow = IsFollowed guide t n v read places readers
IsTurn guide t n v read places readers Free = IsFree guide t n v read places readers
