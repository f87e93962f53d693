-- A touch of the loads raises the least one or lowers one.
use Rattle.std.proofs.Common.{◌≡◌, ℕ, List, refl, sym, ◌∙◌, subst, ◌⊎◌, inl, inr, arith}
use Rattle.plain_machine.specs.declared.local.Move.TheVariants.{Access}
use Rattle.plain_machine.specs.Machine.{Thread, Effect, Touches}
use Rattle.plain_machine.specs.History.{thread_after, value_after}
use Rattle.plain_machine.proofs.Bounds.{values_fit}
use Rattle.nat_tables.specs.declared.entries.Endpoint.{Endpoint}
use Rattle.balancer_box.specs.declared.place.Place.{Place}
use Rattle.balancer_box.specs.declared.place.Place.TheVariants.{HearsTime, FindsConnection, LowersIdle, RaisesLeast}
use Rattle.balancer_box.specs.declared.place.Place.TheVariants.{Connects, LowersSpare, ChecksConnection, CountsDrop}
use Rattle.balancer_box.specs.declared.place.Place.TheVariants.{SendsOut, LowersVain, Ends}
use Rattle.balancer_box.specs.declared.place.Noted.{Noted}
use Rattle.balancer_box.specs.declared.value.BalancerValue.{BalancerValue}
use Rattle.balancer_box.specs.declared.value.BalancerValue.TheVariants.{Dropped, Loaded, Connected}
use Rattle.balancer_box.specs.Loads.{raised, lowered, least_loaded, HasLeastLoad}
use Rattle.balancer_box.specs.Places.{place_numbered}
use Rattle.balancer_box.specs.Settings.{Settings, AreSettings}
use Rattle.balancer_box.specs.Balancer.{table_of, next_move, touched, noted_by, balancer_meaning, Fits}
use Rattle.balancer_box.specs.Lawful.{balancer_lawful}
use Rattle.balancer_box.proofs.LoadLemmas.{has_least}
use Rattle.balancer_box.proofs.Making.{Made, made}
use Rattle.balancer_runs.specs.Choosing.{LeastLoadsAreRaised}
use Rattle.balancer_runs.proofs.DropCauses.{touches_it}

abbrev Changes : BalancerValue → BalancerValue → Type 0
Changes x left =
    (loads : List ℕ) × (backend : ℕ) × (x ≡ Loaded loads)
    × ((HasLeastLoad loads backend × (left ≡ Loaded (raised backend loads)))
    ⊎ (left ≡ Loaded (lowered backend loads)))

not_table : (s : Settings) (client : Endpoint) → Access (table_of s client) ≡ Access 1 → ⊥
not_table s client e = let k : table_of s client ≡ 1 = cc in omega arith

not_drops : (v : ℕ) → Access 0 ≡ Access v → v ≡ 1 → ⊥
not_drops v e one = let k : 0 ≡ v = cc in omega arith

-- the variable of the loads is none of the tables, and not that of the drops
touch_changes : (s : Settings) → AreSettings s → (p : Place) (x : BalancerValue) (n : Noted)
    → next_move s p n ≡ Access 1 → Fits s 1 x → Changes x (touched s.closing p x n).0
touch_changes s is HearsTime x n e fits = absurd (cc)
touch_changes s is p (Dropped d) n e fits = absurd (omega (arith, fits))
touch_changes s is p (Connected es) n e fits = absurd (omega (arith, fits.0))
touch_changes s is FindsConnection (Loaded loads) n e fits = absurd (not_table s n.client e)
touch_changes s is LowersIdle (Loaded loads) n e fits = (loads, n.spare, refl, inr refl)
touch_changes s is RaisesLeast (Loaded loads) n e fits =
    (loads, least_loaded loads, refl, inl (has_least loads (omega (arith, fits.1, is.some_backends)), refl))
touch_changes s is Connects (Loaded loads) n e fits = absurd (not_table s n.client e)
touch_changes s is LowersVain (Loaded loads) n e fits = (loads, n.spare, refl, inr refl)
touch_changes s is LowersSpare (Loaded loads) n e fits = (loads, n.spare, refl, inr refl)
touch_changes s is ChecksConnection (Loaded loads) n e fits = absurd (not_table s n.client e)
touch_changes s is CountsDrop (Loaded loads) n e fits = absurd (not_drops 1 e refl)
touch_changes s is SendsOut x n e fits = absurd (cc)
touch_changes s is Ends x n e fits = absurd (cc)

pub loads_raised : LeastLoadsAreRaised
loads_raised s threads inputs x earlier entry place left is h act what =
    let value : ℕ → BalancerValue = value_after (balancer_meaning s) earlier in
    let old : Thread = thread_after earlier x.thread in
    let m = made s (inputs x.thread) value old.taken x.after h.0.2 old.hand h.0.1 h.0.3 in
    let fits = values_fit (balancer_meaning s) (Fits s) (balancer_lawful s is) inputs threads earlier h.1 1
    (omega (arith, is.some)) in
    let same : h.0.2 ≡ Touches 1 left =
    touches_it x.thread x.after.taken 1 earlier h.0.2 entry place left (sym h.0.4 ∙ act) what in
    let touch : Made s (inputs x.thread) old.taken value old.hand x.after.hand (Touches 1 left) =
    subst (λ (d : Effect BalancerValue). Made s (inputs x.thread) old.taken value old.hand x.after.hand d) same m in
    subst (Changes (value 1)) (sym touch.3)
    (touch_changes s is (place_numbered touch.0.place.at) (value 1) (noted_by s touch.0.place) touch.2 fits)
