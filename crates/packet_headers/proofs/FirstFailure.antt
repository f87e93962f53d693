-- Lists of tests, of which the first that fails answers.
use Rattle.std.proofs.Common.{◌≡◌, ℕ, ◌∙◌, sym, ap, subst, Bool, true, false, List, [], ◌∷◌, ◌++◌, Result, Ok, Err}
use Rattle.std.proofs.Common.{IsOkAnd, refl}
use Rattle.packet_headers.specs.declared.flow.Flow.{Flow}
use Rattle.packet_headers.specs.declared.flow.NotFlow.{NotFlow}
use Rattle.packet_headers.specs.View.{first_failure, header_failures, packet_failures, flow_of, changed_flow}
use Rattle.packet_headers.specs.Rewriting.{CanRewrite}

-- a failure is the same whatever value would have come
pub first_failure_err : {A B : Type 0} (tests : List (Bool × NotFlow)) (a : A) (b : B) (answer : NotFlow)
    → first_failure tests a ≡ Err answer → first_failure tests b ≡ Err answer
first_failure_err [] a b answer fails = cc
first_failure_err ((true, said) ∷ later) a b answer fails = cc
first_failure_err ((false, said) ∷ later) a b answer fails = first_failure_err later a b answer fails

first_failure_ok : {A B : Type 0} (tests : List (Bool × NotFlow)) (a passed : A) (b : B)
    → first_failure tests a ≡ Ok passed → first_failure tests b ≡ Ok b
first_failure_ok [] a passed b passes = refl
first_failure_ok ((true, said) ∷ later) a passed b passes = cc
first_failure_ok ((false, said) ∷ later) a passed b passes = first_failure_ok later a passed b passes

-- where the earlier tests pass, the later ones answer
pub first_failure-append : {A B : Type 0} (earlier later : List (Bool × NotFlow)) (a passed : A) (b : B)
    → first_failure earlier a ≡ Ok passed → first_failure (earlier ++ later) b ≡ first_failure later b
first_failure-append [] later a passed b passes = refl
first_failure-append ((true, said) ∷ more) later a passed b passes = cc
first_failure-append ((false, said) ∷ more) later a passed b passes = first_failure-append more later a passed b passes

-- every test passes
abbrev pub Pass : List (Bool × NotFlow) → Type 0
Pass [] = Unit {0}
Pass (test ∷ later) = (test.0 ≡ false) × Pass later

pub pass_from_ok : {A : Type 0} (tests : List (Bool × NotFlow)) (value seen : A) → first_failure tests value ≡ Ok seen
    → Pass tests × (value ≡ seen)
pass_from_ok [] value seen ok = (tt, cc)
pass_from_ok ((true, said) ∷ later) value seen ok = cc
pass_from_ok ((false, said) ∷ later) value seen ok =
    let rest = pass_from_ok later value seen ok in ((refl, rest.0), rest.1)

pub ok_and : {A : Type 0} (r : Result A NotFlow) (P : A → Type 0) → IsOkAnd r P → (x : A) × (r ≡ Ok x) × P x
ok_and (Ok x) P holds = (x, refl, holds)
ok_and (Err e) P holds = absurd holds

-- what comes of a value that was changed
pub first_failure-changed : (tests : List (Bool × NotFlow)) (change : Flow → Flow) (flow : Flow)
    → first_failure tests (change flow) ≡ changed_flow change (first_failure tests flow)
first_failure-changed [] change flow = refl
first_failure-changed ((true, said) ∷ later) change flow = refl
first_failure-changed ((false, said) ∷ later) change flow = first_failure-changed later change flow

pub is_ok_and-changed : (r : Result Flow NotFlow) (change : Flow → Flow) (P : Flow → Type 0)
    → ((flow : Flow) → P flow → P (change flow)) → IsOkAnd r P → IsOkAnd (changed_flow change r) P
is_ok_and-changed (Ok flow) change P keeps holds = keeps flow holds
is_ok_and-changed (Err answer) change P keeps holds = absurd holds

-- a frame that passes both lists is a flow, which can be rewritten
pub can_rewrite : (frame : List ℕ) (original : ℕ) (flow : Flow) (at found : ℕ) (unit checked : Unit {0})
    → first_failure (header_failures frame) at ≡ Ok found
    → first_failure (packet_failures frame original) unit ≡ Ok checked → flow ≡ flow_of frame → CanRewrite frame flow
can_rewrite frame original flow at found unit checked header packet is =
    let seen =
    first_failure-append (header_failures frame) (packet_failures frame original) at found (flow_of frame) header
    ∙ first_failure_ok (packet_failures frame original) unit checked (flow_of frame) packet in
    let Known : Result Flow NotFlow → Type 0 =
    λ r. IsOkAnd r (λ (seen : Flow). (seen.protocol ≡ flow.protocol) × (seen.transport_at ≡ flow.transport_at)) in (
      original,
      subst Known (sym seen) (ap (λ (f : Flow). f.protocol) (sym is), ap (λ (f : Flow). f.transport_at) (sym is)),
    )
