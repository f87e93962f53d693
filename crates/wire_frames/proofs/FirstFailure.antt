-- Lists of tests, of which the first that fails answers.
use Rattle.std.proofs.Common.{◌≡◌, Bool, true, false, List, [], ◌∷◌, ◌++◌, Some, None, refl}
use Rattle.wire_frames.specs.declared.frame.FrameFault.{FrameFault}
use Rattle.wire_frames.specs.Faults.{first_failure}

-- where the earlier tests pass, the later ones answer
pub first_failure-append : (earlier later : List (Bool × FrameFault)) → first_failure earlier ≡ None
    → first_failure (earlier ++ later) ≡ first_failure later
first_failure-append [] later passes = refl
first_failure-append ((true, said) ∷ more) later passes = cc
first_failure-append ((false, said) ∷ more) later passes = first_failure-append more later passes

-- an earlier failure is the first
pub first_failure-earlier : (earlier later : List (Bool × FrameFault)) (fault : FrameFault)
    → first_failure earlier ≡ Some fault → first_failure (earlier ++ later) ≡ Some fault
first_failure-earlier [] later fault fails = cc
first_failure-earlier ((true, said) ∷ more) later fault fails = fails
first_failure-earlier ((false, said) ∷ more) later fault fails = first_failure-earlier more later fault fails

-- every test passes
abbrev pub Pass : List (Bool × FrameFault) → Type 0
Pass [] = Unit {0}
Pass (test ∷ later) = (test.0 ≡ false) × Pass later

pub pass : (tests : List (Bool × FrameFault)) → first_failure tests ≡ None → Pass tests
pass [] none = tt
pass ((true, said) ∷ later) none = cc
pass ((false, said) ∷ later) none = (refl, pass later none)

pub passed : (tests : List (Bool × FrameFault)) → Pass tests → first_failure tests ≡ None
passed [] none = refl
passed ((true, said) ∷ later) all = absurd (cc (all.0))
passed ((false, said) ∷ later) all = passed later all.1

-- both parts pass
pub passed_first : (earlier later : List (Bool × FrameFault)) → first_failure (earlier ++ later) ≡ None
    → first_failure earlier ≡ None
passed_first [] later none = refl
passed_first ((true, said) ∷ more) later none = cc
passed_first ((false, said) ∷ more) later none = passed_first more later none
