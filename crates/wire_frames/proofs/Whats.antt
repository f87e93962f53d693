-- What an entry did, and the three numbers that tell it.
use Rattle.std.proofs.Common.{◌≡◌, ℕ, ◌^◌, ◌<◌, ◌==◌, ◌&&◌, Bool, true, false, nat_lt, if◌then◌else◌, Some, None, refl}
use Rattle.std.proofs.Common.{sym, subst, arith}
use Rattle.std.proofs.lemmas.Bool.{ltb-true, eqb-true, lt-ltb, and_parts}
use Rattle.access_log.specs.FromEntryOrder.{What}
use Rattle.access_log.specs.FromEntryOrder.{Access, Read, Clock, Draw}
use Rattle.wire_frames.specs.declared.version.Version.{Version}
use Rattle.wire_frames.specs.declared.version.Version.TheVariants.{One, Two}
use Rattle.wire_frames.specs.Layout.{code_of, subject_of, place_field, IsDone}
use Rattle.wire_frames.specs.Places.{read_at, what_from}

pub what_from-numbers : (version : Version) (w : What) → IsDone version w
    → what_from version (code_of w) (subject_of w) (place_field w) ≡ Some w
what_from-numbers version (Access var place) done =
    rw (lt-ltb var 256 done.0, lt-ltb 0 place (omega (arith, done.1))) refl
what_from-numbers version (Clock value) done = refl
what_from-numbers version (Draw value) done = refl
what_from-numbers One (Read var after) done = absurd done
what_from-numbers Two (Read var after) done = rw (lt-ltb var 256 done.0) refl

abbrev pub Tells : Version → ℕ → ℕ → ℕ → What → Type 0
Tells version code subject place w =
    (code ≡ code_of w) × (subject ≡ subject_of w) × (place ≡ place_field w) × IsDone version w

access_from : (version : Version) (subject place : ℕ) (w : What) → place < 2 ^ 64 → (b : Bool)
    → (nat_lt subject 256 && nat_lt 0 place) ≡ b → (if b then Some (Access subject place) else None) ≡ Some w
    → Tells version 1 subject place w
access_from version subject place w fits true is some =
    let parts = and_parts (nat_lt subject 256) (nat_lt 0 place) is in
    let what : Access subject place ≡ w = cc in
    let P : What → Type 0 = λ x. Tells version 1 subject place x in
    subst P what (refl, refl, refl, (ltb-true _ _ parts.0, ltb-true _ _ parts.1, fits))
access_from version subject place w fits false is some = cc

clock_from : (version : Version) (subject place : ℕ) (w : What) → subject < 2 ^ 64 → (b : Bool) → (place == 0) ≡ b
    → (if b then Some (Clock subject) else None) ≡ Some w → Tells version 2 subject place w
clock_from version subject place w fits true is some =
    let what : Clock subject ≡ w = cc in
    let P : What → Type 0 = λ x. Tells version 2 subject place x in
    subst P what (refl, refl, eqb-true _ _ is, fits)
clock_from version subject place w fits false is some = cc

draw_from : (version : Version) (subject place : ℕ) (w : What) → subject < 2 ^ 64 → (b : Bool) → (place == 0) ≡ b
    → (if b then Some (Draw subject) else None) ≡ Some w → Tells version 3 subject place w
draw_from version subject place w fits true is some =
    let what : Draw subject ≡ w = cc in
    let P : What → Type 0 = λ x. Tells version 3 subject place x in
    subst P what (refl, refl, eqb-true _ _ is, fits)
draw_from version subject place w fits false is some = cc

read_from : (version : Version) (subject place : ℕ) (w : What) → place < 2 ^ 64 → read_at version subject place ≡ Some w
    → Tells version 4 subject place w
read_from One subject place w fits some = cc
read_from Two subject place w fits some = go (nat_lt subject 256) refl some
  where
    go : (b : Bool) → nat_lt subject 256 ≡ b → (if b then Some (Read subject place) else None) ≡ Some w
        → Tells Two 4 subject place w
    go true is some =
        let what : Read subject place ≡ w = cc in
        let P : What → Type 0 = λ x. Tells Two 4 subject place x in
        subst P what (refl, refl, refl, (ltb-true _ _ is, fits))
    go false is some = cc

module _ (version : Version) (code subject place : ℕ) (w : What) (s_fits : subject < 2 ^ 64)
    (p_fits : place < 2 ^ 64) where
  fourth : (b : Bool) → (code == 4) ≡ b → (if b then read_at version subject place else None) ≡ Some w
      → Tells version code subject place w
  fourth true is some =
      let P : ℕ → Type 0 = λ c. Tells version c subject place w in
      subst P (sym (eqb-true code 4 is)) (read_from version subject place w p_fits some)
  fourth false is some = cc

  third : (b : Bool) → (code == 3) ≡ b
      → (if b then (if place == 0 then Some (Draw subject) else None) else if code == 4
      then read_at version subject place else None)
      ≡ Some w → Tells version code subject place w
  third true is some =
      let P : ℕ → Type 0 = λ c. Tells version c subject place w in
      subst P (sym (eqb-true code 3 is)) (draw_from version subject place w s_fits (place == 0) refl some)
  third false is some = fourth (code == 4) refl some

  second : (b : Bool) → (code == 2) ≡ b
      → (if b then (if place == 0 then Some (Clock subject) else None) else if code == 3
      then (if place == 0 then Some (Draw subject) else None) else if code == 4
      then read_at version subject place else None)
      ≡ Some w → Tells version code subject place w
  second true is some =
      let P : ℕ → Type 0 = λ c. Tells version c subject place w in
      subst P (sym (eqb-true code 2 is)) (clock_from version subject place w s_fits (place == 0) refl some)
  second false is some = third (code == 3) refl some

  first : (b : Bool) → (code == 1) ≡ b
      → (if b then (if nat_lt subject 256 && nat_lt 0 place then Some (Access subject place) else None)
      else if code == 2 then (if place == 0 then Some (Clock subject) else None) else if code == 3
      then (if place == 0 then Some (Draw subject) else None) else if code == 4
      then read_at version subject place else None)
      ≡ Some w → Tells version code subject place w
  first true is some =
      let P : ℕ → Type 0 = λ c. Tells version c subject place w in
      subst P (sym (eqb-true code 1 is))
      (access_from version subject place w p_fits (nat_lt subject 256 && nat_lt 0 place) refl some)
  first false is some = second (code == 2) refl some

  -- numbers that tell what was done are its own
  pub numbers-what_from : what_from version code subject place ≡ Some w → Tells version code subject place w
  numbers-what_from some = first (code == 1) refl some
