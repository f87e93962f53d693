-- Numbers that are bytes stay so in parts of a list, and where lists are joined.
use Rattle.std.proofs.Common.{◌≡◌, ℕ, ◌+◌, ◌-◌, List, ◌++◌, length, take, drop, arith, inl, inr}
use Rattle.std.proofs.lemmas.List.{length-take, get_or-take, get_or-drop, get_or_past, get_or_append_left}
use Rattle.std.proofs.lemmas.List.{get_or-append-add}
use Rattle.std.proofs.lemmas.Bool.{cases_lt}
use Rattle.plain_text.specs.Octets.{AreBytes}

pub AreBytes-take : (n : ℕ) (xs : List ℕ) → AreBytes xs → AreBytes (take n xs)
AreBytes-take n xs bytes i = elim (cases_lt i n) [
  | inl inside ↦ rw (get_or-take n xs i 0 inside) (bytes i)
  | inr past ↦ rw (get_or_past (take n xs) i 0 (omega (arith, length-take n xs))) (omega arith)
]

pub AreBytes-drop : (n : ℕ) (xs : List ℕ) → AreBytes xs → AreBytes (drop n xs)
AreBytes-drop n xs bytes i = rw (get_or-drop n xs i 0) (bytes (n + i))

pub AreBytes-append : (xs ys : List ℕ) → AreBytes xs → AreBytes ys → AreBytes (xs ++ ys)
AreBytes-append xs ys first second i = elim (cases_lt i (length xs)) [
  | inl inside ↦ rw (get_or_append_left xs ys 0 i inside) (first i)
  | inr past ↦
      let at : length xs + (i - length xs) ≡ i = omega arith in
      rw (← at, get_or-append-add xs ys (i - length xs) 0) (second (i - length xs))
]
