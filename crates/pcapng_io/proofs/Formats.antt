-- The first bytes of a capture tell its format.
use Rattle.std.proofs.Common.{◌≡◌, ℕ, ◌<◌, ◌≤◌, ◌==◌, ◌&&◌, Bool, true, false, not, List, [], ◌∷◌, ◌++◌, length, inl}
use Rattle.std.proofs.Common.{inr, refl, sym, ap, subst, ◌∙◌, arith, length-append}
use Rattle.std.specs.Prelude.{nat_lt}
use Rattle.std.proofs.lemmas.Bool.{cases_lt, le-ltb, ltb-false, eqb-true}
use Rattle.std.proofs.lemmas.List.{append-nil, take_all}
use Rattle.plain_text.specs.Octets.{AreBytes}
use Rattle.pcap_io.specs.declared.order.Order.{Order}
use Rattle.pcap_io.specs.declared.order.Order.TheVariants.{Little}
use Rattle.plain_text.specs.declared.packet.Unit.{Unit as TimeUnit}
use Rattle.pcap_io.specs.declared.started.Started.{Started}
use Rattle.pcap_io.specs.declared.started.Started.TheVariants as begun
use Rattle.pcap_io.specs.Capture.{number, spelled, header_of}
use Rattle.pcap_io.specs.Faults.{header_fault}
use Rattle.pcap_io.specs.Started.{Starts, TakesHeader, IsFresh}
use Rattle.pcap_io.proofs.Headers.{header_fault-append, length-header_of}
use Rattle.pcap_io.proofs.Spelled.{number-append, spelled_4}
use Rattle.pcapng_io.specs.Any.{any_started, StartsAny, TakesStart, IsHeader}
use Rattle.pcapng_io.specs.Capture.{begins_ng}
use Rattle.pcapng_io.specs.Stops.{held_type}

pub begins-long : (xs ys : List ℕ) → 4 ≤ length xs → begins_ng (xs ++ ys) ≡ begins_ng xs
begins-long xs ys long =
    rw (
      number-append Little 4 xs ys long,
      le-ltb (length (xs ++ ys)) 4 (omega (arith, length-append xs ys)),
      le-ltb (length xs) 4 long,
    ) refl

-- of the first bytes fewer than four are there only where nothing follows
pub begins-front : (xs ys : List ℕ) → (length xs < 4 → ys ≡ []) → begins_ng (xs ++ ys) ≡ begins_ng xs
begins-front xs ys ends = elim (cases_lt (length xs) 4) [
  | inl few ↦ ap (λ l. begins_ng (xs ++ l)) (ends few) ∙ ap begins_ng (append-nil xs)
  | inr enough ↦ begins-long xs ys (omega arith)
]

both : (a b : Bool) → a && b ≡ true → (a ≡ true) × (b ≡ true)
both true true is = (refl, refl)
both true false is = cc
both false b is = cc

not_true : (a : Bool) → not a ≡ true → a ≡ false
not_true true is = cc
not_true false is = refl

-- four bytes that begin a pcapng capture are the type of a section header
pub begins_type : (xs : List ℕ) → length xs ≤ 4 → AreBytes xs → begins_ng xs ≡ true → xs ≡ held_type true
begins_type xs few octets begins =
    let parts = both (not (nat_lt (length xs) 4)) (number Little 4 xs == 0x0a0d0d0a) begins in
    let long = ltb-false (length xs) 4 (not_true (nat_lt (length xs) 4) parts.0) in
    sym (ap (spelled Little 4) (sym (eqb-true (number Little 4 xs) 0x0a0d0d0a parts.1))
    ∙ spelled_4 Little xs (omega arith) octets
    ∙ take_all 4 xs (omega arith))

-- of a header fewer than 24 bytes are there only where nothing follows
pub header-front : (xs ys : List ℕ) → length xs ≤ 24 → (length xs < 24 → ys ≡ [])
    → header_fault (xs ++ ys) ≡ header_fault xs
header-front xs ys within ends = elim (cases_lt (length xs) 24) [
  | inl few ↦ ap (λ l. header_fault (xs ++ l)) (ends few) ∙ ap header_fault (append-nil xs)
  | inr enough ↦ header_fault-append xs ys (omega arith)
]

pub starts_any : (left xs : List ℕ) (s : Started) → begins_ng left ≡ false → header_fault left ≡ header_fault xs
    → Starts xs s → StartsAny left (any_started s)
starts_any left xs (begun.Reader r) other same starts = (other, same ∙ starts)
starts_any left xs (begun.Refused f) other same starts = (other, same ∙ starts)
starts_any left xs begun.ReadFault other same starts = tt
starts_any left xs begun.NoMemory other same starts = tt

none_behind : (xs rest : List ℕ) (n : ℕ) → length xs ≡ n → length (xs ++ rest) ≤ n → rest ≡ []
none_behind xs [] n size within = refl
none_behind xs (x ∷ rest) n size within = absurd (omega (arith, length-append xs (x ∷ rest)))

-- a header that was taken from its own bytes
pub header_whole : (o : Order) (u : TimeUnit) (unused head rest : List ℕ) → length unused ≡ 12 → length head ≤ 24
    → head ≡ header_of o u unused ++ rest → head ≡ header_of o u unused
header_whole o u unused head rest twelve within is =
    let none =
    none_behind (header_of o u unused) rest 24 (length-header_of o u unused [] twelve) (omega (arith, ap length is)) in
    is ∙ ap (λ l. header_of o u unused ++ l) none ∙ append-nil (header_of o u unused)

pub takes_header : (head rest : List ℕ) (s : Started) → length head ≤ 24
    → TakesHeader (λ (a taken b : List ℕ). a ≡ taken ++ b) s head rest → IsHeader s head
takes_header head rest (begun.Reader r) within (unused, twelve, is) =
    (unused, twelve, header_whole r.order r.unit unused head rest twelve within is)
takes_header head rest (begun.Refused f) within taken = tt
takes_header head rest begun.ReadFault within taken = tt
takes_header head rest begun.NoMemory within taken = tt

module _ {S : Type 0} (reads : S → List ℕ → S → Type 0) (old new : S) where
  pub takes_start : (xs : List ℕ) (s : Started) → reads old xs new → IsHeader s xs → IsFresh s
      → TakesStart reads (any_started s) old new
  takes_start xs (begun.Reader r) taken (unused, twelve, is) fresh =
      let Taken : List ℕ → Type 0 = λ l. reads old l new in
      ((unused, twelve, subst Taken is taken), fresh)
  takes_start xs (begun.Refused f) taken head fresh = (xs, taken)
  takes_start xs begun.ReadFault taken head fresh = (xs, taken)
  takes_start xs begun.NoMemory taken head fresh = (xs, taken)
