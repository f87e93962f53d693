-- What is noted in a Local is read from it again.
use Rattle.std.specs.Prelude.{◌≡◌, ℕ, ◌+◌, ◌*◌, ◌%◌, ◌^◌, ◌<◌, ◌≤◌, Bool, true, false, ◌==◌, refl}
use Rattle.std.proofs.Common.{arith, ap, sym, ◌∙◌}
use Rattle.std.proofs.lemmas.Nat.{mod-mul-add}
use Rattle.plain_machine.specs.declared.local.Local.{Local}
use Rattle.balancer_box.specs.declared.place.Place.{Place}
use Rattle.balancer_box.specs.declared.place.Place.TheVariants.{HearsTime, FindsConnection, LowersIdle, RaisesLeast}
use Rattle.balancer_box.specs.declared.place.Place.TheVariants.{Connects, LowersSpare, ChecksConnection, CountsDrop}
use Rattle.balancer_box.specs.declared.place.Place.TheVariants.{SendsOut, LowersVain, Ends}
use Rattle.balancer_box.specs.declared.place.Class.{Class}
use Rattle.balancer_box.specs.declared.place.Class.TheVariants.{Client, Answer}
use Rattle.balancer_box.specs.declared.place.Tells.{Tells}
use Rattle.balancer_box.specs.declared.place.Tells.TheVariants.{Nothing, Opens, Finishes, Resets}
use Rattle.balancer_box.specs.declared.place.Noted.{Noted}
use Rattle.balancer_box.specs.Places.{number_of, place_numbered, number_of_class, class_of, number_of_flag, noted}
use Rattle.balancer_box.specs.Places.{number_of_tells, tells_numbered, local_of}

pub place_again : (p : Place) → place_numbered (number_of p) ≡ p
place_again HearsTime = refl
place_again FindsConnection = refl
place_again LowersIdle = refl
place_again RaisesLeast = refl
place_again Connects = refl
place_again LowersSpare = refl
place_again ChecksConnection = refl
place_again CountsDrop = refl
place_again SendsOut = refl
place_again LowersVain = refl
place_again Ends = refl

pub class_again : (c : Class) → class_of (number_of_class c) ≡ c
class_again Client = refl
class_again Answer = refl

pub flag_again : (b : Bool) → (number_of_flag b == 1) ≡ b
flag_again true = refl
flag_again false = refl

pub tells_again : (t : Tells) → tells_numbered (number_of_tells t) ≡ t
tells_again Nothing = refl
tells_again Opens = refl
tells_again Finishes = refl
tells_again Resets = refl

-- each number fits its field, with this number of backends
pub record IsNoted (backends : ℕ) (n : Noted) : Type 0 where
  pub protocol : n.client.protocol < 2 ^ 8
  pub address : n.client.address < 2 ^ 32
  pub port : n.client.port < 2 ^ 16
  pub backend : n.backend < backends
  pub spare : n.spare < backends

pub is_noted : (backends : ℕ) (l : Local) → 1 ≤ backends → IsNoted backends (noted backends l)
is_noted backends l some = record {
  protocol = omega arith;
  address = omega arith;
  port = omega arith;
  backend = omega arith;
  spare = omega arith;
}

small_again : (k n : ℕ) → k < n → k % n ≡ k
small_again k n low =
    let e : 0 * n + k ≡ k = omega arith in
    sym (ap (λ (x : ℕ). x % n) e) ∙ mod-mul-add 0 n k low

pub noted_again : (backends : ℕ) (p : Place) (n : Noted) → IsNoted backends n → noted backends (local_of p n) ≡ n
noted_again backends p n is =
    let c : class_of (number_of_class n.class) ≡ n.class = class_again n.class in
    let a1 : n.client.protocol % 2 ^ 8 ≡ n.client.protocol = omega (arith, is.protocol) in
    let a2 : n.client.address % 2 ^ 32 ≡ n.client.address = omega (arith, is.address) in
    let a3 : n.client.port % 2 ^ 16 ≡ n.client.port = omega (arith, is.port) in
    let a4 : (number_of_flag n.resets == 1) ≡ n.resets = flag_again n.resets in
    let a5 : n.backend % backends ≡ n.backend = small_again n.backend backends is.backend in
    let a7 : tells_numbered (number_of_tells n.tells) ≡ n.tells = tells_again n.tells in
    let a6 : n.spare % backends ≡ n.spare = small_again n.spare backends is.spare in
    λ i. record {
      class = c i;
      client = record { protocol = a1 i; address = a2 i; port = a3 i };
      resets = a4 i;
      time = n.time;
      backend = a5 i;
      spare = a6 i;
      reason = n.reason;
      tells = a7 i;
    }
