-- Numbers spelled as bytes, in either order.
use Rattle.std.proofs.Common.{◌≡◌, ℕ, ◌+◌, ◌^◌, ◌<◌, ◌≤◌, List, ◌++◌, length, take, drop, sym, ap, ◌∙◌, arith}
use Rattle.std.proofs.lemmas.List.{length-take, drop_at, drop-append-le, length-drop}
use Rattle.std.proofs.lemmas.Nat.{le_bytes_2, be_bytes_2, le_bytes_4, be_bytes_4}
use Rattle.byteorder.specs.Numbers.{big_from-take, little_from-take, big_from-append, little_from-append}
use Rattle.byteorder.specs.Numbers.{big_number-reads_back, little_number-reads_back, length-bytes_high_first}
use Rattle.byteorder.specs.Numbers.{length-bytes_low_first}
use Rattle.plain_text.specs.Octets.{AreBytes}
use Rattle.plain_text.proofs.Octets.{AreBytes-take}
use Rattle.pcap_io.specs.declared.order.Order.{Order}
use Rattle.pcap_io.specs.declared.order.Order.TheVariants.{Little, Big}
use Rattle.pcap_io.specs.Capture.{spelled, number}

pub length-spelled : (o : Order) (n x : ℕ) → length (spelled o n x) ≡ n
length-spelled Little n x = length-bytes_low_first 0 n x
length-spelled Big n x = length-bytes_high_first n x

-- what was spelled is read again, whatever follows
pub number-spelled : (o : Order) (n x : ℕ) (rest : List ℕ) → x < 256 ^ n → number o n (spelled o n x ++ rest) ≡ x
number-spelled Little n x rest fits = little_number-reads_back n x rest fits
number-spelled Big n x rest fits = big_number-reads_back n x rest fits

pub number-append : (o : Order) (n : ℕ) (xs ys : List ℕ) → n ≤ length xs → number o n (xs ++ ys) ≡ number o n xs
number-append Little n xs ys h = little_from-append n xs ys h
number-append Big n xs ys h = big_from-append n xs ys h

pub number-drop : (o : Order) (n k : ℕ) (xs ys : List ℕ) → k + n ≤ length xs
    → number o n (drop k (xs ++ ys)) ≡ number o n (drop k xs)
number-drop o n k xs ys h =
    ap (number o n) (drop-append-le k xs ys (omega arith))
    ∙ number-append o n (drop k xs) ys (omega (arith, length-drop k xs))

-- what follows four bytes that spell a number
pub drop-spelled : (o : Order) (x : ℕ) (rest : List ℕ) → drop 4 (spelled o 4 x ++ rest) ≡ rest
drop-spelled o x rest = drop_at (spelled o 4 x) rest 4 (length-spelled o 4 x)

-- four bytes are what spells the number in them
pub spelled_4 : (o : Order) (xs : List ℕ) → 4 ≤ length xs → AreBytes xs → spelled o 4 (number o 4 xs) ≡ take 4 xs
spelled_4 Little xs long bytes =
    le_bytes_4 (take 4 xs) _ (omega (arith, length-take 4 xs)) (AreBytes-take 4 xs bytes)
    (sym (little_from-take 0 4 4 xs (omega arith)) ∙ omega arith)
spelled_4 Big xs long bytes =
    be_bytes_4 (take 4 xs) _ (omega (arith, length-take 4 xs)) (AreBytes-take 4 xs bytes)
    (sym (big_from-take 0 4 4 xs (omega arith)) ∙ omega arith)

pub spelled_2 : (o : Order) (xs : List ℕ) → 2 ≤ length xs → AreBytes xs → spelled o 2 (number o 2 xs) ≡ take 2 xs
spelled_2 Little xs long bytes =
    le_bytes_2 (take 2 xs) _ (omega (arith, length-take 2 xs)) (AreBytes-take 2 xs bytes)
    (sym (little_from-take 0 2 2 xs (omega arith)) ∙ omega arith)
spelled_2 Big xs long bytes =
    be_bytes_2 (take 2 xs) _ (omega (arith, length-take 2 xs)) (AreBytes-take 2 xs bytes)
    (sym (big_from-take 0 2 2 xs (omega arith)) ∙ omega arith)
