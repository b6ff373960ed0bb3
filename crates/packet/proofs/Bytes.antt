-- Lists whose elements are bytes: their parts and joins, and the body of a packet.
-- Assumes nothing.
use mathlib.Core.Path.{◌≡◌, refl, sym, ap, ◌∙◌, subst}
use mathlib.Core.List.{List, [], ◌∷◌, ◌++◌}
use Prim.Native.Nat.{ℕ, zero, suc, ◌+◌, ◌-◌, ◌/◌, ◌%◌, ◌^◌, ◌<◌}
use native.Mathlib.Omega.{arith}
use native.Mathlib.Nat.{mod-lt}
use lib.Dec.{lit<}
use lib.ListN.{length, drop, replicate}
use lib.Seq.{get_or-drop}
use Rattle.field.specs.Bytes.{Bytes, part, digits, bytes_be}
use Rattle.field.specs.Decimal.{digit_chars, digit_count, chars, spaces_then_chars}
use Rattle.field.proofs.Numbers.{part_bytes}
use Rattle.packet.specs.Frame.{packet, frame, front_of, packet_bytes}
use Rattle.packet.specs.Session.{login_packet}
use Rattle.packet.proofs.Frame.{WholeAt, whole-there}

pub bytes-none : Bytes []
bytes-none i = lit< tt

pub bytes-append : (xs ys : List ℕ) → Bytes xs → Bytes ys → Bytes (xs ++ ys)
bytes-append [] ys a b i = b i
bytes-append (x ∷ xs) ys a b zero = a 0
bytes-append (x ∷ xs) ys a b (suc i) = bytes-append xs ys (λ j. a (suc j)) b i

pub bytes_left : (xs ys : List ℕ) → Bytes (xs ++ ys) → Bytes xs
bytes_left [] ys h i = lit< tt
bytes_left (x ∷ xs) ys h zero = h 0
bytes_left (x ∷ xs) ys h (suc i) = bytes_left xs ys (λ j. h (suc j)) i

pub bytes-right : (xs ys : List ℕ) → Bytes (xs ++ ys) → Bytes ys
bytes-right [] ys h i = h i
bytes-right (x ∷ xs) ys h i = bytes-right xs ys (λ j. h (suc j)) i

pub bytes_drop : (n : ℕ) (xs : List ℕ) → Bytes xs → Bytes (drop n xs)
bytes_drop n xs h i = rw get_or-drop (h (n + i))

pub spaces-bytes : (n : ℕ) → Bytes (replicate n 32)
spaces-bytes zero i = lit< tt
spaces-bytes (suc n) zero = lit< tt
spaces-bytes (suc n) (suc i) = spaces-bytes n i

-- ---- numbers written in bytes, and in characters

pub digits-bytes : (n v : ℕ) → Bytes (bytes_be n v)
unfolding digits
digits-bytes zero v i = lit< tt
digits-bytes (suc n) v zero = mod-lt _ (lit< tt)
digits-bytes (suc n) v (suc i) = digits-bytes n v i

digit-bytes : (n v : ℕ) → Bytes (digit_chars n v)
unfolding digit_chars digits
digit-bytes zero v i = lit< tt
digit-bytes (suc n) v zero = let h : v / 10 ^ n % 10 < 10 = mod-lt _ (lit< tt) in omega (arith, h)
digit-bytes (suc n) v (suc i) = digit-bytes n v i

-- the login packet for a session of bytes
pub login-bytes : (session : List ℕ) (n : ℕ) → Bytes session → Bytes (login_packet session n)
unfolding packet_bytes spaces_then_chars chars
login-bytes session n b =
    let number : Bytes (spaces_then_chars 20 n)
    = bytes-append (replicate (20 - digit_count n) 32) (chars n) (spaces-bytes (20 - digit_count n)) (digit-bytes (digit_count n) n) in
    bytes-append (bytes_be 2 (length (session ++ spaces_then_chars 20 n) + 1)) (65 ∷ (session ++ spaces_then_chars 20 n))
    (digits-bytes 2 (length (session ++ spaces_then_chars 20 n) + 1))
    (bytes-append (65 ∷ []) (session ++ spaces_then_chars 20 n) (λ i. letter i) (bytes-append session (spaces_then_chars 20 n) b number))
  where
    letter : Bytes (65 ∷ [])
    letter zero = lit< tt
    letter (suc i) = lit< tt

-- what stands in a packet are bytes
pub frame-bytes : (bs : List ℕ) {l : ℕ} {b r : List ℕ} → frame bs ≡ packet l b r → Bytes bs → Bytes b
unfolding part
frame-bytes bs {b = b} e h =
    let w : WholeAt bs (length b + 1) = whole-there bs refl (ap front_of e) in
    let n : ℕ = length b + 1 + 2 - 3 in
    let i : part bs 3 n ≡ b = let z = sym w.is ∙ e in cc in
    subst Bytes i (part_bytes bs 3 n h)
