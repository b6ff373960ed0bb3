-- The front of some bytes: what more bytes do to it, how far it reaches, and what the code's `front` says of it.
-- Assumes nothing.
use mathlib.Core.Path.{◌≡◌, refl, sym, ap, ◌∙◌, subst}
use mathlib.Core.List.{List, [], ◌∷◌, ◌++◌}
use mathlib.Core.Bool.{Bool, true, false, ◌&&◌}
use Prim.Native.Nat.{ℕ, zero, suc, ◌+◌, ◌-◌, ◌≤◌, ◌<◌}
use native.Mathlib.Omega.{arith}
use borrow.Author.Tests.{le-leb, lt-leb, leb-true, leb-false}
use lib.Dec.{leb, lit<}
use lib.ListN.{length, take, drop, get_or, length-append, length-drop, get_or-append, take-append-drop}
use lib.Seq.{take-append-le, drop-append-le, drop-append-add, length-take-le, take-append_seam, drop-append_seam, drop-drop, drop-cons}
use Rattle.field.specs.Bytes.{be, part, digits, Bytes}
use Rattle.field.proofs.Numbers.{value-digits, digits_value}
use Rattle.packet.specs.Frame.{longest_packet, held_size, Framed, short, bad_length, packet, framed, frame, packet_bytes, front_of}
use Rattle.packet.specs.declared.Framing.{Framing}
use Rattle.packet.specs.declared.Framing.TheVariants.{Short, BadLength, Whole}

-- ---- the three ways in which `framed` ends

pub data Way (L : ℕ) (bs : List ℕ) : Framed → Type 0 where
  bad : (leb 1 L && leb L longest_packet) ≡ false → Way L bs (bad_length bs)
  waits : 1 ≤ L → L ≤ longest_packet → length bs < L → Way L bs short
  whole : 1 ≤ L → L ≤ longest_packet → L ≤ length bs → Way L bs (packet (get_or bs 0 0) (take (L - 1) (drop 1 bs)) (drop L bs))

module _ (L : ℕ) (bs : List ℕ) where
  framed-bad : (leb 1 L && leb L longest_packet) ≡ false → framed L bs ≡ bad_length bs
  unfolding framed
  framed-bad e = rw e

  pub framed-low : L < 1 → framed L bs ≡ bad_length bs
  framed-low h = framed-bad (rw (lt-leb 1 L h))

  pub framed-high : 1 ≤ L → longest_packet < L → framed L bs ≡ bad_length bs
  framed-high h k = framed-bad (rw (le-leb 1 L h, lt-leb L longest_packet k))

  module _ (low : 1 ≤ L) (high : L ≤ longest_packet) where
    framed-waits : length bs < L → framed L bs ≡ short
    unfolding framed
    framed-waits h = simp (le-leb 1 L low, le-leb L longest_packet high, lt-leb L (length bs) h)

    pub framed-whole : L ≤ length bs → framed L bs ≡ packet (get_or bs 0 0) (take (L - 1) (drop 1 bs)) (drop L bs)
    unfolding framed
    framed-whole h = simp (le-leb 1 L low, le-leb L longest_packet high, le-leb L (length bs) h)

  pub ways : Way L bs (framed L bs)
  ways = low (leb 1 L) refl
    where
      fits : 1 ≤ L → L ≤ longest_packet → (t : Bool) → leb L (length bs) ≡ t → Way L bs (framed L bs)
      fits h k true e = let l = leb-true L (length bs) e in rw (framed-whole h k l) (whole h k l)
      fits h k false e = let l = leb-false L (length bs) e in rw (framed-waits h k l) (waits h k l)

      high : leb 1 L ≡ true → (t : Bool) → leb L longest_packet ≡ t → Way L bs (framed L bs)
      high h true e = fits (leb-true 1 L h) (leb-true L longest_packet e) (leb L (length bs)) refl
      high h false e = let b : (leb 1 L && leb L longest_packet) ≡ false = simp (h, e) in rw (framed-bad b) (bad b)

      low : (t : Bool) → leb 1 L ≡ t → Way L bs (framed L bs)
      low true e = high e (leb L longest_packet) refl
      low false e = let b : (leb 1 L && leb L longest_packet) ≡ false = simp e in rw (framed-bad b) (bad b)

-- L of some bytes that have one
abbrev size_of : ℕ → ℕ → ℕ
size_of high low = be (high ∷ low ∷ [])

-- ---- something was found: a bad length, or a packet

abbrev pub Found : Framed → Type 0
Found short = ⊥
Found (bad_length r) = Unit
Found (packet l b r) = Unit

-- the bytes after it
abbrev pub after : Framed → List ℕ
after short = []
after (bad_length r) = r
after (packet l b r) = r

-- the same, with more bytes at the end
abbrev pub grown : Framed → List ℕ → Framed
grown short ys = short
grown (bad_length r) ys = bad_length (r ++ ys)
grown (packet l b r) ys = packet l b (r ++ ys)

framed-grows : (L : ℕ) (bs ys : List ℕ) {f : Framed} → Way L bs f → Found f → framed L (bs ++ ys) ≡ grown f ys
framed-grows L bs ys (bad e) t = framed-bad L (bs ++ ys) e
framed-grows L bs ys (waits h k l) t = absurd t
framed-grows L bs ys (whole h k l) t =
    let a : 1 ≤ length bs = omega arith in
    let b : L - 1 ≤ length (drop 1 bs) = simp length-drop (omega arith) in
    framed-whole L (bs ++ ys) h k (simp length-append (omega arith))
    ∙ cc (get_or-append bs ys 0 0 a, drop-append-le 1 bs ys a, take-append-le (L - 1) (drop 1 bs) ys b, drop-append-le L bs ys l)

-- more bytes do not change what was found
pub frame-grows : (xs ys : List ℕ) {f : Framed} → frame xs ≡ f → Found f → frame (xs ++ ys) ≡ grown f ys
unfolding frame
frame-grows [] ys e t = absurd (rw (← e) at t)
frame-grows (a ∷ []) ys e t = absurd (rw (← e) at t)
frame-grows (a ∷ b ∷ bs) ys e t = framed-grows (size_of a b) bs ys (rw e at (ways (size_of a b) bs)) t

-- how far it reaches
pub record Reach (xs r : List ℕ) : Type 0 where
  pub far : ℕ
  pub some : 2 ≤ far
  pub within : far ≤ length xs
  pub is : r ≡ drop far xs

framed-reach : (L a b : ℕ) (bs : List ℕ) {f : Framed} → Way L bs f → Found f → Reach (a ∷ b ∷ bs) (after f)
framed-reach L a b bs (bad e) t = record { far = 2; some = omega arith; within = omega arith; is = refl }
framed-reach L a b bs (waits h k l) t = absurd t
framed-reach L a b bs (whole h k l) t = record { far = suc (suc L); some = omega arith; within = omega arith; is = refl }

pub frame-reach : (xs : List ℕ) {f : Framed} → frame xs ≡ f → Found f → Reach xs (after f)
unfolding frame
frame-reach [] e t = absurd (rw (← e) at t)
frame-reach (a ∷ []) e t = absurd (rw (← e) at t)
frame-reach (a ∷ b ∷ bs) e t = framed-reach (size_of a b) a b bs (rw e at (ways (size_of a b) bs)) t

-- what stands after it is shorter
pub after-shorter : (xs : List ℕ) {f : Framed} → frame xs ≡ f → Found f → length (after f) + 2 ≤ length xs
after-shorter xs e t =
    let r = frame-reach xs e t in
    rw r.is (simp length-drop (omega (arith, r.some, r.within)))

-- ---- a piece that finishes a held packet

-- what was short, and is found once `piece` has come, ends in `piece`
framed-ends : (L : ℕ) (hs piece : List ℕ) {f g : Framed} → Way L hs g → g ≡ short → Way L (hs ++ piece) f → Found f
    → length (after f) < length piece
framed-ends L hs piece (bad e') g w t = let z : ◌≡◌ {A = ℕ} 0 1 = cc in omega arith
framed-ends L hs piece (whole h k l) g w t = let z : ◌≡◌ {A = ℕ} 0 1 = cc in omega arith
framed-ends L hs piece (waits h k l) g (bad e) t =
    let y : (leb 1 L && leb L longest_packet) ≡ true = simp (le-leb 1 L h, le-leb L longest_packet k) in
    let z : ◌≡◌ {A = ℕ} 0 1 = cc in
    omega arith
framed-ends L hs piece (waits h k l) g (waits h' k' l') t = absurd t
framed-ends L hs piece (waits h k l) g (whole h' k' l') t = simp (length-drop, length-append) (omega (arith, simp length-append at l'))

pub frame-ends : (held piece : List ℕ) {f : Framed} → frame held ≡ short → frame (held ++ piece) ≡ f → Found f
    → length (after f) < length piece
unfolding frame
frame-ends [] piece h e t = omega (arith, after-shorter piece e t)
frame-ends (a ∷ []) [] h e t = absurd (rw (← e) at t)
frame-ends (a ∷ []) (b ∷ bs) h e t = omega (arith, after-shorter (a ∷ b ∷ bs) e t)
frame-ends (a ∷ b ∷ hs) piece h e t =
    framed-ends (size_of a b) hs piece (ways (size_of a b) hs) h (rw e at (ways (size_of a b) (hs ++ piece))) t

-- then what is left of `piece`, after what was taken of it, is what stands after the packet
pub frame-left : (held piece : List ℕ) {f : Framed} → frame held ≡ short → frame (held ++ piece) ≡ f → Found f
    → drop (length piece - length (after f)) piece ≡ after f
frame-left held piece {f} h e t =
    sym (drop-append-add held piece (length piece - length (after f)))
    ∙ ap (λ (k : ℕ). drop k (held ++ piece)) (sym m)
    ∙ sym r.is
  where
    r : Reach (held ++ piece) (after f)
    r = frame-reach (held ++ piece) e t

    l : length (after f) < length piece
    l = frame-ends held piece h e t

    n : length (after f) ≡ length held + length piece - r.far
    n = ap length r.is ∙ simp (length-drop, length-append)

    within : r.far ≤ length held + length piece
    within = simp length-append at r.within

    m : r.far ≡ length held + (length piece - length (after f))
    m = omega (arith, n, l, within)

-- an unfinished packet fits into what is held, with a byte to spare
framed-short : (L : ℕ) (bs : List ℕ) {f : Framed} → Way L bs f → f ≡ short → length bs < longest_packet
framed-short L bs (bad e) g = let z : ◌≡◌ {A = ℕ} 0 1 = cc in omega arith
framed-short L bs (waits h k l) g = omega arith
framed-short L bs (whole h k l) g = let z : ◌≡◌ {A = ℕ} 0 1 = cc in omega arith

pub short-fits : (xs : List ℕ) → frame xs ≡ short → length xs < held_size
unfolding frame
short-fits [] e = omega arith
short-fits (a ∷ []) e = omega arith
short-fits (a ∷ b ∷ bs) e = omega (arith, framed-short (size_of a b) bs (ways (size_of a b) bs) e)

-- ---- A PACKET'S BYTES are that packet

pub frame-packet : (letter : ℕ) (body rest : List ℕ) → length body < longest_packet → frame (packet_bytes letter body ++ rest) ≡ packet letter body rest
unfolding frame packet_bytes digits
frame-packet letter body rest h =
    let L : ℕ = length body + 1 in
    let n : L - 1 ≡ length body = omega arith in
    let m : L ≡ suc (length body) = omega arith in
    let l : L ≤ length (letter ∷ (body ++ rest)) = simp length-append (omega arith) in
    ap (λ (k : ℕ). framed k (letter ∷ (body ++ rest))) (value-digits 256 (lit< tt) 2 L (omega arith))
    ∙ framed-whole L (letter ∷ (body ++ rest)) (omega arith) (omega arith) l
    ∙ rw (n, m) (cc (take-append_seam body rest, drop-append_seam body rest))

-- and a packet is found in its own bytes alone
abbrev bytes_of : Framed → List ℕ
bytes_of short = []
bytes_of (bad_length r) = []
bytes_of (packet l b r) = packet_bytes l b ++ r

abbrev IsPacket : Framed → Type 0
IsPacket short = ⊥
IsPacket (bad_length r) = ⊥
IsPacket (packet l b r) = Unit

both_bytes : (a b : ℕ) → a < 256 → b < 256 → Bytes (a ∷ b ∷ [])
both_bytes a b h k zero = h
both_bytes a b h k (suc zero) = k
both_bytes a b h k (suc (suc i)) = lit< tt

way-bytes : (a b : ℕ) (bs : List ℕ) → a < 256 → b < 256 → {f : Framed} → Way (size_of a b) bs f → IsPacket f → bytes_of f ≡ a ∷ b ∷ bs
unfolding packet_bytes
way-bytes a b bs h k (bad e) t = absurd t
way-bytes a b bs h k (waits l m n) t = absurd t
way-bytes a b bs h k (whole l m n) t =
    let L : ℕ = size_of a b in
    let i : length (take (L - 1) (drop 1 bs)) ≡ L - 1 = length-take-le (L - 1) (drop 1 bs) (simp length-drop (omega arith)) in
    let j : L - 1 + 1 ≡ L = omega arith in
    let o : 1 + (L - 1) ≡ L = omega arith in
    let d : drop L bs ≡ drop (L - 1) (drop 1 bs) = rw o at (sym (drop-drop (L - 1) 1 bs)) in
    rw (i, j, digits_value 256 (lit< tt) (a ∷ b ∷ []) (both_bytes a b h k), d, take-append-drop (L - 1) (drop 1 bs))
    (ap (λ (x : List ℕ). a ∷ b ∷ x) (sym (drop-cons bs 0 0 (omega arith))))

pub packet-frame : (bs : List ℕ) {l : ℕ} {b r : List ℕ} → Bytes bs → frame bs ≡ packet l b r → packet_bytes l b ++ r ≡ bs
unfolding frame
packet-frame [] h e = let z : ◌≡◌ {A = ℕ} 0 1 = cc in absurd (omega arith)
packet-frame (x ∷ []) h e = let z : ◌≡◌ {A = ℕ} 0 1 = cc in absurd (omega arith)
packet-frame (x ∷ y ∷ bs) h e = way-bytes x y bs (h 0) (h 1) (rw e at (ways (size_of x y) bs)) tt

-- ---- the ways of `front`

pub front-few : (bs : List ℕ) → length bs < 2 → Short ≡ front_of (frame bs)
unfolding frame
front-few [] h = refl
front-few (a ∷ []) h = refl
front-few (a ∷ b ∷ bs) h = absurd (omega arith)

-- two bytes and more
frame_on : (bs : List ℕ) → 2 ≤ length bs → frame bs ≡ framed (be (part bs 0 2)) (drop 2 bs)
unfolding frame part
frame_on [] h = absurd (omega arith)
frame_on (a ∷ []) h = absurd (omega arith)
frame_on (a ∷ b ∷ bs) h = refl

module _ (bs : List ℕ) (L : ℕ) (two : 2 ≤ length bs) (is : L ≡ be (part bs 0 2)) where
  on : frame bs ≡ framed L (drop 2 bs)
  on = frame_on bs two ∙ ap (λ (n : ℕ). framed n (drop 2 bs)) (sym is)

  pub front_low : L < 1 → BadLength ≡ front_of (frame bs)
  front_low h = rw (on, framed-low L (drop 2 bs) h)

  module _ (low : 1 ≤ L) where
    pub front-high : longest_packet < L → BadLength ≡ front_of (frame bs)
    front-high h = rw (on, framed-high L (drop 2 bs) low h)

    module _ (high : L ≤ longest_packet) where
      pub front-waits : length bs - 2 < L → Short ≡ front_of (frame bs)
      front-waits h = rw (on, framed-waits L (drop 2 bs) low high (rw length-drop h))

      pub front-whole : L ≤ length bs - 2 → Whole L ≡ front_of (frame bs)
      front-whole h =
          let l : L ≤ length (drop 2 bs) = rw length-drop h in
          let m : length (take (L - 1) (drop 1 (drop 2 bs))) ≡ L - 1 = length-take-le (L - 1) (drop 1 (drop 2 bs)) (simp length-drop (omega arith)) in
          rw (on, framed-whole L (drop 2 bs) low high l, m) (ap Whole (omega arith))

-- ---- what is there, where `front` says so

pub record BadAt (bs : List ℕ) : Type 0 where
  pub two : 2 ≤ length bs
  pub is : frame bs ≡ bad_length (drop 2 bs)

pub record WholeAt (bs : List ℕ) (n : ℕ) : Type 0 where
  pub low : 1 ≤ n
  pub high : n ≤ longest_packet
  pub there : n + 2 ≤ length bs
  pub is : frame bs ≡ packet (get_or bs 2 0) (take (n + 2 - 3) (drop 3 bs)) (drop (n + 2) bs)

abbrev There : List ℕ → Framing → Type 0
There bs Short = frame bs ≡ short
There bs BadLength = BadAt bs
There bs (Whole n) = WholeAt bs n

way-there : (L a b : ℕ) (bs : List ℕ) {f : Framed} → Way L bs f → frame (a ∷ b ∷ bs) ≡ f → There (a ∷ b ∷ bs) (front_of f)
way-there L a b bs (bad e) g = record { two = omega arith; is = g }
way-there L a b bs (waits h k l) g = g
way-there L a b bs (whole h k l) g =
    let m : length (take (L - 1) (drop 1 bs)) ≡ L - 1 = length-take-le (L - 1) (drop 1 bs) (simp length-drop (omega arith)) in
    let n : L - 1 + 1 ≡ L = omega arith in
    let p : L + 2 - 3 ≡ L - 1 = omega arith in
    let q : L + 2 ≡ suc (suc L) = omega arith in
    rw (m, n) (record { low = h; high = k; there = omega arith; is = rw (p, q) g })

front-there : (bs : List ℕ) → There bs (front_of (frame bs))
unfolding frame
front-there [] = refl
front-there (a ∷ []) = refl
front-there (a ∷ b ∷ bs) = way-there (size_of a b) a b bs (ways (size_of a b) bs) refl

module _ (bs : List ℕ) {r : Framing} (e : r ≡ front_of (frame bs)) where
  found : {w : Framing} → r ≡ w → There bs w
  found f = subst (There bs) (sym e ∙ f) (front-there bs)

  pub short-there : r ≡ Short → frame bs ≡ short
  short-there f = found f

  pub bad-there : r ≡ BadLength → BadAt bs
  bad-there f = found f

  pub whole-there : {n : ℕ} → r ≡ Whole n → WholeAt bs n
  whole-there f = found f
