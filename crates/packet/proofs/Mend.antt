-- A packet that was cut: as much of the piece as there is room for is copied behind what is held, and the packet is found there.
-- Assumes nothing.
use mathlib.Core.Path.{◌≡◌, refl, sym, ap, ◌∙◌}
use mathlib.Core.List.{List, [], ◌++◌}
use mathlib.Core.Bool.{Bool, true, false, cond}
use Prim.Native.Nat.{ℕ, ◌+◌, ◌-◌, ◌≤◌, ◌<◌}
use native.Mathlib.Nat.{zero-add}
use native.Mathlib.Omega.{arith}
use borrow.Author.Tests.{ltb-true, ltb-false}
use lib.Dec.{ltb}
use lib.ListN.{length, take, drop, get_or}
use lib.Seq.{take_all, take-length, length-take-le}
use Rattle.field.specs.Bytes.{part, overlay}
use Rattle.field.proofs.Parts.{take-overlay-end}
use Rattle.packet.specs.Frame.{held_size, room_for, Framed, short, bad_length, packet, frame, front_of}
use Rattle.packet.specs.Refusals.{fault_number}
use Rattle.packet.specs.Stream.{Verdict, accept, finish, refuse, live, More, Stepped, step_judged, step_of}
use Rattle.packet.specs.declared.Fault.TheVariants.{BadLength}
use Rattle.packet.proofs.Frame.{short-fits, BadAt, WholeAt, bad-there, whole-there}
use Rattle.packet.proofs.Seen.{step-short, step-bad, step-whole, ends, seen-length, straight-bad, straight-whole}

-- ---- the room behind what is held

-- it fits; it is of the piece; and a piece that does not fill it is in it whole
pub record Room (used len n : ℕ) : Type 0 where
  pub fits : used + n ≤ held_size
  pub within : n ≤ len
  pub rest : used + n < held_size → len ≤ n

pub room-for : (used len : ℕ) {n : ℕ} → used ≤ held_size → n ≡ room_for used len → Room used len n
unfolding room_for
room-for used len {n} h = by (ltb len (held_size - used)) refl
  where
    by : (t : Bool) → ltb len (held_size - used) ≡ t → n ≡ cond t len (held_size - used) → Room used len n
    by true e f = let l = ltb-true len (held_size - used) e in record { fits = omega arith; within = omega arith; rest = λ _. omega arith }
    by false e f = let l = ltb-false len (held_size - used) e in record { fits = omega arith; within = omega arith; rest = λ g. omega arith }

module _ (used len : ℕ) {n : ℕ} (start : used ≤ held_size) (e : n ≡ room_for used len) where
  pub room_fits : used + n ≤ held_size
  room_fits = (room-for used len start e).fits

  pub room_within : n ≤ len
  room_within = (room-for used len start e).within

-- what the copy left
pub join : (held : List ℕ) (used : ℕ) (piece : List ℕ) (n : ℕ) (all : List ℕ) → length held ≡ held_size → used + n ≤ held_size → n ≤ length piece
    → all ≡ overlay held used (part piece 0 n) → take (used + n) all ≡ take used held ++ take n piece
unfolding part
join held used piece n all l r w e =
    let m : length (part piece 0 n) ≡ n = length-take-le n piece w in
    rw e (rw m at (take-overlay-end held used (part piece 0 n) (omega arith)))

-- ---- a packet that was cut

pub record Copied (held : List ℕ) (used : ℕ) (piece : List ℕ) (n : ℕ) (all : List ℕ) : Type 0 where
  pub long : length held ≡ held_size
  pub start : used ≤ held_size
  pub unfinished : frame (take used held) ≡ short
  pub room : Room used (length piece) n
  pub joined : take (used + n) all ≡ take used held ++ take n piece

pub copied : (held : List ℕ) (used : ℕ) (piece : List ℕ) (n : ℕ) (all : List ℕ) → length held ≡ held_size → used ≤ held_size
    → frame (take used held) ≡ short → n ≡ room_for used (length piece) → all ≡ overlay held used (part piece 0 n)
    → Copied held used piece n all
copied held used piece n all l u f r e =
    let m = room-for used (length piece) u r in
    record { long = l; start = u; unfinished = f; room = m; joined = join held used piece n all l m.fits m.within e }

module _ (held : List ℕ) (used : ℕ) (piece : List ℕ) (n : ℕ) (all : List ℕ) (c : Copied held used piece n all) where
  start-length : length (take used held) ≡ used
  start-length = length-take-le used held (omega (arith, c.long, c.start))

  -- what was found there stands in what is held and the piece
  moved : (g : List ℕ → Framed) → frame (take (used + n) all) ≡ g (take (used + n) all)
      → frame (take used held ++ take n piece) ≡ g (take used held ++ take n piece)
  moved g e = ap frame (sym c.joined) ∙ e ∙ ap g c.joined

  long-there : {k : ℕ} → k ≤ length (take (used + n) all) → k ≤ length (take used held ++ take n piece)
  long-there h = rw c.joined at h

  whole-moved : {k : ℕ} → WholeAt (take (used + n) all) k
      → frame (take used held ++ take n piece)
      ≡ packet (get_or (take (used + n) all) 2 0) (take (k + 2 - 3) (drop 3 (take (used + n) all))) (drop (k + 2) (take used held ++ take n piece))
  whole-moved {k} w = moved (λ x. packet (get_or (take (used + n) all) 2 0) (take (k + 2 - 3) (drop 3 (take (used + n) all))) (drop (k + 2) x)) w.is

  -- it ends behind what was held
  pub bad-past : BadAt (take (used + n) all) → used < 2
  bad-past w =
      omega (
        arith,
        ends (take used held) piece n c.room.within 2 (long-there w.two) c.unfinished (moved (λ x. bad_length (drop 2 x)) w.is) tt refl,
        start-length,
      )

  pub whole-past : (k : ℕ) → WholeAt (take (used + n) all) k → used < k + 2
  whole-past k w =
      omega (
        arith,
        ends (take used held) piece n c.room.within (k + 2) (long-there w.there) c.unfinished (whole-moved w) tt refl,
        start-length,
      )

  -- where no packet was found, the whole piece was copied
  module _ (w : frame (take (used + n) all) ≡ short) where
    pub all-copied : length piece ≤ n
    all-copied =
        c.room.rest (omega (
          arith,
          short-fits (take used held ++ take n piece) (ap frame (sym c.joined) ∙ w),
          seen-length (take used held) piece n c.room.within,
          start-length,
        ))

    pub mend-length : length (take (used + n) all) ≡ used + n
    mend-length = ap length c.joined ∙ seen-length (take used held) piece n c.room.within ∙ ap (λ (k : ℕ). k + n) start-length

  module _ {S E : Type 0} (judge : S → ℕ → List ℕ → Verdict S E) (s : S) where
    pub mend-short : frame (take (used + n) all) ≡ short
        → step_of judge (live s (take used held)) piece ≡ record { state = live s (take (used + n) all); taken = n; answer = More }
    mend-short w =
        let e : n ≡ length piece = omega (arith, all-copied w, c.room.within) in
        let whole : take (used + n) all ≡ take used held ++ piece
        = c.joined ∙ ap (λ (l : List ℕ). take used held ++ l) (take_all n piece (all-copied w)) in
        step-short judge s (take used held) piece (ap frame (sym whole) ∙ w) ∙ rw (← whole, ← e)

    pub mend-bad : BadAt (take (used + n) all)
        → step_of judge (live s (take used held)) piece ≡ step_judged (2 - used) (refuse (fault_number BadLength) s)
    mend-bad w =
        step-bad (take used held) piece n c.room.within judge s c.unfinished (long-there w.two) (moved (λ x. bad_length (drop 2 x)) w.is)
        ∙ rw start-length

    pub mend-whole : (k : ℕ) → WholeAt (take (used + n) all) k
        → step_of judge (live s (take used held)) piece
        ≡ step_judged (k + 2 - used) (judge s (get_or (take (used + n) all) 2 0) (take (k + 2 - 3) (drop 3 (take (used + n) all))))
    mend-whole k w =
        step-whole (take used held) piece n c.room.within judge s c.unfinished (k + 2) _ _ (long-there w.there) (whole-moved w)
        ∙ rw start-length

-- ---- a packet that was not cut: nothing is held, and it is found in the piece

module _ (held : List ℕ) (used : ℕ) (piece : List ℕ) (none : used ≡ 0) {S E : Type 0} (judge : S → ℕ → List ℕ → Verdict S E) (s : S) where
  nothing : step_of judge (live s (take used held)) piece ≡ step_of judge (live s []) piece
  nothing = ap (λ (k : ℕ). step_of judge (live s (take k held)) piece) none

  pub lies-short : (all : List ℕ) → take (length piece) all ≡ piece → frame piece ≡ short
      → step_of judge (live s (take used held)) piece ≡ record { state = live s (take (length piece) all); taken = length piece; answer = More }
  lies-short all e w = nothing ∙ step-short judge s [] piece w ∙ rw e

  pub lies-bad : BadAt piece → step_of judge (live s (take used held)) piece ≡ step_judged 2 (refuse (fault_number BadLength) s)
  lies-bad w = nothing ∙ straight-bad judge s piece w.two w.is

  pub lies_whole : (k : ℕ) → WholeAt piece k
      → step_of judge (live s (take used held)) piece ≡ step_judged (k + 2) (judge s (get_or piece 2 0) (take (k + 2 - 3) (drop 3 piece)))
  lies_whole k w = nothing ∙ straight-whole judge s piece (k + 2) _ _ w.there w.is

-- a piece that is no whole packet, copied to the start
pub lies_joined : (held piece all : List ℕ) → length held ≡ held_size → frame piece ≡ short → all ≡ overlay held 0 (part piece 0 (length piece))
    → take (length piece) all ≡ piece
lies_joined held piece all l w e =
    rw zero-add at (join held 0 piece (length piece) all l (omega (arith, short-fits piece w)) (omega arith) e) ∙ take-length piece

-- ---- a cut packet is the one that lies in the joined bytes, and the bytes that were held are not taken again

abbrev pub fewer : {S E : Type 0} → ℕ → Stepped S E → Stepped S E
fewer k r = record { state = r.state; taken = r.taken - k; answer = r.answer }

fewer-judged : {S E : Type 0} (n k : ℕ) (v : Verdict S E) → step_judged (n - k) v ≡ fewer k (step_judged n v)
fewer-judged n k (accept e s) = refl
fewer-judged n k (finish e s) = refl
fewer-judged n k (refuse r s) = refl

module _ (held : List ℕ) (used : ℕ) (piece : List ℕ) (n : ℕ) (all : List ℕ) (c : Copied held used piece n all)
    {S E : Type 0} (judge : S → ℕ → List ℕ → Verdict S E) (s : S) where
  abbrev bytes : List ℕ
  bytes = take (used + n) all

  pub joined_step : step_of judge (live s (take used held)) piece ≡ fewer used (step_of judge (live s []) bytes)
  joined_step = by (frame bytes) refl
    where
      by : (f : Framed) → frame bytes ≡ f → step_of judge (live s (take used held)) piece ≡ fewer used (step_of judge (live s []) bytes)
      by short e =
          let m : n ≡ length bytes - used = omega (arith, mend-length held used piece n all c e) in
          mend-short held used piece n all c judge s e
          ∙ ap (λ (k : ℕ). record { state = live s bytes; taken = k; answer = More }) m
          ∙ ap (fewer used) (sym (step-short judge s [] bytes e))
      by (bad_length r) e =
          let b = bad-there bytes refl (ap front_of e) in
          mend-bad held used piece n all c judge s b ∙ fewer-judged 2 used (refuse (fault_number BadLength) s) ∙ ap (fewer used) (sym (straight-bad judge s bytes b.two b.is))
      by (packet l body r) e =
          let w = whole-there bytes refl (ap front_of e) in
          let k = length body + 1 in
          let v = judge s (get_or bytes 2 0) (take (k + 2 - 3) (drop 3 bytes)) in
          mend-whole held used piece n all c judge s k w ∙ fewer-judged (k + 2) used v
          ∙ ap (fewer used) (sym (straight-whole judge s bytes (k + 2) (get_or bytes 2 0) (take (k + 2 - 3) (drop 3 bytes)) w.there w.is))

  judged-takes : (k : ℕ) (v : Verdict S E) {r : Stepped S E} → r ≡ step_judged k v → used ≤ k → used ≤ r.taken
  judged-takes k (accept e t) f h = rw f h
  judged-takes k (finish e t) f h = rw f h
  judged-takes k (refuse m t) f h = rw f h

  -- the bytes that were held are among those taken
  pub joined-past : used ≤ (step_of judge (live s []) bytes).taken
  joined-past = by (frame bytes) refl
    where
      by : (f : Framed) → frame bytes ≡ f → used ≤ (step_of judge (live s []) bytes).taken
      by short e = rw (step-short judge s [] bytes e) (omega (arith, mend-length held used piece n all c e))
      by (bad_length r) e =
          let b = bad-there bytes refl (ap front_of e) in
          judged-takes 2 (refuse (fault_number BadLength) s) (straight-bad judge s bytes b.two b.is) (omega (arith, bad-past held used piece n all c b))
      by (packet l body r) e =
          let w = whole-there bytes refl (ap front_of e) in
          let k = length body + 1 in
          judged-takes (k + 2) (judge s (get_or bytes 2 0) (take (k + 2 - 3) (drop 3 bytes)))
          (straight-whole judge s bytes (k + 2) (get_or bytes 2 0) (take (k + 2 - 3) (drop 3 bytes)) w.there w.is)
          (omega (arith, whole-past held used piece n all c k w))
