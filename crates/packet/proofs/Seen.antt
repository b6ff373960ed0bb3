-- One call, where the code has seen only a part of the piece: enough of it for the packet.
-- Assumes nothing.
use mathlib.Core.Path.{◌≡◌, refl, sym, ap, ◌∙◌}
use mathlib.Core.List.{List, [], ◌++◌, append_assoc}
use Prim.Native.Nat.{ℕ, ◌+◌, ◌-◌, ◌≤◌, ◌<◌}
use native.Mathlib.Omega.{arith}
use lib.ListN.{length, take, drop, length-append, length-drop, take-append-drop}
use lib.Seq.{length-take-le}
use Rattle.packet.specs.Frame.{Framed, short, bad_length, packet, frame}
use Rattle.packet.specs.Refusals.{fault_number}
use Rattle.packet.specs.Stream.{Verdict, refuse, live, More, step_judged, step_framed, step_of}
use Rattle.packet.specs.declared.Fault.TheVariants.{BadLength}
use Rattle.packet.proofs.Frame.{Found, after, grown, frame-grows, frame-ends}

module _ (held piece : List ℕ) (n : ℕ) where
  abbrev pub seen : List ℕ
  seen = held ++ take n piece

  seen-whole : seen ++ drop n piece ≡ held ++ piece
  seen-whole = append_assoc held (take n piece) (drop n piece) ∙ ap (λ (l : List ℕ). held ++ l) (take-append-drop n piece)

  module _ (fits : n ≤ length piece) where
    pub seen-length : length seen ≡ length held + n
    seen-length = length-append held (take n piece) ∙ ap (λ (k : ℕ). length held + k) (length-take-le n piece fits)

    -- what was found ends behind the bytes that were held
    pub ends : (k : ℕ) {f : Framed} → k ≤ length seen → frame held ≡ short → frame seen ≡ f → Found f → after f ≡ drop k seen → length held < k
    ends k h fine e t a =
        let l = frame-ends held (take n piece) fine e t in
        let m = ap length a ∙ length-drop k seen in
        omega (arith, l, m, seen-length, length-take-le n piece fits)

    count : (k : ℕ) → k ≤ length seen → length held < k → length piece - length (drop k seen ++ drop n piece) ≡ k - length held
    count k h l =
        let a = length-append (drop k seen) (drop n piece) in
        let b = length-drop k seen in
        let d = length-drop n piece in
        omega (arith, a, b, d, seen-length)

    module _ {S E : Type 0} (judge : S → ℕ → List ℕ → Verdict S E) (s : S) (fine : frame held ≡ short) where
      at : (f : Framed) → frame seen ≡ f → Found f → step_of judge (live s held) piece ≡ step_framed judge s held piece (grown f (drop n piece))
      unfolding step_of
      at f e t = ap (step_framed judge s held piece) (ap frame (sym seen-whole) ∙ frame-grows seen (drop n piece) e t)

      pub step-bad : 2 ≤ length seen → frame seen ≡ bad_length (drop 2 seen)
          → step_of judge (live s held) piece ≡ step_judged (2 - length held) (refuse (fault_number BadLength) s)
      step-bad h e =
          at (bad_length (drop 2 seen)) e tt
          ∙ ap (λ (k : ℕ). step_judged k (refuse (fault_number BadLength) s)) (count 2 h (ends 2 h fine e tt refl))

      pub step-whole : (k l : ℕ) (b : List ℕ) → k ≤ length seen → frame seen ≡ packet l b (drop k seen)
          → step_of judge (live s held) piece ≡ step_judged (k - length held) (judge s l b)
      step-whole k l b h e =
          at (packet l b (drop k seen)) e tt
          ∙ ap (λ (m : ℕ). step_judged m (judge s l b)) (count k h (ends k h fine e tt refl))

left_over : (k : ℕ) (piece : List ℕ) → k ≤ length piece → length piece - length (drop k piece) ≡ k
left_over k piece h = omega (arith, length-drop k piece)

module _ {S E : Type 0} (judge : S → ℕ → List ℕ → Verdict S E) (s : S) where
  pub step-short : (held piece : List ℕ) → frame (held ++ piece) ≡ short
      → step_of judge (live s held) piece ≡ record { state = live s (held ++ piece); taken = length piece; answer = More }
  unfolding step_of
  step-short held piece e = ap (step_framed judge s held piece) e

  -- nothing is held, and the whole piece was seen
  pub straight-bad : (piece : List ℕ) → 2 ≤ length piece → frame piece ≡ bad_length (drop 2 piece)
      → step_of judge (live s []) piece ≡ step_judged 2 (refuse (fault_number BadLength) s)
  unfolding step_of
  straight-bad piece h e =
      ap (step_framed judge s [] piece) e ∙ ap (λ (k : ℕ). step_judged k (refuse (fault_number BadLength) s)) (left_over 2 piece h)

  pub straight-whole : (piece : List ℕ) (k l : ℕ) (b : List ℕ) → k ≤ length piece → frame piece ≡ packet l b (drop k piece)
      → step_of judge (live s []) piece ≡ step_judged k (judge s l b)
  unfolding step_of
  straight-whole piece k l b h e =
      ap (step_framed judge s [] piece) e ∙ ap (λ (m : ℕ). step_judged m (judge s l b)) (left_over k piece h)
