-- One call tells what the reading of the bytes that it takes tells; so do any calls, however the caller goes about them.
-- Assumes nothing.
use mathlib.Core.Path.{◌≡◌, refl, sym, ap, ◌∙◌}
use mathlib.Core.List.{List, [], ◌∷◌, ◌++◌, append_assoc, append-nil}
use Prim.Native.Nat.{ℕ, ◌+◌, ◌-◌, ◌≤◌, ◌<◌}
use native.Mathlib.Omega.{arith}
use lib.ListN.{length, take, drop, length-append, length-drop, take-append-drop}
use lib.Seq.{take-length}
use Rattle.packet.specs.Frame.{Framed, short, bad_length, packet, frame, front_of, held_size}
use Rattle.packet.specs.Stream.{Verdict, accept, finish, refuse, State, live, ended, refused, Unfinished, NothingLeft, Run, first, ◌then◌, still, events_of, told, Called, stop, call}
use Rattle.packet.specs.Stream.{judged, read_all, reading, step_judged, step_framed, step_of}
use Rattle.packet.proofs.Frame.{Found, after, grown, frame-grows, frame-ends, frame-left, short-fits, bad-there, whole-there}
use Rattle.packet.proofs.Cut.{reading-at, reading-cut, reading-unfinished, reading-none}

-- ---- the bytes that a call takes end with what it found

-- the same, with nothing after it
abbrev pub trimmed : Framed → Framed
trimmed short = short
trimmed (bad_length r) = bad_length []
trimmed (packet l b r) = packet l b []

nothing-more : (r ys : List ℕ) → r ++ ys ≡ ys → r ≡ []
nothing-more [] ys e = refl
nothing-more (x ∷ r) ys e = absurd (omega (arith, simp length-append at (ap length e)))

trim : (ys : List ℕ) (f g : Framed) → grown g ys ≡ f → after f ≡ ys → Found g → g ≡ trimmed f
trim ys f short e a t = absurd t
trim ys f (bad_length r) e a t = rw (← e) (ap bad_length (nothing-more r ys (rw (← e) at a)))
trim ys f (packet l b r) e a t = rw (← e) (ap (packet l b) (nothing-more r ys (rw (← e) at a)))

-- WHERE A CALL'S BYTES END: with the packet's last byte, or with the second length byte of a bad length
pub taken-ends : (held piece : List ℕ) {f : Framed} → frame held ≡ short → frame (held ++ piece) ≡ f → Found f
    → frame (held ++ take (length piece - length (after f)) piece) ≡ trimmed f
taken-ends held piece {f} fine e t = go (frame xs) refl
  where
    xs : List ℕ
    xs = held ++ take (length piece - length (after f)) piece

    whole : xs ++ after f ≡ held ++ piece
    whole =
        append_assoc held (take (length piece - length (after f)) piece) (after f)
        ∙ ap (λ (l : List ℕ). held ++ (take (length piece - length (after f)) piece ++ l)) (sym (frame-left held piece fine e t))
        ∙ ap (λ (l : List ℕ). held ++ l) (take-append-drop (length piece - length (after f)) piece)

    go : (g : Framed) → frame xs ≡ g → frame xs ≡ trimmed f
    go short h = absurd (omega (arith, frame-ends xs (after f) h (ap frame whole ∙ e) t))
    go (bad_length r) h = h ∙ trim (after f) f (bad_length r) (sym (frame-grows xs (after f) h tt) ∙ ap frame whole ∙ e) refl tt
    go (packet l b r) h = h ∙ trim (after f) f (packet l b r) (sym (frame-grows xs (after f) h tt) ∙ ap frame whole ∙ e) refl tt

-- and before it nothing is found
grown-after : (g : Framed) (ys : List ℕ) → Found g → length ys ≤ length (after (grown g ys))
grown-after short ys t = absurd t
grown-after (bad_length r) ys t = simp length-append (omega arith)
grown-after (packet l b r) ys t = simp length-append (omega arith)

too-soon : (held piece : List ℕ) (k : ℕ) {f : Framed} → frame (held ++ piece) ≡ f → k + length (after f) < length piece
    → (g : Framed) → frame (held ++ take k piece) ≡ g → Found g → ⊥
too-soon held piece k {f} e h g i t =
    let whole : (held ++ take k piece) ++ drop k piece ≡ held ++ piece
    = append_assoc held (take k piece) (drop k piece) ∙ ap (λ (l : List ℕ). held ++ l) (take-append-drop k piece) in
    let is : f ≡ grown g (drop k piece) = sym e ∙ ap frame (sym whole) ∙ frame-grows (held ++ take k piece) (drop k piece) i t in
    omega (arith, grown-after g (drop k piece) t, ap (λ (x : Framed). length (after x)) is, length-drop k piece)

sooner : (held piece : List ℕ) (k : ℕ) {f : Framed} → frame (held ++ piece) ≡ f → k + length (after f) < length piece
    → (g : Framed) → frame (held ++ take k piece) ≡ g → g ≡ short
sooner held piece k {f} e h short i = refl
sooner held piece k {f} e h (bad_length r) i = absurd (too-soon held piece k e h (bad_length r) i tt)
sooner held piece k {f} e h (packet l b r) i = absurd (too-soon held piece k e h (packet l b r) i tt)

module _ {S E : Type 0} (judge : S → ℕ → List ℕ → Verdict S E) where
  judged-taken : (n : ℕ) (v : Verdict S E) → judged (read_all judge) [] v ≡ told (step_judged n v)
  unfolding frame
  judged-taken n (accept e s) = ap (first e) (reading-at judge s [] refl)
  judged-taken n (finish e s) = refl
  judged-taken n (refuse k s) = refl

  judged-takes : (n : ℕ) (v : Verdict S E) → (step_judged n v).taken ≡ n
  judged-takes n (accept e s) = refl
  judged-takes n (finish e s) = refl
  judged-takes n (refuse k s) = refl

  framed-taken : (s : S) (held piece : List ℕ) (f : Framed) → frame held ≡ short → frame (held ++ piece) ≡ f
      → read_all judge s (held ++ take (step_framed judge s held piece f).taken piece) ≡ told (step_framed judge s held piece f)
  framed-taken s held piece short fine e = rw (take-length piece) (reading-at judge s (held ++ piece) e)
  framed-taken s held piece (bad_length r) fine e = reading-at judge s (held ++ take (length piece - length r) piece) (taken-ends held piece fine e tt)
  framed-taken s held piece (packet l b r) fine e =
      let n = length piece - length r in
      ap (λ (k : ℕ). read_all judge s (held ++ take k piece)) (judged-takes n (judge s l b))
      ∙ reading-at judge s (held ++ take n piece) (taken-ends held piece fine e tt)
      ∙ judged-taken n (judge s l b)

  framed-within : (s : S) (held piece : List ℕ) (f : Framed) → (step_framed judge s held piece f).taken ≤ length piece
  framed-within s held piece short = omega arith
  framed-within s held piece (bad_length r) = omega arith
  framed-within s held piece (packet l b r) = rw (judged-takes (length piece - length r) (judge s l b)) (omega arith)

  -- a call takes no more than it is given
  pub step-within : (st : State S) (piece : List ℕ) → (step_of judge st piece).taken ≤ length piece
  unfolding step_of
  step-within (live s held) piece = framed-within s held piece (frame (held ++ piece))
  step-within (ended s held) piece = omega arith
  step-within (refused s held e n) piece = omega arith

  -- and no more than a packet
  framed-most : (s : S) (held piece : List ℕ) (f : Framed) → frame (held ++ piece) ≡ f → (step_framed judge s held piece f).taken ≤ held_size
  framed-most s held piece short e = omega (arith, short-fits (held ++ piece) e, length-append held piece)
  framed-most s held piece (bad_length r) e =
      let b = bad-there (held ++ piece) refl (ap front_of e) in
      let l : length r ≡ length (drop 2 (held ++ piece)) = ap (λ (x : Framed). length (after x)) (sym e ∙ b.is) in
      omega (arith, l, length-drop 2 (held ++ piece), length-append held piece, b.two)
  framed-most s held piece (packet c b r) e =
      let w = whole-there (held ++ piece) refl (ap front_of e) in
      let n = length b + 1 + 2 in
      let l : length r ≡ length (drop n (held ++ piece)) = ap (λ (x : Framed). length (after x)) (sym e ∙ w.is) in
      rw (judged-takes (length piece - length r) (judge s c b))
      (omega (arith, l, length-drop n (held ++ piece), length-append held piece, w.there, w.high))

  pub step-most : (st : State S) (piece : List ℕ) → (step_of judge st piece).taken ≤ held_size
  unfolding step_of
  step-most (live s held) piece = framed-most s held piece (frame (held ++ piece)) refl
  step-most (ended s held) piece = omega arith
  step-most (refused s held e n) piece = omega arith

  -- ONE CALL is the reading of exactly the bytes that it takes
  pub step-taken : (st : State S) (piece : List ℕ) → Unfinished st → reading judge st (take (step_of judge st piece).taken piece) ≡ told (step_of judge st piece)
  unfolding step_of reading
  step-taken (live s held) piece fine = framed-taken s held piece (frame (held ++ piece)) fine refl
  step-taken (ended s held) piece fine = refl
  step-taken (refused s held e n) piece fine = refl

  -- NO FEWER BYTES tell anything: all of them are held, and more is wanted
  framed-least : (s : S) (held piece : List ℕ) (k : ℕ) (f : Framed) → frame (held ++ piece) ≡ f → k < (step_framed judge s held piece f).taken
      → frame (held ++ take k piece) ≡ short
  framed-least s held piece k short e h = sooner held piece k e (omega arith) (frame (held ++ take k piece)) refl
  framed-least s held piece k (bad_length r) e h = sooner held piece k e (omega arith) (frame (held ++ take k piece)) refl
  framed-least s held piece k (packet l b r) e h =
      sooner held piece k e (omega (arith, rw (judged-takes (length piece - length r) (judge s l b)) at h)) (frame (held ++ take k piece)) refl

  pub taken-least : (s : S) (held piece : List ℕ) (k : ℕ) → k < (step_of judge (live s held) piece).taken
      → reading judge (live s held) (take k piece) ≡ still (live s (held ++ take k piece))
  unfolding step_of reading
  taken-least s held piece k h =
      reading-at judge s (held ++ take k piece) (framed-least s held piece k (frame (held ++ piece)) refl h)

  -- IT GETS ON: a live reader that is given a byte takes one at least
  framed-more : (s : S) (held piece : List ℕ) (f : Framed) → frame held ≡ short → frame (held ++ piece) ≡ f → 1 ≤ length piece
      → 1 ≤ (step_framed judge s held piece f).taken
  framed-more s held piece short fine e h = h
  framed-more s held piece (bad_length r) fine e h = omega (arith, frame-ends held piece fine e tt)
  framed-more s held piece (packet l b r) fine e h =
      rw (judged-takes (length piece - length r) (judge s l b)) (omega (arith, frame-ends held piece fine e tt))

  pub gets-on : (s : S) (held piece : List ℕ) → frame held ≡ short → 1 ≤ length piece → 1 ≤ (step_of judge (live s held) piece).taken
  unfolding step_of
  gets-on s held piece fine h = framed-more s held piece (frame (held ++ piece)) fine refl h

  pub step-unfinished : (st : State S) (piece : List ℕ) → Unfinished st → Unfinished (step_of judge st piece).state
  step-unfinished st piece fine =
      rw (ap (λ (r : Run S E). r.state) (step-taken st piece fine)) at (reading-unfinished judge st (take (step_of judge st piece).taken piece))

  -- and the bytes that it leaves, with those after them, are read by the reader that it hands back
  pub step-reads : (st : State S) (piece more : List ℕ) → Unfinished st
      → reading judge st (piece ++ more)
      ≡ told (step_of judge st piece) then (λ st'. reading judge st' (drop (step_of judge st piece).taken piece ++ more))
  step-reads st piece more fine =
      let n = (step_of judge st piece).taken in
      ap (λ (l : List ℕ). reading judge st (l ++ more)) (sym (take-append-drop n piece))
      ∙ ap (reading judge st) (append_assoc (take n piece) (drop n piece) more)
      ∙ reading-cut judge st (take n piece) (drop n piece ++ more)
      ∙ ap (λ (r : Run S E). r then (λ st'. reading judge st' (drop n piece ++ more))) (step-taken st piece fine)

  -- ---- any caller

  abbrev run : List E → State S → Run S E
  run es st = record { events = es; state = st }

  -- ANY CALLS of a reader tell what the reading tells, but for what the bytes that are left will tell
  pub any-calls : {st st' : State S} {bs left : List ℕ} {es : List E} → Called judge st bs es st' left → Unfinished st
      → reading judge st bs ≡ record { events = es; state = st' } then (λ st''. reading judge st'' left)
  any-calls stop fine = refl
  any-calls (call {st = st} {st' = st'} {es = es} {left = left} piece more c) fine =
      let r = step_of judge st piece in
      step-reads st piece more fine
      ∙ ap (λ (k : Run S E). told r then (λ _. k)) (any-calls c (step-unfinished st piece fine))
      ∙ ap (λ (l : List E). run l (reading judge st' left).state) (sym (append_assoc (events_of r.answer) es (reading judge st' left).events))

  pub called-unfinished : {st st' : State S} {bs left : List ℕ} {es : List E} → Called judge st bs es st' left → Unfinished st → Unfinished st'
  called-unfinished stop fine = fine
  called-unfinished (call {st = st} piece more c) fine = called-unfinished c (step-unfinished st piece fine)

  nothing-told : (st : State S) (left : List ℕ) → Unfinished st → NothingLeft st left → reading judge st left ≡ still st
  unfolding reading
  nothing-told (live s held) left fine e = rw e (reading-none judge (live s held) fine)
  nothing-told (ended s held) left fine e = refl
  nothing-told (refused s held k n) left fine e = refl

  -- THE CUT THEOREM FOR ANY CALLER: the calls' events, in order, and the reader that they leave are those of the reading of the uncut bytes
  pub any-caller : {st st' : State S} {bs left : List ℕ} {es : List E} → Called judge st bs es st' left → Unfinished st → NothingLeft st' left
      → reading judge st bs ≡ record { events = es; state = st' }
  any-caller {st' = st'} {left = left} {es = es} c fine none =
      any-calls c fine
      ∙ ap (λ (r : Run S E). run es st' then (λ _. r)) (nothing-told st' left (called-unfinished c fine) none)
      ∙ ap (λ (l : List E). run l st') (append-nil es)
