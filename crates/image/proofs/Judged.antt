-- The tests of an image, in the order of checking.
-- Assumes nothing.
use mathlib.Core.Path.{◌≡◌, refl, sym, ap, ◌∙◌}
use mathlib.Core.Bool.{Bool, true, false, ◌&&◌, ◌||◌, not}
use mathlib.Core.List.{List}
use Prim.Native.Nat.{ℕ, ◌+◌, ◌-◌, ◌*◌, ◌%◌, ◌≤◌, ◌<◌}
use native.Mathlib.Nat.{zero-add}
use native.Mathlib.Decide.{ℕ_discrete}
use native.Mathlib.Omega.{arith}
use lib.Dec.{eqb, leb}
use lib.ListN.{length, drop}
use borrow.Author.Tests.{eq-eqb, ne_eqb, eqb-true, leb-true, le-leb, lt-leb}
use Rattle.field.specs.Bytes.{part, Bytes}
use Rattle.field.specs.Limits.{number_in_range}
use Rattle.field.specs.Text.{every, is_zero}
use Rattle.field.proofs.Bools.{both_left, both_right}
use Rattle.field.proofs.Parts.{part-whole, part-drop, part_none}
use Rattle.field.proofs.Numbers.{part-below}
use Rattle.block.specs.Block.{block_size, body_size, head_at, same_head, check_keeps}
use Rattle.block.specs.declared.Head.{Head}
use Rattle.row.specs.Fields.{row_size}
use Rattle.row.specs.Rules.{newest}
use Rattle.table.specs.Memory.{most_rows, row_at}
use Rattle.table.specs.Rules.{rows_keep}
use Rattle.image.specs.Shape.{rows_of_version1, old_version, pages_for, blocks_for, most_blocks, pages, first_page, PagesIn, all_below, version_fits, welcome, head_for}
use Rattle.image.specs.Header.{header_of}
use Rattle.image.specs.Restore.{count_of, length_keeps, checks_keep, head_keeps, heads_keep, version_of, slots_keep, contents_keep, verdict_in}
use Rattle.image.specs.declared.Header.{Header}
use Rattle.image.specs.declared.Refusal.TheVariants.{BadLength, BadCheck, BadHead, BadContents}
use Rattle.std.specs.Prelude.{Ok, Err}
use Rattle.image.specs.declared.Wanted.{Wanted}
use Rattle.image.proofs.Below.{was-no, was-yes, below_none, below-turn, below-stop, below_end}
use Rattle.image.proofs.Laid.{pages-length, pages-part}
use Rattle.image.proofs.Puts.{image-pages}

-- ---- a chain of tests that calls make

pub and_no : {r a : Bool} (b : Bool) → r ≡ a → not r ≡ true → false ≡ a && b
and_no b e f = rw (was-no e f)

pub and-on : {r a : Bool} (b x : Bool) → r ≡ a → not r ≡ false → x ≡ b → x ≡ a && b
and-on b x e f g = rw (was-yes e f, g)

-- ---- the checks

pub checks-none : (image : List ℕ) → checks_keep image 0 ≡ true
unfolding checks_keep
checks-none image = below_none _

module _ (image : List ℕ) (count k : ℕ) {r : Bool} (e : r ≡ check_keeps image (k * block_size)) where
  pub checks-stop : k < count → not r ≡ true → false ≡ checks_keep image count
  unfolding checks_keep
  checks-stop h n = below-stop (λ j. check_keeps image (j * block_size)) k count h (was-no e n)

pub checks-on : (image : List ℕ) (k : ℕ) {r : Bool} → r ≡ check_keeps image (k * block_size) → not r ≡ false → checks_keep image k ≡ true
    → checks_keep image (k + 1) ≡ true
unfolding checks_keep
checks-on image k e n a = below-turn (λ j. check_keeps image (j * block_size)) k a (was-yes e n)

-- ---- the heads

pub head-made : (count version next k : ℕ) → record { number = k; count = count; version = version; next = next } ≡ head_for count version next k
unfolding head_for
head-made count version next k = refl

pub head-keeps : (image : List ℕ) (count : ℕ) (h : Header) (k : ℕ) {v : ℕ} {there wanted : Head} {r : Bool} → v ≡ version_of image → there ≡ head_at image (k * block_size)
    → wanted ≡ head_for count v h.next k → r ≡ same_head there wanted → r ≡ head_keeps image count h k
unfolding head_keeps
head-keeps image count h k i e f g = g ∙ rw (e, f, i)

pub head-fits : (image : List ℕ) (h : Header) {v : ℕ} {a b : Bool} → v ≡ version_of image → a ≡ number_in_range h.next → b ≡ version_fits v h.board.rows
    → a && b ≡ number_in_range h.next && version_fits (version_of image) h.board.rows
head-fits image h i e f = rw (e, f, i)

module _ (image : List ℕ) (count : ℕ) (h : Header) {r : Bool} (e : r ≡ number_in_range h.next && version_fits (version_of image) h.board.rows) where
  pub heads-range : not r ≡ true → false ≡ heads_keep image count h
  unfolding heads_keep
  heads-range n = and_no _ e n

  module _ (yes-r : not r ≡ false) (k : ℕ) where
    pub heads-stop : {q : Bool} → q ≡ head_keeps image count h k → k < count → not q ≡ true → false ≡ heads_keep image count h
    unfolding heads_keep
    heads-stop f g n = and-on _ _ e yes-r (below-stop (head_keeps image count h) k count g (was-no f n))

    pub heads-end : k ≤ count → count ≤ k → all_below (head_keeps image count h) k ≡ true → true ≡ heads_keep image count h
    unfolding heads_keep
    heads-end g i a = and-on _ _ e yes-r (below_end (head_keeps image count h) k count g i a)

pub heads-on : (image : List ℕ) (count : ℕ) (h : Header) (k : ℕ) {q : Bool} → q ≡ head_keeps image count h k → not q ≡ false
    → all_below (head_keeps image count h) k ≡ true → all_below (head_keeps image count h) (k + 1) ≡ true
heads-on image count h k f n a = below-turn (head_keeps image count h) k a (was-yes f n)

-- ---- the version

pub version-read : (image : List ℕ) {head : Head} → head ≡ head_at image 0 → head.version ≡ version_of image
unfolding version_of
version-read image e = ap (λ (h : Head). h.version) e

pub old-first : (rows : ℕ) → rows ≤ rows_of_version1 → 1 ≡ old_version rows
unfolding old_version
old-first rows h = rw (le-leb rows rows_of_version1 h)

pub old-second : (rows : ℕ) → rows_of_version1 < rows → 2 ≡ old_version rows
unfolding old_version
old-second rows h = rw (lt-leb rows rows_of_version1 h)

pub fits_read : (version rows : ℕ) {v : ℕ} → v ≡ old_version rows → eqb version newest || eqb version v ≡ version_fits version rows
unfolding version_fits
fits_read version rows e = rw e

-- ---- the slots

-- where the spare bytes of the last page stand, in the pages and in the image
spare-none : (rows : ℕ) → rows ≡ 0 → (pages_for rows ≡ 0) × (row_at rows ≡ 0)
unfolding pages_for
spare-none rows e = (omega arith, omega arith)

spare-size : (rows : ℕ) → (rows ≡ 0 → ⊥) → (row_at rows ≤ pages_for rows * body_size) × (pages_for rows * body_size < row_at rows + body_size) × (1 ≤ pages_for rows)
unfolding pages_for
spare-size rows z = (omega arith, omega arith, omega (arith, z))

pub rows-in-pages : (rows : ℕ) → row_at rows ≤ pages_for rows * body_size
unfolding pages_for
rows-in-pages rows = omega arith

spare-places : (taken n p spare : ℕ) → spare ≡ n * body_size - taken → taken ≤ n * body_size → n * body_size < taken + body_size → p + 1 ≡ n
    → (taken ≡ p * body_size + (body_size - spare)) × (first_page + p * block_size + (body_size - spare) ≡ (1 + n) * block_size - 2 - spare) × (body_size - spare + spare ≤ body_size)
spare-places taken n p spare e f g h = (omega arith, omega arith, omega arith)

module _ (image : List ℕ) (rows : ℕ) (f : PagesIn image first_page block_size (pages_for rows)) where
  spare-bytes : (spare : ℕ) → spare ≡ pages_for rows * body_size - row_at rows → Dec (rows ≡ 0)
      → drop (row_at rows) (pages image first_page block_size (pages_for rows)) ≡ part image (blocks_for rows * block_size - 2 - spare) spare
  unfolding blocks_for pages
  spare-bytes spare e (yes z) =
      let n = spare-none rows z in
      let s : spare ≡ 0 = omega arith in
      rw (s, n.0, n.1) (sym (part_none image _))
  spare-bytes spare e (no z) =
      let q = spare-size rows z in
      let m : pages_for rows - 1 + 1 ≡ pages_for rows = omega arith in
      let t = spare-places (row_at rows) (pages_for rows) (pages_for rows - 1) spare e q.0 q.1 m in
      let all = pages image first_page block_size (pages_for rows) in
      let w : part all 0 (pages_for rows * body_size) ≡ all = part-whole all _ (pages-length image first_page block_size (pages_for rows) f) in
      ap (drop (row_at rows)) (sym w) ∙ part-drop all 0 (pages_for rows * body_size) (row_at rows) q.0
      ∙ rw (zero-add, ← e, t.0)
      (pages-part image first_page block_size (pages_for rows) (pages_for rows - 1) (body_size - spare) spare f (omega arith) t.2 ∙ rw t.1)

module _ (image : List ℕ) (rows count w : ℕ) (ew : w ≡ blocks_for rows) where
  pub slots-other : (w ≡ count → ⊥) → false ≡ slots_keep image count rows
  unfolding slots_keep
  slots-other d = rw (← ew, ne_eqb w count d)

  module _ (fit : w ≡ count) where
    pages-are : count - 1 ≡ pages_for rows
    unfolding blocks_for
    pages-are = omega arith

    pub slots-pages : count * block_size ≤ length image → 1 ≤ count → PagesIn image first_page block_size (pages_for rows)
    slots-pages l o = image-pages image (pages_for rows) (omega (arith, pages-are))

    pub slots-few : count ≤ most_blocks → rows ≤ most_rows
    unfolding pages_for
    slots-few l = omega (arith, pages-are)

    pub slots-rows : rows * row_size ≤ (count - 1) * body_size
    slots-rows = rw pages-are (rows-in-pages rows)

    module _ {v : ℕ} (iv : v ≡ version_of image) {r : Bool} (er₀ : r ≡ rows_keep v rows (pages image first_page block_size (pages_for rows))) where
      er : r ≡ rows_keep (version_of image) rows (pages image first_page block_size (pages_for rows))
      er = er₀ ∙ rw iv

      pub slots-broken : not r ≡ true → false ≡ slots_keep image count rows
      unfolding slots_keep
      slots-broken n = rw (← ew, eq-eqb w count fit, pages-are) (and_no _ er n)

      pub slots-spare : count * block_size ≤ length image → 1 ≤ count → not r ≡ false → {z : Bool}
          → z ≡ every is_zero (part image (count * block_size - 2 - ((count - 1) * body_size - rows * row_size)) ((count - 1) * body_size - rows * row_size))
          → z ≡ slots_keep image count rows
      unfolding slots_keep
      slots-spare l o n e =
          rw (← ew, eq-eqb w count fit, pages-are) (and-on _ _ er n (e ∙ rw (pages-are, ← fit, ew)
          (ap (every is_zero) (sym (spare-bytes image rows (slots-pages l o) (pages_for rows * body_size - row_at rows) refl (ℕ_discrete rows 0))))))

-- ---- the verdict

pub record Long (image : List ℕ) : Type 0 where
  pub some : block_size ≤ length image
  pub few : count_of image ≤ most_blocks
  pub whole : count_of image * block_size ≡ length image
  pub least : 1 ≤ count_of image

pub long : (image : List ℕ) → length_keeps image ≡ true → Long image
unfolding length_keeps
long image e =
    let a : length image % block_size ≡ 0 = eqb-true (length image % block_size) 0 (both_left _ _ e) in
    let r = both_right (eqb (length image % block_size) 0) _ e in
    let b : 1 ≤ count_of image = leb-true 1 (count_of image) (both_left _ _ r) in
    let d : count_of image ≤ most_blocks = leb-true (count_of image) most_blocks (both_right (leb 1 (count_of image)) _ r) in
    record { some = omega arith; few = d; whole = omega arith; least = b }

module _ (image : List ℕ) (wanted : Wanted) {r : Bool} (er : r ≡ length_keeps image) where
  pub judge-length : not r ≡ true → Err BadLength ≡ verdict_in wanted image
  unfolding verdict_in
  judge-length n = simp (was-no er n)

  module _ (yes-r : not r ≡ false) where
    pub judge-long : Long image
    judge-long = long image (was-yes er yes-r)

    module _ {q : Bool} (eq : q ≡ checks_keep image (count_of image)) where
      pub judge-check : not q ≡ true → Err BadCheck ≡ verdict_in wanted image
      unfolding verdict_in
      judge-check n = simp (was-yes er yes-r, was-no eq n)

      module _ (yes-q : not q ≡ false) (h : Header) (eh : h ≡ header_of image) {w : Bool} (ew₀ : w ≡ heads_keep image (count_of image) h) {v' : ℕ} {u : Bool} (iv : v' ≡ version_of image) (eu : u ≡ welcome wanted v') where
        ew : w && u ≡ heads_keep image (count_of image) h && welcome wanted (version_of image)
        ew = rw (ew₀, eu, iv)

        pub judge-head : not (w && u) ≡ true → Err BadHead ≡ verdict_in wanted image
        unfolding verdict_in
        judge-head n = simp (was-yes er yes-r, was-yes eq yes-q, ← eh, was-no ew n)

        module _ (yes-w : not (w && u) ≡ false) {v : Bool} (ev : v ≡ contents_keep image (count_of image) h) where
          pub judge-contents : not v ≡ true → Err BadContents ≡ verdict_in wanted image
          unfolding verdict_in
          judge-contents n = simp (was-yes er yes-r, was-yes eq yes-q, ← eh, was-yes ew yes-w, was-no ev n)

          pub judge-accepts : not v ≡ false → (Ok (tt {0})) ≡ verdict_in wanted image
          unfolding verdict_in
          judge-accepts n = simp (was-yes er yes-r, was-yes eq yes-q, ← eh, was-yes ew yes-w, was-yes ev n)

-- two bytes of an image say at most 65,535 rows
pub rows-small : (image : List ℕ) (h : Header) → Bytes image → block_size ≤ length image → h ≡ header_of image → h.board.rows ≤ 65_535
unfolding header_of
rows-small image h b l e = let k = part-below image 26 2 b (omega arith) in rw e (omega arith)
