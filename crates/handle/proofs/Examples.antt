-- The head of a fresh handle in bytes, and a head whose values all differ.
-- Assumes nothing.
use mathlib.Core.Path.{◌≡◌, refl}
use mathlib.Core.Bool.{true, false}
use mathlib.Core.List.{List, [], ◌∷◌, ◌++◌}
use Prim.Native.Nat.{ℕ}
use lib.ListN.{replicate}
use Rattle.field.specs.Bytes.{part, value, digits}
use Rattle.message.specs.Layout.{values, keeps_all, bytes_for}
use Rattle.packet.specs.Line.{fresh_line}
use Rattle.table.specs.Board.{fresh_board}
use Rattle.handle.specs.Handle.{is_handle, head_of, head_bytes}
use Rattle.handle.specs.declared.Head.{Head}

abbrev fresh : Head
fresh = record { line = fresh_line; board = fresh_board; ended = false; refusal = 0; used = 0 }

-- next number 1, nothing else but the session's ten spaces
fresh-bytes : head_bytes fresh ≡ replicate 7 0 ++ (1 ∷ replicate 24 0 ++ (replicate 10 32 ++ replicate 5 0))
unfolding head_bytes bytes_for digits
fresh-bytes = refl

abbrev mixed : Head
mixed =
    record {
      line = record { session = 65 ∷ 66 ∷ 67 ∷ 68 ∷ 69 ∷ 70 ∷ 71 ∷ 72 ∷ 73 ∷ 74 ∷ []; known = true; logged = true; next = 258 };
      board = record { rows = 3; event = 79; live = 4 };
      ended = false;
      refusal = 5;
      used = 6;
    }

abbrev mixed_bytes : List ℕ
mixed_bytes =
    0 ∷ 0 ∷ 0 ∷ 0 ∷ 0 ∷ 0 ∷ 1 ∷ 2
    ∷ 0 ∷ 0 ∷ 0 ∷ 0 ∷ 0 ∷ 0 ∷ 0 ∷ 4
    ∷ 0 ∷ 0 ∷ 0 ∷ 0 ∷ 0 ∷ 0 ∷ 0 ∷ 3
    ∷ 0 ∷ 0 ∷ 0 ∷ 0 ∷ 0 ∷ 0 ∷ 0 ∷ 6
    ∷ 65 ∷ 66 ∷ 67 ∷ 68 ∷ 69 ∷ 70 ∷ 71 ∷ 72 ∷ 73 ∷ 74
    ∷ 1 ∷ 1 ∷ 0 ∷ 5 ∷ 79 ∷ []

mixed-bytes : head_bytes mixed ≡ mixed_bytes
unfolding head_bytes bytes_for digits
mixed-bytes = refl

mixed-head : head_of (mixed_bytes ++ replicate 258 0) ≡ mixed
unfolding head_of values part value
mixed-head = refl

mixed-handle : is_handle (mixed_bytes ++ replicate 258 0) ≡ true
unfolding is_handle values keeps_all part value
mixed-handle = refl

-- 47 bytes, and a flag of 2, are no handle
head-alone : is_handle mixed_bytes ≡ false
unfolding is_handle values keeps_all part value
head-alone = refl

flag-of-2 : is_handle (replicate 44 0 ++ (2 ∷ replicate 260 0)) ≡ false
unfolding is_handle values keeps_all part value
flag-of-2 = refl
