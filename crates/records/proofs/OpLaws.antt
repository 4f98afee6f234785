-- The operations on cells, by the branches that the code takes.
use Prim.Native.Nat.{ℕ, ◌+◌, ◌*◌, ◌^◌, ◌≤◌, ◌<◌}
use mathlib.Core.Path.{◌≡◌, sym}
use mathlib.Core.List.{List}
use mathlib.Core.Bool.{true, false, ◌&&◌}
use native.Mathlib.Nat.{mul-le-mul_left, mul-le-mul_right, le_trans, le_of_lt}
use borrow.Author.Rules.{rules}
use borrow.Author.Tests.{lt-ltb, le-ltb}
use lib.Dec.{ltb}
use lib.ListN.{length, get_or, set}
use lib.Seq.{set_out}
use Rattle.records.specs.Cells.{place, count_in, slot_in, put_in, add_in}
use Rattle.records.specs.declared.Section.{Section}

pub set_past : (t : List ℕ) (i v : ℕ) → length t ≤ i → t ≡ set t i v
set_past t i v h = sym (set_out t i v h)

pub ruleset cells = (set_past, rules)

-- a width times a record's number is small
pub product : (w i : ℕ) → w < 2 ^ 8 → i < 2 ^ 16 → w * i ≤ 2 ^ 24
product w i a b = le_trans (mul-le-mul_left w (le_of_lt b)) (mul-le-mul_right (2 ^ 16) (le_of_lt a))

module _ (t : List ℕ) (c : Section) where
  -- p is the place
  pub slot-there : (i k p v : ℕ) → (ltb i c.most && ltb k c.width) ≡ true → p ≡ place c i k → v ≡ get_or t p 0 → v ≡ slot_in t c i k
  unfolding slot_in
  slot-there i k p v h q x = rw (h, x, q)

  pub slot-none : (i k : ℕ) → (ltb i c.most && ltb k c.width) ≡ false → 0 ≡ slot_in t c i k
  unfolding slot_in
  slot-none i k h = rw h

  -- n is the count
  module _ (n : ℕ) (m : n ≡ count_in t c) where
    pub put-there : (u : List ℕ) (i k v p : ℕ) → (ltb i n && ltb k c.width) ≡ true → p ≡ place c i k → u ≡ set t p v → u ≡ put_in t c i k v
    unfolding put_in
    put-there u i k v p h q x = rw (← m, h, x, q)

    pub put-none : (i k v : ℕ) → (ltb i n && ltb k c.width) ≡ false → t ≡ put_in t c i k v
    unfolding put_in
    put-none i k v h = rw (← m, h)

    pub add-there : (u : List ℕ) → n < c.most → u ≡ set t c.base (n + 1) → u ≡ add_in t c
    unfolding add_in
    add-there u h x = rw (← m, lt-ltb n c.most h, x)

    pub add_none : c.most ≤ n → t ≡ add_in t c
    unfolding add_in
    add_none h = rw (← m, le-ltb n c.most h)

pub ruleset ops = (slot-there, slot-none, put-there, put-none, add-there, add_none, rules)
