-- TAB_VERB.
use Rattle.std.specs.Prelude.{cond, not, ◌&&◌, List, [], ◌∷◌, ℕ, zero, suc, ◌^◌, eqb, ltb, ℤ}
use Rattle.number.specs.Signed.{signed_of}
use Rattle.convert.specs.Whole.{eq_z}
use Rattle.convert.specs.Fraction.{Value, none, text}

-- A verbal entry: a number, and its text's first byte and the one past it.
pub record Entry : Type 0 where
  pub number : ℤ
  pub first : ℕ
  pub past : ℕ

-- "the entry with that number gives its text, else DEFAULT_VALUE, else none": other is what there is else.
unfoldable pub text_of : List Entry → Value → ℤ → Value
text_of [] other i = other
text_of (e ∷ es) other i = cond (eq_z e.number i) (text e.first e.past) (text_of es other i)

-- A default text's two places, both 0 where there is no default.
abbrev pub default_of : ℕ → ℕ → Value
default_of first past = cond (eqb first 0 && eqb past 0) none (text first past)

-- A number that is a text place; one too large for any place counts as 0.
abbrev pub place_in : ℕ → ℕ
place_in n = cond (ltb n (2 ^ 63)) n 0

-- An entry by its four numbers: its number's sign (0: none) and size, the text's first byte and the one past it.
abbrev pub entry_of : (ℕ → ℕ) → Entry
entry_of f =
    record {
      number = signed_of (not (eqb (f 0) 0)) (f 1);
      first = place_in (f 2);
      past = place_in (f 3);
    }

-- So many entries from entry e on: number k of entry e is f e k.
unfoldable pub entries_from : (ℕ → ℕ → ℕ) → ℕ → ℕ → List Entry
entries_from f e zero = []
entries_from f e (suc n) = entry_of (f e) ∷ entries_from f (suc e) n

-- A table's text for a raw number: count entries from entry e on, and the default's two places.
unfoldable pub verbal_of : (ℕ → ℕ → ℕ) → ℕ → ℕ → ℕ → ℕ → ℤ → Value
verbal_of f e count first past i = text_of (entries_from f e count) (default_of (place_in first) (place_in past)) i
