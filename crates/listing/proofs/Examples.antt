-- The definitions at document 01's lines and at some others, computed: each table has what is printed and its bytes, a row to a line.
use Prim.Native.Nat.{ℕ}
use mathlib.Core.Path.{◌≡◌, refl}
use mathlib.Core.List.{List, [], ◌∷◌, map}
use lib.IntN.{pos, negsuc}
use lib.ListN.{replicate}
use Rattle.number.specs.Answer.{given, refused}
use Rattle.records.specs.Cells.{count_in}
use Rattle.text.specs.Bytes.{spelt}
use Rattle.tables.specs.Form.{table_sections, group_section, tables_in}
use Rattle.print.specs.Print.{figures_of}
use Rattle.listing.specs.Print.{physical, line, header}
use Rattle.listing.specs.Listing.{Columns, columns, printed_part, printed_below, printed, if_fits}

-- an empty list prints the header alone
pub empty-prints-header : (x t : List ℕ) (c : Columns) → (tables_in t).counts group_section ≡ 0 → printed x t c ≡ header
unfolding printed printed_below header
empty-prints-header x t c e = rw e

nothing-kept : printed [] [] (columns [] [] [] []) ≡ spelt "name\tpart\tindex\traw\tphysical\n"
unfolding printed printed_below printed_part header count_in table_sections
nothing-kept = refl

-- document 01's two lines; a text stands as in the description, quotes included
battery : line [] (spelt "U_BATT") 2 0 (pos 11800) (physical [] 1 (pos 11800) (pos 1000)) ≡ spelt "U_BATT\tv\t0\t11800\t11800/1000\n"
unfolding line physical figures_of
battery = refl

relay : line [] (spelt "RELAY") 2 0 (pos 1) (physical (spelt "1 \"ON\" ") 2 (pos 2) (pos 6)) ≡ spelt "RELAY\tv\t0\t1\t\"ON\"\n"
unfolding line physical figures_of
relay = refl

-- a fraction is never cancelled; any state but 1 and 2 is none; a text outside the description has no bytes
values : physical [] 1 (negsuc 3) (pos 2) ∷ physical [] 0 (pos 7) (pos 8) ∷ physical [] 3 (pos 7) (pos 8) ∷ physical (spelt "ab") 2 (pos 1) (pos 9) ∷ physical (spelt "ab") 2 (pos 2) (pos 1) ∷ []
    ≡ spelt "-4/2" ∷ spelt "-" ∷ spelt "-" ∷ spelt "b" ∷ spelt "" ∷ []
unfolding physical figures_of
values = refl

-- a buffer of as many bytes is enough, one less is 20
room : map (λ (n : ℕ). if_fits header (replicate n 7)) (29 ∷ 28 ∷ []) ≡ given header ∷ refused 20 ∷ []
unfolding header
room = refl
