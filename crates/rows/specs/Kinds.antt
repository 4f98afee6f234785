-- The kinds of parameters, as the tables number them (Row.antt says what each is; 0 is none).
use Rattle.std.specs.Prelude.{ℕ}

abbrev pub name_kind : ℕ
name_kind = 1

abbrev pub string_kind : ℕ
string_kind = 2

abbrev pub whole_kind : ℕ
whole_kind = 3

abbrev pub decimal_kind : ℕ
decimal_kind = 4

abbrev pub choice_kind : ℕ
choice_kind = 5

abbrev pub new_kind : ℕ
new_kind = 6

abbrev pub points_kind : ℕ
points_kind = 7

abbrev pub alignment_kind : ℕ
alignment_kind = 8

abbrev pub nought_kind : ℕ
nought_kind = 9

abbrev pub upper_kind : ℕ
upper_kind = 10

abbrev pub pairs_kind : ℕ
pairs_kind = 11

abbrev pub number_kind : ℕ
number_kind = 12

abbrev pub text_kind : ℕ
text_kind = 13
