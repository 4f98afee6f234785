-- The definition `read` at some descriptions, computed: each has a text and what is read of it, a row to a line.
use Prim.Native.Nat.{ℕ}
use Prim.Native.String.{String}
use mathlib.Core.Path.{◌≡◌, refl}
use mathlib.Core.List.{List, [], ◌∷◌, ◌++◌, map}
use lib.ListN.{replicate}
use Rattle.text.specs.Answer.{Answer, given, refused}
use Rattle.text.specs.Walk.{walk, over}
use Rattle.text.specs.Bytes.{spelt, is_blank, is_allowed, is_letter, is_digit, starts_name, in_name, starts_number, pair_at, same_for, same_part}
use Rattle.text.specs.Blank.{line_end, comment_end, blank_at, token_ends}
use Rattle.text.specs.Token.{name_end, name_at, string_end, string_at, run_end, number_at, is_begin, is_end, mark_at, token_at, next_token}
use Rattle.text.specs.Item.{run_item, item_at, next_item}
use Rattle.text.specs.Skip.{tag_at, closing, is_a2ml, a2ml_item, a2ml_end, block_item, block_end, block_in, skip_block}
use Rattle.number.specs.Answer.{in_run}
use Rattle.number.specs.Digits.{digit_of, value_on, all_digits, leading, trailing}
use Rattle.number.specs.Whole.{whole_from, whole_of}
use Rattle.number.specs.Decimal.{signs, minus, lowest, made, is_exponent, exponent_size, point_moved, judged_decimal, moved_decimal, pointed, signed_by, plain_of, is_e, mantissa, from_e, with_exponent, decimal_of}
use Rattle.number.specs.Form.{formed as run_formed, has_form}
use Rattle.convert.specs.Limit.{formed, at_most}
use Rattle.words.specs.Row.{word, bytes, same, kind_in}
use Rattle.words.specs.Table.{word_rows as words}
use Rattle.words.specs.Class.{class_of, class_at}
use Rattle.rows.specs.Sections.{sections}
use Rattle.rows.specs.Rows.{rows, needed}
use Rattle.rows.specs.Numbered.{row_at, need_at, all_params, param_at, first_param}
use Rattle.grammar.specs.Move.{applied}
use Rattle.grammar.specs.Parameter.{wrong, keeping, taken_whole, taken_decimal, taken_number, find_from, taken_new, taken_name, taken_text, taken}
use Rattle.grammar.specs.Keyword.{row_from, row_of, one_more, stands, plain_row, skips, opens, all_met, ends, item, after_begin, after_end}
use Rattle.grammar.specs.Read.{on_piece, move, read_from, start, read}

-- a description with a text in its MODULE, which starts at 39
abbrev in_module : String → List ℕ
in_module w = spelt "/begin PROJECT P \"\" /begin MODULE M \"\" " ++ spelt w ++ spelt " /end MODULE /end PROJECT"

-- the records of a description that has layouts alone: the file's record says that MODULE was there
abbrev described : List (List ℕ) → List (List (List ℕ))
described ls = ((0 ∷ 1 ∷ replicate 9 0) ∷ []) ∷ [] ∷ [] ∷ [] ∷ ls ∷ [] ∷ [] ∷ []

abbrev descriptions : List (List ℕ × Answer (List (List (List ℕ))))
descriptions =
    -- the empty text ends early
    (spelt "", refused 3 0)
    -- the smallest description
    ∷ (spelt "/begin PROJECT P \"\" /begin MODULE M \"\" /end MODULE /end PROJECT", given (described []))
    -- another word after `/end`
    ∷ (spelt "/begin PROJECT P \"\" /begin MODULE M \"\" /end PROJECT", refused 3 44)
    -- PROJECT without its MODULE: at its `/end`
    ∷ (spelt "/begin PROJECT P \"\" /end PROJECT", refused 5 20)
    -- a name twice among the objects, of another kind: at the later one
    ∷ (in_module "/begin MEASUREMENT a \"\" UBYTE c 0 0 0 255 ECU_ADDRESS 0x10 /end MEASUREMENT /begin AXIS_PTS a \"\" 0", refused 6 131)
    -- MEASUREMENT's needed keyword is missing: at its `/end`
    ∷ (in_module "/begin MEASUREMENT a \"\" UBYTE c 0 0 0 255 /end MEASUREMENT", refused 5 81)
    -- a lower limit above the upper
    ∷ (in_module "/begin MEASUREMENT a \"\" UBYTE c 0 0 255 0 ECU_ADDRESS 0x10 /end MEASUREMENT", refused 5 79)
    -- limits with exponents: 1200 is above 0.5
    ∷ (in_module "/begin MEASUREMENT a \"\" UBYTE c 0 0 1.2E3 5e-1 ECU_ADDRESS 0x10 /end MEASUREMENT", refused 5 81)
    -- where no number is wanted, one that has a form and one that has none; a whole number has no exponent
    ∷ (in_module "1e3", refused 5 39)
    ∷ (in_module "1e99", refused 2 39)
    ∷ (in_module "/begin RECORD_LAYOUT L FNC_VALUES 1e0", refused 2 73)
    -- a word that document 000 doesn't list, and one that it lists alone
    ∷ (in_module "FOO", refused 4 39)
    ∷ (in_module "/begin UNIT", refused 9 46)
    -- skipped: a block with what it holds, and a keyword with its parameter
    ∷ (in_module "/begin IF_DATA x /begin y 1;2 /end y /end IF_DATA FORMAT \"%\"", given (described []))
    -- a layout
    ∷ (in_module "/begin RECORD_LAYOUT L FNC_VALUES 1 UBYTE ROW_DIR DIRECT /end RECORD_LAYOUT", given (described ((60 ∷ 61 ∷ 0 ∷ 6 ∷ replicate 6 0 ++ (1 ∷ 1 ∷ 1 ∷ 10 ∷ 14 ∷ replicate 16 0)) ∷ [])))
    ∷ []

each-description : map (λ c. read c.0) descriptions ≡ map (λ c. c.1) descriptions
unfolding walk over is_blank is_allowed is_letter is_digit starts_name in_name starts_number pair_at same_for same_part line_end comment_end blank_at token_ends name_end name_at string_end string_at run_end number_at is_begin is_end mark_at token_at next_token run_item item_at next_item tag_at closing is_a2ml a2ml_item a2ml_end block_item block_end block_in skip_block in_run digit_of value_on all_digits leading trailing whole_from whole_of signs minus lowest made is_exponent exponent_size point_moved judged_decimal moved_decimal pointed signed_by plain_of is_e mantissa from_e with_exponent decimal_of run_formed has_form formed at_most word bytes same kind_in words class_of class_at sections rows needed row_at need_at all_params param_at first_param applied wrong keeping taken_whole taken_decimal taken_number find_from taken_new taken_name taken_text taken row_from row_of one_more stands plain_row skips opens all_met ends item after_begin after_end on_piece move read_from start read
each-description = refl
