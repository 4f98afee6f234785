-- Every case of the list holds, by computation.
use mathlib.Core.Path.{refl}
use lib.Count.{count_trailing_zeros}
use Rattle.text.specs.Walk.{walk, over}
use Rattle.text.specs.Bytes.{is_blank, is_allowed, is_letter, is_digit, starts_name, in_name, starts_number, pair_at, same_for, same_part}
use Rattle.text.specs.Blank.{line_end, comment_end, blank_at, token_ends}
use Rattle.text.specs.Token.{name_end, name_at, string_end, string_at, run_end, number_at, is_begin, is_end, mark_at, token_at, next_token}
use Rattle.number.specs.Answer.{in_run}
use Rattle.number.specs.Digits.{digit_of, value_on, all_digits, leading, trailing}
use Rattle.number.specs.Whole.{whole_from, whole_of}
use Rattle.number.specs.Decimal.{signs, minus, lowest, made, is_exponent, exponent_size, point_moved, judged_decimal, moved_decimal, pointed, signed_by, plain_of, is_e, mantissa, from_e, with_exponent, decimal_of}
use Rattle.cell.specs.Kind.{shapes, shape_of, is_type}
use Rattle.cell.specs.Bytes.{number, digits}
use Rattle.cell.specs.Raw.{raw_of, fits_raw, stored_with, raw_at, written}
use Rattle.convert.specs.Whole.{all_small}
use Rattle.convert.specs.Limit.{formed, at_most, at_most_fraction, fraction_at_most}
use Rattle.convert.specs.Method.{sound_method, judged_method, rat_func, linear_of}
use Rattle.convert.specs.Fraction.{fraction, fraction_of}
use Rattle.convert.specs.Round.{rounded, nearest, raw_for}
use Rattle.convert.specs.Edition.{halves_of}
use Rattle.convert.specs.Asked.{asked_of, nearest_raw, rounded_raw, means_within, asked_raw}
use Rattle.words.specs.Row.{word, bytes, same, kind_in}
use Rattle.words.specs.Table.{word_rows as words}
use Rattle.words.specs.Class.{class_of, class_at}
use Rattle.rows.specs.Sections.{sections}
use Rattle.rows.specs.Rows.{rows, needed}
use Rattle.rows.specs.Numbered.{row_at, need_at, all_params, param_at, first_param}
use Rattle.grammar.specs.Move.{applied}
use Rattle.grammar.specs.Parameter.{wrong, keeping, taken_whole, taken_decimal, taken_number, find_from, taken_new, taken_name, taken_text, taken}
use Rattle.grammar.specs.Keyword.{row_from, row_of, one_more, stands, plain_row, opens, all_met, ends, item, after_begin, after_end}
use Rattle.grammar.specs.Read.{on_piece, move, read_from, start, read}
use Rattle.methods.specs.Methods.{linear_at, rat_func_at, coefficients}
use Rattle.place.specs.Align.{word_for, alignment, next_from, aligned}
use Rattle.place.specs.Inside.{inside}
use Rattle.place.specs.Order.{insert, in_order, parts}
use Rattle.place.specs.Rules.{both, apart, apart_from, all_apart, distinct, comes_before, counted, matching, sound_layout}
use Rattle.place.specs.Walk.{start_of, count_stored, count_at, points_of, within, place_one, all_placed, start as begin, placement}
use Rattle.place.specs.Judge.{bytes_of, elements_stored, all_inside, weighed, judged_object}
use Rattle.objects.specs.Object.{part, layout_at, layout_of, word as word_of, aligns_of, first_of, ground_of, axis_need, curve_need, characteristic_need, need_of, mask_fits, judge_object}
use Rattle.points.specs.Points.{spans, zeros, answer, AllHold, cases}

pub points : AllHold cases
unfolding count_trailing_zeros walk over is_blank is_allowed is_letter is_digit starts_name in_name starts_number pair_at same_for same_part line_end comment_end blank_at token_ends name_end name_at string_end string_at run_end number_at is_begin is_end mark_at token_at next_token in_run digit_of value_on all_digits leading trailing whole_from whole_of signs minus lowest made is_exponent exponent_size point_moved judged_decimal moved_decimal pointed signed_by plain_of is_e mantissa from_e with_exponent decimal_of shapes shape_of number digits raw_of fits_raw stored_with raw_at written all_small formed at_most at_most_fraction fraction_at_most sound_method judged_method rat_func linear_of fraction fraction_of rounded nearest raw_for halves_of asked_of nearest_raw rounded_raw means_within asked_raw word bytes same kind_in words class_of class_at sections rows needed row_at need_at all_params param_at first_param applied wrong keeping taken_whole taken_decimal taken_number find_from taken_new taken_name taken_text taken row_from row_of one_more stands plain_row opens all_met ends item after_begin after_end on_piece move read_from start read linear_at rat_func_at coefficients word_for alignment next_from aligned inside insert in_order parts both apart apart_from all_apart distinct comes_before counted matching sound_layout start_of count_stored count_at points_of within place_one all_placed begin placement bytes_of elements_stored all_inside weighed judged_object is_type part layout_at layout_of word_of aligns_of first_of ground_of axis_need curve_need characteristic_need need_of mask_fits judge_object spans zeros answer cases
points = (refl, (refl, (refl, (refl, (refl, (refl, (refl, (refl, (refl, (refl, (refl, (refl, (refl, (refl, (refl, (refl, (refl, (refl, (refl, tt)))))))))))))))))))
