-- No statement is empty: a description that is accepted, from its text to its listing, computed.
--     example-described     its tables, number by number
--     example-loaded        a load of it
--     example-keeps         and so it keeps the rules
--     example-listed        the listing of its list
use Prim.Native.Nat.{ℕ, ◌≤◌}
use mathlib.Core.Path.{◌≡◌, refl, ◌∙◌, ap}
use mathlib.Core.Logic.{inr}
use mathlib.Core.List.{List}
use native.Mathlib.Omega.{arith}
use lib.Count.{count_trailing_zeros}
use lib.IntN.{pos}
use lib.ListN.{length, replicate}
use Rattle.text.specs.Answer.{given}
use Rattle.text.specs.Walk.{walk, over}
use Rattle.text.specs.Bytes.{is_blank, is_allowed, is_letter, is_digit, starts_name, in_name, starts_number, pair_at, same_for, same_part}
use Rattle.text.specs.Blank.{line_end, comment_end, blank_at, token_ends}
use Rattle.text.specs.Token.{name_end, name_at, string_end, string_at, run_end, number_at, is_begin, is_end, mark_at, token_at, next_token}
use Rattle.number.specs.Answer.{in_run}
use Rattle.number.specs.Digits.{digit_of, value_on, all_digits, leading, trailing}
use Rattle.number.specs.Whole.{whole_from, whole_of}
use Rattle.number.specs.Decimal.{signs, minus, lowest, made, is_exponent, exponent_size, point_moved, judged_decimal, moved_decimal, pointed, signed_by, plain_of, is_e, mantissa, from_e, with_exponent, decimal_of}
use Rattle.convert.specs.Whole.{all_small}
use Rattle.convert.specs.Limit.{formed, at_most}
use Rattle.convert.specs.Method.{sound_method, judged_method, rat_func, linear_of}
use Rattle.words.specs.Row.{word, bytes, same, kind_in}
use Rattle.words.specs.Table.{word_rows}
use Rattle.words.specs.Class.{class_of, class_at}
use Rattle.records.specs.Cells as records
use Rattle.records.specs.Cells.{encode, slot_in}
use Rattle.rows.specs.Sections.{sections}
use Rattle.rows.specs.Rows.{rows, needed}
use Rattle.rows.specs.Numbered.{row_at, need_at, all_params, param_at, first_param}
use Rattle.grammar.specs.Move.{applied}
use Rattle.grammar.specs.Parameter.{wrong, keeping, taken_whole, taken_pairs, has_entry, taken_entry, taken_decimal, taken_number, find_from, taken_new, taken_name, taken_text, taken}
use Rattle.grammar.specs.Keyword.{row_from, row_of, one_more, stands, plain_row, skips, opens, all_met, ends, item, after_begin, after_end}
use Rattle.grammar.specs.Read.{on_piece, move, read_from, start, read}
use Rattle.refer.specs.Refer.{inner_rows, reference_rows, is_free, leads, failing, least_from, referred}
use Rattle.methods.specs.Methods.{linear_at, rat_func_at, coefficients, converts_from}
use Rattle.cell.specs.Kind.{shapes, shape_of, is_type}
use Rattle.cell.specs.Mask.{mask_rule}
use Rattle.cell.specs.Bytes.{number}
use Rattle.cell.specs.Raw as cell
use Rattle.cell.specs.Raw.{raw_at}
use Rattle.place.specs.Align.{word_for, alignment, next_from, aligned}
use Rattle.place.specs.Inside.{inside}
use Rattle.place.specs.Order.{insert, in_order, parts}
use Rattle.place.specs.Rules.{both, apart, apart_from, all_apart, distinct, matching, comes_before, counted, sound_layout}
use Rattle.place.specs.Walk as place
use Rattle.place.specs.Walk.{start_of, count_stored, count_at, points_of, within, place_one, all_placed, placement}
use Rattle.place.specs.Judge.{bytes_of, elements_stored, all_inside, weighed, judged_object}
use Rattle.objects.specs.Object as object
use Rattle.objects.specs.Object.{part, layout_at, measured, layout_of, aligns_of, first_of, ground_of, axis_pts_need, block_need, mask_fits, shared_points, axis_need, curve_need, map_need, characteristic_need, need_of, judge_object, places_of, elements_of}
use Rattle.objects.specs.Stage.{names, named, turns_from, turn, judge_each, judge_all}
use Rattle.build.specs.Build as build
use Rattle.build.specs.Build.{rows_below, type_of, what_of, method_number, method_in, forbids, meaning, values_walk, mask_of, x_part, y_part, values_part, known_of, groups_below, conversion_of, method_row, entries_end, built}
use Rattle.convert.specs.Fraction.{fraction, fraction_of}
use Rattle.convert.specs.Verbal.{text_of, entries_from, verbal_of}
use Rattle.tables.specs.Form as tables-form
use Rattle.number.specs.Below.{sum_below}
use Rattle.tables.specs.Group.{position, place_of}
use Rattle.look.specs.Lines as list-lines
use Rattle.look.specs.Lines.{lines}
use Rattle.look.specs.Element.{text_at, means_by, means, raw_in, line_of}
use Rattle.look.specs.Calls.{kept, remade}
use Rattle.print.specs.Print.{figures_of}
use Rattle.listing.specs.Print.{physical, line, header}
use Rattle.listing.specs.Listing.{columns_of, printed_line, printed_part, printed_below, printed}
use Rattle.load.specs.Load.{described, Loaded, loaded}
use Rattle.demands.specs.Rules.{Fits, Keeps}
use Rattle.exhibit.specs.Example.{example_text, example_setting, example_image, example_tables, example_cells, example_listing}
use Rattle.demands.proofs.Accepting.{loaded-given, accepted-exactly}

pub example-described : described example_image example_setting example_text ≡ given example_tables
unfolding walk over is_blank is_allowed is_letter is_digit starts_name in_name starts_number pair_at same_for same_part line_end comment_end blank_at token_ends name_end name_at string_end string_at run_end number_at is_begin is_end mark_at token_at next_token in_run digit_of value_on all_digits leading trailing whole_from whole_of signs minus lowest made is_exponent exponent_size point_moved judged_decimal moved_decimal pointed signed_by plain_of is_e mantissa from_e with_exponent decimal_of all_small formed at_most sound_method judged_method rat_func linear_of word bytes same kind_in word_rows class_of class_at sections rows needed row_at need_at all_params param_at first_param applied wrong keeping taken_whole taken_pairs has_entry taken_entry taken_decimal taken_number find_from taken_new taken_name taken_text taken row_from row_of one_more stands plain_row skips opens all_met ends item after_begin after_end on_piece move read_from start read reference_rows inner_rows is_free leads failing least_from referred linear_at rat_func_at coefficients converts_from shapes shape_of mask_rule number cell.raw_of raw_at word_for alignment next_from aligned inside insert in_order parts both apart apart_from all_apart distinct matching comes_before counted sound_layout place.start start_of count_stored count_at points_of within place_one all_placed placement bytes_of elements_stored all_inside weighed judged_object object.word is_type part layout_at measured layout_of aligns_of first_of ground_of axis_pts_need block_need mask_fits shared_points axis_need curve_need map_need characteristic_need need_of judge_object places_of elements_of names named turns_from turn judge_each judge_all rows_below type_of what_of method_number method_in forbids build.limit_cells meaning values_walk mask_of x_part y_part values_part known_of groups_below conversion_of method_row entries_end built described
example-described = refl

-- in tables of the least size and work that is long enough
pub example-fits : (lent work : List ℕ) → length lent ≡ 36617 → 42578 ≤ length work → Fits example_text example_image example_setting lent work
example-fits lent work e h = record { text_fits = omega arith; image_fits = omega arith; ends_below = omega arith; tables_fit = omega arith; work_fits = h; an_edition = inr refl }

pub example-loaded : (lent work : List ℕ) → length lent ≡ 36617 → 42578 ≤ length work
    → loaded example_text example_image example_setting lent work ≡ record { answer = given tt; tables = example_cells; work = replicate (length work) 0 }
unfolding example_cells
example-loaded lent work e h =
    loaded-given example_text example_image example_setting lent work (example-fits lent work e h) example_tables example-described
    ∙ ap (λ (n : ℕ). record { answer = given tt; tables = encode tables-form.table_sections n example_tables; work = replicate (length work) 0 }) e

pub example-keeps : (lent work : List ℕ) → length lent ≡ 36617 → 42578 ≤ length work → Keeps example_text example_image example_setting.base
example-keeps lent work e h = ((accepted-exactly example_text example_image example_setting lent work).0 (ap (λ (r : Loaded). r.answer) (example-loaded lent work e h))).1

-- the list made of it, printed
pub example-listed : printed example_text example_cells (columns_of (remade example_cells (kept example_image (replicate 37 (pos 0)) (replicate 37 0) (replicate 37 (pos 0)) (replicate 37 (pos 0))))) ≡ example_listing
unfolding count_trailing_zeros example_cells encode records.count_in slot_in shapes shape_of number cell.raw_of raw_at all_small fraction fraction_of text_of entries_from verbal_of tables-form.table_sections sum_below position place_of list-lines.part lines list-lines.laid_over list-lines.made text_at means_by means raw_in line_of remade figures_of physical line header printed_line printed_part printed_below printed
example-listed = refl
