-- The tree at two descriptions: the smallest has one, and PROJECT without its MODULE has none.
use mathlib.Core.Path.{refl}
use Rattle.text.specs.Walk.{walk, over}
use Rattle.text.specs.Bytes.{spelt, is_blank, is_allowed, is_letter, is_digit, starts_name, in_name, starts_number, pair_at, same_for, same_part}
use Rattle.text.specs.Blank.{line_end, comment_end, blank_at, token_ends}
use Rattle.text.specs.Token.{name_end, name_at, string_end, string_at, run_end, number_at, is_begin, is_end, mark_at, token_at, next_token}
use Rattle.words.specs.Row.{word, bytes, same, kind_in}
use Rattle.words.specs.Table.{word_rows as words}
use Rattle.words.specs.Class.{class_of, class_at}
use Rattle.rows.specs.Sections.{sections}
use Rattle.rows.specs.Rows.{rows, needed}
use Rattle.rows.specs.Numbered.{row_at, need_at, all_params, param_at, first_param}
use Rattle.grammar.specs.Move.{applied}
use Rattle.grammar.specs.Parameter.{keeping, taken_name, taken_text, taken}
use Rattle.grammar.specs.Keyword.{row_from, row_of, one_more, stands, plain_row, skips, opens, all_met, ends, item, after_begin, after_end}
use Rattle.grammar.specs.Read.{on_piece, move, read_from, start, read}
use Rattle.tree.specs.Tree.{Records, Description}
use Rattle.tree.proofs.Accepted.{accepted-exactly, refused-exactly}

-- a description whose PROJECT holds one empty MODULE
pub smallest : (d : Records) × Description (spelt "/begin PROJECT P \"\" /begin MODULE M \"\" /end MODULE /end PROJECT") d
unfolding walk over is_blank is_allowed is_letter is_digit starts_name in_name starts_number pair_at same_for same_part line_end comment_end blank_at token_ends name_end name_at string_end string_at run_end number_at is_begin is_end mark_at token_at next_token word bytes same kind_in words class_of class_at sections rows needed all_params row_at first_param param_at need_at applied keeping taken_name taken_text taken row_from row_of one_more stands plain_row skips opens all_met ends item after_begin after_end on_piece move read_from start read
smallest = (_, (accepted-exactly (spelt "/begin PROJECT P \"\" /begin MODULE M \"\" /end MODULE /end PROJECT") _).0 refl)

-- "One PROJECT with one MODULE": without it there is no tree
pub without-module : (d : Records) → Description (spelt "/begin PROJECT P \"\" /end PROJECT") d → ⊥
unfolding walk over is_blank is_allowed is_letter is_digit starts_name in_name starts_number pair_at same_for same_part line_end comment_end blank_at token_ends name_end name_at string_end string_at run_end number_at is_begin is_end mark_at token_at next_token word bytes same kind_in words class_of class_at sections rows needed all_params row_at first_param param_at need_at applied keeping taken_name taken_text taken row_from row_of one_more stands plain_row skips opens all_met ends item after_begin after_end on_piece move read_from start read
without-module = (refused-exactly (spelt "/begin PROJECT P \"\" /end PROJECT")).0 (5, 20, refl)
