-- The whole load.
use Rattle.std.specs.Prelude.{ℕ, List, cond, ◌&&◌, length, replicate, leb, Result, Ok, Err}
use Rattle.text.specs.Answer.{Answer, given, refused, with}
use Rattle.text.specs.declared.cursor.Refusal.{Refusal}
use Rattle.records.specs.Cells.{room, encode}
use Rattle.rows.specs.Sections as records
use Rattle.grammar.specs.Move.{View, view}
use Rattle.grammar.specs.Out.{Out, accepted, refusing}
use Rattle.grammar.specs.Read.{read}
use Rattle.refer.specs.Refer.{referred}
use Rattle.methods.specs.Methods.{converts}
use Rattle.objects.specs.Stage.{judge_all}
use Rattle.build.specs.Build.{built}
use Rattle.convert.specs.Edition.{is_edition}
use Rattle.tables.specs.Form.{table_sections}
use Rattle.tables.specs.declared.setting.Setting.{Setting}
use Rattle.tables.specs.Sizes.{sizes_fit}

-- "Load order: .. the text from the start ..; then references in text order ..; then conversions; then each object's layout and mask (11), counts (12, 13),
-- share of the element total (8), element bytes (12)": the tables' records, or the first refusal with its place.
unfoldable pub described : List ℕ → Setting → List ℕ → Answer (List (List (List ℕ)))
described image s x =
    with (read x) (λ d.
    with (referred x (view d)) (λ _.
    with (converts (view d)) (λ _.
    with (judge_all image s.base x (view d)) (λ elements.
    given (built image s x (view d) elements)))))

-- what a load answers, and what the lent cells hold after it
pub record Loaded : Type 0 where
  pub answer : Answer (Unit {0})
  pub tables : List ℕ
  pub work : List ℕ

-- "20 leaves tables untouched, other load refusals leave them zero"
abbrev pub left : ℕ → ℕ → Answer (List (List (List ℕ))) → Loaded
left n w (given d) = record { answer = given tt; tables = encode table_sections n d; work = replicate w 0 }
left n w (refused k p) = record { answer = refused k p; tables = replicate n 0; work = replicate w 0 }

-- the refusal k at place 0, with what was lent as it was
abbrev pub untouched : ℕ → List ℕ → List ℕ → Loaded
untouched k tables work = record { answer = refused k 0; tables = tables; work = work }

-- "33 for another edition, directly after 20, with place 0 and tables untouched"
unfoldable pub loaded : List ℕ → List ℕ → Setting → List ℕ → List ℕ → Loaded
loaded x image s tables work =
    cond (sizes_fit (length x) (length image) s.base (length tables) && leb (room records.sections) (length work))
    (cond (is_edition s.edition) (left (length tables) (length work) (described image s x)) (untouched 33 tables work))
    (untouched 20 tables work)

-- what a load answers in the code, beside the lent cells
abbrev pub loaded_of : Result (Unit {0}) Refusal → List ℕ → List ℕ → Loaded
loaded_of (Ok u) t w = record { answer = given tt; tables = t; work = w }
loaded_of (Err r) t w = record { answer = refused r.no r.place; tables = t; work = w }

-- ---- the same in steps, for the functions that take them

-- the conversions, then the objects
unfoldable pub judged_last : List ℕ → ℕ → List ℕ → View → Answer ℕ
judged_last image base x v = with (converts v) (λ _. judge_all image base x v)

-- the references, the conversions, the objects
unfoldable pub judged_all : List ℕ → ℕ → List ℕ → View → Answer ℕ
judged_all image base x v = with (referred x v) (λ _. judged_last image base x v)

-- the tables' records of records that were read
unfoldable pub filling : List ℕ → Setting → List ℕ → View → Answer (List (List (List ℕ)))
filling image s x v = with (judged_all image s.base x v) (λ elements. given (built image s x v elements))

abbrev pub filled : ℕ → Answer (List (List (List ℕ))) → Out
filled n (given d) = accepted (encode table_sections n d)
filled n (refused k p) = refusing k p (replicate n 0)

abbrev pub filled_of : Result (Unit {0}) Refusal → List ℕ → Out
filled_of (Ok u) t = accepted t
filled_of (Err r) t = refusing r.no r.place t
