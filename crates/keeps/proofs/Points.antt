-- Document 01's points on both sides that are the whole load's: "Empty text: 3 at place 0. No objects: accepted, empty list."
use Prim.Native.Nat.{ℕ}
use mathlib.Core.Path.{◌≡◌, refl}
use mathlib.Core.List.{List, []}
use mathlib.Core.Bool.{true}
use lib.Dec.{leb}
use lib.ListN.{length, replicate}
use Rattle.text.specs.Walk.{walk, over}
use Rattle.text.specs.Answer.{given, refused}
use Rattle.text.specs.Blank.{blank_at}
use Rattle.text.specs.Token.{token_at, next_token}
use Rattle.records.specs.Records.{count}
use Rattle.records.specs.Cells.{room}
use Rattle.rows.specs.Sections as records
use Rattle.rows.specs.Sections.{object}
use Rattle.grammar.specs.Move.{view}
use Rattle.grammar.specs.Read.{move, read_from, read}
use Rattle.refer.specs.Refer.{referred}
use Rattle.methods.specs.Methods.{converts}
use Rattle.objects.specs.Stage.{judge_each, turns_from, judge_all}
use Rattle.convert.specs.Edition.{is_edition}
use Rattle.tables.specs.declared.setting.Setting.{Setting}
use Rattle.build.specs.Build.{built}
use Rattle.tables.specs.Sizes.{sizes_fit}
use Rattle.load.specs.Load.{described, loaded}

empty-read : read [] ≡ refused 3 0
unfolding read read_from move next_token token_at blank_at over walk
empty-read = refl

-- "Empty text: 3 at place 0", and the lent cells are zero
pub empty-text : (image : List ℕ) (setting : Setting) (tables work : List ℕ) → sizes_fit 0 (length image) setting.base (length tables) ≡ true → leb (room records.sections) (length work) ≡ true
    → is_edition setting.edition ≡ true
    → loaded [] image setting tables work ≡ record { answer = refused 3 0; tables = replicate (length tables) 0; work = replicate (length work) 0 }
unfolding loaded described
empty-text image setting tables work f w v = rw (f, w, v, empty-read)

-- "No objects: accepted, empty list": with any image, and the tables' element total is 0
pub no-objects : (image : List ℕ) (setting : Setting) (x : List ℕ) (d : List (List (List ℕ))) → read x ≡ given d → count d object ≡ 0 → referred x (view d) ≡ given tt → converts (view d) ≡ given tt
    → described image setting x ≡ given (built image setting x (view d) 0)
unfolding described judge_all judge_each turns_from
no-objects image setting x d r n l c = rw (r, l, c, n)
