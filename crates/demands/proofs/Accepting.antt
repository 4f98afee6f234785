-- THE SECOND DEMAND: "A description with its image is accepted exactly if it keeps the written rules."
--     accepted-exactly      a load is accepted exactly if what is lent is large enough and the description with its image keeps the rules
--     accepted-leaves       what the lent tables and the lent work then hold
use Prim.Native.Nat.{ℕ, ◌+◌, ◌^◌}
use mathlib.Core.Path.{◌≡◌, refl, ap}
use mathlib.Core.List.{List}
use mathlib.Core.Bool.{Bool, true, ◌&&◌}
use mathlib.Core.Logic.{◌↔◌}
use native.Mathlib.Omega.{arith}
use borrow.Author.Tests.{le-leb, leb-true}
use lib.Dec.{leb}
use lib.ListN.{length, replicate}
use Rattle.text.specs.Answer.{Answer, given, refused}
use Rattle.text.proofs.Within.{by-test, and_left, and_right}
use Rattle.records.specs.Cells.{room, encode}
use Rattle.rows.specs.Sections as records
use Rattle.grammar.specs.Move.{view}
use Rattle.convert.specs.Edition.{is_edition}
use Rattle.convert.proofs.EditionLaws.{one_or_two, is-one-or-two}
use Rattle.tables.specs.declared.setting.Setting.{Setting}
use Rattle.build.specs.Build.{built}
use Rattle.tables.specs.Form.{table_sections}
use Rattle.tables.specs.Sizes.{sizes_fit}
use Rattle.load.specs.Load.{described, Loaded, left, untouched, loaded}
use Rattle.load.proofs.LoadLaws.{work-room}
use Rattle.tree.specs.Tree.{Records}
use Rattle.tree.proofs.Accepted as text
use Rattle.keeps.specs.Accepted.{all_elements, Taken}
use Rattle.keeps.proofs.Bits.{and}
use Rattle.keeps.proofs.Exactly.{accepted-is, accepted-given}
use Rattle.demands.specs.Rules.{Fits, Keeps}
use Rattle.demands.proofs.Ruling.{keeps-accepted, accepted-keeps}

-- how many cells the tables take
pub table-room : room table_sections ≡ 36617
unfolding table_sections
table-room = refl

module _ (x image : List ℕ) (setting : Setting) (tables work : List ℕ) where
  abbrev enough : Bool
  enough = sizes_fit (length x) (length image) setting.base (length tables) && leb (room records.sections) (length work)

  pub fits-enough : Fits x image setting tables work → enough ≡ true
  unfolding sizes_fit
  fits-enough f =
      and (and (and (and (le-leb (length x) (2 ^ 24) f.text_fits) (le-leb (length image) (2 ^ 20) f.image_fits)) (le-leb (setting.base + length image) (2 ^ 32) f.ends_below))
      (rw table-room (le-leb 36617 (length tables) f.tables_fit))) (rw work-room (le-leb 42578 (length work) f.work_fits))

  pub fits-edition : Fits x image setting tables work → is_edition setting.edition ≡ true
  fits-edition f = is-one-or-two setting.edition f.an_edition

  pub enough-fits : enough ≡ true → is_edition setting.edition ≡ true → Fits x image setting tables work
  unfolding sizes_fit
  enough-fits h v =
      let a = leb (length x) (2 ^ 24) in
      let b = leb (length image) (2 ^ 20) in
      let c = leb (setting.base + length image) (2 ^ 32) in
      let d = leb (room table_sections) (length tables) in
      let e = leb (room records.sections) (length work) in
      let four : (a && b && c && d) ≡ true = and_left (a && b && c && d) e h in
      let three : (a && b && c) ≡ true = and_left (a && b && c) d four in
      let two : (a && b) ≡ true = and_left (a && b) c three in
      record {
        text_fits = leb-true (length x) (2 ^ 24) (and_left a b two);
        image_fits = leb-true (length image) (2 ^ 20) (and_right a b two);
        ends_below = leb-true (setting.base + length image) (2 ^ 32) (and_right (a && b) c three);
        tables_fit = rw table-room at (leb-true (room table_sections) (length tables) (and_right (a && b && c) d four));
        work_fits = rw work-room at (leb-true (room records.sections) (length work) (and_right (a && b && c && d) e h));
        an_edition = one_or_two setting.edition v;
      }

  -- the cells of the tables that are made of the records
  abbrev pub tables_for : Records → List ℕ
  tables_for d = encode table_sections (length tables) (built image setting x (view d) (all_elements image setting.base x d))

  -- what the stages give
  pub loaded-given : Fits x image setting tables work → (D : Records) → described image setting x ≡ given D
      → loaded x image setting tables work ≡ record { answer = given tt; tables = encode table_sections (length tables) D; work = replicate (length work) 0 }
  unfolding loaded
  loaded-given f D h = rw (fits-enough f, fits-edition f, h)

  -- the tables of an accepted load are those that its tree and the image make, and the lent work is zero
  pub accepted-leaves : Fits x image setting tables work → (k : Keeps x image setting.base)
      → loaded x image setting tables work ≡ record { answer = given tt; tables = tables_for k.records; work = replicate (length work) 0 }
  unfolding loaded
  accepted-leaves f k =
      let t : Taken image setting x (built image setting x (view k.records) (all_elements image setting.base x k.records)) =
      record { records = k.records; is_read = (text.accepted-exactly x k.records).1 k.tree; accepted = keeps-accepted x image setting.base k; is_built = refl } in
      rw (fits-enough f, fits-edition f, accepted-given image setting x (built image setting x (view k.records) (all_elements image setting.base x k.records)) t)

  load-keeps : (loaded x image setting tables work).answer ≡ given tt → Fits x image setting tables work × Keeps x image setting.base
  unfolding loaded
  load-keeps =
      by-test Kept enough (λ e. by-test Kept (is_edition setting.edition) (λ v. taken e v (described image setting x) refl) (λ v. none 33)) (λ e. none 20)
    where
      Kept : Loaded → Type 0
      Kept r = r.answer ≡ given tt → Fits x image setting tables work × Keeps x image setting.base

      none : (k : ℕ) → Kept (untouched k tables work)
      none k h = let z : ◌≡◌ {A = ℕ} 0 1 = cc in absurd (omega arith)

      taken : enough ≡ true → is_edition setting.edition ≡ true → (a : Answer Records) → described image setting x ≡ a → (left (length tables) (length work) a).answer ≡ given tt → Fits x image setting tables work × Keeps x image setting.base
      taken e v (given D) h g =
          let t : Taken image setting x D = accepted-is image setting x D h in
          (enough-fits e v, accepted-keeps x image setting.base t.records ((text.accepted-exactly x t.records).0 t.is_read) t.accepted)
      taken e v (refused n p) h g = let z : ◌≡◌ {A = ℕ} 0 1 = cc in absurd (omega arith)

  -- "A description with its image is accepted exactly if it keeps the written rules"
  pub accepted-exactly : ((loaded x image setting tables work).answer ≡ given tt) ↔ (Fits x image setting tables work × Keeps x image setting.base)
  accepted-exactly = (load-keeps, λ p. ap (λ (r : Loaded). r.answer) (accepted-leaves p.0 p.1))
