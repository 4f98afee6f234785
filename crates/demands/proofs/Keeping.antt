-- THE THIRD DEMAND: "After any sequence of writes, refused ones included, the kept value list equals one made anew." It begins at a load.
--     all-elements     the tables of an accepted load count the elements of all objects
--     kept-anew        with a line for each of them making the list is accepted, and after any run of requests image and list are those of a list made anew
use Prim.Native.Nat.{ℕ, ◌+◌, ◌*◌, ◌≤◌, ◌<◌}
use mathlib.Core.Path.{◌≡◌, ◌∙◌, ap}
use mathlib.Core.List.{List}
use native.Mathlib.Omega.{arith}
use borrow.Author.Tests.{le-leb}
use lib.IntN.{ℤ, pos}
use lib.ListN.{length, get_or}
use Rattle.text.specs.Answer as text
use Rattle.number.specs.Answer.{given}
use Rattle.number.specs.Below.{sum_below}
use Rattle.tables.specs.declared.setting.Setting.{Setting}
use Rattle.tables.specs.Form.{object_section, tables_in, total}
use Rattle.tables.specs.Group.{group_of, elements}
use Rattle.tables.specs.Group as tables
use Rattle.load.specs.Load.{loaded}
use Rattle.keeps.specs.Accepted.{all_elements}
use Rattle.look.specs.Lines.{lines, made}
use Rattle.look.specs.Element.{line_with, line_of}
use Rattle.look.specs.Calls.{Kept, kept, room, lent_by, checked, Reading, reading, groups, remade, making, Request, line_at, with_image}
use Rattle.look.proofs.CheckLaws.{named}
use Rattle.afresh.proofs.LineLaws.{get_d_over, length-lines, lines_at, sum-in}
use Rattle.demands.proofs.Runs as runs
use Rattle.demands.specs.Rules.{Fits, Keeps}
use Rattle.demands.specs.Anew.{after_all, Anew}
use Rattle.demands.proofs.Accepting.{accepted-exactly}
use Rattle.demands.proofs.Loaded.{keeps-rule, sizes, total_of, groups_of}

-- ---- a line of a list made anew

-- a column made anew has at an element's line what stands at the element
made_at : {A : Type 0} (w : ℕ → ℕ → A) (d : A) (c : ℕ → ℕ) (n : ℕ) (l : List A) (g i : ℕ) → g < n → i < c g → get_or (made w c n l) (sum_below g c + i) d ≡ w g i
unfolding made
made_at w d c n l g i p q =
    get_d_over (lines (λ g i k. w g i) c n) l (sum_below g c + i) d (rw length-lines (omega (arith, sum-in c g n p))) ∙ lines_at (λ g i k. w g i) c n g i d p q

line_made : (t : List ℕ) (k : Kept) (g i : ℕ) → g < groups t → i < elements (tables_in t) g → line_at (remade t k) (tables.line_of (tables_in t) g i) ≡ line_of (tables_in t) k.image g i
unfolding remade
line_made t k g i p q = λ v. record {
  raw = made_at (λ g i. (line_of (tables_in t) k.image g i).raw) (pos 0) (elements (tables_in t)) (groups t) k.raw g i p q v;
  state = made_at (λ g i. (line_of (tables_in t) k.image g i).state) 0 (elements (tables_in t)) (groups t) k.state g i p q v;
  first = made_at (λ g i. (line_of (tables_in t) k.image g i).first) (pos 0) (elements (tables_in t)) (groups t) k.first g i p q v;
  second = made_at (λ g i. (line_of (tables_in t) k.image g i).second) (pos 0) (elements (tables_in t)) (groups t) k.second g i p q v;
}

module _ (x image : List ℕ) (setting : Setting) (lent work : List ℕ) where
  -- the tables that a load leaves
  abbrev pub loaded_tables : List ℕ
  loaded_tables = (loaded x image setting lent work).tables

  module _ (ok : (loaded x image setting lent work).answer ≡ text.given tt) where
    fits : Fits x image setting lent work
    fits = ((accepted-exactly x image setting lent work).0 ok).0

    rules : Keeps x image setting.base
    rules = ((accepted-exactly x image setting lent work).0 ok).1

    -- a list for these tables has a line for each element of all objects
    pub all-elements : (k : Keeps x image setting.base) → total (tables_in loaded_tables) ≡ all_elements image setting.base x k.records
    all-elements k = total_of x image setting lent work fits k

    -- four lent columns
    module _ (raw : List ℤ) (state : List ℕ) (first second : List ℤ) where
      abbrev pub lent_list : Kept
      lent_list = kept image raw state first second

      making-accepted : total (tables_in loaded_tables) ≤ room lent_list → (making loaded_tables (length x) setting.base lent_list).answer ≡ given tt
      unfolding making checked
      making-accepted h =
          rw (sizes x image setting lent work fits rules, le-leb (total (tables_in loaded_tables)) (room lent_list) h, keeps-rule x image setting lent work fits rules)

      -- the line of an element, after any requests
      line_reads : (making loaded_tables (length x) setting.base lent_list).answer ≡ given tt → (qs : List Request) (o p i : ℕ) (r : Reading)
          → reading loaded_tables (after_all loaded_tables (length x) setting.base lent_list qs).image (lent_by (length x) setting.base (after_all loaded_tables (length x) setting.base lent_list qs)) o p i ≡ given r
          → line_at (after_all loaded_tables (length x) setting.base lent_list qs) (tables.line_of (tables_in loaded_tables) (group_of o p) i) ≡ line_with r.raw r.value
      unfolding line_of
      line_reads m qs o p i r h =
          let c = after_all loaded_tables (length x) setting.base lent_list qs in
          let e = runs.reading-of loaded_tables c.image (lent_by (length x) setting.base c) o p i r h in
          let q = named loaded_tables o p i e.0 in
          let u : c ≡ remade loaded_tables (with_image c.image lent_list) = runs.kept-is-made loaded_tables (length x) setting.base lent_list qs m in
          let b : group_of o p < groups loaded_tables = (let w : groups loaded_tables ≡ (tables_in loaded_tables).counts object_section * 3 = groups_of x image setting lent work fits rules in omega (arith, q.object_below, q.part_below)) in
          ap (λ (y : Kept). line_at y (tables.line_of (tables_in loaded_tables) (group_of o p) i)) u
          ∙ line_made loaded_tables (with_image c.image lent_list) (group_of o p) i b q.index_below
          ∙ ap (λ (y : Reading). line_with y.raw y.value) e.2

      -- with a line in each column for each element, from an accepted load on
      pub kept-anew : total (tables_in loaded_tables) ≤ room lent_list → Anew loaded_tables (length x) setting.base lent_list
      kept-anew h =
          record {
            makes = making-accepted h;
            anew = λ qs. runs.kept-equals-made-anew loaded_tables (length x) setting.base lent_list qs (making-accepted h);
            again = λ qs. runs.made-anew-in-place loaded_tables (length x) setting.base lent_list qs (making-accepted h);
            reads = line_reads (making-accepted h);
          }
