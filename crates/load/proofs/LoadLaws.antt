-- The whole load, by the branches that the code takes.
use Prim.Native.Nat.{ℕ, ◌+◌, ◌^◌, ◌≤◌}
use mathlib.Core.Path.{◌≡◌, refl, sym, ◌∙◌, ap}
use mathlib.Core.List.{List}
use mathlib.Core.Bool.{Bool, true, false, ◌&&◌}
use native.Mathlib.Omega.{arith}
use borrow.Author.Rules.{rules}
use borrow.Author.Tests.{leb-true, le-ltb}
use lib.Dec.{leb}
use lib.ListN.{length, replicate, length-replicate}
use Rattle.std.specs.Prelude.{Result, Ok, Err}
use Rattle.text.specs.declared.cursor.Refusal.{Refusal}
use Rattle.text.specs.Answer.{Answer, given, refused, with}
use Rattle.records.specs.Cells.{room, encode}
use Rattle.rows.specs.Sections as records
use Rattle.grammar.specs.Move.{View, view, view_in}
use Rattle.grammar.specs.Out as reading
use Rattle.grammar.specs.Out.{Out, accepted, refusing, out_of, read_into}
use Rattle.grammar.specs.Read.{read}
use Rattle.grammar.proofs.Cells.{view-encode}
use Rattle.refer.specs.Refer.{referred}
use Rattle.refer.specs.Refer as refers
use Rattle.methods.specs.Methods.{converts}
use Rattle.methods.specs.Methods as methods
use Rattle.objects.specs.Stage.{judge_all, told_turn}
use Rattle.build.specs.Build.{built}
use Rattle.convert.specs.Edition.{is_edition}
use Rattle.tables.specs.Form.{table_sections}
use Rattle.tables.specs.declared.setting.Setting.{Setting}
use Rattle.tables.specs.Sizes.{sizes_fit}
use Rattle.load.specs.Load.{described, left, loaded, loaded_of, judged_last, judged_all, filling, filled, filled_of}
use Rattle.load.proofs.ReadLaws.{never, read-good, length-read}

-- nothing more, or a refusal
abbrev pub Told : Type 0
Told = Result (Unit {0}) Refusal

module _ (image : List ℕ) (base : ℕ) (x : List ℕ) (v : View) where
  -- c is what `convert_all` gave
  module _ (c : Told) (p : methods.told_methods c ≡ converts v) where
    pub last-fine : (u : Unit {0}) (r : Result ℕ Refusal) → c ≡ Ok u → told_turn r ≡ judge_all image base x v → told_turn r ≡ judged_last image base x v
    unfolding judged_last
    last-fine u r y q =
        let e : given tt ≡ converts v = ap methods.told_methods (sym y) ∙ p in
        q ∙ ap (λ (a : Answer (Unit {0})). with a (λ _. judge_all image base x v)) e

    pub last-refused : (d : Refusal) → c ≡ Err d → refused d.no d.place ≡ judged_last image base x v
    unfolding judged_last
    last-refused d y =
        let e : refused d.no d.place ≡ converts v = ap methods.told_methods (sym y) ∙ p in
        ap (λ (a : Answer (Unit {0})). with a (λ _. judge_all image base x v)) e

  -- f is what `refer_all` gave
  module _ (f : Told) (p : refers.told_reference f ≡ referred x v) where
    pub all-fine : (u : Unit {0}) (r : Result ℕ Refusal) → f ≡ Ok u → told_turn r ≡ judged_last image base x v → told_turn r ≡ judged_all image base x v
    unfolding judged_all
    all-fine u r y q =
        let e : given tt ≡ referred x v = ap refers.told_reference (sym y) ∙ p in
        q ∙ ap (λ (a : Answer (Unit {0})). with a (λ _. judged_last image base x v)) e

    pub all-refused : (d : Refusal) → f ≡ Err d → refused d.no d.place ≡ judged_all image base x v
    unfolding judged_all
    all-refused d y =
        let e : refused d.no d.place ≡ referred x v = ap refers.told_reference (sym y) ∙ p in
        ap (λ (a : Answer (Unit {0})). with a (λ _. judged_last image base x v)) e

-- r is what `judge_records` gave, and t the tables
module _ (image : List ℕ) (s : Setting) (x : List ℕ) (v : View) (r : Result ℕ Refusal) (p : told_turn r ≡ judged_all image s.base x v) (t : List ℕ) where
  pub fill-accepted : (n : ℕ) (w : List ℕ) → r ≡ Ok n → w ≡ encode table_sections (length t) (built image s x v n) → accepted w ≡ filled (length t) (filling image s x v)
  unfolding filling
  fill-accepted n w y q =
      let e : given n ≡ judged_all image s.base x v = ap told_turn (sym y) ∙ p in
      ap accepted q ∙ ap (λ (a : Answer ℕ). filled (length t) (with a (λ k. given (built image s x v k)))) e

  pub fill-refused : (d : Refusal) → r ≡ Err d → t ≡ replicate (length t) 0 → refusing d.no d.place t ≡ filled (length t) (filling image s x v)
  unfolding filling
  fill-refused d y q =
      let e : refused d.no d.place ≡ judged_all image s.base x v = ap told_turn (sym y) ∙ p in
      ap (refusing d.no d.place) q ∙ ap (λ (a : Answer ℕ). filled (length t) (with a (λ k. given (built image s x v k)))) e

pub ruleset alls = (all-fine, all-refused, rules)

pub ruleset fills = (fill-accepted, fill-refused, rules)

-- ---- the steps are the load

module _ (image : List ℕ) (s : Setting) (x : List ℕ) where
  steps : (v : View) → filling image s x v ≡ with (referred x v) (λ _. with (converts v) (λ _. with (judge_all image s.base x v) (λ n. given (built image s x v n))))
  unfolding filling judged_all judged_last
  steps v = by-answers (referred x v) (converts v) (judge_all image s.base x v) where
    by-answers : (a b : Answer (Unit {0})) (c : Answer ℕ)
        → with (with a (λ _. with b (λ _. c))) (λ n. given (built image s x v n)) ≡ with a (λ _. with b (λ _. with c (λ n. given (built image s x v n))))
    by-answers (given a) (given b) c = refl
    by-answers (given a) (refused n p) c = refl
    by-answers (refused n p) b c = refl

  described-given : (d : List (List (List ℕ))) → read x ≡ given d → described image s x ≡ filling image s x (view d)
  unfolding described
  described-given d p = rw p (sym (steps (view d)))

  described-refused : (n m : ℕ) → read x ≡ refused n m → described image s x ≡ refused n m
  unfolding described
  described-refused n m p = rw p

-- work is long enough: the reading leaves its records, or zeros
into-is : (x w : List ℕ) → room records.sections ≤ length w → read_into x w ≡ reading.left (length w) (read x)
unfolding read_into
into-is x w h = rw (le-ltb (length w) (room records.sections) h)

-- what the tables hold, and work that was cleared
with-work : (n k : ℕ) (a : Told) (t : List ℕ) (r : Answer (List (List (List ℕ)))) → filled_of a t ≡ filled n r → loaded_of a t (replicate k 0) ≡ left n k r
with-work n k a t (given d) p = by_answer a p where
  by_answer : (a : Told) → filled_of a t ≡ accepted (encode table_sections n d) → loaded_of a t (replicate k 0) ≡ record { answer = given tt; tables = encode table_sections n d; work = replicate k 0 }
  by_answer (Ok u) q = ap (λ (o : Out). record { answer = o.answer; tables = o.cells; work = replicate k 0 }) q
  by_answer (Err r) q = ap (λ (o : Out). record { answer = o.answer; tables = o.cells; work = replicate k 0 }) q
with-work n k a t (refused i j) p = by_answer a p where
  by_answer : (a : Told) → filled_of a t ≡ refusing i j (replicate n 0) → loaded_of a t (replicate k 0) ≡ record { answer = refused i j; tables = replicate n 0; work = replicate k 0 }
  by_answer (Ok u) q = ap (λ (o : Out). record { answer = o.answer; tables = o.cells; work = replicate k 0 }) q
  by_answer (Err r) q = ap (λ (o : Out). record { answer = o.answer; tables = o.cells; work = replicate k 0 }) q

-- t₁ are the cleared tables; r is what `read` gave, and w₁ what it left
module _ (image : List ℕ) (s : Setting) (x t t₁ w w₁ : List ℕ) (h : room records.sections ≤ length w) (z : t₁ ≡ replicate (length t) 0) (r : Told) (p : out_of r w₁ ≡ read_into x w) where
  -- a is what `fill` gave, t₂ what it left, and w₂ is work, cleared
  pub into-accepted : (u : Unit {0}) (a : Told) (t₂ w₂ : List ℕ) → r ≡ Ok u → filled_of a t₂ ≡ filled (length t₁) (filling image s x (view_in w₁)) → w₂ ≡ replicate (length w₁) 0
      → loaded_of a t₂ w₂ ≡ left (length t) (length w) (described image s x)
  into-accepted b a t₂ w₂ y q g = by_read (read x) refl (sym (ap (λ (k : Told). out_of k w₁) y) ∙ p ∙ into-is x w h) where
    by_read : (b : Answer (List (List (List ℕ)))) → read x ≡ b → accepted w₁ ≡ reading.left (length w) b → loaded_of a t₂ w₂ ≡ left (length t) (length w) (described image s x)
    by_read (given d) e o =
        let c : w₁ ≡ encode records.sections (length w) d = ap (λ (k : Out). k.cells) o in
        let l : length w₁ ≡ length w = ap length c ∙ length-read x d (length w) h e in
        let u : view_in w₁ ≡ view d = ap view_in c ∙ view-encode (length w) d (read-good x d e) in
        let m : length t₁ ≡ length t = ap length z ∙ length-replicate (length t) 0 in
        let f : filled_of a t₂ ≡ filled (length t) (filling image s x (view d)) = q ∙ rw (m, u) in
        ap (loaded_of a t₂) (g ∙ ap (λ (k : ℕ). replicate k 0) l)
        ∙ with-work (length t) (length w) a t₂ (filling image s x (view d)) f
        ∙ ap (left (length t) (length w)) (sym (described-given image s x d e))
    by_read (refused k m) e o = absurd (never k m tt (sym (ap (λ (i : Out). i.answer) o)))

  pub into-refused : (e : Refusal) → r ≡ Err e → loaded_of (Err e) t₁ w₁ ≡ left (length t) (length w) (described image s x)
  into-refused e y = by_read (read x) refl (sym (ap (λ (k : Told). out_of k w₁) y) ∙ p ∙ into-is x w h) where
    by_read : (b : Answer (List (List (List ℕ)))) → read x ≡ b → refusing e.no e.place w₁ ≡ reading.left (length w) b → loaded_of (Err e) t₁ w₁ ≡ left (length t) (length w) (described image s x)
    by_read (given d) h o = absurd (never e.no e.place tt (ap (λ (i : Out). i.answer) o))
    by_read (refused k j) h o =
        ap (λ (c : List ℕ). loaded_of (Err e) c w₁) z
        ∙ ap (λ (i : Out). record { answer = i.answer; tables = replicate (length t) 0; work = i.cells }) o
        ∙ ap (left (length t) (length w)) (sym (described-refused image s x k j h))

-- the cleared tables are zeros, and as long as before
cleared-long : (t t₁ : List ℕ) → t₁ ≡ replicate (length t) 0 → length t₁ ≡ length t
cleared-long t t₁ z = ap length z ∙ length-replicate (length t) 0

pub cleared-zeros : (t t₁ : List ℕ) → t₁ ≡ replicate (length t) 0 → t₁ ≡ replicate (length t₁) 0
cleared-zeros t t₁ z = z ∙ ap (λ (n : ℕ). replicate n 0) (sym (cleared-long t t₁ z))

pub cleared-room : (t t₁ : List ℕ) → t₁ ≡ replicate (length t) 0 → room table_sections ≤ length t → room table_sections ≤ length t₁
cleared-room t t₁ z h = rw (cleared-long t t₁ z) h

pub ruleset intos = (into-accepted, into-refused, cleared-zeros, cleared-room, rules)

-- ---- the sizes

and_left : (a b : Bool) → (a && b) ≡ true → a ≡ true
and_left true b e = refl
and_left false b e = e

and_right : (a b : Bool) → (a && b) ≡ true → b ≡ true
and_right true b e = e
and_right false b e = absurd (let z : ◌≡◌ {A = ℕ} 0 1 = cc in omega arith)

sizes-room : (n m base cells : ℕ) → sizes_fit n m base cells ≡ true → room table_sections ≤ cells
unfolding sizes_fit
sizes-room n m base cells h =
    leb-true (room table_sections) cells
    (and_right (leb n (2 ^ 24) && leb m (2 ^ 20) && leb (base + m) (2 ^ 32)) (leb (room table_sections) cells) h)

pub work-room : room records.sections ≡ 42578
unfolding records.sections
work-room = refl

-- f is what `sizes_fit` gave
module _ (x image t w : List ℕ) (s : Setting) (f : Bool) (p : f ≡ sizes_fit (length x) (length image) s.base (length t)) where
  pub tables_fit : (f && leb 42578 (length w)) ≡ true → room table_sections ≤ length t
  tables_fit h = sizes-room (length x) (length image) s.base (length t) (sym p ∙ and_left f (leb 42578 (length w)) h)

  pub work_fits : (f && leb 42578 (length w)) ≡ true → room records.sections ≤ length w
  work_fits h = rw work-room (leb-true 42578 (length w) (and_right f (leb 42578 (length w)) h))

  pub load-short : (f && leb 42578 (length w)) ≡ false → loaded_of (Err (record { no = 20; place = 0 })) t w ≡ loaded x image s t w
  unfolding loaded
  load-short h = rw (← p, work-room, h)

  -- e is what `is_edition` gave
  module _ (h : (f && leb 42578 (length w)) ≡ true) (e : Bool) (q : e ≡ is_edition s.edition) where
    pub load_fits : (a : Told) (t₁ w₁ : List ℕ) → e ≡ true → loaded_of a t₁ w₁ ≡ left (length t) (length w) (described image s x) → loaded_of a t₁ w₁ ≡ loaded x image s t w
    unfolding loaded
    load_fits a t₁ w₁ y r = r ∙ rw (← p, work-room, h, ← q, y)

    pub load-other : e ≡ false → loaded_of (Err (record { no = 33; place = 0 })) t w ≡ loaded x image s t w
    unfolding loaded
    load-other y = rw (← p, work-room, h, ← q, y)

pub ruleset loads = (tables_fit, work_fits, load_fits, load-other, load-short, rules)
