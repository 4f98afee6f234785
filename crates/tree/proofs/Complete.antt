-- A text that has a tree is accepted, with the records that the tree makes.
use Prim.Native.Nat.{ℕ, suc, ◌+◌, ◌-◌}
use mathlib.Core.Path.{◌≡◌, refl, sym, ◌∙◌, ap, subst}
use mathlib.Core.List.{List}
use mathlib.Core.Bool.{Bool, true, false, cond}
use native.Mathlib.Omega.{arith}
use borrow.Author.Tests.{eqb-true, eqb-false, eq-eqb}
use lib.Dec.{eqb}
use lib.ListN.{length}
use Rattle.text.specs.Answer as piece
use Rattle.text.specs.Answer.{given}
use Rattle.text.specs.Skip.{skip_block}
use Rattle.text.specs.Token.{next_token}
use Rattle.text.proofs.SkipWithin.{Reaches, skip-block-within}
use Rattle.words.specs.Kind as word
use Rattle.words.specs.Class.{class_at}
use Rattle.rows.specs.Codes.{FILE, ANY, PROJECT}
use Rattle.rows.specs.Row.{plain, opening, Row}
use Rattle.rows.specs.Rows.{rows, keeps}
use Rattle.rows.specs.Numbered.{first_param}
use Rattle.grammar.specs.Move.{view, state, begun, ended, finished, idle, went}
use Rattle.grammar.specs.Parameter.{a_name, a_begin, an_end}
use Rattle.grammar.specs.Keyword.{counting, stands, plain_row, home_of, levels_in, skips, opens, ends, holder_of, item, after_begin, after_end}
use Rattle.grammar.specs.Read.{on_piece, read_from, move, start, read}
use Rattle.grammar.specs.declared.state.State.{State}
use Rattle.tree.proofs.Skipping.{skipped-exactly}
use Rattle.tree.specs.Tree.{Records, Among, Comes, Free, counted, Stands, Content, closed, holds_keyword, passes_keyword, holds_block, skips_block, Versions, version, Description, description}
use Rattle.tree.specs.Tree as tree
use Rattle.tree.proofs.Tables.{IsRow, number_of}
use Rattle.tree.proofs.Words.{block-number, passed-number}
use Rattle.tree.proofs.Shapes.{row-shaped}
use Rattle.tree.proofs.Acts.{applied-idle, applied-counting, may-stand, not-often, all-met}
use Rattle.tree.proofs.Steps.{Run, Leads, stays, ◌then◌, past, further}
use Rattle.tree.proofs.Filled.{wanting, parameters-lead}

-- the state where a keyword of the block b may come
abbrev pub resting : ℕ → State
resting b = wanting b 0 0

-- the state after the end of the block b
abbrev pub leaving : ℕ → State
leaving b = cond (eqb b PROJECT) (state finished FILE 0 0) (resting (holder_of b))

module _ (x : List ℕ) (d : Records) (i : ℕ) (r : Row) (q : IsRow i r) (f : Free d r) (b a e : ℕ) where
  stands_on : (inner : ℕ) → stands (view d) i inner a e ≡ went e (wanting inner (first_param i) 0) (counting (view d) i)
  unfolding stands
  stands_on inner = rw (may-stand d i r q f, not-often d i r q f)

  plain-on : r.opens ≡ plain → plain_row (view d) (resting b) i a e ≡ went e (wanting b (first_param i) 0) (counting (view d) i)
  unfolding plain_row
  plain-on o = rw (q.inside, ap (λ (t : Row). t.opens) q.same ∙ o) (stands_on b)

  -- a keyword's word
  taken-on : r.opens ≡ plain → r.parent ≡ b → class_at x a e ≡ word.taken_plain r.word
      → on_piece x (view d) (resting b) a_name a e ≡ went e (wanting b (first_param i) 0) (counting (view d) i)
  unfolding on_piece item
  taken-on o h w = rw (w, ← h, q.found) (rw h (plain-on o))

  passed_on : r.opens ≡ plain → r.parent ≡ home_of b → class_at x a e ≡ word.skipped_plain r.word
      → on_piece x (view d) (resting b) a_name a e ≡ went e (wanting b (first_param i) 0) (counting (view d) i)
  unfolding on_piece item
  passed_on o h w = rw (w, ← h, q.found) (plain-on o)

  -- a block's word
  opens-on : r.parent ≡ b → class_at x a e ≡ word.taken_block r.word
      → on_piece x (view d) (state begun b 0 0) a_name a e ≡ went e (wanting r.word (first_param i) 0) (counting (view d) i)
  unfolding on_piece after_begin opens
  opens-on h w = rw (w, ← h, q.found, q.inside) (stands_on r.word)

-- ---- `/begin`, `/end` and skipped blocks

module _ (x : List ℕ) (d : Records) (b a e : ℕ) where
  begin-on : on_piece x (view d) (resting b) a_begin a e ≡ went e (state begun b 0 0) idle
  unfolding on_piece item
  begin-on = refl

  end_on : eqb b FILE ≡ false → tree.Met d b → on_piece x (view d) (resting b) an_end a e ≡ went e (state ended b 0 0) idle
  unfolding on_piece item ends
  end_on z m = rw (z, all-met d b m)

  close-on : class_at x a e ≡ word.taken_block b → on_piece x (view d) (state ended b 0 0) a_name a e ≡ went e (leaving b) idle
  unfolding on_piece after_end
  close-on w = rw (w, eq-eqb b b refl) (by-project (eqb b PROJECT)) where
    by-project : (t : Bool) → cond t (went e (state finished FILE 0 0) idle) (went e (resting (holder_of b)) idle) ≡ went e (cond t (state finished FILE 0 0) (resting (holder_of b))) idle
    by-project true = refl
    by-project false = refl

  skip-on : eqb b FILE ≡ false → (c k : ℕ) → class_at x a e ≡ word.skipped_block c → skip_block (levels_in b) x a e ≡ given k
      → on_piece x (view d) (state begun b 0 0) a_name a e ≡ went k (resting b) idle
  unfolding on_piece after_begin skips
  skip-on z c k w h = rw (w, z, h)

-- ---- a keyword with its parameters, from the place past its word

module _ (x : List ℕ) (d : Records) (i : ℕ) (r : Row) (q : IsRow i r) (home b e k' : ℕ) (d' : Records) (s : Stands x home b r e d k' d') where
  -- once its word was read
  fills : (k : ℕ) (m : State) → (a : ℕ) → Comes x k piece.name a e → on_piece x (view d) m a_name a e ≡ went e (wanting b (first_param i) 0) (counting (view d) i) → Leads x k m d k' (resting b) d'
  fills k m a t h =
      past x k m d piece.name a e t (wanting b (first_param i) 0) (counting (view d) i) h (counted r d) (applied-counting d i r q s.free)
      then parameters-lead x b (keeps r) s.filled (first_param i) q.chain

-- ---- the content of a block

-- a word that is passed opens nothing
passed-plain : (x : List ℕ) (a e : ℕ) (r : Row) → Among r rows → class_at x a e ≡ word.skipped_plain r.word → r.opens ≡ plain
passed-plain x a e r m w = (row-shaped r m).passed (passed-number x a e r.word w)

-- a block inside another is left for that one
leaving-inner : (b i : ℕ) (r : Row) → IsRow i r → r.opens ≡ opening → r.parent ≡ b → eqb b FILE ≡ false → leaving r.word ≡ resting b
leaving-inner b i r q o h z = by-project (eqb r.word PROJECT) refl where
  other : r.word ≡ PROJECT → ⊥
  other e = eqb-false b FILE z (sym (q.held o ∙ h) ∙ ap holder_of e)

  by-project : (t : Bool) → eqb r.word PROJECT ≡ t → cond t (state finished FILE 0 0) (resting (holder_of r.word)) ≡ resting b
  by-project true t = absurd (other (eqb-true r.word PROJECT t))
  by-project false t = ap resting (q.held o ∙ h)

home-any : (b : ℕ) → eqb b FILE ≡ false → ANY ≡ home_of b
home-any b z = rw z

pub content-leads : (x : List ℕ) {b k k' : ℕ} {d d' : Records} → Content x b k d k' d' → eqb b FILE ≡ false → Leads x k (resting b) d k' (leaving b) d'
content-leads x (closed {b} {k} {a} {e} {k'} {d} m t w) z =
    past x k (resting b) d piece.end a e t (state ended b 0 0) idle (end_on x d b a e z m) d (applied-idle d)
    then past x e (state ended b 0 0) d piece.name w.0 k' w.1 (leaving b) idle (close-on x d b w.0 k' w.2) d (applied-idle d)
content-leads x (holds_keyword {b} {k} {e} {k₁} {k'} {d} {d₁} r o w s rest) z =
    let n = number_of r s.listed in
    fills x d n.0 r n.1 b b e k₁ d₁ s k (resting b) w.0 w.1 (taken-on x d n.0 r n.1 s.free b w.0 e o s.placed w.2)
    then content-leads x rest z
content-leads x (passes_keyword {b} {k} {e} {k₁} {k'} {d} {d₁} r w s rest) z =
    let n = number_of r s.listed in
    fills x d n.0 r n.1 ANY b e k₁ d₁ s k (resting b) w.0 w.1 (passed_on x d n.0 r n.1 s.free b w.0 e (passed-plain x w.0 e r s.listed w.2) (s.placed ∙ home-any b z) w.2)
    then content-leads x rest z
content-leads x (holds_block {b} {k} {a} {e} {e₁} {k₁} {k₂} {k'} {d} {d₁} {d₂} r t w s inner rest) z =
    let n = number_of r s.listed in
    past x k (resting b) d piece.begin a e t (state begun b 0 0) idle (begin-on x d b a e) d (applied-idle d)
    then fills x d n.0 r n.1 b r.word e₁ k₁ d₁ s e (state begun b 0 0) w.0 w.1 (opens-on x d n.0 r n.1 s.free b w.0 e₁ s.placed w.2)
    then subst (λ (m : State). Leads x k₁ (resting r.word) d₁ k₂ m d₂) (leaving-inner b n.0 r n.1 ((row-shaped r s.listed).blocks (block-number x w.0 e₁ r.word w.2)) s.placed z) (content-leads x inner n.1.named)
    then content-leads x rest z
content-leads x (skips_block {b} {k} {a} {e} {f} {g} {c} {k₁} {k'} {d} t u w i rest) z =
    let h = (skipped-exactly x (levels_in b) f g k₁).1 i in
    past x k (resting b) d piece.begin a e t (state begun b 0 0) idle (begin-on x d b a e) d (applied-idle d)
    then subst (Leads x e (state begun b 0 0) d k₁ (resting b)) (applied-idle d)
    (further x e (state begun b 0 0) d piece.name f g u k₁ (resting b) idle (skip-on x d b f g z c k₁ w h) (λ l. subst (Reaches (length x) g) h (skip-block-within (levels_in b) x f g l)))
    then content-leads x rest z

-- ---- the whole text

pub versions-lead : (x : List ℕ) {k k' : ℕ} {d d' : Records} → Versions x k d k' d' → Leads x k (resting FILE) d k' (resting FILE) d'
versions-lead x (tree.Versions.no_more {k} {d}) = stays x k (resting FILE) d
versions-lead x (version {k} {e} {k₁} {k'} {d} {d₁} r w s rest) =
    let n = number_of r s.listed in
    fills x d n.0 r n.1 FILE FILE e k₁ d₁ s k (resting FILE) w.0 w.1 (passed_on x d n.0 r n.1 s.free FILE w.0 e (passed-plain x w.0 e r s.listed w.2) s.placed w.2)
    then versions-lead x rest

-- where nothing comes after PROJECT's end the records are given
at-end : (x : List ℕ) (k f p : ℕ) (d : Records) → next_token x k ≡ given (piece.finish p) → read_from (suc f) x k (state finished FILE 0 0) d ≡ given d
unfolding read_from move
at-end x k f p d h = rw h

-- "accepted exactly if": a text with a tree is accepted, with the tree's records
pub is-accepted : (x : List ℕ) (d : Records) → Description x d → read x ≡ given d
unfolding read
is-accepted x d (description {k} {a} {e} {e₁} {k₁} {k₂} {p} {d₀} {d₁} r vs t w z s c l) = ended-run (way (omega arith)) where
  way : Leads x 0 (resting FILE) start k₂ (state finished FILE 0 0) d
  way =
      let n = number_of r s.listed in
      versions-lead x vs
      then past x k (resting FILE) d₀ piece.begin a e t (state begun FILE 0 0) idle (begin-on x d₀ FILE a e) d₀ (applied-idle d₀)
      then fills x d₀ n.0 r n.1 FILE PROJECT e₁ k₁ d₁ s e (state begun FILE 0 0) w.0 w.1
      (opens-on x d₀ n.0 r n.1 s.free FILE w.0 e₁ s.placed (w.2 ∙ ap word.taken_block (sym z))
      ∙ ap (λ (c : ℕ). went e₁ (wanting c (first_param n.0) 0) (counting (view d₀) n.0)) z)
      then content-leads x c refl

  ended-run : Run x 0 (resting FILE) start k₂ (state finished FILE 0 0) d → read_from (length x + 1) x 0 (resting FILE) start ≡ given d
  ended-run u =
      let f : length x + 1 ≡ suc (length x - u.steps) + u.steps = omega (arith, u.far, u.inside) in
      rw f (u.same (suc (length x - u.steps)) ∙ at-end x k₂ (length x - u.steps) p d l)
