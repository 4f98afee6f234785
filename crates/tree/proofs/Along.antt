-- What holds at the start, and is kept by each keyword and by each end of a block, holds of the records of every description that was read.
use Prim.Native.Nat.{ℕ, ◌≤◌}
use mathlib.Core.Path.{◌≡◌, refl, sym, ◌∙◌, ap, subst}
use mathlib.Core.List.{List}
use mathlib.Core.Bool.{Bool, true, false, ◌||◌, false≢true}
use native.Mathlib.Omega.{arith}
use borrow.Author.Tests.{eq-eqb}
use lib.Dec.{eqb}
use lib.ListN.{length}
use Rattle.text.specs.Answer as piece
use Rattle.text.specs.Answer.{given}
use Rattle.text.proofs.SkipWithin.{Reaches, skip-block-within}
use Rattle.words.specs.Kind as word
use Rattle.words.specs.Class.{class_at}
use Rattle.records.specs.Records.{empty}
use Rattle.records.proofs.Encode.{Good, good-add, none-good}
use Rattle.rows.specs.Codes.{FILE, ANY}
use Rattle.rows.specs.Sections.{sections, file}
use Rattle.rows.specs.Row.{opening, Row}
use Rattle.rows.specs.Rows.{rows, keeps}
use Rattle.grammar.specs.Keyword.{levels_in, holder_of}
use Rattle.grammar.specs.Read.{start, read}
use Rattle.tree.specs.Tree.{Records, Among, Stands, Met, Content, closed, holds_keyword, passes_keyword, holds_block, skips_block, Versions, version, Description, description}
use Rattle.tree.specs.Tree as tree
use Rattle.tree.proofs.Skipping.{skipped-exactly}
use Rattle.tree.proofs.Tables.{number_of}
use Rattle.tree.proofs.Words.{block-number, passed-number}
use Rattle.tree.proofs.Shapes.{row-shaped}
use Rattle.tree.proofs.Steps.{token-lies}
use Rattle.tree.proofs.Sound.{accepted-is}
use Rattle.tree.proofs.Leaves.{filled-ends, stands_good}

-- where keywords stand that are passed
abbrev pub is_loose : ℕ → Bool
is_loose b = eqb b ANY || eqb b FILE

-- the keyword of row r with its parameters, up to the place k'; the block b is open before it, and the block c after it
pub record Step (x : List ℕ) (b c : ℕ) (r : Row) (k : ℕ) (d : Records) (k' : ℕ) (d' : Records) : Type 0 where
  pub home : ℕ
  pub stands : Stands x home c r k d k' d'
  pub lies : k ≤ length x
  pub good : Good sections d
  -- it is a keyword of the open block, or is passed
  pub own : is_loose r.parent ≡ false → r.parent ≡ b
  pub stays : eqb r.opens opening ≡ false → c ≡ b
  pub enters : eqb r.opens opening ≡ true → (r.parent ≡ b) × (c ≡ r.word)

-- a word that is passed opens nothing
passed-plain : (x : List ℕ) (a e : ℕ) (r : Row) → Among r rows → class_at x a e ≡ word.skipped_plain r.word → eqb r.opens opening ≡ false
passed-plain x a e r m w = rw ((row-shaped r m).passed (passed-number x a e r.word w))

module _ (x : List ℕ) (b : ℕ) (r : Row) (k : ℕ) (d : Records) (k' : ℕ) (d' : Records) (l : k ≤ length x) (g : Good sections d) where
  keyword-step : Stands x b b r k d k' d' → eqb r.opens opening ≡ false → Step x b b r k d k' d'
  keyword-step s o = record { home = b; stands = s; lies = l; good = g; own = λ t. s.placed; stays = λ t. refl; enters = λ t. absurd (false≢true (sym o ∙ t)) }

  passed-step : (home : ℕ) → is_loose home ≡ true → Stands x home b r k d k' d' → eqb r.opens opening ≡ false → Step x b b r k d k' d'
  passed-step home p s o = record {
    home = home;
    stands = s;
    lies = l;
    good = g;
    own = λ t. absurd (false≢true (sym t ∙ ap is_loose s.placed ∙ p));
    stays = λ t. refl;
    enters = λ t. absurd (false≢true (sym o ∙ t));
  }

  block-step : Stands x b r.word r k d k' d' → eqb r.opens opening ≡ true → Step x b r.word r k d k' d'
  block-step s o = record { home = b; stands = s; lies = l; good = g; own = λ t. s.placed; stays = λ t. absurd (false≢true (sym t ∙ o)); enters = λ t. (s.placed, refl) }

start-good : Good sections start
unfolding start
start-good = good-add sections 0 (empty sections) (none-good sections) file

-- H of the open block and of the records so far
module _ (x : List ℕ) (H : ℕ → Records → Type 0)
    (step : (b c : ℕ) (r : Row) (k : ℕ) (d : Records) (k' : ℕ) (d' : Records) → Step x b c r k d k' d' → H b d → H c d')
    (closes : (b : ℕ) (d : Records) → Met d b → H b d → H (holder_of b) d) where
  -- what is carried to the place k
  abbrev At : ℕ → ℕ → Records → Type 0
  At b k d = (k ≤ length x) × Good sections d × H b d

  after : {b c : ℕ} {r : Row} {k : ℕ} {d : Records} {k' : ℕ} {d' : Records} → Step x b c r k d k' d' → H b d → At c k' d'
  after {b} {c} {r} {k} {d} {k'} {d'} s h = (filled-ends x c (keeps r) s.stands.filled s.lies, stands_good x s.home c r k d k' d' s.stands s.lies s.good, step b c r k d k' d' s h)

  content-along : {b k k' : ℕ} {d d' : Records} → Content x b k d k' d' → At b k d → At (holder_of b) k' d'
  content-along (closed {b} {k} {a} {e} {k'} {d} m t w) h =
      let p : e ≤ length x = (token-lies x k piece.end a e h.0 t).2 in
      ((token-lies x e piece.name w.0 k' p w.1).2, h.1, closes b d m h.2)
  content-along (holds_keyword {b} {k} {e} {k₁} {k'} {d} {d₁} r o w s more) h =
      let p : e ≤ length x = (token-lies x k piece.name w.0 e h.0 w.1).2 in
      content-along more (after (keyword-step x b r e d k₁ d₁ p h.1 s (rw o)) h.2)
  content-along (passes_keyword {b} {k} {e} {k₁} {k'} {d} {d₁} r w s more) h =
      let p : e ≤ length x = (token-lies x k piece.name w.0 e h.0 w.1).2 in
      content-along more (after (passed-step x b r e d k₁ d₁ p h.1 ANY refl s (passed-plain x w.0 e r s.listed w.2)) h.2)
  content-along (holds_block {b} {k} {a} {e} {e₁} {k₁} {k₂} {k'} {d} {d₁} {d₂} r t w s inner more) h =
      let p : e₁ ≤ length x = (token-lies x e piece.name w.0 e₁ (token-lies x k piece.begin a e h.0 t).2 w.1).2 in
      let o : r.opens ≡ opening = (row-shaped r s.listed).blocks (block-number x w.0 e₁ r.word w.2) in
      let q : holder_of r.word ≡ b = (number_of r s.listed).1.held o ∙ s.placed in
      content-along more (rw q at (content-along inner (after (block-step x b r e₁ d k₁ d₁ p h.1 s (eq-eqb r.opens opening o)) h.2)))
  content-along (skips_block {b} {k} {a} {e} {f} {g} {c} {k₁} {k'} {d} t u w z more) h =
      let p : g ≤ length x = (token-lies x e piece.name f g (token-lies x k piece.begin a e h.0 t).2 u).2 in
      content-along more ((subst (Reaches (length x) g) ((skipped-exactly x (levels_in b) f g k₁).1 z) (skip-block-within (levels_in b) x f g p)).1, h.1, h.2)

  versions-along : {k k' : ℕ} {d d' : Records} → Versions x k d k' d' → At FILE k d → At FILE k' d'
  versions-along tree.Versions.no_more h = h
  versions-along (version {k} {e} {k₁} {k'} {d} {d₁} r w s more) h =
      let p : e ≤ length x = (token-lies x k piece.name w.0 e h.0 w.1).2 in
      versions-along more (after (passed-step x FILE r e d k₁ d₁ p h.1 FILE refl s (passed-plain x w.0 e r s.listed w.2)) h.2)

  description-along : (d : Records) → H FILE start → Description x d → H FILE d
  description-along d i (description {k} {a} {e} {e₁} {k₁} {k₂} {p} {d₀} {d₁} r vs t w z s c l) =
      let v = versions-along vs (omega arith, start-good, i) in
      let q : e₁ ≤ length x = (token-lies x e piece.name w.0 e₁ (token-lies x k piece.begin a e v.0 t).2 w.1).2 in
      let o : r.opens ≡ opening = (row-shaped r s.listed).blocks (block-number x w.0 e₁ r.word (w.2 ∙ ap word.taken_block (sym z))) in
      let u : Stands x FILE r.word r e₁ d₀ k₁ d₁ = subst (λ (n : ℕ). Stands x FILE n r e₁ d₀ k₁ d₁) (sym z) s in
      let h : At r.word k₁ d₁ = after (block-step x FILE r e₁ d₀ k₁ d₁ q v.1 u (eq-eqb r.opens opening o)) v.2 in
      (content-along c (rw z at h)).2

  -- in every description that was read
  pub read-along : H FILE start → (d : Records) → read x ≡ given d → H FILE d
  read-along i d r = description-along d i (accepted-is x d r)
