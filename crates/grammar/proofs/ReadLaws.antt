-- Reading, by the branches that the code takes.
use Prim.Native.Nat.{ℕ, zero, suc, ◌+◌, ◌-◌, ◌≤◌, ◌<◌}
use mathlib.Core.Path.{◌≡◌, refl, sym, ◌∙◌, ap}
use mathlib.Core.List.{List, [], ◌∷◌}
use mathlib.Core.Bool.{Bool, true, false, cond, ◌&&◌}
use native.Mathlib.Omega.{arith}
use borrow.Author.Rules.{rules}
use borrow.Author.Tests.{eq-eqb, ne_eqb, lt-ltb, le-ltb}
use lib.Dec.{ltb}
use lib.ListN.{length, set, replicate, length-set, length-replicate}
use Rattle.std.specs.Prelude.{Result, Ok, Err}
use Rattle.text.specs.Answer.{Answer, given, told}
use Rattle.text.specs.Answer as text
use Rattle.text.specs.declared.cursor.Cursor.{Cursor}
use Rattle.records.specs.Cells.{room, section_in, place, count_in, put_in, add_in}
use Rattle.records.specs.declared.Section.{Section}
use Rattle.rows.specs.Sections.{sections}
use Rattle.grammar.specs.Move.{View, view_in, state, items, values, puts_in, added_in, applied_in, Move, went, over, refused, moved}
use Rattle.grammar.specs.Parameter.{wrong, taken}
use Rattle.grammar.specs.Keyword.{item, after_begin, after_end}
use Rattle.grammar.specs.Read.{on_piece, move, read}
use Rattle.grammar.specs.Out.{Out, accepted, refusing, out_of, left, read_into, following_in, read_from_in, read_in}
use Rattle.grammar.specs.declared.state.State.{State}
use Rattle.grammar.proofs.Cells.{CellsOf, read-encode}
use Rattle.grammar.specs.declared.state.Act.{Act}
use Rattle.grammar.specs.declared.state.Move.TheVariants as variant
use Rattle.text.specs.declared.cursor.Refusal.{Refusal}
use Rattle.grammar.proofs.Answered.{Answered}

module _ (x : List ℕ) (v : View) (s : State) (k a e : ℕ) (m : Answered) where
  pub piece-over : s.mode ≡ 3 → moved m ≡ wrong 3 x k a e → moved m ≡ on_piece x v s k a e
  unfolding on_piece
  piece-over h p = rw (eq-eqb s.mode 3 h, p)

  module _ (h : s.mode ≡ 3 → ⊥) where
    pub piece-begun : s.mode ≡ 1 → moved m ≡ after_begin x v s k a e → moved m ≡ on_piece x v s k a e
    unfolding on_piece
    piece-begun g p = rw (ne_eqb s.mode 3 h, eq-eqb s.mode 1 g, p)

    module _ (g : s.mode ≡ 1 → ⊥) where
      pub piece-ended : s.mode ≡ 2 → moved m ≡ after_end x s k a e → moved m ≡ on_piece x v s k a e
      unfolding on_piece
      piece-ended f p = rw (ne_eqb s.mode 3 h, ne_eqb s.mode 1 g, eq-eqb s.mode 2 f, p)

      pub piece-item : (s.mode ≡ 2 → ⊥) → s.param ≡ 0 → moved m ≡ item x v s k a e → moved m ≡ on_piece x v s k a e
      unfolding on_piece
      piece-item f q p = rw (ne_eqb s.mode 3 h, ne_eqb s.mode 1 g, ne_eqb s.mode 2 f, eq-eqb s.param 0 q, p)

      pub piece-taken : (s.mode ≡ 2 → ⊥) → (s.param ≡ 0 → ⊥) → moved m ≡ taken x v s k a e → moved m ≡ on_piece x v s k a e
      unfolding on_piece
      piece-taken f q p = rw (ne_eqb s.mode 3 h, ne_eqb s.mode 1 g, ne_eqb s.mode 2 f, ne_eqb s.param 0 q, p)

pub ruleset pieces = (piece-over, piece-begun, piece-ended, piece-item, piece-taken, rules)

-- writing keeps the number of cells
pub length-put : (t : List ℕ) (c : Section) (i k v : ℕ) → length (put_in t c i k v) ≡ length t
unfolding put_in
length-put t c i k v = by-test (ltb i (count_in t c) && ltb k c.width) where
  by-test : (b : Bool) → length (cond b (set t (place c i k) v) t) ≡ length t
  by-test true = length-set t (place c i k) v
  by-test false = refl

length-puts : (t : List ℕ) (c : Section) (i k : ℕ) (vs : List ℕ) → length (puts_in t c i k vs) ≡ length t
length-puts t c i k [] = refl
length-puts t c i k (v ∷ vs) = length-puts (put_in t c i k v) c i (suc k) vs ∙ length-put t c i k v

pub length-add : (t : List ℕ) (c : Section) → length (add_in t c) ≡ length t
unfolding add_in
length-add t c = by-test (ltb (count_in t c) c.most) where
  by-test : (b : Bool) → length (cond b (set t c.base (count_in t c + 1)) t) ≡ length t
  by-test true = length-set t c.base (count_in t c + 1)
  by-test false = refl

length-applied : (a : Act) (t : List ℕ) → length (applied_in a t) ≡ length t
unfolding applied_in
length-applied a t = length-puts (added_in a t) (section_in sections a.sec) (count_in (added_in a t) (section_in sections a.sec) - 1) a.slot (values a) ∙ length-add t (section_in sections a.adds)

-- the loop, whose turn i is next: what is read from here on is what is read in all
pub record Reading (x t₀ : List ℕ) (first : State) (t : List ℕ) (s : State) (k i : ℕ) : Type 0 where
  pub long : length t ≡ length t₀
  pub same : read_from_in (length x + 1 - i) x k s t ≡ read_from_in (length x + 1) x 0 first t₀

module _ (x t₀ : List ℕ) (first : State) where
  pub reading-start : Reading x t₀ first t₀ first 0 0
  reading-start = let z : length x + 1 - 0 ≡ length x + 1 = omega arith in record { long = refl; same = rw z }

  module _ (t : List ℕ) (s : State) (k i : ℕ) (q : Reading x t₀ first t s k i) where
    pub reading-end : length x + 1 ≤ i → refusing 3 (length x) t ≡ read_from_in (length x + 1) x 0 first t₀
    unfolding read_from_in
    reading-end h = let z : length x + 1 - i ≡ 0 = omega arith in rw z at q.same

    -- m is what `move_of` gave
    module _ (h : i < length x + 1) (m : Answered) (p : moved m ≡ move x (view_in t) s k) where
      look : following_in (moved m) t (read_from_in (length x + 1 - (i + 1)) x) ≡ read_from_in (length x + 1) x 0 first t₀
      unfolding read_from_in
      look = let z : length x + 1 - i ≡ suc (length x + 1 - (i + 1)) = omega arith in rw p (rw z at q.same)

      pub reading-over : m ≡ Ok variant.Over → accepted t ≡ read_from_in (length x + 1) x 0 first t₀
      reading-over y = rw y at look

      pub reading-refused : (r : Refusal) → m ≡ Err r → refusing r.no r.place t ≡ read_from_in (length x + 1) x 0 first t₀
      reading-refused r y = rw y at look

      pub reading-on : (c : Cursor) (st : State) (act : Act) (u : List ℕ) → m ≡ Ok (variant.Went c st act) → u ≡ applied_in act t → Reading x t₀ first u st c.at (i + 1)
      reading-on c st act u y w = record { long = ap length w ∙ length-applied act t ∙ q.long; same = rw w (rw y at look) }

pub ruleset readings = (reading-start, reading-end, reading-over, reading-refused, reading-on, rules)

-- the file's record first
pub all-is : (x t₀ t₁ t₂ : List ℕ) (c : Section) (st : State) (r : Result (Unit {0}) Refusal) → c ≡ section_in sections 0 → t₁ ≡ add_in t₀ c → st ≡ state 0 0 0 0 → out_of r t₂ ≡ read_from_in (length x + 1) x 0 st t₁ → out_of r t₂ ≡ read_in x t₀
unfolding read_in
all-is x t₀ t₁ t₂ c st r p q u w = w ∙ rw (u, q, p)

pub ruleset alls = (all-is, rules)

-- reading keeps the number of cells
following-long : (m : Move) (t : List ℕ) (go : ℕ → State → List ℕ → Out) → ((e : ℕ) (s : State) (u : List ℕ) → length (go e s u).cells ≡ length u) → length (following_in m t go).cells ≡ length t
following-long (went e s a) t go h = h e s (applied_in a t) ∙ length-applied a t
following-long over t go h = refl
following-long (refused n p) t go h = refl

from-long : (f : ℕ) (x : List ℕ) (k : ℕ) (s : State) (t : List ℕ) → length (read_from_in f x k s t).cells ≡ length t
unfolding read_from_in
from-long zero x k s t = refl
from-long (suc f) x k s t = following-long (move x (view_in t) s k) t (read_from_in f x) (from-long f x)

pub read-long : (x t : List ℕ) → length (read_in x t).cells ≡ length t
unfolding read_in
read-long x t = from-long (length x + 1) x 0 (state items 0 0 0) (add_in t (section_in sections 0)) ∙ length-add t (section_in sections 0)

-- accepted is no refusal
given-is-none : (k m : ℕ) → ◌≡◌ {A = Answer (Unit {0})} (given tt) (text.refused k m) → ⊥
given-is-none k m e = let w : ◌≡◌ {A = ℕ} 0 1 = cc in omega arith

pub room-is : room sections ≡ 42578
unfolding sections
room-is = refl

module _ (x t : List ℕ) where
  pub into-short : length t < 42578 → refusing 20 0 t ≡ read_into x t
  unfolding read_into
  into-short h = rw (room-is, lt-ltb (length t) 42578 h)

  module _ (h : 42578 ≤ length t) where
    into-is : left (length t) (read x) ≡ read_into x t
    unfolding read_into
    into-is = rw (room-is, le-ltb (length t) 42578 h)

    -- t₁ is the cleared slice, r what `read_all` gave and t₂ what it left
    module _ (t₁ t₂ : List ℕ) (z : t₁ ≡ replicate (length t) 0) (r : Result (Unit {0}) Refusal) (p : out_of r t₂ ≡ read_in x t₁) where
      cleared : CellsOf (length t) (read x) (out_of r t₂)
      cleared = rw (p, z) (read-encode (length t) x (omega (arith, room-is)))

      pub into-accepted : (u : Unit {0}) → r ≡ Ok u → accepted t₂ ≡ read_into x t
      into-accepted u y = by_answer (read x) (rw y at cleared) ∙ into-is where
        by_answer : (a : Answer (List (List (List ℕ)))) → CellsOf (length t) a (accepted t₂) → accepted t₂ ≡ left (length t) a
        by_answer (given d) q = q
        by_answer (text.refused k m) q = absurd (given-is-none k m q)

      pub into-refused : (d : Refusal) (t₃ : List ℕ) → r ≡ Err d → t₃ ≡ replicate (length t₂) 0 → refusing d.no d.place t₃ ≡ read_into x t
      into-refused d t₃ y w = rw (w, long y) (by_answer (read x) (rw y at cleared)) ∙ into-is where
        long : r ≡ Err d → length t₂ ≡ length t
        long e =
            let q : refusing d.no d.place t₂ ≡ read_in x t₁ = rw e at p in
            ap (λ (o : Out). length o.cells) q ∙ read-long x t₁ ∙ ap length z ∙ length-replicate (length t) 0

        by_answer : (a : Answer (List (List (List ℕ)))) → CellsOf (length t) a (refusing d.no d.place t₂) → refusing d.no d.place (replicate (length t) 0) ≡ left (length t) a
        by_answer (given g) q = absurd (given-is-none d.no d.place (sym (ap (λ (o : Out). o.answer) q)))
        by_answer (text.refused k i) q = ap (λ (u : Answer (Unit {0})). record { answer = u; cells = replicate (length t) 0 }) q

pub ruleset intos = (into-short, into-accepted, into-refused, rules)
