-- Where tokens end: what is read as a token or an item goes from its first byte to the end that `TokenTo` says.
--     to_inside     a token is not empty and lies inside the text
--     to_same       it has one end
--     has_end       where no blank, comment or quote stands inside the text, a token with an end does, be it malformed
--     to-closed     an unclosed string has none; to-comment, to_end: no token stands at a comment and at the text's end
--     token-to      every token that is read has the end that it is read with
--     item-to       the same for an item of a skipped block
use Prim.Native.Nat.{ℕ, zero, suc, ◌+◌, ◌≤◌, ◌<◌}
use mathlib.Core.Path.{◌≡◌, refl, sym, ◌∙◌, ap, subst}
use mathlib.Core.List.{List}
use mathlib.Core.Bool.{Bool, true, false, ◌&&◌, ◌||◌, false≢true}
use native.Mathlib.Omega.{arith}
use borrow.Author.Tests.{ltb-true, ltb-false, leb-false, eqb-true, eqb-false, ne_eqb}
use lib.ListN.{length}
use lib.Dec.{ltb, leb, eqb}
use Rattle.text.specs.Walk.{on, done}
use Rattle.text.specs.Answer as piece
use Rattle.text.specs.Answer.{Answer, given, refused, with, Piece, piece, finish}
use Rattle.text.specs.Bytes.{byte, is_blank, is_allowed, is_letter, is_digit, starts_name, in_name, starts_number, pair_at}
use Rattle.text.specs.Blank.{blank_step, blank_at, token_ends}
use Rattle.text.specs.Token.{name_step, name_end, name_at, string_end, string_at, run_step, run_end, number_at, is_begin, is_end, mark_of, mark_at, token_at, next_token}
use Rattle.text.specs.Item.{item_of, run_item, item_at, next_item}
use Rattle.text.proofs.Walks.{over-has}
use Rattle.text.proofs.BlankLaws.{ends_last}
use Rattle.text.proofs.Within.{by-test, and_left, and_right, Past, NoGap, Goes, Blanks, blank-goes}
use Rattle.text.proofs.Pieces.{no_end, string-within, name-past}
use Rattle.local.specs.Token.{TokenTo, string, run}

-- the token at p ends two bytes before m
pub record EarlyAt (m : ℕ) (x : List ℕ) (p : ℕ) : Type 0 where
  pub end : ℕ
  pub to : TokenTo x p end
  pub early : end + 2 ≤ m

-- ---- the bytes of a name

-- a byte of a name is none that in_name refuses
name-other : (b c : ℕ) → in_name c ≡ false → in_name b ≡ true → eqb b c ≡ false
name-other b c f h = ne_eqb b c (λ q. false≢true (sym f ∙ ap in_name (sym q) ∙ h))

no-pair : (s : List ℕ) (k a b : ℕ) → eqb (byte s k) a ≡ false → pair_at s k a b ≡ false
unfolding pair_at
no-pair s k a b h = rw h (by_end (ltb (k + 1) (length s))) where
  by_end : (u : Bool) → (u && false && eqb (byte s (k + 1)) b) ≡ false
  by_end true = refl
  by_end false = refl

not-blank : (b : ℕ) → in_name b ≡ true → is_blank b ≡ false
unfolding is_blank in_name starts_name is_letter is_digit
not-blank b g = rw (name-other b 32 refl g, name-other b 9 refl g, name-other b 13 refl g, name-other b 10 refl g)

-- where a byte of a name stands no token ends
pub name-goes : (s : List ℕ) (k : ℕ) → k < length s → in_name (byte s k) ≡ true → token_ends s k ≡ false
unfolding in_name starts_name is_letter is_digit
name-goes s k h f =
    let z : eqb (byte s k) 47 ≡ false = name-other (byte s k) 47 refl f in
    no_end s k h (record { blank = not-blank (byte s k) f; line = no-pair s k 47 47 z; comment = no-pair s k 47 42 z })
    (eqb-false (byte s k) 34 (name-other (byte s k) 34 refl f))

or-last : (a : Bool) → (a || true) ≡ true
or-last true = refl
or-last false = refl

-- where a comment starts one ends
ends_there : (s : List ℕ) (k : ℕ) → pair_at s k 47 42 ≡ true → token_ends s k ≡ true
unfolding token_ends
ends_there s k c = rw c (or-last (leb (length s) k || is_blank (byte s k) || eqb (byte s k) 34 || pair_at s k 47 47))

-- ---- where no token ends

-- from k on, up to j, no token ends
abbrev pub Goes_on : List ℕ → ℕ → ℕ → Type 0
Goes_on s k j = (i : ℕ) → k ≤ i → i < j → token_ends s i ≡ false

module _ (s : List ℕ) where
  -- no token ends past the text's end
  pub not-ended : (k : ℕ) → token_ends s k ≡ false → k < length s
  not-ended k f = by-ltb (ltb k (length s)) refl where
    by-ltb : (u : Bool) → ltb k (length s) ≡ u → k < length s
    by-ltb true u = ltb-true k (length s) u
    by-ltb false u = absurd (false≢true (sym f ∙ sym (ends_last s k (ltb-false k (length s) u))))

  module _ (k : ℕ) where
    pub goes-start : Goes_on s k k
    goes-start i a b = absurd (omega arith)

    pub goes_further : (j : ℕ) → Goes_on s k j → token_ends s j ≡ false → Goes_on s k (j + 1)
    goes_further j g f i a b = by-ltb (ltb i j) refl where
      by-ltb : (u : Bool) → ltb i j ≡ u → token_ends s i ≡ false
      by-ltb true u = g i a (ltb-true i j u)
      by-ltb false u = let q : j ≡ i = omega (arith, ltb-false i j u) in subst (λ v. token_ends s v ≡ false) q f

    -- what goes on up to e goes on no further than to where a token ends
    pub goes_before : (e f : ℕ) → Goes_on s k e → k ≤ f → token_ends s f ≡ true → e ≤ f
    goes_before e f g h t = by-ltb (ltb f e) refl where
      by-ltb : (u : Bool) → ltb f e ≡ u → e ≤ f
      by-ltb true u = absurd (false≢true (sym (g f h (ltb-true f e u)) ∙ t))
      by-ltb false u = ltb-false f e u

    -- the bytes of a name
    pub name-on : Goes_on s k (name_end s k)
    unfolding name_end
    name-on = over-has (length s) (name_step s) (λ j. j) (Goes_on s k) (Goes_on s k)
        (λ j e lt g q. by-test (λ st. st ≡ on e → (j < e) × Goes_on s k e) (in_name (byte s j))
        (λ u v. let w : j + 1 ≡ e = cc in (omega arith, subst (Goes_on s k) w (goes_further j g (name-goes s j lt u))))
        (λ u v. absurd (let z : ◌≡◌ {A = ℕ} 0 1 = cc in omega arith)) q)
        (λ j e lt g q. by-test (λ st. st ≡ done e → Goes_on s k e) (in_name (byte s j))
        (λ u v. absurd (let z : ◌≡◌ {A = ℕ} 0 1 = cc in omega arith))
        (λ u v. let w : j ≡ e = cc in subst (Goes_on s k) w g) q)
        (λ j ge g. g) k goes-start

-- a run goes to where a token ends
abbrev pub Runs : List ℕ → ℕ → Answer ℕ → Type 0
Runs s k (given e) = (k ≤ e) × Goes_on s k e × (token_ends s e ≡ true)
Runs s k (refused n p) = Unit

pub run_on : (s : List ℕ) (k : ℕ) → Runs s k (run_end s k)
unfolding run_end
run_on s k = over-has (length s) (run_step s k) given (λ j. (k ≤ j) × Goes_on s k j) (Runs s k)
    (λ j e lt p. by-test (λ st. st ≡ on e → (j < e) × ((k ≤ e) × Goes_on s k e)) (token_ends s j)
    (λ u v. absurd (let z : ◌≡◌ {A = ℕ} 0 1 = cc in omega arith))
    (λ u. by-test (λ st. st ≡ on e → (j < e) × ((k ≤ e) × Goes_on s k e)) (is_allowed (byte s j))
    (λ w v. let q : j + 1 ≡ e = cc in (omega arith, (omega (arith, p.0), subst (Goes_on s k) q (goes_further s k j p.1 u))))
    (λ w v. absurd (let z : ◌≡◌ {A = ℕ} 0 1 = cc in omega arith))))
    (λ j a lt p. by-test (λ st. st ≡ done a → Runs s k a) (token_ends s j)
    (λ u v. let q : given j ≡ a = cc in subst (Runs s k) q (p.0, p.1, u))
    (λ u. by-test (λ st. st ≡ done a → Runs s k a) (is_allowed (byte s j))
    (λ w v. absurd (let z : ◌≡◌ {A = ℕ} 0 1 = cc in omega arith))
    (λ w v. let q : refused 1 k ≡ a = cc in subst (Runs s k) q tt)))
    (λ j ge p. (p.0, p.1, sym (ends_last s j ge))) k (omega arith, goes-start s k)

-- ---- the end of a token

module _ {x : List ℕ} where
  -- a token is not empty and lies inside the text
  pub to_inside : {p e : ℕ} → TokenTo x p e → (p < e) × (e ≤ length x)
  to_inside {p} {e} (string q h g) = subst (Past (length x) p) g (string-within x p h)
  to_inside {p} {e} (run q h f t) = (h, by-ltb (ltb (length x) e) refl) where
    by-ltb : (u : Bool) → ltb (length x) e ≡ u → e ≤ length x
    by-ltb true u =
        let l : p < length x = not-ended x p (f p (omega arith) h) in
        let m : length x < length x = not-ended x (length x) (f (length x) (omega arith) (ltb-true (length x) e u)) in
        absurd (omega arith)
    by-ltb false u = ltb-false (length x) e u

  -- a token has one end
  pub to_same : {p e f : ℕ} → TokenTo x p e → TokenTo x p f → e ≡ f
  to_same (string q h g) (string q' h' g') = cc
  to_same (string q h g) (run q' h' f' t') = absurd (q' q)
  to_same (run q h f t) (string q' h' g') = absurd (q q')
  to_same {p} {e} {f} (run q h g t) (run q' h' g' t') = omega (arith, goes_before x p e f g (omega arith) t', goes_before x p f e g' (omega arith) t)

  -- a run that goes on lies in the token
  pub to-before : {p e j : ℕ} → TokenTo x p e → (byte x p ≡ 34 → ⊥) → Goes_on x p j → j ≤ e
  to-before (string q h g) other o = absurd (other q)
  to-before {p} {e} {j} (run q h g t) other o = goes_before x p j e o (omega arith) t

  -- no token is a string that is not closed
  pub to-closed : {p e : ℕ} → TokenTo x p e → byte x p ≡ 34 → (n k : ℕ) → string_end x p ≡ refused n k → ⊥
  to-closed (string q h g) o n k r = let z : ◌≡◌ {A = ℕ} 0 1 = cc in omega arith
  to-closed (run q h g t) o n k r = q o

  -- no token starts with a comment
  pub to-comment : {p e : ℕ} → TokenTo x p e → pair_at x p 47 42 ≡ true → ⊥
  unfolding pair_at
  to-comment {p} (string q h g) c = let l : byte x p ≡ 47 = eqb-true (byte x p) 47 (and_right (ltb (p + 1) (length x)) _ (and_left _ _ c)) in omega arith
  to-comment {p} (run q h g t) c = false≢true (sym (g p (omega arith) h) ∙ ends_there x p c)

-- every token that is no string has an end, also a malformed one
module _ (s : List ℕ) (k : ℕ) where
  end-from : (n j : ℕ) → k ≤ j → length s ≤ n + j → Goes_on s k j → (e : ℕ) × (k ≤ e) × Goes_on s k e × (token_ends s e ≡ true)
  end-from zero j h l g = (j, h, g, sym (ends_last s j (omega arith)))
  end-from (suc n) j h l g = by_end (token_ends s j) refl (end-from n (j + 1) (omega arith) (omega arith)) where
    by_end : (u : Bool) → token_ends s j ≡ u → (Goes_on s k (j + 1) → (e : ℕ) × (k ≤ e) × Goes_on s k e × (token_ends s e ≡ true)) → (e : ℕ) × (k ≤ e) × Goes_on s k e × (token_ends s e ≡ true)
    by_end true u next = (j, h, g, u)
    by_end false u next = next (goes_further s k j g u)

  pub has_end : k < length s → NoGap s k → (byte s k ≡ 34 → ⊥) → (e : ℕ) × TokenTo s k e
  has_end h none other =
      let goes : token_ends s k ≡ false = no_end s k h none other in
      let r : (e : ℕ) × (k ≤ e) × Goes_on s k e × (token_ends s e ≡ true) = end-from (length s) k (omega arith) (omega arith) (goes-start s k) in
      let d : k ≡ r.0 → ⊥ = (λ q. false≢true (sym goes ∙ ap (token_ends s) q ∙ r.3)) in
      (r.0, run other (omega (arith, r.1)) r.2 r.3)

-- no token stands at the text's end
pub to_end : (x : List ℕ) (e : ℕ) → TokenTo x (length x) e → ⊥
to_end x e to = omega (arith, to_inside to)

-- ---- what is read

-- a piece ends where the token at its first byte ends
abbrev pub PieceTo : List ℕ → Answer Piece → Type 0
PieceTo s (given (piece kind a e)) = TokenTo s a e
PieceTo s (given (finish p)) = p ≡ length s
PieceTo s (refused n p) = Unit

module _ (s : List ℕ) (k : ℕ) where
  module _ (other : byte s k ≡ 34 → ⊥) (goes : token_ends s k ≡ false) (f : ℕ → Answer Piece) (one : (e : ℕ) → TokenTo s k e → PieceTo s (f e)) where
    run-to : (a : Answer ℕ) → Runs s k a → PieceTo s (with a f)
    run-to (given e) r =
        let d : k ≡ e → ⊥ = (λ q. false≢true (sym goes ∙ ap (token_ends s) q ∙ r.2)) in
        one e (run other (omega (arith, r.0)) r.1 r.2)
    run-to (refused n p) r = tt

  string-to : k < length s → byte s k ≡ 34 → (a : Answer ℕ) → string_end s k ≡ a → PieceTo s (with a (λ e. given (piece piece.string k e)))
  string-to h q (given e) g = string q h g
  string-to h q (refused n p) g = tt

  module _ (none : k < length s → NoGap s k) where
    token-at : PieceTo s (token_at s k)
    unfolding token_at string_at name_at number_at mark_at
    token-at = by-test (PieceTo s) (leb (length s) k) (λ l. refl) λ l.
        let h : k < length s = leb-false (length s) k l in
        by-test (PieceTo s) (eqb (byte s k) 34) (λ q. string-to h (eqb-true (byte s k) 34 q) (string_end s k) refl) λ q.
        let other : byte s k ≡ 34 → ⊥ = eqb-false (byte s k) 34 q in
        let goes : token_ends s k ≡ false = no_end s k h (none h) other in
        by-test (PieceTo s) (starts_name (byte s k))
        (λ u. by-test (PieceTo s) (leb (name_end s k) (k + 128) && token_ends s (name_end s k))
        (λ v. run other (name-past s k h u) (name-on s k) (and_right (leb (name_end s k) (k + 128)) _ v)) (λ v. tt)) λ u.
        by-test (PieceTo s) (starts_number (byte s k))
        (λ v. run-to other goes (λ e. given (piece piece.number k e)) (λ e to. to) (run_end s k) (run_on s k))
        (λ v. run-to other goes (mark_of s k)
        (λ e to. by-test (PieceTo s) (is_begin s k e) (λ w. to) (λ w. by-test (PieceTo s) (is_end s k e) (λ z. to) (λ z. tt)))
        (run_end s k) (run_on s k))

    item-at : PieceTo s (item_at s k)
    unfolding item_at string_at run_item
    item-at = by-test (PieceTo s) (leb (length s) k) (λ l. refl) λ l.
        let h : k < length s = leb-false (length s) k l in
        by-test (PieceTo s) (eqb (byte s k) 34) (λ q. string-to h (eqb-true (byte s k) 34 q) (string_end s k) refl) λ q.
        let other : byte s k ≡ 34 → ⊥ = eqb-false (byte s k) 34 q in
        run-to other (no_end s k h (none h) other) (item_of s k)
        (λ e to. by-test (PieceTo s) (is_begin s k e) (λ w. to) (λ w. by-test (PieceTo s) (is_end s k e) (λ z. to) (λ z. to)))
        (run_end s k) (run_on s k)

-- past blanks and comments none stands
abbrev NoneAt : List ℕ → Answer ℕ → Type 0
NoneAt s (given e) = e < length s → NoGap s e
NoneAt s (refused n p) = Unit

module _ (s : List ℕ) where
  none-goes : (j : ℕ) (a : Answer ℕ) → Blanks s j a → NoneAt s a
  none-goes j (given e) p = p.1
  none-goes j (refused n e) p = tt

  none-at : (k : ℕ) → NoneAt s (blank_at s k)
  unfolding blank_at
  none-at k = over-has (length s) (blank_step s) given (λ j. Unit) (NoneAt s)
      (λ j e lt p q. let g : Goes (length s) (Blanks s) j (on e) = subst (Goes (length s) (Blanks s) j) q (blank-goes s j lt) in (g.0, tt))
      (λ j a lt p q. none-goes j a (subst (Goes (length s) (Blanks s) j) q (blank-goes s j lt)))
      (λ j ge p l. absurd (omega arith)) k tt

  module _ (read : ℕ → Answer Piece) (reads : (k : ℕ) → (k < length s → NoGap s k) → PieceTo s (read k)) where
    after-blanks : (a : Answer ℕ) → NoneAt s a → PieceTo s (with a read)
    after-blanks (given e) n = reads e n
    after-blanks (refused m p) n = tt

  -- every token, and every item, has the end that it is read with
  pub token-to : (k : ℕ) → PieceTo s (next_token s k)
  unfolding next_token
  token-to k = after-blanks (token_at s) (token-at s) (blank_at s k) (none-at k)

  pub item-to : (k : ℕ) → PieceTo s (next_item s k)
  unfolding next_item
  item-to k = after-blanks (item_at s) (item-at s) (blank_at s k) (none-at k)
