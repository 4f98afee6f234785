-- What is read does not depend on what follows the token that decides it. Two bytes past a token's end are looked at, since a comment may start there: `A/*` ends a name, `A/x` does not.
--     token-local     texts that are the same up to two bytes past a token's end have the same token there
--     item-local      the same for an item of a skipped block
--     name-local      what is said of a name, also that it is refused, rests on no byte past those two
--     token-near      the same also for a refusal, whose token is the one at its place
--     item-near       and for an item
-- The one notion is `Near`: an answer that is decided two bytes before m is read from a place before m too, and is the other text's answer.
use Prim.Native.Nat.{ℕ, zero, suc, ◌+◌, ◌-◌, ◌≤◌, ◌<◌, min}
use mathlib.Core.Path.{◌≡◌, refl, sym, ◌∙◌, ap, subst}
use mathlib.Core.List.{List}
use mathlib.Core.Bool.{Bool, true, false, cond, ◌&&◌, ◌||◌}
use native.Mathlib.Omega.{arith}
use borrow.Author.Tests.{ltb-true, ltb-false, lt-ltb, le-ltb, lt-leb, le-leb, eqb-true, eqb-false}
use lib.ListN.{length, take, length-take}
use lib.Seq.{get_or-take}
use lib.Dec.{ltb, leb, eqb}
use Rattle.text.specs.Walk.{Step, on, done, over}
use Rattle.text.specs.Answer.{Answer, given, refused, with, on_to, Kind, Piece, piece, finish, name, string, number, run, begin, end}
use Rattle.text.specs.Bytes.{byte, is_blank, is_allowed, starts_name, in_name, starts_number, pair_at, same_for, same_part, spelt}
use Rattle.text.specs.Blank.{line_step, line_end, close_step, comment_end, blank_step, blank_at, token_ends}
use Rattle.text.specs.Token.{name_step, name_end, name_at, quote_step, string_end, string_at, run_step, run_end, number_at, is_begin, is_end, mark_of, mark_at, token_at, next_token}
use Rattle.text.specs.Item.{item_of, run_item, item_at, next_item}
use Rattle.text.proofs.Walks.{Same, start, onto, stops, ends, over-has}
use Rattle.text.proofs.Within.{by-test, Goes, Blanks, blank-goes}
use Rattle.local.proofs.Tokens.{EarlyAt, Goes_on, goes-start, goes_further, Runs, run_on, name-on, to_inside, to-before, to-comment, to-closed}

-- a step that goes on goes forward
abbrev pub Ahead : {A : Type 0} → ℕ → Step A → Type 0
Ahead j (on e) = j < e
Ahead j (done a) = Unit

blank-ahead : (s : List ℕ) (j : ℕ) (st : Step (Answer ℕ)) → Goes (length s) (Blanks s) j st → Ahead j st
blank-ahead s j (on e) g = g.0
blank-ahead s j (done a) g = tt

-- m is the first place of which nothing is known
module _ (m : ℕ) where
  -- a place two bytes before m
  abbrev pub Early : ℕ → Type 0
  Early e = e + 2 ≤ m

  -- a step goes on to a place of which G holds, or E holds of its answer
  abbrev pub EarlyStep : {A : Type 0} → (ℕ → Type 0) → (A → Type 0) → Step A → Type 0
  EarlyStep G E (on e) = G e
  EarlyStep G E (done a) = E a

  -- x is read from k on in the one text, y in the other
  abbrev pub Near : {A : Type 0} → (A → Type 0) → ℕ → A → A → Type 0
  Near E k x y = E x → Early k × (y ≡ x)

  module _ {A : Type 0} (E : A → Type 0) where
    -- what is near from k on is near from an earlier place on
    pub near-back : (j k : ℕ) (x y : A) → j ≤ k → Near E k x y → Near E j x y
    near-back j k x y h p b = let g : Early k × (y ≡ x) = p b in (omega (arith, g.0), g.1)

    -- the same test in both texts, and what it says in the first
    pub near-if : (k : ℕ) (u v : Bool) {x x' y y' : A} → (Early k → u ≡ v) → (u ≡ true → Near E k x x') → (u ≡ false → Near E k y y') → Near E k (cond u x y) (cond v x' y')
    near-if k true v {x} {x'} {y} {y'} q p r b = let g : Early k × (x' ≡ x) = p refl b in (g.0, subst (λ w. cond w x' y' ≡ x) (q g.0) g.1)
    near-if k false v {x} {x'} {y} {y'} q p r b = let g : Early k × (y' ≡ y) = r refl b in (g.0, subst (λ w. cond w x' y' ≡ y) (q g.0) g.1)

    pub near-cond : (k : ℕ) (u v : Bool) {x x' y y' : A} → (Early k → u ≡ v) → Near E k x x' → Near E k y y' → Near E k (cond u x y) (cond v x' y')
    near-cond k u v q p r = near-if k u v q (λ w. p) (λ w. r)

    -- what is read from a place that was reached
    pub near-at : (k : ℕ) (f f' : ℕ → A) (x x' : ℕ) → Near E x (f x) (f' x) → Near Early k x x' → Near E k (f x) (f' x')
    near-at k f f' x x' one p b = let g : Early x × (f' x ≡ f x) = one b in let h : Early k × (x' ≡ x) = p g.0 in (h.0, ap f' h.1 ∙ g.1)

  -- a walk from k whose steps are near: G holds of each place that leads to an early answer, P of every place that is reached
  module _ {A : Type 0} (E : A → Type 0) (G P : ℕ → Type 0) (n n' : ℕ) (early : (j : ℕ) → G j → Early j) (inside : (j : ℕ) → Early j → (j < n → j < n') × (n ≤ j → n' ≤ j)) (step step' : ℕ → Step A) (last last' : ℕ → A)
      (ahead : (j : ℕ) → j < n → Ahead j (step j)) (keeps : (j e : ℕ) → j < n → P j → step j ≡ on e → P e) (one : (j : ℕ) → j < n → P j → EarlyStep G E (step j) → G j × (step' j ≡ step j)) (final : (j : ℕ) → n ≤ j → P j → E (last j) → G j × (last' j ≡ last j)) where
    pub near-walk : (k : ℕ) → P k → Near E k (over n step last k) (over n' step' last' k)
    near-walk k first = over-has n step last (λ j. (k ≤ j) × P j × (G j → Same A n' step' last' k j)) (λ a. E a → Early k × (over n' step' last' k ≡ a))
        (λ j e lt p q. let f : j < e = subst (Ahead j) q (ahead j lt) in (
          f,
          (
            omega (arith, p.0),
            keeps j e lt p.1 q,
            λ l.
                let g : G j × (step' j ≡ step j) = one j lt p.1 (subst (EarlyStep G E) (sym q) l) in
                onto (p.2 g.0) ((inside j (early j g.0)).0 lt) (g.1 ∙ q) f,
          ),
        ))
        (λ j a lt p q b. let g : G j × (step' j ≡ step j) = one j lt p.1 (subst (EarlyStep G E) (sym q) b) in
        (omega (arith, p.0, early j g.0), sym (stops (p.2 g.0) ((inside j (early j g.0)).0 lt) (g.1 ∙ q))))
        (λ j ge p b. let g : G j × (last' j ≡ last j) = final j ge p.1 b in
        (omega (arith, p.0, early j g.0), sym (ends (p.2 g.0) ((inside j (early j g.0)).1 ge)) ∙ g.1))
        k (omega arith, first, λ l. start)

  module _ {A : Type 0} (E : A → Type 0) (n n' : ℕ) (inside : (j : ℕ) → Early j → (j < n → j < n') × (n ≤ j → n' ≤ j)) (step step' : ℕ → Step A) (last : ℕ → A)
      (ahead : (j : ℕ) → j < n → Ahead j (step j)) (one : (j : ℕ) → Near (EarlyStep Early E) j (step j) (step' j)) (final : (j : ℕ) → E (last j) → Early j) where
    pub near-over : (k : ℕ) → Near E k (over n step last k) (over n' step' last k)
    near-over k = near-walk E Early (λ j. Unit) n n' (λ j l. l) inside step step' last last ahead (λ j e lt p q. tt) (λ j lt p. one j) (λ j ge p b. (final j b, refl)) k tt

  -- answers: a refusal is early where the token at its place is
  module _ (s : List ℕ) where
    abbrev pub EarlyAnswer : {A : Type 0} → (A → Type 0) → Answer A → Type 0
    EarlyAnswer E (given a) = E a
    EarlyAnswer E (refused n p) = EarlyAt m s p

    abbrev pub EarlyTo : Answer ℕ → Type 0
    EarlyTo = EarlyAnswer Early

    abbrev pub EarlyIn : Piece → Type 0
    EarlyIn (piece kind a e) = Early e
    EarlyIn (finish p) = ⊥

    abbrev pub EarlyPiece : Answer Piece → Type 0
    EarlyPiece = EarlyAnswer EarlyIn

    -- the place of such a refusal, and each before it
    pub early-place : (k p : ℕ) → k ≤ p → EarlyAt m s p → Early k
    early-place k p h b = omega (arith, to_inside b.to, b.early)

    -- a run that goes on to j lies in the token
    pub early-on : (k j : ℕ) → (byte s k ≡ 34 → ⊥) → Goes_on s k j → EarlyAt m s k → Early j
    early-on k j other g b = omega (arith, to-before b.to other g, b.early)

    -- what was read, or a refusal, and what is read on from there
    module _ {A B : Type 0} (F : A → Type 0) (E : B → Type 0) (k : ℕ) (f f' : A → Answer B) where
      pub near-with : (x x' : Answer A) → ((a : A) → x ≡ given a → EarlyAnswer E (f a) → F a × (f' a ≡ f a)) → Near (EarlyAnswer F) k x x' → Near (EarlyAnswer E) k (with x f) (with x' f')
      near-with (given a) x' one p b =
          let g : F a × (f' a ≡ f a) = one a refl b in
          let h : Early k × (x' ≡ given a) = p g.0 in
          (h.0, ap (λ y. with y f') h.1 ∙ g.1)
      near-with (refused n q) x' one p b = let h : Early k × (x' ≡ refused n q) = p b in (h.0, ap (λ y. with y f') h.1)

    -- the same as a step of a walk
    near-on_to : (k : ℕ) (x x' : Answer ℕ) → Near EarlyTo k x x' → Near (EarlyStep Early EarlyTo) k (on_to x) (on_to x')
    near-on_to k (given e) x' p b = let h : Early k × (x' ≡ given e) = p b in (h.0, ap on_to h.1)
    near-on_to k (refused n q) x' p b = let h : Early k × (x' ≡ refused n q) = p b in (h.0, ap on_to h.1)

  -- two texts that are the same before m
  module _ (s t : List ℕ) (same : take m s ≡ take m t) where
    pub cut-same : min m (length s) ≡ min m (length t)
    cut-same = sym (length-take m s) ∙ ap length same ∙ length-take m t

    pub inside : (j : ℕ) → Early j → (j < length s → j < length t) × (length s ≤ j → length t ≤ j)
    inside j l = (λ h. omega (arith, cut-same), λ h. omega (arith, cut-same))

    pub byte-same : (i : ℕ) → i < m → byte s i ≡ byte t i
    byte-same i h = sym (get_or-take m s i 0 h) ∙ ap (λ l. byte l i) same ∙ get_or-take m t i 0 h

    of-byte : {A : Type 0} (f : ℕ → A) (k : ℕ) → Early k → f (byte s k) ≡ f (byte t k)
    of-byte f k l = ap f (byte-same k (omega arith))

    pub before_same : (i : ℕ) → i < m → ltb i (length s) ≡ ltb i (length t)
    before_same i h = by-ltb (ltb i (length s)) refl where
      by-ltb : (u : Bool) → ltb i (length s) ≡ u → u ≡ ltb i (length t)
      by-ltb true q = sym (lt-ltb i (length t) (omega (arith, cut-same, ltb-true i (length s) q)))
      by-ltb false q = sym (le-ltb i (length t) (omega (arith, cut-same, ltb-false i (length s) q)))

    pub past_same : (k : ℕ) → Early k → leb (length s) k ≡ leb (length t) k
    past_same k l = by-ltb (ltb k (length s)) refl where
      by-ltb : (u : Bool) → ltb k (length s) ≡ u → leb (length s) k ≡ leb (length t) k
      by-ltb true q = lt-leb (length s) k (ltb-true k (length s) q) ∙ sym (lt-leb (length t) k ((inside k l).0 (ltb-true k (length s) q)))
      by-ltb false q = le-leb (length s) k (ltb-false k (length s) q) ∙ sym (le-leb (length t) k ((inside k l).1 (ltb-false k (length s) q)))

    pub pair_same : (a b k : ℕ) → Early k → pair_at s k a b ≡ pair_at t k a b
    unfolding pair_at
    pair_same a b k l = rw (before_same (k + 1) (omega arith), byte-same k (omega arith), byte-same (k + 1) (omega arith))

    pub ends_same : (k : ℕ) → Early k → token_ends s k ≡ token_ends t k
    unfolding token_ends
    ends_same k l = rw (past_same k l, byte-same k (omega arith), pair_same 47 47 k l, pair_same 47 42 k l)

    -- parts of the two texts are the same as parts of two words
    pub for-same : (n k : ℕ) (w w' : List ℕ) (j : ℕ) → ((i : ℕ) → i < n → k + i < m) → ((i : ℕ) → i < n → byte w (j + i) ≡ byte w' (j + i)) → same_for n s k w j ≡ same_for n t k w' j
    unfolding same_for
    for-same zero k w w' j h g = refl
    for-same (suc n) k w w' j h g =
        let z : j + 0 ≡ j = omega arith in
        rw (byte-same k (omega (arith, h 0 (omega arith))), ← z, g 0 (omega arith), z, for-same n (suc k) w w' (suc j) (λ i lt. omega (arith, h (suc i) (omega arith))) (λ i lt. let r : suc j + i ≡ j + suc i = omega arith in rw r (g (suc i) (omega arith))))

    pub part_same : (k : ℕ) (w : List ℕ) (j f e : ℕ) → Early e → same_part s k e w j f ≡ same_part t k e w j f
    unfolding same_part
    part_same k w j f e l = rw (for-same (e - k) k w w j (λ i lt. omega arith) (λ i lt. refl))

    begin-same : (k e : ℕ) → Early e → is_begin s k e ≡ is_begin t k e
    unfolding is_begin
    begin-same k e l = part_same k (spelt "/begin") 0 6 e l

    end_same : (k e : ℕ) → Early e → is_end s k e ≡ is_end t k e
    unfolding is_end
    end_same k e l = part_same k (spelt "/end") 0 4 e l

    line-near : (k : ℕ) → Near Early k (line_end s k) (line_end t k)
    unfolding line_end
    line-near = near-over Early (length s) (length t) inside (line_step s) (line_step t) (λ j. j)
        (λ j lt. by-test (Ahead j) (eqb (byte s j) 10) (λ u. tt) (λ u. omega arith))
        (λ j. near-cond (EarlyStep Early Early) j (eqb (byte s j) 10) (eqb (byte t j) 10) (of-byte (λ b. eqb b 10) j) (λ b. (b, refl)) (λ b. (omega arith, refl)))
        (λ j b. b)

    -- a comment; at an unclosed one no token stands
    comment-near : (k : ℕ) → pair_at s k 47 42 ≡ true → Near (EarlyTo s) k (comment_end s k) (comment_end t k)
    unfolding comment_end
    comment-near k c = near-back (EarlyTo s) k (k + 2) _ _ (omega arith) (near-over (EarlyTo s) (length s) (length t) inside (close_step s) (close_step t) (λ j. refused 1 k)
        (λ j lt. by-test (Ahead j) (pair_at s j 42 47) (λ u. tt) (λ u. omega arith))
        (λ j. near-cond (EarlyStep Early (EarlyTo s)) j (pair_at s j 42 47) (pair_at t j 42 47) (pair_same 42 47 j) (λ b. (omega arith, refl)) (λ b. (omega arith, refl)))
        (λ j b. absurd (to-comment b.to c)) (k + 2))

    blanks-near : (k : ℕ) → Near (EarlyTo s) k (blank_at s k) (blank_at t k)
    unfolding blank_at
    blanks-near = near-over (EarlyTo s) (length s) (length t) inside (blank_step s) (blank_step t) given
        (λ j lt. blank-ahead s j (blank_step s j) (blank-goes s j lt))
        (λ j. near-cond (EarlyStep Early (EarlyTo s)) j (is_blank (byte s j)) (is_blank (byte t j)) (of-byte is_blank j) (λ b. (omega arith, refl))
        (near-cond (EarlyStep Early (EarlyTo s)) j (pair_at s j 47 47) (pair_at t j 47 47) (pair_same 47 47 j)
        (near-back (EarlyStep Early (EarlyTo s)) j (j + 2) _ _ (omega arith) (near-at (EarlyStep Early (EarlyTo s)) (j + 2) on on (line_end s (j + 2)) (line_end t (j + 2)) (λ b. (b, refl)) (line-near (j + 2))))
        (near-if (EarlyStep Early (EarlyTo s)) j (pair_at s j 47 42) (pair_at t j 47 42) (pair_same 47 42 j) (λ c. near-on_to s j (comment_end s j) (comment_end t j) (comment-near j c))
        (λ c b. (b, refl)))))
        (λ j b. b)

    name-end-near : (k : ℕ) → Near Early k (name_end s k) (name_end t k)
    unfolding name_end
    name-end-near = near-over Early (length s) (length t) inside (name_step s) (name_step t) (λ j. j)
        (λ j lt. by-test (Ahead j) (in_name (byte s j)) (λ u. omega arith) (λ u. tt))
        (λ j. near-cond (EarlyStep Early Early) j (in_name (byte s j)) (in_name (byte t j)) (of-byte in_name j) (λ b. (omega arith, refl)) (λ b. (b, refl)))
        (λ j b. b)

    -- a string; an unclosed one has no end
    string-end-near : (k : ℕ) → byte s k ≡ 34 → Near (EarlyTo s) k (string_end s k) (string_end t k)
    unfolding string_end
    string-end-near k q = near-back (EarlyTo s) k (k + 1) _ _ (omega arith) (near-walk (EarlyTo s) Early (Same (Answer ℕ) (length s) (quote_step s) (λ j. refused 1 k) (k + 1)) (length s) (length t) (λ j l. l) inside (quote_step s) (quote_step t) (λ j. refused 1 k) (λ j. refused 1 k)
        quote-ahead
        (λ j e lt p r. onto p lt r (subst (Ahead j) r (quote-ahead j lt)))
        (λ j lt p. near-cond (EarlyStep Early (EarlyTo s)) j (pair_at s j 92 34 || pair_at s j 34 34) (pair_at t j 92 34 || pair_at t j 34 34) (λ l. rw (pair_same 92 34 j l, pair_same 34 34 j l)) (λ b. (omega arith, refl))
        (near-cond (EarlyStep Early (EarlyTo s)) j (eqb (byte s j) 34) (eqb (byte t j) 34) (of-byte (λ b. eqb b 34) j) (λ b. (omega arith, refl)) (λ b. (omega arith, refl))))
        (λ j ge p b. absurd (to-closed b.to q 1 k (sym (ends p ge)))) (k + 1) start) where
          quote-ahead : (j : ℕ) → j < length s → Ahead j (quote_step s j)
          quote-ahead j lt = by-test (Ahead j) (pair_at s j 92 34 || pair_at s j 34 34) (λ u. omega arith) (λ u. by-test (Ahead j) (eqb (byte s j) 34) (λ v. tt) (λ v. omega arith))

    string-near : (k : ℕ) → byte s k ≡ 34 → Near (EarlyPiece s) k (string_at s k) (string_at t k)
    unfolding string_at
    string-near k q = near-with s Early (EarlyIn s) k (λ e. given (piece string k e)) (λ e. given (piece string k e)) (string_end s k) (string_end t k) (λ e r b. (b, refl)) (string-end-near k q)

    -- what starts at k with no quote
    module _ (k : ℕ) (other : byte s k ≡ 34 → ⊥) where
      -- a name that is refused lies in the token
      name-near : Near (EarlyPiece s) k (name_at s k) (name_at t k)
      unfolding name_at
      name-near = near-at (EarlyPiece s) k
          (λ e. cond (leb e (k + 128) && token_ends s e) (given (piece name k e)) (refused 1 k))
          (λ e. cond (leb e (k + 128) && token_ends t e) (given (piece name k e)) (refused 1 k))
          (name_end s k) (name_end t k)
          (near-cond (EarlyPiece s) (name_end s k) (leb (name_end s k) (k + 128) && token_ends s (name_end s k)) (leb (name_end s k) (k + 128) && token_ends t (name_end s k)) (λ l. ap (λ u. leb (name_end s k) (k + 128) && u) (ends_same (name_end s k) l))
          (λ b. (b, refl)) (λ b. (early-on s k (name_end s k) other (name-on s k) b, refl)))
          (name-end-near k)

      -- so does a byte that is not allowed
      run-near : Near (EarlyTo s) k (run_end s k) (run_end t k)
      unfolding run_end
      run-near = near-walk (EarlyTo s) Early (Goes_on s k) (length s) (length t) (λ j l. l) inside (run_step s k) (run_step t k) given given
          (λ j lt. by-test (Ahead j) (token_ends s j) (λ u. tt) (λ u. by-test (Ahead j) (is_allowed (byte s j)) (λ v. omega arith) (λ v. tt)))
          (λ j e lt g. by-test (λ st. st ≡ on e → Goes_on s k e) (token_ends s j) (λ u r. absurd (let z : ◌≡◌ {A = ℕ} 0 1 = cc in omega arith))
          (λ u. by-test (λ st. st ≡ on e → Goes_on s k e) (is_allowed (byte s j)) (λ v r. let w : j + 1 ≡ e = cc in subst (Goes_on s k) w (goes_further s k j g u)) (λ v r. absurd (let z : ◌≡◌ {A = ℕ} 0 1 = cc in omega arith))))
          (λ j lt g. near-if (EarlyStep Early (EarlyTo s)) j (token_ends s j) (token_ends t j) (ends_same j) (λ u b. (b, refl))
          (λ u. near-cond (EarlyStep Early (EarlyTo s)) j (is_allowed (byte s j)) (is_allowed (byte t j)) (of-byte is_allowed j) (λ b. (omega arith, refl)) (λ b. (early-on s k j other g b, refl))))
          (λ j ge g b. (b, refl)) k (goes-start s k)

      number-near : Near (EarlyPiece s) k (number_at s k) (number_at t k)
      unfolding number_at
      number-near = near-with s Early (EarlyIn s) k (λ e. given (piece number k e)) (λ e. given (piece number k e)) (run_end s k) (run_end t k) (λ e r b. (b, refl)) run-near

      -- a run that is `/begin` or `/end`; another is what p says
      mark-near : (p : Answer Piece) (e : ℕ) → Near (EarlyPiece s) e p p → Near (EarlyPiece s) e
          (cond (is_begin s k e) (given (piece begin k e)) (cond (is_end s k e) (given (piece end k e)) p))
          (cond (is_begin t k e) (given (piece begin k e)) (cond (is_end t k e) (given (piece end k e)) p))
      mark-near p e h = near-cond (EarlyPiece s) e (is_begin s k e) (is_begin t k e) (begin-same k e) (λ b. (b, refl))
          (near-cond (EarlyPiece s) e (is_end s k e) (is_end t k e) (end_same k e) (λ b. (b, refl)) h)

      mark-at-near : Near (EarlyPiece s) k (mark_at s k) (mark_at t k)
      unfolding mark_at
      mark-at-near = near-with s Early (EarlyIn s) k (mark_of s k) (mark_of t k) (run_end s k) (run_end t k)
          (λ e r. mark-near (refused 1 k) e (λ b. (early-on s k e other (subst (Runs s k) r (run_on s k)).1 b, refl))) run-near

      run-item-near : Near (EarlyPiece s) k (run_item s k) (run_item t k)
      unfolding run_item
      run-item-near = near-with s Early (EarlyIn s) k (item_of s k) (item_of t k) (run_end s k) (run_end t k) (λ e r. mark-near (given (piece run k e)) e (λ b. (b, refl))) run-near

    -- inside the text, a string at a quote and otherwise what x is
    first-near : (k : ℕ) (x x' : Answer Piece) → ((byte s k ≡ 34 → ⊥) → Near (EarlyPiece s) k x x') → Near (EarlyPiece s) k
        (cond (leb (length s) k) (given (finish (length s))) (cond (eqb (byte s k) 34) (string_at s k) x))
        (cond (leb (length t) k) (given (finish (length t))) (cond (eqb (byte t k) 34) (string_at t k) x'))
    first-near k x x' p = near-cond (EarlyPiece s) k (leb (length s) k) (leb (length t) k) (past_same k) (λ b. absurd b)
        (near-if (EarlyPiece s) k (eqb (byte s k) 34) (eqb (byte t k) 34) (of-byte (λ b. eqb b 34) k) (λ q. string-near k (eqb-true (byte s k) 34 q)) (λ q. p (eqb-false (byte s k) 34 q)))

    token-at-near : (k : ℕ) → Near (EarlyPiece s) k (token_at s k) (token_at t k)
    unfolding token_at
    token-at-near k = first-near k _ _ λ other.
        near-cond (EarlyPiece s) k (starts_name (byte s k)) (starts_name (byte t k)) (of-byte starts_name k) (name-near k other)
        (near-cond (EarlyPiece s) k (starts_number (byte s k)) (starts_number (byte t k)) (of-byte starts_number k) (number-near k other)
        (mark-at-near k other))

    item-at-near : (k : ℕ) → Near (EarlyPiece s) k (item_at s k) (item_at t k)
    unfolding item_at
    item-at-near k = first-near k _ _ (run-item-near k)

    pub token-near : (k : ℕ) → Near (EarlyPiece s) k (next_token s k) (next_token t k)
    unfolding next_token
    token-near k = near-with s Early (EarlyIn s) k (token_at s) (token_at t) (blank_at s k) (blank_at t k) (λ j r. token-at-near j) (blanks-near k)

    pub item-near : (k : ℕ) → Near (EarlyPiece s) k (next_item s k) (next_item t k)
    unfolding next_item
    item-near k = near-with s Early (EarlyIn s) k (item_at s) (item_at t) (blank_at s k) (blank_at t k) (λ j r. item-at-near j) (blanks-near k)

-- what is read ends at e: then the other text's is the same
module _ (s t : List ℕ) (k a e : ℕ) (kind : Kind) (same : take (e + 2) s ≡ take (e + 2) t) where
  pub token-local : next_token s k ≡ given (piece kind a e) → next_token t k ≡ given (piece kind a e)
  token-local q = (token-near (e + 2) s t same k (subst (EarlyPiece (e + 2) s) (sym q) (omega arith))).1 ∙ q

  pub item-local : next_item s k ≡ given (piece kind a e) → next_item t k ≡ given (piece kind a e)
  item-local q = (item-near (e + 2) s t same k (subst (EarlyPiece (e + 2) s) (sym q) (omega arith))).1 ∙ q

pub name-local : (s t : List ℕ) (k : ℕ) → take (name_end s k + 2) s ≡ take (name_end s k + 2) t → name_at t k ≡ name_at s k
unfolding name_at
name-local s t k same = rw ((name-end-near (name_end s k + 2) s t same k (omega arith)).1, ends_same (name_end s k + 2) s t same (name_end s k) (omega arith))
