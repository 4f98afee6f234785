-- A reference leads somewhere, as a sentence and as it is judged: the same.
use Prim.Native.Nat.{ℕ, zero, suc, ◌+◌, ◌≤◌, ◌<◌}
use mathlib.Core.Path.{◌≡◌, refl, sym, ◌∙◌, ap, subst}
use mathlib.Core.List.{List}
use mathlib.Core.Bool.{Bool, true, false, cond, ◌||◌, false≢true}
use mathlib.Core.Logic.{◌↔◌, ◌⊎◌, inl, inr}
use native.Mathlib.Omega.{arith}
use borrow.Author.Tests.{eqb-true, eqb-false, eq-eqb}
use lib.Dec.{eqb}
use Rattle.text.specs.Bytes.{same_part}
use Rattle.text.proofs.Within.{or_case}
use Rattle.rows.specs.Slots.{own_name, own_name_past, block_code}
use Rattle.grammar.specs.Move.{View}
use Rattle.grammar.specs.Parameter.{find_from, find}
use Rattle.refer.specs.Refer.{is_free, is_of, leads}
use Rattle.refer.specs.declared.Row.{Row}
use Rattle.demands.specs.Leads.{Bears, Leads}

module _ (x : List ℕ) (v : View) (j a e : ℕ) where
  abbrev bears : ℕ → Bool
  bears i = same_part x (v.slots j i own_name) (v.slots j i own_name_past) x a e

  record Found (s f m : ℕ) : Type 0 where
    from : s ≤ m
    below : m < s + f
    same : bears m ≡ true
    first : (k : ℕ) → s ≤ k → k < m → bears k ≡ false

  found-later : (s f m : ℕ) → bears s ≡ false → Found (suc s) f m → Found s (suc f) m
  found-later s f m h r = record { from = omega (arith, r.from); below = omega (arith, r.below); same = r.same; first = others }
    where
      others : (k : ℕ) → s ≤ k → k < m → bears k ≡ false
      others k l b = by (eqb k s) refl
        where
          by : (t : Bool) → eqb k s ≡ t → bears k ≡ false
          by true t = subst (λ (y : ℕ). bears y ≡ false) (sym (eqb-true k s t)) h
          by false t = let z = eqb-false k s t in r.first k (omega arith) b

  found_of : (f s m : ℕ) → find_from f x v j s a e ≡ suc m → Found s f m
  unfolding find_from
  found_of zero s m h = absurd (omega arith)
  found_of (suc f) s m h = by (bears s) refl (found_of f (suc s) m) h
    where
      by : (t : Bool) → bears s ≡ t → (find_from f x v j (suc s) a e ≡ suc m → Found (suc s) f m) → cond t (suc s) (find_from f x v j (suc s) a e) ≡ suc m → Found s (suc f) m
      by true t ih q = let z : s ≡ m = omega arith in record { from = omega arith; below = omega arith; same = subst (λ (y : ℕ). bears y ≡ true) z t; first = λ k l b. absurd (omega arith) }
      by false t ih q = found-later s f m t (ih q)

  of-found : (f s m : ℕ) → Found s f m → find_from f x v j s a e ≡ suc m
  unfolding find_from
  of-found zero s m r = absurd (omega (arith, r.from, r.below))
  of-found (suc f) s m r = by (bears s) refl (eqb s m) refl (of-found f (suc s) m)
    where
      by : (t : Bool) → bears s ≡ t → (u : Bool) → eqb s m ≡ u → (Found (suc s) f m → find_from f x v j (suc s) a e ≡ suc m) → cond t (suc s) (find_from f x v j (suc s) a e) ≡ suc m
      by true t true u ih = ap suc (eqb-true s m u)
      by true t false u ih = let z = eqb-false s m u in absurd (false≢true (sym (r.first s (omega arith) (omega (arith, r.from))) ∙ t))
      by false t true u ih = absurd (false≢true (sym t ∙ subst (λ (y : ℕ). bears y ≡ true) (sym (eqb-true s m u)) r.same))
      by false t false u ih =
          let z = eqb-false s m u in
          ih (record { from = omega (arith, r.from); below = omega (arith, r.below); same = r.same; first = λ k l b. r.first k (omega arith) b })

  pub bears-found : (i : ℕ) → Bears x v j a e i → find x v j a e ≡ suc i
  bears-found i b = of-found (v.counts j) 0 i (record { from = omega arith; below = omega (arith, b.below); same = b.same; first = λ k l c. b.first k c })

  found-bears : (i : ℕ) → find x v j a e ≡ suc i → Bears x v j a e i
  found-bears i h = let r = found_of (v.counts j) 0 i h in record { below = omega (arith, r.below); same = r.same; first = λ k c. r.first k (omega arith) c }

module _ (x : List ℕ) (v : View) (r : Row) (a e : ℕ) where
  leads-of : leads x v r a e ≡ true → Leads x v r a e
  unfolding leads
  leads-of h = by (or_case (is_free x r.free a e) (is_of v r.target r.class (find x v r.target a e)) h)
    where
      class_of : (i : ℕ) → (eqb r.class 0 ≡ true) ⊎ (eqb (v.slots r.target i block_code) r.class ≡ true) → (r.class ≡ 0) ⊎ (v.slots r.target i block_code ≡ r.class)
      class_of i (inl c) = inl (eqb-true r.class 0 c)
      class_of i (inr c) = inr (eqb-true (v.slots r.target i block_code) r.class c)

      by-find : (n : ℕ) → find x v r.target a e ≡ n → is_of v r.target r.class n ≡ true → Leads x v r a e
      by-find zero q o = absurd (false≢true o)
      by-find (suc i) q o = inr (i, found-bears x v r.target a e i q, class_of i (or_case (eqb r.class 0) (eqb (v.slots r.target i block_code) r.class) o))

      by : (is_free x r.free a e ≡ true) ⊎ (is_of v r.target r.class (find x v r.target a e) ≡ true) → Leads x v r a e
      by (inl f) = inl f
      by (inr o) = by-find (find x v r.target a e) refl o

  or-true : (b : Bool) → (b || true) ≡ true
  or-true true = refl
  or-true false = refl

  of-leads : Leads x v r a e → leads x v r a e ≡ true
  unfolding leads
  of-leads (inl f) = rw f
  of-leads (inr l) = rw (bears-found x v r.target a e l.0 l.1) (by l.2)
    where
      by : (r.class ≡ 0) ⊎ (v.slots r.target l.0 block_code ≡ r.class)
          → (is_free x r.free a e || (eqb r.class 0 || eqb (v.slots r.target l.0 block_code) r.class)) ≡ true
      by (inl c) = rw (eq-eqb r.class 0 c) (or-true (is_free x r.free a e))
      by (inr c) = rw (eq-eqb (v.slots r.target l.0 block_code) r.class c, or-true (eqb r.class 0)) (or-true (is_free x r.free a e))

  -- "a reference that leads nowhere stops the load": this one leads somewhere
  pub leads-exactly : (leads x v r a e ≡ true) ↔ Leads x v r a e
  leads-exactly = (leads-of, of-leads)
