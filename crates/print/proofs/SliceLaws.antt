-- A part of a text, put byte by byte: what the loop keeps, and what each turn does.
use Prim.Native.Nat.{ℕ, suc, ◌+◌, ◌-◌, ◌^◌, ◌≤◌, ◌<◌, min}
use mathlib.Core.Path.{◌≡◌, refl, sym, ◌∙◌, ap}
use mathlib.Core.List.{List, [], ◌∷◌}
use mathlib.Core.Bool.{Bool, true, false}
use native.Mathlib.Numerals.{add-one}
use native.Mathlib.Omega.{arith}
use borrow.Author.Rules.{rules}
use borrow.Author.Tests.{leb-true, leb-false}
use lib.Dec.{leb}
use lib.ListN.{length, get_or, drop, set, length-take, length-drop, length-set}
use lib.Seq.{drop-cons, take_all}
use Rattle.print.specs.Print.{slice}
use Rattle.print.specs.Put.{put, Put}
use Rattle.print.proofs.PutLaws.{put-past}

module _ (x : List ℕ) where
  slice-none : (a e : ℕ) → e ≤ a → slice x a e ≡ []
  slice-none a e h = let d : e - a ≡ 0 = omega arith in rw d

  slice-more : (a e : ℕ) → a < e → e ≤ length x → slice x a e ≡ get_or x a 0 ∷ slice x (a + 1) e
  slice-more a e h l = let k : a < length x = omega arith in let d : e - a ≡ suc (e - (a + 1)) = omega arith in rw (d, drop-cons x a 0, add-one)

  -- a text has no bytes past its end
  slice-clip : (a e : ℕ) → slice x a (min e (length x)) ≡ slice x a e
  slice-clip a e = by-test (leb e (length x)) refl where
    by-test : (t : Bool) → leb e (length x) ≡ t → slice x a (min e (length x)) ≡ slice x a e
    by-test true t = let l : e ≤ length x = leb-true e (length x) t in let m : min e (length x) ≡ e = omega arith in rw m
    by-test false t =
        let l : length x < e = leb-false e (length x) t in
        let m : min e (length x) ≡ length x = omega arith in
        let d = length-drop a x in
        rw m (take_all (length x - a) (drop a x) (omega arith) ∙ sym (take_all (e - a) (drop a x) (omega arith)))

  slice-long : (a e : ℕ) → e ≤ length x → length (slice x a e) ≡ e - a
  slice-long a e h = rw (length-take, length-drop) (omega arith)

  -- what is still to put from k on, up to past, is what was to be put
  pub record Rest (at a past : ℕ) (out : List ℕ) (p k : ℕ) (now : List ℕ) : Type 0 where
    pub from : a ≤ k
    pub place : p ≡ at + (k - a)
    pub most : k - a ≤ past - a
    pub inside : past ≤ length x
    pub kept : length now ≡ length out
    pub same : put p (slice x k past) now ≡ put at (slice x a past) out
    pub size : p + length (slice x k past) ≡ at + length (slice x a past)

  module _ {at a past : ℕ} {out : List ℕ} where
    pub rest-start : past ≤ length x → Rest at a past out at a out
    rest-start h = record { from = omega arith; place = omega arith; most = omega arith; inside = h; kept = refl; same = refl; size = refl }

    pub rest_more : {p k : ℕ} {now : List ℕ} → k < past → Rest at a past out p k now → Rest at a past out (p + 1) (k + 1) (set now p (get_or x k 0))
    unfolding put
    rest_more {p} {k} {now} h r =
        let f = r.from in
        let g = r.place in
        let e = slice-more k past h r.inside in
        record {
          from = omega arith;
          place = omega arith;
          most = omega arith;
          inside = r.inside;
          kept = length-set now p (get_or x k 0) ∙ r.kept;
          same = rw add-one (ap (λ (l : List ℕ). put p l now) (sym e) ∙ r.same);
          size = let l = ap length e in let z = r.size in omega arith;
        }

    -- the end is reached: of the text, or of the buffer
    pub rest-done : (e : ℕ) {p k : ℕ} {now : List ℕ} → past ≡ min e (length x) → past ≤ k → Rest at a past out p k now → Put at (slice x a e) out p now
    unfolding put
    rest-done e {p} {k} {now} m h r =
        let s = slice-none k past h in
        let c : slice x a past ≡ slice x a e = rw m (slice-clip a e) in
        record {
          end = let l = ap length s in let z = r.size in let y = ap length c in omega arith;
          laid = ap (λ (l : List ℕ). put p l now) (sym s) ∙ r.same ∙ ap (λ (l : List ℕ). put at l out) c;
        }

    pub rest-full : (e : ℕ) {p k : ℕ} {now : List ℕ} → past ≡ min e (length x) → length now ≤ p → Rest at a past out p k now → Put at (slice x a e) out (p + (past - k)) now
    rest-full e {p} {k} {now} m h r =
        let s = slice-long k past r.inside in
        let c : slice x a past ≡ slice x a e = rw m (slice-clip a e) in
        record {
          end = let z = r.size in let y = ap length c in omega arith;
          laid = put-past (slice x k past) p now h ∙ r.same ∙ ap (λ (l : List ℕ). put at l out) c;
        }

    pub rest-most : {p k : ℕ} {now : List ℕ} → length x ≤ 2 ^ 24 → k < past → Rest at a past out p k now → p + (past - k) ≤ at + 2 ^ 24
    rest-most {p} {k} h l r = let f = r.from in let g = r.place in let i = r.inside in omega arith

pub ruleset rests = (rest-start, rest_more, rest-done, rest-full, rest-most, rules)
