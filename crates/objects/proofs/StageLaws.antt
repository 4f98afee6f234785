-- The last stage, by the branches that the code takes.
use Prim.Native.Nat.{ℕ, suc, ◌+◌, ◌-◌, ◌≤◌, ◌<◌}
use mathlib.Core.Path.{◌≡◌, refl, sym, ◌∙◌, ap}
use mathlib.Core.List.{List, [], ◌∷◌, ◌++◌, append_assoc}
use mathlib.Core.Bool.{Bool, true, false, ◌&&◌}
use native.Mathlib.Omega.{arith}
use borrow.Author.Rules.{rules}
use lib.Dec.{eqb, ltb}
use lib.ListN.{length, get_or, set, replicate, get_or-eq_default}
use lib.Seq.{set_out}
use mir.Syntax.{w32}
use mir.Val.{Fits}
use Rattle.std.specs.Prelude.{Result, Ok, Err}
use Rattle.text.specs.Answer.{Answer, given, refused, with}
use Rattle.number.specs.Most.{most_objects}
use Rattle.rows.specs.Sections.{object, axis}
use Rattle.rows.specs.Slots.{own_name, axis_descr_seen, axis_attribute}
use Rattle.grammar.specs.Move.{View}
use Rattle.place.specs.Told.{place_refusal_number, told_judged}
use Rattle.place.specs.declared.refusal.PlaceRefusal.{PlaceRefusal}
use Rattle.place.specs.declared.judge.Standing.{Standing}
use Rattle.objects.specs.Object.{axis_at, shared_by, judge_object}
use Rattle.objects.specs.Stage.{names, named, turns_of, turns_from, total_or, marked, turn, judge_each, Goes, judge_all, told_turn}
use Rattle.text.specs.declared.cursor.Refusal.{Refusal}
use Rattle.objects.proofs.Shares.{share}

-- past the marks nothing is marked
module _ (seen : List ℕ) (i : ℕ) (h : length seen ≤ i) where
  pub open-past : true ≡ eqb (get_or seen i 0) 0
  open-past = rw (get_or-eq_default seen 0 h)

  pub mark-past : seen ≡ set seen i 1
  mark-past = sym (set_out seen i 1 h)

pub ruleset marks = (open-past, mark-past)

module _ (image : List ℕ) (base : ℕ) (x : List ℕ) (v : View) (i used : ℕ) where
  -- r is what `judge_one` gave
  module _ (r : Result Standing PlaceRefusal) (p : told_judged r ≡ judge_object image base x v i used) where
    pub total-fits : (s : Standing) → r ≡ Ok s → Fits w32 s.total
    total-fits s y = record { fits = omega (arith, (share image base x v i used s (sym p ∙ ap told_judged y)).most) }

    pub weigh-stands : (s : Standing) → r ≡ Ok s → given s.total ≡ total_or (v.slots object i own_name) (judge_object image base x v i used)
    weigh-stands s y = rw (← p, y)

    pub weigh-refused : (k : PlaceRefusal) (n m : ℕ) → r ≡ Err k → n ≡ place_refusal_number k → m ≡ v.slots object i own_name
        → refused n m ≡ total_or (v.slots object i own_name) (judge_object image base x v i used)
    weigh-refused k n m y z q = rw (← p, y, q, z)

pub ruleset weights = (total-fits, weigh-stands, weigh-refused)

pub naming-is : (v : View) (i k many a kind : ℕ) → many ≡ v.slots object i axis_descr_seen → a ≡ axis_at v i k → kind ≡ v.slots axis a axis_attribute
    → (ltb k many && eqb kind 24) ≡ names v i k
unfolding names
naming-is v i k many a kind pm pa pk = rw (pk, pa, pm)

pub ruleset namings = naming-is

-- one turn
goes_one : (image : List ℕ) (base : ℕ) (x : List ℕ) (v : View) (seen : List ℕ) (i used : ℕ) (r : Answer ℕ) (seen' : List ℕ) → r ≡ turn image base x v seen i used → seen' ≡ marked seen i
    → Goes image base x v seen (i ∷ []) used r seen'
unfolding judge_each
goes_one image base x v seen i used r seen' p q = record { on = λ rest. rw (p, q) }

module _ (image : List ℕ) (base : ℕ) (x : List ℕ) (v : View) (seen : List ℕ) where
  -- b is what `is_open` gave
  module _ (i used : ℕ) (b : Bool) (p : b ≡ eqb (get_or seen i 0) 0) where
    pub turn-open : b ≡ true → (r : Answer ℕ) → r ≡ total_or (v.slots object i own_name) (judge_object image base x v i used) → r ≡ turn image base x v seen i used
    unfolding turn
    turn-open h r q = rw (← p, h, q)

    pub turn-seen : b ≡ false → given used ≡ turn image base x v seen i used
    unfolding turn
    turn-seen h = rw (← p, h)

    pub mark-open : b ≡ true → (seen' : List ℕ) → seen' ≡ set seen i 1 → seen' ≡ marked seen i
    mark-open h seen' q = rw (← p, h, q)

    pub mark-seen : b ≡ false → seen ≡ marked seen i
    mark-seen h = rw (← p, h)

  -- these turns, and others after them; r₁ is what these gave
  module _ (is js : List ℕ) (used : ℕ) (r₁ : Result ℕ Refusal) (seen₁ : List ℕ) (p : Goes image base x v seen is used (told_turn r₁) seen₁) where
    goes_then : (n : ℕ) → r₁ ≡ Ok n → (r : Answer ℕ) (seen₂ : List ℕ) → Goes image base x v seen₁ js n r seen₂ → Goes image base x v seen (is ++ js) used r seen₂
    goes_then n y r seen₂ q = record { on = λ rest. q.on rest ∙ (rw y at (p.on (js ++ rest))) ∙ ap (λ (l : List ℕ). judge_each image base x v seen l used) (sym (append_assoc is js rest)) }

    goes-stop : (d : Refusal) → r₁ ≡ Err d → (seen₂ : List ℕ) → Goes image base x v seen (is ++ js) used (refused d.no d.place) seen₂
    goes-stop d y seen₂ = record { on = λ rest. (rw y at (p.on (js ++ rest))) ∙ ap (λ (l : List ℕ). judge_each image base x v seen l used) (sym (append_assoc is js rest)) }

  -- b is what `is_naming` gave
  module _ (i k used : ℕ) (b : Bool) (p : b ≡ names v i k) where
    pub named-one : b ≡ true → (a s : ℕ) (r : Answer ℕ) (seen' : List ℕ) → a ≡ axis_at v i k → s ≡ shared_by x v a → r ≡ turn image base x v seen s used → seen' ≡ marked seen s
        → Goes image base x v seen (named x v i k) used r seen'
    unfolding named
    named-one h a s r seen' pa ps q w = rw (← p, h, ← pa, ← ps) (goes_one image base x v seen s used r seen' q w)

    pub named_none : b ≡ false → Goes image base x v seen (named x v i k) used (given used) seen
    unfolding named
    named_none h = rw (← p, h) (record { on = λ rest. refl })

  -- r₁ is what `take_named` gave for y
  module _ (i used : ℕ) (r₁ : Result ℕ Refusal) (seen₁ : List ℕ) (p : Goes image base x v seen (named x v i 1) used (told_turn r₁) seen₁) where
    pub later-on : (n : ℕ) → r₁ ≡ Ok n → (r : Answer ℕ) (seen₂ : List ℕ) → r ≡ turn image base x v seen₁ i n → seen₂ ≡ marked seen₁ i
        → Goes image base x v seen (named x v i 1 ++ (i ∷ [])) used r seen₂
    later-on n y r seen₂ q w = goes_then (named x v i 1) (i ∷ []) used r₁ seen₁ p n y r seen₂ (goes_one image base x v seen₁ i n r seen₂ q w)

  -- and for x
  module _ (i used : ℕ) (r₁ : Result ℕ Refusal) (seen₁ : List ℕ) (p : Goes image base x v seen (named x v i 0) used (told_turn r₁) seen₁) where
    pub turns-on : (n : ℕ) → r₁ ≡ Ok n → (r : Answer ℕ) (seen₂ : List ℕ) → Goes image base x v seen₁ (named x v i 1 ++ (i ∷ [])) n r seen₂
        → Goes image base x v seen (turns_of x v i) used r seen₂
    turns-on n y r seen₂ q = goes_then (named x v i 0) (named x v i 1 ++ (i ∷ [])) used r₁ seen₁ p n y r seen₂ q

    pub turns-stop : (d : Refusal) → r₁ ≡ Err d → Goes image base x v seen (turns_of x v i) used (refused d.no d.place) seen₁
    turns-stop d y = goes-stop (named x v i 0) (named x v i 1 ++ (i ∷ [])) used r₁ seen₁ p d y seen₁

pub ruleset turns = (turn-open, turn-seen, mark-open, mark-seen)

pub ruleset nameds = (named-one, named_none)

pub ruleset together = (turns-on, turns-stop)

-- the turns from object i on answer what all answer
pub record Judging (image : List ℕ) (base : ℕ) (x : List ℕ) (v : View) (seen₀ seen : List ℕ) (used i : ℕ) : Type 0 where
  pub within : i ≤ v.counts object
  pub long : length seen ≡ length seen₀
  pub same : judge_each image base x v seen (turns_from (v.counts object - i) x v i) used ≡ judge_each image base x v seen₀ (turns_from (v.counts object) x v 0) 0

module _ (image : List ℕ) (base : ℕ) (x : List ℕ) (v : View) (seen₀ : List ℕ) where
  pub judging-start : Judging image base x v seen₀ seen₀ 0 0
  judging-start = let z : v.counts object - 0 ≡ v.counts object = omega arith in record { within = omega arith; long = refl; same = rw z }

  module _ (seen : List ℕ) (used n i : ℕ) (p : n ≡ v.counts object) (q : Judging image base x v seen₀ seen used i) where
    pub judging-end : n ≤ i → given used ≡ judge_each image base x v seen₀ (turns_from (v.counts object) x v 0) 0
    unfolding turns_from judge_each
    judging-end h = let z : v.counts object - i ≡ 0 = omega arith in rw z at q.same

    -- r is what `take_turns` gave
    module _ (h : i < n) (r : Result ℕ Refusal) (seen' : List ℕ) (g : Goes image base x v seen (turns_of x v i) used (told_turn r) seen') where
      look : with (told_turn r) (judge_each image base x v seen' (turns_from (v.counts object - (i + 1)) x v (i + 1))) ≡ judge_each image base x v seen₀ (turns_from (v.counts object) x v 0) 0
      unfolding turns_from
      look =
          let z : v.counts object - i ≡ suc (v.counts object - (i + 1)) = omega arith in
          let w : suc i ≡ i + 1 = omega arith in
          g.on (turns_from (v.counts object - (i + 1)) x v (i + 1)) ∙ (rw (z, w) at q.same)

      pub judging-on : (m : ℕ) → r ≡ Ok m → length seen' ≡ length seen → Judging image base x v seen₀ seen' m (i + 1)
      judging-on m y l = record { within = omega arith; long = l ∙ q.long; same = rw y at look }

      pub judging-stop : (d : Refusal) → r ≡ Err d → refused d.no d.place ≡ judge_each image base x v seen₀ (turns_from (v.counts object) x v 0) 0
      judging-stop d y = rw y at look

pub ruleset judgings = (judging-start, judging-end, judging-on, judging-stop, rules)

pub all_are : (image : List ℕ) (base : ℕ) (x : List ℕ) (v : View) (r : Answer ℕ) → r ≡ judge_each image base x v (replicate most_objects 0) (turns_from (v.counts object) x v 0) 0 → r ≡ judge_all image base x v
unfolding judge_all
all_are image base x v r p = p

pub ruleset alls = all_are
