-- Document 02, wish 7: "nothing but exact halves differs between them": a write that asks for no exact half answers and leaves the same by the tables of either edition.
use Prim.Native.Nat.{ℕ, zero, suc, ◌+◌, ◌*◌}
use mathlib.Core.Path.{◌≡◌, refl, sym, ap, ◌∙◌}
use mathlib.Core.List.{List}
use mathlib.Core.Logic.{inl, inr}
use mathlib.Core.Bool.{Bool, true, false, cond, not, ◌&&◌}
use native.Mathlib.Omega.{arith}
use lib.Dec.{eqb, leb}
use lib.IntN.{ℤ, pos, negsuc, nat_abs, ◌-ℤ◌, ◌*ℤ◌}
use lib.ListN.{length}
use Rattle.number.specs.Answer.{Answer, given, refused}
use Rattle.number.specs.Below.{any_below}
use Rattle.number.specs.Decimal.{Scaled}
use Rattle.cell.specs.Kind.{shape_of}
use Rattle.cell.specs.Raw.{fits_raw, written}
use Rattle.cell.specs.declared.kind.Shape.{Shape}
use Rattle.convert.specs.declared.method.Coefficients.{Coefficients}
use Rattle.convert.specs.Limit.{within_limits}
use Rattle.convert.specs.Round.{Halves, nearest, rounded_quotient, raw_for}
use Rattle.convert.specs.Asked.{and_then, or_refused, asked_of, nearest_raw, fitting_raw, rounded_raw, limited_raw, asked_raw}
use Rattle.convert.specs.Edition.{edition_one, edition_two, is_edition, halves_of}
use Rattle.convert.specs.Whole.{all_small}
use Rattle.convert.proofs.EditionLaws.{is-one-or-two}
use Rattle.convert.proofs.Rounds.{only-halves-differ}
use Rattle.records.specs.Records.{count}
use Rattle.grammar.specs.Move.{View, view}
use Rattle.build.specs.Build.{built}
use Rattle.keeps.specs.Accepted.{all_elements}
use Rattle.tables.specs.Form.{head_section, edition_cell, group_section, lower_cell, upper_cell, Tables, tables_in, tables_of, edition, total, kind, first, mask, forbidden, counter, counter_place, limit}
use Rattle.tables.specs.Group.{elements, bytes, place_of}
use Rattle.tables.specs.Rule.{axis_pts_rule, block_rule, value_rule, measurement_rule, curve_rule, map_rule, parts_rule, object_rule, is_no_part, points_rule, counter_rule, axis_rule, values_rule, limits_rule, bytes_rule, role_rule, part_rule, group_rule, verbal_rule, signs_rule, fraction_rule, method_rule, table_rule, entry_rule, head_rule, ruled, keeps_rule}
use Rattle.tables.specs.Sizes.{sizes_fit}
use Rattle.look.specs.Element.{text_at, means_by, means, raw_in, line_of, shares, touched}
use Rattle.look.specs.Lines.{fresh}
use Rattle.look.specs.Calls.{unless, checked, is_element, Kept, room, refreshed, After, afterwards, Wanted, raw_number, physical_text, Request, group_in, is_counted, on_count, asks_by, is_tab_verb, wanted_raw, writable, judged_element, judged_request, stored, written_to, writing}
use Rattle.demands.specs.Nearest.{dividend_at, divisor_at}
use Rattle.demands.specs.Rules.{Fits, Keeps}
use Rattle.demands.specs.Editions.{setting_of, IsHalf, AsksHalf}
use Rattle.demands.proofs.Loaded as loaded

-- ---- the number that is wanted, by any two rules on halves
module _ (u v : Halves) where
  -- of a quotient that is no half
  quotient-alike : (n d : ℤ) → ((d ≡ pos 0 → ⊥) → 2 * nat_abs (nearest u n d *ℤ d -ℤ n) ≡ nat_abs d → ⊥) → rounded_quotient u n d ≡ rounded_quotient v n d
  quotient-alike n (pos zero) h = refl
  quotient-alike n (pos (suc d)) h =
      let o : pos (suc d) ≡ pos 0 → ⊥ = λ y. let e : ◌≡◌ {A = ℕ} (suc d) 0 = cc in omega arith in
      ap given (only-halves-differ u v n (pos (suc d)) o (h o))
  quotient-alike n (negsuc d) h =
      let o : negsuc d ≡ pos 0 → ⊥ = λ y. let e : ◌≡◌ {A = ℕ} 0 1 = cc in omega arith in
      ap given (only-halves-differ u v n (negsuc d) o (h o))

  near-alike : (k : Coefficients) (p : Scaled) → (IsHalf k p → ⊥) → nearest_raw u k p ≡ nearest_raw v k p
  unfolding nearest_raw raw_for
  near-alike k p h =
      ap (λ (a : Answer ℤ). cond (all_small k) a (refused 17))
      (quotient-alike (dividend_at k p) (divisor_at k p) (λ o t. h (record { some = o; beside = nearest u (dividend_at k p) (divisor_at k p); half = t })))

  module _ (lower upper : Scaled) (k : Coefficients) (t : Shape) (m : ℕ) (s : List ℕ) (o : (p : Scaled) → asked_of s ≡ given p → IsHalf k p → ⊥) where
    rounded-alike : rounded_raw u lower upper k t m s ≡ rounded_raw v lower upper k t m s
    unfolding rounded_raw
    rounded-alike = go (asked_of s) refl
      where
        by-limits : (d : Scaled) → asked_of s ≡ given d → (b : Bool)
            → and_then (or_refused 16 b d) (λ p. fitting_raw t m (nearest_raw u k p)) ≡ and_then (or_refused 16 b d) (λ p. fitting_raw t m (nearest_raw v k p))
        by-limits d e true = ap (fitting_raw t m) (near-alike k d (o d e))
        by-limits d e false = refl

        go : (a : Answer Scaled) → asked_of s ≡ a
            → and_then a (λ d. and_then (or_refused 16 (within_limits lower upper d) d) (λ p. fitting_raw t m (nearest_raw u k p)))
            ≡ and_then a (λ d. and_then (or_refused 16 (within_limits lower upper d) d) (λ p. fitting_raw t m (nearest_raw v k p)))
        go (refused n) e = refl
        go (given d) e = by-limits d e (within_limits lower upper d)

    asked-alike : asked_raw u lower upper k t m s ≡ asked_raw v lower upper k t m s
    unfolding asked_raw
    asked-alike = ap (limited_raw lower upper k) rounded-alike

-- what a write wants of tables, by a rule on halves
abbrev wanted_by : Halves → Tables → ℕ → Wanted → Answer ℤ
wanted_by up T g (raw_number z) = unless (fits_raw (shape_of (kind T g)) (mask T g) z) 18 (given z)
wanted_by up T g (physical_text s) = unless (not (is_tab_verb T g)) 15 (asked_raw up (limit T g lower_cell) (limit T g upper_cell) (asks_by T g) (shape_of (kind T g)) (mask T g) s)

wanted-is : (T : Tables) (g : ℕ) (w : Wanted) → wanted_raw T g w ≡ wanted_by (halves_of (edition T)) T g w
wanted-is T g (raw_number z) = refl
wanted-is T g (physical_text s) = refl

wanted-alike : (u v : Halves) (T : Tables) (g : ℕ) (w : Wanted) → (AsksHalf T g w → ⊥) → wanted_by u T g w ≡ wanted_by v T g w
wanted-alike u v T g (raw_number z) o = refl
wanted-alike u v T g (physical_text s) o =
    ap (unless (not (is_tab_verb T g)) 15)
    (asked-alike u v (limit T g lower_cell) (limit T g upper_cell) (asks_by T g) (shape_of (kind T g)) (mask T g) s (λ p e h. o (p, e, h)))

-- ---- everything else that a write looks at is the same

-- the tables with edition 1 in their head
abbrev with_one : Tables → Tables
with_one T = record { counts = T.counts; slots = λ j i k. cond (eqb j head_section && eqb k edition_cell) edition_one (T.slots j i k) }

wanted-one : (up : Halves) (T : Tables) (g : ℕ) (w : Wanted) → wanted_by up T g w ≡ wanted_by up (with_one T) g w
unfolding is_tab_verb asks_by
wanted-one up T g (raw_number z) = refl
wanted-one up T g (physical_text s) = refl

-- the table rule takes either edition
ruled-one : (T : Tables) (n m : ℕ) → is_edition (edition T) ≡ true → ruled T n m ≡ ruled (with_one T) n m
unfolding is_edition axis_pts_rule block_rule value_rule measurement_rule curve_rule map_rule parts_rule object_rule is_no_part points_rule counter_rule axis_rule values_rule limits_rule bytes_rule role_rule part_rule group_rule verbal_rule signs_rule fraction_rule method_rule table_rule entry_rule head_rule ruled
ruled-one T n m v = rw v

-- a write of q: how many cells the tables have, whether they keep the rule, the number that is wanted, and what the tables say
module _ (n base : ℕ) (k : Kept) (q : Request) where
  module _ (T : Tables) where
    abbrev from : ℕ
    from = place_of T (group_in q) q.index

    abbrev past : ℕ
    past = from + bytes T (group_in q)

    -- group g has a stored count with one of the element's bytes
    abbrev counted : ℕ → Bool
    counted g = shares from past (counter_place T g) (shape_of (counter T g)).bytes && not (eqb (counter T g) 0)

    abbrev judged : ℕ → Bool → Answer ℤ → Answer ℤ
    judged cells rule wanted =
        unless (sizes_fit n (length k.image) base cells && leb (total T) (room k)) 20
        (unless rule 22
        (unless (is_element T q.object q.part q.index) 14
        (unless (not (forbidden T (group_in q))) 21
        (unless (not (any_below (T.counts group_section) counted)) 19 wanted))))

    abbrev image : ℤ → List ℕ
    image z = written (first T (group_in q)) from (shape_of (kind T (group_in q))) (mask T (group_in q)) z k.image

    abbrev left : ℤ → Kept
    left z = record {
      image = image z;
      raw = fresh (touched T from past) (λ g i. (line_of T (image z) g i).raw) (pos 0) (elements T) (T.counts group_section) k.raw;
      state = fresh (touched T from past) (λ g i. (line_of T (image z) g i).state) 0 (elements T) (T.counts group_section) k.state;
      first = fresh (touched T from past) (λ g i. (line_of T (image z) g i).first) (pos 0) (elements T) (T.counts group_section) k.first;
      second = fresh (touched T from past) (λ g i. (line_of T (image z) g i).second) (pos 0) (elements T) (T.counts group_section) k.second;
    }

    abbrev writes : ℕ → Bool → Answer ℤ → After
    writes cells rule wanted = afterwards (judged cells rule wanted) k left

  writing-is : (t : List ℕ) → writing t n base k q ≡ writes (tables_in t) (length t) (keeps_rule n (length k.image) t) (wanted_raw (tables_in t) (group_in q) q.wanted)
  unfolding writing judged_request judged_element checked writable on_count is_counted written_to refreshed stored
  writing-is t = refl

  writes_one : (T : Tables) (cells : ℕ) (rule : Bool) (wanted : Answer ℤ) → writes T cells rule wanted ≡ writes (with_one T) cells rule wanted
  unfolding is_element touched line_of raw_in means means_by text_at place_of
  writes_one T cells rule wanted = refl

-- ---- a description that is loaded by either edition

-- the tables that are made differ in the edition alone
heads-alike : (image : List ℕ) (base : ℕ) (x : List ℕ) (v : View) (n e f : ℕ) → with_one (tables_of (built image (setting_of base e) x v n)) ≡ with_one (tables_of (built image (setting_of base f) x v n))
unfolding built
heads-alike image base x v n e f i = record { counts = λ j. counts j i; slots = λ j a k. slots j a k i }
  where
    D : ℕ → List (List (List ℕ))
    D g = built image (setting_of base g) x v n

    counts : (j : ℕ) → count (D e) j ≡ count (D f) j
    counts zero = refl
    counts (suc j) = refl

    slots : (j a k : ℕ) → (with_one (tables_of (D e))).slots j a k ≡ (with_one (tables_of (D f))).slots j a k
    slots zero zero zero = refl
    slots zero zero (suc k) = refl
    slots zero (suc a) k = refl
    slots (suc j) a k = refl

module _ (x image : List ℕ) (base : ℕ) (tables work : List ℕ) (f : Fits x image (setting_of base edition_one) tables work) (k : Keeps x image base) where
  -- so many cells are enough for either
  pub fits : Fits x image (setting_of base edition_two) tables work
  fits = record { text_fits = f.text_fits; image_fits = f.image_fits; ends_below = f.ends_below; tables_fit = f.tables_fit; work_fits = f.work_fits; an_edition = inr refl }

  abbrev one : List ℕ
  one = loaded.t x image (setting_of base edition_one) tables work f k

  abbrev two : List ℕ
  two = loaded.t x image (setting_of base edition_two) tables work fits k

  tables-alike : with_one (tables_in one) ≡ with_one (tables_in two)
  tables-alike =
      ap with_one (loaded.same x image (setting_of base edition_one) tables work f k)
      ∙ heads-alike image base x (view k.records) (all_elements image base x k.records) edition_one edition_two
      ∙ sym (ap with_one (loaded.same x image (setting_of base edition_two) tables work fits k))

  long-alike : length one ≡ length two
  long-alike = loaded.long x image (setting_of base edition_one) tables work f k ∙ sym (loaded.long x image (setting_of base edition_two) tables work fits k)

  rule-alike : (m : ℕ) → keeps_rule (length x) m one ≡ keeps_rule (length x) m two
  rule-alike m =
      loaded.rule-is x image (setting_of base edition_one) tables work f k (length x) m
      ∙ ruled-one (tables_in one) (length x) m (rw (loaded.edition-of x image (setting_of base edition_one) tables work f k) (is-one-or-two edition_one (inl refl)))
      ∙ ap (λ (T : Tables). ruled T (length x) m) tables-alike
      ∙ sym (ruled-one (tables_in two) (length x) m (rw (loaded.edition-of x image (setting_of base edition_two) tables work fits k) (is-one-or-two edition_two (inr refl))))
      ∙ sym (loaded.rule-is x image (setting_of base edition_two) tables work fits k (length x) m)

  module _ (c : Kept) (q : Request) (o : AsksHalf (tables_in one) (group_in q) q.wanted → ⊥) where
    wanteds-alike : wanted_raw (tables_in one) (group_in q) q.wanted ≡ wanted_raw (tables_in two) (group_in q) q.wanted
    wanteds-alike =
        let v = halves_of (edition (tables_in two)) in
        wanted-is (tables_in one) (group_in q) q.wanted
        ∙ wanted-alike (halves_of (edition (tables_in one))) v (tables_in one) (group_in q) q.wanted o
        ∙ wanted-one v (tables_in one) (group_in q) q.wanted
        ∙ ap (λ (T : Tables). wanted_by v T (group_in q) q.wanted) tables-alike
        ∙ sym (wanted-one v (tables_in two) (group_in q) q.wanted)
        ∙ sym (wanted-is (tables_in two) (group_in q) q.wanted)

    -- the same answer, image and list
    pub writes-alike : writing one (length x) base c q ≡ writing two (length x) base c q
    writes-alike =
        let m = length c.image in
        writing-is (length x) base c q one
        ∙ writes_one (length x) base c q (tables_in one) (length one) (keeps_rule (length x) m one) (wanted_raw (tables_in one) (group_in q) q.wanted)
        ∙ (λ i. writes (length x) base c q (tables-alike i) (long-alike i) (rule-alike m i) (wanteds-alike i))
        ∙ sym (writes_one (length x) base c q (tables_in two) (length two) (keeps_rule (length x) m two) (wanted_raw (tables_in two) (group_in q) q.wanted))
        ∙ sym (writing-is (length x) base c q two)
