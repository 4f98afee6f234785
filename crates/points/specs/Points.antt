-- Document 01, "Points on both sides": one list of cases, and what it means that a case holds. A conversion and an object stand in a
-- description that is read, and every answer is what the definitions give that the contracts cite.
use Rattle.std.specs.Prelude.{ℕ, zero, suc, ◌+◌, ◌*◌, ◌-◌, Bool, true, false, List, [], ◌∷◌, ◌++◌, ◌≡◌, ℤ, pos, neg_ℤ}
use Prim.Native.String.{String}
use Rattle.text.specs.Answer as text
use Rattle.text.specs.Bytes.{spelt}
use Rattle.number.specs.Answer.{Answer, given, refused}
use Rattle.number.specs.Decimal.{Scaled}
use Rattle.cell.specs.Kind.{UWORD, SWORD, shape_of}
use Rattle.cell.specs.Raw.{fits_raw, raw_at, written}
use Rattle.convert.specs.Fraction.{Value, none, number, fraction_of}
use Rattle.convert.specs.Asked.{and_then, or_refused, asked_raw}
use Rattle.convert.specs.Edition.{edition_one, edition_two, halves_of}
use Rattle.grammar.specs.Move.{View, view}
use Rattle.grammar.specs.Read.{read}
use Rattle.methods.specs.Methods.{coefficients}
use Rattle.objects.specs.Object.{layout_of, judge_object}
use Rattle.place.specs.declared.order.Layout.{Layout}
use Rattle.place.specs.declared.judge.Standing.{Standing}

-- What a case asks. The description has one method, or one object.
pub data Question : Type 0 where
  -- what a raw number shows by a description's method
  shown : List ℕ → ℤ → Question
  -- which raw number an asked value stores, by an edition, a description's method and in a data type
  stored : ℕ → List ℕ → ℕ → String → Question
  -- the raw number of bytes, MSB_FIRST or not, of a data type under a mask (0: none)
  raw : Bool → ℕ → ℕ → List ℕ → Question
  -- the bytes that a raw write leaves, MSB_FIRST or not, of a data type under a mask
  left : Bool → ℕ → ℕ → List ℕ → ℤ → Question
  -- where a description's object stands in an image of which the first byte has the base address
  stands : List ℕ → ℕ → List ℕ → Question

abbrev pub MSB-FIRST : Bool
MSB-FIRST = true

abbrev pub MSB-LAST : Bool
MSB-LAST = false

-- What a case answers.
pub data Outcome : Type 0 where
  value : Value → Outcome
  whole : ℤ → Outcome
  bytes : List ℕ → Outcome
  -- the addresses of an object's x points, first to last byte, and of its values, first to last
  ◌to◌and◌to◌ : ℕ → ℕ → ℕ → ℕ → Outcome
  refusal : ℕ → Outcome

abbrev pub outcome_by : {A : Type 0} → (A → Outcome) → Answer A → Outcome
outcome_by f (given a) = f a
outcome_by f (refused k) = refusal k

-- What is made of the records of a description that was read.
abbrev pub outcome_of : (View → Outcome) → text.Answer (List (List (List ℕ))) → Outcome
outcome_of f (text.given d) = f (view d)
outcome_of f (text.refused k p) = refusal k

-- The paper names no limits for P6: the widest that a description can write.
abbrev pub least : Scaled
least = record { negative = true; whole = 9999999999; tens = 0 }

abbrev pub greatest : Scaled
greatest = record { negative = false; whole = 9999999999; tens = 0 }

-- From a part's address to its last byte's.
abbrev pub last_of : ℕ → ℕ → ℕ → ℕ
last_of at type count = at + (shape_of type).bytes * count - 1

-- The addresses of a CURVE, which has a value for each x point.
unfoldable pub spans : Layout → Standing → Outcome
spans l s =
    let p = s.places in
    p.x to last_of p.x l.x.kind p.cx and p.values to last_of p.values l.values.kind p.cx

-- What the definitions answer.
unfoldable pub answer : Question → Outcome
answer (shown x i) = outcome_of (λ v. outcome_by (λ k. value (fraction_of k i)) (coefficients v 0)) (read x)
answer (stored e x type s) = outcome_of (λ v. outcome_by whole (and_then (coefficients v 0) (λ k. asked_raw (halves_of e) least greatest k (shape_of type) 0 (spelt s)))) (read x)
answer (raw first type mask image) = whole (raw_at first 0 (shape_of type) mask image)
answer (left first type mask image z) = outcome_by bytes (or_refused 18 (fits_raw (shape_of type) mask z) (written first 0 (shape_of type) mask z image))
answer (stands x base image) = outcome_of (λ v. outcome_by (spans (layout_of x v 0)) (judge_object image base x v 0 0)) (read x)

-- A case: what is asked, and the paper's answer.
pub data Case : Type 0 where
  ◌is◌ : Question → Outcome → Case

infix 5 ◌is◌
infix 6 ◌to◌and◌to◌
abbrev pub Holds : Case → Type 0
Holds (q is o) = answer q ≡ o

abbrev pub AllHold : List Case → Type 0
AllHold [] = Unit {0}
AllHold (c ∷ cs) = Holds c × AllHold cs

-- n/d
abbrev pub ratio : ℕ → ℕ → Outcome
ratio n d = value (number (pos n) (pos d))

-- So many bytes of 0.
unfoldable pub zeros : ℕ → List ℕ
zeros zero = []
zeros (suc n) = 0 ∷ zeros n

-- A description with one MODULE.
abbrev pub module_of : List ℕ → List ℕ
module_of w = spelt "/begin PROJECT P \"\" /begin MODULE M \"\" " ++ w ++ spelt " /end MODULE /end PROJECT"

-- A description with one method, and its coefficients.
abbrev pub COEFFS : String → List ℕ
COEFFS w = module_of (spelt "/begin COMPU_METHOD C \"\" RAT_FUNC \"\" \"\" COEFFS " ++ spelt w ++ spelt " /end COMPU_METHOD")

abbrev pub LINEAR : String → List ℕ
LINEAR w = module_of (spelt "/begin COMPU_METHOD C \"\" LINEAR \"\" \"\" COEFFS_LINEAR " ++ spelt w ++ spelt " /end COMPU_METHOD")

-- A description with a CURVE at an address, and the data types of its stored count, its axis and its values.
abbrev pub CURVE : String → String → String → String → List ℕ
CURVE address count axis values =
    module_of
    (spelt "/begin RECORD_LAYOUT L NO_AXIS_PTS_X 1 "
    ++ spelt count
    ++ spelt " AXIS_PTS_X 2 "
    ++ spelt axis
    ++ spelt " INDEX_INCR DIRECT FNC_VALUES 3 "
    ++ spelt values
    ++ spelt " ROW_DIR DIRECT /end RECORD_LAYOUT /begin CHARACTERISTIC C \"\" CURVE "
    ++ spelt address
    ++ spelt " L 0 NO_COMPU_METHOD 0 255 /begin AXIS_DESCR STD_AXIS NO_INPUT_QUANTITY NO_COMPU_METHOD 256 0 65535 /end AXIS_DESCR /end CHARACTERISTIC")

abbrev pub P1 : List ℕ
P1 = COEFFS "0 1000 0 0 0 1"

abbrev pub P4 : List ℕ
P4 = COEFFS "0 0 60 0 1 0"

abbrev pub P10 : List ℕ
P10 = CURVE "0x1001" "UBYTE" "UWORD" "UBYTE"

unfoldable pub cases : List Case
cases =
    -- P1 COEFFS 0 1000 0 0 0 1, raw 11800: 11800/1000. P2 LINEAR 0.001 0: the same.
    (shown P1 (pos 11800) is ratio 11800 1000)
    ∷ (shown (LINEAR "0.001 0") (pos 11800) is ratio 11800 1000)
    -- P3 LINEAR 0.5 −40: raw 255 gives 875/10.
    ∷ (shown (LINEAR "0.5 -40") (pos 255) is ratio 875 10)
    -- P4 COEFFS 0 0 60 0 1 0: raw 4 gives 60/4, raw 0 none. P5 COEFFS 0 2 0 0 1 0: 10.
    ∷ (shown P4 (pos 4) is ratio 60 4)
    ∷ (shown P4 (pos 0) is value none)
    ∷ (shown (COEFFS "0 2 0 0 1 0") (pos 1) is refusal 10)
    -- P6 under P1, 11.8005 stores 11801; −0.0005 in SWORD stores −1.
    ∷ (stored edition_one P1 UWORD "11.8005" is whole (pos 11801))
    ∷ (stored edition_one P1 SWORD "-0.0005" is whole (neg_ℤ (pos 1)))
    -- (P1 to P10 are for edition 1. In edition 2 these are the even neighbours.)
    ∷ (stored edition_two P1 UWORD "11.8005" is whole (pos 11800))
    ∷ (stored edition_two P1 SWORD "-0.0005" is whole (pos 0))
    -- P7 mask 0x00F0, word 0x12A7: raw 10; writing 3 leaves 0x1237; 16 is 18. P8 mask 0x0005: 5 fits, 2 is 18.
    ∷ (raw MSB-FIRST UWORD 0x00F0 (0x12 ∷ 0xA7 ∷ []) is whole (pos 10))
    ∷ (left MSB-FIRST UWORD 0x00F0 (0x12 ∷ 0xA7 ∷ []) (pos 3) is bytes (0x12 ∷ 0x37 ∷ []))
    ∷ (left MSB-FIRST UWORD 0x00F0 (0x12 ∷ 0xA7 ∷ []) (pos 16) is refusal 18)
    ∷ (left MSB-FIRST UWORD 0x0005 (0x00 ∷ 0x00 ∷ []) (pos 5) is bytes (0x00 ∷ 0x05 ∷ []))
    ∷ (left MSB-FIRST UWORD 0x0005 (0x00 ∷ 0x00 ∷ []) (pos 2) is refusal 18)
    -- P9 bytes 2E 18 MSB_FIRST, or 18 2E MSB_LAST: 11800.
    ∷ (raw MSB-FIRST UWORD 0 (0x2E ∷ 0x18 ∷ []) is whole (pos 11800))
    ∷ (raw MSB-LAST UWORD 0 (0x18 ∷ 0x2E ∷ []) is whole (pos 11800))
    -- P10 CURVE at 0x1001, UBYTE count 3, UWORD axis, UBYTE values: axis 0x1002 to 0x1007, values 0x1008 to 0x100A.
    -- An object ending on the image's last byte passes; one byte on: 12.
    ∷ (stands P10 0x1000 (0 ∷ 3 ∷ zeros 9) is 0x1002 to 0x1007 and 0x1008 to 0x100A)
    ∷ (stands P10 0x1000 (0 ∷ 3 ∷ zeros 8) is refusal 12)
    ∷ []
