-- `is_formed` meets its contract.
use Rattle.std.proofs.Common.{◌≡◌, true, false, ◌∙◌, sym}
use Rattle.number.proofs.FormLaws.{form-decimal, form-whole, form-digits}
use Rattle.runs.proofs.form.is_formed.Goals.{then-is_ok, else-is_ok}
use Rattle.runs.proofs.form.is_formed.Goals as goal

pub returns-then-is_ok-2 : goal.returns-then-is_ok-2
returns-then-is_ok-2 c = elim c.if-is_ok.branch [
  | then-is_ok w ↦ c.if-is_ok-2.true ∙ form-decimal _ _ c.decimal_of.ensures (sym w.if-is_ok.ensures.value)
  | else-is_ok w ↦
      c.if-is_ok-2.true
      ∙ form-whole _ _ c.decimal_of.ensures (sym w.if-is_ok.ensures.value) _ w.whole_of.ensures (sym w.is_ok-else-is_ok.ensures.value ∙ sym w.value-is ∙ c.if-is_ok-2.true)
]

pub returns-else-is_ok-2 : goal.returns-else-is_ok-2
returns-else-is_ok-2 c = elim c.if-is_ok.branch [
  | then-is_ok w ↦ let z : true ≡ false = sym w.if-is_ok.true ∙ sym w.value-is ∙ c.if-is_ok-2.false in absurd cc
  | else-is_ok w ↦
      form-digits _ _ c.decimal_of.ensures (sym w.if-is_ok.ensures.value) _ w.whole_of.ensures _ (sym w.is_ok-else-is_ok.ensures.value ∙ sym w.value-is ∙ c.if-is_ok-2.false)
      c.is_digits.ensures
]
