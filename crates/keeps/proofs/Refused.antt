-- A load that the text stage refuses depends on nothing after the offending token: "the text from the start, the first offence by place".
use Prim.Native.Nat.{ℕ}
use mathlib.Core.Path.{◌≡◌}
use mathlib.Core.List.{List}
use mathlib.Core.Bool.{true}
use lib.ListN.{length}
use Rattle.text.specs.Answer.{refused}
use Rattle.grammar.specs.Read.{read}
use Rattle.local.specs.Token.{TokenTo}
use Rattle.local.specs.Same.{SameTo}
use Rattle.local.proofs.Refused.{refusal-local}
use Rattle.tables.specs.declared.setting.Setting.{Setting}
use Rattle.tables.specs.Sizes.{sizes_fit}
use Rattle.load.specs.Load.{described, loaded}

-- the answer and what the lent cells hold are those of every description that is the same up to two bytes past the token, where the sizes of both fit
pub load-refusal-local : (x y image : List ℕ) (setting : Setting) (tables work : List ℕ) (n p e : ℕ) → read x ≡ refused n p → TokenTo x p e → SameTo e x y
    → sizes_fit (length x) (length image) setting.base (length tables) ≡ true → sizes_fit (length y) (length image) setting.base (length tables) ≡ true
    → loaded y image setting tables work ≡ loaded x image setting tables work
unfolding loaded described
load-refusal-local x y image setting tables work n p e r t same f g = rw (f, g, r, refusal-local x y n p e t same r)
