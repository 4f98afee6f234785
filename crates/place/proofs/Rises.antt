-- `in_order` rises by Position.
use Prim.Native.Nat.{ℕ, ◌≤◌}
use native.Mathlib.Omega.{arith}
use mathlib.Core.Path.{◌≡◌, refl}
use mathlib.Core.List.{List, [], ◌∷◌}
use mathlib.Core.Bool.{Bool, true, false, cond}
use borrow.Author.Tests.{ltb-true, ltb-false}
use lib.Dec.{ltb}
use Rattle.place.specs.Order.{insert, in_order}
use Rattle.place.specs.declared.order.Part.{Part}

-- every part has a position from m on
abbrev pub From : ℕ → List Part → Type 0
From m [] = 0 ≤ 0
From m (p ∷ ps) = (m ≤ p.entry.position) × From m ps

abbrev pub Rising : List Part → Type 0
Rising [] = 0 ≤ 0
Rising (p ∷ ps) = From p.entry.position ps × Rising ps

lower : (m n : ℕ) (ps : List Part) → m ≤ n → From n ps → From m ps
lower m n [] h f = f
lower m n (p ∷ ps) h f = (omega (arith, f.0), lower m n ps h f.1)

from-turn : (t : Bool) (m : ℕ) (p q : Part) (qs rs : List Part) → m ≤ p.entry.position → From m (q ∷ qs) → From m rs → From m (cond t (p ∷ q ∷ qs) (q ∷ rs))
from-turn true m p q qs rs h f g = (h, f)
from-turn false m p q qs rs h f g = (f.0, g)

from-insert : (m : ℕ) (p : Part) (qs : List Part) → m ≤ p.entry.position → From m qs → From m (insert p qs)
unfolding insert
from-insert m p [] h f = (h, f)
from-insert m p (q ∷ qs) h f = from-turn (ltb p.entry.position q.entry.position) m p q qs (insert p qs) h f (from-insert m p qs h f.1)

rising-turn : (t : Bool) (p q : Part) (qs rs : List Part) → ltb p.entry.position q.entry.position ≡ t → Rising (q ∷ qs)
    → (q.entry.position ≤ p.entry.position → From q.entry.position rs) → Rising rs → Rising (cond t (p ∷ q ∷ qs) (q ∷ rs))
rising-turn true p q qs rs e r f g =
    let h = ltb-true p.entry.position q.entry.position e in
    let l : p.entry.position ≤ q.entry.position = omega arith in
    ((l, lower p.entry.position q.entry.position qs l r.0), r)
rising-turn false p q qs rs e r f g = (f (ltb-false p.entry.position q.entry.position e), g)

rising-insert : (p : Part) (qs : List Part) → Rising qs → Rising (insert p qs)
unfolding insert
rising-insert p [] r = (r, r)
rising-insert p (q ∷ qs) r =
    rising-turn (ltb p.entry.position q.entry.position) p q qs (insert p qs) refl r (λ h. from-insert q.entry.position p qs h r.0) (rising-insert p qs r.1)

pub in-order-rises : (ps : List Part) → Rising (in_order ps)
unfolding in_order
in-order-rises [] = omega arith
in-order-rises (p ∷ ps) = rising-insert p (in_order ps) (in-order-rises ps)
