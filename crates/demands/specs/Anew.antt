-- "After any sequence of writes, refused ones included, the kept value list equals one made anew."
use Rattle.std.specs.Prelude.{ℕ, ◌≡◌, List}
use Rattle.number.specs.Answer.{given}
use Rattle.tables.specs.Form.{tables_in}
use Rattle.tables.specs.Group.{group_of, line_of}
use Rattle.look.specs.Element.{line_with}
use Rattle.look.specs.Calls.{lent_by, Reading, reading, Kept, making, Request, line_at, with_image}
use Rattle.demands.specs.Runs.{running}

-- tables t, n bytes of description, a base address, and k: an image with four lent columns
module _ (t : List ℕ) (n base : ℕ) (k : Kept) where
  -- what is kept after the list is made and the requests are carried out or refused
  abbrev pub after_all : List Request → Kept
  after_all qs = running t n base (making t n base k).left qs

  pub record Anew : Type 0 where
    -- making the list is accepted
    pub makes : (making t n base k).answer ≡ given tt
    -- image and list are those that making a list over the same columns leaves, from the image as it then is
    pub anew : (qs : List Request) → after_all qs ≡ (making t n base (with_image (after_all qs).image k)).left
    -- and making it anew in place is accepted and leaves it as it is
    pub again : (qs : List Request) → making t n base (after_all qs) ≡ record { answer = given tt; left = after_all qs }
    -- and each line holds what reading its element then answers
    pub reads : (qs : List Request) (o p i : ℕ) (r : Reading) → reading t (after_all qs).image (lent_by n base (after_all qs)) o p i ≡ given r
        → line_at (after_all qs) (line_of (tables_in t) (group_of o p) i) ≡ line_with r.raw r.value
