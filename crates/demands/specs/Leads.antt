-- "a reference that leads nowhere": where a reference leads to.
use Rattle.std.specs.Prelude.{ℕ, ◌<◌, ◌≡◌, List, true, false, ◌⊎◌}
use Rattle.text.specs.Bytes.{same_part}
use Rattle.rows.specs.Slots.{own_name, own_name_past, block_code}
use Rattle.grammar.specs.Move.{View}
use Rattle.refer.specs.Refer.{is_free}
use Rattle.refer.specs.declared.Row.{Row}

-- record i of section j bears the name from a up to e, and none before it does
pub record Bears (x : List ℕ) (v : View) (j a e i : ℕ) : Type 0 where
  pub below : i < v.counts j
  pub same : same_part x (v.slots j i own_name) (v.slots j i own_name_past) x a e ≡ true
  pub first : (k : ℕ) → k < i → same_part x (v.slots j k own_name) (v.slots j k own_name_past) x a e ≡ false

-- the name from a up to e, where row r says what it must lead to, leads somewhere: it is the word that stands for none (NO_COMPU_METHOD,
-- NO_INPUT_QUANTITY), or a record of the section bears it, of the class where there is one ("COM_AXIS with AXIS_PTS_REF", "An input quantity is a MEASUREMENT")
abbrev pub Leads : List ℕ → View → Row → ℕ → ℕ → Type 0
Leads x v r a e = (is_free x r.free a e ≡ true) ⊎ ((i : ℕ) × Bears x v r.target a e i × ((r.class ≡ 0) ⊎ (v.slots r.target i block_code ≡ r.class)))
