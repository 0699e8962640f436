-- The definitions on an example: detune to -32, parameter 21 to 127, bus 0 to source 1, amount -1, destination 1.
use Rattle.std.specs.Prelude.{◌≡◌, List, [], ◌∷◌, ◌++◌, ℕ, set, replicate}
use Rattle.answers.specs.Table.{outcome}
use Rattle.edit_lists.specs.Lists.{remote, matrix, list_bytes}
use Rattle.edit_lists.specs.Plan.{plan}
use Rattle.edit_lists.specs.Check.{checking}

-- Every byte 0 but byte 76, which may not be; and the patch with those changes.
abbrev pub from : List ℕ
from = set (replicate 134 0) 76 1

abbrev pub to : List ℕ
to = set (set (set (set (set from 19 0xE0) 26 127) 104 1) 105 0xFF) 106 1

abbrev pub detune : List ℕ
detune = 0xF0 ∷ 0x10 ∷ 0x06 ∷ 0x06 ∷ 12 ∷ 0x60 ∷ 0xF7 ∷ []

abbrev pub twenty_one : List ℕ
twenty_one = 0xF0 ∷ 0x10 ∷ 0x06 ∷ 0x06 ∷ 21 ∷ 0x7F ∷ 0xF7 ∷ []

abbrev pub first_bus : List ℕ
first_bus = 0xF0 ∷ 0x10 ∷ 0x06 ∷ 0x0B ∷ 0 ∷ 1 ∷ 0x7F ∷ 1 ∷ 0xF7 ∷ []

pub record Example : Type 0 where
  -- the planner's list, and its bytes
  pub list : plan from to ≡ remote 12 0x60 ∷ remote 21 0x7F ∷ matrix 0 1 0x7F 1 ∷ []
  pub bytes : list_bytes (plan from to) ≡ detune ++ (twenty_one ++ first_bus)
  -- in another order, and with an edit twice, it is accepted; without the last, or with Active Sensing between two, it is not
  pub other_order : checking from to (first_bus ++ (twenty_one ++ detune)) ≡ outcome 0 0
  pub twice : checking from to (detune ++ (detune ++ (twenty_one ++ first_bus))) ≡ outcome 0 0
  pub one_short : checking from to (detune ++ twenty_one) ≡ outcome 20 0
  pub sensing : checking from to (detune ++ (0xFE ∷ (twenty_one ++ first_bus))) ≡ outcome 20 0
