-- The five operations (02 (vii)): what stands behind their opcode, by source document 000.
use Rattle.std.specs.Prelude.{Bool, true, false, ◌&&◌, ◌||◌, List, [], ◌∷◌, ℕ, eqb, leb}
pub use Rattle.operations.specs.declared.Operation.{Operation}
pub use Rattle.operations.specs.declared.Operation.TheVariants.{Request as a_request, Group as a_group, Bank as a_bank, Unlock as an_unlock, Store as a_store}

-- The last patch of a bank, the last bank, the last ID of a unit in a group, and the ID that is for any unit of it.
abbrev pub last_patch : ℕ
last_patch = 99

abbrev pub last_bank : ℕ
last_bank = 9

abbrev pub last_unit : ℕ
last_unit = 5

abbrev pub any_unit : ℕ
any_unit = 0x7F

-- The values that a byte may have: one; those from 0 up to a greatest; those from a least to a greatest.
pub data Values : Type 0 where
  only : (value : ℕ) → Values
  up_to : (greatest : ℕ) → Values
  between : (least greatest : ℕ) → Values

abbrev pub has : Values → ℕ → Bool
has (only value) b = eqb b value
has (up_to greatest) b = leb b greatest
has (between least greatest) b = leb least b && leb b greatest

-- How many bytes an operation has.
abbrev pub bytes_of : Operation → ℕ
bytes_of a_request = 2
bytes_of a_group = 2
bytes_of a_bank = 1
bytes_of an_unlock = 0
bytes_of a_store = 3

-- The forms that they may have, byte by byte.
abbrev pub forms_of : Operation → List (List Values)
-- Type and number: all patches and the master; one patch; the master; the edit buffer.
forms_of a_request =
    (only 0 ∷ only 0 ∷ []) ∷
    (only 1 ∷ up_to last_patch ∷ []) ∷
    (only 3 ∷ only 0 ∷ []) ∷
    (only 4 ∷ only 0 ∷ []) ∷ []
-- The total of units, and the ID.
forms_of a_group = (between 2 6 ∷ up_to last_unit ∷ []) ∷ []
-- The bank.
forms_of a_bank = (up_to last_bank ∷ []) ∷ []
forms_of an_unlock = [] ∷ []
-- The number, the bank and the ID: of one unit, or of any.
forms_of a_store =
    (up_to last_patch ∷ up_to last_bank ∷ up_to last_unit ∷ []) ∷
    (up_to last_patch ∷ up_to last_bank ∷ only any_unit ∷ []) ∷ []

-- Bytes have a form: as many as it has, each with one of its values.
abbrev pub has_form : List Values → List ℕ → Bool
has_form [] [] = true
has_form [] (b ∷ bs) = false
has_form (v ∷ vs) [] = false
has_form (v ∷ vs) (b ∷ bs) = has v b && has_form vs bs

abbrev pub has_one : List (List Values) → List ℕ → Bool
has_one [] b = false
has_one (f ∷ fs) b = has_form f b || has_one fs b

-- The bytes that an operation may have.
unfoldable pub allowed : Operation → List ℕ → Bool
allowed o b = has_one (forms_of o) b
