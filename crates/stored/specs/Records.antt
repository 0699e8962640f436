-- Document 02 (ii), 'One stored file per unit': the records of a unit, and its two files as functions of them.
use Rattle.std.specs.Prelude.{Bool, true, false, ◌&&◌, List, [], ◌∷◌, ◌++◌, ℕ, suc, ◌+◌, ◌*◌, ◌/◌, ◌%◌, leb}
use Rattle.fields.specs.Fields.{size}
use Rattle.messages.specs.declared.kinds.Kind.{Kind}
use Rattle.messages.specs.declared.kinds.Kind.TheVariants.{Dump as of_dump}
use Rattle.messages.specs.Kinds.{master, single_patch, master_parameters}
use Rattle.messages.specs.Layout.{message}

-- A patch with its number, or a master.
pub data Record : Type 0 where
  of_patch : (number : ℕ) (bytes : List ℕ) → Record
  of_master : (bytes : List ℕ) → Record

-- 'Patches are 01H dumps.'
abbrev pub kind_for : Record → Kind
kind_for (of_patch n p) = of_dump single_patch
kind_for (of_master m) = of_dump master_parameters

-- The number that comes with a dump's answer, and its packed bytes.
abbrev pub number_for : Record → List ℕ
number_for (of_patch n p) = n ∷ []
number_for (of_master m) = []

abbrev pub packed_for : Record → List ℕ
packed_for (of_patch n p) = p
packed_for (of_master m) = m

-- In the old file: a dump as our writer writes it.
abbrev pub dumped : Record → List ℕ
dumped r = message (kind_for r) (number_for r) (packed_for r)

-- In the new file: 'each patch is its number and 134 bytes; the master is 172'.
abbrev pub stored : Record → List ℕ
stored r = number_for r ++ packed_for r

-- Records one after another, in their order.
unfoldable pub each : (Record → List ℕ) → List Record → List ℕ
each form [] = []
each form (r ∷ rs) = form r ++ each form rs

-- 'Patch dumps one after another, then at most one master dump.'
abbrev pub none_behind : List Record → Bool
none_behind [] = true
none_behind (r ∷ rs) = false

abbrev pub master_last : List Record → Bool
master_last [] = true
master_last (of_patch n p ∷ rs) = master_last rs
master_last (of_master m ∷ rs) = none_behind rs

abbrev pub patches_in : List Record → ℕ
patches_in [] = 0
patches_in (of_patch n p ∷ rs) = suc (patches_in rs)
patches_in (of_master m ∷ rs) = patches_in rs

abbrev pub masters_in : List Record → ℕ
masters_in [] = 0
masters_in (of_patch n p ∷ rs) = masters_in rs
masters_in (of_master m ∷ rs) = suc (masters_in rs)

-- 'Count of patches (0 to 100).'
abbrev pub patches_most : ℕ
patches_most = 100

-- The records of a unit.
abbrev pub of_unit : List Record → Bool
of_unit rs = master_last rs && leb (patches_in rs) patches_most

-- The old file.
abbrev pub old_file : List Record → List ℕ
old_file rs = each dumped rs

-- 'Offset of patches (10)', 'offset of the master (10 plus 135 for each patch)', 'total length', by the counts of patches and of masters.
abbrev pub patches_at : ℕ
patches_at = 10

abbrev pub master_at : ℕ → ℕ
master_at n = patches_at + suc size * n

abbrev pub total_of : ℕ → ℕ → ℕ
total_of n m = master_at n + master * m

-- 'Five 16-bit numbers, low byte first.'
abbrev pub sixteen_bits : ℕ → List ℕ
sixteen_bits n = n % 256 ∷ n / 256 ∷ []

abbrev pub header : ℕ → ℕ → List ℕ
header n m =
    sixteen_bits n ++ (sixteen_bits patches_at ++ (sixteen_bits m ++ (sixteen_bits (master_at n) ++ sixteen_bits (total_of n m))))

-- The new file.
unfoldable pub new_file : List Record → List ℕ
new_file rs = header (patches_in rs) (masters_in rs) ++ each stored rs
