-- The kinds of message that the desk files. What a kind is stands here, once; its length, tests, record and layout are computed from it.
use Rattle.std.specs.Prelude.{◌≡◌, Bool, true, false, cond, List, [], ◌∷◌, ℕ, ◌+◌, ◌*◌, eqb}
use Rattle.std.proofs.Math.Option.{Option, none, some}
use Rattle.ranges.specs.Ranges.{Table}
use Rattle.fields.specs.Fields.{size, fields}
use Rattle.patch.specs.Patch.{buses}
use Rattle.splits.specs.Splits.{split_size, split_fields}
use Rattle.operations.specs.declared.Operation.TheVariants.{Request as a_request, Group as a_group, Bank as a_bank, Unlock as an_unlock, Store as a_store}
use Rattle.operations.specs.Operations.{last_patch, bytes_of}
pub use Rattle.messages.specs.declared.kinds.Behind.{Behind}
pub use Rattle.messages.specs.declared.kinds.Behind.TheVariants.{NumberTo as number_to, Always as always}
pub use Rattle.messages.specs.declared.kinds.Packed.{Packed}
pub use Rattle.messages.specs.declared.kinds.Packed.TheVariants.{Patch as a_patch, Split as a_split, AnyBytes as any_bytes}
pub use Rattle.messages.specs.declared.kinds.Dump.{Dump}
pub use Rattle.messages.specs.declared.kinds.Operands.{Operands}
pub use Rattle.messages.specs.declared.kinds.Operands.TheVariants.{Edit as an_edit, BusEdit as a_bus_edit, Operation as an_operation}
pub use Rattle.messages.specs.declared.kinds.Short.{Short}
pub use Rattle.messages.specs.declared.kinds.Kind.{Kind}
pub use Rattle.messages.specs.declared.kinds.Kind.TheVariants.{Dump as of_dump, Short as of_short, Unknown as unknown}

-- Every message of ours has these behind its F0H: Oberheim, and Matrix-6, Matrix-6R or Matrix-1000.
abbrev pub maker : ℕ
maker = 0x10

abbrev pub device : ℕ
device = 0x06

-- The packed bytes of a master.
abbrev pub master : ℕ
master = 172

-- What a dump packs: how many bytes, the table of their ranges if they have one, and how many buses they have.
pub record Shape : Type 0 where
  pub count : ℕ
  pub table : Option Table
  pub buses : ℕ

abbrev pub shape_of : Packed → Shape
shape_of a_patch = record { count = size; table = some fields; buses = buses }
shape_of a_split = record { count = split_size; table = some split_fields; buses = 0 }
shape_of (any_bytes count) = record { count = count; table = none; buses = 0 }

abbrev pub size_of : Packed → ℕ
size_of q = (shape_of q).count

-- How many bytes a short message has behind its opcode.
abbrev pub count_of : Operands → ℕ
count_of an_edit = 2
count_of a_bus_edit = 4
count_of (an_operation o) = bytes_of o

-- A dump: F0H 10H 06H, opcode, the byte behind it, two data bytes for each packed byte, the sum, F7H.
abbrev pub dump_kind : ℕ → Behind → Packed → Dump
dump_kind o b p = record { opcode = o; length = 7 + 2 * size_of p; behind = b; packed = p }

-- A short message: F0H 10H 06H, opcode, the bytes behind it, F7H.
abbrev pub short_kind : ℕ → Operands → Short
short_kind o b = record { opcode = o; length = 5 + count_of b; operands = b }

abbrev pub single_patch : Dump
single_patch = dump_kind 0x01 (number_to last_patch) a_patch

-- 02 (x). 003 prints 42 bytes in all; its own terms, 36 + 5 + 1 + 1, add up to 43.
abbrev pub split_patch : Dump
split_patch = dump_kind 0x02 (number_to 49) a_split

abbrev pub master_parameters : Dump
master_parameters = dump_kind 0x03 (always 3) (any_bytes master)

abbrev pub remote_edit : Short
remote_edit = short_kind 0x06 an_edit

-- 02 (vii): the rest of the operations.
abbrev pub request_data : Short
request_data = short_kind 0x04 (an_operation a_request)

abbrev pub group_mode : Short
group_mode = short_kind 0x07 (an_operation a_group)

abbrev pub set_bank : Short
set_bank = short_kind 0x0A (an_operation a_bank)

abbrev pub unlock_bank : Short
unlock_bank = short_kind 0x0C (an_operation an_unlock)

abbrev pub store_edit_buffer : Short
store_edit_buffer = short_kind 0x0E (an_operation a_store)

abbrev pub bus_edit : Short
bus_edit = short_kind 0x0B a_bus_edit

abbrev pub edit_buffer : Dump
edit_buffer = dump_kind 0x0D (always 0) a_patch

-- The kinds, in the order of the code's match.
abbrev pub kinds : List Kind
kinds =
    of_dump single_patch ∷ of_dump split_patch ∷ of_dump master_parameters ∷ of_short request_data ∷ of_short remote_edit ∷ of_short group_mode ∷
    of_short set_bank ∷ of_short bus_edit ∷ of_short unlock_bank ∷ of_dump edit_buffer ∷ of_short store_edit_buffer ∷ []

abbrev pub opcode_of : Kind → ℕ
opcode_of (of_dump k) = k.opcode
opcode_of (of_short k) = k.opcode
opcode_of unknown = 0

-- The kind of an opcode.
abbrev pub among : List Kind → ℕ → Kind
among [] opcode = unknown
among (k ∷ ks) opcode = cond (eqb opcode (opcode_of k)) k (among ks opcode)

unfoldable pub kind_of : ℕ → Kind
kind_of opcode = among kinds opcode

-- It is one of them, or unknown: its opcode finds it.
abbrev pub Filed : Kind → Type 0
Filed k = kind_of (opcode_of k) ≡ k

abbrev pub is_unknown : Kind → Bool
is_unknown (of_dump k) = false
is_unknown (of_short k) = false
is_unknown unknown = true

-- The length of a complete message after dropping, F0H and F7H included.
abbrev pub length_of : Kind → ℕ
length_of (of_dump k) = k.length
length_of (of_short k) = k.length
length_of unknown = 0
