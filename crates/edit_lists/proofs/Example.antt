-- The example, computed.
use mathlib.Core.Path.{refl}
use Rattle.ranges.specs.Ranges.{between, in_row, out_from}
use Rattle.fields.specs.Fields.{fields, search_from, place_of}
use Rattle.patch.specs.Patch.{half_used, half_from}
use Rattle.edits.specs.Edits.{extended, stored_for, edit_rows, bus_rows, with_bus, applying, applying_bus}
use Rattle.pairs.specs.Pairs.{same_bytes}
use Rattle.edit_lists.specs.Lists.{list_bytes, turned}
use Rattle.edit_lists.specs.Plan.{parts_from, parts, differing, plan}
use Rattle.edit_lists.specs.Check.{first_edit, edits_in, accepts, checking}
use Rattle.edit_lists.specs.promises.Example.{Example}

pub example : Example
unfolding list_bytes turned parts_from parts differing plan first_edit edits_in accepts checking same_bytes applying applying_bus edit_rows bus_rows with_bus extended stored_for place_of search_from fields between in_row out_from half_used half_from
example = record { list = refl; bytes = refl; other_order = refl; twice = refl; one_short = refl; sensing = refl }
