-- The files of some units, computed.
use mathlib.Core.Path.{refl}
use Rattle.streams.specs.Stream.{reports}
use Rattle.stored.specs.Records.{each, new_file}
use Rattle.stored.specs.Files.{first_kept, records_from, old_records, to_stored, headed, patches_from, masters_from, new_records, first_bad, from_stored}
use Rattle.stored.specs.promises.Example.{Example}

pub example : Example
unfolding each new_file first_kept records_from old_records to_stored headed patches_from masters_from new_records first_bad from_stored reports
example = record {
  no_record = refl;
  two_patches = refl;
  whole_bank = refl;
  empty = refl;
  empty_stored = refl;
  empty_back = refl;
  no_room = refl;
}
