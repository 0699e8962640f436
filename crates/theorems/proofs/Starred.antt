-- The starred examples of document 01 and those of requests (vi) and (x), each computed from the definitions.
use mathlib.Core.Path.{refl}
use lib.ListN.{drop}
use Rattle.answers.specs.Lists.{All}
use Rattle.answers.specs.code.Numbers.{as_number}
use Rattle.nibbles.specs.Nibbles.{nibbles, pack, total, sum, wide_from}
use Rattle.fields.specs.Fields.{fields, search_from, place_of}
use Rattle.fields.specs.Parameters.{ranging}
use Rattle.ranges.specs.Ranges.{between, in_row, out_from}
use Rattle.patch.specs.Patch.{half_used, half_from, holding}
use Rattle.splits.specs.Splits.{split_fields}
use Rattle.operations.specs.Operations.{allowed}
use Rattle.names.specs.Names.{stored, any_outside, naming}
use Rattle.ranges.specs.Values.{value_of, value_by}
use Rattle.edits.specs.Edits.{extended, stored_for, edit_rows, bus_rows, with_bus, applying, applying_bus}
use Rattle.messages.specs.Kinds.{kind_of}
use Rattle.messages.specs.Judge.{data_of, packed_of, sum_of, data_rows, judge}
use Rattle.messages.specs.Layout.{dump}
use Rattle.theorems.specs.Examples.{Computes, starred, Starred, found_values, FoundValues, splits, Splits, operations, Operations}

pub starred_hold : Starred
unfolding nibbles total sum fields between in_row search_from place_of out_from half_used half_from stored any_outside naming value_of value_by
    extended stored_for edit_rows bus_rows with_bus applying applying_bus kind_of judge dump
starred_hold =
    let others : All Computes (drop 12 starred) = (refl, (refl, (refl, (refl, (refl, (refl, (refl, (refl, (refl, (refl, (refl, (refl, (refl, tt))))))))))))) in
    (refl, (refl, (refl, (refl, (refl, (refl, (refl, (refl, (refl, (refl, (refl, (refl, others))))))))))))

pub values_found : FoundValues
unfolding nibbles total sum pack sum_of data_of packed_of data_rows wide_from fields between in_row search_from place_of out_from half_used half_from value_of value_by
    extended stored_for edit_rows applying kind_of judge dump ranging holding as_number
values_found =
    let others : All Computes (drop 12 found_values) = (refl, (refl, (refl, (refl, (refl, (refl, (refl, (refl, (refl, (refl, (refl, (refl, tt)))))))))))) in
    (refl, (refl, (refl, (refl, (refl, (refl, (refl, (refl, (refl, (refl, (refl, (refl, others))))))))))))

pub splits_hold : Splits
unfolding nibbles total sum pack sum_of data_of packed_of data_rows wide_from split_fields between in_row out_from half_from value_of value_by kind_of judge dump
splits_hold =
    let others : All Computes (drop 12 splits) = (refl, (refl, (refl, (refl, (refl, (refl, (refl, (refl, (refl, (refl, (refl, (refl, tt)))))))))))) in
    (refl, (refl, (refl, (refl, (refl, (refl, (refl, (refl, (refl, (refl, (refl, (refl, others))))))))))))

pub operations_hold : Operations
unfolding kind_of judge allowed
operations_hold =
    let last : All Computes (drop 24 operations) = (refl, (refl, (refl, (refl, (refl, (refl, (refl, (refl, (refl, (refl, (refl, (refl, (refl, tt))))))))))))) in
    let middle : All Computes (drop 12 operations) = (refl, (refl, (refl, (refl, (refl, (refl, (refl, (refl, (refl, (refl, (refl, (refl, last)))))))))))) in
    (refl, (refl, (refl, (refl, (refl, (refl, (refl, (refl, (refl, (refl, (refl, (refl, middle))))))))))))
