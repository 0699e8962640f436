-- They are computed.
use mathlib.Core.Path.{refl}
use Rattle.text.specs.Text.{ascii, digits_of, spaced}
use Rattle.streams.specs.Bytes.{body, without_real_time, real_time_in, byte_kind}
use Rattle.streams.specs.Stream.{reports, walk, first_from, message_at}
use Rattle.ranges.specs.Ranges.{in_row, between, out_from}
use Rattle.ranges.specs.Values.{value_by, value_of}
use Rattle.fields.specs.Fields.{fields, place_of, search_from}
use Rattle.edits.specs.Edits.{edit_rows, stored_for, extended}
use Rattle.messages.specs.Kinds.{kind_of}
use Rattle.messages.specs.Judge.{judge}
use Rattle.listing.specs.Listing.{header, lines, total, listing_of}
use Rattle.listing.specs.promises.Example.{Example, WithValues, WithNoise}

pub example : Example
unfolding listing_of header lines total ascii digits_of spaced reports walk first_from message_at body without_real_time real_time_in byte_kind judge kind_of edit_rows place_of
    search_from fields stored_for extended in_row between out_from value_by value_of
example = refl

pub with_values : WithValues
unfolding listing_of header lines total ascii digits_of spaced reports walk first_from message_at body without_real_time real_time_in byte_kind judge kind_of edit_rows place_of
    search_from fields stored_for extended in_row between out_from value_by value_of
with_values = refl

pub with_noise : WithNoise
unfolding listing_of header lines total ascii digits_of spaced reports walk first_from message_at body without_real_time real_time_in byte_kind judge kind_of edit_rows place_of
    search_from fields stored_for extended in_row between out_from value_by value_of
with_noise = refl
