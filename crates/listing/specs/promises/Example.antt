-- Document 01's example of a listing, whole, as 02 (vi) and (viii) amend it; one with values: the two remote edits of 01 that are answered 11; and one
-- with real time: in a complete message, an interrupted one and a cut one, and between them, where it counts nowhere.
use Rattle.std.specs.Prelude.{◌≡◌, [], ◌∷◌}
use Rattle.text.specs.Text.{ascii}
use Rattle.listing.specs.Listing.{listing_of}

abbrev pub Example : Type 0
Example =
    listing_of (0x41 ∷ 0xF0 ∷ 0xF7 ∷ 0xF0 ∷ 0x10 ∷ 0x06 ∷ 0x06 ∷ 0x15 ∷ 0x7F ∷ 0xF7 ∷ 0xF0 ∷ [])
    ≡ ascii "start end answer detail value rt\n1 3 4 0 0 0\n3 10 0 6 0 0\n10 11 2 0 0 0\nmessages 3\n"

abbrev pub WithValues : Type 0
WithValues =
    listing_of (0xF0 ∷ 0x10 ∷ 0x06 ∷ 0x06 ∷ 0x0C ∷ 0x5F ∷ 0xF7 ∷ 0xF0 ∷ 0x10 ∷ 0x06 ∷ 0x06 ∷ 0x00 ∷ 0x40 ∷ 0xF7 ∷ [])
    ≡ ascii "start end answer detail value rt\n0 7 11 19 -33 0\n7 14 11 9 192 0\nmessages 2\n"

abbrev pub WithNoise : Type 0
WithNoise =
    listing_of (0xFE ∷ 0xF0 ∷ 0x10 ∷ 0x06 ∷ 0xFE ∷ 0x06 ∷ 0x15 ∷ 0x7F ∷ 0xF8 ∷ 0xF7 ∷ 0xFE ∷ 0xF0 ∷ 0xFF ∷ 0x90 ∷ 0xFE ∷ 0xF0 ∷ 0xFE ∷ [])
    ≡ ascii "start end answer detail value rt\n1 10 0 6 0 2\n11 13 3 0 0 1\n15 17 2 0 0 1\nmessages 3\n"
