-- The line of the bytes that come with a record.
use Rattle.std.specs.Prelude.{List, ◌++◌, ℕ, take, get_or}
use Rattle.text.specs.Text.{ascii, followed, spaced}

abbrev pub record_line : List ℕ → List ℕ
record_line bytes = ascii "record " ++ (spaced (take 3 bytes) ++ followed (get_or bytes 3 0) 0x0A)
