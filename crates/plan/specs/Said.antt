-- All that the program `plan` writes for the bytes on its standard input.
use Rattle.std.specs.Prelude.{Bool, cond, List, [], ◌∷◌, ◌++◌, ℕ, ◌+◌, ◌*◌, eqb, get_or, take, drop}
use Rattle.answers.specs.Effect.{tested}
use Rattle.fields.specs.Fields.{parameter_at, value_at}
use Rattle.patch.specs.Patch.{source_at, amount_at, destination_at}
use Rattle.pairs.specs.Pairs.{pair_rows}
use Rattle.text.specs.Text.{ascii, followed, signed}
use Rattle.edit_lists.specs.Lists.{list_bytes}
use Rattle.edit_lists.specs.Plan.{is_parameter, parts, differing, bus_at, plan}
use Rattle.plan.specs.Files.{Found, One, Not, found_in, patch_in, sentence}

-- What goes to the standard output, and what to the standard error.
pub record Said : Type 0 where
  pub out : List ℕ
  pub err : List ℕ

abbrev pub said : List ℕ → List ℕ → Said
said o e = record { out = o; err = e }

-- The value of a byte place in a patch, with its sign, and a space or a line's end behind it.
abbrev pub shown_at : List ℕ → ℕ → ℕ → List ℕ
shown_at p k behind = signed (value_at k (get_or p k 0)) behind

-- The line of an edit: byte place, parameter, its value before and after.
abbrev pub parameter_line : List ℕ → List ℕ → ℕ → List ℕ
parameter_line a b k = followed k 0x20 ++ (ascii "parameter " ++ (followed (parameter_at k) 0x20 ++ (shown_at a k 0x20 ++ shown_at b k 0x0A)))

-- Source, amount and destination of a bus.
abbrev pub bus_values : List ℕ → ℕ → ℕ → List ℕ
bus_values p c behind = shown_at p (source_at c) 0x20 ++ (shown_at p (amount_at c) 0x20 ++ shown_at p (destination_at c) behind)

-- Byte place, bus, its values before and after.
abbrev pub bus_line : List ℕ → List ℕ → ℕ → List ℕ
bus_line a b c = followed (source_at c) 0x20 ++ (ascii "bus " ++ (followed c 0x20 ++ (bus_values a c 0x20 ++ bus_values b c 0x0A)))

abbrev pub change_line : List ℕ → List ℕ → ℕ → List ℕ
change_line a b k = cond (is_parameter k) (parameter_line a b k) (bus_line a b (bus_at k))

-- A line for each of some edits.
unfoldable pub lines_for : List ℕ → List ℕ → List ℕ → List ℕ
lines_for a b [] = []
lines_for a b (k ∷ ks) = change_line a b k ++ lines_for a b ks

-- A line for each edit of the planner's list.
unfoldable pub change_lines : List ℕ → List ℕ → List ℕ
change_lines a b = lines_for a b (differing parts a b)

-- The list that turns a into b, as lines or as bytes. Both are accepted patches, so what refuses is that their names differ.
unfoldable pub proposing : Bool → List ℕ → List ℕ → Said
proposing lines a b =
    cond (eqb (tested (pair_rows a b)).answer 0)
    (said (cond lines (change_lines a b) (list_bytes (plan a b))) (ascii "done\n"))
    (said [] (ascii "names differ: no edit reaches a name\n"))

-- A file that does not come to one patch is told of, with a word that says which; else what is said of both.
abbrev pub unless_wrong : List ℕ → Found → Said → Said
unless_wrong which One more = more
unless_wrong which (Not w) more = said [] (which ++ sentence w)

-- By what the two files come to, the returned patch's first.
unfoldable pub by_files : Bool → List ℕ → List ℕ → Said
by_files lines returned lent =
    unless_wrong (ascii "returned: ") (found_in returned)
    (unless_wrong (ascii "lent: ") (found_in lent) (proposing lines (patch_in returned) (patch_in lent)))

-- The input: a byte, 1 where lines are wanted; the length of the returned patch's file in three bytes, low byte first; that file; the lent patch's.
abbrev pub wants_lines : List ℕ → Bool
wants_lines s = eqb (get_or s 0 0) 1

abbrev pub three_bytes : ℕ → ℕ → ℕ → ℕ
three_bytes low middle high = low + (256 * middle + 65536 * high)

abbrev pub first_length : List ℕ → ℕ
first_length s = three_bytes (get_or s 1 0) (get_or s 2 0) (get_or s 3 0)

unfoldable pub said_of : List ℕ → Said
said_of s = by_files (wants_lines s) (take (first_length s) (drop 4 s)) (drop (first_length s) (drop 4 s))
