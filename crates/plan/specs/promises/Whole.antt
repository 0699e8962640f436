-- What holds of what the program writes: in a room of this many bytes it stands whole; a file that comes to one patch has an accepted one, and one
-- with a dump as our writer writes it does; two of them are refused for their names alone, and what is proposed for them the checker accepts.
use Rattle.std.specs.Prelude.{◌≡◌, false, List, [], ◌∷◌, ◌++◌, ◌⊎◌, ℕ, ◌-◌, ◌≤◌, length, take, drop}
use Rattle.std.proofs.Math.Option.{some}
use Rattle.answers.specs.Table.{outcome, done}
use Rattle.answers.specs.Effect.{tested}
use Rattle.streams.specs.Stream.{Report, walk}
use Rattle.messages.specs.declared.kinds.Kind.TheVariants.{Dump as of_dump}
use Rattle.messages.specs.Kinds.{single_patch, edit_buffer}
use Rattle.messages.specs.Judge.{judge}
use Rattle.messages.specs.Layout.{message}
use Rattle.pairs.specs.Pairs.{name_of, pair_rows}
use Rattle.edit_lists.specs.Check.{checking}
use Rattle.edit_lists.specs.promises.Shortest.{Good}
use Rattle.plan.specs.declared.Written.{Written}
use Rattle.plan.specs.Files.{One, found_in, patch_in}
use Rattle.plan.specs.Said.{by_files, said_of}
use Rattle.plan.specs.code.Written.{Says, room_most}

-- The first message of the file, its record, and that its patch passes.
pub record OnePatch (s : List ℕ) : Type 0 where
  pub report : Report
  pub opcode : ℕ
  pub bytes : List ℕ
  pub first : walk judge s 0 ≡ some report
  pub accepted : report.verdict ≡ done opcode bytes (patch_in s)
  pub good : Good (patch_in s)

-- A file comes to one patch, and to this.
abbrev pub Holds : List ℕ → List ℕ → Type 0
Holds s p = (found_in s ≡ One) × (patch_in s ≡ p)

pub record Whole : Type 0 where
  -- all that can be said fits into a room of so many bytes, and stands there whole
  pub fits : (s : List ℕ) → let w = said_of s in length (w.out ++ w.err) ≤ room_most
  pub stands : (s old new : List ℕ) (r : Written) → room_most ≤ length old → Says (said_of s) old new r
      → let w = said_of s in (take r.out new ≡ w.out) × (take (r.end - r.out) (drop r.out new) ≡ w.err)
  -- a dump as our writer writes it is such a file
  pub numbered : (n : ℕ) (p : List ℕ) → Good p → n ≤ 99 → Holds (message (of_dump single_patch) (n ∷ []) p) p
  pub to_edit_buffer : (p : List ℕ) → Good p → Holds (message (of_dump edit_buffer) [] p) p
  -- and such a file has an accepted patch
  pub one_patch : (s : List ℕ) → found_in s ≡ One → OnePatch s
  pub names_alone : (s t : List ℕ) → found_in s ≡ One → found_in t ≡ One
      → let o = tested (pair_rows (patch_in s) (patch_in t)) in (o ≡ outcome 0 0) ⊎ (o ≡ outcome 16 0)
  -- the list that goes to the standard output turns the returned patch into the lent one
  pub proposed : (returned lent : List ℕ) → found_in returned ≡ One → found_in lent ≡ One → name_of (patch_in returned) ≡ name_of (patch_in lent)
      → checking (patch_in returned) (patch_in lent) (by_files false returned lent).out ≡ outcome 0 0
