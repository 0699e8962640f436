-- What a file of the desk comes to: its one accepted patch dump, or what else was found in it.
use Rattle.std.specs.Prelude.{Bool, true, cond, ◌&&◌, ◌||◌, List, [], ◌∷◌, ◌++◌, ℕ, eqb, ltb, length, replicate}
use Rattle.answers.specs.declared.Outcome.{Outcome}
use Rattle.streams.specs.Bytes.{byte_kind, is_real_time}
use Rattle.streams.specs.Stream.{between}
use Rattle.fields.specs.Fields.{size}
use Rattle.messages.specs.Kinds.{single_patch, edit_buffer}
use Rattle.reading.specs.declared.walking.Report.{Report}
use Rattle.reading.specs.code.Told.{walked, reads}
use Rattle.text.specs.Text.{ascii}
use Rattle.listing.specs.Listing.{most, line, too_long}
use Rattle.plan.specs.declared.Wrong.{Wrong}
use Rattle.plan.specs.declared.Wrong.TheVariants.{TooLong, NoPatch, NotOne, Outside}

-- What a file comes to: its one accepted patch dump, or something else.
pub data Found : Type 0 where
  One : Found
  Not : Wrong → Found

-- An accepted patch dump, 01H or 0DH.
abbrev pub is_patch_dump : Outcome → Bool
is_patch_dump o = eqb o.answer 0 && (eqb o.detail single_patch.opcode || eqb o.detail edit_buffer.opcode)

-- Nothing but F8H..FFH.
unfoldable pub only_real_time : List ℕ → Bool
only_real_time [] = true
only_real_time (b ∷ s) = is_real_time (byte_kind b) && only_real_time s

-- Nothing but real time stands outside a message.
abbrev pub alone : List ℕ → Report → Bool
alone s r = only_real_time (between s 0 r.start) && only_real_time (between s r.end (length s))

-- The first message is an accepted patch dump: a second one is told; else it is the one, where it stands alone.
abbrev pub by_second : List ℕ → Report → Report → Found
by_second s r next = cond (eqb next.outcome.answer 1) (cond (alone s r) One (Not Outside)) (Not (NotOne next))

-- By the first message.
abbrev pub by_first : List ℕ → Report → Found
by_first s r =
    cond (eqb r.outcome.answer 1) (Not NoPatch)
    (cond (is_patch_dump r.outcome) (by_second s r (walked s r.end)) (Not (NotOne r)))

-- What a file comes to: too long; without a message; with another message than one accepted patch dump, the first such; with other bytes.
unfoldable pub found_in : List ℕ → Found
found_in s = cond (ltb most (length s)) (Not TooLong) (by_first s (walked s 0))

-- Its patch: what reading the record leaves in as many bytes as a patch has.
unfoldable pub patch_in : List ℕ → List ℕ
patch_in s = (reads s 0 (replicate size 0)).lent

-- What is told of such a file, as a line: of a message, its line of the listing.
unfoldable pub sentence : Wrong → List ℕ
sentence TooLong = too_long
sentence NoPatch = ascii "no patch dump\n"
sentence (NotOne r) = ascii "not one accepted patch dump: " ++ line r.start r.end r.outcome r.noise
sentence Outside = ascii "bytes outside the patch dump\n"
