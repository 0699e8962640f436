-- What the parts of a call leave: bytes kept in lent room, the record of a message that grows or has ended, and its report.
use Rattle.std.specs.Prelude.{◌≡◌, false, true, cond, List, [], ℕ, ◌%◌, ◌++◌, eqb, length, take}
use Rattle.answers.specs.declared.Outcome.{Outcome}
use Rattle.answers.specs.Table.{four}
use Rattle.answers.specs.Effect.{at_start}
use Rattle.streams.specs.Bytes.{without_real_time}
use Rattle.messages.specs.Kinds.{kind_of}
use Rattle.messages.specs.code.Sizes.{packed_size}
use Rattle.judging.specs.code.Judged.{Judged}
use Rattle.reading.specs.code.Told.{report_as}
use Rattle.cable.specs.declared.Cable.{Cable}
use Rattle.cable.specs.declared.Fed.{Fed}
use Rattle.cable.specs.declared.Step.{Step}
use Rattle.cable.specs.Cable.{room}

-- The bytes w stand at the start of a lent buffer, as many as fit, and n is how many these are.
pub record Kept (w old new : List ℕ) (n : ℕ) : Type 0 where
  pub count : n ≡ length (take (length old) w)
  pub bytes : new ≡ at_start (take (length old) w) old

-- How many packed bytes come with an outcome: with 0, by the opcode that is its detail.
abbrev pub size_told : Outcome → ℕ
size_told o = cond (eqb o.answer 0) (packed_size (kind_of (o.detail % 256))) 0

-- A record in whose room the bytes w stand, as many as fit, over what was there.
abbrev pub keeping : Cable → List ℕ → Cable
keeping c w = let b = take room w in record c { bytes = at_start b c.bytes; count = length b }

-- A record of a message with the bytes t more of it.
abbrev pub grown : Cable → List ℕ → Cable
grown c t = keeping c (take c.count c.bytes ++ without_real_time t)

-- What a call tells with which no message ended: a place, an outcome, and how many bytes it took.
abbrev pub unreported : ℕ → Outcome → ℕ → Fed
unreported place o n = record { reading = record { report = report_as place place o 0; bytes = four [] }; taken = n; ended = false }

-- What a call tells that took n bytes and with them the end e of a message from place f on, with k real time in it, that comes to j.
abbrev pub reported : Judged → ℕ → ℕ → ℕ → ℕ → Fed
reported j f e k n = record { reading = record { report = report_as f e j.outcome k; bytes = j.bytes }; taken = n; ended = true }

-- A record whose message has come to j at place e, its packed bytes in the room b.
abbrev pub closed_at : List ℕ → Judged → ℕ → Cable
closed_at b j e = record { bytes = b; inside = false; over = false; count = size_told j.outcome; start = 0; noise = 0; taken = e }

-- What a call that took n bytes leaves and tells of a record whose message has come to j at place e, its packed bytes in the room.
abbrev pub closing : Cable → Judged → ℕ → ℕ → Step
closing c j e n = record { state = closed_at c.bytes j e; fed = reported j c.start e c.noise n }
