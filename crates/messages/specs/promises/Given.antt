-- What a writer can be given, for what is said of every kind.
use Rattle.std.specs.Prelude.{◌≡◌, List, [], ℕ, ◌<◌, length}
use Rattle.std.proofs.Math.Option.{Option, none, some}
use Rattle.answers.specs.Lists.{All}
use Rattle.ranges.specs.Ranges.{Table}
use Rattle.messages.specs.Kinds.{Behind, number_to, always, Kind, of_dump, of_short, unknown, shape_of}

-- What a writer can be given: one number for a kind that has numbers, none for another dump; no packed bytes for a short message.
abbrev pub Numbered : Behind → List ℕ → Type 0
Numbered (number_to greatest) b = length b ≡ 1
Numbered (always byte) b = b ≡ []

abbrev pub Given : Kind → List ℕ → List ℕ → Type 0
Given (of_dump k) b p = Numbered k.behind b
Given (of_short k) b p = p ≡ []
Given unknown b p = ⊥

-- Packed bytes without a table are bytes, and no test says so.
abbrev pub AllBytes : Option Table → List ℕ → Type 0
AllBytes none p = All (λ b. b < 256) p
AllBytes (some t) p = Unit {0}

abbrev pub BytesIn : Kind → List ℕ → Type 0
BytesIn (of_dump k) p = AllBytes (shape_of k.packed).table p
BytesIn (of_short k) p = Unit {0}
BytesIn unknown p = Unit {0}
