-- Document 02 (x): what the listing shows of a dump with one nibble replaced. It is one line, from the dump's F0H to behind its F7H.
use Rattle.std.specs.Prelude.{◌≡◌, List, ℕ, ◌+◌, ◌*◌, ◌/◌, ◌<◌, get_or, set}
use Rattle.answers.specs.Table.{Verdict, refused}
use Rattle.splits.specs.Splits.{split_fields}
use Rattle.messages.specs.declared.kinds.Dump.{Dump}
use Rattle.messages.specs.declared.kinds.Kind.TheVariants.{Dump as of_dump}
use Rattle.messages.specs.Kinds.{split_patch, size_of, Filed}
use Rattle.messages.specs.Judge.{byte_at}
use Rattle.messages.specs.Layout.{message}
use Rattle.messages.specs.promises.OneNibble.{nibble_verdict, nibble_refusal, AsWritten}
use Rattle.theorems.specs.Slipped.{OneLine}

-- A dump as our writer writes it, between any bytes, with another data byte y for its data byte i: it has one report, and comes to v.
abbrev pub Replaced : Dump → List ℕ → List ℕ → ℕ → ℕ → Verdict → Type 0
Replaced k b p i y v =
    let m = message (of_dump k) b p in
    i < 2 * size_of k.packed → y < 0x80 → (y ≡ byte_at m (5 + i) → ⊥) → (before behind : List ℕ) → OneLine before m (set m (5 + i) y) behind v

pub record NibbleShown : Type 0 where
  -- Every kind of dump.
  pub every_dump : (k : Dump) → Filed (of_dump k) → (b p : List ℕ) → AsWritten k b p → (i y : ℕ) → Replaced k b p i y (nibble_verdict k b p i y)
  -- A split: always a refusal.
  pub split : (b p : List ℕ) → AsWritten split_patch b p → (i y : ℕ) → Replaced split_patch b p i y (refused (nibble_refusal split_fields i y (get_or p (i / 2) 0)))
