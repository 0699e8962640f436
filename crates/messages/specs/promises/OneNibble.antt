-- One nibble of a dump replaced: by its place and its packed byte before and after, what the dump comes to. The sum misses a packed byte that
-- moved by 128, and no other change.
use Rattle.std.specs.Prelude.{◌≡◌, Bool, ◌||◌, cond, List, ◌↔◌, ◌⊎◌, ℕ, ◌+◌, ◌*◌, ◌/◌, ◌%◌, ◌<◌, eqb, ltb, length, get_or, set}
use Rattle.std.proofs.Math.Option.{some}
use Rattle.answers.specs.declared.Outcome.{Outcome}
use Rattle.answers.specs.Table.{Verdict, refused, first, outcome, outcome_at, answer_of}
use Rattle.answers.specs.promises.Decides.{Silent}
use Rattle.ranges.specs.Ranges.{Table, value_in}
use Rattle.ranges.specs.promises.Tables.{Apart}
use Rattle.fields.specs.Fields.{fields}
use Rattle.splits.specs.Splits.{split_fields}
use Rattle.messages.specs.Kinds.{any_bytes, Dump, of_dump, single_patch, split_patch, master_parameters, edit_buffer, shape_of, size_of, Filed}
use Rattle.messages.specs.Judge.{byte_at, packed_rows, judge}
use Rattle.messages.specs.Layout.{message, record_for, given_rows}
use Rattle.messages.specs.promises.Given.{Given, BytesIn}

-- Data byte i belongs to packed byte i / 2, whose low nibble is sent before its high one: the byte c with y for that nibble.
abbrev pub with_nibble : (i y c : ℕ) → ℕ
with_nibble i y c = cond (eqb (i % 2) 0) (y + 16 * (c / 16)) (c % 16 + 16 * y)

abbrev pub moved_by128 : ℕ → ℕ → Bool
moved_by128 c c' = eqb c' (c + 128) || eqb c (c' + 128)

-- What a dump comes to that was written from the bytes b and the packed bytes p, with y for its data byte i: y above 15 is refused by 9; else the
-- sum is wrong, unless the packed byte moved by 128, and then the packed bytes' own tests decide.
abbrev pub nibble_verdict : Dump → List ℕ → List ℕ → ℕ → ℕ → Verdict
nibble_verdict k b p i y =
    let c = get_or p (i / 2) 0 in
    let c' = with_nibble i y c in
    let p' = set p (i / 2) c' in
    cond (ltb 15 y) (refused (outcome 9 i))
    (cond (moved_by128 c c') (first (packed_rows k.packed p') (record_for (of_dump k) b p'))
    (refused (outcome 10 0)))

-- A dump of a kind as our writer writes it.
pub record AsWritten (k : Dump) (b p : List ℕ) : Type 0 where
  pub given : Given (of_dump k) b p
  pub bytes : BytesIn (of_dump k) p
  pub passes : Silent (given_rows (of_dump k) b p)

-- With another data byte y for its data byte i it comes to v. From 80H on a byte is none: it ends the message, or is real time.
abbrev pub Replaced : Dump → List ℕ → List ℕ → ℕ → ℕ → Verdict → Type 0
Replaced k b p i y v =
    let m = message (of_dump k) b p in
    i < 2 * size_of k.packed → y < 0x80 → (y ≡ byte_at m (5 + i) → ⊥) → judge (set m (5 + i) y) ≡ v

-- Where the packed bytes have a table that sees a byte that moved by 128, every replaced nibble is refused: y for data byte i, of the packed byte c.
abbrev pub nibble_refusal : Table → (i y c : ℕ) → Outcome
nibble_refusal t i y c =
    let c' = with_nibble i y c in
    cond (ltb 15 y) (outcome 9 i)
    (cond (moved_by128 c c') (outcome_at 11 (i / 2) (value_in t (i / 2) c'))
    (outcome 10 0))

abbrev pub RefusedNibble : Dump → Table → Type 0
RefusedNibble k t = (b p : List ℕ) → AsWritten k b p → (i y : ℕ) → Replaced k b p i y (refused (nibble_refusal t i y (get_or p (i / 2) 0)))

-- Where they may have any value, it is accepted: another nibble y for the nibble x, data byte i, exactly when x is a high nibble, which stands
-- behind its low one, and moved by 8.
abbrev pub AcceptedNibble : Dump → Type 0
AcceptedNibble k = (b p : List ℕ) → BytesIn (of_dump k) p → Silent (given_rows (of_dump k) b p) → (i y : ℕ) → i < 2 * size_of k.packed → y < 16
    → let m = message (of_dump k) b p in
    let x = byte_at m (5 + i) in
    (y ≡ x → ⊥) → (answer_of (judge (set m (5 + i) y)) ≡ 0) ↔ ((i % 2 ≡ 1) × ((y ≡ x + 8) ⊎ (x ≡ y + 8)))

pub record OneNibble : Type 0 where
  -- Every kind of dump, exactly; the others follow from it.
  pub every_dump : (k : Dump) → Filed (of_dump k) → (b p : List ℕ) → AsWritten k b p → (i y : ℕ) → Replaced k b p i y (nibble_verdict k b p i y)
  -- Every kind whose packed bytes have a table, a row for each, none of whose ranges has both a byte and the one 128 higher.
  pub with_table : (k : Dump) (t : Table) → Filed (of_dump k) → (shape_of k.packed).table ≡ some t → length t ≡ size_of k.packed → Apart t → RefusedNibble k t
  -- 02 (x): a split. And a patch, in both its dumps.
  pub split : RefusedNibble split_patch split_fields
  pub patch : RefusedNibble single_patch fields
  pub to_edit_buffer : RefusedNibble edit_buffer fields
  -- Every kind whose packed bytes may have any value.
  pub bytes_of_any : (k : Dump) (count : ℕ) → Filed (of_dump k) → k.packed ≡ any_bytes count → AcceptedNibble k
  -- Document 01: in a master, a single nibble replaced by another nibble is accepted exactly when it is a high one moved by 8.
  pub master : AcceptedNibble master_parameters
