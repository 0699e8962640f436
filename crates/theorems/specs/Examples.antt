-- The examples of document 01 that are marked *, as one table about the definitions that the contracts cite; and examples of requests
-- (vi), (x) and (vii).
use Rattle.std.specs.Prelude.{◌≡◌, true, false, List, [], ◌∷◌, ◌++◌, ℕ, get_or, set, replicate}
use Rattle.answers.specs.declared.Outcome.{Outcome}
use Rattle.answers.specs.Lists.{All}
use Rattle.answers.specs.Table.{Verdict, done, refused, outcome, outcome_at}
use Rattle.answers.specs.Effect.{Effect, tested}
use Rattle.answers.specs.code.Numbers.{as_number}
use Rattle.fields.specs.Fields.{size}
use Rattle.fields.specs.Parameters.{range, ranging}
use Rattle.patch.specs.Patch.{patch_rows, held, holding}
use Rattle.splits.specs.Splits.{split_size, split_rows}
use Rattle.names.specs.Names.{naming}
use Rattle.ranges.specs.Values.{plus, minus, value_of}
use Rattle.edits.specs.Edits.{extended, applying, applying_bus}
use Rattle.messages.specs.declared.kinds.Kind.{Kind}
use Rattle.messages.specs.declared.kinds.Kind.TheVariants.{Dump as of_dump, Short as of_short}
use Rattle.messages.specs.Kinds.{single_patch, split_patch, remote_edit, bus_edit, request_data, group_mode, unlock_bank, store_edit_buffer}
use Rattle.messages.specs.Judge.{judge}
use Rattle.messages.specs.Layout.{message_of, message, record_for}
use Rattle.writing.specs.Writing.{writing}
use Rattle.units.specs.declared.Unit.{Unit}
use Rattle.units.specs.Units.{step_by}
use Rattle.units.specs.promises.Followed.{unit_of, stepped}

-- A row: what is computed, and what it comes to.
pub data Example : Type 1 where
  gives : {A : Type 0} (computed result : A) → Example

abbrev pub Computes : Example → Type 0
Computes (gives x y) = x ≡ y

-- n bytes, zero but for the given ones: place and byte of each.
abbrev pub zeros_but : ℕ → List (ℕ × ℕ) → List ℕ
zeros_but n [] = replicate n 0
zeros_but n ((place, byte) ∷ others) = set (zeros_but n others) place byte

-- P is the patch of zeros with byte 76 = 1.
abbrev pub P : List ℕ
P = zeros_but size ((76, 1) ∷ [])

-- An output that just fits a patch dump, no byte of it zero.
abbrev pub room : List ℕ
room = replicate 275 0xFF

abbrev pub effect : Outcome → List ℕ → Effect Outcome
effect o lent = record { result = o; lent = lent }

-- A patch written as number 0, and the sum that is written with it.
abbrev pub as_number_0 : List ℕ → Effect Outcome
as_number_0 p = writing (of_dump single_patch) (0 ∷ []) p room

abbrev pub sum_with : List ℕ → ℕ
sum_with p = get_or (as_number_0 p).lent 273 0

-- `BASS 1` with two spaces behind.
abbrev pub bass : List ℕ
bass = 0x42 ∷ 0x41 ∷ 0x53 ∷ 0x53 ∷ 0x20 ∷ 0x31 ∷ 0x20 ∷ 0x20 ∷ []

-- An edit by its bytes: read, written, and applied to P.
abbrev pub as_read : Kind → List ℕ → Verdict
as_read k b = judge (message k b [])

abbrev pub as_written : Kind → List ℕ → Effect Outcome
as_written k b = writing k b [] room

abbrev pub edit : ℕ → ℕ → List ℕ
edit parameter v = parameter ∷ v ∷ []

abbrev pub bus : ℕ → ℕ → ℕ → ℕ → List ℕ
bus b s a d = b ∷ s ∷ a ∷ d ∷ []

-- The table, in the paper's order. A message that is accepted is read with its own bytes and changes P; one that is refused is refused alike when
-- read, written and applied.
abbrev pub starred : List Example
starred =
    -- P as number 0: place 157 is 01H, the sum at 273 is 01H, place 274 is F7H, all other data zero.
    gives (as_number_0 P)
    (effect (outcome 0 275) (zeros_but 275 ((0, 0xF0) ∷ (1, 0x10) ∷ (2, 0x06) ∷ (3, 0x01) ∷ (157, 0x01) ∷ (273, 0x01) ∷ (274, 0xF7) ∷ []))) ∷
    -- P named `BASS 1` with two spaces behind: bytes 2, 1, 19, 19, 32, 49, 32, 32; sum 3BH.
    gives (naming P bass)
    (effect (outcome 0 0) (zeros_but size ((0, 2) ∷ (1, 1) ∷ (2, 19) ∷ (3, 19) ∷ (4, 32) ∷ (5, 49) ∷ (6, 32) ∷ (7, 32) ∷ (76, 1) ∷ []))) ∷
    gives (sum_with (naming P bass).lent) 0x3B ∷
    -- P with bus 0 set to source 1, amount -1, destination 1: sum 02H.
    gives (sum_with (applying_bus 0 1 0x7F 1 P).lent) 0x02 ∷
    -- Extension: 3FH gives 63, 40H gives -64, 7FH gives -1.
    gives (value_of (extended 0x3F)) (plus 63) ∷
    gives (value_of (extended 0x40)) (minus 64) ∷
    gives (value_of (extended 0x7F)) (minus 1) ∷
    -- 06H 15H 7FH: byte 26 is 127.
    gives (as_read (of_short remote_edit) (edit 0x15 0x7F)) (record_for (of_short remote_edit) (edit 0x15 0x7F) []) ∷
    gives (applying 0x15 0x7F P) (effect (outcome 0 0) (set P 26 127)) ∷
    -- 06H 0CH 60H: byte 19 is E0H. 0CH 5FH: 11 at 19; it would store DFH, -33 (02 (vi)).
    gives (as_read (of_short remote_edit) (edit 0x0C 0x60)) (record_for (of_short remote_edit) (edit 0x0C 0x60) []) ∷
    gives (applying 0x0C 0x60 P) (effect (outcome 0 0) (set P 19 0xE0)) ∷
    gives (as_read (of_short remote_edit) (edit 0x0C 0x5F)) (refused (outcome_at 11 19 (minus 33))) ∷
    gives (as_written (of_short remote_edit) (edit 0x0C 0x5F)) (effect (outcome_at 11 19 (minus 33)) room) ∷
    gives (applying 0x0C 0x5F P) (effect (outcome_at 11 19 (minus 33)) P) ∷
    -- 06H 00H 40H: 11 at 9; it would store C0H, in a field without a sign 192.
    gives (as_read (of_short remote_edit) (edit 0x00 0x40)) (refused (outcome_at 11 9 (plus 192))) ∷
    gives (as_written (of_short remote_edit) (edit 0x00 0x40)) (effect (outcome_at 11 9 (plus 192)) room) ∷
    gives (applying 0x00 0x40 P) (effect (outcome_at 11 9 (plus 192)) P) ∷
    -- Parameter 39: 8, whatever the value.
    gives {A = ℕ → Verdict} (λ (v : ℕ). as_read (of_short remote_edit) (edit 39 v)) (λ (v : ℕ). refused (outcome 8 0)) ∷
    gives {A = ℕ → Effect Outcome} (λ (v : ℕ). as_written (of_short remote_edit) (edit 39 v)) (λ (v : ℕ). effect (outcome 8 0) room) ∷
    gives {A = ℕ → Effect Outcome} (λ (v : ℕ). applying 39 v P) (λ (v : ℕ). effect (outcome 8 0) P) ∷
    -- Bus 9, source 20, amount 40H, destination 31: bytes 131-133 are 14H, C0H, 1FH.
    gives (as_read (of_short bus_edit) (bus 9 20 0x40 31)) (record_for (of_short bus_edit) (bus 9 20 0x40 31) []) ∷
    gives (applying_bus 9 20 0x40 31 P) (effect (outcome 0 0) (zeros_but size ((76, 1) ∷ (131, 0x14) ∷ (132, 0xC0) ∷ (133, 0x1F) ∷ []))) ∷
    -- Bus 0, source 1, destination 0: 12, detail 0.
    gives (as_read (of_short bus_edit) (bus 0 1 0 0)) (refused (outcome 12 0)) ∷
    gives (as_written (of_short bus_edit) (bus 0 1 0 0)) (effect (outcome 12 0) room) ∷
    gives (applying_bus 0 1 0 0 P) (effect (outcome 12 0) P) ∷ []

-- Request (vi): values that were found, by a patch that is tested and by its dump that is read; what is told of parameters; values as numbers.
abbrev pub found_in : ℕ → ℕ → Outcome → List Example
found_in place byte o =
    gives (tested (patch_rows (set P place byte))) o ∷
    gives (judge (message (of_dump single_patch) (0 ∷ []) (set P place byte))) (refused o) ∷ []

abbrev pub found_values : List Example
found_values =
    -- With a sign: detune, an amount, the amount of bus 9.
    found_in 19 0xDF (outcome_at 11 19 (minus 33)) ++
    found_in 86 0x40 (outcome_at 11 86 (plus 64)) ++
    found_in 86 0xBF (outcome_at 11 86 (minus 65)) ++
    found_in 132 0x80 (outcome_at 11 132 (minus 128)) ++
    -- Without: Keyboard Mode, the one field that may not be 0, the source of bus 0.
    found_in 8 0xC8 (outcome_at 11 8 (plus 200)) ++
    found_in 76 0 (outcome_at 11 76 (plus 0)) ++
    found_in 104 0xFF (outcome_at 11 104 (plus 255)) ++
    -- A value comes with 11 alone.
    found_in 104 20 (outcome 12 0) ++
    -- Parameters 12, 1, 33 and 21, and 39, which is none.
    (gives (ranging 12) (range (outcome 0 0) (minus 32) (plus 31)) ∷
    gives (ranging 1) (range (outcome 0 0) (minus 64) (plus 63)) ∷
    gives (ranging 33) (range (outcome 0 0) (plus 1) (plus 20)) ∷
    gives (ranging 21) (range (outcome 0 0) (plus 0) (plus 127)) ∷
    gives (ranging 39) (range (outcome 8 0) (plus 0) (plus 0)) ∷
    gives (holding 1 (applying 1 100 P).lent) (held (outcome 0 0) (minus 28)) ∷
    gives (holding 33 (set P 76 0)) (held (outcome_at 11 76 (plus 0)) (plus 0)) ∷
    -- -33 as a number of 64 bits.
    gives (as_number (minus 33)) 18446744073709551583 ∷ [])

abbrev pub FoundValues : Type 0
FoundValues = All Computes found_values

-- Request (x): S is the split of zeros with a balance of -31, which is the left zone alone.
abbrev pub S : List ℕ
S = zeros_but split_size ((16, 0xE1) ∷ [])

-- G has the greatest value in every field, L the least.
abbrev pub G : List ℕ
G = 63 ∷ 63 ∷ 63 ∷ 63 ∷ 63 ∷ 63 ∷ 63 ∷ 63 ∷ 127 ∷ 127 ∷ 127 ∷ 0x1F ∷ 1 ∷ 127 ∷ 0x1F ∷ 1 ∷ 0x1F ∷ 3 ∷ []

abbrev pub L : List ℕ
L = zeros_but split_size ((11, 0xE0) ∷ (14, 0xE0) ∷ (16, 0xE0) ∷ [])

-- A dump of a split, and an output that just fits it.
abbrev pub split_dump : ℕ → List ℕ → List ℕ
split_dump number p = message (of_dump split_patch) (number ∷ []) p

abbrev pub split_room : List ℕ
split_room = replicate 43 0xFF

abbrev pub as_split : ℕ → List ℕ → Effect Outcome
as_split number p = writing (of_dump split_patch) (number ∷ []) p split_room

-- What writing one answers, lent an output of n bytes.
abbrev pub written_in : ℕ → ℕ → List ℕ → Outcome
written_in n number p = (writing (of_dump split_patch) (number ∷ []) p (replicate n 0xFF)).result

abbrev pub splits : List Example
splits =
    -- S as number 49: places 37 and 38 are 01H and 0EH, the sum at 41 is 61H, place 42 is F7H, all other data zero; read back the same.
    gives (as_split 49 S)
    (effect (outcome 0 43)
    (zeros_but 43 ((0, 0xF0) ∷ (1, 0x10) ∷ (2, 0x06) ∷ (3, 0x02) ∷ (4, 49) ∷ (37, 0x01) ∷ (38, 0x0E) ∷ (41, 0x61) ∷ (42, 0xF7) ∷ []))) ∷
    gives (judge (split_dump 49 S)) (record_for (of_dump split_patch) (49 ∷ []) S) ∷
    -- Number 50: 8.
    gives (as_split 50 S) (effect (outcome 8 0) split_room) ∷
    gives (judge (split_dump 50 S)) (refused (outcome 8 0)) ∷
    -- A balance of -33; MIDI out of the left zone 2, where 0 and 1 are allowed.
    gives (tested (split_rows (set S 16 0xDF))) (outcome_at 11 16 (minus 33)) ∷
    gives (judge (split_dump 0 (set S 12 2))) (refused (outcome_at 11 12 (plus 2))) ∷
    -- The balance's high nibble moved by 8; its low one replaced; a nibble of 16.
    gives (judge (set (split_dump 49 S) 38 0x06)) (refused (outcome_at 11 16 (plus 97))) ∷
    gives (judge (set (split_dump 49 S) 37 0x02)) (refused (outcome 10 0)) ∷
    gives (judge (set (split_dump 49 S) 37 16)) (refused (outcome 9 32)) ∷
    -- G as number 7, whole, and L as number 1, both read back the same.
    gives (as_split 7 G)
    (effect (outcome 0 43)
    (0xF0 ∷ 0x10 ∷ 0x06 ∷ 0x02 ∷ 7 ∷
    15 ∷ 3 ∷ 15 ∷ 3 ∷ 15 ∷ 3 ∷ 15 ∷ 3 ∷ 15 ∷ 3 ∷ 15 ∷ 3 ∷ 15 ∷ 3 ∷ 15 ∷ 3 ∷ 15 ∷ 7 ∷ 15 ∷ 7 ∷
    15 ∷ 7 ∷ 15 ∷ 1 ∷ 1 ∷ 0 ∷ 15 ∷ 7 ∷ 15 ∷ 1 ∷ 1 ∷ 0 ∷ 15 ∷ 1 ∷ 3 ∷ 0 ∷ 0x56 ∷ 0xF7 ∷ [])) ∷
    gives (judge (split_dump 7 G)) (record_for (of_dump split_patch) (7 ∷ []) G) ∷
    gives (judge (split_dump 1 L)) (record_for (of_dump split_patch) (1 ∷ []) L) ∷
    -- 000's dummy split has neither number nor sum: 7. Opcode 05H: 6.
    gives (judge (message_of split_patch.opcode (replicate 36 0))) (refused (outcome 7 0)) ∷
    gives (judge (message_of 0x05 (1 ∷ 0 ∷ []))) (refused (outcome 6 0)) ∷
    -- Several faults at once, mended one after another. Read: a byte too many, number 50, a data byte of 16, a wrong sum, byte 17 is 4.
    gives (judge (message_of 0x02 (50 ∷ (16 ∷ (replicate 33 0 ++ (4 ∷ 0 ∷ 0 ∷ 0 ∷ [])))))) (refused (outcome 7 0)) ∷
    gives (judge (message_of 0x02 (50 ∷ (16 ∷ (replicate 33 0 ++ (4 ∷ 0 ∷ 0 ∷ [])))))) (refused (outcome 8 0)) ∷
    gives (judge (message_of 0x02 (49 ∷ (16 ∷ (replicate 33 0 ++ (4 ∷ 0 ∷ 0 ∷ [])))))) (refused (outcome 9 0)) ∷
    gives (judge (message_of 0x02 (49 ∷ (0 ∷ (replicate 33 0 ++ (4 ∷ 0 ∷ 0 ∷ [])))))) (refused (outcome 10 0)) ∷
    gives (judge (message_of 0x02 (49 ∷ (0 ∷ (replicate 33 0 ++ (4 ∷ 0 ∷ 4 ∷ [])))))) (refused (outcome_at 11 17 (plus 4))) ∷
    -- Written: 17 bytes, number 50, byte 16 is 20H, an output of 42.
    gives (written_in 42 50 (zeros_but 17 ((16, 0x20) ∷ []))) (outcome 7 0) ∷
    gives (written_in 42 50 (zeros_but 18 ((16, 0x20) ∷ []))) (outcome 8 0) ∷
    gives (written_in 42 49 (zeros_but 18 ((16, 0x20) ∷ []))) (outcome_at 11 16 (plus 32)) ∷
    gives (written_in 42 49 (zeros_but 18 ((16, 0x1F) ∷ []))) (outcome 13 0) ∷
    gives (written_in 43 49 (zeros_but 18 ((16, 0x1F) ∷ []))) (outcome 0 43) ∷ []

abbrev pub Splits : Type 0
Splits = All Computes splits

-- Request (vii): a message with these bytes behind its device.
abbrev pub received : List ℕ → Verdict
received b = judge (0xF0 ∷ 0x10 ∷ 0x06 ∷ (b ++ (0xF7 ∷ [])))

abbrev pub not_allowed : Verdict
not_allowed = refused (outcome 8 0)

abbrev pub wrong_length : Verdict
wrong_length = refused (outcome 7 0)

-- An output of eight bytes.
abbrev pub sevens : List ℕ
sevens = replicate 8 0x77

-- A unit in bank 3, locked, in no group; the same as number 4 of one.
abbrev pub alone : Unit
alone = record { bank = 3; locked = true; grouped = false; number = 0 }

abbrev pub fifth : Unit
fifth = record { bank = 3; locked = true; grouped = true; number = 4 }

abbrev pub operations : List Example
operations =
    -- 04H: type 1 has number 0..99, types 0, 3 and 4 have 0; there is no type 2 and no type 5.
    gives (received (0x04 ∷ 1 ∷ 99 ∷ [])) (done 0x04 (1 ∷ 99 ∷ []) []) ∷
    gives (received (0x04 ∷ 1 ∷ 100 ∷ [])) not_allowed ∷
    gives (received (0x04 ∷ 0 ∷ 0 ∷ [])) (done 0x04 (0 ∷ 0 ∷ []) []) ∷
    gives (received (0x04 ∷ 0 ∷ 1 ∷ [])) not_allowed ∷
    gives (received (0x04 ∷ 2 ∷ 0 ∷ [])) not_allowed ∷
    gives (received (0x04 ∷ 3 ∷ 0 ∷ [])) (done 0x04 (3 ∷ 0 ∷ []) []) ∷
    gives (received (0x04 ∷ 4 ∷ 0 ∷ [])) (done 0x04 (4 ∷ 0 ∷ []) []) ∷
    gives (received (0x04 ∷ 4 ∷ 1 ∷ [])) not_allowed ∷
    gives (received (0x04 ∷ 5 ∷ 0 ∷ [])) not_allowed ∷
    -- A byte too few is 7, before 8.
    gives (received (0x04 ∷ 5 ∷ [])) wrong_length ∷
    -- 07H: total 2..6, ID 0..5, each by itself.
    gives (received (0x07 ∷ 6 ∷ 5 ∷ [])) (done 0x07 (6 ∷ 5 ∷ []) []) ∷
    gives (received (0x07 ∷ 2 ∷ 5 ∷ [])) (done 0x07 (2 ∷ 5 ∷ []) []) ∷
    gives (received (0x07 ∷ 1 ∷ 0 ∷ [])) not_allowed ∷
    gives (received (0x07 ∷ 7 ∷ 0 ∷ [])) not_allowed ∷
    gives (received (0x07 ∷ 6 ∷ 6 ∷ [])) not_allowed ∷
    -- 0AH: bank 0..9. 0CH: nothing.
    gives (received (0x0A ∷ 9 ∷ [])) (done 0x0A (9 ∷ []) []) ∷
    gives (received (0x0A ∷ 10 ∷ [])) not_allowed ∷
    gives (received (0x0C ∷ [])) (done 0x0C [] []) ∷
    gives (received (0x0C ∷ 0 ∷ [])) wrong_length ∷
    -- 0EH: number 0..99, bank 0..9, ID 0..5 or 7FH.
    gives (received (0x0E ∷ 99 ∷ 9 ∷ 5 ∷ [])) (done 0x0E (99 ∷ 9 ∷ 5 ∷ []) []) ∷
    gives (received (0x0E ∷ 0 ∷ 0 ∷ 0x7F ∷ [])) (done 0x0E (0 ∷ 0 ∷ 0x7F ∷ []) []) ∷
    gives (received (0x0E ∷ 100 ∷ 9 ∷ 5 ∷ [])) not_allowed ∷
    gives (received (0x0E ∷ 99 ∷ 10 ∷ 5 ∷ [])) not_allowed ∷
    gives (received (0x0E ∷ 99 ∷ 9 ∷ 6 ∷ [])) not_allowed ∷
    gives (received (0x0E ∷ 99 ∷ 9 ∷ 0x7E ∷ [])) not_allowed ∷
    -- Written; refused, the output keeps its bytes.
    gives (writing (of_short group_mode) (3 ∷ 0 ∷ []) [] sevens) (effect (outcome 0 7) (0xF0 ∷ 0x10 ∷ 0x06 ∷ 0x07 ∷ 3 ∷ 0 ∷ 0xF7 ∷ 0x77 ∷ [])) ∷
    gives (writing (of_short unlock_bank) [] [] sevens) (effect (outcome 0 5) (0xF0 ∷ 0x10 ∷ 0x06 ∷ 0x0C ∷ 0xF7 ∷ 0x77 ∷ 0x77 ∷ 0x77 ∷ [])) ∷
    gives (writing (of_short store_edit_buffer) (7 ∷ 2 ∷ 6 ∷ []) [] sevens) (effect (outcome 8 0) sevens) ∷
    gives (writing (of_short request_data) (1 ∷ 0 ∷ []) [] (replicate 6 0x77)) (effect (outcome 13 0) (replicate 6 0x77)) ∷
    -- A unit: setting its bank does not change its group, nor the group its bank; the group message goes on; a store message for number 4.
    gives (step_by fifth (done 0x0A (8 ∷ []) [])) (stepped (unit_of 8 true true 4) [] false) ∷
    gives (step_by fifth (done 0x0C [] [])) (stepped (unit_of 3 false true 4) [] false) ∷
    gives (step_by alone (done 0x07 (6 ∷ 4 ∷ []) [])) (stepped fifth (0xF0 ∷ 0x10 ∷ 0x06 ∷ 0x07 ∷ 6 ∷ 5 ∷ 0xF7 ∷ []) false) ∷
    gives (step_by alone (done 0x07 (6 ∷ 5 ∷ []) [])) (stepped (unit_of 3 true true 5) [] false) ∷
    gives (step_by fifth (done 0x0E (7 ∷ 2 ∷ 4 ∷ []) [])) (stepped fifth [] true) ∷
    gives (step_by fifth (done 0x0E (7 ∷ 2 ∷ 0 ∷ []) [])) (stepped fifth [] false) ∷
    gives (step_by alone (done 0x0E (7 ∷ 2 ∷ 0 ∷ []) [])) (stepped alone [] true) ∷
    gives (step_by alone (done 0x0E (7 ∷ 2 ∷ 0x7F ∷ []) [])) (stepped alone [] false) ∷ []

abbrev pub Operations : Type 0
Operations = All Computes operations

-- Every row holds.
abbrev pub Starred : Type 0
Starred = All Computes starred
