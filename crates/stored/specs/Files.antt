-- Document 02 (ii): from one form to the other. The first refusal in 02's order, else the other form, written into a lent output.
use Rattle.std.specs.Prelude.{Bool, cond, ◌&&◌, ◌||◌, List, [], ◌∷◌, ◌++◌, ℕ, zero, suc, ◌+◌, ◌*◌, eqb, leb, length, get_or, take, drop}
use Rattle.std.proofs.Math.Option.{Option, none, some}
use Rattle.answers.specs.declared.Placed.{Placed}
use Rattle.answers.specs.Table.{Row, Verdict, done, refused, first, outcome, outcome_of, answer_of}
use Rattle.answers.specs.Effect.{Effect, told_as, written, placed, no_place, or_later, unless_placed}
use Rattle.streams.specs.Stream.{Report, reports}
use Rattle.fields.specs.Fields.{size}
use Rattle.messages.specs.Kinds.{master, single_patch, master_parameters}
use Rattle.messages.specs.Judge.{judge}
use Rattle.messages.specs.Layout.{given_rows}
use Rattle.stored.specs.Records.{Record, of_patch, of_master, kind_for, number_for, packed_for, stored, of_unit, old_file, new_file}
use Rattle.stored.specs.Records.{patches_most, patches_at, master_at, total_of}

-- 'The first message refused by 2, 3 or 7 to 12 keeps its number.'
abbrev pub keeps : ℕ → Bool
keeps answer = eqb answer 2 || (eqb answer 3 || (leb 7 answer && leb answer 12))

-- 'A kept number keeps its detail, with the start of that message as place.'
unfoldable pub first_kept : List Report → Option Placed
first_kept [] = none
first_kept (r ∷ rs) = cond (keeps (answer_of r.verdict)) (some (placed (outcome_of r.verdict) r.start)) (first_kept rs)

-- The record of an accepted 01H or 03H dump; any other message has none here.
abbrev pub record_in : Verdict → Option Record
record_in (done o b p) =
    cond (eqb o single_patch.opcode) (some (of_patch (get_or b 0 0) p))
    (cond (eqb o master_parameters.opcode) (some (of_master p)) none)
record_in (refused o) = none

abbrev pub and_those : Option Record → Option (List Record) → Option (List Record)
and_those none rs = none
and_those (some r) none = none
and_those (some r) (some rs) = some (r ∷ rs)

-- The records of messages that stand one after another from place p to the end e of a file: no byte before, between or behind them.
unfoldable pub records_from : ℕ → ℕ → List Report → Option (List Record)
records_from p e [] = cond (eqb p e) (some []) none
records_from p e (r ∷ rs) = cond (eqb r.start p) (and_those (record_in r.verdict) (records_from r.end e rs)) none

abbrev pub if_unit : Option (List Record) → Option (List Record)
if_unit none = none
if_unit (some rs) = cond (of_unit rs) (some rs) none

-- The records of an old file, where it is of the form.
unfoldable pub old_records : List ℕ → Option (List Record)
old_records s = if_unit (records_from 0 (length s) (reports judge s))

-- '15 for anything else not of the form': bytes b that are written only where there are records.
abbrev pub or_other : Option (List Record) → List ℕ → (List Record → Effect Placed) → Effect Placed
or_other none out filed = record { result = no_place (outcome 15 0); lent = out }
or_other (some rs) out filed = filed rs

-- '13 is last. For the rest the place is 0; when done, detail is the bytes written.'
abbrev pub filing : List ℕ → List ℕ → Effect Placed
filing bytes out = told_as no_place (written [] bytes out)

-- From old to new: a kept number, 15, 13.
unfoldable pub to_stored : List ℕ → List ℕ → Effect Placed
to_stored s out = unless_placed (first_kept (reports judge s)) out (or_other (old_records s) out (λ rs. filing (new_file rs) out))

-- The k-th of the numbers that a new file opens with.
abbrev pub number_at : List ℕ → ℕ → ℕ
number_at t k = get_or t (2 * k) 0 + 256 * get_or t (2 * k + 1) 0

-- Each of them is what it has to be, and so is the file's length.
unfoldable pub headed : List ℕ → Bool
headed t =
    let n = number_at t 0 in
    let m = number_at t 2 in
    leb n patches_most
    && (eqb (number_at t 1) patches_at
    && (leb m 1
    && (eqb (number_at t 3) (master_at n)
    && (eqb (number_at t 4) (total_of n m)
    && eqb (length t) (total_of n m)))))

-- Its records: n patches from the bytes t on, and m masters.
unfoldable pub patches_from : ℕ → List ℕ → List Record
patches_from zero t = []
patches_from (suc n) t = of_patch (get_or t 0 0) (take size (drop 1 t)) ∷ patches_from n (drop (suc size) t)

unfoldable pub masters_from : ℕ → List ℕ → List Record
masters_from zero t = []
masters_from (suc m) t = of_master (take master t) ∷ masters_from m (drop master t)

abbrev pub records_of : ℕ → ℕ → List ℕ → List Record
records_of n m t = patches_from n (drop patches_at t) ++ masters_from m (drop (master_at n) t)

-- 'A new file with a bad header or length is 15 before any record is looked at.'
unfoldable pub new_records : List ℕ → Option (List Record)
new_records t = cond (headed t) (some (records_of (number_at t 0) (number_at t 2) t)) none

-- What the writer of a record's dump tests: its length, its number, its own 11 and 12.
abbrev pub rows_for : Record → List Row
rows_for r = given_rows (kind_for r) (number_for r) (packed_for r)

-- 'The first bad record keeps its number', with its start as place; the first of the records starts at place p.
unfoldable pub first_bad : ℕ → List Record → Option Placed
first_bad p [] = none
first_bad p (r ∷ rs) = or_later p (first (rows_for r) (done 0 [] [])) (first_bad (p + length (stored r)) rs)

-- From new to old: 15, the first bad record, 13.
unfoldable pub from_stored : List ℕ → List ℕ → Effect Placed
from_stored t out = or_other (new_records t) out (λ rs. unless_placed (first_bad patches_at rs) out (filing (old_file rs) out))
