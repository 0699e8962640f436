-- Each of a unit's two files is made from the other, nothing else is accepted, and made again it is the same file.
-- What is accepted is a unit's file, and a unit's file is read as its records: the rest is the room of the output.
use mathlib.Core.Path.{◌≡◌, refl, sym, ap, ◌∙◌}
use mathlib.Core.List.{List, []}
use mathlib.Core.Option.{Option, none, some, some-injective}
use Prim.Native.Nat.{ℕ, ◌≤◌, ◌<◌}
use native.Mathlib.Omega.{arith}
use lib.ListN.{length, drop}
use lib.Seq.{take-append_seam}
use Rattle.answers.specs.declared.Placed.{Placed}
use Rattle.answers.specs.Lists.{All}
use Rattle.answers.specs.Effect.{Effect, told_as, no_place, unless_placed}
use Rattle.answers.proofs.Effects.{written_fits, written_done}
use Rattle.streams.specs.Bytes.{without_real_time, real_time_in}
use Rattle.streams.specs.Stream.{reports}
use Rattle.streams.proofs.Noise.{all_kept}
use Rattle.messages.specs.Judge.{judge}
use Rattle.stored.specs.Records.{Record, patches_at, old_file, new_file}
use Rattle.stored.specs.Files.{first_kept, old_records, or_other, filing, to_stored, new_records, first_bad, from_stored}
use Rattle.stored.specs.promises.BothWays.{IsUnit, putting, Done, sent, OldFile, NewFile, BothWays}
use Rattle.stored.proofs.Lengths.{old_most, new_most}
use Rattle.stored.proofs.Old.{old_kept, records_of_old, old_read, kept_not_zero}
use Rattle.stored.proofs.New.{records_of_new, none_bad, bad_not_zero, new_read}

-- A file that is left to its room is written where it fits.
fits : (bytes out : List ℕ) → length bytes ≤ length out → filing bytes out ≡ putting bytes out
fits bytes out h = ap (told_as no_place) (written_fits [] bytes out tt h)

-- Where it is done it fitted.
fitted : (bytes out : List ℕ) → Done (filing bytes out) → filing bytes out ≡ putting bytes out
fitted bytes out z = fits bytes out (written_done [] bytes out tt z).1

-- A unit's old file has no message that is refused, and its records are the unit's.
stores : (rs : List Record) (out : List ℕ) → IsUnit rs → length (new_file rs) ≤ length out → to_stored (old_file rs) out ≡ putting (new_file rs) out
unfolding to_stored
stores rs out u h = rw (old_kept rs u, records_of_old rs u) (fits (new_file rs) out h)

-- A unit's new file is headed as it has to be, and no record of it is bad.
restores : (rs : List Record) (out : List ℕ) → IsUnit rs → length (old_file rs) ≤ length out → from_stored (new_file rs) out ≡ putting (old_file rs) out
unfolding from_stored
restores rs out u h = rw (records_of_new rs u, none_bad rs patches_at u.good) (fits (old_file rs) out h)

-- An old file that is accepted has no refusal that is kept, is read as a unit's records, and has room.
old_accepted : (s out : List ℕ) → Done (to_stored s out) → OldFile s out
unfolding to_stored
old_accepted s out z = go (first_kept (reports judge s)) (old_records s) refl refl z
  where
    go : (k : Option Placed) (o : Option (List Record)) → first_kept (reports judge s) ≡ k → old_records s ≡ o
        → Done (unless_placed k out (or_other o out (λ rs. filing (new_file rs) out))) → OldFile s out
    go (some k) o q e z = absurd (kept_not_zero (reports judge s) k q z)
    go none none q e z = absurd (omega arith)
    go none (some rs) q e z =
        let r = old_read s rs e in
        record { records = rs; unit = r.1; same = r.0; written = rw (q, e) (fitted (new_file rs) out z) }

-- A new file that is accepted is read as records none of which is bad, and has room.
new_accepted : (t out : List ℕ) → All (λ b. b < 256) t → Done (from_stored t out) → NewFile t out
unfolding from_stored
new_accepted t out bytes z = by_records (new_records t) refl z
  where
    by_bad : (rs : List Record) → new_records t ≡ some rs → (k : Option Placed) → first_bad patches_at rs ≡ k
        → Done (unless_placed k out (filing (old_file rs) out)) → NewFile t out
    by_bad rs e (some k) q z = absurd (bad_not_zero rs patches_at k q z)
    by_bad rs e none q z =
        let r = new_read t rs bytes e q in
        record { records = rs; unit = r.1; same = r.0; written = rw (e, q) (fitted (old_file rs) out z) }

    by_records : (o : Option (List Record)) → new_records t ≡ o
        → Done (or_other o out (λ rs. unless_placed (first_bad patches_at rs) out (filing (old_file rs) out))) → NewFile t out
    by_records none e z = absurd (omega arith)
    by_records (some rs) e z = by_bad rs e (first_bad patches_at rs) refl z

-- What was put is what was sent.
put_sent : (e : Effect Placed) (bytes out : List ℕ) → e ≡ putting bytes out → sent e ≡ bytes
put_sent e bytes out q = ap sent q ∙ take-append_seam bytes (drop (length bytes) out)

-- Old to new to old: what was sent is the new file of the same records, and their old file is the first less its real time.
old_new_old : (s out back : List ℕ) → Done (to_stored s out) → length (without_real_time s) ≤ length back
    → from_stored (sent (to_stored s out)) back ≡ putting (without_real_time s) back
old_new_old s out back z room =
    let f = old_accepted s out z in
    rw (put_sent (to_stored s out) (new_file f.records) out f.written, f.same) (restores f.records back f.unit (rw f.same at room))

-- Without real time nothing is less.
as_written : (s out back : List ℕ) → Done (to_stored s out) → real_time_in s ≡ 0 → length s ≤ length back
    → from_stored (sent (to_stored s out)) back ≡ putting s back
as_written s out back z quiet room =
    let same = all_kept s quiet in
    old_new_old s out back z (rw same room) ∙ rw same

-- New to old to new: what was sent is the old file of the same records.
new_old_new : (t out back : List ℕ) → All (λ b. b < 256) t → Done (from_stored t out) → length t ≤ length back
    → to_stored (sent (from_stored t out)) back ≡ putting t back
new_old_new t out back bytes z room =
    let f = new_accepted t out bytes z in
    ap (λ (s : List ℕ). to_stored s back) (put_sent (from_stored t out) (old_file f.records) out f.written)
    ∙ stores f.records back f.unit (rw f.same at room) ∙ ap (λ (s : List ℕ). putting s back) (sym f.same)

-- Both ways, whole: each file is read as one list of records, so a file tells them.
pub both_ways : BothWays
both_ways = record {
  stores = stores;
  restores = restores;
  old_accepted = old_accepted;
  new_accepted = new_accepted;
  old_new_old = old_new_old;
  as_written = as_written;
  new_old_new = new_old_new;
  old_tells = λ rs qs u v e. some-injective rs qs (sym (records_of_old rs u) ∙ ap old_records e ∙ records_of_old qs v);
  new_tells = λ rs qs u v e. some-injective rs qs (sym (records_of_new rs u) ∙ ap new_records e ∙ records_of_new qs v);
  old_most = old_most;
  new_most = new_most;
}
