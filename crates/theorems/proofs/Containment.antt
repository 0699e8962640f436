-- Bytes between F0H and F7H that leave the scan outside cut the reports of a stream in three: those before, those of these bytes, those behind.
-- The first part depends on the bytes before alone, the last on the bytes behind alone; with no accepted message in the middle, that is demand 3's record.
use mathlib.Core.Path.{◌≡◌, sym, ap, ◌∙◌}
use mathlib.Core.List.{List, [], ◌∷◌, ◌++◌, map, append_assoc}
use Prim.Native.Nat.{ℕ, suc, ◌+◌, ◌-◌, ◌≤◌, ◌<◌}
use native.Mathlib.Nat.{zero-add}
use native.Mathlib.Omega.{arith}
use lib.Dec.{leb}
use lib.ListN.{length, length-append}
use Rattle.answers.specs.Lists.{All}
use Rattle.answers.specs.Table.{Verdict}
use Rattle.answers.proofs.Lists.{all_weaken}
use Rattle.streams.specs.Bytes.{framed}
use Rattle.streams.specs.Stream.{Report, report, reports}
use Rattle.streams.specs.code.Scan.{outside, inside, scan}
use Rattle.streams.proofs.Scan.{DataByte, after, emitted, ahead, scan_split, scan_exclusive}
use Rattle.streams.proofs.Closing.{scan_close, emitted_within}
use Rattle.streams.proofs.Walk.{reports_scan, scan_order}
use Rattle.streams.proofs.Order.{order_from, ahead_before}
use Rattle.messages.specs.Judge.{judge}
use Rattle.theorems.specs.Damage.{counted_back, reading_back, readings, stream, reports_before, reports_of_dump, reports_after, Contained}
use Rattle.theorems.proofs.Parts.{Parted, parted}
use Rattle.theorems.proofs.Readings.{reading_of, readings_back, Refused, readings_refused, readings_kept, scan_back}

-- Between the bytes before and behind, the bytes d give the reports m, and leave the scan outside.
pub record Laid (before d behind : List ℕ) (m : List Report) : Type 0 where
  pub some_bytes : 1 ≤ length d
  pub whole : reports judge (stream before d behind) ≡ ahead judge 0 outside before ++ (m ++ scan judge (length before + length d) outside behind)
  pub placed : All (λ r. (length before ≤ r.start) × (r.start < length before + length d - 1)) m

-- The bytes w behind an F0H, where the scan gives the reports m of them and is then outside.
laid_by : (before w behind : List ℕ) (m : List Report)
    → scan judge (suc (length before)) (inside (length before) [] 0) (w ++ behind) ≡ m ++ scan judge (suc (length before) + length w) outside behind
    → All (λ r. (length before ≤ r.start) × (suc r.start < suc (length before) + length w)) m → Laid before (0xF0 ∷ w) behind m
laid_by before w behind m e a =
    let last : suc (length before) + length w ≡ length before + suc (length w) = omega arith in
    record {
      some_bytes = omega arith;
      whole =
          rw (
            reports_scan judge (stream before (0xF0 ∷ w) behind),
            scan_exclusive judge before 0 outside (w ++ behind),
            zero-add (length before),
            e,
            last,
          );
      placed = all_weaken _ _ (λ r h. omega arith) m a;
    }

-- What such bytes complete.
abbrev pub found : List ℕ → List ℕ → List Report
found before w = emitted judge (suc (length before)) (inside (length before) [] 0) w

pub lay : (before w behind : List ℕ) → after (suc (length before)) (inside (length before) [] 0) w ≡ outside → Laid before (0xF0 ∷ w) behind (found before w)
lay before w behind e =
    let f = length before in
    laid_by before w behind (found before w) (rw (scan_split judge w (suc f) (inside f [] 0) behind, e))
    (emitted_within judge w f (suc f) (inside f [] 0) (omega arith))

-- Data bytes between F0H and F7H give one report.
pub one_message : (before c behind : List ℕ) → All DataByte c
    → Laid before (framed c) behind (report (length before) (length before + length (framed c)) (judge (framed c)) 0 ∷ [])
one_message before c behind a =
    let f = length before in
    let size = length-append c (0xF7 ∷ []) in
    let end : suc (suc f + length c) ≡ f + length (framed c) = omega arith in
    let last : suc f + length (c ++ (0xF7 ∷ [])) ≡ f + length (framed c) = omega arith in
    laid_by before (c ++ (0xF7 ∷ [])) behind (report f (f + length (framed c)) (judge (framed c)) 0 ∷ [])
    (rw (append_assoc c (0xF7 ∷ []) behind, scan_close judge c a (suc f) f 0 [] behind, end, last)) ((omega arith, omega arith), tt)

module _ (before d behind : List ℕ) (m : List Report) (laid : Laid before d behind m) where
  -- The three parts of the stream's reports.
  pub parts : Parted (length before) (length before + length d - 1) (length before + length d) (reports judge (stream before d behind))
      (ahead judge 0 outside before) m (scan judge (length before + length d) outside behind)
  parts =
      let end = length before + length d in
      rw laid.whole
      (parted (length before) (end - 1) end (omega (arith, laid.some_bytes)) (omega arith) (ahead judge 0 outside before) m (scan judge end outside behind)
      (ahead_before judge before) laid.placed (order_from (scan judge end outside behind) end end _ (omega arith) (scan_order judge behind end)))

  pub whole_parts : reports judge (stream before d behind) ≡ reports_before before d behind ++ (reports_of_dump before d behind ++ reports_after before d behind)
  whole_parts = rw (parts.before, parts.within, parts.behind) laid.whole

  -- Counted back, the reports after depend on the bytes behind alone.
  after_back : map (counted_back (length (stream before d behind))) (reports_after before d behind)
      ≡ map (counted_back (length behind)) (scan judge 0 outside behind)
  after_back =
      rw parts.behind
      (scan_back (length (stream before d behind)) (length before + length d) behind
      (omega (arith, length-append before (d ++ behind), length-append d behind)))

  -- Readings of the reports after, counted back.
  read_back : (lent : List ℕ) → map (reading_back (length (stream before d behind))) (readings (stream before d behind) lent (reports_after before d behind))
      ≡ map (reading_of lent) (map (counted_back (length behind)) (scan judge 0 outside behind))
  read_back lent =
      let s = stream before d behind in
      ap (map (reading_back (length s))) (readings_kept s lent (λ r. leb (length before + length d) r.start))
      ∙ readings_back (length s) lent (reports_after before d behind)
      ∙ ap (map (reading_of lent)) after_back

-- The dump d with one report, and in its place e whose reports are all refused.
pub contained : (before d e behind : List ℕ) (v : Verdict) (m : List Report) → Laid before d behind (report (length before) (length before + length d) v 0 ∷ [])
    → Laid before e behind m → All (λ r. Refused r.verdict) m → Contained before d e behind v
contained before d e behind v m ld le a =
    let one = report (length before) (length before + length d) v 0 ∷ [] in
    let pd = parts before d behind one ld in
    let pe = parts before e behind m le in
    let same = pe.before ∙ sym pd.before in
    record {
      whole = whole_parts before d behind one ld;
      whole_damaged = whole_parts before e behind m le;
      same_before = same;
      same_after = after_back before e behind m le ∙ sym (after_back before d behind one ld);
      accepted = pd.within;
      refused = rw pe.within (all_weaken _ _ (λ r h. h.0) m a);
      read_before = λ lent.
          readings_kept (stream before e behind) lent _ ∙ ap (map (reading_of lent)) same ∙ sym (readings_kept (stream before d behind) lent _);
      read_after = λ lent. read_back before e behind m le lent ∙ sym (read_back before d behind one ld lent);
      read_damaged = λ lent. rw (readings_kept (stream before e behind) lent, pe.within) (readings_refused lent m a);
    }
