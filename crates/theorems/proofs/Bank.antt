-- A written bank, read with any bytes before and behind it, gives its patches in order with their numbers and nothing else: the scan reports a dump and
-- goes on behind it, and no patch of a bank that is written is bad. Its first F0H starts a message in every state; an empty bank is no byte at all.
use mathlib.Core.Path.{◌≡◌, refl, sym, ap, ◌∙◌, subst}
use mathlib.Core.Bool.{Bool, true, false, not, ◌||◌}
use mathlib.Core.List.{List, [], ◌∷◌, ◌++◌, append_assoc}
use mathlib.Core.Option.{Option, none, some}
use Prim.Native.Nat.{ℕ, zero, suc, ◌+◌, ◌-◌, ◌*◌, ◌/◌, ◌%◌, ◌≤◌, ◌<◌}
use native.Mathlib.Nat.{zero-add}
use native.Mathlib.Numerals.{add-one}
use native.Mathlib.Decide.{dec_le}
use native.Mathlib.Omega.{arith}
use lib.Dec.{eqb, leb, ltb}
use lib.ListN.{length, take, drop}
use lib.Seq.{take-append_seam, drop-drop}
use borrow.Author.Tests.{eq-eqb, eqb-true, le-ltb, lt-ltb, ltb-false, le-leb, lt-leb}
use Rattle.answers.specs.Lists.{All}
use Rattle.answers.specs.Table.{Verdict, done, refused, first}
use Rattle.answers.specs.Effect.{written, or_later}
use Rattle.answers.specs.code.Found.{found_or}
use Rattle.answers.proofs.Lists.{all_weaken}
use Rattle.answers.proofs.Rows.{done_passed}
use Rattle.answers.specs.promises.Decides.{Silent}
use Rattle.streams.specs.Stream.{Report, report, reports}
use Rattle.streams.specs.code.Scan.{outside, inside, scan}
use Rattle.streams.specs.promises.Order.{InOrder}
use Rattle.streams.proofs.Scan.{ahead, scan_exclusive, scan_outside}
use Rattle.streams.proofs.Walk.{reports_scan, reports_order}
use Rattle.streams.proofs.Order.{order_from}
use Rattle.streams.proofs.Complete.{data_bytes, scan_framed}
use Rattle.patch.specs.Patch.{field_rows}
use Rattle.messages.specs.declared.kinds.Kind.{Kind}
use Rattle.messages.specs.declared.kinds.Kind.TheVariants.{Dump as of_dump}
use Rattle.messages.specs.Kinds.{single_patch, Filed as FiledKind, kind_of}
use Rattle.messages.specs.Judge.{judge}
use Rattle.messages.specs.Layout.{dump, message, given_rows}
use Rattle.messages.proofs.Written.{Sound, sound, sound_holds}
use Rattle.answers.specs.declared.Placed.{Placed}
use Rattle.writing.specs.Writing.{writing_bank, bank_from, first_bad, unless_bad}
use Rattle.writing.proofs.Laws.{length_patch, length_patch_dump, length_bank, bank_is_tested, none_bad}
use Rattle.theorems.specs.Damage.{start_before, start_from, stream, reports_before, reports_after}
use Rattle.theorems.specs.RoundTrips.{report_for, bank_reports, bank_sent, BankReadBack}
use Rattle.theorems.proofs.Parts.{keep_all, keep_none}
use Rattle.theorems.proofs.Containment.{Laid, parts, whole_parts}

-- A message that is sound is reported with its record, and the scan goes on behind it.
sound_scanned : (k : Kind) (b p : List ℕ) → Sound k b p → (place : ℕ) (behind : List ℕ) → scan judge place outside (message k b p ++ behind)
    ≡ report_for k b p place ∷ scan judge (place + length (message k b p)) outside behind
sound_scanned k b p s place behind =
    sound_holds k b p (λ m v. scan judge place outside (m ++ behind) ≡ report place (place + length m) v 0 ∷ scan judge (place + length m) outside behind)
    (λ c a. scan_framed judge place c behind (data_bytes c a)) s

-- Where no patch is bad, the first passes its tests, and none of the others is bad.
none_bad_split : (n k : ℕ) (ps : List ℕ) → first_bad (suc n) k ps ≡ none → Silent (field_rows (take 134 ps)) × (first_bad n (suc k) (drop 134 ps) ≡ none)
unfolding first_bad
none_bad_split n k ps e = go (first (field_rows (take 134 ps)) (done 0 [] [])) refl e
  where
    go : (v : Verdict) → first (field_rows (take 134 ps)) (done 0 [] []) ≡ v → or_later k v (first_bad n (suc k) (drop 134 ps)) ≡ none
        → Silent (field_rows (take 134 ps)) × (first_bad n (suc k) (drop 134 ps) ≡ none)
    go (done o b p) q e = ((done_passed (field_rows (take 134 ps)) (done 0 [] []) o b p q).0, e)
    go (refused r) q e = let z : ◌≡◌ {A = ℕ} 0 1 = cc in absurd (omega arith)

filed_single : FiledKind (of_dump single_patch)
unfolding kind_of
filed_single = refl

-- The scan of n patches of a bank from number k on, and of what stands behind them.
scan_bank : (place n k : ℕ) (ps behind : List ℕ) → k + n ≤ 100 → (k + n) * 134 ≤ length ps → first_bad n k (drop (k * 134) ps) ≡ none
    → scan judge (place + k * 275) outside (bank_from n k (drop (k * 134) ps) ++ behind)
    ≡ bank_reports place n k ps ++ scan judge (place + (k + n) * 275) outside behind
unfolding bank_from
scan_bank place zero k ps behind few long e = let end : k + 0 ≡ k = omega arith in rw end
scan_bank place (suc n) k ps behind few long e =
    let p = take 134 (drop (k * 134) ps) in
    let good = none_bad_split n k (drop (k * 134) ps) e in
    let l : length p ≡ 134 = length_patch ps k (omega arith) in
    let passes : Silent (given_rows (of_dump single_patch) (k ∷ []) p) = (rw (eq-eqb (length p) 134 l), (rw (le-ltb 99 k (omega arith)), good.0)) in
    let s = sound (of_dump single_patch) (k ∷ []) p filed_single refl tt passes in
    let further : k * 134 + 134 ≡ (k + 1) * 134 = omega arith in
    let rest = drop-drop 134 (k * 134) ps ∙ ap (λ (i : ℕ). drop i ps) further in
    let next : place + k * 275 + 275 ≡ place + (k + 1) * 275 = omega arith in
    let end : k + suc n ≡ k + 1 + n = omega arith in
    let later = bank_from n (suc k) (drop 134 (drop (k * 134) ps)) in
    let others = scan_bank place n (k + 1) ps behind (omega arith) (omega arith) (rw (rest, ← add-one k) at good.1) in
    rw (append_assoc (dump 0x01 k p) later behind, sound_scanned (of_dump single_patch) (k ∷ []) p s (place + k * 275) (later ++ behind))
    (rw (length_patch_dump 0x01 k p l, next, rest, ← add-one k, others, end) refl)

-- The reports of a bank of n patches start in its bytes.
placed : (place n k m : ℕ) (ps : List ℕ) → k + n ≤ m
    → All (λ r. (place ≤ r.start) × (r.start < place + m * 275 - 1)) (bank_reports place n k ps)
placed place zero k m ps h = tt
placed place (suc n) k m ps h = (omega arith, placed place n (k + 1) m ps (omega arith))

-- Whatever stands before a bank that is not empty, its first F0H starts a message.
from_start : (before t : List ℕ) → scan judge 0 outside (before ++ 0xF0 ∷ t) ≡ ahead judge 0 outside before ++ scan judge (length before) outside (0xF0 ∷ t)
from_start before t =
    scan_exclusive judge before 0 outside t
    ∙ ap (λ (m : ℕ). ahead judge 0 outside before ++ scan judge (suc m) (inside m [] 0) t) (zero-add (length before))
    ∙ ap (λ (l : List Report). ahead judge 0 outside before ++ l) (sym (scan_outside judge (length before) 0xF0 t))

start_bank : (n : ℕ) (ps before behind : List ℕ) → scan judge 0 outside (before ++ (bank_from (suc n) 0 ps ++ behind))
    ≡ ahead judge 0 outside before ++ scan judge (length before) outside (bank_from (suc n) 0 ps ++ behind)
unfolding bank_from dump
start_bank n ps before behind = from_start before _

lay_bank : (n : ℕ) (ps before behind : List ℕ) → suc n ≤ 100 → suc n * 134 ≤ length ps → first_bad (suc n) 0 ps ≡ none
    → Laid before (bank_from (suc n) 0 ps) behind (bank_reports (length before) (suc n) 0 ps)
lay_bank n ps before behind few long good =
    let f = length before in
    let size = length_bank (suc n) 0 ps (omega arith) in
    let here : f + 0 * 275 ≡ f = omega arith in
    let all : 0 + suc n ≡ suc n = omega arith in
    let scanned =
    ap (λ (x : ℕ). scan judge x outside (bank_from (suc n) 0 ps ++ behind)) (sym here)
    ∙ scan_bank f (suc n) 0 ps behind (omega arith) (omega arith) good
    ∙ ap (λ (x : ℕ). bank_reports f (suc n) 0 ps ++ scan judge (f + x * 275) outside behind) all in
    record {
      some_bytes = omega arith;
      whole = reports_scan judge (stream before (bank_from (suc n) 0 ps) behind) ∙ start_bank n ps before behind
          ∙ rw size (ap (λ (x : List Report). ahead judge 0 outside before ++ x) scanned);
      placed = subst (λ (w : ℕ). All (λ (r : Report). (f ≤ r.start) × (r.start < f + w - 1)) (bank_reports f (suc n) 0 ps)) (sym size)
          (placed f (suc n) 0 (suc n) ps (omega arith));
    }

-- A bank that is written: whole patches, at most 100, none bad, and their dumps at the output's start.
record Filed (ps out : List ℕ) : Type 0 where
  whole : length ps % 134 ≡ 0
  few : length ps ≤ 13400
  good : first_bad (length ps / 134) 0 ps ≡ none
  bytes : bank_sent ps out ≡ bank_from (length ps / 134) 0 ps

-- A bank without a bad patch that is left to its room.
roomy : (bytes out : List ℕ) → (written [] bytes out).result.answer ≡ 0 → take (written [] bytes out).result.detail (written [] bytes out).lent ≡ bytes
roomy bytes out e = go (ltb (length out) (length bytes)) refl
  where
    go : (t : Bool) → ltb (length out) (length bytes) ≡ t → take (written [] bytes out).result.detail (written [] bytes out).lent ≡ bytes
    go true q = absurd (omega (arith, rw q at e))
    go false q = rw q (take-append_seam bytes (drop (length bytes) out))

-- A bank of another length is not written.
wrong : (ps out : List ℕ) → (writing_bank ps out).result.outcome.answer ≡ 0 → (not (eqb (length ps % 134) 0) || ltb 13400 (length ps)) ≡ true → ⊥
unfolding writing_bank
wrong ps out e q = omega (arith, rw q at e)

filed : (ps out : List ℕ) → (writing_bank ps out).result.outcome.answer ≡ 0 → Filed ps out
filed ps out e = by_length (eqb (length ps % 134) 0) (ltb 13400 (length ps)) refl refl
  where
    by_bad : (whole : length ps % 134 ≡ 0) (few : length ps ≤ 13400) (o : Option Placed) → first_bad (length ps / 134) 0 ps ≡ o → Filed ps out
    by_bad whole few none q =
        let w = bank_is_tested ps out whole few ∙ ap (λ (o : Option Placed). unless_bad o (bank_from (length ps / 134) 0 ps) out) q in
        record { whole = whole; few = few; good = q; bytes = rw w (roomy (bank_from (length ps / 134) 0 ps) out (rw w at e)) }
    by_bad whole few (some b) q =
        let w = bank_is_tested ps out whole few ∙ ap (λ (o : Option Placed). unless_bad o (bank_from (length ps / 134) 0 ps) out) q in
        let zero = rw w at e in
        let n = none_bad (length ps / 134) 0 ps (ap (λ (o : Option Placed). (found_or o).outcome.answer) q ∙ zero) in
        let z : ◌≡◌ {A = ℕ} 0 1 = cc in
        absurd (omega arith)

    by_length : (t u : Bool) → eqb (length ps % 134) 0 ≡ t → ltb 13400 (length ps) ≡ u → Filed ps out
    by_length false u q r = absurd (wrong ps out e (rw q))
    by_length true true q r = absurd (wrong ps out e (rw (q, r)))
    by_length true false q r = by_bad (eqb-true (length ps % 134) 0 q) (ltb-false 13400 (length ps) r) (first_bad (length ps / 134) 0 ps) refl

-- The reports of any stream stand in two parts by where they start.
in_two : (l : List Report) (p n m : ℕ) → InOrder p n l → l ≡ start_before m l ++ start_from m l
in_two [] p n m o = refl
in_two (r ∷ l) p n m o = by_test (in_two l r.end n m o.3) (dec_le (suc r.start) m)
  where
    by_test : l ≡ start_before m l ++ start_from m l → Dec (suc r.start ≤ m) → r ∷ l ≡ start_before m (r ∷ l) ++ start_from m (r ∷ l)
    by_test i (yes h) = rw (lt-ltb r.start m h, lt-leb m r.start h) (ap (λ (x : List Report). r ∷ x) i)
    by_test i (no h) =
        let far : m ≤ r.start = omega (arith, h) in
        let later : All (λ q. m ≤ q.start) l = order_from l m r.end n (omega arith) o.3 in
        rw (
          le-ltb r.start m far,
          le-leb m r.start far,
          keep_none (λ q. ltb q.start m) l (all_weaken _ _ (λ q x. le-ltb q.start m x) l later),
          keep_all (λ q. leb m q.start) l (all_weaken _ _ (λ q x. le-leb m q.start x) l later),
        )

-- A bank of n patches that is written, with any bytes before and behind it.
back : (n : ℕ) (ps before behind : List ℕ) → n ≤ 100 → n * 134 ≤ length ps → first_bad n 0 ps ≡ none
    → reports judge (stream before (bank_from n 0 ps) behind)
    ≡ reports_before before (bank_from n 0 ps) behind ++ (bank_reports (length before) n 0 ps ++ reports_after before (bank_from n 0 ps) behind)
unfolding bank_from
back zero ps before behind few long good =
    let s = before ++ behind in
    let end : length before + 0 ≡ length before = omega arith in
    rw end (in_two (reports judge s) 0 (length s) (length before) (reports_order judge s))
back (suc n) ps before behind few long good =
    let d = bank_from (suc n) 0 ps in
    let m = bank_reports (length before) (suc n) 0 ps in
    let laid = lay_bank n ps before behind few long good in
    whole_parts before d behind m laid ∙ rw (parts before d behind m laid).within

-- A bank that is written, in any stream, gives its patches in order with their numbers, and nothing else.
pub bank_read_back : BankReadBack
bank_read_back ps out e before behind =
    let f = filed ps out e in
    rw f.bytes (back (length ps / 134) ps before behind (omega (arith, f.few)) (omega (arith, f.whole)) f.good)
