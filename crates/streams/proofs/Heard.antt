-- What the number in a report says: by its definition it is counted over the bytes from the F0H on, and these are the stream's. How far they run
-- goes by the byte that ends the message.
use mathlib.Core.Path.{◌≡◌, refl, sym, ap, ◌∙◌}
use mathlib.Core.Bool.{Bool, true, false}
use mathlib.Core.List.{List, [], ◌∷◌, ◌++◌, append-nil}
use mathlib.Core.Option.{some}
use Prim.Native.Nat.{ℕ, suc, ◌+◌, ◌-◌, ◌≤◌}
use native.Mathlib.Numerals.{add-one}
use native.Mathlib.Omega.{arith}
use lib.Dec.{eqb}
use lib.ListN.{length, take, drop}
use lib.Seq.{length-take-le, drop-drop}
use borrow.Author.Tests.{eqb-true, eqb-false}
use Rattle.answers.specs.Table.{Verdict}
use Rattle.answers.proofs.Lists.{all_weaken}
use Rattle.streams.specs.Bytes.{body, without_real_time, real_time_in}
use Rattle.streams.specs.Stream.{Report, between, closed_by, message_at, walk, reports_from}
use Rattle.streams.specs.promises.Noise.{Counted, closed_with, Heard, HowNoisy}
use Rattle.streams.proofs.Bytes.{body_take, body_closed}
use Rattle.streams.proofs.Noise.{kept_and_dropped, all_kept, none_dropped}
use Rattle.streams.proofs.Walk.{cut_message, closed_message, interrupted_message, behind, reread_from}
use Rattle.streams.proofs.Complete.{without_framed, there}

-- A number that is counted over the bytes between two places of a stream.
pub counts : (s : List ℕ) (start end n : ℕ) → n ≡ real_time_in (between s start end) → length (between s start end) ≡ end - start → start ≤ end
    → Counted s start end n
counts s start end n e long h =
    let m = between s start end in
    record {
      counted = e;
      length_and_noise = omega (arith, kept_and_dropped m, long, e);
      quiet = ((λ z. all_kept m (sym e ∙ z)), λ k. e ∙ none_dropped m k);
    }

module _ (judge : List ℕ → Verdict) where
  -- However a message ends, its number is counted from its start to its end.
  closed_noise : (m : List ℕ) (f e : ℕ) (b w : List ℕ)
      → let r = closed_by judge m f e b w in r.noise ≡ real_time_in (take (r.end - r.start) m)
  closed_noise m f e b [] = refl
  closed_noise m f e b (x ∷ w) = by_test (eqb x 0xF7) refl
    where
      by_test : (t : Bool) → eqb x 0xF7 ≡ t → let r = closed_by judge m f e b (x ∷ w) in r.noise ≡ real_time_in (take (r.end - r.start) m)
      by_test true q = rw q
      by_test false q = rw q

  module _ (f : ℕ) (t : List ℕ) where
    abbrev here : Report
    here = message_at judge f t

    abbrev its_bytes : List ℕ
    its_bytes = take (here.end - here.start) (0xF0 ∷ t)

    message_noise : here.noise ≡ real_time_in its_bytes
    unfolding message_at
    message_noise = closed_noise (0xF0 ∷ t) f (suc f + length (body t)) (body t) (drop (length (body t)) t)

    -- The bytes of the message behind an F0H at place f, and what it is judged by if F7H closes it.
    record Ended (last : List ℕ) : Type 0 where
      runs : its_bytes ≡ 0xF0 ∷ (body t ++ closed_with last)
      judged : closed_with last ≡ 0xF7 ∷ [] → here.verdict ≡ judge (without_real_time its_bytes)

    open_ended : here.end - here.start ≡ suc (length (body t)) → (last : List ℕ) → closed_with last ≡ [] → Ended last
    open_ended size last none = record {
      runs = rw (size, body_take t, none, append-nil (body t));
      judged = λ e. let z : ◌≡◌ {A = ℕ} 0 1 = ap length (sym none ∙ e) in absurd (omega arith);
    }

    ended : Ended (drop (length (body t)) t)
    ended = by_end (drop (length (body t)) t) refl
      where
        by_test : (x : ℕ) (r : List ℕ) → drop (length (body t)) t ≡ x ∷ r → (c : Bool) → eqb x 0xF7 ≡ c → Ended (x ∷ r)
        by_test x r e true q =
            let x' = eqb-true x 0xF7 q in
            let e' : drop (length (body t)) t ≡ 0xF7 ∷ r = e ∙ ap (λ (y : ℕ). y ∷ r) x' in
            let m = closed_message judge f t r e' in
            let size : here.end - here.start ≡ suc (length (body t) + 1) = rw m (omega arith) in
            let all : its_bytes ≡ 0xF0 ∷ (body t ++ (0xF7 ∷ [])) = rw (size, body_closed t r e') in
            record {
              runs = all ∙ rw x';
              judged = λ k. rw (all, without_framed (body t)) (ap (λ (o : Report). o.verdict) m);
            }
        by_test x r e false q =
            let m = interrupted_message judge f t x r e (eqb-false x 0xF7 q) in
            open_ended (rw m (omega arith)) (x ∷ r) (rw q)

        by_end : (w : List ℕ) → drop (length (body t)) t ≡ w → Ended w
        by_end [] e = open_ended (rw (cut_message judge f t e) (omega arith)) [] refl
        by_end (x ∷ r) e = by_test x r e (eqb x 0xF7) refl

  module _ (s : List ℕ) where
    heard_at : (f : ℕ) (t : List ℕ) → drop f s ≡ 0xF0 ∷ t → Heard judge s (message_at judge f t)
    heard_at f t at =
        let r = message_at judge f t in
        let h = behind judge f t in
        let n = r.end - r.start in
        let start : drop r.start s ≡ 0xF0 ∷ t = rw h.starts at in
        let rest : drop (suc r.start) s ≡ t = rw (← (add-one r.start), ← (drop-drop 1 r.start s), start) in
        let long : length (take n (0xF0 ∷ t)) ≡ n = length-take-le n (0xF0 ∷ t) (omega (arith, h.starts, h.ends, h.within)) in
        rw rest (record {
          count = counts s r.start r.end r.noise (rw start (message_noise f t)) (rw start long) (omega (arith, h.starts, h.ends));
          runs = rw start (ended f t).runs;
          judged = λ e. rw start ((ended f t).judged e);
        })

    heard_found : (p : ℕ) (r : Report) → walk judge s p ≡ some r → Heard judge s r
    unfolding walk
    heard_found p r e =
        let h = there judge (drop p s) p r e in
        rw h.found (heard_at (p + h.skipped) h.rest (sym (drop-drop h.skipped p s) ∙ h.at))

    pub how_noisy : HowNoisy judge s
    how_noisy = record {
      found = heard_found;
      each = λ p. all_weaken _ _ (λ r e. heard_found r.start r e) (reports_from judge (length s) s p) (reread_from judge s (length s) p);
    }
