-- A file that comes to one patch has an accepted one, by what an accepted dump is; so two of them are refused for their names alone.
use mathlib.Core.Path.{◌≡◌, refl, sym, ap, ◌∙◌, subst}
use mathlib.Core.Bool.{Bool, true, false, cond, ◌&&◌, ◌||◌, not}
use mathlib.Core.List.{List, [], ◌∷◌, ◌++◌, append_assoc, append-nil}
use mathlib.Core.Logic.{◌⊎◌, inl, inr}
use mathlib.Core.Option.{Option, none, some}
use Prim.Native.Nat.{ℕ, ◌+◌, ◌-◌, ◌≤◌}
use lib.Seq.{take_at, drop_at}
use native.Mathlib.Omega.{arith}
use lib.Dec.{eqb, ltb}
use lib.ListN.{length, take, drop, replicate, length-append, drop_of_length-le}
use borrow.Author.Tests.{eqb-true, le-leb, le-ltb}
use Rattle.answers.specs.declared.Outcome.{Outcome}
use Rattle.answers.specs.Table.{row, Verdict, done, refused, outcome, outcome_of}
use Rattle.answers.specs.Effect.{tested}
use Rattle.answers.specs.promises.Decides.{Silent}
use Rattle.answers.proofs.Rows.{tested_passed}
use Rattle.streams.specs.Bytes.{framed}
use Rattle.streams.specs.Stream as stream
use Rattle.streams.proofs.Complete.{data_bytes, walk_framed, complete}
use Rattle.patch.specs.Patch.{patch_rows}
use Rattle.patch.proofs.Tests.{patch_length}
use Rattle.messages.specs.declared.kinds.Kind.{Kind}
use Rattle.messages.specs.declared.kinds.Kind.TheVariants.{Dump as of_dump}
use Rattle.messages.specs.declared.kinds.Dump.{Dump}
use Rattle.messages.specs.Kinds.{kind_of, opcode_of, single_patch, edit_buffer, Filed}
use Rattle.messages.specs.promises.Given.{Given, BytesIn}
use Rattle.messages.specs.Judge.{judge}
use Rattle.messages.specs.Layout.{dump, message, given_rows, record_for}
use Rattle.nibbles.specs.Nibbles.{nibbles, sum}
use Rattle.nibbles.proofs.Laws.{length_nibbles}
use Rattle.messages.proofs.Numbers.{judge_number}
use Rattle.messages.proofs.Written.{sound}
use Rattle.messages.proofs.AsWritten.{accepted}
use Rattle.reading.specs.declared.walking.Report.{Report}
use Rattle.reading.specs.code.Told.{walked, report_or}
use Rattle.text.specs.Text.{ascii, followed, signed, spaced, fitting}
use Rattle.text.proofs.Puts.{puts_whole}
use Rattle.text.proofs.Spaced.{followed_most, signed_most, spaced_most}
use Rattle.listing.specs.Listing.{too_long}
use Rattle.pairs.specs.Pairs.{same_bytes, name_of, pair_rows}
use Rattle.pairs.proofs.Pair.{by_names, pair_silent}
use Rattle.edit_lists.specs.Lists.{list_bytes}
use Rattle.edit_lists.specs.Plan.{plan}
use Rattle.edit_lists.specs.promises.Shortest.{Good, Pair}
use Rattle.edit_lists.specs.Check.{checking}
use Rattle.edit_lists.proofs.Reach.{good_silent}
use Rattle.edit_lists.proofs.Left.{list_most}
use Rattle.edit_lists.proofs.Answers.{shortest_list}
use Rattle.plan.specs.declared.Wrong.{Wrong}
use Rattle.plan.specs.declared.Wrong.TheVariants.{TooLong, NoPatch, NotOne, Outside}
use Rattle.plan.specs.Files.{Found, One, Not, is_patch_dump, by_second, by_first, found_in, patch_in, sentence}
use Rattle.plan.specs.Said.{Said, said, change_lines, proposing, unless_wrong, by_files, wants_lines, first_length, said_of}
use Rattle.plan.specs.promises.Whole.{OnePatch, Holds, Whole}
use Rattle.plan.specs.declared.Written.{Written}
use Rattle.plan.specs.code.Written.{Says}
use Rattle.plan.proofs.Files.{quiet_past, quiet_end, by_quiet}
use Rattle.plan.proofs.Told.{both_are_one}
use Rattle.plan.proofs.Lines.{Most, joined, lines_most}

-- What comes to one patch has a first message that is an accepted patch dump.
one_dump : (s : List ℕ) → found_in s ≡ One → is_patch_dump (walked s 0).outcome ≡ true
unfolding found_in
one_dump s e = by_length (ltb 65536 (length s)) e
  where
    by_dump : (r : Report) (t : Bool) → is_patch_dump r.outcome ≡ t → cond t (by_second s r (walked s r.end)) (Not (NotOne r)) ≡ One → t ≡ true
    by_dump r true q e = refl
    by_dump r false q e = cc

    by_answer : (r : Report) (t : Bool) → cond t (Not NoPatch) (cond (is_patch_dump r.outcome) (by_second s r (walked s r.end)) (Not (NotOne r))) ≡ One
        → is_patch_dump r.outcome ≡ true
    by_answer r true e = cc
    by_answer r false e = by_dump r (is_patch_dump r.outcome) refl e

    by_length : (t : Bool) → cond t (Not TooLong) (by_first s (walked s 0)) ≡ One → is_patch_dump (walked s 0).outcome ≡ true
    by_length true e = cc
    by_length false e = by_answer (walked s 0) (eqb (walked s 0).outcome.answer 1) e

-- The opcode of such a dump, 01H or 0DH, and its answer.
opcodes : (o : Outcome) → is_patch_dump o ≡ true → (o.answer ≡ 0) × ((o.detail ≡ 1) ⊎ (o.detail ≡ 13))
opcodes o e = go (eqb o.answer 0) (eqb o.detail 1) (eqb o.detail 13) refl refl refl e
  where
    go : (t u v : Bool) → eqb o.answer 0 ≡ t → eqb o.detail 1 ≡ u → eqb o.detail 13 ≡ v → (t && (u || v)) ≡ true
        → (o.answer ≡ 0) × ((o.detail ≡ 1) ⊎ (o.detail ≡ 13))
    go true true v p q r e = (eqb-true o.answer 0 p, inl (eqb-true o.detail 1 q))
    go true false true p q r e = (eqb-true o.answer 0 p, inr (eqb-true o.detail 13 r))
    go true false false p q r e = cc
    go false u v p q r e = cc

-- The packed bytes of a message with one of these opcodes are a good patch.
kind_1 : kind_of 1 ≡ of_dump single_patch
unfolding kind_of
kind_1 = refl

kind_13 : kind_of 13 ≡ of_dump edit_buffer
unfolding kind_of
kind_13 = refl

given_patch : (k : Kind) (b p : List ℕ) → kind_of (opcode_of k) ≡ k → (opcode_of k ≡ 1) ⊎ (opcode_of k ≡ 13) → Silent (given_rows k b p) → Silent (patch_rows p)
given_patch k b p f (inl e) s =
    let is : k ≡ of_dump single_patch = sym f ∙ ap kind_of e ∙ kind_1 in
    let t = subst (λ (j : Kind). Silent (given_rows j b p)) is s in
    (t.0, t.1.1)
given_patch k b p f (inr e) s =
    let is : k ≡ of_dump edit_buffer = sym f ∙ ap kind_of e ∙ kind_13 in
    let t = subst (λ (j : Kind). Silent (given_rows j b p)) is s in
    (t.0, t.1.1)

judged_patch : (c : List ℕ) (op : ℕ) (b p : List ℕ) → judge (framed c) ≡ done op b p → (op ≡ 1) ⊎ (op ≡ 13) → Silent (patch_rows p)
judged_patch c op b p e o =
    let a = accepted op b p c e in
    let same = a.its_record in
    let opcode : op ≡ opcode_of a.kind = cc in
    let packed : p ≡ a.packed = cc in
    rw packed (given_patch a.kind a.bytes a.packed a.filed (subst (λ (n : ℕ). (n ≡ 1) ⊎ (n ≡ 13)) opcode o) a.passes)

abbrev zeros : List ℕ
zeros = replicate 134 0

-- Reading such a record into 134 bytes leaves its packed bytes there.
reads_patch : (s : List ℕ) (r : stream.Report) (op : ℕ) (b p : List ℕ) → stream.walk judge s 0 ≡ some r → r.verdict ≡ done op b p → length p ≡ 134
    → patch_in s ≡ p
unfolding patch_in stream.read
reads_patch s r op b p e v l =
    let size : length zeros ≤ length p = omega arith in
    let whole : (stream.read_into r.start r.end (done op b p) r.noise zeros).lent ≡ p =
    rw (le-leb (length p) 134 (omega arith), drop_of_length-le zeros size) (append-nil p) in
    ap (λ (o : Option stream.Report). (stream.read_report judge (length s) o zeros).lent) e
    ∙ ap (λ (w : Verdict). (stream.read_into r.start r.end w r.noise zeros).lent) v ∙ whole

-- The first message of a file that comes to one patch.
one_patch : (s : List ℕ) → found_in s ≡ One → OnePatch s
one_patch s e = go (stream.walk judge s 0) refl (one_dump s e)
  where
    by_verdict : (r : stream.Report) → stream.walk judge s 0 ≡ some r → (v : Verdict) → r.verdict ≡ v → is_patch_dump (outcome_of v) ≡ true → OnePatch s
    by_verdict r w (refused o) q d =
        let z = (opcodes o d).0 in
        let c = complete judge s 0 r w (ap (λ (v : Verdict). (outcome_of v).answer) q ∙ z) in
        let n = judge_number (framed c.content) o (sym c.judged ∙ q) in
        absurd (omega arith)
    by_verdict r w (done op b p) q d =
        let o = opcodes (outcome 0 op) d in
        let c = complete judge s 0 r w (ap (λ (v : Verdict). (outcome_of v).answer) q) in
        let passes = judged_patch c.content op b p (sym c.judged ∙ q) o.1 in
        let is = reads_patch s r op b p w q (patch_length p passes) in
        record {
          report = r;
          opcode = op;
          bytes = b;
          first = w;
          accepted = q ∙ ap (done op b) (sym is);
          good = rw is (tested_passed (patch_rows p) passes);
        }

    go : (o : Option stream.Report) → stream.walk judge s 0 ≡ o → is_patch_dump (report_or (length s) o).outcome ≡ true → OnePatch s
    go none w d = cc
    go (some r) w d = by_verdict r w r.verdict refl d

-- Two good patches are refused for their names alone.
pub by_name : (a b : List ℕ) → Good a → Good b → (tested (pair_rows a b) ≡ outcome 0 0) ⊎ (tested (pair_rows a b) ≡ outcome 16 0)
by_name a b g f = go (same_bytes (name_of a) (name_of b)) refl
  where
    so : tested (pair_rows a b) ≡ tested (row 16 (not (same_bytes (name_of a) (name_of b))) ∷ [])
    so = by_names a b (good_silent a g) (good_silent b f)

    go : (t : Bool) → same_bytes (name_of a) (name_of b) ≡ t → (tested (pair_rows a b) ≡ outcome 0 0) ⊎ (tested (pair_rows a b) ≡ outcome 16 0)
    go true q = inl (so ∙ rw q)
    go false q = inr (so ∙ rw q)

-- What is told of a file, and what is said in all.
sentence_most : (w : Wrong) → Most (sentence w) 200
unfolding sentence too_long ascii
sentence_most TooLong = record { bytes = omega arith }
sentence_most NoPatch = record { bytes = omega arith }
sentence_most (NotOne r) =
    let o = r.outcome in
    let front : Most (spaced (r.start ∷ r.end ∷ o.answer ∷ o.detail ∷ [])) 84 = record { bytes = spaced_most (r.start ∷ r.end ∷ o.answer ∷ o.detail ∷ []) } in
    let value : Most (signed o.value 0x20) 22 = record { bytes = signed_most o.value 0x20 } in
    let noise : Most (followed r.noise 0x0A) 21 = record { bytes = followed_most r.noise 0x0A } in
    joined words (joined front (joined value noise))
  where
    words : Most (ascii "not one accepted patch dump: ") 73
    words = record { bytes = omega arith }
sentence_most Outside = record { bytes = omega arith }

abbrev Fits : Said → Type 0
Fits w = length (w.out ++ w.err) ≤ 11264

told_fits : (word : List ℕ) (w : Wrong) → Most word 10 → Fits (said [] (word ++ sentence w))
told_fits word w m = let all = joined m (sentence_most w) in omega (arith, all.bytes)

list_fits : (lines : Bool) (a b : List ℕ) → Fits (proposing lines a b)
unfolding proposing ascii
list_fits lines a b = go (eqb (tested (pair_rows a b)).answer 0) lines
  where
    go : (t u : Bool) → Fits (cond t (said (cond u (change_lines a b) (list_bytes (plan a b))) (ascii "done\n")) (said [] (ascii "names differ: no edit reaches a name\n")))
    go true true = omega (arith, length-append (change_lines a b) (ascii "done\n"), lines_most a b)
    go true false = omega (arith, length-append (list_bytes (plan a b)) (ascii "done\n"), list_most a b)
    go false u = omega arith

files_fit : (lines : Bool) (r l : List ℕ) → Fits (by_files lines r l)
unfolding by_files
files_fit lines r l = go (found_in r) (found_in l)
  where
    words : Most (ascii "returned: ") 10
    words = record { bytes = unfold ascii in (omega arith) }

    word : Most (ascii "lent: ") 10
    word = record { bytes = unfold ascii in (omega arith) }

    go : (f g : Found)
        → Fits (unless_wrong (ascii "returned: ") f (unless_wrong (ascii "lent: ") g (proposing lines (patch_in r) (patch_in l))))
    go One One = list_fits lines (patch_in r) (patch_in l)
    go One (Not w) = told_fits (ascii "lent: ") w word
    go (Not w) g = told_fits (ascii "returned: ") w words

said_fits : (s : List ℕ) → Fits (said_of s)
unfolding said_of
said_fits s = files_fit (wants_lines s) (take (first_length s) (drop 4 s)) (drop (first_length s) (drop 4 s))

-- What fits stands whole.
said_stands : (s old new : List ℕ) (r : Written) → 11264 ≤ length old → Says (said_of s) old new r
    → let w = said_of s in (take r.out new ≡ w.out) × (take (r.end - r.out) (drop r.out new) ≡ w.err)
said_stands s old new r h y =
    let o = (said_of s).out in
    let v = (said_of s).err in
    let l = length-append o v in
    let first : fitting o old 0 ≡ o = puts_whole o old 0 (omega (arith, said_fits s)) in
    let all : fitting (o ++ v) old 0 ≡ o ++ v = puts_whole (o ++ v) old 0 (omega (arith, said_fits s)) in
    let there : new ≡ o ++ (v ++ drop r.end old) = y.puts.text ∙ rw all (append_assoc o v (drop r.end old)) in
    let out : length o ≡ r.out = sym (y.out ∙ ap length first) in
    let end : r.end - r.out ≡ length v = omega (arith, y.puts.ends, ap length all) in (
      ap (take r.out) there ∙ take_at o (v ++ drop r.end old) r.out out,
      ap (λ (x : List ℕ). take (r.end - r.out) (drop r.out x)) there
          ∙ ap (take (r.end - r.out)) (drop_at o (v ++ drop r.end old) r.out out) ∙ take_at v (drop r.end old) (r.end - r.out) (sym end),
    )

-- A file with a dump as our writer writes it.
module _ (k : Dump) (b p : List ℕ) (f : Filed (of_dump k)) (g : Given (of_dump k) b p) (t : BytesIn (of_dump k) p) (d : is_patch_dump (outcome 0 k.opcode) ≡ true)
    (q : Silent (given_rows (of_dump k) b p)) (l : length p ≡ 134) (n : length (message (of_dump k) b p) ≤ 65536) where
  abbrev file : List ℕ
  file = message (of_dump k) b p

  found_there : stream.walk judge file 0 ≡ some (stream.report 0 (length file) (record_for (of_dump k) b p) 0)
  found_there =
      let c = sound (of_dump k) b p f g t q in
      let walked-there = walk_framed judge [] c.content [] (data_bytes c.content c.seven) in
      let whole : [] ++ (framed c.content ++ []) ≡ file = append-nil (framed c.content) ∙ sym c.bytes in
      let size : 0 + length (framed c.content) ≡ length file = omega (arith, ap length c.bytes) in
      sym (ap (λ (x : List ℕ). stream.walk judge x 0) whole) ∙ walked-there
      ∙ ap (λ (m : ℕ). some (stream.report 0 m (judge (framed c.content)) 0)) size
      ∙ ap (λ (v : Verdict). some (stream.report 0 (length file) v 0)) (ap judge (sym c.bytes) ∙ c.accepted)

  none_stand_behind : stream.walk judge file (length file) ≡ none
  unfolding stream.walk stream.first_from
  none_stand_behind = let all : length file ≤ length file = omega arith in rw (drop_of_length-le file all)

  one_found : Holds file p
  one_found =
      let end = length file in
      let r : Report = record { start = 0; end = end; outcome = outcome 0 k.opcode; noise = 0 } in
      let next : Report = record { start = end; end = end; outcome = outcome 1 0; noise = 0 } in (
        by_quiet file n r (sym (ap (report_or end) found_there)) refl d next (sym (ap (report_or end) none_stand_behind)) refl true true
            (quiet_end file 0 0 (omega arith)) (quiet_past file end end (omega arith)),
        reads_patch file (stream.report 0 end (record_for (of_dump k) b p) 0) k.opcode b p found_there refl l,
      )

-- Both kinds of patch dump are.
dump_short : (op m : ℕ) (p : List ℕ) → length p ≡ 134 → length (dump op m p) ≤ 65536
unfolding dump
dump_short op m p l =
    let n = nibbles p in
    omega (arith, length_nibbles p, length-append (n ++ (sum p ∷ [])) (0xF7 ∷ []), length-append n (sum p ∷ []))

numbered_found : (m : ℕ) (p : List ℕ) → Good p → m ≤ 99 → Holds (message (of_dump single_patch) (m ∷ []) p) p
numbered_found m p g h =
    let s = good_silent p g in
    let l = patch_length p s in
    one_found single_patch (m ∷ []) p kind_1 refl tt refl (s.0, (rw (le-ltb 99 m h), s.1)) l (dump_short 1 m p l)

edit_buffer_found : (p : List ℕ) → Good p → Holds (message (of_dump edit_buffer) [] p) p
edit_buffer_found p g =
    let s = good_silent p g in
    let l = patch_length p s in
    one_found edit_buffer [] p kind_13 refl tt refl (s.0, (refl, s.1)) l (dump_short 13 0 p l)

-- What is proposed for two good patches of one name the checker accepts.
proposed : (r l : List ℕ) → found_in r ≡ One → found_in l ≡ One → name_of (patch_in r) ≡ name_of (patch_in l)
    → checking (patch_in r) (patch_in l) (by_files false r l).out ≡ outcome 0 0
unfolding proposing
proposed r l e f same =
    let a = patch_in r in
    let b = patch_in l in
    let pair : Pair a b = ((one_patch r e).good, (one_patch l f).good, same) in
    let passes = tested_passed (pair_rows a b) (pair_silent a b (good_silent a pair.0) (good_silent b pair.1) same) in
    let text : (by_files false r l).out ≡ list_bytes (plan a b) =
    ap (λ (w : Said). w.out) (both_are_one false r l e f) ∙ rw (ap (λ (o : Outcome). o.answer) passes) in
    ap (checking a b) text ∙ shortest_list.accepted a b pair

pub whole : Whole
whole = record {
  fits = said_fits;
  stands = said_stands;
  numbered = numbered_found;
  to_edit_buffer = edit_buffer_found;
  one_patch = one_patch;
  names_alone = λ s t e f. by_name (patch_in s) (patch_in t) (one_patch s e).good (one_patch t f).good;
  proposed = proposed;
}
