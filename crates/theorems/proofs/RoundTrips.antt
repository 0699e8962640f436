-- Demand 2. What a writer takes, reading tests and accepts, wherever the message stands; what reading accepts is what the writer of its kind
-- writes from the record.
use mathlib.Core.Path.{◌≡◌, ap, sym, ◌∙◌, subst, refl}
use mathlib.Core.Bool.{Bool, true, false}
use mathlib.Core.List.{List, [], ◌∷◌, ◌++◌}
use mathlib.Core.Option.{Option, none, some}
use Prim.Native.Nat.{ℕ, ◌+◌, ◌<◌}
use native.Mathlib.Omega.{arith}
use lib.Dec.{leb}
use lib.ListN.{length, take, drop}
use lib.Seq.{take-append_seam}
use borrow.Author.Tests.{le-leb}
use Rattle.answers.specs.declared.Outcome.{Outcome}
use Rattle.answers.specs.Lists.{All}
use Rattle.answers.specs.Table.{Verdict, done, refused, answer_of}
use Rattle.answers.specs.Effect.{Effect}
use Rattle.answers.proofs.Lists.{all_weaken}
use Rattle.streams.specs.Bytes.{framed}
use Rattle.streams.specs.Stream.{Report, report, read_into, read_report, walk, reports, read}
use Rattle.streams.proofs.Walk.{reread}
use Rattle.streams.proofs.Complete.{data_bytes, walk_framed, complete}
use Rattle.names.proofs.Laws.{set_then_shown, shown_then_set}
use Rattle.edits.proofs.Laws.{edit_done, bus_done, edit_own_field, bus_own_field}
use Rattle.messages.specs.declared.kinds.Kind.{Kind}
use Rattle.messages.specs.Kinds.{kind_of, opcode_of}
use Rattle.messages.specs.Judge.{judge}
use Rattle.messages.specs.Layout.{message, record_for}
use Rattle.messages.proofs.Filed.{all_filed}
use Rattle.messages.proofs.Numbers.{refused_number}
use Rattle.messages.proofs.Written.{sound, sound_holds}
use Rattle.messages.proofs.AsWritten.{Accepted, accepted}
use Rattle.theorems.specs.RoundTrips.{Ours, putting, sent, WrittenReadBack, Again, message_in, WrittenAgain, ReadAgain, ReadWrittenAgain, Demand2}
use Rattle.theorems.specs.Damage.{stream, reports_before, reports_after}
use Rattle.theorems.proofs.Containment.{one_message, parts, whole_parts}
use Rattle.theorems.proofs.Writers.{takes, taken}
use Rattle.theorems.proofs.Bank.{bank_read_back}

-- Data bytes between F0H and F7H are one report of a stream.
framed_reported : (before c behind : List ℕ) → All (λ b. b < 0x80) c → reports judge (stream before (framed c) behind)
    ≡ reports_before before (framed c) behind
    ++ report (length before) (length before + length (framed c)) (judge (framed c)) 0 ∷ reports_after before (framed c) behind
framed_reported before c behind a =
    let one = report (length before) (length before + length (framed c)) (judge (framed c)) 0 ∷ [] in
    let laid = one_message before c behind (data_bytes c a) in
    whole_parts before (framed c) behind one laid ∙ rw (parts before (framed c) behind one laid).within

pub written_read_back : WrittenReadBack
unfolding read
written_read_back k b p out ours bytes e before behind =
    let m = message k b p in
    let t = taken k b p out e in
    let s = sound k b p ours.0 ours.1 bytes t.0 in
    let its_message : sent k b p out ≡ m =
    ap (λ (x : Effect Outcome). take x.result.detail x.lent) (takes k b p out t.0 t.1) ∙ take-append_seam m (drop (length m) out) in
    let found =
    sound_holds k b p (λ m v. walk judge (stream before m behind) (length before) ≡ some (report (length before) (length before + length m) v 0))
    (λ c a. walk_framed judge before c behind (data_bytes c a)) s in
    let reported =
    sound_holds k b p (λ m v. reports judge (stream before m behind)
    ≡ reports_before before m behind ++ report (length before) (length before + length m) v 0 ∷ reports_after before m behind)
    (λ c a. framed_reported before c behind a) s in
    record {
      its_message = its_message;
      found = rw its_message found;
      reported = rw its_message reported;
      same = λ lent room. rw (its_message, found, le-leb (length p) (length lent) room);
    }

-- A message that a writer writes from a record is that message again.
by_accepted : (m : List ℕ) (v : Verdict) → Accepted m v → Again m v
by_accepted m v a = record {
  kind = a.kind;
  bytes = a.bytes;
  packed = a.packed;
  ours = (a.filed, a.given);
  its_record = sym a.its_record;
  same = λ out room. takes a.kind a.bytes a.packed out a.passes (rw a.its_message at room)
      ∙ ap (λ (l : List ℕ). putting l out) (sym a.its_message);
}

-- Every message that is accepted, written again, is the same.
pub judged_again : (c : List ℕ) (v : Verdict) → judge (framed c) ≡ v → answer_of v ≡ 0 → Again (framed c) v
judged_again c (done op bytes packed) e z = by_accepted (framed c) (done op bytes packed) (accepted op bytes packed c e)
judged_again c (refused r) e z = absurd ((refused_number (framed c) r e).0 z)

-- So is every message that the walk finds and accepts, less its real-time bytes.
pub walked_again : (s : List ℕ) (p : ℕ) (r : Report) → walk judge s p ≡ some r → answer_of r.verdict ≡ 0
    → Again (message_in s r.start r.end) r.verdict
walked_again s p r e z =
    let c = complete judge s p r e z in
    subst (λ (m : List ℕ). Again m r.verdict) (sym c.bytes) (judged_again c.content r.verdict (sym c.judged) z)

pub written_again : WrittenAgain
written_again s = all_weaken _ _ (λ r e z. walked_again s r.start r e z) (reports judge s) (reread judge s)

not_refused : (m : List ℕ) (r : Outcome) → Again m (refused r) → ⊥
not_refused m r a = let e = a.its_record in let z : ◌≡◌ {A = ℕ} 0 1 = cc in omega arith

pub read_written_again : ReadWrittenAgain
unfolding read
read_written_again s place lent e = by_walk (walk judge s place) refl e
  where
    by_verdict : (f l : ℕ) (v : Verdict) (n : ℕ) → (answer_of v ≡ 0 → Again (message_in s f l) v) → (read_into f l v n lent).result.outcome.answer ≡ 0
        → ReadAgain s lent (read_into f l v n lent)
    by_verdict f l (done op bytes packed) n a z = by_room (leb (length packed) (length lent)) refl
      where
        by_room : (t : Bool) → leb (length packed) (length lent) ≡ t → ReadAgain s lent (read_into f l (done op bytes packed) n lent)
        by_room true q = rw q (record { packed = packed; into = refl; again = a refl })
        by_room false q = absurd (omega (arith, rw q at z))
    by_verdict f l (refused r) n a z = absurd (not_refused (message_in s f l) r (a z))

    by_walk : (o : Option Report) → walk judge s place ≡ o → (read_report judge (length s) o lent).result.outcome.answer ≡ 0
        → ReadAgain s lent (read_report judge (length s) o lent)
    by_walk none q z = absurd (omega arith)
    by_walk (some r) q z = by_verdict r.start r.end r.verdict r.noise (walked_again s place r q) z

-- A record has the opcode, which finds the kind, and what its writer was given.
pub record_tells : (k : Kind) (b p : List ℕ) (l : Kind) (c q : List ℕ) → Ours k b p → Ours l c q → record_for k b p ≡ record_for l c q
    → (k ≡ l) × (b ≡ c) × (p ≡ q)
record_tells k b p l c q o r e =
    let opcode : opcode_of k ≡ opcode_of l = cc in
    (sym o.0 ∙ ap kind_of opcode ∙ r.0, cc, cc)

-- Demand 2, whole.
pub demand_2 : Demand2
demand_2 = record {
  each_kind_ours = all_filed;
  written_read_back = written_read_back;
  bank_read_back = bank_read_back;
  record_tells = record_tells;
  written_again = written_again;
  read_written_again = read_written_again;
  edit_own_field = λ n v p e. edit_own_field n v p (edit_done n v p e);
  bus_own_field = λ b s a d p e. bus_own_field b s a d p (bus_done b s a d p e);
  name_set_shown = set_then_shown;
  name_shown_set = shown_then_set;
}
