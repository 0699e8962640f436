-- What a read puts behind the bytes so far is what it took from the reader.
use Rattle.std.proofs.Common.{◌≡◌, ℕ, ◌+◌, ◌≤◌, List, ◌++◌, rules, length, take, sym, ◌∙◌, subst, le_refl, drop_at, length-take-le}
use Rattle.std.proofs.lemmas.Slice.{take-put_mid_below}
use Rattle.std.specs.Io.KnownBytes.{Consumes}
use Rattle.std.proofs.KnownBytes.{Consumes-trans}
use borrow.Rule.Slice.PartMut.{put_mid, post_of}
use lib.Seq.{take-add, take-append-le}
use Rattle.text.proofs.input.read_full.Goals as goal

-- The bytes so far and those that a read put behind them, joined.
joined : (a n k : ℕ) (old part : List ℕ) → a ≤ length old → n ≤ length part → take a old ++ take n part ≡ take (a + n) (put_mid a k old part)
joined a n k old part within fits =
    let new = put_mid a k old part in
    let front : take a new ≡ take a old = take-put_mid_below _ _ _ _ _ (le_refl _) within in
    let behind = drop_at (take a old) (part ++ post_of a k old) a (length-take-le a old within) in
    sym (take-add a n new ∙ rw (front, behind, take-append-le n part (post_of a k old) fits))

pub loop-end-preserved : goal.loop-end-preserved
loop-end-preserved g c =
    let l = c.loop-end in
    let r = c.in_ok-n in
    record {
      same_length = search rules;
      in_range = search rules;
      bytes = subst (Consumes _ _) (joined l.end r.n _ l.room c.read.new.buf l.invariant.in_range r.ensures.bound.0)
          (Consumes-trans _ _ _ _ _ l.invariant.bytes r.ensures.bytes.0);
    }
