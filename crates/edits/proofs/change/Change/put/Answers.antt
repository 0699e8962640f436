-- Bytes copied into their part of the patch are stored one behind the other.
use Rattle.std.proofs.Common.{◌≡◌, ◌+◌, ◌≤◌, List, ℕ, length, take, drop, sym, arith, rules, append_assoc}
use borrow.Rule.Slice.PartMut.{put_mid}
use Rattle.std.proofs.lemmas.List.{drop-drop}
use Rattle.std.proofs.lemmas.List.Edits.{sets, sets-eq}
use Rattle.edits.proofs.change.Change.put.Goals as goal

part_stored : (bytes p : List ℕ) (k n m : ℕ) → length bytes ≡ n → m ≡ n → k + n ≤ length p → put_mid k m p bytes ≡ sets p k bytes
part_stored bytes p k n m e f h =
    let all = sets-eq bytes p k (omega arith) in
    rw (all, e, f, drop-drop n k p) (sym (append_assoc (take k p) bytes (drop (k + n) p)))

pub returns : goal.returns
returns g c =
    let s = c.args.self in
    let count : length s.bytes ≡ g.row.N = search rules in
    rw c.copy_from_slice.ensures.after (part_stored s.bytes c.args.p.now s.at g.row.N _ count (omega arith) (omega (arith, s.within)))
