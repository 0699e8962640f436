-- A message's bytes by its content, as the code has it: what stands between F0H and F7H.
use mathlib.Core.Path.{◌≡◌, refl}
use mathlib.Core.List.{List, [], ◌∷◌, ◌++◌}
use Prim.Native.Nat.{ℕ, suc, ◌+◌, ◌*◌, ◌<◌, ◌≤◌}
use native.Mathlib.Omega.{arith}
use lib.ListN.{length, take, drop, get_or, length-append, length-drop, get_or-append}
use lib.Seq.{append_snoc, take-append-le, drop-append-le, get_or-append_seam}
use Rattle.streams.specs.Bytes.{framed}
use Rattle.messages.specs.Judge.{byte_at, data_of, sum_of, bytes_from}

pub framed_length : (c : List ℕ) → length (framed c) ≡ length c + 2
framed_length c = omega (arith, length-append c (0xF7 ∷ []))

-- A byte of the content, and F7H behind the last.
pub framed_byte : (c : List ℕ) (i : ℕ) → i < length c → byte_at (framed c) (suc i) ≡ get_or c i 0
framed_byte c i h = get_or-append c (0xF7 ∷ []) 0 i h

pub framed_end : (c : List ℕ) (i : ℕ) → length c ≡ i → byte_at (framed c) (suc i) ≡ 0xF7
framed_end c i e = rw (← e) (get_or-append_seam c 0xF7 [] 0)

-- The data bytes and the sum of a dump of the right length.
pub framed_data : (size : ℕ) (c : List ℕ) → length c ≡ 5 + 2 * size → data_of size (framed c) ≡ take (2 * size) (drop 4 c)
unfolding data_of
framed_data size c h =
    let l : 2 * size ≤ length (drop 4 c) = simp length-drop (omega arith) in
    rw (drop-append-le 4 c (0xF7 ∷ []) (omega arith), take-append-le (2 * size) (drop 4 c) (0xF7 ∷ []) l)

pub framed_sum : (size : ℕ) (c : List ℕ) → length c ≡ 5 + 2 * size → sum_of size (framed c) ≡ get_or c (4 + 2 * size) 0
unfolding sum_of
framed_sum size c h =
    let e : 5 + 2 * size ≡ suc (4 + 2 * size) = omega arith in
    rw e (framed_byte c (4 + 2 * size) (omega arith))

-- The bytes r of a message, from the place where they stand.
pub bytes_at : (front r behind : List ℕ) → bytes_from (length r) (length front) (front ++ (r ++ behind)) ≡ r
bytes_at front [] behind = refl
bytes_at front (x ∷ r) behind =
    let one : length (front ++ (x ∷ [])) ≡ suc (length front) = omega (arith, length-append front (x ∷ [])) in
    rw (get_or-append_seam front x (r ++ behind) 0, rw (append_snoc front x (r ++ behind), one) at (bytes_at (front ++ (x ∷ [])) r behind))

-- The bytes of a short message of the right length.
pub framed_bytes : (n : ℕ) (c : List ℕ) → length c ≡ 3 + n → bytes_from n 4 (framed c) ≡ drop 3 c
framed_bytes n [] l = absurd (omega arith)
framed_bytes n (x ∷ []) l = absurd (omega arith)
framed_bytes n (x ∷ y ∷ []) l = absurd (omega arith)
framed_bytes n (x ∷ y ∷ z ∷ r) l =
    let same : length r ≡ n = omega arith in
    rw (← same) (bytes_at (0xF0 ∷ x ∷ y ∷ z ∷ []) r (0xF7 ∷ []))
