-- One nibble of a dump replaced. The data byte is above 15; or its packed byte has another sum, or moved by 128, and is left to the tests of the
-- packed bytes. A table whose ranges span at most 128 bytes refuses it there; bytes of any value are accepted.
use mathlib.Core.Path.{◌≡◌, refl, sym, ap, ◌∙◌}
use mathlib.Core.Bool.{Bool, true, false, ◌||◌, cond}
use mathlib.Core.List.{List, [], ◌∷◌, ◌++◌, append_assoc}
use mathlib.Core.Logic.{◌↔◌, ◌⊎◌, inl, inr, ⊎_elim}
use mathlib.Core.Option.{none, some}
use Prim.Native.Nat.{ℕ, suc, ◌+◌, ◌*◌, ◌/◌, ◌%◌, ◌<◌}
use native.Mathlib.Nat.{zero-add, le_of_suc-le-suc}
use native.Mathlib.Omega.{arith}
use lib.Dec.{eqb, ltb}
use lib.ListN.{length, get_or, take, drop, set, length-append}
use lib.Seq.{append_snoc, length-take-le, split_at, set_at, get_or_at}
use borrow.Author.Tests.{eq-eqb, ne_eqb, le-ltb, eqb-true, eqb-false, ltb-true, ltb-false}
use Rattle.answers.specs.Lists.{All}
use Rattle.answers.specs.Table.{Verdict, refused, first, outcome, outcome_at, answer_of}
use Rattle.answers.proofs.Lists.{all_append, all_left, all_right}
use Rattle.answers.proofs.Rows.{row_silent, row_equal, row_found_silent}
use Rattle.answers.specs.promises.Decides.{Silent}
use Rattle.nibbles.specs.Nibbles.{nibbles, pack, total, sum}
use Rattle.nibbles.proofs.Laws.{length_nibbles, nibbles_narrow, pack_pair, sum_around, missed, sums_alike}
use Rattle.nibbles.proofs.Laws.{Position, at_low, at_high, at_sum, position}
use Rattle.ranges.specs.Ranges.{Table, out_from, out_by, value_in}
use Rattle.ranges.specs.promises.Tables.{Apart}
use Rattle.ranges.proofs.Between.{MovedBy}
use Rattle.ranges.proofs.Runs.{runs_moved}
use Rattle.fields.specs.Fields.{fields}
use Rattle.fields.proofs.Rules.{rows, apart as fields_apart}
use Rattle.splits.specs.Splits.{split_fields}
use Rattle.splits.proofs.Rule.{rule as split_rule}
use Rattle.patch.specs.Patch.{half_from}
use Rattle.messages.specs.Kinds.{any_bytes, Dump, of_dump, single_patch, split_patch, master_parameters, edit_buffer, master, shape_of, Filed, kind_of}
use Rattle.messages.specs.Judge.{misnumbered, packed_rows, sent_rows, byte_at, judge}
use Rattle.messages.specs.Layout.{message_of, dump, message, record_for, behind_for, given_rows}
use Rattle.messages.specs.promises.OneNibble.{with_nibble, moved_by128, nibble_verdict, AsWritten, Replaced, nibble_refusal, RefusedNibble}
use Rattle.messages.specs.promises.OneNibble.{AcceptedNibble, OneNibble}
use Rattle.messages.proofs.Written.{number_given, packed_bytes}
use Rattle.messages.proofs.DumpLaws.{size, dump_record, too_wide, wrong_sum, right_sum, dump_tested}

-- What the test of a byte that moved by 128 says.
moved : (c c' : ℕ) → moved_by128 c c' ≡ true → MovedBy 128 c c'
moved c c' e = go (eqb c' (c + 128)) refl (eqb c (c' + 128)) refl e
  where
    go : (s : Bool) → eqb c' (c + 128) ≡ s → (t : Bool) → eqb c (c' + 128) ≡ t → (s || t) ≡ true → MovedBy 128 c c'
    go true q t r e = inl (eqb-true c' (c + 128) q)
    go false q true r e = inr (eqb-true c (c' + 128) r)
    go false q false r e = let z : ◌≡◌ {A = ℕ} 0 1 = cc in absurd (omega arith)

not_moved : (c c' : ℕ) → moved_by128 c c' ≡ false → MovedBy 128 c c' → ⊥
not_moved c c' e m =
    let z : moved_by128 c c' ≡ true =
    ⊎_elim (λ (up : c' ≡ c + 128). rw (eq-eqb c' (c + 128) up)) (λ (down : c ≡ c' + 128). rw (eq-eqb c (c' + 128) down) (go (eqb c' (c + 128)))) m in
    let y : ◌≡◌ {A = ℕ} 0 1 = cc in
    absurd (omega arith)
  where
    go : (t : Bool) → (t || true) ≡ true
    go true = refl
    go false = refl

module _ (k : Dump) (filed : Filed (of_dump k)) (n : ℕ) (number : misnumbered k.behind n ≡ false)
    (p : List ℕ) (l : length p ≡ size k) (bytes : All (λ b. b < 256) p) where
  -- The dump with the bytes w behind n.
  abbrev comes : List ℕ → Verdict
  comes w = judge (message_of k.opcode (n ∷ w))

  -- What packed bytes come to by their own tests.
  abbrev left_to : List ℕ → Verdict
  left_to p' = first (packed_rows k.packed p') (dump_record k n p')

  -- The data bytes d in the place of p's, but p's sum.
  by_data : (d : List ℕ) → length d ≡ 2 * size k → comes (d ++ (sum p ∷ [])) ≡ first (sent_rows k.packed d (sum p)) (dump_record k n (pack d))
  by_data d long = dump_tested k filed n d (sum p) long ∙ rw number

  module _ (p₁ : List ℕ) (c : ℕ) (p₂ : List ℕ) (e₀ : p ≡ p₁ ++ c ∷ p₂) where
    parts : All (λ b. b < 256) p₁ × All (λ b. b < 256) (c ∷ p₂)
    parts = let a = rw e₀ at bytes in (all_left _ p₁ (c ∷ p₂) a, all_right _ p₁ (c ∷ p₂) a)

    front : All (λ b. b < 16) (nibbles p₁)
    front = nibbles_narrow p₁ parts.0

    here : get_or p (length p₁) 0 ≡ c
    here = rw e₀ (get_or_at p₁ c p₂ 0 (length p₁) refl)

    stored : (c' : ℕ) → set p (length p₁) c' ≡ p₁ ++ c' ∷ p₂
    stored c' = rw e₀ (set_at p₁ c p₂ c' (length p₁) refl)

    -- The data bytes x and y in the place of the nibbles of c.
    abbrev data_with : ℕ → ℕ → List ℕ
    data_with x y = nibbles p₁ ++ (x ∷ y ∷ nibbles p₂)

    long : (x y : ℕ) → length (data_with x y) ≡ 2 * size k
    long x y = omega (
      arith,
      length-append (nibbles p₁) (x ∷ y ∷ nibbles p₂),
      length_nibbles p₁,
      length_nibbles p₂,
      length-append p₁ (c ∷ p₂),
      ap length e₀,
    )

    with_sum : (x y : ℕ) → nibbles p₁ ++ (x ∷ y ∷ (nibbles p₂ ++ (sum p ∷ []))) ≡ data_with x y ++ (sum p ∷ [])
    with_sum x y = sym (append_assoc (nibbles p₁) (x ∷ y ∷ nibbles p₂) (sum p ∷ []))

    -- Two nibbles that are not those of c: the sum is wrong, or they make a byte that moved by 128.
    changed : (x y : ℕ) → x < 16 → y < 16 → (x + 16 * y ≡ c → ⊥)
        → comes (data_with x y ++ (sum p ∷ []))
        ≡ cond (moved_by128 c (x + 16 * y)) (left_to (p₁ ++ (x + 16 * y) ∷ p₂)) (refused (outcome 10 0))
    changed x y hx hy other = by_data d (long x y) ∙ go (moved_by128 c (x + 16 * y)) refl
      where
        d : List ℕ
        d = data_with x y

        t : ℕ
        t = total p₁ + total p₂

        small : c < 256
        small = parts.1.0

        narrow : All (λ b. b < 16) d
        narrow = all_append (λ b. b < 16) (nibbles p₁) (x ∷ y ∷ nibbles p₂) front (hx, (hy, nibbles_narrow p₂ parts.1.1))

        was : sum p ≡ (t + (c % 16 + 16 * (c / 16))) % 128
        was = rw e₀ (omega (arith, sum_around p₁ c p₂))

        is : sum (pack d) ≡ (t + (x + 16 * y)) % 128
        is = rw (pack_pair p₁ p₂ x y) (sum_around p₁ (x + 16 * y) p₂)

        -- The sum misses it.
        alike : MovedBy 128 c (x + 16 * y) → sum p ≡ sum (pack d)
        alike m =
            let low : x ≡ c % 16 = ⊎_elim (λ e. omega arith) (λ e. omega arith) m in
            let high : MovedBy 8 (c / 16) y = ⊎_elim (λ e. inl (omega arith)) (λ e. inr (omega arith)) m in
            was ∙ sums_alike t (c % 16) (c / 16) x y (record { low = low; high = inr high }) ∙ sym is

        -- And nothing else.
        apart_else : (MovedBy 128 c (x + 16 * y) → ⊥) → sum p ≡ sum (pack d) → ⊥
        apart_else stays e =
            let m = missed t (c % 16) (c / 16) x y (omega arith) (omega (arith, small)) hx hy (sym was ∙ e ∙ is) in
            let low = m.low in
            ⊎_elim (λ (z : y ≡ c / 16). other (omega arith))
            (λ (z : MovedBy 8 (c / 16) y). stays (⊎_elim (λ e. inl (omega arith)) (λ e. inr (omega arith)) z)) m.high

        go : (u : Bool) → moved_by128 c (x + 16 * y) ≡ u
            → first (sent_rows k.packed d (sum p)) (dump_record k n (pack d)) ≡ cond u (left_to (p₁ ++ (x + 16 * y) ∷ p₂)) (refused (outcome 10 0))
        go true q = right_sum k.packed d (sum p) narrow (alike (moved c (x + 16 * y) q)) _ ∙ rw (pack_pair p₁ p₂ x y)
        go false q = wrong_sum k.packed d (sum p) narrow (apart_else (not_moved c (x + 16 * y) q)) _

  -- The verdict, by the index of the data byte.
  abbrev verdict : ℕ → ℕ → Verdict
  verdict i y =
      let c = get_or p (i / 2) 0 in
      let c' = with_nibble i y c in
      cond (ltb 15 y) (refused (outcome 9 i)) (cond (moved_by128 c c') (left_to (set p (i / 2) c')) (refused (outcome 10 0)))

  -- The data bytes u before y are nibbles: y is above 15, or one itself.
  by_width : (u : List ℕ) (y : ℕ) (v : List ℕ) (w : Verdict) → All (λ b. b < 16) u → (d : List ℕ) (r : List ℕ)
      → u ++ y ∷ v ≡ d ++ (sum p ∷ []) → d ≡ u ++ y ∷ r → length d ≡ 2 * size k → (y < 16 → comes (u ++ y ∷ v) ≡ w)
      → comes (u ++ y ∷ v) ≡ cond (ltb 15 y) (refused (outcome 9 (length u))) w
  by_width u y v w narrow d r e f long nibble = go (ltb 15 y) refl
    where
      go : (t : Bool) → ltb 15 y ≡ t → comes (u ++ y ∷ v) ≡ cond t (refused (outcome 9 (length u))) w
      go true q = ap comes e ∙ by_data d long ∙ rw f (too_wide k.packed u y r (sum p) narrow (ltb-true 15 y q) _)
      go false q = let small = ltb-false 15 y q in nibble (omega arith)

  by_position : (u : List ℕ) (x : ℕ) (v : List ℕ) (y : ℕ) → Position p (sum p) u x v → length u < 2 * size k → (y ≡ x → ⊥)
      → comes (u ++ y ∷ v) ≡ verdict (length u) y
  by_position u x v y (at_sum e₁ e₂ e₃) h ne = absurd (omega (arith, ap length e₁, length_nibbles p))
  by_position u x v y (at_low p₁ c p₂ e₀ e₁ e₂ e₃) h ne =
      let small = (parts p₁ c p₂ e₀).1.0 in
      let even : length u % 2 ≡ 0 = omega (arith, ap length e₁, length_nibbles p₁) in
      let half : length u / 2 ≡ length p₁ = omega (arith, ap length e₁, length_nibbles p₁) in
      let same : u ++ y ∷ v ≡ data_with p₁ c p₂ e₀ y (c / 16) ++ (sum p ∷ []) = rw (e₁, e₃) (with_sum p₁ c p₂ e₀ y (c / 16)) in
      rw (half, here p₁ c p₂ e₀, eq-eqb (length u % 2) 0 even, stored p₁ c p₂ e₀ (y + 16 * (c / 16)))
      (by_width u y v _ (rw e₁ (front p₁ c p₂ e₀)) (data_with p₁ c p₂ e₀ y (c / 16)) ((c / 16) ∷ nibbles p₂) same (rw e₁) (long p₁ c p₂ e₀ y (c / 16))
      (λ hy. ap comes same ∙ changed p₁ c p₂ e₀ y (c / 16) hy (omega arith) (λ z. ne (omega arith))))
  by_position u x v y (at_high p₁ c p₂ e₀ e₁ e₂ e₃) h ne =
      let small = (parts p₁ c p₂ e₀).1.0 in
      let snoc = length-append (nibbles p₁) ((c % 16) ∷ []) in
      let odd : length u % 2 ≡ 0 → ⊥ = λ z. omega (arith, ap length e₁, snoc, length_nibbles p₁) in
      let half : length u / 2 ≡ length p₁ = omega (arith, ap length e₁, snoc, length_nibbles p₁) in
      let same : u ++ y ∷ v ≡ data_with p₁ c p₂ e₀ (c % 16) y ++ (sum p ∷ []) =
      rw (e₁, e₃, append_snoc (nibbles p₁) (c % 16) (y ∷ (nibbles p₂ ++ (sum p ∷ [])))) (with_sum p₁ c p₂ e₀ (c % 16) y) in
      let narrow : All (λ b. b < 16) u = rw e₁ (all_append (λ b. b < 16) (nibbles p₁) ((c % 16) ∷ []) (front p₁ c p₂ e₀) (omega arith, tt)) in
      rw (half, here p₁ c p₂ e₀, ne_eqb (length u % 2) 0 odd, stored p₁ c p₂ e₀ (c % 16 + 16 * y))
      (by_width u y v _ narrow (data_with p₁ c p₂ e₀ (c % 16) y) (nibbles p₂) same (rw (e₁, append_snoc (nibbles p₁) (c % 16) (y ∷ nibbles p₂)))
      (long p₁ c p₂ e₀ (c % 16) y)
      (λ hy. ap comes same ∙ changed p₁ c p₂ e₀ (c % 16) y (omega arith) hy (λ z. ne (omega arith))))

  -- The nibble that a data byte is.
  nibble_at : (u : List ℕ) (x : ℕ) (v : List ℕ) → Position p (sum p) u x v → length u < 2 * size k
      → x ≡ cond (eqb (length u % 2) 0) (get_or p (length u / 2) 0 % 16) (get_or p (length u / 2) 0 / 16)
  nibble_at u x v (at_sum e₁ e₂ e₃) h = absurd (omega (arith, ap length e₁, length_nibbles p))
  nibble_at u x v (at_low p₁ c p₂ e₀ e₁ e₂ e₃) h =
      let even : length u % 2 ≡ 0 = omega (arith, ap length e₁, length_nibbles p₁) in
      let half : length u / 2 ≡ length p₁ = omega (arith, ap length e₁, length_nibbles p₁) in
      rw (half, here p₁ c p₂ e₀, eq-eqb (length u % 2) 0 even) e₂
  nibble_at u x v (at_high p₁ c p₂ e₀ e₁ e₂ e₃) h =
      let snoc = length-append (nibbles p₁) ((c % 16) ∷ []) in
      let odd : length u % 2 ≡ 0 → ⊥ = λ z. omega (arith, ap length e₁, snoc, length_nibbles p₁) in
      let half : length u / 2 ≡ length p₁ = omega (arith, ap length e₁, snoc, length_nibbles p₁) in
      rw (half, here p₁ c p₂ e₀, ne_eqb (length u % 2) 0 odd) e₂

-- The byte x that stands behind the first five bytes of a message and i more, and another in its place.
module _ (op n : ℕ) (sent u : List ℕ) (x : ℕ) (v : List ℕ) (i : ℕ) (e : sent ≡ u ++ x ∷ v) (before : length u ≡ i) where
  abbrev start : List ℕ
  start = 0xF0 ∷ 0x10 ∷ 0x06 ∷ op ∷ n ∷ u

  place : length start ≡ 5 + i
  place = omega arith

  parted : (y : ℕ) → message_of op (n ∷ (u ++ y ∷ v)) ≡ start ++ y ∷ (v ++ (0xF7 ∷ []))
  parted y = ap (λ (w : List ℕ). 0xF0 ∷ 0x10 ∷ 0x06 ∷ op ∷ n ∷ w) (append_assoc u (y ∷ v) (0xF7 ∷ []))

  whole : message_of op (n ∷ sent) ≡ start ++ x ∷ (v ++ (0xF7 ∷ []))
  whole = ap (λ (w : List ℕ). message_of op (n ∷ w)) e ∙ parted x

  there : byte_at (message_of op (n ∷ sent)) (5 + i) ≡ x
  there = ap (λ (w : List ℕ). byte_at w (5 + i)) whole ∙ get_or_at start x (v ++ (0xF7 ∷ [])) 0 (5 + i) place

  replaced : (y : ℕ) → set (message_of op (n ∷ sent)) (5 + i) y ≡ message_of op (n ∷ (u ++ y ∷ v))
  replaced y = ap (λ (w : List ℕ). set w (5 + i) y) whole ∙ set_at start x (v ++ (0xF7 ∷ [])) y (5 + i) place ∙ sym (parted y)

-- A dump as our writer writes it.
module _ (k : Dump) (filed : Filed (of_dump k)) (b p : List ℕ) (passes : Silent (given_rows (of_dump k) b p)) (bytes : All (λ b. b < 256) p) where
  abbrev n : ℕ
  n = behind_for k.behind b

  abbrev m : List ℕ
  m = message (of_dump k) b p

  number : misnumbered k.behind n ≡ false
  number = row_silent 8 (misnumbered k.behind n) passes.1.0

  long_packed : length p ≡ size k
  long_packed = row_equal 7 (length p) (size k) passes.0

  abbrev sent : List ℕ
  sent = nibbles p ++ (sum p ∷ [])

  module _ (i : ℕ) (h : i < 2 * size k) where
    cut : sent ≡ take i sent ++ get_or sent i 0 ∷ drop (suc i) sent
    cut = split_at sent i 0 (omega (arith, length-append (nibbles p) (sum p ∷ []), length_nibbles p, long_packed))

    before : length (take i sent) ≡ i
    before = length-take-le i sent (omega (arith, length-append (nibbles p) (sum p ∷ []), length_nibbles p, long_packed))

    stands : Position p (sum p) (take i sent) (get_or sent i 0) (drop (suc i) sent)
    stands = position p (sum p) (take i sent) (get_or sent i 0) (drop (suc i) sent) (sym cut)

    same : byte_at m (5 + i) ≡ get_or sent i 0
    unfolding dump
    same = there k.opcode n sent (take i sent) (get_or sent i 0) (drop (suc i) sent) i cut before

    -- Its data byte i is a nibble of packed byte i / 2.
    nibble_there : byte_at m (5 + i) ≡ cond (eqb (i % 2) 0) (get_or p (i / 2) 0 % 16) (get_or p (i / 2) 0 / 16)
    nibble_there = same ∙ (rw before at (nibble_at k filed n number p long_packed bytes _ _ _ stands (omega (arith, before))))

    with_other : (y : ℕ) → (y ≡ byte_at m (5 + i) → ⊥) → judge (set m (5 + i) y) ≡ verdict k filed n number p long_packed bytes i y
    unfolding dump
    with_other y ne =
        rw (replaced k.opcode n sent (take i sent) (get_or sent i 0) (drop (suc i) sent) i cut before y)
        (rw before at (by_position k filed n number p long_packed bytes _ _ _ y stands (omega (arith, before)) (rw same at ne)))

module _ (k : Dump) (filed : Filed (of_dump k)) (b p : List ℕ) (w : AsWritten k b p) where
  fields_in : out_by (shape_of k.packed).table p ≡ none
  fields_in = row_found_silent 11 _ w.passes.1.1.0

  all_bytes : All (λ b. b < 256) p
  all_bytes = packed_bytes (shape_of k.packed).table p w.bytes fields_in

  every : (i y : ℕ) → Replaced k b p i y (nibble_verdict k b p i y)
  every i y h d ne = rw (number_given k.behind b w.given) at (with_other k filed b p w.passes all_bytes i h y ne)

  -- A byte that moved by 128 is refused by the table.
  module _ (t : Table) (has : (shape_of k.packed).table ≡ some t) (apart : Apart t) (fits : length p ≡ length t) where
    moved_refused : (j c' : ℕ) → j < length p → MovedBy 128 (get_or p j 0) c' → (v : Verdict)
        → first (packed_rows k.packed (set p j c')) v ≡ refused (outcome_at 11 j (value_in t j c'))
    moved_refused j c' h m v =
        let p₁ = take j p in
        let p₂ = drop (suc j) p in
        let e = split_at p j 0 h in
        let at = length-take-le j p (omega arith) in
        let stored : set p j c' ≡ p₁ ++ c' ∷ p₂ = ap (λ (q : List ℕ). set q j c') e ∙ set_at p₁ (get_or p j 0) p₂ c' j at in
        let whole : out_from t 0 (p₁ ++ get_or p j 0 ∷ p₂) ≡ none = rw (← e) (rw has at fields_in) in
        let out = runs_moved t apart 0 p₁ (get_or p j 0) c' p₂ (omega (arith, ap length e)) whole m in
        rw (stored, has, out, zero-add (length p₁), at)

    tabled : (i y : ℕ) → Replaced k b p i y (refused (nibble_refusal t i y (get_or p (i / 2) 0)))
    tabled i y h d ne = every i y h d ne ∙ go (ltb 15 y) (moved_by128 c c') refl
      where
        c : ℕ
        c = get_or p (i / 2) 0

        c' : ℕ
        c' = with_nibble i y c

        inside : i / 2 < length p
        inside = omega (arith, long_packed k filed b p w.passes all_bytes)

        go : (s u : Bool) → moved_by128 c c' ≡ u
            → cond s (refused (outcome 9 i))
            (cond u (first (packed_rows k.packed (set p (i / 2) c')) (record_for (of_dump k) b (set p (i / 2) c'))) (refused (outcome 10 0)))
            ≡ refused (cond s (outcome 9 i) (cond u (outcome_at 11 (i / 2) (value_in t (i / 2) c')) (outcome 10 0)))
        go true u q = refl
        go false true q = moved_refused (i / 2) c' inside (moved c c' q) _
        go false false q = refl

with_table : (k : Dump) (t : Table) → Filed (of_dump k) → (shape_of k.packed).table ≡ some t → length t ≡ size k → Apart t → RefusedNibble k t
with_table k t filed has fits apart b p w =
    tabled k filed b p w t has apart (long_packed k filed b p w.passes (all_bytes k filed b p w) ∙ sym fits)

-- By one nibble a byte moves by 128 exactly when it is the high one, and moved by 8.
high_moved : (i y c x : ℕ) → y < 16 → x ≡ cond (eqb (i % 2) 0) (c % 16) (c / 16)
    → MovedBy 128 c (with_nibble i y c) ↔ ((i % 2 ≡ 1) × ((y ≡ x + 8) ⊎ (x ≡ y + 8)))
high_moved i y c x hy e = go (eqb (i % 2) 0) refl e
  where
    go : (t : Bool) → eqb (i % 2) 0 ≡ t → x ≡ cond t (c % 16) (c / 16)
        → MovedBy 128 c (cond t (y + 16 * (c / 16)) (c % 16 + 16 * y)) ↔ ((i % 2 ≡ 1) × ((y ≡ x + 8) ⊎ (x ≡ y + 8)))
    go true q e =
        let even = eqb-true (i % 2) 0 q in
        ((λ m. absurd (⊎_elim (λ z. omega arith) (λ z. omega arith) m)), (λ z. absurd (omega (arith, z.0))))
    go false q e =
        let odd = eqb-false (i % 2) 0 q in (
          (λ m. (omega arith, ⊎_elim (λ z. inl (omega arith)) (λ z. inr (omega arith)) m)),
          (λ z. ⊎_elim (λ u. inl (omega arith)) (λ u. inr (omega arith)) z.1),
        )

bytes_of_any : (k : Dump) (count : ℕ) → Filed (of_dump k) → k.packed ≡ any_bytes count → AcceptedNibble k
unfolding half_from
bytes_of_any k count filed any b p bytes passes i y h hy ne =
    let all = rw any at bytes in
    let c' = with_nibble i y (get_or p (i / 2) 0) in
    let exactly = high_moved i y (get_or p (i / 2) 0) (byte_at (message (of_dump k) b p) (5 + i)) hy (nibble_there k filed b p passes all i h) in
    rw (with_other k filed b p passes all i h y ne, le-ltb 15 y (le_of_suc-le-suc hy), any)
    (by_move (get_or p (i / 2) 0) c' _ (dump_record k (behind_for k.behind b) (set p (i / 2) c')) refl exactly)
  where
    -- Accepted with the record v where the byte c moved by 128, to c'.
    by_move : (c c' : ℕ) (P : Type 0) (v : Verdict) → answer_of v ≡ 0 → MovedBy 128 c c' ↔ P → (answer_of (cond (moved_by128 c c') v (refused (outcome 10 0))) ≡ 0) ↔ P
    by_move c c' P v z exactly = go (moved_by128 c c') refl
      where
        go : (u : Bool) → moved_by128 c c' ≡ u → (answer_of (cond u v (refused (outcome 10 0))) ≡ 0) ↔ P
        go true q = ((λ e. exactly.0 (moved c c' q)), (λ e. z))
        go false q = ((λ e. absurd (omega arith)), (λ e. absurd (not_moved c c' q (exactly.1 e))))

-- The kinds that are filed.
pub one_nibble : OneNibble
unfolding kind_of
one_nibble = record {
  every_dump = λ k filed b p w. every k filed b p w;
  with_table = with_table;
  split = with_table split_patch split_fields refl refl split_rule.rows split_rule.apart;
  patch = with_table single_patch fields refl refl rows fields_apart;
  to_edit_buffer = with_table edit_buffer fields refl refl rows fields_apart;
  bytes_of_any = bytes_of_any;
  master = bytes_of_any master_parameters master refl refl;
}
