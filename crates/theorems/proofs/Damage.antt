-- Demand 3, and what is shown of slipped neighbours. The damaged bytes stand between data bytes; by their kind the dump is cut short, interrupted,
-- of another length, or has bytes replaced or exchanged, and all of these are refused. F0H starts the dump in every state and F7H leaves it, so
-- nothing else changes.
use mathlib.Core.Path.{◌≡◌, refl, sym, ap, ◌∙◌, subst}
use mathlib.Core.Bool.{Bool, true, false}
use mathlib.Core.List.{List, [], ◌∷◌, ◌++◌, append_assoc, append-nil}
use mathlib.Core.Option.{none}
use Prim.Native.Nat.{ℕ, zero, suc, ◌+◌, ◌-◌, ◌≤◌, ◌<◌}
use native.Mathlib.Omega.{arith}
use lib.Dec.{ltb}
use lib.ListN.{length, take, drop, get_or, length-append, get_or-append}
use lib.Seq.{append_snoc, split_at, length-take-le, take_at, drop_at, get_or_at}
use borrow.Author.Tests.{ltb-true, ltb-false}
use Rattle.answers.specs.declared.Outcome.{Outcome}
use Rattle.answers.specs.Lists.{All}
use Rattle.answers.specs.Table.{Verdict, done, refused, answer_of, outcome}
use Rattle.answers.proofs.Lists.{all_append, all_left, all_right, all_weaken}
use Rattle.answers.proofs.Rows.{row_silent, row_equal}
use Rattle.answers.proofs.Effects.{passed}
use Rattle.streams.specs.Bytes.{byte_kind, dataByte, exclusive, endOfExclusive, realTime, framed}
use Rattle.streams.specs.Stream.{report}
use Rattle.streams.proofs.Bytes.{kind_is, lies_in, not_real_time}
use Rattle.streams.proofs.Scan.{DataByte}
use Rattle.streams.proofs.Closing.{Closes, Skips, byte_inside, byte_outside, data_inside, data_outside, close}
use Rattle.nibbles.specs.Nibbles.{nibbles, sum}
use Rattle.nibbles.proofs.Laws.{length_nibbles, nibbles_narrow, sum_below}
use Rattle.fields.specs.Fields.{fields}
use Rattle.patch.specs.Patch.{first_out, first_half}
use Rattle.patch.proofs.Tests.{fields_pass, fields_silent}
use Rattle.ranges.proofs.Runs.{run_bytes}
use Rattle.messages.specs.declared.kinds.Dump.{Dump}
use Rattle.messages.specs.declared.kinds.Kind.TheVariants.{Dump as of_dump}
use Rattle.messages.specs.declared.kinds.Packed.TheVariants.{Patch as a_patch}
use Rattle.messages.specs.Kinds.{Filed, size_of}
use Rattle.messages.specs.Judge.{misnumbered, judge}
use Rattle.messages.specs.Layout.{dump, behind_for, dump_given}
use Rattle.messages.proofs.Numbers.{never_13, dump_given_refusals, done_head}
use Rattle.messages.proofs.Filed.{filed_sized}
use Rattle.messages.proofs.DumpLaws.{dump_record, wrong_length, dump_accepted}
use Rattle.messages.proofs.Heads.{suffix_refused, opcode_exchanged}
use Rattle.messages.proofs.Neighbours.{comes_refused, two_replaced, exchanged, replaced}
use Rattle.messages.proofs.Written.{seven_bits, number_given}
use Rattle.theorems.specs.Damage.{Damage, replace, lose, add, replace_two, exchange, instead, damaged, Allowed, Contained, EveryPatchDump, Demand3}
use Rattle.theorems.specs.Slipped.{Shows, Slips, SlippedNeighbours}
use Rattle.theorems.proofs.Readings.{Refused}
use Rattle.theorems.proofs.Containment.{Laid, found, lay, one_message, parts, contained}

broken : Refused (refused (outcome 3 0))
broken = ((λ e. omega arith), (λ e. omega arith))

refused_judge : (m : List ℕ) → (answer_of (judge m) ≡ 0 → ⊥) → Refused (judge m)
refused_judge m h = (h, never_13 m)

-- Of a, b and z one behind the other, b gives way to w.
instead_at : (a b w z : List ℕ) (i n : ℕ) → length a ≡ i → length b ≡ n → instead i n w (a ++ (b ++ z)) ≡ a ++ (w ++ z)
instead_at a b w z i n ea eb =
    let behind : drop (i + n) (a ++ (b ++ z)) ≡ z = rw (← (append_assoc a b z)) (drop_at (a ++ b) z (i + n) (omega (arith, length-append a b))) in
    rw (take_at a (b ++ z) i ea, behind)

module _ (k : Dump) (filed : Filed (of_dump k)) (patch : k.packed ≡ a_patch) (n : ℕ) (number : misnumbered k.behind n ≡ false)
    (p : List ℕ) (l : length p ≡ 134) (out : first_out p ≡ none) (half : first_half p ≡ none) where
  -- The dump's first bytes behind F0H.
  abbrev head : List ℕ
  head = 0x10 ∷ 0x06 ∷ k.opcode ∷ n ∷ []

  abbrev front : List ℕ → List ℕ
  front u = 0xF0 ∷ (head ++ u)

  abbrev sent : List ℕ
  sent = nibbles p ++ (sum p ∷ [])

  sent_length : length sent ≡ 269
  sent_length = omega (arith, length-append (nibbles p) (sum p ∷ []), length_nibbles p)

  narrow : All (λ b. b < 16) (nibbles p)
  narrow = nibbles_narrow p (run_bytes fields 0 p out)

  sent_data : All DataByte sent
  sent_data =
      all_append DataByte (nibbles p) (sum p ∷ [])
      (all_weaken _ _ (λ b h. kind_is dataByte b (omega arith)) (nibbles p) narrow)
      (kind_is dataByte (sum p) (sum_below p), tt)

  head_data : All DataByte head
  head_data =
      let small = seven_bits (of_dump k) filed in
      let maker = kind_is dataByte 0x10 (omega arith) in
      let device = kind_is dataByte 0x06 (omega arith) in
      (maker, (device, (kind_is dataByte k.opcode small.0, (kind_is dataByte n (small.1 n number), tt))))

  -- A dump of another length.
  short : (w : List ℕ) → (length w ≡ 269 → ⊥) → Refused (judge (framed (head ++ w)))
  short w h = rw (wrong_length k filed n w (λ e. h (omega (arith, ap size_of patch)))) ((λ e. omega arith), (λ e. omega arith))

  abbrev whole : List ℕ
  whole = dump k.opcode n p

  abbrev Closed : List ℕ → List ℕ → Type 0
  Closed = Closes judge Refused

  -- The dump's bytes u, and v behind them.
  module _ (u v : List ℕ) (e : u ++ v ≡ sent) where
    abbrev rest : List ℕ
    rest = v ++ (0xF7 ∷ [])

    front_data : All DataByte (head ++ u)
    front_data = all_append DataByte head u head_data (all_left DataByte u v (rw e sent_data))

    back_data : All DataByte v
    back_data = all_right DataByte u v (rw e sent_data)

    dump_cut : whole ≡ front u ++ rest
    unfolding dump
    dump_cut = rw (← e, append_assoc u v (0xF7 ∷ []))

    -- Outside a message v is skipped; inside one it closes it.
    skipped : Skips judge Refused rest
    skipped = data_outside judge Refused v (0xF7 ∷ []) back_data (λ p. rw (kind_is endOfExclusive 0xF7 refl) (tt, refl))

    closing : (c : List ℕ) → Refused (judge (framed (c ++ v))) → Closed c rest
    closing c h = data_inside judge Refused c v (0xF7 ∷ []) back_data (close judge Refused (c ++ v) [] h (λ p. (tt, refl)))

    -- A message that starts with v.
    started : Closed [] rest
    started = closing [] (refused_judge (framed v) (suffix_refused u v (nibbles p) (sum p) narrow e))

    -- A byte y of any kind before v, behind the content c.
    one_more : (c : List ℕ) (y : ℕ) → (byte_kind y ≡ dataByte → Refused (judge (framed ((c ++ (y ∷ [])) ++ v))))
        → (byte_kind y ≡ realTime → Refused (judge (framed (c ++ v)))) → Refused (judge (framed c)) → Closed c (y ∷ rest)
    one_more c y taken dropped closed =
        byte_inside judge Refused c y rest broken (λ q. closing (c ++ (y ∷ [])) (taken q)) (λ q. closing c (dropped q)) closed (λ q. started) skipped

  -- A damaged dump: behind its F0H it closes, every message in it refused.
  record Spoilt (e : List ℕ) : Type 0 where
    w : List ℕ
    bytes : e ≡ 0xF0 ∷ w
    closes : Closed [] w

  -- Data bytes between F0H and F7H that are not accepted.
  not_accepted : (c : List ℕ) → All DataByte c → (answer_of (judge (framed c)) ≡ 0 → ⊥) → Spoilt (framed c)
  not_accepted c a h = record {
    w = c ++ (0xF7 ∷ []);
    bytes = refl;
    closes = data_inside judge Refused [] c (0xF7 ∷ []) a (close judge Refused c [] (refused_judge (framed c) h) (λ p. (tt, refl)));
  }

  -- The dump cut at place i before and behind the bytes m, all of them among its data bytes and its sum.
  record Cut (i : ℕ) (m : List ℕ) : Type 0 where
    u : List ℕ
    v : List ℕ
    sends : u ++ (m ++ v) ≡ sent
    place : length (front u) ≡ i

  byte_there : (u : List ℕ) (x : ℕ) (v : List ℕ) (i : ℕ) → u ++ x ∷ v ≡ sent → length (front u) ≡ i → get_or whole i 0 ≡ x
  byte_there u x v i e place = rw (dump_cut u (x ∷ v) e) (get_or_at (front u) x (v ++ (0xF7 ∷ [])) 0 i place)

  -- The byte before those cut out: the number where they are the first data bytes.
  before_there : (i : ℕ) (m : List ℕ) (c : Cut i m) → get_or whole (i - 1) 0 ≡ get_or (n ∷ c.u) (length c.u) 0
  before_there i m c =
      let index : i - 1 ≡ suc (suc (suc (suc (length c.u)))) = omega (arith, c.place) in
      rw (dump_cut c.u (m ++ c.v) c.sends, index) (get_or-append (n ∷ c.u) _ 0 (length c.u) (omega arith))

  one_cut : (i : ℕ) → 5 ≤ i → i < 274 → Cut i (get_or whole i 0 ∷ [])
  one_cut i h₁ h₂ =
      let j = i - 5 in
      let u = take j sent in
      let v = drop (suc j) sent in
      let e : u ++ get_or sent j 0 ∷ v ≡ sent = sym (split_at sent j 0 (omega (arith, sent_length))) in
      let place : length (front u) ≡ i = omega (arith, length-take-le j sent (omega (arith, sent_length))) in
      record { u = u; v = v; sends = rw (byte_there u (get_or sent j 0) v i e place) e; place = place }

  two_cut : (i : ℕ) → 5 ≤ i → suc i < 274 → Cut i (get_or whole i 0 ∷ get_or whole (suc i) 0 ∷ [])
  two_cut i h₁ h₂ = go c.v c.sends
    where
      c : Cut i (get_or whole i 0 ∷ [])
      c = one_cut i h₁ (omega arith)

      x : ℕ
      x = get_or whole i 0

      go : (w : List ℕ) → c.u ++ x ∷ w ≡ sent → Cut i (x ∷ get_or whole (suc i) 0 ∷ [])
      go [] e = absurd (omega (arith, c.place, sent_length, ap length e, length-append c.u (x ∷ [])))
      go (b ∷ v) e =
          let one : length (front (c.u ++ (x ∷ []))) ≡ suc i = omega (arith, c.place, length-append c.u (x ∷ [])) in
          let there = byte_there (c.u ++ (x ∷ [])) b v (suc i) (append_snoc c.u x (b ∷ v) ∙ e) one in
          record { u = c.u; v = v; sends = rw there e; place = c.place }

  -- What a damage at such bytes leaves.
  module _ (i : ℕ) (m : List ℕ) (c : Cut i m) where
    abbrev u : List ℕ
    u = c.u

    abbrev v : List ℕ
    v = c.v

    others : length u + length m + length v ≡ 269
    others = omega (arith, sent_length, ap length c.sends, length-append u (m ++ v), length-append m v)

    behind_m : (u ++ m) ++ v ≡ sent
    behind_m = append_assoc u m v ∙ c.sends

    -- The bytes w for n of m, in a dump that closes behind the bytes up to u.
    spoilt_by : (n : ℕ) (w t : List ℕ) → instead i n w whole ≡ front u ++ t → Closed (head ++ u) t → Spoilt (instead i n w whole)
    spoilt_by n w t e h =
        record { w = (head ++ u) ++ t; bytes = e; closes = data_inside judge Refused [] (head ++ u) t (front_data u (m ++ v) c.sends) h }

    for_m : (n : ℕ) → length m ≡ n → (w : List ℕ) → instead i n w whole ≡ front u ++ (w ++ rest (u ++ m) v behind_m)
    for_m n long w =
        rw (dump_cut u (m ++ v) c.sends, append_assoc m v (0xF7 ∷ [])) (instead_at (front u) m w (v ++ (0xF7 ∷ [])) i n c.place long)

    -- Other data bytes w for m.
    abbrev other : List ℕ → List ℕ
    other w = head ++ (u ++ (w ++ v))

    other_framed : (n : ℕ) → length m ≡ n → (w : List ℕ) → instead i n w whole ≡ framed (other w)
    other_framed n long w =
        for_m n long w ∙ ap (λ (t : List ℕ). front u ++ t) (sym (append_assoc w v (0xF7 ∷ []))) ∙ sym (append_assoc (front u) (w ++ v) (0xF7 ∷ []))

    other_data : (w : List ℕ) → All DataByte w → All DataByte (other w)
    other_data w a =
        all_append DataByte (head ++ u) (w ++ v) (front_data u (m ++ v) c.sends) (all_append DataByte w v a (back_data (u ++ m) v behind_m))

  -- One byte x.
  module _ (i x : ℕ) (c : Cut i (x ∷ [])) where
    abbrev u₁ : List ℕ
    u₁ = c.u

    abbrev v₁ : List ℕ
    v₁ = c.v

    left : length u₁ + length v₁ ≡ 268
    left = omega (arith, others i (x ∷ []) c)

    without : Refused (judge (framed (head ++ (u₁ ++ v₁))))
    without = short (u₁ ++ v₁) (λ z. omega (arith, left, length-append u₁ v₁))

    before_x : Refused (judge (framed (head ++ u₁)))
    before_x = short u₁ (λ z. omega (arith, left))

    one_replaced : (y : ℕ) → (y ≡ x → ⊥) → Spoilt (damaged (replace i y) whole)
    one_replaced y differs =
        spoilt_by i (x ∷ []) c 1 (y ∷ []) (y ∷ (v₁ ++ (0xF7 ∷ []))) (for_m i (x ∷ []) c 1 refl (y ∷ []))
        (one_more (u₁ ++ (x ∷ [])) v₁ (behind_m i (x ∷ []) c) (head ++ u₁) y
        (λ q. rw (append_snoc u₁ y v₁) (refused_judge (framed (head ++ (u₁ ++ y ∷ v₁))) (replaced k filed patch p l out n u₁ x v₁ y c.sends differs)))
        (λ q. without) before_x)

    one_lost : Spoilt (damaged (lose i) whole)
    one_lost =
        spoilt_by i (x ∷ []) c 1 [] (v₁ ++ (0xF7 ∷ [])) (for_m i (x ∷ []) c 1 refl [])
        (closing (u₁ ++ (x ∷ [])) v₁ (behind_m i (x ∷ []) c) (head ++ u₁) without)

    one_added : (y : ℕ) → y < 0xF8 → Spoilt (damaged (add i y) whole)
    one_added y h =
        let r = x ∷ (v₁ ++ (0xF7 ∷ [])) in
        let e : damaged (add i y) whole ≡ front u₁ ++ (y ∷ r) =
        rw (dump_cut u₁ (x ∷ v₁) c.sends) (instead_at (front u₁) [] (y ∷ []) r i 0 c.place refl) in
        spoilt_by i (x ∷ []) c 0 (y ∷ []) (y ∷ r) e
        (one_more u₁ (x ∷ v₁) c.sends (head ++ u₁) y
        (λ q. short ((u₁ ++ (y ∷ [])) ++ x ∷ v₁) (λ z. omega (arith, left, length-append (u₁ ++ (y ∷ [])) (x ∷ v₁), length-append u₁ (y ∷ []))))
        (λ q. absurd (not_real_time y h q)) before_x)

  -- Two neighbours a and b.
  module _ (i a b : ℕ) (c : Cut i (a ∷ b ∷ [])) where
    abbrev u₂ : List ℕ
    u₂ = c.u

    abbrev v₂ : List ℕ
    v₂ = c.v

    behind_both : (u₂ ++ (a ∷ b ∷ [])) ++ v₂ ≡ sent
    behind_both = behind_m i (a ∷ b ∷ []) c

    left_two : length u₂ + length v₂ ≡ 267
    left_two = omega (arith, others i (a ∷ b ∷ []) c)

    -- One byte for them.
    only : (y : ℕ) → Refused (judge (framed (head ++ ((u₂ ++ (y ∷ [])) ++ v₂))))
    only y = short ((u₂ ++ (y ∷ [])) ++ v₂) (λ z. omega (arith, left_two, length-append (u₂ ++ (y ∷ [])) v₂, length-append u₂ (y ∷ [])))

    both_replaced : (y z : ℕ) → suc i < 273 → ((y ≡ a) × (z ≡ b) → ⊥) → (y ≡ 0xF0 → z ≡ 0x10 → ⊥) → Spoilt (damaged (replace_two i y z) whole)
    both_replaced y z h differ not_ours =
        let r = v₂ ++ (0xF7 ∷ []) in
        let before = u₂ ++ (a ∷ b ∷ []) in
        let more = one_more before v₂ behind_both in
        let comes = two_replaced k filed patch p l out n u₂ a b v₂ y z c.sends (omega (arith, c.place)) differ in
        let both = refused_judge (framed (head ++ (u₂ ++ y ∷ z ∷ v₂))) (comes_refused k filed patch p l out comes) in
        let ends_u = short u₂ (λ e. omega (arith, left_two)) in
        let ends_y = short (u₂ ++ (y ∷ [])) (λ e. omega (arith, left_two, length-append u₂ (y ∷ []))) in
        let neither = short (u₂ ++ v₂) (λ e. omega (arith, left_two, length-append u₂ v₂)) in
        -- The first is data, is dropped, or starts a message.
        let data_first = more (head ++ (u₂ ++ (y ∷ []))) z
        (λ r. rw (append_snoc (u₂ ++ (y ∷ [])) z v₂, append_snoc u₂ y (z ∷ v₂)) both) (λ r. only y) ends_y in
        let dropped_first = more (head ++ u₂) z (λ r. only z) (λ r. neither) ends_u in
        let started_first : byte_kind y ≡ exclusive → Closed [] (z ∷ r) = λ q. more [] z
        (λ r. refused_judge (framed (z ∷ v₂)) (λ e. not_ours (lies_in exclusive y q) (done_head (framed (z ∷ v₂)) e).0))
        (λ r. refused_judge (framed v₂) (suffix_refused before v₂ (nibbles p) (sum p) narrow behind_both))
        (refused_judge (framed []) (λ e. omega (arith, (done_head (framed []) e).0))) in
        spoilt_by i (a ∷ b ∷ []) c 2 (y ∷ z ∷ []) (y ∷ z ∷ r) (for_m i (a ∷ b ∷ []) c 2 refl (y ∷ z ∷ []))
        (byte_inside judge Refused (head ++ u₂) y (z ∷ r) broken (λ q. data_first) (λ q. dropped_first) ends_u started_first
        (byte_outside judge Refused z r (started before v₂ behind_both) (skipped before v₂ behind_both)))

    exchange_data : All DataByte (other i (a ∷ b ∷ []) c (b ∷ a ∷ []))
    exchange_data =
        let d = all_right DataByte u₂ (a ∷ b ∷ v₂) (rw c.sends sent_data) in
        other_data i (a ∷ b ∷ []) c (b ∷ a ∷ []) (d.1.0, (d.0, tt))

    both_exchanged : (a ≡ b → ⊥) → Spoilt (instead i 2 (b ∷ a ∷ []) whole)
    both_exchanged differ =
        rw (other_framed i (a ∷ b ∷ []) c 2 refl (b ∷ a ∷ []))
        (not_accepted (other i (a ∷ b ∷ []) c (b ∷ a ∷ [])) exchange_data
        (comes_refused k filed patch p l out (exchanged k filed patch p l out n u₂ a b v₂ c.sends differ)))

  -- Neighbours exchanged in the header: the maker is wrong, the device, the opcode; or the first nibble stands for the number.
  maker_exchanged : Spoilt (framed (0x06 ∷ 0x10 ∷ k.opcode ∷ n ∷ sent))
  maker_exchanged =
      let h = head_data in
      not_accepted (0x06 ∷ 0x10 ∷ k.opcode ∷ n ∷ sent) (h.1.0, (h.0, (h.1.1.0, (h.1.1.1.0, sent_data))))
      (λ e. omega (arith, (done_head (framed (0x06 ∷ 0x10 ∷ k.opcode ∷ n ∷ sent)) e).0))

  device_exchanged : (0x06 ≡ k.opcode → ⊥) → Spoilt (framed (0x10 ∷ k.opcode ∷ 0x06 ∷ n ∷ sent))
  device_exchanged other =
      let h = head_data in
      not_accepted (0x10 ∷ k.opcode ∷ 0x06 ∷ n ∷ sent) (h.0, (h.1.1.0, (h.1.0, (h.1.1.1.0, sent_data))))
      (λ e. other (sym (done_head (framed (0x10 ∷ k.opcode ∷ 0x06 ∷ n ∷ sent)) e).1))

  number_exchanged : (k.opcode ≡ n → ⊥) → Spoilt (framed (0x10 ∷ 0x06 ∷ n ∷ k.opcode ∷ sent))
  number_exchanged other =
      let h = head_data in
      not_accepted (0x10 ∷ 0x06 ∷ n ∷ k.opcode ∷ sent) (h.0, (h.1.0, (h.1.1.1.0, (h.1.1.0, sent_data))))
      (opcode_exchanged k filed n number other sent (omega (arith, sent_length, (filed_sized (of_dump k) filed).0, ap size_of patch)))

  nibble_exchanged : (s : List ℕ) → s ≡ sent → let m = framed (head ++ s) in (n ≡ get_or m 5 0 → ⊥) → Spoilt (instead 4 2 (get_or m 5 0 ∷ n ∷ []) m)
  nibble_exchanged [] e other = absurd (omega (arith, ap length e, sent_length))
  nibble_exchanged (x ∷ v) e other =
      let h = head_data in
      let a = rw (sym e) at sent_data in
      not_accepted (0x10 ∷ 0x06 ∷ k.opcode ∷ x ∷ n ∷ v) (h.0, (h.1.0, (h.1.1.0, (a.0, (h.1.1.1.0, a.1)))))
      (replaced k filed patch p l out x [] x v n e other)

  -- The sum exchanged with the closing F7H.
  end_exchanged : (i : ℕ) → i ≡ 273 → Spoilt (instead i 2 (get_or whole (suc i) 0 ∷ get_or whole i 0 ∷ []) whole)
  end_exchanged i at_end =
      let ns = nibbles p in
      let s = sum p in
      let cut = dump_cut ns (s ∷ []) refl in
      let place : length (front ns) ≡ i = omega (arith, length_nibbles p) in
      let place' : length (front sent) ≡ suc i = omega (arith, sent_length) in
      let next_byte : get_or whole (suc i) 0 ≡ 0xF7 = rw (dump_cut sent [] (append-nil sent)) (get_or_at (front sent) 0xF7 [] 0 (suc i) place') in
      rw (byte_there ns s [] i refl place, next_byte)
      (spoilt_by i (s ∷ []) (record { u = ns; v = []; sends = refl; place = place }) 2 (0xF7 ∷ s ∷ []) (0xF7 ∷ s ∷ [])
      (rw cut (instead_at (front ns) (s ∷ 0xF7 ∷ []) (0xF7 ∷ s ∷ []) [] i 2 place refl))
      (close judge Refused (head ++ ns) (s ∷ []) (short ns (λ z. omega (arith, length_nibbles p)))
      (data_outside judge Refused (s ∷ []) [] (kind_is dataByte s (sum_below p), tt) (λ p. (tt, refl)))))

  behind_header : (i : ℕ) → 5 ≤ i → Allowed (exchange i) whole → Spoilt (damaged (exchange i) whole)
  behind_header i low h = by_place (ltb (suc i) 274) refl
    where
      by_place : (t : Bool) → ltb (suc i) 274 ≡ t → Spoilt (damaged (exchange i) whole)
      by_place true q = both_exchanged i (get_or whole i 0) (get_or whole (suc i) 0) (two_cut i low (ltb-true (suc i) 274 q)) h.2
      by_place false q = end_exchanged i (omega (arith, ltb-false (suc i) 274 q))

  neighbours_exchanged : (i : ℕ) → Allowed (exchange i) whole → Spoilt (damaged (exchange i) whole)
  unfolding dump
  neighbours_exchanged zero h = absurd (omega arith)
  neighbours_exchanged (suc zero) h = maker_exchanged
  neighbours_exchanged (suc (suc zero)) h = device_exchanged h.2
  neighbours_exchanged (suc (suc (suc zero))) h = number_exchanged h.2
  neighbours_exchanged (suc (suc (suc (suc zero)))) h = nibble_exchanged sent refl h.2
  neighbours_exchanged (suc (suc (suc (suc (suc j))))) h = behind_header (suc (suc (suc (suc (suc j))))) (omega arith) h

  spoilt : (x : Damage) → Allowed x whole → Spoilt (damaged x whole)
  spoilt (replace i y) h = one_replaced i (get_or whole i 0) (one_cut i h.0 h.1) y h.2
  spoilt (lose i) h = one_lost i (get_or whole i 0) (one_cut i h.0 h.1)
  spoilt (add i y) h = one_added i (get_or whole i 0) (one_cut i h.0 h.1) y h.2
  spoilt (replace_two i y z) h =
      both_replaced i (get_or whole i 0) (get_or whole (suc i) 0) (two_cut i h.0 (omega arith)) y z h.1 (λ e. h.2 e.0 e.1) h.3
  spoilt (exchange i) h = neighbours_exchanged i h

  accepted : judge whole ≡ dump_record k n p
  accepted = dump_accepted k filed n p number (l ∙ sym (ap size_of patch)) (run_bytes fields 0 p out) (rw patch (fields_silent p out half))

  -- Between any bytes.
  module _ (before behind : List ℕ) where
    -- The undamaged dump has one report.
    intact : Laid before whole behind (report (length before) (length before + length whole) (dump_record k n p) 0 ∷ [])
    unfolding dump
    intact = rw accepted at (one_message before (head ++ sent) behind (all_append DataByte head sent head_data sent_data))

    demand : (x : Damage) → Allowed x whole → Contained before whole (damaged x whole) behind (dump_record k n p)
    demand x h =
        let s = spoilt x h in
        let c = s.closes (suc (length before)) (length before) 0 in
        rw s.bytes
        (contained before whole (0xF0 ∷ s.w) behind (dump_record k n p) (found before s.w) intact (lay before s.w behind c.1) c.0)

    -- Two other data bytes, with which the dump comes to the refusal o.
    shows : (i a b : ℕ) (c : Cut i (a ∷ b ∷ [])) (y z : ℕ) (o : Outcome) → All DataByte (other i (a ∷ b ∷ []) c (y ∷ z ∷ []))
        → judge (framed (other i (a ∷ b ∷ []) c (y ∷ z ∷ []))) ≡ refused o → Shows before whole (instead i 2 (y ∷ z ∷ []) whole) behind o
    unfolding dump
    shows i a b c y z o d told =
        let w = other i (a ∷ b ∷ []) c (y ∷ z ∷ []) in
        let one = report (length before) (length before + length (framed w)) (judge (framed w)) 0 ∷ [] in
        let size : length (framed w) ≡ length (framed (head ++ sent)) = omega (
          arith,
          sent_length,
          left_two i a b c,
          length-append c.u (y ∷ z ∷ c.v),
          length-append w (0xF7 ∷ []),
          length-append sent (0xF7 ∷ []),
        ) in
        rw (other_framed i (a ∷ b ∷ []) c 2 refl (y ∷ z ∷ []), ← size)
        (rw told at (parts before (framed w) behind one (one_message before w behind d)).within)

    slips : Slips before whole behind
    slips = record {
      exchanged = λ i h₁ h₂ differ.
          let a = get_or whole i 0 in
          let b = get_or whole (suc i) 0 in
          let c = two_cut i h₁ h₂ in
          let index : i - 5 ≡ length c.u = omega (arith, c.place) in
          let comes = exchanged k filed patch p l out n c.u a b c.v c.sends differ in
          rw index (shows i a b c b a _ (exchange_data i a b c) (rw number at comes.to));
      replaced = λ i y z h₁ h₂ hy hz differ.
          let a = get_or whole i 0 in
          let b = get_or whole (suc i) 0 in
          let c = two_cut i h₁ (omega arith) in
          let index : i - 5 ≡ length c.u = omega (arith, c.place) in
          let comes = two_replaced k filed patch p l out n c.u a b c.v y z c.sends (omega (arith, c.place)) (λ e. differ e.0 e.1) in
          let d = other_data i (a ∷ b ∷ []) c (y ∷ z ∷ []) (kind_is dataByte y hy, (kind_is dataByte z hz, tt)) in
          rw (index, before_there i (a ∷ b ∷ []) c) (shows i a b c y z _ d (rw number at comes.to));
    }

-- What a writer takes, as the two need it.
every_patch_dump : (Holds : List ℕ → Verdict → Type 0) → ((k : Dump) → Filed (of_dump k) → k.packed ≡ a_patch → (n : ℕ) → misnumbered k.behind n ≡ false
    → (p : List ℕ) → length p ≡ 134 → first_out p ≡ none → first_half p ≡ none → Holds (dump k.opcode n p) (dump_record k n p)) → EveryPatchDump Holds
every_patch_dump Holds h k filed patch b p given ok =
    let n = behind_for k.behind b in
    let s = passed (dump_given k n p) (outcome 0 0) (dump_given_refusals k n p) (sym ok) refl in
    let f = fields_pass p (rw patch at s.1.1) in
    let number = row_silent 8 (misnumbered k.behind n) s.1.0 in
    let long = row_equal 7 (length p) (size_of k.packed) s.0 ∙ ap size_of patch in
    let its_record = ap (λ (c : List ℕ). done k.opcode c p) (number_given k.behind b given) in
    subst (Holds (dump k.opcode n p)) its_record (h k filed patch n number p long f.0 f.1)

-- Demand 3, whole: one damaged byte of a patch dump, or two neighbours, in any stream, cost that dump alone.
pub demand_3 : Demand3
demand_3 = every_patch_dump (λ d v. (before behind : List ℕ) (x : Damage) → Allowed x d → Contained before d (damaged x d) behind v) demand

pub slipped_neighbours : SlippedNeighbours
slipped_neighbours = every_patch_dump (λ d v. (before behind : List ℕ) → Slips before d behind) slips
