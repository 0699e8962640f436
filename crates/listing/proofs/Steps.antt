-- What is left of the listing before and after each kind of step.
use mathlib.Core.Path.{◌≡◌, refl, sym, ap, ◌∙◌}
use mathlib.Core.List.{List, [], ◌++◌, append_assoc, append-nil}
use Prim.Native.Nat.{ℕ, ◌+◌, ◌-◌, ◌<◌, ◌≤◌}
use native.Mathlib.Nat.{zero-add}
use native.Mathlib.Omega.{arith}
use lib.ListN.{length, drop, length-append, length-drop}
use lib.Seq.{drop-drop}
use borrow.Author.Tests.{le-leb, lt-leb}
use Rattle.text.specs.Text.{Gains, Puts}
use Rattle.text.specs.declared.Text.{Text}
use Rattle.text.proofs.Puts.{after, gains_none, gains_then, puts_whole}
use Rattle.streams.specs.Stream.{walk}
use Rattle.streams.specs.code.Scan.{outside, scan}
use Rattle.streams.proofs.Walk.{Walked, nothing, message, walked as scanned, reports_scan}
use Rattle.messages.specs.Judge.{judge}
use Rattle.reading.specs.code.Told.{walked}
use Rattle.reading.specs.declared.walking.Report.{Report as Told}
use Rattle.listing.specs.Listing.{most, header, line, total, too_long, listing_of}
use Rattle.listing.specs.code.Pieces.{reports_at, left_behind, left_of, calls_left, least_room, GivesPiece}
use Rattle.listing.specs.code.Steps.{Within, Adds}
use Rattle.listing.specs.declared.Left.{Left}
use Rattle.listing.specs.declared.Left.TheVariants.{Whole, From, Nothing}
use Rattle.listing.proofs.Lines.{left_next, left_total}

-- A state of the input: what is left is what is left behind its lines.
pub left_within : (s : List ℕ) (place messages : ℕ) → Within s place messages → left_of s (From place messages) ≡ left_behind messages (reports_at s place)
unfolding left_of
left_within s place messages h = rw (le-leb messages place h.0, le-leb place (length s) h.1)

-- No state of the input: nothing is left.
pub left_past : (s : List ℕ) (place messages : ℕ) → place < messages → left_of s (From place messages) ≡ []
unfolding left_of
left_past s place messages h = rw (lt-leb messages place h)

pub left_outside : (s : List ℕ) (place messages : ℕ) → messages ≤ place → length s < place → left_of s (From place messages) ≡ []
unfolding left_of
left_outside s place messages h k = rw (le-leb messages place h, lt-leb place (length s) k)

-- The whole of a long input, and of another one.
pub whole_long : (s : List ℕ) → most < length s → left_of s Whole ≡ too_long ++ left_of s Nothing
unfolding left_of listing_of
whole_long s h = rw (lt-leb (length s) most h) (sym (append-nil too_long))

pub whole_starts : (s : List ℕ) → length s ≤ most → left_of s Whole ≡ header ++ left_of s (From 0 0)
unfolding left_of listing_of left_behind
whole_starts s h =
    rw (le-leb (length s) most h, left_within s 0 0 (omega arith, omega arith), reports_scan judge s, zero-add (length (scan judge 0 outside s)))

-- What the walk finds from a state of the input, as text: where it finds no message the count is left; else its line, and then what is left behind it.
module _ (s : List ℕ) (place messages : ℕ) (within : Within s place messages) where
  past : length (drop place s) ≡ length s - place
  past = length-drop place s

  pub record Next (r : Told) : Type 0 where
    pub further : place < r.end
    pub inside : r.end ≤ length s
    pub text : left_of s (From place messages) ≡ line r.start r.end r.outcome r.noise ++ left_of s (From r.end (messages + 1))

  pub none_left : length s ≤ (walked s place).start → left_of s (From place messages) ≡ total messages ++ left_of s Nothing
  unfolding left_of walk
  none_left h = by_walk (scanned judge (drop place s) place)
    where
      by_walk : Walked judge place (drop place s) → left_of s (From place messages) ≡ total messages ++ left_of s Nothing
      by_walk (nothing e₁ e₂) = left_within s place messages within ∙ rw e₂ (left_total messages ∙ sym (append-nil (total messages)))
      by_walk (message r e f) = absurd (let k = rw e at h in omega (arith, past, f.starts, f.some_bytes, f.within))

  pub next_left : (walked s place).start < length s → Next (walked s place)
  unfolding walk
  next_left h = by_walk (scanned judge (drop place s) place)
    where
      by_walk : Walked judge place (drop place s) → Next (walked s place)
      by_walk (nothing e₁ e₂) = absurd (let k = rw e₁ at h in omega arith)
      by_walk (message r e f) =
          let ahead : place + f.taken ≤ length s = omega (arith, past, f.within) in
          let behind : drop f.taken (drop place s) ≡ drop r.end s = drop-drop f.taken place s ∙ rw f.ends refl in
          let state = left_within s r.end (messages + 1) (omega (arith, f.ends, f.some_bytes), omega (arith, f.ends)) in
          rw e (record {
            further = omega (arith, f.ends, f.some_bytes);
            inside = omega (arith, f.ends);
            text =
                left_within s place messages within
                ∙ rw (f.rest, ← f.ends, behind) (left_next messages r (reports_at s r.end) ∙ rw (← state) refl);
          })

-- Where nothing is left, nothing is added.
pub adds_none : (s : List ℕ) (left : Left) (old : Text) → left_of s left ≡ [] → Adds s left old old Nothing
unfolding left_of calls_left
adds_none s left old e = record { added = []; text = e; few = omega arith; gains = gains_none old; fewer = omega arith }

-- Some call may follow where something is left.
pub some_call : (s : List ℕ) (left : Left) → (left ≡ Nothing → ⊥) → 0 < calls_left s left
unfolding calls_left
some_call s Whole n = omega arith
some_call s (From place messages) n = omega arith
some_call s Nothing n = absurd (n refl)

pub no_call : (s : List ℕ) (left : Left) → left ≡ Nothing → calls_left s left ≡ 0
unfolding calls_left
no_call s left e = rw e refl

-- The steps so far of a piece: what they put behind the text at the start, and that fewer calls may follow once there was one.
pub record SoFar (s : List ℕ) (left₀ : Left) (start text : Text) (left : Left) : Type 0 where
  pub put : List ℕ
  pub whole : left_of s left₀ ≡ put ++ left_of s left
  pub gains : Gains put start text
  pub long : text.end ≡ start.end + length put
  pub within : text.end ≤ length start.room.now
  pub none_more : calls_left s left ≤ calls_left s left₀
  pub fewer : start.end < text.end → calls_left s left < calls_left s left₀
  pub short : length start.room.now < least_room → (text.end ≡ start.end) × (left ≡ left₀)

pub no_step : (s : List ℕ) (left : Left) (text : Text) → text.end ≤ length text.room.now → SoFar s left text text left
no_step s left text h =
    record {
      put = [];
      whole = refl;
      gains = gains_none text;
      long = omega arith;
      within = h;
      none_more = omega arith;
      fewer = λ h. absurd (omega arith);
      short = λ h. (refl, refl);
    }

module _ {s : List ℕ} {left₀ : Left} {start text : Text} {left : Left} (f : SoFar s left₀ start text left) where
  pub same_room : length text.room.now ≡ length start.room.now
  same_room = (after f.put start.room.now start.end text.room.now text.end f.gains.puts).same_length

  pub one_more : {new : Text} {next : Left} → least_room ≤ length text.room.now - text.end → 0 < calls_left s left → Adds s left text new next
      → SoFar s left₀ start new next
  one_more {new} {next} k n a =
      let whole = puts_whole a.added text.room.now text.end (omega (arith, a.few)) in
      let ends : new.end ≡ text.end + length a.added = rw whole at a.gains.puts.ends in
      record {
        put = f.put ++ a.added;
        whole = f.whole ∙ rw a.text (simp append_assoc);
        gains = gains_then f.gains a.gains;
        long = ends ∙ rw f.long (omega (arith, length-append f.put a.added));
        within = omega (arith, a.few, same_room);
        none_more = omega (arith, a.fewer, f.none_more);
        fewer = λ z. omega (arith, a.fewer, f.none_more);
        short = λ h. absurd (omega (arith, k, same_room));
      }

  pub piece_given : {old new : List ℕ} {end : ℕ} → start.end ≡ 0 → start.room.now ≡ old → text.room.now ≡ new → end ≡ text.end
      → (least_room ≤ length old → calls_left s left ≤ calls_left s left₀ - 1) → GivesPiece s left₀ old new (record { len = end; left = left })
  piece_given {old} {new} {end} zero first last e fewer =
      let same = ap length first in
      let puts : Puts f.put old 0 new end = rw (zero, first, last, ← e) at f.gains.puts in
      let whole = puts_whole f.put old 0 (omega (arith, f.within, f.long)) in
      let long : end ≡ length f.put = omega (arith, f.long) in
      record {
        piece = f.put;
        text = f.whole;
        len = long;
        fits = omega (arith, f.within);
        room = puts.text ∙ rw (whole, long) refl;
        fewer = fewer;
        short = λ h. let k = f.short (omega arith) in (omega (arith, k.0), k.1);
      }
