-- What an edit that is done has done.
use Rattle.std.specs.Prelude.{◌≡◌, List, ℕ, ◌≤◌, ◌<◌, get_or, set}
use Rattle.std.proofs.Math.Option.{some}
use Rattle.answers.specs.Table.{outcome}
use Rattle.answers.specs.Effect.{tested}
use Rattle.fields.specs.Fields.{size, value_at, place_of}
use Rattle.patch.specs.Patch.{source_at, amount_at, destination_at, patch_rows, held, holding}
use Rattle.edits.specs.Edits.{extended, stored_for, with_bus, applying, applying_bus}

-- A remote edit that is done: the byte at its parameter's place becomes the value as stored, every other byte stays, and the patch
-- afterwards passes its tests.
pub record EditDone (n v : ℕ) (p : List ℕ) : Type 0 where
  pub place : ℕ
  pub found : place_of n ≡ some place
  pub inside : place < size
  pub answered : (applying n v p).result ≡ outcome 0 0
  pub stored : (applying n v p).lent ≡ set p place (stored_for n v)
  pub own : get_or (applying n v p).lent place 0 ≡ stored_for n v
  pub others : (i : ℕ) → (i ≡ place → ⊥) → get_or (applying n v p).lent i 0 ≡ get_or p i 0
  pub accepted : tested (patch_rows (applying n v p).lent) ≡ outcome 0 0
  -- asked for it, the patch tells the value that was stored
  pub told : holding n (applying n v p).lent ≡ held (outcome 0 0) (value_at place (stored_for n v))

-- A matrix modulation edit that is done: its bus holds source, extended amount and destination, every other byte stays, and the patch
-- afterwards passes its tests.
pub record BusDone (b s a d : ℕ) (p : List ℕ) : Type 0 where
  pub bus : b ≤ 9
  pub seven_bits : a ≤ 127
  pub answered : (applying_bus b s a d p).result ≡ outcome 0 0
  pub stored : (applying_bus b s a d p).lent ≡ with_bus b s a d p
  pub source : get_or (applying_bus b s a d p).lent (source_at b) 0 ≡ s
  pub amount : get_or (applying_bus b s a d p).lent (amount_at b) 0 ≡ extended a
  pub destination : get_or (applying_bus b s a d p).lent (destination_at b) 0 ≡ d
  pub others : (i : ℕ) → (i ≡ source_at b → ⊥) → (i ≡ amount_at b → ⊥) → (i ≡ destination_at b → ⊥)
      → get_or (applying_bus b s a d p).lent i 0 ≡ get_or p i 0
  pub accepted : tested (patch_rows (applying_bus b s a d p).lent) ≡ outcome 0 0
