-- A lookup's answer as a byte is the definition's, 255 where there is none.
use mathlib.Core.Path.{◌≡◌, refl, sym, ap, ◌∙◌}
use mathlib.Core.Option.{Option, none, some}
use Prim.Native.Nat.{ℕ}
use Rattle.fields.specs.code.Lookups.{found_place, found_parameter, or_none}
use Rattle.std.specs.Prelude.{Option as Maybe, Some, None}
use Rattle.fields.specs.declared.BytePlace.{BytePlace}
use Rattle.fields.specs.declared.Parameter.{Parameter}

-- What was found, f, is the case g, and what the definition finds.
told : {F : Type 0} (byte_of : F → ℕ) (found : Option ℕ → F) → ((o : Option ℕ) → byte_of (found o) ≡ or_none o)
    → (o : Option ℕ) (f g : F) → f ≡ g → f ≡ found o → byte_of g ≡ or_none o
told byte_of found same o f g e q = sym (ap byte_of e) ∙ ap byte_of q ∙ same o

abbrev pub place_byte : Maybe BytePlace → ℕ
place_byte (Some r) = r.0
place_byte None = 255

place_byte_at : (o : Option ℕ) → place_byte (found_place o) ≡ or_none o
place_byte_at none = refl
place_byte_at (some k) = refl

pub place_told : (o : Option ℕ) (f g : Maybe BytePlace) → f ≡ g → f ≡ found_place o → place_byte g ≡ or_none o
place_told = told place_byte found_place place_byte_at

abbrev pub parameter_byte : Maybe Parameter → ℕ
parameter_byte (Some r) = r.0
parameter_byte None = 255

parameter_byte_at : (o : Option ℕ) → parameter_byte (found_parameter o) ≡ or_none o
parameter_byte_at none = refl
parameter_byte_at (some n) = refl

pub parameter_told : (o : Option ℕ) (f g : Maybe Parameter) → f ≡ g → f ≡ found_parameter o → parameter_byte g ≡ or_none o
parameter_told = told parameter_byte found_parameter parameter_byte_at
