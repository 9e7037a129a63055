-- What the values of a field are read as.
use Rattle.std.proofs.Common.{◌≡◌, ℕ, Option, None, Some, option_and_then, option_map, refl, ap, ◌∙◌}
use Rattle.std.proofs.lemmas.Option.{none-some, option_and_then_some}
use Rattle.protobuf_model.specs.Types.{sized, Kind, nested, Part, Label, one, many, keyed}
use Rattle.text_model.specs.Schemas.{Names, Schema}
use Rattle.text_model.specs.Value.{wanted_in, wanted_of}

-- the kind of the values of a field: a map's are its entries
abbrev pub kind_of : Names → ℕ → Part → Label → Kind
kind_of names n part (keyed key) = nested sized (names.entry n)
kind_of names n part _ = part.kind

pub wanted_is : (w : Schema) (names : Names) (n : ℕ) (part : Part) (l : Label)
    → wanted_of w names n part l ≡ wanted_in w (names.enum_number n) (kind_of names n part l)
wanted_is w names n part one = refl
wanted_is w names n part (many packed) = refl
wanted_is w names n part (keyed key) = refl

pub mapped : {X Y P : Type 0} (f : X → Y) (o : Option X) (y : Y) → option_map f o ≡ Some y → ((x : X) → o ≡ Some x → f x ≡ y → P) → P
mapped f (Some x) y e give = give x refl (let same : f x ≡ y = cc in same)
mapped f None y e give = absurd (none-some y e)

-- what the first gives the second gives too
abbrev pub Follows : {X : Type 0} → Option X → Option X → Type 0
Follows o p = (x : _) → o ≡ Some x → p ≡ Some x

pub follows_then : {X Y : Type 0} (f g : X → Option Y) (o p : Option X) → Follows o p → ((x : X) → o ≡ Some x → Follows (f x) (g x))
    → Follows (option_and_then f o) (option_and_then g p)
follows_then f g o p h each y e = option_and_then_some f o y e (λ x here found. ap (option_and_then g) (h x here) ∙ each x here y found)

pub follows_map : {X Y : Type 0} (f : X → Y) (o p : Option X) → Follows o p → Follows (option_map f o) (option_map f p)
follows_map f o p h y e = mapped f o y e (λ x here same. ap (option_map f) (h x here) ∙ ap Some same)
